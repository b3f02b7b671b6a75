-- What is said on standard error where no unit is made.
use Rattle.std.specs.Prelude.{ℕ, List, ◌++◌, None}
use Rattle.rules.specs.declared.Size.TheVariants.{Eight, TwentyFour}
use Rattle.rules.specs.Unit.{count_of}
use Rattle.rules.specs.Answers.{making_shown}
use Rattle.rowtext.specs.Digits.{decimal}
use Rattle.arguments.specs.Text.{bytes_of, option_text}
use Rattle.arguments.specs.declared.ArgumentError.{ArgumentError}
use Rattle.arguments.specs.declared.ArgumentError.TheVariants.{OtherCount, BadUsage}

-- the refusal by its number, and the numbers that are not refused
unfoldable pub refusal_text : List ℕ
refusal_text =
    bytes_of "bench: " ++ decimal (making_shown None).number ++ bytes_of ": a unit is made with "
    ++ decimal (count_of Eight) ++ bytes_of " or " ++ decimal (count_of TwentyFour) ++ bytes_of " cells\n"

unfoldable pub usage_text : List ℕ
usage_text = bytes_of "bench: usage: bench [" ++ option_text ++ bytes_of " N]\n"

unfoldable pub message_of : ArgumentError → List ℕ
message_of OtherCount = refusal_text
message_of BadUsage = usage_text
