-- What the arguments ask for: "The count is an argument of the program `bench` (its absence is 8), and it is the proved `size_of` that refuses." (T-08)
use Rattle.std.specs.Prelude.{ℕ, ◌&&◌, List, Option, Some, None, Result, Err, eqb, ltb, bytes_eq}
use Rattle.std.specs.Option.{ok_or}
use Rattle.rules.specs.Choice.{pick}
use Rattle.rules.specs.declared.Size.{Size}
use Rattle.rules.specs.Unit.{size_of}
use Rattle.fieldtext.specs.Number.{decimal_of}
use Rattle.arguments.specs.Text.{option_text}
use Rattle.arguments.specs.declared.ArgumentError.{ArgumentError}
use Rattle.arguments.specs.declared.ArgumentError.TheVariants.{OtherCount, BadUsage}

-- a unit with n cells, if one is made with them
unfoldable pub with_cells : ℕ → Result Size ArgumentError
with_cells n = ok_or (size_of n) OtherCount

-- "anything but such digits is bad usage" (T-08)
unfoldable pub by_count : Option ℕ → Result Size ArgumentError
by_count (Some n) = with_cells n
by_count None = Err BadUsage

-- By how many words the program was started with, its own name among them, and the two after its name: "`--cells` without a value, twice, .. is bad
-- usage" (T-08)
unfoldable pub asked_for : ℕ → List ℕ → List ℕ → Result Size ArgumentError
asked_for words option count =
    pick (ltb words 2) (with_cells 8) (pick (eqb words 3 && bytes_eq option option_text) (by_count (decimal_of count)) (Err BadUsage))
