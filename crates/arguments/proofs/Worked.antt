-- What some arguments ask for, worked by the definition.
use Prim.Native.String.{String}
use mathlib.Core.Path.{◌≡◌, refl}
use mathlib.Core.List.{[]}
use Rattle.std.specs.Prelude.{Result, Ok, Err}
use Rattle.rules.specs.declared.Size.{Size}
use Rattle.rules.specs.declared.Size.TheVariants.{Eight, TwentyFour}
use Rattle.rules.specs.Choice.{pick}
use Rattle.rules.specs.Unit.{size_of}
use Rattle.fieldtext.specs.Number.{is_digit, all_digits, worth_from, are_digits, digits_of, decimal_of}
use Rattle.arguments.specs.Text.{bytes_of, option_text}
use Rattle.arguments.specs.Asked.{with_cells, by_count, asked_for}
use Rattle.arguments.specs.declared.ArgumentError.{ArgumentError}
use Rattle.arguments.specs.declared.ArgumentError.TheVariants.{OtherCount, BadUsage}

-- an option and its value, and nothing else
asks : String → String → Result Size ArgumentError
asks option count = asked_for 3 (bytes_of option) (bytes_of count)

none-asked : asked_for 1 [] [] ≡ Ok Eight
unfolding asked_for with_cells size_of pick
none-asked = refl

made : (asks "--cells" "8" ≡ Ok Eight) × (asks "--cells" "24" ≡ Ok TwentyFour) × (asks "--cells" "000000024" ≡ Ok TwentyFour)
unfolding asks asked_for with_cells by_count decimal_of digits_of are_digits all_digits is_digit worth_from option_text bytes_of size_of pick
made = (refl, refl, refl)

-- decimal numbers, and not octal ones: 010 is ten; 65544 is 8 more than 200000o
other_count : (asks "--cells" "0" ≡ Err OtherCount) × (asks "--cells" "010" ≡ Err OtherCount) × (asks "--cells" "65544" ≡ Err OtherCount)
    × (asks "--cells" "999999999" ≡ Err OtherCount)
unfolding asks asked_for with_cells by_count decimal_of digits_of are_digits all_digits is_digit worth_from option_text bytes_of size_of pick
other_count = (refl, refl, refl, refl)

-- ten digits, none, another byte, another option, another number of words
bad_usage : (asks "--cells" "0000000008" ≡ Err BadUsage) × (asks "--cells" "" ≡ Err BadUsage) × (asks "--cells" "8x" ≡ Err BadUsage)
    × (asks "--cell" "8" ≡ Err BadUsage) × (asks "--cells=8" "8" ≡ Err BadUsage) × (asked_for 2 (bytes_of "--cells") [] ≡ Err BadUsage)
    × (asked_for 4 (bytes_of "--cells") (bytes_of "8") ≡ Err BadUsage)
unfolding asks asked_for with_cells by_count decimal_of digits_of are_digits all_digits is_digit worth_from option_text bytes_of size_of pick
bad_usage = (refl, refl, refl, refl, refl, refl, refl)
