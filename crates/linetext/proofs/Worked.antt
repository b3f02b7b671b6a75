-- The lines of the paper's example, each other sort of line, and lines that are bad, worked by the definition.
use Rattle.rules.specs.Choice.{pick}
use Prim.Native.Nat.{ℕ}
use Prim.Native.Char.{code}
use Prim.Native.String.{String, [] as []ˢ, ◌∷◌ as ◌∷ˢ◌}
use mathlib.Core.Path.{◌≡◌, refl}
use mathlib.Core.List.{List, [], ◌∷◌}
use Rattle.std.specs.Prelude.{Option, Some, None}
use Rattle.fieldtext.specs.Cut.{fields, onto}
use Rattle.fieldtext.specs.Number.{is_digit, all_digits, worth_from, are_digits, worth, is_number, all_numbers, numbers}
use Rattle.linetext.specs.Line.{store_of, access_of, trap_of, alone_of, by_letter, by_name, from_fields, line_of}
use Rattle.linetext.specs.declared.Line.{Line}
use Rattle.linetext.specs.declared.Line.TheVariants.{Store, Access, Interrupt, Trap, Init}

-- what the bytes of a text ask for
asks : String → Option Line
asks t = line_of (bytes t)
  where
    bytes : String → List ℕ
    bytes []ˢ = []
    bytes (c ∷ˢ s) = code c ∷ bytes s

good : (asks "W\t001402\t160002" ≡ Some (Store 0o1402 0o160002))
    × (asks "A\t2\t2\t0\t177616\t177001" ≡ Some (Access (record { op = 2; state = 2; width = 0; addr = 0o177616; datum = 0o177001 })))
    × (asks "A\t0\t2\t0\t001005\t000000" ≡ Some (Access (record { op = 0; state = 2; width = 0; addr = 0o1005; datum = 0 })))
    × (asks "I" ≡ Some Interrupt)
    × (asks "T\t14" ≡ Some (Trap 0o14))
    × (asks "X" ≡ Some Init)
unfolding asks line_of from_fields by_name by_letter store_of access_of trap_of alone_of numbers all_numbers is_number worth worth_from are_digits all_digits is_digit fields onto pick
good = (refl, refl, refl, refl, refl, refl)

-- an empty line, another letter, too few and too many fields, a tab at the end
bad_fields : (asks "" ≡ None) × (asks "Q" ≡ None) × (asks "W\t2" ≡ None) × (asks "T\t4\t4" ≡ None) × (asks "T\t4\t" ≡ None) × (asks "I\t" ≡ None)
unfolding asks line_of from_fields by_name by_letter store_of access_of trap_of alone_of numbers all_numbers is_number worth worth_from are_digits all_digits is_digit fields onto pick
bad_fields = (refl, refl, refl, refl, refl, refl)

-- a digit 8, a seventh digit, a number above 177777, an odd address to store at, a blank, a carriage return
bad_numbers : (asks "T\t18" ≡ None) × (asks "T\t0000004" ≡ None) × (asks "T\t200000" ≡ None) × (asks "W\t3\t0" ≡ None) × (asks "T\t 4" ≡ None) × (asks "X\r" ≡ None)
unfolding asks line_of from_fields by_name by_letter store_of access_of trap_of alone_of numbers all_numbers is_number worth worth_from are_digits all_digits is_digit fields onto pick
bad_numbers = (refl, refl, refl, refl, refl, refl)
