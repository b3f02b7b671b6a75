-- The output of the paper's example, worked by the definitions.
use Rattle.rules.specs.Choice.{pick}
use Prim.Native.Nat.{ℕ}
use Prim.Native.Char.{code}
use Prim.Native.String.{String, [] as []ˢ, ◌∷◌ as ◌∷ˢ◌}
use mathlib.Core.Path.{◌≡◌, refl}
use mathlib.Core.List.{List, [], ◌∷◌}
use Rattle.rowtext.specs.Digits.{octals, octal6, decimals, decimal}
use Rattle.rowtext.specs.Row.{address_text, row_of, bad_of, header_of}
use Rattle.std.specs.Prelude.{Some, None}

-- the bytes of a text
bytes : String → List ℕ
bytes []ˢ = []
bytes (c ∷ˢ s) = code c ∷ bytes s

output : (header_of ≡ bytes "CALL\tANS\tDATA\tPHYS\tKTCS\n")
    × (row_of 1 0 0 (Some 0o777616) 0 ≡ bytes "1\t0\t000000\t777616\t000000\n")
    × (row_of 2 0 0 (Some 0o777576) 0o2 ≡ bytes "2\t0\t000000\t777576\t000002\n")
    × (row_of 3 0 0o123 (Some 0o2004) 0o12 ≡ bytes "3\t0\t000123\t002004\t000012\n")
    × (row_of 4 4 0 None 0o40012 ≡ bytes "4\t4\t000000\t-\t040012\n")
    × (bad_of 17 ≡ bytes "BAD\t17\n")
unfolding header_of row_of bad_of address_text octal6 octals decimal decimals bytes pick
output = (refl, refl, refl, refl, refl, refl)
