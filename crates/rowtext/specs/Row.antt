-- The lines of the output: the header, a call's row and a bad line.
use Rattle.std.specs.Prelude.{ℕ, List, [], ◌∷◌, ◌++◌, Option, Some, None}
use Rattle.rowtext.specs.Digits.{octal6, decimal}

abbrev pub tab : List ℕ
tab = 9 ∷ []

abbrev pub newline : List ℕ
newline = 10 ∷ []

-- "physical (six digits each, or `-`)"
unfoldable pub address_text : Option ℕ → List ℕ
address_text (Some p) = octal6 p
address_text None = 45 ∷ []

-- "Each call prints its decimal number, answer, data, physical (six digits each, or `-`) and KTCS."
unfoldable pub row_of : ℕ → ℕ → ℕ → Option ℕ → ℕ → List ℕ
row_of call answer datum physical ktcs =
    decimal call ++ tab ++ decimal answer ++ tab ++ octal6 datum ++ tab ++ address_text physical ++ tab ++ octal6 ktcs ++ newline

-- "A bad line prints `BAD`, tab, its decimal line number."
unfoldable pub bad_of : ℕ → List ℕ
bad_of number = 66 ∷ 65 ∷ 68 ∷ tab ++ decimal number ++ newline

-- CALL ANS DATA PHYS KTCS, with tabs between
unfoldable pub header_of : List ℕ
header_of =
    67 ∷ 65 ∷ 76 ∷ 76 ∷ tab
    ++ 65 ∷ 78 ∷ 83 ∷ tab
    ++ 68 ∷ 65 ∷ 84 ∷ 65 ∷ tab
    ++ 80 ∷ 72 ∷ 89 ∷ 83 ∷ tab
    ++ 75 ∷ 84 ∷ 67 ∷ 83 ∷ newline
