-- What a whole line asks for.
use Rattle.std.specs.Prelude.{ℕ, ◌%◌, ◌&&◌, Option, Some, None, List, [], ◌∷◌, length, get_or, eqb}
use Rattle.rules.specs.Choice.{pick}
use Rattle.fieldtext.specs.Cut.{fields}
use Rattle.fieldtext.specs.Number.{worth, numbers}
use Rattle.linetext.specs.declared.Line.{Line}
use Rattle.linetext.specs.declared.Line.TheVariants.{Store, Access, Interrupt, Trap, Init}

-- the number in field k
abbrev pub the : List (List ℕ) → ℕ → ℕ
the fs k = worth (get_or fs k [])

-- "`W` address value (even, one memory word)"
unfoldable pub store_of : List (List ℕ) → Option Line
store_of fs = pick (numbers 2 fs && eqb (the fs 0 % 2) 0) (Some (Store (the fs 0) (the fs 1))) None

-- "`A` operation state width address data"
unfoldable pub access_of : List (List ℕ) → Option Line
access_of fs =
    pick (numbers 5 fs)
    (Some (Access (record { op = the fs 0; state = the fs 1; width = the fs 2; addr = the fs 3; datum = the fs 4 })))
    None

-- "`T` vector"
unfoldable pub trap_of : List (List ℕ) → Option Line
trap_of fs = pick (numbers 1 fs) (Some (Trap (the fs 0))) None

-- "`I` (interrupt)", "`X` (INIT)": the letter alone
unfoldable pub alone_of : Line → List (List ℕ) → Option Line
alone_of l fs = pick (numbers 0 fs) (Some l) None

-- by the letter's byte: W, A, I, T, X
unfoldable pub by_letter : ℕ → List (List ℕ) → Option Line
by_letter b fs =
    pick (eqb b 87) (store_of fs)
    (pick (eqb b 65) (access_of fs)
    (pick (eqb b 73) (alone_of Interrupt fs)
    (pick (eqb b 84) (trap_of fs) (pick (eqb b 88) (alone_of Init fs) None))))

-- the first field is one letter
unfoldable pub by_name : List ℕ → List (List ℕ) → Option Line
by_name name fs = pick (eqb (length name) 1) (by_letter (get_or name 0 0) fs) None

unfoldable pub from_fields : List (List ℕ) → Option Line
from_fields [] = None
from_fields (name ∷ fs) = by_name name fs

unfoldable pub line_of : List ℕ → Option Line
line_of s = from_fields (fields s)
