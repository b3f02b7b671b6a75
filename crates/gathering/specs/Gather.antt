-- A line gathered byte by byte into 40 bytes, and what it asks for. Of a line that is longer the first 40 stay: `Err`.
use Rattle.std.specs.Prelude.{ℕ, Bool, false, Option, None, Result, Ok, Err, List, [], ◌∷◌, ◌++◌, length, eqb, ltb}
use Rattle.rules.specs.Choice.{pick}
use Rattle.linetext.specs.Line.{line_of}
use Rattle.linetext.specs.declared.Line.{Line}

abbrev pub Gathered : Type 0
Gathered = Result (List ℕ) (List ℕ)

-- no byte of a line yet
unfoldable pub nothing_yet : Gathered
nothing_yet = Ok []

unfoldable pub is_nothing : Gathered → Bool
is_nothing (Ok s) = eqb (length s) 0
is_nothing (Err s) = false

-- a byte goes behind the others, or makes the line too long: then it is dropped, and those that are there stay
unfoldable pub push_of : Gathered → ℕ → Gathered
push_of (Ok s) b = pick (ltb (length s) 40) (Ok (s ++ b ∷ [])) (Err s)
push_of (Err s) b = Err s

-- one byte after the other
unfoldable pub push_all : Gathered → List ℕ → Gathered
push_all g [] = g
push_all g (b ∷ s) = push_all (push_of g b) s

-- what stands in the gather after the bytes of a whole line
unfoldable pub gathered : List ℕ → Gathered
gathered s = push_all nothing_yet s

-- a line that was too long is bad
unfoldable pub line_in : Gathered → Option Line
line_in (Ok s) = line_of s
line_in (Err s) = None
