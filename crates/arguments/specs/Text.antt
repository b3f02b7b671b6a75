-- Texts as lists of bytes.
use Rattle.std.specs.Prelude.{ℕ, List, [], ◌∷◌}
use Prim.Native.Char.{code}
use Prim.Native.String.{String, [] as []ˢ, ◌∷◌ as ◌∷ˢ◌}

unfoldable pub bytes_of : String → List ℕ
bytes_of []ˢ = []
bytes_of (c ∷ˢ s) = code c ∷ bytes_of s

-- "`./kt11b [--cells N] [FILE ..]`. .. The count is an argument of the program `bench`" (T-08)
unfoldable pub option_text : List ℕ
option_text = bytes_of "--cells"
