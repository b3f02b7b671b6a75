-- The whole output of a whole input.
use Rattle.std.specs.Prelude.{ℕ, List, [], ◌∷◌, ◌++◌, replicate, eqb}
use Rattle.rules.specs.declared.Size.{Size}
use Rattle.rules.specs.Choice.{pick}
use Rattle.rules.specs.Memory.{Memory}
use Rattle.rules.specs.Calls.{fresh}
use Rattle.fieldtext.specs.Cut.{onto}
use Rattle.linetext.specs.Line.{line_of}
use Rattle.rowtext.specs.Row.{header_of}
use Rattle.tally.specs.declared.Bench.{Bench}
use Rattle.benchline.specs.Bench.{line_done}

-- each newline, byte 10, ends a line; a last line without one counts
unfoldable pub lines_of : List ℕ → List (List ℕ)
lines_of [] = []
lines_of (b ∷ s) = pick (eqb b 10) ([] ∷ lines_of s) (onto b (lines_of s))

-- what lines print, one after the other
unfoldable pub printed : Memory → Bench → List (List ℕ) → List ℕ
printed m b [] = []
printed m b (l ∷ ls) = (line_done m b (line_of l)).prints ++ printed (line_done m b (line_of l)).memory (line_done m b (line_of l)).bench ls

-- "It has 65,536 bytes of zeroed memory and a fresh unit.", which is of either size
unfoldable pub bench_memory : Memory
bench_memory = replicate 65536 0

unfoldable pub fresh_bench : Size → Bench
fresh_bench s = record { unit = fresh s; calls = 0; lines = 0 }

-- the header is there even when the input is empty
unfoldable pub output_of : Size → List ℕ → List ℕ
output_of s input = header_of ++ printed bench_memory (fresh_bench s) (lines_of input)
