-- The bench program byte by byte: what each byte of the input and its end do, and all that is printed from there on.
use Rattle.std.specs.Prelude.{ℕ, List, [], ◌∷◌, ◌++◌, eqb}
use Rattle.rules.specs.declared.Size.{Size}
use Rattle.rules.specs.Choice.{pick}
use Rattle.rules.specs.Memory.{Memory}
use Rattle.gathering.specs.Gather.{nothing_yet, is_nothing, push_of, line_in}
use Rattle.benchline.specs.Bench.{Done, line_done}
use Rattle.benchwork.specs.declared.Progress.{Progress}
use Rattle.benchwork.specs.Whole.{fresh_bench}

-- what a byte leaves, and what it prints
pub record Stepped : Type 0 where
  pub progress : Progress
  pub memory : Memory
  pub prints : List ℕ

unfoldable pub fresh_progress : Size → Progress
fresh_progress s = record { bench = fresh_bench s; gather = nothing_yet }

-- the line is done, and the next one starts
unfoldable pub line_ended : Done → Stepped
line_ended d = record { progress = record { bench = d.bench; gather = nothing_yet }; memory = d.memory; prints = d.prints }

unfoldable pub byte_added : Memory → Progress → ℕ → Stepped
byte_added m s x = record { progress = record { bench = s.bench; gather = push_of s.gather x }; memory = m; prints = [] }

unfoldable pub stepped : Memory → Progress → ℕ → Stepped
stepped m s x = pick (eqb x 10) (line_ended (line_done m s.bench (line_in s.gather))) (byte_added m s x)

-- what the end of the input prints: the last line's row, if bytes of it are there
unfoldable pub ended : Memory → Progress → List ℕ
ended m s = pick (is_nothing s.gather) [] (line_done m s.bench (line_in s.gather)).prints

unfoldable pub printed_from : Memory → Progress → List ℕ → List ℕ
printed_from m s [] = ended m s
printed_from m s (x ∷ xs) = (stepped m s x).prints ++ printed_from (stepped m s x).memory (stepped m s x).progress xs
