-- The theorem of the output: what is printed byte by byte is the whole output of the whole input, whatever the input and the unit's size.
use Prim.Native.Nat.{ℕ}
use mathlib.Core.Path.{◌≡◌, refl, ap, sym, ◌∙◌}
use mathlib.Core.Bool.{Bool, true, false}
use mathlib.Core.List.{List, [], ◌∷◌, ◌++◌, append-nil}
use native.Mathlib.Omega.{arith}
use lib.ListN.{length, length-append}
use lib.Dec.{eqb, ltb}
use borrow.Author.Tests.{ne_eqb}
use Rattle.std.specs.Prelude.{Ok, Err}
use Rattle.rules.specs.declared.Size.{Size}
use Rattle.rules.specs.Choice.{pick}
use Rattle.rules.specs.Memory.{Memory}
use Rattle.rules.proofs.Laws.Choices.{picked}
use Rattle.fieldtext.specs.Cut.{onto}
use Rattle.linetext.specs.Line.{line_of}
use Rattle.gathering.specs.Gather.{Gathered, nothing_yet, is_nothing, push_of, push_all, gathered}
use Rattle.gathering.proofs.Whole.{whole}
use Rattle.rowtext.specs.Row.{header_of}
use Rattle.tally.specs.declared.Bench.{Bench}
use Rattle.benchline.specs.Bench.{Done, line_done}
use Rattle.benchwork.specs.declared.Progress.{Progress}
use Rattle.benchwork.specs.Whole.{lines_of, printed, bench_memory, fresh_bench, output_of}
use Rattle.benchwork.specs.Bytes.{Stepped, fresh_progress, line_ended, byte_added, stepped, ended, printed_from}

-- A gather that was pushed into ------------------------------------------------------------------------------------------

push_last : (g : Gathered) (p : List ℕ) (x : ℕ) → push_all g (p ++ x ∷ []) ≡ push_of (push_all g p) x
unfolding push_all
push_last g [] x = refl
push_last g (b ∷ p) x = push_last (push_of g b) p x

-- is not empty
push_some : (g : Gathered) (x : ℕ) → is_nothing (push_of g x) ≡ false
unfolding push_of is_nothing
push_some (Ok s) x =
    picked (λ (h : Gathered). is_nothing h ≡ false) (ltb (length s) 40) _ _
    (λ e. let longer = length-append s (x ∷ []) in ne_eqb (length (s ++ x ∷ [])) 0 (λ z. omega arith))
    (λ e. refl)
push_some (Err s) x = refl

-- and stays so
some_stays : (g : Gathered) (s : List ℕ) → is_nothing g ≡ false → is_nothing (push_all g s) ≡ false
unfolding push_all
some_stays g [] h = h
some_stays g (b ∷ s) h = some_stays (push_of g b) s (push_some g b)

gathered-some : (x : ℕ) (p : List ℕ) → is_nothing (gathered (x ∷ p)) ≡ false
unfolding gathered push_all
gathered-some x p = some_stays (push_of nothing_yet x) p (push_some nothing_yet x)

-- Lines of which a part was read -----------------------------------------------------------------------------------------

-- the lines of s, with the bytes p, none of them a newline, before the first
lines_from : List ℕ → List ℕ → List (List ℕ)
lines_from [] s = lines_of s
lines_from (b ∷ p) s = onto b (lines_from p s)

newline-ends : (p : List ℕ) (x : ℕ) (s : List ℕ) → eqb x 10 ≡ true → lines_from p (x ∷ s) ≡ p ∷ lines_of s
unfolding lines_from lines_of pick onto
newline-ends [] x s e = simp e
newline-ends (b ∷ p) x s e = ap (onto b) (newline-ends p x s e)

other_joins : (p : List ℕ) (x : ℕ) (s : List ℕ) → eqb x 10 ≡ false → lines_from p (x ∷ s) ≡ lines_from (p ++ x ∷ []) s
unfolding lines_from lines_of pick
other_joins [] x s e = simp e
other_joins (b ∷ p) x s e = ap (onto b) (other_joins p x s e)

end_ends : (b : ℕ) (p : List ℕ) → lines_from (b ∷ p) [] ≡ (b ∷ p) ∷ []
unfolding lines_from lines_of onto
end_ends b [] = refl
end_ends b (x ∷ p) = ap (onto b) (end_ends x p)

-- The output -------------------------------------------------------------------------------------------------------------

-- a line that the end of the input ends
last_line :
    (m : Memory) (b : Bench) (x : ℕ) (p : List ℕ)
    → ended m (record { bench = b; gather = gathered (x ∷ p) }) ≡ printed m b ((x ∷ p) ∷ [])
unfolding ended printed pick
last_line m b x p =
    simp (gathered-some x p, whole (x ∷ p), append-nil)

module _ (m : Memory) (b : Bench) (p : List ℕ) (x : ℕ) where
  -- the bench, with the bytes p of a line gathered
  amid : Progress
  amid = record { bench = b; gather = gathered p }

  line_step : eqb x 10 ≡ true → stepped m amid x ≡ line_ended (line_done m b (line_of p))
  unfolding stepped pick amid
  line_step e = simp (e, whole p)

  byte_step : eqb x 10 ≡ false → stepped m amid x ≡ byte_added m amid x
  unfolding stepped pick
  byte_step e = simp e

-- from any byte on, with the bytes p of a line gathered
from_bytes :
    (s : List ℕ) (m : Memory) (b : Bench) (p : List ℕ)
    → printed_from m (record { bench = b; gather = gathered p }) s ≡ printed m b (lines_from p s)
unfolding printed_from ended is_nothing gathered push_all nothing_yet lines_from lines_of printed pick line_ended byte_added amid
from_bytes [] m b [] = refl
from_bytes [] m b (x ∷ p) = last_line m b x p ∙ ap (printed m b) (sym (end_ends x p))
from_bytes (x ∷ s) m b p = by (λ m b p. from_bytes s m b p) (eqb x 10) refl
  where
    after : Stepped → List ℕ
    after t = t.prints ++ printed_from t.memory t.progress s

    done : Done
    done = line_done m b (line_of p)

    Rest : Type 0
    Rest = (m : Memory) (b : Bench) (p : List ℕ) → printed_from m (record { bench = b; gather = gathered p }) s ≡ printed m b (lines_from p s)

    by : Rest → (t : Bool) → eqb x 10 ≡ t → after (stepped m (amid m b p x) x) ≡ printed m b (lines_from p (x ∷ s))
    by rest true e =
        ap after (line_step m b p x e)
        ∙ ap (λ (o : List ℕ). done.prints ++ o) (rest done.memory done.bench [])
        ∙ ap (printed m b) (sym (newline-ends p x s e))
    by rest false e =
        ap after (byte_step m b p x e)
        ∙ ap (λ (g : Gathered). printed_from m (record { bench = b; gather = g }) s) (sym (push_last nothing_yet p x))
        ∙ rest m b (p ++ x ∷ [])
        ∙ ap (printed m b) (sym (other_joins p x s e))

-- whatever the input, and with a unit of either size
pub whole_output : (s : Size) (input : List ℕ) → header_of ++ printed_from bench_memory (fresh_progress s) input ≡ output_of s input
unfolding output_of fresh_progress gathered push_all lines_from
whole_output s input = ap (λ (o : List ℕ). header_of ++ o) (from_bytes input bench_memory (fresh_bench s) [])
