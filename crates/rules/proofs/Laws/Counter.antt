-- The counter names a cell, and stays so: under a look-up, a run of the steps and an effect.
use Prim.Native.Nat.{ℕ, ◌+◌, ◌-◌, ◌≤◌, ◌<◌}
use mathlib.Core.Path.{◌≡◌, ap, ◌∙◌}
use mathlib.Core.Bool.{Bool}
use native.Mathlib.Omega.{arith}
use lib.Dec.{ltb}
use lib.ListN.{length, length-set, length-map, length-replicate}
use borrow.Author.Tests.{ltb-true}
use Rattle.std.specs.Prelude.{Option, Some, None}
use Rattle.rules.specs.Types.{Maps, Cells, Part, Walked, Looked, Effect}
use Rattle.rules.specs.Memory.{Memory}
use Rattle.rules.specs.Unit.{count_of, room, there, empty_cell, emptied}
use Rattle.rules.specs.Registers.{pad_stored}
use Rattle.rules.specs.Maps.{exec_zero, walk_of, tag_of, cell_of, stepped, filled, filled_by, missed, sought_in, looked, cell_forgotten, forgotten}
use Rattle.rules.specs.Program.{Prog, done, ask, peek, run}
use Rattle.rules.specs.Calls.{cells_after}
use Rattle.rules.proofs.Laws.Choices.{picked}
use Rattle.rules.proofs.Laws.CellsLaws.{there-filled, there-stored, there-forgotten, there-emptied}
use Rattle.rules.proofs.Promises.{NamesCell}

module _ (n : ℕ) where
  pub emptied-names : (k : Cells) → count_of k.size ≡ n → length (there k) ≡ n → length k.list ≡ room → 0 < n → NamesCell n (emptied k)
  unfolding emptied
  emptied-names k s e l some =
      record {
        size = s;
        number = ap length (there-emptied k) ∙ length-replicate (length (there k)) empty_cell ∙ e;
        listed = length-replicate (length k.list) empty_cell ∙ l;
        from = omega arith;
        below = omega arith;
      }

  pub forgotten-names : (k : Cells) (tag : ℕ) → NamesCell n k → NamesCell n (forgotten k tag)
  unfolding forgotten
  forgotten-names k tag h =
      record {
        size = h.size;
        number = ap length (there-forgotten k tag) ∙ length-map (there k) (cell_forgotten tag) ∙ h.number;
        listed = length-map k.list (cell_forgotten tag) ∙ h.listed;
        from = h.from;
        below = h.below;
      }

  pub pad_stored-names : (k : Cells) (i : ℕ) (p : Part) (v : ℕ) → NamesCell n k → NamesCell n (pad_stored k i p v)
  unfolding pad_stored
  pad_stored-names k i p v h =
      record {
        size = h.size;
        number = ap length (there-stored k i p v) ∙ length-set (there k) i _ ∙ h.number;
        listed = length-set k.list i _ ∙ h.listed;
        from = h.from;
        below = h.below;
      }

  pub filled-names : (k : Cells) (tag w : ℕ) → NamesCell n k → NamesCell n (filled k tag w)
  unfolding filled stepped
  filled-names k tag w h =
      let (from, below) = steps in
      record {
        size = h.size;
        number = ap length (there-filled k tag w) ∙ length-set (there k) (k.counter - 0o10) _ ∙ h.number;
        listed = length-set k.list (k.counter - 0o10) _ ∙ h.listed;
        from = from;
        below = below;
      }
    where
      steps : (0o10 ≤ (filled k tag w).counter) × ((filled k tag w).counter < 0o10 + n)
      steps =
          rw h.size
          (picked (λ (x : ℕ). (0o10 ≤ x) × (x < 0o10 + n)) (ltb k.counter (0o7 + n)) _ _
          (λ t. omega (arith, h.from, ltb-true k.counter (0o7 + n) t)) (λ t. omega (arith, h.from, h.below)))

  filled_by-names : (k : Cells) (tag : ℕ) (w : Option Walked) → NamesCell n k → NamesCell n (filled_by k tag w)
  unfolding filled_by
  filled_by-names k tag (Some w) h = filled-names k tag w.word h
  filled_by-names k tag None h = h

  sought_names :
      (m : Memory) (r : Maps) (user : Bool) (p : ℕ) (k : Cells) (f : Option ℕ) → NamesCell n k → NamesCell n (sought_in m r user p k f).cells
  unfolding sought_in missed
  sought_names m r user p k (Some i) h = h
  sought_names m r user p k None h = filled_by-names k (tag_of user p) (walk_of m r user p) h

  looked-names : (m : Memory) (r : Maps) (user : Bool) (p : ℕ) (k : Cells) → NamesCell n k → NamesCell n (looked m r user p k).cells
  unfolding looked
  looked-names m r user p k h =
      picked (λ (l : Looked). NamesCell n l.cells) (exec_zero user p) _ _ (λ t. h)
      (λ t. sought_names m r user p k (cell_of k (tag_of user p)) h)

  pub run-names : (m : Memory) (r : Maps) (p : Prog) (k : Cells) → NamesCell n k → NamesCell n (run m r p k).cells
  unfolding run
  run-names m r (done o) k h = h
  run-names m r (ask user p f) k h =
      run-names m r (f (looked m r user p k).entry) (looked m r user p k).cells (looked-names m r user p k h)
  run-names m r (peek g f) k h = run-names m r (f _) k h

  pub effect-names : (e : Effect) (k : Cells) → NamesCell n k → NamesCell n (cells_after e k)
  unfolding cells_after
  effect-names Effect.Keep k h = h
  effect-names (Effect.Forget tag) k h = forgotten-names k tag h
  effect-names (Effect.Reload r) k h = emptied-names k h.size h.number h.listed (omega (arith, h.from, h.below))
  effect-names (Effect.StoreWord at v) k h = h
  effect-names (Effect.StoreByte at v) k h = h
  effect-names (Effect.StorePad i p v) k h = pad_stored-names k i p v h
