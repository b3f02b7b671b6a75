-- Making a unit, how many cells it has, and that what stands past them is not seen.
use Prim.Native.Nat.{ℕ, ◌+◌, ◌-◌, ◌*◌, ◌%◌}
use mathlib.Core.Path.{◌≡◌, refl, sym, ap, ap₂, subst, ◌∙◌}
use mathlib.Core.Bool.{Bool, true, false}
use mathlib.Core.List.{List, map}
use native.Mathlib.Omega.{arith}
use lib.Dec.{eqb}
use lib.ListN.{get_or, set}
use lib.Seq.{get_or-set_same}
use borrow.Author.Tests.{eqb-true, ne_eqb, lt-ltb, le-ltb}
use Rattle.std.specs.Prelude.{Option, Some, None}
use Rattle.rules.specs.Types.{Core, Maps, Cell, Size, Cells, Unit, Associative, Part, Walked, Looked, Effect, Outcome, Ran}
use Rattle.rules.specs.Choice.{pick}
use Rattle.rules.specs.Memory.{Memory}
use Rattle.rules.specs.Unit.{count_of, size_of, there, empty_cell, cell_at, emptied, clear_ktcs, clear_fetch, init_core, zero_unit}
use Rattle.rules.specs.Status.{bit_of, packed}
use Rattle.rules.specs.Registers.{found_from, peeked, pad_stored}
use Rattle.rules.specs.Maps.{exec_zero, exec_zero_entry, walk_of, tag_of, tag_in, cell_of, stepped, filled, filled_by, missed, sought_in, looked, forgotten}
use Rattle.rules.specs.Program.{Prog, done, ask, peek, run}
use Rattle.rules.specs.Order.{outcome}
use Rattle.rules.specs.Answers.{shown_as, making_shown}
use Rattle.rules.specs.Calls.{called, init_of, maps_after, cells_after, memory_after, settled, call_of, fresh}
use Rattle.rules.proofs.Laws.Choices.{picked}
use Rattle.rules.proofs.Laws.CellsLaws.{there-filled, there-stored, there-forgotten, there-emptied}
use Rattle.rules.proofs.Promises.{FreshUnit, MadeOrRefused, CellByCounter, SizeStays, AlikeAfter, AbsentUnseen}

-- Making -------------------------------------------------------------------------------------------------------------------

made_count : (n : ℕ) (s : Size) → size_of n ≡ Some s → count_of s ≡ n
unfolding size_of count_of pick
made_count n s = go (eqb n 8) refl (eqb n 24) refl
  where
    go : (a : Bool) → eqb n 8 ≡ a → (b : Bool) → eqb n 24 ≡ b
        → pick a (Some Size.Eight) (pick b (Some Size.TwentyFour) None) ≡ Some s → count_of s ≡ n
    go true t b u e = let z : Size.Eight ≡ s = cc in rw (← z) (sym (eqb-true n 8 t))
    go false t true u e = let z : Size.TwentyFour ≡ s = cc in rw (← z) (sym (eqb-true n 24 u))
    go false t false u e = absurd (let z : ◌≡◌ {A = ℕ} 0 1 = cc in omega arith)

made_fresh : (s : Size) → FreshUnit s (fresh s)
unfolding fresh call_of settled run called init_of outcome maps_after cells_after zero_unit init_core clear_ktcs clear_fetch emptied empty_cell packed bit_of pick
made_fresh s = record { ktcs = refl; kept = refl; wait = refl; fetch = refl; maps = refl; cells = refl }

pub made_or_refused : MadeOrRefused
unfolding size_of making_shown shown_as pick
made_or_refused =
    record {
      eight = refl;
      of_twenty_four = refl;
      other = λ n a b. simp (ne_eqb n 8 a, ne_eqb n 24 b);
      count = made_count;
      made = λ s. refl;
      refused = refl;
      fresh-unit = made_fresh;
    }

-- The cell that the counter names ------------------------------------------------------------------------------------------

pub cell_by_counter : CellByCounter
unfolding peeked filled stepped pick
cell_by_counter k i tag w e inside =
    let named : k.counter - 0o10 ≡ i = omega (arith, e) in
    let held : cell_at (filled k tag w) i ≡ record { tag = tag; word = w } =
    ap (λ (l : List Cell). get_or l i empty_cell) (there-filled k tag w)
    ∙ rw named (get_or-set_same (there k) i (record { tag = tag; word = w }) empty_cell inside) in
    record {
      cell = held;
      read = ap (λ (c : Cell). c.word) held;
      next = λ h. rw (lt-ltb k.counter (0o7 + count_of k.size) (omega (arith, e, h))) (omega (arith, e));
      round = λ h. rw (le-ltb k.counter (0o7 + count_of k.size) (omega (arith, e, h)));
    }

-- The size stays -----------------------------------------------------------------------------------------------------------

module _ (m : Memory) (r : Maps) where
  looked-size : (user : Bool) (p : ℕ) (k : Cells) → (looked m r user p k).cells.size ≡ k.size
  unfolding looked sought_in missed filled_by filled
  looked-size user p k =
      picked (λ (l : Looked). l.cells.size ≡ k.size) (exec_zero user p) _ _ (λ t. refl) (λ t. sought (cell_of k (tag_of user p)))
    where
      by_walk : (w : Option Walked) → (filled_by k (tag_of user p) w).size ≡ k.size
      by_walk (Some w) = refl
      by_walk None = refl

      sought : (f : Option ℕ) → (sought_in m r user p k f).cells.size ≡ k.size
      sought (Some i) = refl
      sought None = by_walk (walk_of m r user p)

  run-size : (p : Prog) (k : Cells) → (run m r p k).cells.size ≡ k.size
  unfolding run
  run-size (done o) k = refl
  run-size (ask user p f) k = run-size (f (looked m r user p k).entry) (looked m r user p k).cells ∙ looked-size user p k
  run-size (peek g f) k = run-size (f (peeked k g)) k

effect-size : (e : Effect) (k : Cells) → (cells_after e k).size ≡ k.size
unfolding cells_after forgotten emptied pad_stored
effect-size Effect.Keep k = refl
effect-size (Effect.Forget tag) k = refl
effect-size (Effect.Reload r) k = refl
effect-size (Effect.StoreWord at v) k = refl
effect-size (Effect.StoreByte at v) k = refl
effect-size (Effect.StorePad i p v) k = refl

pub size-stays : SizeStays
unfolding call_of settled
size-stays m u c = effect-size _ _ ∙ run-size m u.maps (called m u.cells.size u.core u.maps c) u.cells

-- What is not there is not seen ---------------------------------------------------------------------------------------------

-- cells that differ at most past those that are there
record CellsAlike (k l : Cells) : Type 0 where
  size : k.size ≡ l.size
  counter : k.counter ≡ l.counter
  cells : there k ≡ there l

module _ (k l : Cells) (h : CellsAlike k l) where
  filled-alike : (tag w : ℕ) → CellsAlike (filled k tag w) (filled l tag w)
  unfolding filled
  filled-alike tag w =
      record {
        size = h.size;
        counter = rw (h.size, h.counter);
        cells =
            there-filled k tag w
            ∙ ap₂ (λ (x : List Cell) (c : ℕ). set x (c - 0o10) (record { tag = tag; word = w })) h.cells h.counter
            ∙ sym (there-filled l tag w);
      }

  forgotten-alike : (tag : ℕ) → CellsAlike (forgotten k tag) (forgotten l tag)
  unfolding forgotten
  forgotten-alike tag =
      record {
        size = h.size;
        counter = h.counter;
        cells = there-forgotten k tag ∙ (rw h.cells) ∙ sym (there-forgotten l tag);
      }

  emptied-alike : CellsAlike (emptied k) (emptied l)
  unfolding emptied
  emptied-alike = record { size = h.size; counter = refl; cells = there-emptied k ∙ (rw h.cells) ∙ sym (there-emptied l) }

  stored-alike : (i : ℕ) (p : Part) (v : ℕ) → CellsAlike (pad_stored k i p v) (pad_stored l i p v)
  unfolding pad_stored
  stored-alike i p v =
      record {
        size = h.size;
        counter = h.counter;
        cells = there-stored k i p v ∙ (rw h.cells) ∙ sym (there-stored l i p v);
      }

  effect-alike : (e : Effect) → CellsAlike (cells_after e k) (cells_after e l)
  unfolding cells_after
  effect-alike Effect.Keep = h
  effect-alike (Effect.Forget tag) = forgotten-alike tag
  effect-alike (Effect.Reload r) = emptied-alike
  effect-alike (Effect.StoreWord at v) = h
  effect-alike (Effect.StoreByte at v) = h
  effect-alike (Effect.StorePad i p v) = stored-alike i p v

  cell_of-alike : (tag : ℕ) → cell_of k tag ≡ cell_of l tag
  unfolding cell_of
  cell_of-alike tag = ap (λ (x : List Cell). found_from 0 (map tag_in x) tag) h.cells

  peeked-alike : (g : Associative) → peeked k g ≡ peeked l g
  unfolding peeked
  peeked-alike Associative.Ktmr = ap (λ (x : ℕ). x % 256 * 256) h.counter
  peeked-alike (Associative.Pad i) = ap (λ (x : List Cell). (get_or x i empty_cell).word) h.cells

-- look-ups that give the same entry and leave cells that are alike
record LookedAlike (a b : Looked) : Type 0 where
  entry : a.entry ≡ b.entry
  cells : CellsAlike a.cells b.cells

-- runs that come to the same outcome and leave cells that are alike
record RanAlike (a b : Ran) : Type 0 where
  outcome : a.outcome ≡ b.outcome
  cells : CellsAlike a.cells b.cells

module _ (m : Memory) (r : Maps) where
  looked-alike : (user : Bool) (p : ℕ) (k l : Cells) → CellsAlike k l → LookedAlike (looked m r user p k) (looked m r user p l)
  unfolding looked sought_in missed filled_by pick
  looked-alike user p k l h = zero (exec_zero user p)
    where
      by_walk : (w : Option Walked) → LookedAlike (missed k (tag_of user p) w) (missed l (tag_of user p) w)
      by_walk (Some w) = record { entry = refl; cells = filled-alike k l h (tag_of user p) w.word }
      by_walk None = record { entry = refl; cells = h }

      sought : (f : Option ℕ) → LookedAlike (sought_in m r user p k f) (sought_in m r user p l f)
      sought (Some i) = record { entry = rw h.cells; cells = h }
      sought None = by_walk (walk_of m r user p)

      zero : (t : Bool)
          → LookedAlike
          (pick t (record { entry = exec_zero_entry r; cells = k }) (sought_in m r user p k (cell_of k (tag_of user p))))
          (pick t (record { entry = exec_zero_entry r; cells = l }) (sought_in m r user p l (cell_of l (tag_of user p))))
      zero true = record { entry = refl; cells = h }
      zero false = rw (cell_of-alike k l h (tag_of user p)) (sought (cell_of l (tag_of user p)))

  run-alike : (p : Prog) (k l : Cells) → CellsAlike k l → RanAlike (run m r p k) (run m r p l)
  unfolding run
  run-alike (done o) k l h = record { outcome = refl; cells = h }
  run-alike (ask user p f) k l h =
      let a = looked-alike user p k l h in
      rw a.entry (run-alike (f (looked m r user p l).entry) (looked m r user p k).cells (looked m r user p l).cells a.cells)
  run-alike (peek g f) k l h = rw (peeked-alike k l h g) (run-alike (f (peeked l g)) k l h)

settled-alike : (m : Memory) (r r₁ : Maps) (a b : Ran) → r ≡ r₁ → RanAlike a b → AlikeAfter (settled m r a) (settled m r₁ b)
unfolding settled
settled-alike m r r₁ a b e h =
    record {
      answer = ap (λ (o : Outcome). o.answer) h.outcome;
      memory = ap (λ (o : Outcome). memory_after o.effect m) h.outcome;
      units =
          record {
            core = ap (λ (o : Outcome). o.core) h.outcome;
            maps = ap₂ (λ (o : Outcome) (x : Maps). maps_after o.effect x) h.outcome e;
            size = cells.size;
            counter = cells.counter;
            cells = cells.cells;
          };
    }
  where
    cells : CellsAlike (cells_after a.outcome.effect a.cells) (cells_after b.outcome.effect b.cells)
    cells =
        subst (λ (o : Outcome). CellsAlike (cells_after o.effect a.cells) (cells_after b.outcome.effect b.cells))
        (sym h.outcome) (effect-alike a.cells b.cells h.cells b.outcome.effect)

pub absent-unseen : AbsentUnseen
unfolding call_of
absent-unseen m u v c h = settled-alike m u.maps v.maps _ _ h.maps ran
  where
    program : Unit → Prog
    program x = called m x.cells.size x.core x.maps c

    same : program u ≡ program v
    same =
        ap (λ (s : Size). called m s u.core u.maps c) h.size
        ∙ ap₂ (λ (x : Core) (r : Maps). called m v.cells.size x r c) h.core h.maps

    ran : RanAlike (run m u.maps (program u) u.cells) (run m v.maps (program v) v.cells)
    ran =
        subst (λ (x : Prog). RanAlike (run m u.maps x u.cells) (run m v.maps (program v) v.cells)) (sym same)
        (subst (λ (r : Maps). RanAlike (run m r (program v) u.cells) (run m v.maps (program v) v.cells)) (sym h.maps)
        (run-alike m v.maps (program v) u.cells v.cells (record { size = h.size; counter = h.counter; cells = h.cells })))
