-- Demand 3's first part: the unit stays as it must be, over any memories.
use mathlib.Core.Path.{◌≡◌, refl, sym, ap, ◌∙◌}
use mathlib.Core.Logic.{◌⊎◌, inl, inr, ⊎_elim}
use mathlib.Core.Bool.{Bool, false}
use mathlib.Core.List.{List, [], ◌∷◌, map}
use Prim.Native.Nat.{ℕ, ◌-◌, ◌≤◌, ◌<◌}
use native.Mathlib.Omega.{arith}
use lib.Dec.{eqb}
use lib.ListN.{length, get_or, set, length-replicate, get_or-map, get_or-eq_default}
use borrow.Author.Tests.{eqb-false}
use Rattle.std.specs.Prelude.{Option, Some, None}
use Rattle.rules.specs.Types.{Maps, Cell, Size, Cells, Unit, Call, Part, Walked, Effect, Outcome, Looked}
use Rattle.rules.specs.Choice.{pick}
use Rattle.rules.specs.Memory.{Memory}
use Rattle.rules.specs.Unit.{count_of, room, there, zero_unit, empty_cell, cell_at, emptied}
use Rattle.rules.specs.Registers.{cell_stored, pad_stored}
use Rattle.rules.specs.Maps.{exec_zero, walk_of, tag_of, tag_in, cell_of, filled, filled_by, missed, sought_in, looked, holds, cell_forgotten, forgotten}
use Rattle.rules.specs.Program.{Prog, run}
use Rattle.rules.specs.Order.{outcome}
use Rattle.rules.specs.Calls.{called, init_of, cells_after, settled, call_of, fresh}
use Rattle.rules.specs.Runs.{Turn, unit_after, station_after}
use Rattle.rules.proofs.Laws.Choices.{picked}
use Rattle.rules.proofs.Laws.Lists.{get_d_set_either, get_d_replicate_default, set_cases}
use Rattle.rules.proofs.Laws.Pages.{tag_of-below, tag-other}
use Rattle.rules.proofs.Laws.Counter.{emptied-names, forgotten-names, pad_stored-names, filled-names}
use Rattle.rules.proofs.Laws.CellsLaws.{some_cells, all_there, there-filled, there-stored, empty_tag, empty_forgotten, cell_stored-tag, missing_has_none, cell_emptied, cell_at-forgotten}
use Rattle.rules.proofs.Laws.CoreLaws.{init_core-fits}
use Rattle.rules.proofs.Demand3.Always.{Always, ends, asks, peeks-at}
use Rattle.rules.proofs.Demand3.Endings.{Ending, call_ends}
use Rattle.rules.proofs.Promises.{CellsFit, UnitFit, AlwaysFit}

-- One cell -------------------------------------------------------------------------------------------------------------------------

-- a cell that is as it must be by itself
record CellFit (c : Cell) : Type 0 where
  empty : c.tag ≡ 0 → c.word ≡ 0
  tag : c.tag < 256

empty_cell-fit : CellFit empty_cell
unfolding empty_cell
empty_cell-fit = record { empty = λ e. refl; tag = omega arith }

cell_stored-fit : (c : Cell) (p : Part) (v : ℕ) → CellFit c → CellFit (cell_stored c p v)
unfolding cell_stored
cell_stored-fit c p v h =
    picked CellFit (eqb c.tag 0) _ _ (λ t. h) (λ t. record { empty = λ e. absurd (eqb-false c.tag 0 t e); tag = h.tag })

cell_stored-empty : (p : Part) (v : ℕ) → cell_stored empty_cell p v ≡ empty_cell
unfolding cell_stored empty_cell pick
cell_stored-empty p v = refl

-- The cells ------------------------------------------------------------------------------------------------------------------------

module _ (n : ℕ) where
  emptied-fit : (k : Cells) → count_of k.size ≡ n → length (there k) ≡ n → length k.list ≡ room → 0 < n → CellsFit n (emptied k)
  unfolding emptied
  emptied-fit k s l r z =
      record {
        names = emptied-names n k s l r z;
        once = λ i j e o. absurd (o (ap (λ (c : Cell). c.tag) (cell_emptied k i) ∙ empty_tag));
        empty = λ i. rw (cell_emptied k i) empty_cell-fit.empty;
        tags = λ i. rw (cell_emptied k i) empty_cell-fit.tag;
        absent = λ i past. get_d_replicate_default (length k.list) i empty_cell;
      }

  module _ (k : Cells) (h : CellsFit n k) where
    cell_fit : (i : ℕ) → CellFit (cell_at k i)
    cell_fit i = record { empty = h.empty i; tag = h.tags i }

    some_cell : 0 < n
    some_cell = omega (arith, h.names.from, h.names.below)

    -- past the last cell there is an empty one
    none-there : (i : ℕ) → n ≤ i → cell_at k i ≡ empty_cell
    none-there i past = get_or-eq_default (there k) empty_cell (rw h.names.number past)

    -- a store in the room of cells that the unit has leaves the rest of it as it was, and so does one of an empty cell
    still_absent :
        (j : ℕ) (c : Cell) → (n ≤ j → c ≡ empty_cell) → (i : ℕ) → n ≤ i → get_or (set k.list j c) i empty_cell ≡ empty_cell
    still_absent j c e i past =
        ⊎_elim (λ a. a.1 ∙ e (rw (← a.0) past)) (λ a. a ∙ h.absent i past) (set_cases k.list i j c empty_cell)

    -- Cells that hold no page in another place than before hold none twice.
    once_still :
        (k₁ : Cells) → ((i : ℕ) → ((cell_at k₁ i).tag ≡ 0 → ⊥) → (cell_at k₁ i).tag ≡ (cell_at k i).tag)
        → (i j : ℕ) → (cell_at k₁ i).tag ≡ (cell_at k₁ j).tag → ((cell_at k₁ i).tag ≡ 0 → ⊥) → i ≡ j
    once_still k₁ same i j e z =
        let a = same i z in
        let b = same j (λ o. z (e ∙ o)) in
        h.once i j (sym a ∙ e ∙ b) (λ o. z (a ∙ o))

    forgotten-fit : (tag : ℕ) → CellsFit n (forgotten k tag)
    unfolding forgotten
    forgotten-fit tag =
        record {
          names = forgotten-names n k tag h.names;
          once = once_still (forgotten k tag) same;
          empty = λ i. (fit i).empty;
          tags = λ i. (fit i).tag;
          absent = gone;
        }
      where
        fit : (i : ℕ) → CellFit (cell_at (forgotten k tag) i)
        fit i = rw (cell_at-forgotten k tag i) (picked CellFit (holds tag (cell_at k i)) _ _ (λ t. empty_cell-fit) (λ t. cell_fit i))

        gone : (i : ℕ) → n ≤ i → get_or (map (cell_forgotten tag) k.list) i empty_cell ≡ empty_cell
        gone i past =
            ap (get_or (map (cell_forgotten tag) k.list) i) (sym (empty_forgotten tag)) ∙ get_or-map (cell_forgotten tag) k.list i empty_cell
            ∙ ap (cell_forgotten tag) (h.absent i past) ∙ empty_forgotten tag

        same : (i : ℕ) → ((cell_at (forgotten k tag) i).tag ≡ 0 → ⊥) → (cell_at (forgotten k tag) i).tag ≡ (cell_at k i).tag
        same i =
            rw (cell_at-forgotten k tag i)
            (picked (λ (c : Cell). (c.tag ≡ 0 → ⊥) → c.tag ≡ (cell_at k i).tag) (holds tag (cell_at k i)) _ _
            (λ t z. absurd (z empty_tag)) (λ t z. refl))

    pad_stored-fit : (i : ℕ) (p : Part) (v : ℕ) → CellsFit n (pad_stored k i p v)
    unfolding pad_stored tag_in
    pad_stored-fit i p v =
        record {
          names = pad_stored-names n k i p v h.names;
          once = once_still (pad_stored k i p v) (λ j z. same j);
          empty = λ j. (fit j).empty;
          tags = λ j. (fit j).tag;
          absent = still_absent i _ (λ past. ap (λ (c : Cell). cell_stored c p v) (none-there i past) ∙ cell_stored-empty p v);
        }
      where
        fit : (j : ℕ) → CellFit (cell_at (pad_stored k i p v) j)
        fit j =
            rw (there-stored k i p v) (get_d_set_either CellFit (there k) j i _ empty_cell (cell_stored-fit _ p v (cell_fit i)) (cell_fit j))

        same : (j : ℕ) → (cell_at (pad_stored k i p v) j).tag ≡ (cell_at k j).tag
        same j =
            rw (there-stored k i p v)
            (⊎_elim (λ a. ap tag_in a.1 ∙ cell_stored-tag (cell_at k i) p v ∙ ap (λ (x : ℕ). (cell_at k x).tag) (sym a.0)) (λ a. ap tag_in a)
            (set_cases (there k) j i (cell_stored (cell_at k i) p v) empty_cell))

    module _ (tag : ℕ) (z : tag ≡ 0 → ⊥) (b : tag < 256) (missing : cell_of k tag ≡ None) where
      filled-once :
          (w i j : ℕ) → (cell_at (filled k tag w) i).tag ≡ (cell_at (filled k tag w) j).tag → ((cell_at (filled k tag w) i).tag ≡ 0 → ⊥) → i ≡ j
      unfolding tag_in
      filled-once w i j e o = go (cases i) (cases j)
        where
          c : ℕ
          c = k.counter - 0o10

          v : Cell
          v = record { tag = tag; word = w }

          none : (i : ℕ) → (cell_at k i).tag ≡ tag → ⊥
          none = missing_has_none k tag missing z

          cases : (x : ℕ) → ((x ≡ c) × (cell_at (filled k tag w) x ≡ v)) ⊎ (cell_at (filled k tag w) x ≡ cell_at k x)
          cases x = rw (there-filled k tag w) (set_cases (there k) x c v empty_cell)

          go :
              ((i ≡ c) × (cell_at (filled k tag w) i ≡ v)) ⊎ (cell_at (filled k tag w) i ≡ cell_at k i)
              → ((j ≡ c) × (cell_at (filled k tag w) j ≡ v)) ⊎ (cell_at (filled k tag w) j ≡ cell_at k j) → i ≡ j
          go (inl a) (inl d) = a.0 ∙ sym d.0
          go (inl a) (inr d) = absurd (none j (ap tag_in (sym d) ∙ sym e ∙ ap tag_in a.1))
          go (inr a) (inl d) = absurd (none i (ap tag_in (sym a) ∙ e ∙ ap tag_in d.1))
          go (inr a) (inr d) = h.once i j (ap tag_in (sym a) ∙ e ∙ ap tag_in d) (λ q. o (ap tag_in a ∙ q))

      filled-fit : (w : ℕ) → CellsFit n (filled k tag w)
      unfolding filled
      filled-fit w =
          record {
            names = filled-names n k tag w h.names;
            once = filled-once w;
            empty = λ i. (fit i).empty;
            tags = λ i. (fit i).tag;
            absent = still_absent (k.counter - 0o10) _ (λ past. absurd (omega (arith, past, h.names.from, h.names.below)));
          }
        where
          fit : (i : ℕ) → CellFit (cell_at (filled k tag w) i)
          fit i =
              rw (there-filled k tag w)
              (get_d_set_either CellFit (there k) i (k.counter - 0o10) (record { tag = tag; word = w }) empty_cell
              (record { empty = λ e. absurd (z e); tag = b }) (cell_fit i))

      filled_by-fit : (w : Option Walked) → CellsFit n (filled_by k tag w)
      unfolding filled_by
      filled_by-fit (Some w) = filled-fit w.word
      filled_by-fit None = h

    looked-fit : (m : Memory) (r : Maps) (user : Bool) (p : ℕ) → p < 128 → CellsFit n (looked m r user p k).cells
    unfolding looked sought_in missed
    looked-fit m r user p b =
        picked (λ (l : Looked). CellsFit n l.cells) (exec_zero user p) _ _ (λ t. h) (λ t. go t (cell_of k (tag_of user p)) refl)
      where
        go : exec_zero user p ≡ false → (f : Option ℕ) → cell_of k (tag_of user p) ≡ f → CellsFit n (sought_in m r user p k f).cells
        go x (Some i) e = h
        go x None e = filled_by-fit (tag_of user p) (tag-other user p x) (tag_of-below user p b) e (walk_of m r user p)

    effect-fit : (e : Effect) → CellsFit n (cells_after e k)
    unfolding cells_after
    effect-fit Effect.Keep = h
    effect-fit (Effect.Forget tag) = forgotten-fit tag
    effect-fit (Effect.Reload r) = emptied-fit k h.names.size h.names.number h.names.listed some_cell
    effect-fit (Effect.StoreWord at v) = h
    effect-fit (Effect.StoreByte at v) = h
    effect-fit (Effect.StorePad i p v) = pad_stored-fit i p v

  -- A call and a run -----------------------------------------------------------------------------------------------------------------

  run-fit :
      (P : Outcome → Type 0) (m : Memory) (r : Maps) {p : Prog} → Always P p → (k : Cells) → CellsFit n k
      → P (run m r p k).outcome × CellsFit n (run m r p k).cells
  unfolding run
  run-fit P m r (ends o) k h = (o, h)
  run-fit P m r (asks {user = user} {p = p} b a) k h = run-fit P m r (a _) _ (looked-fit k h m r user p b)
  run-fit P m r (peeks-at a) k h = run-fit P m r (a _) k h

-- what a call leaves of a unit that is as it must be
pub call-fit : {n : ℕ} (m : Memory) (u : Unit) (c : Call) → UnitFit n u → UnitFit n (call_of m u c).reply.unit
unfolding call_of settled
call-fit m u c h =
    let (e, k) = run-fit _ (Ending u.core) m u.maps (call_ends u.core m u.cells.size u.maps c) u.cells h.cells in
    record { core = e.fits h.core; cells = effect-fit _ _ k _ }

pub fresh-fit : (s : Size) → UnitFit (count_of s) (fresh s)
unfolding fresh call_of settled run called init_of outcome cells_after zero_unit emptied
fresh-fit s =
    let zeros : length (zero_unit s).cells.list ≡ room = length-replicate room empty_cell in
    record { core = init_core-fits _; cells = emptied-fit (count_of s) (zero_unit s).cells refl (all_there (zero_unit s).cells zeros) zeros (some_cells s) }

pub station_fit : {n : ℕ} (m : Memory) (u : Unit) (cs : List Call) → UnitFit n u → UnitFit n (station_after m u cs).unit
unfolding station_after
station_fit m u [] h = h
station_fit m u (c ∷ cs) h = station_fit (call_of m u c).memory (call_of m u c).reply.unit cs (call-fit m u c h)

turns_fit : {n : ℕ} (ts : List Turn) (u : Unit) → UnitFit n u → UnitFit n (unit_after u ts)
unfolding unit_after
turns_fit [] u h = h
turns_fit (t ∷ ts) u h = turns_fit ts _ (call-fit t.memory u t.call h)

pub always_fit : AlwaysFit
always_fit s ts = turns_fit ts (fresh s) (fresh-fit s)
