-- What a call reaches of the cells is told by the physical address that comes back with its answer; and the other calls go nowhere.
use Prim.Native.Nat.{ℕ}
use mathlib.Core.Bool.{Bool, true, false, ◌||◌}
use mathlib.Core.Path.{◌≡◌, refl, sym}
use mathlib.Core.List.{[]}
use lib.Dec.{ltb}
use lib.ListN.{length}
use borrow.Author.Tests.{lt-ltb}
use Rattle.std.specs.Prelude.{Some, Result, Ok, Err}
use Rattle.rules.specs.Types.{Cells, Unit, Access, Operating, Associative, Register, Target, Place, Part, Entry, Due, Job, Fault}
use Rattle.rules.specs.Memory.{Memory}
use Rattle.rules.specs.Registers.{place_of, part_of}
use Rattle.rules.specs.Maps.{unpaged, unpaged_at}
use Rattle.rules.specs.Fetched.{is_fetch}
use Rattle.rules.specs.Steps.{well_shaped, due_of, odd_word, watches, forbidden}
use Rattle.rules.specs.Sequences.{vector_listed, idle}
use Rattle.rules.specs.Program.{Prog, run}
use Rattle.rules.specs.Order.{outcome, refused, faulted, outer_fault, source_in, source_at, read_from, read_at, associative_effect, operating_effect, memory_effect, stored_in, stored_at, transferred, fetched, word_judged, unpaged_reached, unpaged_time_out, unpaged_target, unpaged_from, window_addr, inner_fault, inner_target, inner_ruled, windowed, paged_reached, outer_target, outer_ruled, paged_from, sequenced, after_wait, accessed}
use Rattle.rules.specs.Calls.{interrupt_of, trap_of, init_of, called, settled, call_of}
use Rattle.rules.specs.Answers.{shown_as, fault_shown, shown}
use Rattle.rules.specs.Runs.{visits_of, peeks, stores_pad, deed_in, deed_of}
use Rattle.rules.proofs.Laws.Choices.{picked}
use Rattle.rules.proofs.Promises.{job}
use Rattle.rules.proofs.Statements.Ways.{outer_at, inner_at, Keys, off-map, not_resident, not_writable, not_public}
use Rattle.rules.proofs.Statements.PremiseWords.{target_in_cells, place_in_cells, place_at, ReachesByAnswer, OthersGoNowhere}
use Rattle.rules.proofs.Demand1.Why.{judged-keys}
use Rattle.rules.proofs.Demand1.Effects.{fetch_reads}

-- What a program reaches, by the place of its answer's physical address --------------------------------------------------------

module _ (m : Memory) (u : Unit) (op : ℕ) where
  abbrev Reached : Prog → Cells → Type 0
  Reached p k =
      (peeks m u.maps p k || stores_pad (run m u.maps p k).outcome.effect)
      ≡ place_in_cells op (place_at m u.cells.size (shown (run m u.maps p k).outcome.answer).physical)

  -- a program that reaches nothing more, and answers with this physical address
  record Answers (at : ℕ) (p : Prog) (k : Cells) : Type 0 where
    peeks-none : peeks m u.maps p k ≡ false
    stores_none : stores_pad (run m u.maps p k).outcome.effect ≡ false
    physical : (shown (run m u.maps p k).outcome.answer).physical ≡ Some at

  module _ (j : Job) (at : ℕ) (reads : ltb op 2 ≡ true) (f : ℕ → Prog) (h : (w : ℕ) (k : Cells) → Answers at (f w) k) where
    -- a read of what the cells take no part in
    unshown : (w : ℕ) (k : Cells) → place_in_cells op (place_of u.cells.size (length m) at) ≡ false → Reached (f w) k
    unshown w k e = rw ((h w k).peeks-none, (h w k).stores_none, (h w k).physical) (sym e)

    read_at-reached : (t : Target) (k : Cells) → place_of u.cells.size (length m) at ≡ Place.There t → Reached (read_at m j at t f) k
    unfolding source_in source_at read_from read_at peeks run
    read_at-reached Target.Memory k e = unshown _ k (rw e)
    read_at-reached (Target.In (Register.Operating g)) k e = unshown _ k (rw e)
    read_at-reached (Target.In (Register.Associative Associative.Ktmr)) k e = rw ((h _ k).physical, e) (sym reads)
    read_at-reached (Target.In (Register.Associative (Associative.Pad i))) k e = rw ((h _ k).physical, e)

-- The steps of an access -------------------------------------------------------------------------------------------------------

module _ (m : Memory) (u : Unit) (q : Access) (shaped : well_shaped (length m) q ≡ true) where
  abbrev IsReached : Cells → Prog → Type 0
  IsReached k p = Reached m u q.op p k

  fetch_is_read : is_fetch q ≡ true → ltb q.op 2 ≡ true
  fetch_is_read t = lt-ltb q.op 2 (fetch_reads (length m) q shaped t)

  -- a store: of the targets, only a scratchpad word is in the cells
  memory-store : (p : Part) (at v : ℕ) → stores_pad (memory_effect p at v) ≡ false
  unfolding stores_pad memory_effect
  memory-store Part.Whole at v = refl
  memory-store Part.Low at v = refl
  memory-store Part.High at v = refl

  operating-store : (g : Operating) (p : Part) (v : ℕ) → stores_pad (operating_effect u.maps p v g) ≡ false
  unfolding stores_pad operating_effect
  operating-store Operating.Ktcs p v = refl
  operating-store (Operating.Kept i) p v = refl
  operating-store Operating.Ktum p v = refl
  operating-store Operating.Ktem p v = refl

  associative-store :
      (g : Associative) (p : Part) (v : ℕ) → ltb q.op 2 ≡ false
      → stores_pad (associative_effect p v g) ≡ target_in_cells q.op (Target.In (Register.Associative g))
  unfolding stores_pad associative_effect
  associative-store Associative.Ktmr p v e = sym e
  associative-store (Associative.Pad i) p v e = refl

  module _ (at : ℕ) (k : Cells) where
    stored-reached :
        (t : Target) → place_of u.cells.size (length m) at ≡ Place.There t → ltb q.op 2 ≡ false
        → stores_pad (stored_at (job u q) (part_of q.op at) at t).effect
        ≡ place_in_cells q.op (place_at m u.cells.size (shown (stored_at (job u q) (part_of q.op at) at t).answer).physical)
    unfolding stored_in stored_at outcome shown shown_as
    stored-reached Target.Memory place n = rw place (memory-store (part_of q.op at) at q.datum)
    stored-reached (Target.In (Register.Operating g)) place n = rw place (operating-store g (part_of q.op at) q.datum)
    stored-reached (Target.In (Register.Associative g)) place n = rw place (associative-store g (part_of q.op at) q.datum n)

    module _ (t : Target) (place : place_of u.cells.size (length m) at ≡ Place.There t) where
      transferred-reached : IsReached k (transferred m (job u q) at t)
      unfolding transferred peeks run outcome stores_pad shown shown_as
      transferred-reached =
          picked (IsReached k) (ltb q.op 2) _ _
          (λ r. read_at-reached m u q.op (job u q) at r _ (λ w k₁. record { peeks-none = refl; stores_none = refl; physical = refl }) t k place)
          (λ r. stored-reached t place r)

      unpaged_reached-reached : IsReached k (unpaged_reached m (job u q) at t)
      unfolding unpaged_reached fetched peeks run outcome stores_pad shown shown_as
      unpaged_reached-reached =
          picked (IsReached k) (is_fetch q) _ _
          (λ f. read_at-reached m u q.op (job u q) at (fetch_is_read f) _ (λ w k₁. record { peeks-none = refl; stores_none = refl; physical = refl }) t k place)
          (λ f. transferred-reached)

      word_judged-answers : (e : Entry) (w : ℕ) (k₁ : Cells) → Answers m u q.op at (word_judged (job u q) at t e w) k₁
      unfolding word_judged outer_fault faulted fetched peeks run outcome stores_pad shown fault_shown shown_as
      word_judged-answers e w k₁ =
          picked (λ p. Answers m u q.op at p k₁) (forbidden (job u q).core e w) _ _
          (λ x. record { peeks-none = refl; stores_none = refl; physical = refl })
          (λ x. record { peeks-none = refl; stores_none = refl; physical = refl })

      paged_reached-reached : (e : Entry) → IsReached k (paged_reached m (job u q) at e t)
      unfolding paged_reached
      paged_reached-reached e =
          picked (IsReached k) (is_fetch q) _ _
          (λ f. read_at-reached m u q.op (job u q) at (fetch_is_read f) _ (word_judged-answers e) t k place)
          (λ f. transferred-reached)

  unpaged_target-reached : (at : ℕ) (pl : Place) (k : Cells) → place_of u.cells.size (length m) at ≡ pl → IsReached k (unpaged_target m (job u q) at pl)
  unfolding unpaged_target unpaged_time_out peeks run outcome stores_pad shown fault_shown shown_as
  unpaged_target-reached at (Place.There t) k e = unpaged_reached-reached at k t e
  unpaged_target-reached at Place.Window k e = refl
  unpaged_target-reached at Place.Nowhere k e = refl

  inner_target-reached : (at : ℕ) (pl : Place) (k : Cells) → place_of u.cells.size (length m) at ≡ pl → IsReached k (inner_target m (job u q) at pl)
  unfolding inner_target inner_fault faulted peeks run outcome stores_pad shown fault_shown shown_as
  inner_target-reached at (Place.There t) k e = transferred-reached at k t e
  inner_target-reached at Place.Window k e = refl
  inner_target-reached at Place.Nowhere k e = refl

  inner_ruled-reached : {e : Entry} {d : Result ℕ Fault} (k : Cells) → Keys q.op false e d → IsReached k (inner_ruled m (job u q) d)
  unfolding inner_ruled inner_fault faulted peeks run outcome stores_pad shown fault_shown shown_as
  inner_ruled-reached {d = Ok page} k h = inner_target-reached (inner_at u q page) _ k refl
  inner_ruled-reached {d = Err f} k off-map = refl
  inner_ruled-reached {d = Err f} k (not_resident r) = refl
  inner_ruled-reached {d = Err f} k (not_writable r l) = refl
  inner_ruled-reached {d = Err f} k (not_public r l x) = refl

  windowed-reached : (k : Cells) → IsReached k (windowed m (job u q))
  unfolding windowed inner_fault faulted peeks run outcome stores_pad shown fault_shown shown_as
  windowed-reached k =
      picked (IsReached k) (odd_word q.width (window_addr (job u q))) _ _ (λ t. refl)
      (λ t. inner_ruled-reached _ (judged-keys q.op false _))

  outer_target-reached :
      (at : ℕ) (e : Entry) (pl : Place) (k : Cells) → place_of u.cells.size (length m) at ≡ pl → IsReached k (outer_target m (job u q) at e pl)
  unfolding outer_target outer_fault faulted peeks run outcome stores_pad shown fault_shown shown_as
  outer_target-reached at e (Place.There t) k p = paged_reached-reached at k t p e
  outer_target-reached at e Place.Window k p = picked (IsReached k) (is_fetch q) _ _ (λ t. refl) (λ t. windowed-reached k)
  outer_target-reached at e Place.Nowhere k p = refl

  outer_ruled-reached :
      {watched : Bool} {e : Entry} {d : Result ℕ Fault} (k : Cells) → Keys q.op watched e d → IsReached k (outer_ruled m (job u q) e d)
  unfolding outer_ruled outer_fault faulted peeks run outcome stores_pad shown fault_shown shown_as
  outer_ruled-reached {e = e} {d = Ok page} k h = outer_target-reached (outer_at q page) e _ k refl
  outer_ruled-reached {d = Err f} k off-map = refl
  outer_ruled-reached {d = Err f} k (not_resident r) = refl
  outer_ruled-reached {d = Err f} k (not_writable r l) = refl
  outer_ruled-reached {d = Err f} k (not_public r l x) = refl

  paged_from-reached : (k : Cells) → IsReached k (paged_from m (job u q))
  unfolding paged_from outer_fault faulted peeks run outcome stores_pad shown fault_shown shown_as
  paged_from-reached k =
      picked (IsReached k) (odd_word q.width q.addr) _ _ (λ t. refl)
      (λ t. outer_ruled-reached _ (judged-keys q.op (watches (job u q).core.fetch q) _))

  unpaged_from-reached : (k : Cells) → IsReached k (unpaged_from m u.cells.size u.core u.maps q)
  unfolding unpaged_from refused peeks run outcome stores_pad shown shown_as
  unpaged_from-reached k =
      picked (IsReached k) (odd_word q.width q.addr) _ _ (λ t. refl) (λ t. unpaged_target-reached (unpaged_at q.addr) _ k refl)

  after_wait-reached : (d : Due) (k : Cells) → IsReached k (after_wait m u.cells.size u.core u.maps q d)
  unfolding after_wait refused sequenced peeks run outcome stores_pad shown shown_as
  after_wait-reached Due.Steps k =
      picked (IsReached k) (unpaged u.core.ktcs.fcn q.state) _ _ (λ t. unpaged_from-reached k) (λ t. paged_from-reached k)
  after_wait-reached Due.OutOfTurn k = refl
  after_wait-reached Due.StatusStore k = refl
  after_wait-reached Due.ProgramCounterStore k = refl
  after_wait-reached Due.FirstRead k = refl
  after_wait-reached Due.SecondRead k = refl

pub reaches_by_answer : ReachesByAnswer
unfolding deed_of deed_in called accessed call_of settled refused peeks run outcome stores_pad shown shown_as
reaches_by_answer m u q =
    picked (λ p. Reached m u q.op p u.cells) (well_shaped (length m) q) _ _ (λ s. after_wait-reached m u q s (due_of u.core q) u.cells)
    (λ e. refl)

-- The other calls --------------------------------------------------------------------------------------------------------------

pub others_go_nowhere : OthersGoNowhere
unfolding deed_of deed_in called interrupt_of trap_of init_of refused sequenced visits_of peeks run outcome stores_pad
others_go_nowhere m u =
    record {
      interrupt_visits = picked IsUnvisited (idle u.core.wait u.core.ktcs.fcn) _ _ (λ e. refl) (λ e. refl);
      interrupt_reaches = picked IsUnreached (idle u.core.wait u.core.ktcs.fcn) _ _ (λ e. refl) (λ e. refl);
      trap_visits =
          λ v.
          picked IsUnvisited (vector_listed v) _ _
          (λ l. picked IsUnvisited (idle u.core.wait u.core.ktcs.fcn) _ _ (λ e. refl) (λ e. refl)) (λ l. refl);
      trap_reaches =
          λ v.
          picked IsUnreached (vector_listed v) _ _
          (λ l. picked IsUnreached (idle u.core.wait u.core.ktcs.fcn) _ _ (λ e. refl) (λ e. refl)) (λ l. refl);
      init_visits = refl;
      init_reaches = refl;
    }
  where
    IsUnvisited : Prog → Type 0
    IsUnvisited p = visits_of m u.maps p u.cells ≡ []

    IsUnreached : Prog → Type 0
    IsUnreached p = (peeks m u.maps p u.cells || stores_pad (run m u.maps p u.cells).outcome.effect) ≡ false
