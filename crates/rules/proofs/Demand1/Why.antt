-- Each call ends as 01's order of steps says: the steps are gone through once, each test with the equation of how it came out.
use Prim.Native.Nat.{ℕ}
use mathlib.Core.Bool.{Bool, true, false, not}
use mathlib.Core.Path.{◌≡◌, refl}
use lib.Dec.{ltb}
use lib.ListN.{length}
use borrow.Author.Tests.{not-true, not-false}
use Rattle.std.specs.Prelude.{Result, Ok, Err}
use Rattle.rules.specs.Types.{Cells, Unit, Access, Call, Target, Place, Entry, Due, Job, Fault}
use Rattle.rules.specs.Memory.{Memory}
use Rattle.rules.specs.Registers.{place_of}
use Rattle.rules.specs.Maps.{unpaged, unpaged_at, resident_bit}
use Rattle.rules.specs.Fetched.{is_fetch}
use Rattle.rules.specs.Steps.{well_shaped, due_of, odd_word, keys_of, judged, watches, forbidden}
use Rattle.rules.specs.Sequences.{vector_listed, idle}
use Rattle.rules.specs.Program.{Prog, run}
use Rattle.rules.specs.Order.{outcome, refused, faulted, outer_fault, word_read, transferred, fetched, word_judged, unpaged_reached, unpaged_time_out, unpaged_target, unpaged_from, window_addr, inner_fault, inner_target, inner_ruled, windowed, paged_reached, outer_target, outer_ruled, paged_from, sequenced, after_wait, accessed}
use Rattle.rules.specs.Calls.{interrupt_of, trap_of, init_of, called, call_of}
use Rattle.rules.proofs.Laws.Choices.{picked}
use Rattle.rules.proofs.Laws.RunLaws.{run-read_at}
use Rattle.rules.proofs.Promises.{job, outer, inner, Begun, Unpaged, Paged}
use Rattle.rules.proofs.Statements.Ways.{outer_at, inner_at, locked, hidden, Keys, off-map, not_resident, not_writable, not_public, granted, at_exec_zero, Transfer, read, store}
use Rattle.rules.proofs.Statements.Ways.{UnpagedThere, Asked, Granted, PagedThere, Windowed, InnerAsked, InnerGranted}
use Rattle.rules.proofs.Statements.Ways.{odd, keys_refuse, nowhere, window_by_fetch, forbidden-word, inner-odd, inner_keys_refuse, inner-nowhere, window_on_window}
use Rattle.rules.proofs.Statements.Ways.{Way, misshapen, late, stored_status, stored_program_counter, first_read, second_read, unpaged-odd, unpaged-nowhere, unpaged-window, unpaged-fetch, unpaged-transfer, violation, fetch, transfer, inner-transfer}
use Rattle.rules.proofs.Statements.Ways.{Why, access, interrupt_late, interrupt_taken, unlisted, trap_late, taken_trap, init, decided, CarriedOut, Explained}

-- Steps 6 to 9 -----------------------------------------------------------------------------------------------------------

module _ (op : ℕ) (watched : Bool) where
  keys_of-keys : (w : ℕ) → Keys op watched (Entry.Mapped w) (keys_of op watched w)
  unfolding keys_of
  keys_of-keys w =
      picked (Keys op watched (Entry.Mapped w)) (not (resident_bit w)) _ _ (λ r. not_resident (not-true _ r))
      (λ r. picked (Keys op watched (Entry.Mapped w)) (locked op w) _ _ (not_writable (not-false _ r))
      (λ l. picked (Keys op watched (Entry.Mapped w)) (hidden watched w) _ _ (not_public (not-false _ r) l) (granted (not-false _ r) l)))

  pub judged-keys : (e : Entry) → Keys op watched e (judged op watched e)
  unfolding judged
  judged-keys Entry.OffMap = off-map
  judged-keys (Entry.ExecZero page) = at_exec_zero
  judged-keys (Entry.Mapped w) = keys_of-keys w

-- An access: a lemma for each piece of specs/Order.antt, from the last to the first --------------------------------------

module _ (m : Memory) (u : Unit) where
  transferred-transfer : (j : Job) (k : Cells) (at : ℕ) (t : Target) → Transfer m j k at t (run m u.maps (transferred m j at t) k)
  unfolding transferred run outcome
  transferred-transfer j k at t =
      picked (λ p. Transfer m j k at t (run m u.maps p k)) (ltb j.q.op 2) _ _ (λ e. rw run-read_at (read e)) store

  module _ (q : Access) where
    abbrev Ends : Cells → Prog → Type 0
    Ends k p = Way m u q (run m u.maps p k)

    unpaged_reached-ends : {t : Target} → UnpagedThere m u q t → Ends u.cells (unpaged_reached m (job u q) (unpaged_at q.addr) t)
    unfolding unpaged_reached fetched run outcome
    unpaged_reached-ends {t} s =
        picked (Ends u.cells) (is_fetch q) _ _ (λ e. rw run-read_at (unpaged-fetch s e refl))
        (λ e. unpaged-transfer s e (transferred-transfer (job u q) u.cells (unpaged_at q.addr) t))

    unpaged_target-ends :
        (pl : Place) → place_of u.cells.size (length m) (unpaged_at q.addr) ≡ pl → Unpaged m u q
        → Ends u.cells (unpaged_target m (job u q) (unpaged_at q.addr) pl)
    unfolding unpaged_target unpaged_time_out run outcome
    unpaged_target-ends (Place.There t) e s = unpaged_reached-ends (record { steps = s; place = e })
    unpaged_target-ends Place.Window e s = unpaged-window s e
    unpaged_target-ends Place.Nowhere e s = unpaged-nowhere s e

    unpaged_from-ends :
        Begun m u q → unpaged u.core.ktcs.fcn q.state ≡ true → Ends u.cells (unpaged_from m u.cells.size u.core u.maps q)
    unfolding unpaged_from refused run outcome
    unpaged_from-ends s t =
        picked (Ends u.cells) (odd_word q.width q.addr) _ _ (unpaged-odd s t)
        (λ e. unpaged_target-ends (place_of u.cells.size (length m) (unpaged_at q.addr)) refl (record { steps = s; mode = t; even = e }))

    inner_target-ends :
        {page : ℕ} (pl : Place) → place_of u.cells.size (length m) (inner_at u q page) ≡ pl → InnerGranted m u q page
        → Ends (inner m u q).cells (inner_target m (job u q) (inner_at u q page) pl)
    unfolding inner_target inner_fault faulted run outcome
    inner_target-ends {page} (Place.There t) e s =
        inner-transfer (record { steps = s; place = e }) (transferred-transfer (job u q) _ (inner_at u q page) t)
    inner_target-ends Place.Window e s = violation (window_on_window s e)
    inner_target-ends Place.Nowhere e s = violation (inner-nowhere s e)

    inner_ruled-ends :
        (g : Result ℕ Fault) → Keys q.op false (inner m u q).entry g → InnerAsked m u q → Ends (inner m u q).cells (inner_ruled m (job u q) g)
    unfolding inner_ruled inner_fault faulted run outcome
    inner_ruled-ends (Err f) h s = violation (inner_keys_refuse s h)
    inner_ruled-ends (Ok page) h s = inner_target-ends (place_of u.cells.size (length m) (inner_at u q page)) refl (record { steps = s; keys = h })

    windowed-ends : Windowed m u q → Ends (outer m u q).cells (windowed m (job u q))
    unfolding windowed inner_fault faulted run outcome
    windowed-ends s =
        picked (Ends (outer m u q).cells) (odd_word q.width (window_addr (job u q))) _ _ (λ e. violation (inner-odd s e))
        (λ e. inner_ruled-ends _ (judged-keys q.op false (inner m u q).entry) (record { steps = s; even = e }))

    word_judged-ends :
        {page : ℕ} {t : Target} (w : ℕ) → word_read m (job u q) (outer m u q).cells (outer_at q page) t ≡ w → PagedThere m u q page t
        → is_fetch q ≡ true
        → Ends (outer m u q).cells (word_judged (job u q) (outer_at q page) t (outer m u q).entry w)
    unfolding word_judged outer_fault faulted fetched run outcome
    word_judged-ends w r s t =
        picked (Ends (outer m u q).cells) (forbidden (job u q).core (outer m u q).entry w) _ _ (λ e. violation (forbidden-word s t r e))
        (fetch s t r)

    paged_reached-ends :
        {page : ℕ} {t : Target} → PagedThere m u q page t
        → Ends (outer m u q).cells (paged_reached m (job u q) (outer_at q page) (outer m u q).entry t)
    unfolding paged_reached
    paged_reached-ends {page} {t} s =
        picked (Ends (outer m u q).cells) (is_fetch q) _ _ (λ e. rw run-read_at (word_judged-ends _ refl s e))
        (λ e. transfer s e (transferred-transfer (job u q) (outer m u q).cells (outer_at q page) t))

    outer_target-ends :
        {page : ℕ} (pl : Place) → place_of u.cells.size (length m) (outer_at q page) ≡ pl → Granted m u q page
        → Ends (outer m u q).cells (outer_target m (job u q) (outer_at q page) (outer m u q).entry pl)
    unfolding outer_target outer_fault faulted run outcome
    outer_target-ends (Place.There t) e s = paged_reached-ends (record { steps = s; place = e })
    outer_target-ends {page} Place.Window e s =
        picked (Ends (outer m u q).cells) (is_fetch q) _ _ (λ t. violation (window_by_fetch s e t))
        (λ t. windowed-ends (record { page = page; steps = s; place = e; no_fetch = t }))
    outer_target-ends Place.Nowhere e s = violation (nowhere s e)

    outer_ruled-ends :
        (g : Result ℕ Fault) → Keys q.op (watches (job u q).core.fetch q) (outer m u q).entry g → Asked m u q
        → Ends (outer m u q).cells (outer_ruled m (job u q) (outer m u q).entry g)
    unfolding outer_ruled outer_fault faulted run outcome
    outer_ruled-ends (Err f) h s = violation (keys_refuse s h)
    outer_ruled-ends (Ok page) h s = outer_target-ends (place_of u.cells.size (length m) (outer_at q page)) refl (record { steps = s; keys = h })

    paged_from-ends : Paged m u q → Ends u.cells (paged_from m (job u q))
    unfolding paged_from outer_fault faulted run outcome
    paged_from-ends s =
        picked (Ends u.cells) (odd_word q.width q.addr) _ _ (λ e. violation (odd s e))
        (λ e. outer_ruled-ends _ (judged-keys q.op (watches (job u q).core.fetch q) (outer m u q).entry) (record { steps = s; even = e }))

    after_wait-ends :
        (d : Due) → due_of u.core q ≡ d → well_shaped (length m) q ≡ true → Ends u.cells (after_wait m u.cells.size u.core u.maps q d)
    unfolding after_wait refused sequenced run outcome
    after_wait-ends Due.Steps e s =
        picked (Ends u.cells) (unpaged u.core.ktcs.fcn q.state) _ _ (unpaged_from-ends (record { shaped = s; due = e }))
        (λ t. paged_from-ends (record { steps = record { shaped = s; due = e }; mode = t }))
    after_wait-ends Due.OutOfTurn e s = late s e
    after_wait-ends Due.StatusStore e s = stored_status s e
    after_wait-ends Due.ProgramCounterStore e s = stored_program_counter s e
    after_wait-ends Due.FirstRead e s = first_read s e
    after_wait-ends Due.SecondRead e s = second_read s e

    accessed-ends : Ends u.cells (accessed m u.cells.size u.core u.maps q)
    unfolding accessed refused run outcome
    accessed-ends = picked (Ends u.cells) (well_shaped (length m) q) _ _ (after_wait-ends (due_of u.core q) refl) misshapen

-- Every call -------------------------------------------------------------------------------------------------------------

module _ (m : Memory) (u : Unit) (c : Call) where
  abbrev CallEnds : Prog → Type 0
  CallEnds p = Why m u c (run m u.maps p u.cells)

pub way : (m : Memory) (u : Unit) (q : Access) → Way m u q (decided m u (Call.Access q))
unfolding called
way m u q = accessed-ends m u q

pub why : Explained
unfolding called interrupt_of trap_of init_of refused sequenced run outcome
why m u (Call.Access q) = access (way m u q)
why m u Call.Interrupt =
    picked (CallEnds m u Call.Interrupt) (idle u.core.wait u.core.ktcs.fcn) _ _ interrupt_taken interrupt_late
why m u (Call.Trap v) =
    picked (CallEnds m u (Call.Trap v)) (vector_listed v) _ _
    (λ s. picked (CallEnds m u (Call.Trap v)) (idle u.core.wait u.core.ktcs.fcn) _ _ (taken_trap s) (trap_late s)) unlisted
why m u Call.Init = init

pub carried_out : CarriedOut
unfolding call_of
carried_out m u c = refl
