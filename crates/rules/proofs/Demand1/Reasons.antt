-- The two reasons: a call is answered 10 exactly where a walk ran off memory, and 9 exactly where its target is not there.
use Prim.Native.Nat.{ℕ}
use mathlib.Core.Bool.{Bool, true, false}
use mathlib.Core.Path.{◌≡◌, refl, sym, ◌∙◌}
use mathlib.Core.Logic.{◌≢◌}
use native.Mathlib.Omega.{arith}
use lib.ListN.{length, get_or}
use Rattle.std.specs.Prelude.{Option, Some, None, Err}
use Rattle.rules.specs.Types.{Maps, Cells, Unit, Access, Call, Walked, Entry, Looked, Fault, Answer, Ran}
use Rattle.rules.specs.Choice.{pick}
use Rattle.rules.specs.Memory.{Memory}
use Rattle.rules.specs.Registers.{ktad, place_of}
use Rattle.rules.specs.Maps.{page_of, exec_zero, exec_zero_entry, walk_of, entry_of, tag_of, cell_of, missed, sought_in, looked}
use Rattle.rules.specs.Fetched.{is_fetch}
use Rattle.rules.specs.Steps.{odd_word, watches}
use Rattle.rules.specs.Order.{window_addr}
use Rattle.rules.specs.Calls.{settled, call_of}
use Rattle.rules.specs.Answers.{shown_as, fault_shown, shown}
use Rattle.rules.proofs.Laws.Choices.{picked}
use Rattle.rules.proofs.Laws.CellsLaws.{found_has_tag, missing_has_none}
use Rattle.rules.proofs.Laws.Pages.{tag-other}
use Rattle.rules.proofs.Promises.{job, outer, inner, first_of, entry_tests, no_target, tests_of, number_of, Paged, RanOff, OuterRanOff, GoesInside, InnerRanOff, WalkRanOff, outer-walk, inner-walk, UnpagedNowhere, OuterNowhere, InnerNowhere, TargetNowhere, unpaged-target, outer-target, inner-target, TwoReasons}
use Rattle.rules.proofs.Statements.Ways.{outer_at, inner_at, Keys, off-map, not_resident, not_writable, not_public, Granted, InnerAsked, InnerGranted, AtFault, keys_refuse, nowhere, window_by_fetch, inner_keys_refuse, inner-nowhere, window_on_window}
use Rattle.rules.proofs.Demand1.Why.{why}
use Rattle.rules.proofs.Demand1.InOrder.{pass_first, inner_first, keys_pass, keys_page, windowed-paged, inner_granted_paged, asked_first, inner_asked_first, outer-place, windowed-pass, begun_first, paged_first, answered_in_order}
use Rattle.rules.proofs.Demand1.Kept.{step4_leaves}
use Rattle.rules.proofs.Demand1.Ended.{Ended, as_it_was, accepted, by_time_out, violated-at, ended}

-- The look-up ------------------------------------------------------------------------------------------------------------

-- the entry is off the map exactly where the page is not exec page 0, no cell holds it and its walk ran off memory
module _ (m : Memory) (r : Maps) (user : Bool) (p : ℕ) (k : Cells) where
  off_map_so : (looked m r user p k).entry ≡ Entry.OffMap → (exec_zero user p ≡ false) × RanOff m r k user p
  unfolding looked exec_zero_entry sought_in missed entry_of
  off_map_so =
      picked (λ (l : Looked). l.entry ≡ Entry.OffMap → (exec_zero user p ≡ false) × RanOff m r k user p) (exec_zero user p) _ _
      (λ z e. absurd (let n : ◌≡◌ {A = ℕ} 0 1 = cc in omega arith)) (λ z e. (z, sought z (cell_of k (tag_of user p)) refl e))
    where
      by_walk : exec_zero user p ≡ false → cell_of k (tag_of user p) ≡ None → (w : Option Walked) → walk_of m r user p ≡ w
          → entry_of w ≡ Entry.OffMap → RanOff m r k user p
      by_walk z f (Some w) h e = absurd (let n : ◌≡◌ {A = ℕ} 0 1 = cc in omega arith)
      by_walk z f None h e = record { no_cell = missing_has_none k (tag_of user p) f (tag-other user p z); walk = h }

      sought : exec_zero user p ≡ false → (x : Option ℕ) → cell_of k (tag_of user p) ≡ x → (sought_in m r user p k x).entry ≡ Entry.OffMap
          → RanOff m r k user p
      sought z (Some i) f e = absurd (let n : ◌≡◌ {A = ℕ} 0 1 = cc in omega arith)
      sought z None f e = by_walk z f (walk_of m r user p) refl e

  so_off_map : exec_zero user p ≡ false → RanOff m r k user p → (looked m r user p k).entry ≡ Entry.OffMap
  unfolding looked sought_in missed entry_of pick
  so_off_map z o = rw z (sought (cell_of k (tag_of user p)) refl)
    where
      sought : (x : Option ℕ) → cell_of k (tag_of user p) ≡ x → (sought_in m r user p k x).entry ≡ Entry.OffMap
      sought (Some i) f = absurd (o.no_cell i (found_has_tag k i (tag_of user p) f))
      sought None f = rw o.walk

-- What step 4 leaves: the mode and KTAD ----------------------------------------------------------------------------------

module _ (u : Unit) (q : Access) where
  mode_stays : (job u q).core.ktcs.um ≡ u.core.ktcs.um
  mode_stays = (step4_leaves u.core q).ktcs.only.um

  window_address : window_addr (job u q) ≡ get_or u.core.kept ktad 0
  unfolding window_addr
  window_address = (step4_leaves u.core q).registers.others ktad (λ e. omega arith)

-- From the number to the reason ------------------------------------------------------------------------------------------

keys_off : {op : ℕ} {watched : Bool} {e : Entry} → Keys op watched e (Err Fault.NoMapWord) → e ≡ Entry.OffMap
keys_off off-map = refl

keys_there : {op : ℕ} {watched : Bool} {e : Entry} {f : Fault} → Keys op watched e (Err f) → (fault_shown f).number ≢ 9
unfolding fault_shown shown_as
keys_there off-map n = omega arith
keys_there (not_resident r) n = omega arith
keys_there (not_writable r l) n = omega arith
keys_there (not_public r l h) n = omega arith

module _ {m : Memory} {u : Unit} {q : Access} where
  goes_inside : InnerAsked m u q → GoesInside m u q
  goes_inside s =
      record {
        passes = windowed-pass s.steps;
        window = outer-place s.steps.steps ∙ s.steps.place;
        no_fetch = s.steps.no_fetch;
        even = rw (sym (window_address u q)) s.even;
      }

  off-fault : {window : Bool} {tag : ℕ} {k : Cells} → AtFault m u q Fault.NoMapWord window tag k → WalkRanOff m u (Call.Access q)
  off-fault (keys_refuse s h) =
      let (z, o) = off_map_so m u.maps (job u q).core.ktcs.um (page_of q.addr) u.cells (keys_off h) in
      outer-walk s.steps
      (record { even = s.even; not_exec_zero = rw (sym (mode_stays u q)) z; ran_off = rw (sym (mode_stays u q)) o })
  off-fault (inner_keys_refuse s h) =
      let (_, o) = off_map_so m u.maps true (page_of (window_addr (job u q))) (outer m u q).cells (keys_off h) in
      inner-walk (windowed-paged s.steps) (record { inside = goes_inside s; ran_off = rw (sym (window_address u q)) o })

  outer-nowhere :
      {page : ℕ} → Granted m u q page → no_target (is_fetch q) (place_of u.cells.size (length m) (outer_at q page)) ≡ true
      → TargetNowhere m u (Call.Access q)
  outer-nowhere s e =
      outer-target s.steps.steps (record { even = s.steps.even; passes = keys_pass s.keys; nowhere = rw (outer-place s) e })

  inner_target_nowhere :
      {page : ℕ} → InnerGranted m u q page → no_target true (place_of u.cells.size (length m) (inner_at u q page)) ≡ true
      → TargetNowhere m u (Call.Access q)
  inner_target_nowhere s e =
      inner-target (inner_granted_paged s)
      (record { inside = goes_inside s.steps; passes = keys_pass s.keys; nowhere = rw (keys_page s.keys) e })

  target_fault : {window : Bool} {tag : ℕ} {k : Cells} → AtFault m u q Fault.NoTarget window tag k → TargetNowhere m u (Call.Access q)
  unfolding fault_shown shown_as
  target_fault (keys_refuse s h) = absurd (keys_there h refl)
  target_fault (nowhere s e) = outer-nowhere s (rw e)
  target_fault (window_by_fetch s e t) = outer-nowhere s (rw (e, t))
  target_fault (inner_keys_refuse s h) = absurd (keys_there h refl)
  target_fault (inner-nowhere s e) = inner_target_nowhere s (rw e)
  target_fault (window_on_window s e) = inner_target_nowhere s (rw e)

-- the two faults by their numbers
fault_told : (f : Fault) → ((fault_shown f).number ≡ 10 → f ≡ Fault.NoMapWord) × ((fault_shown f).number ≡ 9 → f ≡ Fault.NoTarget)
unfolding fault_shown shown_as
fault_told Fault.OddAddress = (λ n. absurd (omega arith), λ n. absurd (omega arith))
fault_told Fault.NoMapWord = (λ n. refl, λ n. absurd (omega arith))
fault_told Fault.NotResident = (λ n. absurd (omega arith), λ n. absurd (omega arith))
fault_told Fault.NotWritable = (λ n. absurd (omega arith), λ n. absurd (omega arith))
fault_told Fault.NotPublic = (λ n. absurd (omega arith), λ n. absurd (omega arith))
fault_told Fault.NoTarget = (λ n. absurd (omega arith), λ n. refl)
fault_told (Fault.Forbidden w at) = (λ n. absurd (omega arith), λ n. absurd (omega arith))

module _ {m : Memory} {u : Unit} where
  ended-ten : {c : Call} {d : Ran} → Ended m u c d → (shown d.outcome.answer).number ≡ 10 → WalkRanOff m u c
  unfolding shown fault_shown shown_as
  ended-ten (as_it_was h) n = absurd (omega arith)
  ended-ten (accepted z s) n = absurd (omega arith)
  ended-ten (by_time_out s) n = absurd (omega arith)
  ended-ten (violated-at {f} e s) n = off-fault (rw ((fault_told f).0 n) at s)

  ended-nine : {c : Call} {d : Ran} → Ended m u c d → (shown d.outcome.answer).number ≡ 9 → TargetNowhere m u c
  unfolding shown
  ended-nine (as_it_was h) n = absurd (omega arith)
  ended-nine (accepted z s) n = absurd (omega arith)
  ended-nine (by_time_out s) n = unpaged-target s
  ended-nine (violated-at {f} e s) n = target_fault (rw ((fault_told f).1 n) at s)

-- From the reason to the number ------------------------------------------------------------------------------------------

module _ (m : Memory) (u : Unit) (c : Call) (f : Fault) where
  -- the tests come to a fault, whatever is answered where all pass
  abbrev ComesTo : Type 0
  ComesTo = (a : Answer) → first_of (tests_of m u c) a ≡ Answer.Fault f

  by_tests : ComesTo → number_of (call_of m u c) ≡ (fault_shown f).number
  unfolding shown
  by_tests h = let s = answered_in_order m u c in rw (s.first ∙ h s.passed)

module _ {m : Memory} {u : Unit} where
  module _ {q : Access} where
    outer_off_first : Paged m u q → OuterRanOff m u q → ComesTo m u (Call.Access q) Fault.NoMapWord
    unfolding pick
    outer_off_first g o a =
        paged_first g a
        ∙ asked_first (record { steps = g; even = o.even }) _
        ∙ rw (so_off_map m u.maps (job u q).core.ktcs.um (page_of q.addr) u.cells (rw (mode_stays u q) o.not_exec_zero) (rw (mode_stays u q) o.ran_off))

    inside_even : GoesInside m u q → odd_word q.width (window_addr (job u q)) ≡ false
    inside_even i = rw (window_address u q) i.even

    inner_off_first : Paged m u q → InnerRanOff m u q → ComesTo m u (Call.Access q) Fault.NoMapWord
    unfolding pick exec_zero
    inner_off_first g o a =
        inner_first g o.inside.passes o.inside.window a
        ∙ inner_asked_first m u q (inside_even o.inside) a
        ∙ rw (so_off_map m u.maps true (page_of (window_addr (job u q))) (outer m u q).cells refl (rw (window_address u q) o.ran_off))

    unpaged_nowhere_first : UnpagedNowhere m u q → ComesTo m u (Call.Access q) Fault.NoTarget
    unfolding pick
    unpaged_nowhere_first n a = begun_first n.steps.steps a ∙ rw (n.steps.mode, n.steps.even, n.nowhere)

    outer_nowhere_first : Paged m u q → OuterNowhere m u q → ComesTo m u (Call.Access q) Fault.NoTarget
    unfolding pick
    outer_nowhere_first g n a =
        paged_first g a
        ∙ asked_first (record { steps = g; even = n.even }) _
        ∙ pass_first (entry_tests q.op (watches (job u q).core.fetch q) (outer m u q).entry) _ n.passes
        ∙ rw n.nowhere

    inner_nowhere_first : Paged m u q → InnerNowhere m u q → ComesTo m u (Call.Access q) Fault.NoTarget
    unfolding pick
    inner_nowhere_first g n a =
        inner_first g n.inside.passes n.inside.window a
        ∙ inner_asked_first m u q (inside_even n.inside) a
        ∙ pass_first (entry_tests q.op false (inner m u q).entry) _ n.passes
        ∙ rw n.nowhere

  off-ten : {c : Call} → WalkRanOff m u c → number_of (call_of m u c) ≡ 10
  unfolding fault_shown shown_as
  off-ten (outer-walk g o) = by_tests m u _ Fault.NoMapWord (outer_off_first g o)
  off-ten (inner-walk g o) = by_tests m u _ Fault.NoMapWord (inner_off_first g o)

  nowhere_nine : {c : Call} → TargetNowhere m u c → number_of (call_of m u c) ≡ 9
  unfolding fault_shown shown_as
  nowhere_nine (unpaged-target n) = by_tests m u _ Fault.NoTarget (unpaged_nowhere_first n)
  nowhere_nine (outer-target g n) = by_tests m u _ Fault.NoTarget (outer_nowhere_first g n)
  nowhere_nine (inner-target g n) = by_tests m u _ Fault.NoTarget (inner_nowhere_first g n)

pub two-reasons : TwoReasons
unfolding call_of settled
two-reasons =
    record {
      walk = λ m u c. (ended-ten (ended (why m u c)), off-ten);
      target = λ m u c. (ended-nine (ended (why m u c)), nowhere_nine);
    }
