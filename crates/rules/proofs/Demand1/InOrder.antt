-- The tests of a call come out as its way to end says: the first that refuses gives the answer, and tells which page is at fault.
use Prim.Native.Nat.{ℕ}
use mathlib.Core.Bool.{Bool, true, false, not, ◌&&◌}
use mathlib.Core.Path.{◌≡◌, refl, sym, ◌∙◌}
use mathlib.Core.List.{List, [], ◌∷◌, ◌++◌}
use native.Mathlib.Omega.{arith}
use lib.ListN.{length}
use borrow.Author.Tests.{not-true}
use Rattle.std.specs.Prelude.{Result, Ok, Err}
use Rattle.rules.specs.Types.{Cells, Unit, Access, Call, Register, Target, Place, Entry, Fault, Answer, Job, Ran}
use Rattle.rules.specs.Choice.{pick}
use Rattle.rules.specs.Memory.{Memory}
use Rattle.rules.specs.Registers.{place_of}
use Rattle.rules.specs.Maps.{unpaged}
use Rattle.rules.specs.Fetched.{is_fetch}
use Rattle.rules.specs.Steps.{odd_word, watches, forbidden}
use Rattle.rules.specs.Order.{outcome, word_read, window_addr, stored_in, stored_at}
use Rattle.rules.specs.Calls.{settled, call_of}
use Rattle.rules.specs.Answers.{shown_as, shown}
use Rattle.rules.proofs.Laws.Choices.{both_true, picked}
use Rattle.rules.proofs.Promises.{job, outer, inner, page_named, outer_place, inner_physical, Test, test, first_of, all_pass, entry_tests, no_target, is_window, unpaged_tests, target_tests, outer_tests, inner_tests, paged_tests, tests_of, fault_inside, tag_at_fault, cells_looked, ByTests, AnsweredInOrder, Begun, Paged}
use Rattle.rules.proofs.Statements.Ways.{outer_at, inner_at, Keys, off-map, not_resident, not_writable, not_public, granted, at_exec_zero, Transfer, read, store}
use Rattle.rules.proofs.Statements.Ways.{UnpagedThere, Asked, Granted, PagedThere, Windowed, InnerGranted, InnerThere}
use Rattle.rules.proofs.Statements.Ways.{AtFault, odd, keys_refuse, nowhere, window_by_fetch, forbidden-word, inner-odd, inner_keys_refuse, inner-nowhere, window_on_window}
use Rattle.rules.proofs.Statements.Ways.{Way, misshapen, late, stored_status, stored_program_counter, first_read, second_read, unpaged-odd, unpaged-nowhere, unpaged-window, unpaged-fetch, unpaged-transfer, violation, fetch, transfer, inner-transfer}
use Rattle.rules.proofs.Statements.Ways.{Why, access, interrupt_late, interrupt_taken, unlisted, trap_late, taken_trap, init}
use Rattle.rules.proofs.Demand1.Why.{why}

-- Lists of tests ---------------------------------------------------------------------------------------------------------

first_append : (xs ys : List Test) (a : Answer) → first_of (xs ++ ys) a ≡ first_of xs (first_of ys a)
first_append [] ys a = refl
first_append (t ∷ xs) ys a = rw (first_append xs ys a)

pass_append : (xs ys : List Test) → all_pass xs ≡ true → all_pass (xs ++ ys) ≡ all_pass ys
pass_append [] ys e = refl
pass_append (t ∷ xs) ys e = let (p, r) = both_true (not t.refuses) (all_pass xs) e in rw (p, pass_append xs ys r)

pub pass_first : (ts : List Test) (a : Answer) → all_pass ts ≡ true → first_of ts a ≡ a
unfolding pick
pass_first [] a e = refl
pass_first (t ∷ ts) a e = let (p, r) = both_true (not t.refuses) (all_pass ts) e in rw (not-true t.refuses p) (pass_first ts a r)

-- where one gives a fault, not all pass
fault_refuses : (ts : List Test) (f : Fault) → first_of ts (Answer.Taken 0) ≡ Answer.Fault f → all_pass ts ≡ false
fault_refuses [] f = λ e. absurd (let z : ◌≡◌ {A = ℕ} 0 1 = cc in omega arith)
fault_refuses (t ∷ ts) f =
    picked (λ (a : Answer). a ≡ Answer.Fault f → all_pass (t ∷ ts) ≡ false) t.refuses _ _ (λ r e. rw r)
    (λ r e. rw (r, fault_refuses ts f e))

-- what the entry's tests come to, by what the keys say
abbrev ruled : Result ℕ Fault → Answer → Answer
ruled (Err f) a = Answer.Fault f
ruled (Ok page) a = a

keys_first :
    {op : ℕ} {watched : Bool} {e : Entry} {g : Result ℕ Fault} → Keys op watched e g → (a : Answer) → first_of (entry_tests op watched e) a ≡ ruled g a
unfolding pick
keys_first off-map a = refl
keys_first at_exec_zero a = refl
keys_first (not_resident r) a = rw r
keys_first (not_writable r l) a = rw (r, l)
keys_first (not_public r l h) a = rw (r, l, h)
keys_first (granted r l h) a = rw (r, l, h)

pub keys_pass :
    {op : ℕ} {watched : Bool} {e : Entry} {page : ℕ} → Keys op watched e (Ok page) → all_pass (entry_tests op watched e) ≡ true
keys_pass at_exec_zero = refl
keys_pass (granted r l h) = rw (r, l, h)

pub keys_page : {op : ℕ} {watched : Bool} {e : Entry} {page : ℕ} → Keys op watched e (Ok page) → page_named e ≡ page
keys_page at_exec_zero = refl
keys_page (granted r l h) = refl

-- A paged access ---------------------------------------------------------------------------------------------------------

-- all that comes to these points is paged
module _ {m : Memory} {u : Unit} {q : Access} where
  pub granted_paged : {page : ℕ} → Granted m u q page → Paged m u q
  granted_paged s = s.steps.steps

  pub windowed-paged : Windowed m u q → Paged m u q
  windowed-paged s = granted_paged s.steps

  pub inner_granted_paged : {page : ℕ} → InnerGranted m u q page → Paged m u q
  inner_granted_paged s = windowed-paged s.steps.steps

  pub fault_paged : {f : Fault} {window : Bool} {tag : ℕ} {k : Cells} → AtFault m u q f window tag k → Paged m u q
  fault_paged (odd s e) = s
  fault_paged (keys_refuse s h) = s.steps
  fault_paged (nowhere s e) = granted_paged s
  fault_paged (window_by_fetch s e t) = granted_paged s
  fault_paged (forbidden-word s t r e) = granted_paged s.steps
  fault_paged (inner-odd s e) = windowed-paged s
  fault_paged (inner_keys_refuse s h) = windowed-paged s.steps
  fault_paged (inner-nowhere s e) = inner_granted_paged s
  fault_paged (window_on_window s e) = inner_granted_paged s

  -- and a fault inside a window is one after it
  fault_windowed : {f : Fault} {tag : ℕ} {k : Cells} → AtFault m u q f true tag k → Windowed m u q
  fault_windowed (inner-odd s e) = s
  fault_windowed (inner_keys_refuse s h) = s.steps
  fault_windowed (inner-nowhere s e) = s.steps.steps
  fault_windowed (window_on_window s e) = s.steps.steps

-- a window's inner access at an even address: its entry's tests, and its target's
module _ (m : Memory) (u : Unit) (q : Access) where
  pub inner_asked_first :
      odd_word q.width (window_addr (job u q)) ≡ false → (a : Answer)
      → first_of (inner_tests m u q) a
      ≡ first_of (entry_tests q.op false (inner m u q).entry)
      (first_of (test (no_target true (place_of u.cells.size (length m) (inner_physical m u q))) (Answer.Fault Fault.NoTarget) ∷ []) a)
  unfolding pick
  inner_asked_first e a = rw e (first_append (entry_tests q.op false (inner m u q).entry) _ a)

module _ {m : Memory} {u : Unit} {q : Access} where
  pub asked_first :
      Asked m u q → (a : Answer)
      → first_of (outer_tests m u q) a
      ≡ first_of (entry_tests q.op (watches (job u q).core.fetch q) (outer m u q).entry) (first_of (target_tests m u q) a)
  unfolding pick
  asked_first s a = rw s.even (first_append (entry_tests q.op (watches (job u q).core.fetch q) (outer m u q).entry) (target_tests m u q) a)

  granted_first : {page : ℕ} → Granted m u q page → (a : Answer) → first_of (outer_tests m u q) a ≡ first_of (target_tests m u q) a
  granted_first s a = asked_first s.steps a ∙ keys_first s.keys (first_of (target_tests m u q) a)

  pub outer-place : {page : ℕ} → Granted m u q page → outer_place m u q ≡ place_of u.cells.size (length m) (outer_at q page)
  outer-place s = rw (keys_page s.keys)

  outer-fault : {f : Fault} {tag : ℕ} {k : Cells} → AtFault m u q f false tag k → (a : Answer) → first_of (outer_tests m u q) a ≡ Answer.Fault f
  unfolding pick
  outer-fault (odd s e) a = rw e
  outer-fault (keys_refuse s h) a = asked_first s a ∙ keys_first h (first_of (target_tests m u q) a)
  outer-fault (nowhere s e) a = granted_first s a ∙ rw (outer-place s, e)
  outer-fault (window_by_fetch s e t) a = granted_first s a ∙ rw (outer-place s, e, t)
  outer-fault (forbidden-word s t r e) a =
      granted_first s.steps a ∙ rw (keys_page s.steps.keys, s.place, keys_page s.steps.keys, t, r, e)

  pub windowed-pass : Windowed m u q → all_pass (outer_tests m u q) ≡ true
  unfolding pick
  windowed-pass s =
      rw s.steps.steps.even
      (pass_append (entry_tests q.op (watches (job u q).core.fetch q) (outer m u q).entry) (target_tests m u q) (keys_pass s.steps.keys)
      ∙ rw (outer-place s.steps, s.place, s.no_fetch))

  inner_granted_first :
      {page : ℕ} → InnerGranted m u q page → (a : Answer)
      → first_of (inner_tests m u q) a ≡ pick (no_target true (place_of u.cells.size (length m) (inner_at u q page))) (Answer.Fault Fault.NoTarget) a
  inner_granted_first s a = inner_asked_first m u q s.steps.even a ∙ keys_first s.keys _ ∙ rw (keys_page s.keys)

  inner-fault : {f : Fault} {tag : ℕ} {k : Cells} → AtFault m u q f true tag k → (a : Answer) → first_of (inner_tests m u q) a ≡ Answer.Fault f
  unfolding pick
  inner-fault (inner-odd s e) a = rw e
  inner-fault (inner_keys_refuse s h) a = inner_asked_first m u q s.even a ∙ keys_first h _
  inner-fault (inner-nowhere s e) a = inner_granted_first s a ∙ rw e
  inner-fault (window_on_window s e) a = inner_granted_first s a ∙ rw e

  -- The page at fault, and the cells that step 6 left, by the tests ------------------------------------------------------

  pub inside_so : {f : Fault} {window : Bool} {tag : ℕ} {k : Cells} → AtFault m u q f window tag k → fault_inside m u q ≡ window
  inside_so {f} {window = false} r = fault_refuses (outer_tests m u q) f (outer-fault r (Answer.Taken 0))
  inside_so {window = true} r = windowed-pass (fault_windowed r)

  pub tag-so : {f : Fault} {window : Bool} {tag : ℕ} {k : Cells} → AtFault m u q f window tag k → tag_at_fault m u q ≡ tag
  unfolding pick
  tag-so (odd s e) = rw (inside_so (odd s e))
  tag-so (keys_refuse s h) = rw (inside_so (keys_refuse s h))
  tag-so (nowhere s e) = rw (inside_so (nowhere s e))
  tag-so (window_by_fetch s e t) = rw (inside_so (window_by_fetch s e t))
  tag-so (forbidden-word s t r e) = rw (inside_so (forbidden-word s t r e))
  tag-so (inner-odd s e) = rw (inside_so (inner-odd s e))
  tag-so (inner_keys_refuse s h) = rw (inside_so (inner_keys_refuse s h))
  tag-so (inner-nowhere s e) = rw (inside_so (inner-nowhere s e))
  tag-so (window_on_window s e) = rw (inside_so (window_on_window s e))

  pub cells-so : {f : Fault} {window : Bool} {tag : ℕ} {k : Cells} → AtFault m u q f window tag k → cells_looked m u q ≡ k
  unfolding pick
  cells-so (odd s e) = rw e
  cells-so (keys_refuse s h) = rw (inside_so (keys_refuse s h), s.even)
  cells-so (nowhere s e) = rw (inside_so (nowhere s e), s.steps.even)
  cells-so (window_by_fetch s e t) = rw (inside_so (window_by_fetch s e t), s.steps.even)
  cells-so (forbidden-word s t r e) = rw (inside_so (forbidden-word s t r e), s.steps.steps.even)
  cells-so (inner-odd s e) = rw (inside_so (inner-odd s e), s.steps.steps.even, e)
  cells-so (inner_keys_refuse s h) = rw (inside_so (inner_keys_refuse s h), s.steps.steps.steps.even, s.even)
  cells-so (inner-nowhere s e) = rw (inside_so (inner-nowhere s e), s.steps.steps.steps.steps.even, s.steps.even)
  cells-so (window_on_window s e) = rw (inside_so (window_on_window s e), s.steps.steps.steps.steps.even, s.steps.even)

  -- The whole access -----------------------------------------------------------------------------------------------------

  pub begun_first :
      Begun m u q → (a : Answer)
      → first_of (tests_of m u (Call.Access q)) a
      ≡ first_of (pick (unpaged u.core.ktcs.fcn q.state) (unpaged_tests m u q) (paged_tests m u q)) a
  unfolding pick
  begun_first s a = rw (s.shaped, s.due)

  pub paged_first :
      Paged m u q → (a : Answer)
      → first_of (tests_of m u (Call.Access q)) a
      ≡ first_of (outer_tests m u q) (first_of (pick (is_window (outer_place m u q)) (inner_tests m u q) []) a)
  unfolding pick
  paged_first s a = begun_first s.steps a ∙ rw s.mode (first_append (outer_tests m u q) _ a)

  pub inner_first :
      Paged m u q → all_pass (outer_tests m u q) ≡ true → outer_place m u q ≡ Place.Window → (a : Answer)
      → first_of (tests_of m u (Call.Access q)) a ≡ first_of (inner_tests m u q) a
  unfolding pick
  inner_first s p w a = paged_first s a ∙ pass_first (outer_tests m u q) _ p ∙ rw w

  windowed-first : Windowed m u q → (a : Answer) → first_of (tests_of m u (Call.Access q)) a ≡ first_of (inner_tests m u q) a
  windowed-first s a = inner_first (windowed-paged s) (windowed-pass s) (outer-place s.steps ∙ s.place) a

  fault_first :
      {f : Fault} {window : Bool} {tag : ℕ} {k : Cells} → AtFault m u q f window tag k → (a : Answer)
      → first_of (tests_of m u (Call.Access q)) a ≡ Answer.Fault f
  fault_first {window = false} r a = paged_first (fault_paged r) a ∙ outer-fault r _
  fault_first {window = true} r a = windowed-first (fault_windowed r) a ∙ inner-fault r a

  unpaged_there_first : {t : Target} → UnpagedThere m u q t → (a : Answer) → first_of (tests_of m u (Call.Access q)) a ≡ a
  unfolding pick
  unpaged_there_first s a =
      begun_first s.steps.steps a ∙ rw (s.steps.mode, s.steps.even, s.place)

  -- a paged access whose target is there, and whose word is not forbidden where it is fetched
  there-first :
      {page : ℕ} {t : Target} → PagedThere m u q page t
      → (is_fetch q && forbidden (job u q).core (outer m u q).entry (word_read m (job u q) (outer m u q).cells (outer_at q page) t)) ≡ false
      → (a : Answer) → first_of (tests_of m u (Call.Access q)) a ≡ a
  unfolding pick
  there-first s e a =
      paged_first (granted_paged s.steps) a
      ∙ granted_first s.steps _
      ∙ rw (keys_page s.steps.keys, s.place, keys_page s.steps.keys, e)

  inner_there_first : {page : ℕ} {t : Target} → InnerThere m u q page t → (a : Answer) → first_of (tests_of m u (Call.Access q)) a ≡ a
  unfolding pick
  inner_there_first s a =
      windowed-first s.steps.steps.steps a ∙ inner_granted_first s.steps a ∙ rw s.place

-- Every call -------------------------------------------------------------------------------------------------------------

-- answered by the first test that refuses, and by one that is done
module _ {ts : List Test} where
  refused-so : {a : Answer} → first_of ts (Answer.Taken 0) ≡ a → ByTests ts a
  unfolding shown shown_as
  refused-so e = record { passed = Answer.Taken 0; zero = refl; first = sym e }

  done-so : {a : Answer} → (shown a).number ≡ 0 → first_of ts a ≡ a → ByTests ts a
  done-so {a} z e = record { passed = a; zero = z; first = sym e }

  transfer_so :
      {m : Memory} {j : Job} {k : Cells} {at : ℕ} {t : Target} {d : Ran} → Transfer m j k at t d → ((a : Answer) → first_of ts a ≡ a)
      → ByTests ts d.outcome.answer
  unfolding outcome stored_in stored_at shown shown_as
  transfer_so (read e) h = done-so refl (h _)
  transfer_so {t = Target.Memory} (store e) h = done-so refl (h _)
  transfer_so {t = Target.In (Register.Operating g)} (store e) h = done-so refl (h _)
  transfer_so {t = Target.In (Register.Associative g)} (store e) h = done-so refl (h _)

module _ {m : Memory} {u : Unit} where
  way_so : {q : Access} {d : Ran} → Way m u q d → ByTests (tests_of m u (Call.Access q)) d.outcome.answer
  unfolding pick shown shown_as
  way_so (misshapen e) = refused-so (rw e)
  way_so (late s e) = refused-so (rw (s, e))
  way_so (stored_status s e) = done-so refl (rw (s, e))
  way_so (stored_program_counter s e) = done-so refl (rw (s, e))
  way_so (first_read s e) = done-so refl (rw (s, e))
  way_so (second_read s e) = done-so refl (rw (s, e))
  way_so (unpaged-odd s t e) = refused-so (begun_first s _ ∙ rw (t, e))
  way_so (unpaged-nowhere s e) = refused-so (begun_first s.steps _ ∙ rw (s.mode, s.even, e))
  way_so (unpaged-window s e) = refused-so (begun_first s.steps _ ∙ rw (s.mode, s.even, e))
  way_so (unpaged-fetch s t r) = done-so refl (unpaged_there_first s _)
  way_so (unpaged-transfer s e t) = transfer_so t (unpaged_there_first s)
  way_so (violation r) = refused-so (fault_first r _)
  way_so (fetch s t r e) = done-so refl (there-first s (rw (t, r, e)) _)
  way_so (transfer s e t) = transfer_so t (there-first s (rw e))
  way_so (inner-transfer s t) = transfer_so t (inner_there_first s)

  why_so : {c : Call} {d : Ran} → Why m u c d → ByTests (tests_of m u c) d.outcome.answer
  unfolding pick shown shown_as
  why_so (access w) = way_so w
  why_so (interrupt_late e) = refused-so (rw e)
  why_so (interrupt_taken e) = done-so refl (rw e)
  why_so (unlisted e) = refused-so (rw e)
  why_so (trap_late s e) = refused-so (rw (s, e))
  why_so (taken_trap s e) = done-so refl (rw (s, e))
  why_so init = done-so refl refl

pub answered_in_order : AnsweredInOrder
unfolding call_of settled
answered_in_order m u c = why_so (why m u c)
