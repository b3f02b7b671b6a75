-- The four sorts of ending, out of the ways to end: unchanged, accepted, an unpaged time-out, a violation. What every call leaves follows.
use Prim.Native.Nat.{ℕ, ◌%◌, ◌<◌}
use mathlib.Core.Bool.{Bool, true, false, ◌&&◌, true≢false, and-eq-true_iff}
use mathlib.Core.Path.{◌≡◌, refl}
use mathlib.Core.Logic.{◌≢◌}
use native.Mathlib.Omega.{arith}
use lib.Dec.{eqb, ltb, lit<}
use lib.ListN.{length, length-set}
use borrow.Author.Tests.{ltb-true, ltb-false, eqb-true, eqb-false}
use Rattle.std.specs.Prelude.{None}
use Rattle.rules.specs.Types.{Core, Cells, Unit, Access, Call, Operating, Associative, Register, Target, Part, Fault, Answer, Returned, Effect, Ran}
use Rattle.rules.specs.Memory.{Memory, store_word, store_byte}
use Rattle.rules.specs.Unit.{with_kept}
use Rattle.rules.specs.Registers.{part_of}
use Rattle.rules.specs.Maps.{unpaged}
use Rattle.rules.specs.Steps.{well_shaped, listed}
use Rattle.rules.specs.Sequences.{flagged, fault_data, violated, timed_out}
use Rattle.rules.specs.Order.{outcome, operating_effect, associative_effect, memory_effect, stored_in, stored_at}
use Rattle.rules.specs.Calls.{maps_after, cells_after, memory_after, settled, call_of}
use Rattle.rules.specs.Answers.{shown_as, fault_shown, shown}
use Rattle.rules.proofs.Laws.Choices.{picked}
use Rattle.rules.proofs.Promises.{NumbersOfSteps, job, Numbered, BareRefusals, MemoryUntouched, LengthKept, RefusedUnchanged, UnpagedTimeOut, UnpagedRefusal, Violation, PagedRefusal, AsForNine, UnpagedNowhere}
use Rattle.rules.proofs.Statements.Ways.{ending, unchanged, time_out, fault_ending, Transfer, read, store, AtFault}
use Rattle.rules.proofs.Statements.Ways.{Way, misshapen, late, stored_status, stored_program_counter, first_read, second_read, unpaged-odd, unpaged-nowhere, unpaged-window, unpaged-fetch, unpaged-transfer, violation, fetch, transfer, inner-transfer}
use Rattle.rules.proofs.Statements.Ways.{Why, access, interrupt_late, interrupt_taken, unlisted, trap_late, taken_trap, init, Stored, nothing, word, byte, StoredOnly}
use Rattle.rules.proofs.Demand1.Why.{why}
use Rattle.rules.proofs.Demand1.InOrder.{granted_paged, inner_granted_paged, fault_paged, inside_so, tag-so, cells-so}
use Rattle.rules.proofs.Demand1.Kept.{step4_leaves, timed_out_count, timed_out_registers, violated-keeps, forgotten-keeps}

pub data Ended (m : Memory) (u : Unit) : Call → Ran → Type 0 where
  as_it_was : {c : Call} {a : Answer} → (shown a).number < 4 → Ended m u c (unchanged u a)
  accepted :
      {c : Call} {a : Answer} {core : Core} {e : Effect} {k : Cells} → (shown a).number ≡ 0 → Stored m c a (memory_after e m)
      → Ended m u c (ending a core e k)
  by_time_out :
      {q : Access} → UnpagedNowhere m u q → Ended m u (Call.Access q) (time_out u q)
  violated-at :
      {q : Access} {f : Fault} {window : Bool} {tag : ℕ} {k : Cells} → unpaged u.core.ktcs.fcn q.state ≡ false
      → AtFault m u q f window tag k
      → Ended m u (Call.Access q) (fault_ending u q f window tag k)

-- A store: its operation is listed and not below 2, so it is 2 or 3 --------------------------------------------------------

and_first : (a b : Bool) → (a && b) ≡ true → a ≡ true
and_first a b e = ((and-eq-true_iff a b).0 e).0

pub op_listed : (len : ℕ) (q : Access) → well_shaped len q ≡ true → q.op < 4
unfolding well_shaped listed
op_listed len q s = ltb-true _ _ (and_first _ _ (and_first _ _ (and_first _ _ (and_first _ _ s))))

stored :
    (m : Memory) (q : Access) (at : ℕ) → well_shaped (length m) q ≡ true → ltb q.op 2 ≡ false
    → Stored m (Call.Access q) (Answer.Done 0 at) (memory_after (memory_effect (part_of q.op at) at q.datum) m)
unfolding part_of memory_effect memory_after
stored m q at s e =
    picked IsStoredPart (eqb q.op 3) _ _
    (λ t. picked IsStoredPart (eqb (at % 2) 0) _ _ (λ l. byte (eqb-true q.op 3 t)) (λ h. byte (eqb-true q.op 3 t)))
    (λ t. word {q = q} (omega (arith, op_listed (length m) q s, ltb-false q.op 2 e, eqb-false q.op 3 t)))
  where
    IsStoredPart : Part → Type 0
    IsStoredPart p = Stored m (Call.Access q) (Answer.Done 0 at) (memory_after (memory_effect p at q.datum) m)

-- Each way to end is of one of the sorts ----------------------------------------------------------------------------------

module _ {m : Memory} {u : Unit} where
  transfer_ended :
      {q : Access} {k : Cells} {at : ℕ} {t : Target} {d : Ran} → well_shaped (length m) q ≡ true → Transfer m (job u q) k at t d
      → Ended m u (Call.Access q) d
  unfolding outcome operating_effect associative_effect stored_in stored_at memory_after shown shown_as
  transfer_ended s (read e) = accepted refl nothing
  transfer_ended {q} {at} {t = Target.Memory} s (store e) = accepted refl (stored m q at s e)
  transfer_ended {t = Target.In (Register.Operating Operating.Ktcs)} s (store e) = accepted refl nothing
  transfer_ended {t = Target.In (Register.Operating (Operating.Kept i))} s (store e) = accepted refl nothing
  transfer_ended {t = Target.In (Register.Operating Operating.Ktum)} s (store e) = accepted refl nothing
  transfer_ended {t = Target.In (Register.Operating Operating.Ktem)} s (store e) = accepted refl nothing
  transfer_ended {t = Target.In (Register.Associative Associative.Ktmr)} s (store e) = accepted refl nothing
  transfer_ended {t = Target.In (Register.Associative (Associative.Pad i))} s (store e) = accepted refl nothing

  access_ended : {q : Access} {d : Ran} → Way m u q d → Ended m u (Call.Access q) d
  unfolding memory_after shown shown_as
  access_ended (misshapen e) = as_it_was (lit< tt)
  access_ended (late s e) = as_it_was (lit< tt)
  access_ended (stored_status s e) = accepted refl nothing
  access_ended (stored_program_counter s e) = accepted refl nothing
  access_ended (first_read s e) = accepted refl nothing
  access_ended (second_read s e) = accepted refl nothing
  access_ended (unpaged-odd s t e) = as_it_was (lit< tt)
  access_ended (unpaged-nowhere s e) = by_time_out (record { steps = s; nowhere = rw e })
  access_ended (unpaged-window s e) = by_time_out (record { steps = s; nowhere = rw e })
  access_ended (unpaged-fetch s t r) = accepted refl nothing
  access_ended (unpaged-transfer s e t) = transfer_ended s.steps.steps.shaped t
  access_ended (violation r) = violated-at (fault_paged r).mode r
  access_ended (fetch s t r e) = accepted refl nothing
  access_ended (transfer s e t) = transfer_ended (granted_paged s.steps).steps.shaped t
  access_ended (inner-transfer s t) = transfer_ended (inner_granted_paged s.steps).steps.shaped t

  pub ended : {c : Call} {d : Ran} → Why m u c d → Ended m u c d
  unfolding memory_after shown shown_as
  ended (access w) = access_ended w
  ended (interrupt_late e) = as_it_was (lit< tt)
  ended (interrupt_taken e) = accepted refl nothing
  ended (unlisted e) = as_it_was (lit< tt)
  ended (trap_late s e) = as_it_was (lit< tt)
  ended (taken_trap s e) = accepted refl nothing
  ended init = accepted refl nothing

-- What follows ------------------------------------------------------------------------------------------------------------

fault_number : (f : Fault) → (3 < (fault_shown f).number) × ((fault_shown f).number < 11)
unfolding fault_shown shown_as
fault_number Fault.OddAddress = (lit< tt, lit< tt)
fault_number Fault.NoMapWord = (lit< tt, lit< tt)
fault_number Fault.NotResident = (lit< tt, lit< tt)
fault_number Fault.NotWritable = (lit< tt, lit< tt)
fault_number Fault.NotPublic = (lit< tt, lit< tt)
fault_number Fault.NoTarget = (lit< tt, lit< tt)
fault_number (Fault.Forbidden w at) = (lit< tt, lit< tt)

answer-number : (a : Answer) → (shown a).number < 11
unfolding shown shown_as
answer-number (Answer.Done w at) = lit< tt
answer-number (Answer.Taken w) = lit< tt
answer-number Answer.Misshapen = lit< tt
answer-number Answer.NotDue = lit< tt
answer-number Answer.UnpagedOdd = lit< tt
answer-number (Answer.Fault f) = (fault_number f).1

-- what comes back with no data and no physical address
abbrev IsBare : Returned → Type 0
IsBare r = r ≡ record { number = r.number; datum = 0; physical = None }

fault_bare : (f : Fault) → (fault_shown f).number ≢ 8 → IsBare (fault_shown f)
unfolding fault_shown shown_as
fault_bare Fault.OddAddress n = refl
fault_bare Fault.NoMapWord n = refl
fault_bare Fault.NotResident n = refl
fault_bare Fault.NotWritable n = refl
fault_bare Fault.NotPublic n = refl
fault_bare Fault.NoTarget n = refl
fault_bare (Fault.Forbidden w at) n = absurd (n refl)

answer-bare : (a : Answer) → (shown a).number ≢ 0 → (shown a).number ≢ 8 → IsBare (shown a)
unfolding shown shown_as
answer-bare (Answer.Done w at) z n = absurd (z refl)
answer-bare (Answer.Taken w) z n = absurd (z refl)
answer-bare Answer.Misshapen z n = refl
answer-bare Answer.NotDue z n = refl
answer-bare Answer.UnpagedOdd z n = refl
answer-bare (Answer.Fault f) z n = fault_bare f n

module _ {m : Memory} where
  stored-untouched : {c : Call} {a : Answer} {n : Memory} → Stored m c a n → (shown a).number ≢ 0 → n ≡ m
  unfolding shown shown_as
  stored-untouched nothing h = refl
  stored-untouched (word e) h = absurd (h refl)
  stored-untouched (byte e) h = absurd (h refl)

  stored-length : {c : Call} {a : Answer} {n : Memory} → Stored m c a n → length n ≡ length m
  unfolding store_word store_byte
  stored-length nothing = refl
  stored-length (word e) = simp length-set
  stored-length (byte e) = simp length-set

module _ {m : Memory} {u : Unit} where
  ended-stored : {c : Call} {d : Ran} → Ended m u c d → Stored m c d.outcome.answer (memory_after d.outcome.effect m)
  unfolding memory_after
  ended-stored (as_it_was h) = nothing
  ended-stored (accepted e s) = s
  ended-stored (by_time_out s) = nothing
  ended-stored (violated-at e s) = nothing

  ended-unchanged :
      {c : Call} {d : Ran} → Ended m u c d → (shown d.outcome.answer).number ≢ 0 → (shown d.outcome.answer).number < 4
      → (settled m u.maps d).reply.unit ≡ u
  unfolding settled maps_after cells_after shown fault_shown shown_as
  ended-unchanged (as_it_was h) n l = refl
  ended-unchanged (accepted e s) n l = absurd (n e)
  ended-unchanged (by_time_out s) n l = absurd (omega arith)
  ended-unchanged (violated-at {f} e s) n l = absurd (omega (arith, (fault_number f).0))

  ended-unpaged :
      {q : Access} {d : Ran} → Ended m u (Call.Access q) d → unpaged u.core.ktcs.fcn q.state ≡ true
      → 3 < (shown d.outcome.answer).number → UnpagedTimeOut u q (settled m u.maps d)
  unfolding settled maps_after cells_after shown fault_shown shown_as timed_out with_kept
  ended-unpaged (as_it_was h) t l = absurd (omega arith)
  ended-unpaged (accepted e s) t l = absurd (omega arith)
  ended-unpaged {q} (by_time_out s) t l =
      record {
        number = refl;
        core = refl;
        maps = refl;
        cells = refl;
        ktcs = refl;
        count = timed_out_count u.core q;
        registers = timed_out_registers u.core q t;
        wait = (step4_leaves u.core q).wait;
        fetch = refl;
      }
  ended-unpaged (violated-at e s) t l = absurd (true≢false (cc))

  ended-paged :
      {q : Access} {d : Ran} → Ended m u (Call.Access q) d → unpaged u.core.ktcs.fcn q.state ≡ false
      → 3 < (shown d.outcome.answer).number → Violation m u q (settled m u.maps d)
  unfolding settled maps_after cells_after
  ended-paged (as_it_was h) t l = absurd (omega arith)
  ended-paged (accepted e s) t l = absurd (omega arith)
  ended-paged (by_time_out s) t l = absurd (true≢false (let e = s.steps.mode in cc))
  ended-paged {q} (violated-at {f} {window} {tag} {k} e s) t l =
      record {
        fault = f;
        answer = refl;
        core = rw (inside_so s);
        maps = refl;
        cells = rw (tag-so s, cells-so s);
        keeps = rw (inside_so s) (violated-keeps u.core q window f);
        others = rw (tag-so s, cells-so s) (forgotten-keeps k tag);
      }

pub numbers_of_steps : NumbersOfSteps
unfolding shown fault_shown shown_as
numbers_of_steps =
    record {
      shape = refl;
      wait = refl;
      unpaged-odd = refl;
      paged_odd = refl;
      walk = refl;
      residency = refl;
      write_key = refl;
      privacy = refl;
      target = refl;
      fetched-word = λ w at. refl;
    }

pub numbered : Numbered
numbered m u c = answer-number (call_of m u c).reply.answer

pub bare-refusals : BareRefusals
bare-refusals m u c = answer-bare (call_of m u c).reply.answer

pub stored-only : StoredOnly
unfolding call_of settled
stored-only m u c = ended-stored (ended (why m u c))

pub memory-untouched : MemoryUntouched
memory-untouched m u c = stored-untouched (stored-only m u c)

pub length_kept : LengthKept
length_kept m u c = stored-length (stored-only m u c)

pub refused-unchanged : RefusedUnchanged
unfolding call_of settled
refused-unchanged m u c = ended-unchanged (ended (why m u c))

pub unpaged-refusal : UnpagedRefusal
unfolding call_of settled
unpaged-refusal m u q = ended-unpaged (ended (why m u (Call.Access q)))

pub paged_refusal : PagedRefusal
unfolding call_of settled
paged_refusal m u q = ended-paged (ended (why m u (Call.Access q)))

pub as_for_nine : AsForNine
unfolding violated flagged fault_data
as_for_nine c q window = refl
