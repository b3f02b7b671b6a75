-- What a call does beside its answer and the core goes by its answer: every way to end, with its effect.
use Prim.Native.Nat.{ℕ, ◌%◌, ◌<◌}
use mathlib.Core.Bool.{true, false, not, ◌&&◌, ◌||◌}
use mathlib.Core.Path.{◌≡◌}
use native.Mathlib.Omega.{arith}
use lib.Dec.{eqb, ltb, lit<}
use lib.ListN.{length}
use borrow.Author.Tests.{ltb-true, ltb-false, eqb-true, eqb-false, not-true, not-false}
use Rattle.rules.specs.Types.{Cells, Unit, Access, Call, Operating, Associative, Register, Target, Place, Part, Answer, Ran}
use Rattle.rules.specs.Memory.{Memory, good_length}
use Rattle.rules.specs.Registers.{place_of, part_of}
use Rattle.rules.specs.Fetched.{is_fetch, is_dato}
use Rattle.rules.specs.Steps.{listed, word_dati, ill_fitting, well_shaped}
use Rattle.rules.specs.Order.{outcome, operating_effect, associative_effect, memory_effect, stored_in, stored_at}
use Rattle.rules.specs.Answers.{shown_as, shown}
use Rattle.rules.proofs.Laws.Choices.{both_true, both_false, second_false, picked}
use Rattle.rules.proofs.Promises.{job}
use Rattle.rules.proofs.Statements.Ways.{Transfer, read, store}
use Rattle.rules.proofs.Statements.Ways.{Way, misshapen, late, stored_status, stored_program_counter, first_read, second_read, unpaged-odd, unpaged-nowhere, unpaged-window, unpaged-fetch, unpaged-transfer, violation, fetch, transfer, inner-transfer}
use Rattle.rules.proofs.Statements.Ways.{Why, access, interrupt_late, interrupt_taken, unlisted, trap_late, taken_trap, init}
use Rattle.rules.proofs.Statements.Ways.{operating, associative, Stores, word_store, byte_store, ktmr_store, ktcs_store, kept_store, ktum_store, ktem_store, pad_store}
use Rattle.rules.proofs.Statements.Ways.{Does, after-refusal, after_unpaged_time_out, after-fault, after-init, after-interrupt, after-trap, after-sequence, after_read, after_store, EffectsByAnswer}
use Rattle.rules.proofs.Demand1.InOrder.{granted_paged, inner_granted_paged}
use Rattle.rules.proofs.Demand1.Ended.{op_listed}
use Rattle.rules.proofs.Demand1.Why.{why}

-- "FETCH not a word DATI" is refused: a fetch that comes to its steps reads
pub fetch_reads : (len : ℕ) (q : Access) → well_shaped len q ≡ true → is_fetch q ≡ true → q.op < 2
unfolding well_shaped ill_fitting is_dato word_dati
fetch_reads len q s e =
    let (l, _) = both_true _ (good_length len) s in
    let (_, f) = both_true (listed q) (not (ill_fitting q)) l in
    let (_, n) = both_false ((eqb q.op 2 && eqb q.width 1) || (eqb q.op 3 && eqb q.width 0)) _ (not-true (ill_fitting q) f) in
    let w : word_dati q ≡ true = not-false _ (second_false (is_fetch q) (not (word_dati q)) n e) in
    omega (arith, eqb-true q.op 0 (both_true (eqb q.op 0) (eqb q.width 0) w).0)

-- into memory: operation 3 stores a byte, and the other operation that stores, 2, a word
memory-stores :
    (len : ℕ) (u : Unit) (q : Access) (at : ℕ) → well_shaped len q ≡ true → ltb q.op 2 ≡ false
    → Stores u q at Target.Memory (memory_effect (part_of q.op at) at q.datum)
unfolding part_of memory_effect
memory-stores len u q at s e =
    picked IsStored (eqb q.op 3) _ _
    (λ t. picked IsStored (eqb (at % 2) 0) _ _ (λ l. byte_store (eqb-true q.op 3 t)) (λ h. byte_store (eqb-true q.op 3 t)))
    (λ t. word_store (omega (arith, op_listed len q s, ltb-false q.op 2 e, eqb-false q.op 3 t)))
  where
    IsStored : Part → Type 0
    IsStored p = Stores u q at Target.Memory (memory_effect p at q.datum)

-- and into a register what its own rule says
module _ (u : Unit) (q : Access) (at : ℕ) where
  operating-stores : (g : Operating) → Stores u q at (operating g) (operating_effect u.maps (part_of q.op at) q.datum g)
  unfolding operating_effect
  operating-stores Operating.Ktcs = ktcs_store
  operating-stores (Operating.Kept i) = kept_store
  operating-stores Operating.Ktum = ktum_store
  operating-stores Operating.Ktem = ktem_store

  associative-stores : (g : Associative) → Stores u q at (associative g) (associative_effect (part_of q.op at) q.datum g)
  unfolding associative_effect
  associative-stores Associative.Ktmr = ktmr_store
  associative-stores (Associative.Pad i) = pad_store

module _ {m : Memory} {u : Unit} where
  transfer_does :
      {q : Access} {k : Cells} {at : ℕ} {t : Target} {d : Ran} → well_shaped (length m) q ≡ true → place_of u.cells.size (length m) at ≡ Place.There t
      → Transfer m (job u q) k at t d
      → Does m u (Call.Access q) d.outcome.answer d.outcome.effect
  unfolding outcome stored_in stored_at
  transfer_does {q} s p (read e) = after_read (ltb-true q.op 2 e)
  transfer_does {q} {at} {t = Target.Memory} s p (store e) = after_store (ltb-false q.op 2 e) p (memory-stores (length m) u q at s e)
  transfer_does {q} {at} {t = Target.In (Register.Operating g)} s p (store e) =
      after_store (ltb-false q.op 2 e) p (operating-stores u q at g)
  transfer_does {q} {at} {t = Target.In (Register.Associative g)} s p (store e) =
      after_store (ltb-false q.op 2 e) p (associative-stores u q at g)

  access_does : {q : Access} {d : Ran} → Way m u q d → Does m u (Call.Access q) d.outcome.answer d.outcome.effect
  unfolding shown shown_as
  access_does (misshapen e) = after-refusal {a = Answer.Misshapen} (λ z. omega arith) (lit< tt)
  access_does (late s e) = after-refusal {a = Answer.NotDue} (λ z. omega arith) (lit< tt)
  access_does (stored_status s e) = after-sequence
  access_does (stored_program_counter s e) = after-sequence
  access_does (first_read s e) = after-sequence
  access_does (second_read s e) = after-sequence
  access_does (unpaged-odd s t e) = after-refusal {a = Answer.UnpagedOdd} (λ z. omega arith) (lit< tt)
  access_does (unpaged-nowhere s e) = after_unpaged_time_out s.mode
  access_does (unpaged-window s e) = after_unpaged_time_out s.mode
  access_does {q} (unpaged-fetch s t r) = after_read (fetch_reads (length m) q s.steps.steps.shaped t)
  access_does (unpaged-transfer s e t) = transfer_does s.steps.steps.shaped s.place t
  access_does (violation r) = after-fault r
  access_does {q} (fetch s t r e) = after_read (fetch_reads (length m) q (granted_paged s.steps).steps.shaped t)
  access_does (transfer s e t) = transfer_does (granted_paged s.steps).steps.shaped s.place t
  access_does (inner-transfer s t) = transfer_does (inner_granted_paged s.steps).steps.shaped s.place t

  call-does : {c : Call} {d : Ran} → Why m u c d → Does m u c d.outcome.answer d.outcome.effect
  unfolding shown shown_as
  call-does (access w) = access_does w
  call-does (interrupt_late e) = after-refusal {a = Answer.NotDue} (λ z. omega arith) (lit< tt)
  call-does (interrupt_taken e) = after-interrupt
  call-does (unlisted e) = after-refusal {a = Answer.Misshapen} (λ z. omega arith) (lit< tt)
  call-does (trap_late s e) = after-refusal {a = Answer.NotDue} (λ z. omega arith) (lit< tt)
  call-does (taken_trap s e) = after-trap
  call-does init = after-init

pub effects_by_answer : EffectsByAnswer
effects_by_answer m u c = call-does (why m u c)
