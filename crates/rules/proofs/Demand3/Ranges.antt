-- The ranges that every call keeps of any unit, also of one that no run reaches: the counts are at most 2, and the counter names a cell.
use Prim.Native.Nat.{ℕ, ◌≤◌}
use mathlib.Core.Path.{◌≡◌, refl}
use mathlib.Core.Bool.{Bool, ◌&&◌}
use native.Mathlib.Omega.{arith}
use Rattle.rules.specs.Types.{Fetch, Core, Cells, Unit, Access, Call, Operating, Register, Target, Part, Job, Ran}
use Rattle.rules.specs.Memory.{Memory}
use Rattle.rules.specs.Unit.{clear_fetch, with_ktcs, with_kept, with_fetch, init_core}
use Rattle.rules.specs.Status.{flags_clear}
use Rattle.rules.specs.Fetched.{is_fetch, is_dato, counted, normal, instruction_noted, marked, noted, states_marked, after_fetch}
use Rattle.rules.specs.Sequences.{service_awaited, violated, timed_out, status_stored, program_counter_stored, first_read_done, user_started, interrupted, trap_taken, trapped}
use Rattle.rules.specs.Order.{outcome, core_stored, stored_in, stored_at}
use Rattle.rules.specs.Calls.{settled, call_of}
use Rattle.rules.proofs.Laws.Choices.{picked}
use Rattle.rules.proofs.Laws.CoreLaws.{one_more-most}
use Rattle.rules.proofs.Promises.{NamesCell}
use Rattle.rules.proofs.Laws.Counter.{run-names, effect-names}
use Rattle.rules.proofs.Statements.Ways.{Transfer, read, store}
use Rattle.rules.proofs.Statements.Ways.{Way, misshapen, late, stored_status, stored_program_counter, first_read, second_read, unpaged-odd, unpaged-nowhere, unpaged-window, unpaged-fetch, unpaged-transfer, violation, fetch, transfer, inner-transfer}
use Rattle.rules.proofs.Statements.Ways.{Why, access, interrupt_late, interrupt_taken, unlisted, trap_late, taken_trap, init}
use Rattle.rules.proofs.Demand1.Why.{why}

-- The counts -------------------------------------------------------------------------------------------------------------

pub record SmallCounts (f : Fetch) : Type 0 where
  pub datos : f.datos ≤ 2
  pub accesses : f.accesses ≤ 2

clear_small : SmallCounts clear_fetch
unfolding clear_fetch
clear_small = record { datos = omega arith; accesses = omega arith }

after_small : (f : Fetch) (w : ℕ) (flag : Bool) → SmallCounts (after_fetch f w flag)
unfolding after_fetch
after_small f w flag = record { datos = omega arith; accesses = omega arith }

counted-small : (q : Access) (f : Fetch) → SmallCounts f → SmallCounts (counted q f)
unfolding counted
counted-small q f h =
    picked SmallCounts (is_fetch q) _ _ (λ t. h)
    (λ t. record {
      datos = picked (λ (x : ℕ). x ≤ 2) (is_dato q) _ _ (λ t₁. one_more-most f.datos) (λ t₁. h.datos);
      accesses = one_more-most f.accesses;
    })

-- step 4 moves no more of the fetch memory than the counts
noted-fetch : (c : Core) (q : Access) → (noted c q).fetch ≡ counted q c.fetch
unfolding noted marked instruction_noted with_ktcs with_kept with_fetch
noted-fetch c q =
    picked (λ (d : Core). d.fetch ≡ counted q c.fetch) (flags_clear c.ktcs) _ _
    (λ t. picked (λ (d : Core). (with_ktcs d (states_marked c.ktcs c.fetch q)).fetch ≡ counted q c.fetch) (is_fetch q && normal c.ktcs q) _ _
    (λ t₁. refl) (λ t₁. refl)) (λ t. refl)

noted_small : (c : Core) (q : Access) → SmallCounts c.fetch → SmallCounts (noted c q).fetch
noted_small c q h = rw (noted-fetch c q) (counted-small q c.fetch h)

stored-fetch : (c : Core) (p : Part) (v : ℕ) (g : Operating) → (core_stored c p v g).fetch ≡ c.fetch
unfolding core_stored with_ktcs with_kept
stored-fetch c p v Operating.Ktcs = refl
stored-fetch c p v (Operating.Kept i) = refl
stored-fetch c p v Operating.Ktum = refl
stored-fetch c p v Operating.Ktem = refl

transfer_small :
    {m : Memory} {j : Job} {k : Cells} {at : ℕ} {t : Target} {d : Ran} → SmallCounts j.core.fetch → Transfer m j k at t d
    → SmallCounts d.outcome.core.fetch
unfolding outcome stored_in stored_at
transfer_small h (read e) = h
transfer_small {t = Target.Memory} h (store e) = h
transfer_small {t = Target.In (Register.Operating g)} h (store e) = rw stored-fetch h
transfer_small {t = Target.In (Register.Associative g)} h (store e) = h

module _ {m : Memory} {u : Unit} (h : SmallCounts u.core.fetch) where
  way_small : {q : Access} {d : Ran} → Way m u q d → SmallCounts d.outcome.core.fetch
  unfolding status_stored program_counter_stored first_read_done user_started timed_out with_kept with_fetch violated service_awaited
  way_small (misshapen e) = h
  way_small (late s e) = h
  way_small (stored_status s e) = h
  way_small (stored_program_counter s e) = h
  way_small (first_read s e) = h
  way_small (second_read s e) = clear_small
  way_small (unpaged-odd s t e) = h
  way_small {q} (unpaged-nowhere s e) = noted_small u.core q h
  way_small {q} (unpaged-window s e) = noted_small u.core q h
  way_small (unpaged-fetch s t r) = after_small _ _ _
  way_small {q} (unpaged-transfer s e t) = transfer_small (noted_small u.core q h) t
  way_small (violation r) = clear_small
  way_small (fetch s t r e) = after_small _ _ _
  way_small {q} (transfer s e t) = transfer_small (noted_small u.core q h) t
  way_small {q} (inner-transfer s t) = transfer_small (noted_small u.core q h) t

  why_small : {c : Call} {d : Ran} → Why m u c d → SmallCounts d.outcome.core.fetch
  unfolding interrupted trapped service_awaited with_ktcs init_core
  why_small (access w) = way_small w
  why_small (interrupt_late e) = h
  why_small (interrupt_taken e) =
      picked (λ (c : Core). SmallCounts c.fetch) u.core.ktcs.um _ _ (λ t. clear_small) (λ t. h)
  why_small (unlisted e) = h
  why_small (trap_late s e) = h
  why_small (taken_trap {v} s e) =
      picked (λ (c : Core). SmallCounts c.fetch) (trap_taken u.core v) _ _ (λ t. clear_small) (λ t. h)
  why_small init = clear_small

-- Both -------------------------------------------------------------------------------------------------------------------

pub record InRange (n : ℕ) (u : Unit) : Type 0 where
  pub counts : SmallCounts u.core.fetch
  pub cells : NamesCell n u.cells

pub call_in_range : {n : ℕ} (m : Memory) (u : Unit) (c : Call) → InRange n u → InRange n (call_of m u c).reply.unit
unfolding call_of settled
call_in_range {n} m u c h =
    record { counts = why_small h.counts (why m u c); cells = effect-names n _ _ (run-names n m u.maps _ u.cells h.cells) }
