-- What an interrupt, a trap and INIT leave alone.
use Prim.Native.Nat.{ℕ}
use mathlib.Core.Bool.{Bool, true, false, true≢false, and-eq-true_iff, and-false}
use mathlib.Core.Path.{◌≡◌, refl}
use Rattle.rules.specs.Types.{Fetch, Wait, Core, Unit, Call, Answer, Effect, Ran}
use Rattle.rules.specs.Choice.{pick}
use Rattle.rules.specs.Memory.{Memory}
use Rattle.rules.specs.Unit.{with_ktcs, init_core}
use Rattle.rules.specs.Status.{with_modes}
use Rattle.rules.specs.Sequences.{service_awaited, interrupted, trap_twice, trap_taken, trapped}
use Rattle.rules.specs.Program.{run}
use Rattle.rules.specs.Order.{outcome}
use Rattle.rules.specs.Calls.{init_of, called, maps_after, cells_after, memory_after, settled, call_of}
use Rattle.rules.proofs.Demand1.CellStores.{emptied-reloads}
use Rattle.rules.proofs.Laws.Choices.{picked}
use Rattle.rules.proofs.Promises.{ModesOnly, InterruptKeeps, InterruptLeaves, TrapLeaves, ExecTrapUnchanged, OtherTrapUnchanged, InitLeaves}
use Rattle.rules.proofs.Statements.Ways.{ending, Why, interrupt_late, interrupt_taken, unlisted, trap_late, taken_trap}
use Rattle.rules.proofs.Demand1.Why.{why}

-- a core with other modes, and from user mode another wait and fetch memory
modes_only :
    (c : Core) (um iu : Bool) (w : Wait) (f : Fetch) → (c.ktcs.um ≡ false → um ≡ false) → (c.ktcs.um ≡ false → w ≡ c.wait)
    → (c.ktcs.um ≡ false → f ≡ c.fetch)
    → ModesOnly c (record { ktcs = with_modes c.ktcs c.ktcs.fcn um iu; kept = c.kept; wait = w; fetch = f })
unfolding with_modes
modes_only c um iu w f hu hw hf =
    record {
      registers = refl;
      fcn = refl;
      ss = refl;
      ds = refl;
      rv = refl;
      pv = refl;
      wv = refl;
      av = refl;
      iv = refl;
      exec_um = hu;
      exec_wait = hw;
      exec_fetch = hf;
    }

core-same : (c : Core) → ModesOnly c c
unfolding with_modes
core-same c = modes_only c c.ktcs.um c.ktcs.iu c.wait c.fetch (λ e. e) (λ e. refl) (λ e. refl)

left-keeps : (c : Core) → c.ktcs.um ≡ true → ModesOnly c (service_awaited c.ktcs c.kept)
unfolding service_awaited
left-keeps c h = modes_only c _ _ _ _ (λ e. refl) (λ e. absurd (true≢false (cc))) (λ e. absurd (true≢false (cc)))

interrupted-keeps : (c : Core) → ModesOnly c (interrupted c)
unfolding interrupted with_ktcs
interrupted-keeps c =
    picked (ModesOnly c) c.ktcs.um _ _ (left-keeps c) (λ e. modes_only c _ _ _ _ (λ h. refl) (λ h. refl) (λ h. refl))

trapped-keeps : (c : Core) (v : ℕ) → ModesOnly c (trapped c v)
unfolding trapped trap_taken
trapped-keeps c v =
    picked (ModesOnly c) (trap_taken c v) _ _ (λ e. left-keeps c ((and-eq-true_iff c.ktcs.um _).0 e).0) (λ e. core-same c)

-- a trap that is not taken leaves the core
exec_trapped : (c : Core) (v : ℕ) → c.ktcs.um ≡ false → trapped c v ≡ c
unfolding trapped trap_taken pick
exec_trapped c v e = rw e

other_trapped : (c : Core) → trap_twice c.fetch ≡ false → trapped c 0o34 ≡ c
unfolding trapped trap_taken pick
other_trapped c e = rw (e, and-false)

module _ {m : Memory} {u : Unit} where
  kept_ending : (a : Answer) (c : Core) → ModesOnly u.core c → InterruptKeeps m u (settled m u.maps (ending a c Effect.Keep u.cells))
  unfolding settled maps_after cells_after memory_after
  kept_ending a c h = record { memory = refl; maps = refl; cells = refl; core = h }

  interrupt_keeps : {d : Ran} → Why m u Call.Interrupt d → InterruptKeeps m u (settled m u.maps d)
  interrupt_keeps (interrupt_late e) = kept_ending _ _ (core-same u.core)
  interrupt_keeps (interrupt_taken e) = kept_ending _ _ (interrupted-keeps u.core)

  trap_keeps : {v : ℕ} {d : Ran} → Why m u (Call.Trap v) d → InterruptKeeps m u (settled m u.maps d)
  trap_keeps (unlisted e) = kept_ending _ _ (core-same u.core)
  trap_keeps (trap_late s e) = kept_ending _ _ (core-same u.core)
  trap_keeps {v} (taken_trap s e) = kept_ending _ _ (trapped-keeps u.core v)

  idle-trap : {v : ℕ} {d : Ran} → Why m u (Call.Trap v) d → trapped u.core v ≡ u.core → (settled m u.maps d).reply.unit ≡ u
  unfolding settled maps_after cells_after
  idle-trap (unlisted e) h = refl
  idle-trap (trap_late s e) h = refl
  idle-trap (taken_trap s e) h = rw h

pub interrupt_leaves : InterruptLeaves
unfolding call_of
interrupt_leaves m u = interrupt_keeps (why m u Call.Interrupt)

pub trap_leaves : TrapLeaves
unfolding call_of
trap_leaves m u v = trap_keeps (why m u (Call.Trap v))

pub exec_trap_unchanged : ExecTrapUnchanged
unfolding call_of
exec_trap_unchanged m u v e = idle-trap (why m u (Call.Trap v)) (exec_trapped u.core v e)

pub other_trap_unchanged : OtherTrapUnchanged
unfolding call_of
other_trap_unchanged m u e = idle-trap (why m u (Call.Trap 0o34)) (other_trapped u.core e)

pub init_leaves : InitLeaves
unfolding call_of called init_of run outcome settled maps_after memory_after cells_after init_core
init_leaves m u = record { memory = refl; maps = refl; registers = refl; cells = emptied-reloads u.cells }
