-- The usual access: nothing waited for, normal paging, no error flag, and an instruction under way that marks neither SS nor DS by itself.
use Rattle.std.specs.Prelude.{ℕ, ◌≡◌, Bool, true, false, not, ◌&&◌, ◌||◌, eqb, set, Option, IfSome}
use Rattle.rules.specs.declared.Kind.{Kind}
use Rattle.rules.specs.declared.Wait.{Wait}
use Rattle.rules.specs.declared.Fetch.{Fetch}
use Rattle.rules.specs.declared.Core.{Core}
use Rattle.rules.specs.declared.Maps.{Maps}
use Rattle.rules.specs.declared.Cells.{Cells}
use Rattle.rules.specs.declared.Access.{Access}
use Rattle.rules.specs.declared.Job.{Job}
use Rattle.rules.specs.declared.Effect.{Effect}
use Rattle.rules.specs.declared.Outcome.{Outcome}
use Rattle.rules.specs.Choice.{pick}
use Rattle.rules.specs.Memory.{Memory}
use Rattle.rules.specs.Registers.{ktic}
use Rattle.rules.specs.Status.{flags_clear, with_states}
use Rattle.rules.specs.Fetched.{kind_of, is_dato, one_more}
use Rattle.rules.specs.Steps.{well_shaped, odd_word}
use Rattle.rules.specs.Program.{Prog, run}
use Rattle.rules.specs.Calls.{maps_after, cells_after}

unfoldable pub is_idle : Wait → Bool
is_idle Wait.Nothing = true
is_idle Wait.StatusDue = false
is_idle Wait.ProgramCounterDue = false
is_idle Wait.SecondReadDue = false

unfoldable pub is_plain : Kind → Bool
is_plain Kind.Jsr = false
is_plain Kind.Rts = false
is_plain Kind.Rti = false
is_plain Kind.Trap = false
is_plain Kind.Privileged = false
is_plain Kind.EntryPoint = false
is_plain Kind.Other = true

-- of the unit alone
unfoldable pub calm : Core → Bool
calm c = is_idle c.wait && eqb c.ktcs.fcn 2 && flags_clear c.ktcs && is_plain (kind_of c.fetch.newer)

-- with the access: steps 1 and 5 pass
unfoldable pub usual : ℕ → Core → Access → Bool
usual len c q = calm c && (well_shaped len q && not (odd_word q.width q.addr))

-- step 4 of a usual fetch, and of another usual access
unfoldable pub fetch_noted : Core → Access → Core
fetch_noted c q =
    record { ktcs = with_states c.ktcs false false; kept = set c.kept ktic q.addr; wait = c.wait; fetch = c.fetch }

unfoldable pub other_fetch : Fetch → Access → Fetch
other_fetch f q =
    record { newer = f.newer; older = f.older; datos = pick (is_dato q) (one_more f.datos) f.datos; accesses = one_more f.accesses; public = f.public }

unfoldable pub other_noted : Core → Access → Core
other_noted c q =
    record {
      ktcs = with_states c.ktcs (c.ktcs.ss || eqb q.state 1) (c.ktcs.ds || eqb q.state 2);
      kept = c.kept;
      wait = c.wait;
      fetch = other_fetch c.fetch q;
    }

-- the job of an access, with a core, as many cells as these are, and any map registers
abbrev pub job_of : Access → Core → Cells → Maps → Job
job_of q c k r = record { q = q; core = c; maps = r; size = k.size }

-- an effect that leaves the map registers and the cells
pub record Quiet (e : Effect) : Type 0 where
  pub maps : (r : Maps) → maps_after e r ≡ r
  pub cells : (k : Cells) → cells_after e k ≡ k

-- What an outcome of the attempt owes: that the steps run so, with any map registers, and that only the core and memory change.
pub record IsOutcome (o : Outcome) (m : Memory) (p : Maps → Prog) (k : Cells) : Type 0 where
  pub runs : (r : Maps) → run m r (p r) k ≡ record { outcome = o; cells = k }
  pub quiet : Quiet o.effect

-- An attempt owes nothing where it gives no outcome.
abbrev pub Sound : Option Outcome → Memory → (Maps → Prog) → Cells → Type 0
Sound a m p k = IfSome a (λ o. IsOutcome o m p k)
