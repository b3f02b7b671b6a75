-- What answers 4 to 10, an interrupt, a trap and the sequence accesses do to the core (01, "Sequences").
use Rattle.std.specs.Prelude.{ℕ, Bool, true, false, not, ◌&&◌, List, eqb, ltb, set}
use Rattle.rules.specs.Types.{Ktcs, Fetch, Wait, Core, Access, Kind, Fault}
use Rattle.rules.specs.Choice.{pick}
use Rattle.rules.specs.Unit.{clear_fetch, with_ktcs, with_kept, vectors}
use Rattle.rules.specs.Status.{with_modes, with_flags}
use Rattle.rules.specs.Registers.{ktsp, ktpc, ktps, ktad, ktdt, among}
use Rattle.rules.specs.Fetched.{kind_of}

-- The wait for SERVICE -------------------------------------------------------------------------------------------------

-- What a violation, an interrupt and a trap share: "IU takes UM; UM clears; .. fetch memory clears; the unit waits for two SERVICE DATOs."
-- KTIC to KTDT, and KTCS but for its modes, are as given.
unfoldable pub service_awaited : Ktcs → List ℕ → Core
service_awaited s kept = record { ktcs = with_modes s s.fcn false s.um; kept = kept; wait = Wait.StatusDue; fetch = clear_fetch }

-- A violation ------------------------------------------------------------------------------------------------------------

-- "its flag is set (9 has none)", and 10 has none: "State changes are as for 9" (T-01)
unfoldable pub flagged : Ktcs → Fault → Ktcs
flagged s Fault.OddAddress = with_flags s s.rv s.pv s.wv true s.iv
flagged s Fault.NoMapWord = s
flagged s Fault.NotResident = with_flags s true s.pv s.wv s.av s.iv
flagged s Fault.NotWritable = with_flags s s.rv s.pv true s.av s.iv
flagged s Fault.NotPublic = with_flags s s.rv true s.wv s.av s.iv
flagged s Fault.NoTarget = s
flagged s (Fault.Forbidden w at) = with_flags s s.rv s.pv s.wv s.av true

-- "FCN 3 becomes 2"
unfoldable pub start_ended : Ktcs → Ktcs
start_ended s = with_modes s (pick (eqb s.fcn 3) 2 s.fcn) s.um s.iu

-- "KTDT the store's data .. else 0": what the data lines carry; DATO and DATOB are operations 2 and 3
unfoldable pub data_lines : Access → ℕ
data_lines q = pick (ltb q.op 2) 0 q.datum

-- "KTDT the store's data or, for 8, the fetched word, else 0"
unfoldable pub fault_data : Access → Fault → ℕ
fault_data q Fault.OddAddress = data_lines q
fault_data q Fault.NoMapWord = data_lines q
fault_data q Fault.NotResident = data_lines q
fault_data q Fault.NotWritable = data_lines q
fault_data q Fault.NotPublic = data_lines q
fault_data q Fault.NoTarget = data_lines q
fault_data q (Fault.Forbidden w at) = w

-- "KTAD takes the virtual address (for the inner window access KTAD stays)"
unfoldable pub address_kept : List ℕ → Bool → ℕ → List ℕ
address_kept kept inner a = pick inner kept (set kept ktad a)

-- KTAD and KTDT after answers 4 to 10
unfoldable pub lines_kept : List ℕ → Bool → ℕ → ℕ → List ℕ
lines_kept kept inner a d = set (address_kept kept inner a) ktdt d

-- "Any of answers 4-8, or a paged 9", of the core; and 10: "State changes are as for 9" (T-01)
unfoldable pub violated : Core → Access → Bool → Fault → Core
violated c q inner f = service_awaited (flagged (start_ended c.ktcs) f) (lines_kept c.kept inner q.addr (fault_data q f))

-- an unpaged 9: "unpaged: step 4, KTAD, KTDT"
unfoldable pub timed_out : Core → Access → Core
timed_out c q = with_kept c (lines_kept c.kept false q.addr (data_lines q))

-- The two SERVICE stores -------------------------------------------------------------------------------------------------

-- "The first puts data in KTPS"
unfoldable pub status_stored : Core → ℕ → Core
status_stored c v =
    record { ktcs = c.ktcs; kept = set c.kept ktps v; wait = Wait.ProgramCounterDue; fetch = c.fetch }

-- "the second puts address in KTSP and data in KTPC"
unfoldable pub program_counter_stored : Core → ℕ → ℕ → Core
program_counter_stored c a v =
    record { ktcs = c.ktcs; kept = set (set c.kept ktsp a) ktpc v; wait = Wait.Nothing; fetch = c.fetch }

-- The two START reads ----------------------------------------------------------------------------------------------------

-- after the first, the second is due: "the next two accesses other than a fetch must be word DATIs" (what they give is said by `after_wait` of
-- Order.antt)
unfoldable pub first_read_done : Core → Core
first_read_done c = record { ktcs = c.ktcs; kept = c.kept; wait = Wait.SecondReadDue; fetch = c.fetch }

-- "the second sets UM, FCN 2 and clears fetch memory"
unfoldable pub user_started : Core → Core
user_started c = record { ktcs = with_modes c.ktcs 2 true c.ktcs.iu; kept = c.kept; wait = Wait.Nothing; fetch = clear_fetch }

-- Interrupt and trap -----------------------------------------------------------------------------------------------------

-- "Interrupt: IU takes UM; from user mode UM clears, fetch memory clears, and the same wait begins."
unfoldable pub interrupted : Core → Core
interrupted c = pick c.ktcs.um (service_awaited c.ktcs c.kept) (with_ktcs c (with_modes c.ktcs c.ktcs.fcn false false))

-- "TRAP 104400-104777o"
unfoldable pub is_trap : Kind → Bool
is_trap Kind.Jsr = false
is_trap Kind.Rts = false
is_trap Kind.Rti = false
is_trap Kind.Trap = true
is_trap Kind.Privileged = false
is_trap Kind.EntryPoint = false
is_trap Kind.Other = false

-- whether the last two fetched words are both TRAP
unfoldable pub trap_twice : Fetch → Bool
trap_twice f = is_trap (kind_of f.newer) && is_trap (kind_of f.older)

-- "Trap from user mode: the same, except vector 34o when the last two fetched words are not both TRAP"
unfoldable pub trap_taken : Core → ℕ → Bool
trap_taken c v = c.ktcs.um && not (eqb v 0o34 && not (trap_twice c.fetch))

-- "that changes nothing. Trap from exec changes nothing."
unfoldable pub trapped : Core → ℕ → Core
trapped c v = pick (trap_taken c v) (service_awaited c.ktcs c.kept) c

-- a trap's shape: its vector is in the list
unfoldable pub vector_listed : ℕ → Bool
vector_listed v = among v vectors

-- "while waiting, another call than the one due (INIT excepted); FCN 3: interrupt, trap": whether an interrupt or a trap may come
unfoldable pub idle : Wait → ℕ → Bool
idle Wait.Nothing fcn = not (eqb fcn 3)
idle Wait.StatusDue fcn = false
idle Wait.ProgramCounterDue fcn = false
idle Wait.SecondReadDue fcn = false
