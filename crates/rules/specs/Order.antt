-- An access as the sequence of its steps (01, "Order in one access"): from its last pieces to the whole.
use Rattle.std.specs.Prelude.{ℕ, Bool, true, false, ltb, length, get_or, set, Result, Ok, Err}
use Rattle.rules.specs.Types.{Fetch, Core, Maps, Size, Cells, Access, Operating, Associative, Register, Target, Place, Part, Entry, Due, Fault, Answer, Effect, Outcome, Job}
use Rattle.rules.specs.Choice.{pick}
use Rattle.rules.specs.Memory.{Memory, word_at, even_of}
use Rattle.rules.specs.Unit.{with_ktcs, with_kept, with_fetch}
use Rattle.rules.specs.Status.{ktcs_stored}
use Rattle.rules.specs.Registers.{ktad, ktpc, ktps, place_of, part_of, merged, operating_word, peeked}
use Rattle.rules.specs.Maps.{unpaged, unpaged_at, page_of, physical_at, tag_of}
use Rattle.rules.specs.Fetched.{is_fetch, noted, after_fetch}
use Rattle.rules.specs.Steps.{well_shaped, due_of, odd_word, judged, watches, public_page, forbidden}
use Rattle.rules.specs.Sequences.{violated, timed_out, status_stored, program_counter_stored, first_read_done, user_started}
use Rattle.rules.specs.Program.{Prog, done, ask, peek}

-- Endings ----------------------------------------------------------------------------------------------------------------

-- what a call decides: its answer, the new core, and what is to be done
unfoldable pub outcome : Answer → Core → Effect → Outcome
outcome a c e = record { answer = a; core = c; effect = e }

-- answers 1, 2 and 3, which change nothing
unfoldable pub refused : Core → Answer → Prog
refused c a = done (outcome a c Effect.Keep)

-- answers 4 to 8, 10 and a paged 9: the sequence, and "the cell of the page at fault .. empties"; `inner` for a window's inner access
unfoldable pub faulted : Job → Bool → ℕ → Fault → Prog
faulted j inner tag f = done (outcome (Answer.Fault f) (violated j.core j.q inner f) (Effect.Forget tag))

-- the page of the access's own address at fault
unfoldable pub outer_fault : Job → Fault → Prog
outer_fault j f = faulted j false (tag_of j.core.ktcs.um (page_of j.q.addr)) f

-- Reading and storing at a target ----------------------------------------------------------------------------------------

-- Where a read gets its word: it is at hand, or the cells have to tell it.
pub data Source : Type 0 where
  at-hand : ℕ → Source
  in_cells : Associative → Source

-- a register: the cells answer for it, or the rest of the unit
unfoldable pub source_in : Core → Maps → Register → Source
source_in c r (Register.Operating g) = at-hand (operating_word c r g)
source_in c r (Register.Associative g) = in_cells g

-- "Reads give the whole word at the even address."
unfoldable pub source_at : Memory → Job → ℕ → Target → Source
source_at m j at Target.Memory = at-hand (word_at m (even_of at))
source_at m j at (Target.In g) = source_in j.core j.maps g

-- the read, and what is done with the word
unfoldable pub read_from : Source → (ℕ → Prog) → Prog
read_from (at-hand w) f = f w
read_from (in_cells g) f = peek g f

-- the read at a target
unfoldable pub read_at : Memory → Job → ℕ → Target → (ℕ → Prog) → Prog
read_at m j at t f = read_from (source_at m j at t) f

-- the word itself, where the cells are known: contracts and promises speak of it
unfoldable pub word_from : Cells → Source → ℕ
word_from k (at-hand w) = w
word_from k (in_cells g) = peeked k g

-- and at a target
unfoldable pub word_read : Memory → Job → Cells → ℕ → Target → ℕ
word_read m j k at t = word_from k (source_at m j at t)

-- What a store into an operating register does to the core: KTCS by its own rule, KTIC to KTDT by word and byte; KTUM and KTEM are none of it.
unfoldable pub core_stored : Core → Part → ℕ → Operating → Core
core_stored c p v Operating.Ktcs = with_ktcs c (ktcs_stored c.ktcs p v)
core_stored c p v (Operating.Kept i) = with_kept c (set c.kept i (merged p (get_or c.kept i 0) v))
core_stored c p v Operating.Ktum = c
core_stored c p v Operating.Ktem = c

-- and to the rest: "A store into KTUM or KTEM, byte or word, empties all cells and sets the counter to 10o."
unfoldable pub operating_effect : Maps → Part → ℕ → Operating → Effect
operating_effect r p v Operating.Ktcs = Effect.Keep
operating_effect r p v (Operating.Kept i) = Effect.Keep
operating_effect r p v Operating.Ktum = Effect.Reload (record { ktum = merged p r.ktum v; ktem = r.ktem })
operating_effect r p v Operating.Ktem = Effect.Reload (record { ktum = r.ktum; ktem = merged p r.ktem v })

-- A store into a register that the cells answer for: "stores into it [KTMR] are accepted and do nothing"; a scratchpad word takes its part.
unfoldable pub associative_effect : Part → ℕ → Associative → Effect
associative_effect p v Associative.Ktmr = Effect.Keep
associative_effect p v (Associative.Pad i) = Effect.StorePad i p v

-- a store into memory: "DATOB writes the low 8 bits of data."
unfoldable pub memory_effect : Part → ℕ → ℕ → Effect
memory_effect Part.Whole at v = Effect.StoreWord at v
memory_effect Part.Low at v = Effect.StoreByte at v
memory_effect Part.High at v = Effect.StoreByte at v

-- a store into a register
unfoldable pub stored_in : Job → Part → ℕ → Register → Outcome
stored_in j p at (Register.Operating g) =
    outcome (Answer.Done 0 at) (core_stored j.core p j.q.datum g) (operating_effect j.maps p j.q.datum g)
stored_in j p at (Register.Associative g) = outcome (Answer.Done 0 at) j.core (associative_effect p j.q.datum g)

-- "Then the store."
unfoldable pub stored_at : Job → Part → ℕ → Target → Outcome
stored_at j p at Target.Memory = outcome (Answer.Done 0 at) j.core (memory_effect p at j.q.datum)
stored_at j p at (Target.In g) = stored_in j p at g

-- a read, by operations 0 and 1, or a store, by 2 and 3: what is done once all steps have passed, except for a fetch
unfoldable pub transferred : Memory → Job → ℕ → Target → Prog
transferred m j at t =
    pick (ltb j.q.op 2) (read_at m j at t (λ w. done (outcome (Answer.Done w at) j.core Effect.Keep)))
    (done (stored_at j (part_of j.q.op at) at t))

-- A fetch ----------------------------------------------------------------------------------------------------------------

-- a fetch with answer 0, which leaves this flag
unfoldable pub fetched : Job → ℕ → Bool → ℕ → Prog
fetched j at flag w =
    done (outcome (Answer.Done w at) (with_fetch j.core (after_fetch j.core.fetch w flag)) Effect.Keep)

-- the flag after a paged fetch: "the flag to the page's public bit"; "never from a KT register"
unfoldable pub flag_after : Target → Fetch → Entry → Bool
flag_after Target.Memory f e = public_page e
flag_after (Target.In g) f e = f.public

-- "11. For a fetch, the word (8)."
unfoldable pub word_judged : Job → ℕ → Target → Entry → ℕ → Prog
word_judged j at t e w =
    pick (forbidden j.core e w) (outer_fault j (Fault.Forbidden w at)) (fetched j at (flag_after t j.core.fetch e) w)

-- The unpaged access -----------------------------------------------------------------------------------------------------

-- a fetch keeps the flag: it moves "only in normal paging"
unfoldable pub unpaged_reached : Memory → Job → ℕ → Target → Prog
unpaged_reached m j at t =
    pick (is_fetch j.q) (read_at m j at t (fetched j at j.core.fetch.public)) (transferred m j at t)

-- an unpaged 9
unfoldable pub unpaged_time_out : Job → Prog
unpaged_time_out j = done (outcome (Answer.Fault Fault.NoTarget) (timed_out j.core j.q) Effect.Keep)

-- "10. Target at or beyond L and not a register above (9)."; the window "Unpaged ..: time-out at step 10"
unfoldable pub unpaged_target : Memory → Job → ℕ → Place → Prog
unpaged_target m j at (Place.There t) = unpaged_reached m j at t
unpaged_target m j at Place.Window = unpaged_time_out j
unpaged_target m j at Place.Nowhere = unpaged_time_out j

-- "3. Unpaged odd word (3).", then step 4
unfoldable pub unpaged_from : Memory → Size → Core → Maps → Access → Prog
unpaged_from m s c r q =
    pick (odd_word q.width q.addr) (refused c Answer.UnpagedOdd)
    (unpaged_target m (record { q = q; core = noted c q; maps = r; size = s }) (unpaged_at q.addr)
    (place_of s (length m) (unpaged_at q.addr)))

-- The window's inner access ----------------------------------------------------------------------------------------------

-- the address that the window goes on to: "goes on as a user access to KTAD"
unfoldable pub window_addr : Job → ℕ
window_addr j = get_or j.core.kept ktad 0

-- the page of that address at fault: "a window's inner one once reached", which is from its step 5 on
unfoldable pub inner_fault : Job → Fault → Prog
inner_fault j f = faulted j true (tag_of true (page_of (window_addr j))) f

-- step 10 again; "window on window: time-out at step 10"
unfoldable pub inner_target : Memory → Job → ℕ → Place → Prog
inner_target m j at (Place.There t) = transferred m j at t
inner_target m j at Place.Window = inner_fault j Fault.NoTarget
inner_target m j at Place.Nowhere = inner_fault j Fault.NoTarget

-- what steps 6 to 8 say of the inner page's entry, and the target of step 10
unfoldable pub inner_ruled : Memory → Job → Result ℕ Fault → Prog
inner_ruled m j (Err f) = inner_fault j f
inner_ruled m j (Ok page) =
    inner_target m j (physical_at page (window_addr j)) (place_of j.size (length m) (physical_at page (window_addr j)))

-- step 5 again, and the inner page's entry for steps 6 to 8, "with no privacy step"
unfoldable pub windowed : Memory → Job → Prog
windowed m j =
    pick (odd_word j.q.width (window_addr j)) (inner_fault j Fault.OddAddress)
    (ask true (page_of (window_addr j)) (λ e. inner_ruled m j (judged j.q.op false e)))

-- The paged access -------------------------------------------------------------------------------------------------------

-- after step 10: step 11 for a fetch, the transfer otherwise
unfoldable pub paged_reached : Memory → Job → ℕ → Entry → Target → Prog
paged_reached m j at e t = pick (is_fetch j.q) (read_at m j at t (word_judged j at t e)) (transferred m j at t)

-- "10. Target at or beyond L and not a register above (9)."; the window goes on, but "by fetch ..: time-out at step 10"
unfoldable pub outer_target : Memory → Job → ℕ → Entry → Place → Prog
outer_target m j at e (Place.There t) = paged_reached m j at e t
outer_target m j at e Place.Window = pick (is_fetch j.q) (outer_fault j Fault.NoTarget) (windowed m j)
outer_target m j at e Place.Nowhere = outer_fault j Fault.NoTarget

-- what steps 6 to 9 say of the entry, and the target of step 10
unfoldable pub outer_ruled : Memory → Job → Entry → Result ℕ Fault → Prog
outer_ruled m j e (Err f) = outer_fault j f
outer_ruled m j e (Ok page) =
    outer_target m j (physical_at page j.q.addr) e (place_of j.size (length m) (physical_at page j.q.addr))

-- step 5, and step 6's question for the page's entry
unfoldable pub paged_from : Memory → Job → Prog
paged_from m j =
    pick (odd_word j.q.width j.q.addr) (outer_fault j Fault.OddAddress)
    (ask j.core.ktcs.um (page_of j.q.addr) (λ e. outer_ruled m j e (judged j.q.op (watches j.core.fetch j.q) e)))

-- The whole --------------------------------------------------------------------------------------------------------------

-- a sequence access, an interrupt or a trap, accepted: answer 0, no physical address, "Memory and cells stay."
unfoldable pub sequenced : ℕ → Core → Prog
sequenced w c = done (outcome (Answer.Taken w) c Effect.Keep)

-- "2. The wait (2); a due sequence access ends here.", a START read with KTPC or KTPS ("They give KTPC, then KTPS, address ignored"). The steps go
-- on paged, after step 4, or unpaged.
unfoldable pub after_wait : Memory → Size → Core → Maps → Access → Due → Prog
after_wait m s c r q Due.Steps =
    pick (unpaged c.ktcs.fcn q.state) (unpaged_from m s c r q)
    (paged_from m (record { q = q; core = noted c q; maps = r; size = s }))
after_wait m s c r q Due.OutOfTurn = refused c Answer.NotDue
after_wait m s c r q Due.StatusStore = sequenced 0 (status_stored c q.datum)
after_wait m s c r q Due.ProgramCounterStore = sequenced 0 (program_counter_stored c q.addr q.datum)
after_wait m s c r q Due.FirstRead = sequenced (get_or c.kept ktpc 0) (first_read_done c)
after_wait m s c r q Due.SecondRead = sequenced (get_or c.kept ktps 0) (user_started c)

-- steps 1 and 2, and on
unfoldable pub accessed : Memory → Size → Core → Maps → Access → Prog
accessed m s c r q = pick (well_shaped (length m) q) (after_wait m s c r q (due_of c q)) (refused c Answer.Misshapen)
