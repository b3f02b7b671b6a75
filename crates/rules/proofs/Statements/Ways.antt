-- The ways in which a call ends, in full: the tests that came out so and those passed before, with the answer, the core, the effect and the cells. The
-- promises of demand 1 follow from it (Promises.antt), and what a page is forgotten by (PremiseWords.antt).
use Prim.Native.Nat.{ℕ, ◌<◌}
use mathlib.Core.Bool.{Bool, true, false, not, ◌&&◌}
use mathlib.Core.Path.{◌≡◌}
use mathlib.Core.Logic.{◌≢◌}
use lib.Dec.{eqb, ltb}
use lib.ListN.{length, get_or}
use Rattle.std.specs.Prelude.{Result, Ok, Err}
use Rattle.rules.specs.Types.{Core, Cells, Unit, Access, Call, Operating, Associative, Register, Target, Place, Entry, Due, Fault, Answer, Effect, Job, Ran}
use Rattle.rules.specs.Memory.{Memory, store_word, store_byte}
use Rattle.rules.specs.Unit.{with_fetch, init_core}
use Rattle.rules.specs.Registers.{ktpc, ktps, place_of, part_of, merged}
use Rattle.rules.specs.Maps.{unpaged, unpaged_at, physical_at, resident_bit, public_bit, write_bit, low9}
use Rattle.rules.specs.Fetched.{is_fetch, noted, after_fetch}
use Rattle.rules.specs.Steps.{well_shaped, due_of, odd_word, watches, forbidden}
use Rattle.rules.specs.Sequences.{violated, timed_out, status_stored, program_counter_stored, first_read_done, user_started, interrupted, trapped, vector_listed, idle}
use Rattle.rules.specs.Program.{run}
use Rattle.rules.specs.Order.{word_read, stored_at, flag_after, window_addr}
use Rattle.rules.specs.Calls.{called, settled, call_of}
use Rattle.rules.specs.Answers.{shown}
use Rattle.rules.proofs.Promises.{job, outer, inner, outer_tag, inner_tag, Begun, Unpaged, Paged}

-- the physical address, once the steps have given its physical page
abbrev pub outer_at : Access → ℕ → ℕ
outer_at q page = physical_at page q.addr

abbrev pub inner_at : Unit → Access → ℕ → ℕ
inner_at u q page = physical_at page (window_addr (job u q))

-- What steps 6 to 10 say -------------------------------------------------------------------------------------------------

-- step 8's test: "Write key for operations 1-3"
abbrev pub locked : ℕ → ℕ → Bool
locked op w = not (eqb op 0) && not (write_bit w)

-- step 9's test, where it is asked
abbrev pub hidden : Bool → ℕ → Bool
hidden watched w = watched && not (public_bit w)

-- Steps 6 to 9 of an entry: one way for each step that refuses, and two to pass. An access is watched that step 9 asks about; a window's
-- inner one is not, "with no privacy step".
pub data Keys (op : ℕ) (watched : Bool) : Entry → Result ℕ Fault → Type 0 where
  off-map : Keys op watched Entry.OffMap (Err Fault.NoMapWord)
  not_resident : {w : ℕ} → resident_bit w ≡ false → Keys op watched (Entry.Mapped w) (Err Fault.NotResident)
  not_writable :
      {w : ℕ} → resident_bit w ≡ true → locked op w ≡ true → Keys op watched (Entry.Mapped w) (Err Fault.NotWritable)
  not_public :
      {w : ℕ} → resident_bit w ≡ true → locked op w ≡ false → hidden watched w ≡ true
      → Keys op watched (Entry.Mapped w) (Err Fault.NotPublic)
  granted :
      {w : ℕ} → resident_bit w ≡ true → locked op w ≡ false → hidden watched w ≡ false
      → Keys op watched (Entry.Mapped w) (Ok (low9 w))
  at_exec_zero : {page : ℕ} → Keys op watched (Entry.ExecZero page) (Ok page)

-- How a call ends --------------------------------------------------------------------------------------------------------

-- an ending: the answer, the new core, what is done to memory, map registers and cells, and the cells that the look-ups left
abbrev pub ending : Answer → Core → Effect → Cells → Ran
ending a c e k = record { outcome = record { answer = a; core = c; effect = e }; cells = k }

-- answers 1, 2 and 3
abbrev pub unchanged : Unit → Answer → Ran
unchanged u a = ending a u.core Effect.Keep u.cells

-- answer 0 of a sequence access, an interrupt or a trap
abbrev pub taken : Unit → ℕ → Core → Ran
taken u w c = ending (Answer.Taken w) c Effect.Keep u.cells

-- an unpaged 9
abbrev pub time_out : Unit → Access → Ran
time_out u q = ending (Answer.Fault Fault.NoTarget) (timed_out (noted u.core q) q) Effect.Keep u.cells

-- answers 4 to 8, 10 and a paged 9: whether in a window's inner access, the tag of the page at fault, and the cells as step 6 left them
abbrev pub fault_ending : Unit → Access → Fault → Bool → ℕ → Cells → Ran
fault_ending u q f window tag k = ending (Answer.Fault f) (violated (noted u.core q) q window f) (Effect.Forget tag) k

-- answer 0 of a fetch that read w and leaves this flag
abbrev pub fetch_done : Job → ℕ → Bool → ℕ → Cells → Ran
fetch_done j at flag w k = ending (Answer.Done w at) (with_fetch j.core (after_fetch j.core.fetch w flag)) Effect.Keep k

-- answer 0 of another access: a read by operations 0 and 1, a store by 2 and 3
pub data Transfer (m : Memory) (j : Job) (k : Cells) (at : ℕ) (t : Target) : Ran → Type 0 where
  read : ltb j.q.op 2 ≡ true → Transfer m j k at t (ending (Answer.Done (word_read m j k at t) at) j.core Effect.Keep k)
  store : ltb j.q.op 2 ≡ false → Transfer m j k at t (record { outcome = stored_at j (part_of j.q.op at) at t; cells = k })

module _ (m : Memory) (u : Unit) (q : Access) where
  -- How far an access came, from `Unpaged` and `Paged` of Promises.antt on. Each holds the one before it, and with that all earlier steps' tests ---

  -- unpaged, and step 10 passed, with this target
  pub record UnpagedThere (t : Target) : Type 0 where
    pub steps : Unpaged m u q
    pub place : place_of u.cells.size (length m) (unpaged_at q.addr) ≡ Place.There t

  -- step 5 passed, and the page's entry is asked for
  pub record Asked : Type 0 where
    pub steps : Paged m u q
    pub even : odd_word q.width q.addr ≡ false

  -- steps 6 to 9 passed, and gave this physical page
  pub record Granted (page : ℕ) : Type 0 where
    pub steps : Asked
    pub keys : Keys q.op (watches (job u q).core.fetch q) (outer m u q).entry (Ok page)

  -- step 10 passed
  pub record PagedThere (page : ℕ) (t : Target) : Type 0 where
    pub steps : Granted page
    pub place : place_of u.cells.size (length m) (outer_at q page) ≡ Place.There t

  -- the window: "goes on as a user access to KTAD"
  pub record Windowed : Type 0 where
    pub page : ℕ
    pub steps : Granted page
    pub place : place_of u.cells.size (length m) (outer_at q page) ≡ Place.Window
    pub no_fetch : is_fetch q ≡ false

  -- step 5 passed again
  pub record InnerAsked : Type 0 where
    pub steps : Windowed
    pub even : odd_word q.width (window_addr (job u q)) ≡ false

  -- steps 6 to 8 passed again
  pub record InnerGranted (page : ℕ) : Type 0 where
    pub steps : InnerAsked
    pub keys : Keys q.op false (inner m u q).entry (Ok page)

  -- step 10 passed again
  pub record InnerThere (page : ℕ) (t : Target) : Type 0 where
    pub steps : InnerGranted page
    pub place : place_of u.cells.size (length m) (inner_at u q page) ≡ Place.There t

  -- Why steps 5 to 11 refuse a paged access: the fault, whether the page at fault is a window's inner one, its tag, and the cells as step 6
  -- left them. In 01's order.
  pub data AtFault : Fault → Bool → ℕ → Cells → Type 0 where
    -- "5. Paged odd word (4)."
    odd : Paged m u q → odd_word q.width q.addr ≡ true → AtFault Fault.OddAddress false (outer_tag u q) u.cells
    -- "6. Walk (9).", where "10 takes 9's place" (T-01), "7. Residency (5). 8. Write key for operations 1-3 (6). 9. Privacy (7)."
    keys_refuse :
        {f : Fault} → Asked → Keys q.op (watches (job u q).core.fetch q) (outer m u q).entry (Err f)
        → AtFault f false (outer_tag u q) (outer m u q).cells
    -- "10. Target at or beyond L and not a register above (9)."; the window "by fetch ..: time-out at step 10"
    nowhere :
        {page : ℕ} → Granted page → place_of u.cells.size (length m) (outer_at q page) ≡ Place.Nowhere
        → AtFault Fault.NoTarget false (outer_tag u q) (outer m u q).cells
    window_by_fetch :
        {page : ℕ} → Granted page → place_of u.cells.size (length m) (outer_at q page) ≡ Place.Window → is_fetch q ≡ true
        → AtFault Fault.NoTarget false (outer_tag u q) (outer m u q).cells
    -- "11. For a fetch, the word (8)."
    forbidden-word :
        {page : ℕ} {t : Target} {w : ℕ} → PagedThere page t → is_fetch q ≡ true
        → word_read m (job u q) (outer m u q).cells (outer_at q page) t ≡ w
        → forbidden (job u q).core (outer m u q).entry w ≡ true
        → AtFault (Fault.Forbidden w (outer_at q page)) false (outer_tag u q) (outer m u q).cells
    -- the window's inner access: "through steps 5-8 and 10 again"; "window on window: time-out at step 10"
    inner-odd :
        Windowed → odd_word q.width (window_addr (job u q)) ≡ true → AtFault Fault.OddAddress true (inner_tag u q) (outer m u q).cells
    inner_keys_refuse :
        {f : Fault} → InnerAsked → Keys q.op false (inner m u q).entry (Err f)
        → AtFault f true (inner_tag u q) (inner m u q).cells
    inner-nowhere :
        {page : ℕ} → InnerGranted page → place_of u.cells.size (length m) (inner_at u q page) ≡ Place.Nowhere
        → AtFault Fault.NoTarget true (inner_tag u q) (inner m u q).cells
    window_on_window :
        {page : ℕ} → InnerGranted page → place_of u.cells.size (length m) (inner_at u q page) ≡ Place.Window
        → AtFault Fault.NoTarget true (inner_tag u q) (inner m u q).cells

  -- Why an access ends as it does: the test of the step that ends it, and that all earlier steps passed.
  pub data Way : Ran → Type 0 where
    -- "1. Shape (answer 1)."
    misshapen : well_shaped (length m) q ≡ false → Way (unchanged u Answer.Misshapen)
    -- "2. The wait (2); a due sequence access ends here."
    late : well_shaped (length m) q ≡ true → due_of u.core q ≡ Due.OutOfTurn → Way (unchanged u Answer.NotDue)
    stored_status :
        well_shaped (length m) q ≡ true → due_of u.core q ≡ Due.StatusStore → Way (taken u 0 (status_stored u.core q.datum))
    stored_program_counter :
        well_shaped (length m) q ≡ true → due_of u.core q ≡ Due.ProgramCounterStore
        → Way (taken u 0 (program_counter_stored u.core q.addr q.datum))
    first_read :
        well_shaped (length m) q ≡ true → due_of u.core q ≡ Due.FirstRead
        → Way (taken u (get_or u.core.kept ktpc 0) (first_read_done u.core))
    second_read :
        well_shaped (length m) q ≡ true → due_of u.core q ≡ Due.SecondRead
        → Way (taken u (get_or u.core.kept ktps 0) (user_started u.core))
    -- "3. Unpaged odd word (3)."
    unpaged-odd :
        Begun m u q → unpaged u.core.ktcs.fcn q.state ≡ true → odd_word q.width q.addr ≡ true → Way (unchanged u Answer.UnpagedOdd)
    -- step 10, unpaged: nowhere, or the window, "Unpaged ..: time-out at step 10"
    unpaged-nowhere :
        Unpaged m u q → place_of u.cells.size (length m) (unpaged_at q.addr) ≡ Place.Nowhere → Way (time_out u q)
    unpaged-window :
        Unpaged m u q → place_of u.cells.size (length m) (unpaged_at q.addr) ≡ Place.Window → Way (time_out u q)
    -- unpaged, all steps passed
    unpaged-fetch :
        {t : Target} {w : ℕ} → UnpagedThere t → is_fetch q ≡ true
        → word_read m (job u q) u.cells (unpaged_at q.addr) t ≡ w
        → Way (fetch_done (job u q) (unpaged_at q.addr) (job u q).core.fetch.public w u.cells)
    unpaged-transfer :
        {t : Target} {d : Ran} → UnpagedThere t → is_fetch q ≡ false → Transfer m (job u q) u.cells (unpaged_at q.addr) t d → Way d
    -- steps 5 to 11: answers 4 to 8, 10 and a paged 9
    violation :
        {f : Fault} {window : Bool} {tag : ℕ} {k : Cells} → AtFault f window tag k
        → Way (fault_ending u q f window tag k)
    -- paged, all steps passed
    fetch :
        {page : ℕ} {t : Target} {w : ℕ} → PagedThere page t → is_fetch q ≡ true
        → word_read m (job u q) (outer m u q).cells (outer_at q page) t ≡ w
        → forbidden (job u q).core (outer m u q).entry w ≡ false
        → Way (fetch_done (job u q) (outer_at q page) (flag_after t (job u q).core.fetch (outer m u q).entry) w (outer m u q).cells)
    transfer :
        {page : ℕ} {t : Target} {d : Ran} → PagedThere page t → is_fetch q ≡ false
        → Transfer m (job u q) (outer m u q).cells (outer_at q page) t d
        → Way d
    inner-transfer :
        {page : ℕ} {t : Target} {d : Ran} → InnerThere page t → Transfer m (job u q) (inner m u q).cells (inner_at u q page) t d → Way d

-- Why a call ends as it does.
pub data Why (m : Memory) (u : Unit) : Call → Ran → Type 0 where
  access : {q : Access} {d : Ran} → Way m u q d → Why m u (Call.Access q) d
  -- interrupt: 2 "while waiting ..; FCN 3", and 0 otherwise
  interrupt_late : idle u.core.wait u.core.ktcs.fcn ≡ false → Why m u Call.Interrupt (unchanged u Answer.NotDue)
  interrupt_taken : idle u.core.wait u.core.ktcs.fcn ≡ true → Why m u Call.Interrupt (taken u 0 (interrupted u.core))
  -- trap: "In every call 1 comes before 2"
  unlisted : {v : ℕ} → vector_listed v ≡ false → Why m u (Call.Trap v) (unchanged u Answer.Misshapen)
  trap_late :
      {v : ℕ} → vector_listed v ≡ true → idle u.core.wait u.core.ktcs.fcn ≡ false
      → Why m u (Call.Trap v) (unchanged u Answer.NotDue)
  taken_trap :
      {v : ℕ} → vector_listed v ≡ true → idle u.core.wait u.core.ktcs.fcn ≡ true
      → Why m u (Call.Trap v) (taken u 0 (trapped u.core v))
  -- INIT: "It is always accepted."
  init : Why m u Call.Init (ending (Answer.Taken 0) (init_core u.core) (Effect.Reload u.maps) u.cells)

-- what a call decides
abbrev pub decided : Memory → Unit → Call → Ran
decided m u c = run m u.maps (called m u.cells.size u.core u.maps c) u.cells

-- a call is its decision, carried out: what is said of the one is said of the other
abbrev pub CarriedOut : Type 0
CarriedOut = (m : Memory) (u : Unit) (c : Call) → call_of m u c ≡ settled m u.maps (decided m u c)

-- "a call has an answer .. and which one is as 01's order of steps says"
abbrev pub Explained : Type 0
Explained = (m : Memory) (u : Unit) (c : Call) → Why m u c (decided m u c)

-- and the other way round: where a way's tests come out as it says, the call ends so
abbrev pub Settled : Type 0
Settled = (m : Memory) (u : Unit) (c : Call) (d : Ran) → Why m u c d → decided m u c ≡ d

-- Memory -----------------------------------------------------------------------------------------------------------------

-- memory after a call with this answer: as it was, or with a DATO's word or a DATOB's byte stored at the answer's physical address
pub data Stored (m : Memory) : Call → Answer → Memory → Type 0 where
  nothing : {c : Call} {a : Answer} → Stored m c a m
  word : {q : Access} {at : ℕ} → q.op ≡ 2 → Stored m (Call.Access q) (Answer.Done 0 at) (store_word m at q.datum)
  byte : {q : Access} {at : ℕ} → q.op ≡ 3 → Stored m (Call.Access q) (Answer.Done 0 at) (store_byte m at q.datum)

abbrev pub StoredOnly : Type 0
StoredOnly = (m : Memory) (u : Unit) (c : Call) → Stored m c (call_of m u c).reply.answer (call_of m u c).memory

-- What a call does, by its answer -----------------------------------------------------------------------------------------

-- a register as a target
abbrev pub operating : Operating → Target
operating g = Target.In (Register.Operating g)

abbrev pub associative : Associative → Target
associative g = Target.In (Register.Associative g)

-- What a store that is done asks for, by the target that lies at its physical address. Into memory goes a DATO's word or a DATOB's byte; KTUM and
-- KTEM take their part of the data, which forgets all pages; a scratchpad word takes it too; KTMR takes nothing, and the other registers stand in
-- the core.
pub data Stores (u : Unit) (q : Access) (at : ℕ) : Target → Effect → Type 0 where
  word_store : q.op ≡ 2 → Stores u q at Target.Memory (Effect.StoreWord at q.datum)
  byte_store : q.op ≡ 3 → Stores u q at Target.Memory (Effect.StoreByte at q.datum)
  ktcs_store : Stores u q at (operating Operating.Ktcs) Effect.Keep
  kept_store : {i : ℕ} → Stores u q at (operating (Operating.Kept i)) Effect.Keep
  ktum_store :
      Stores u q at (operating Operating.Ktum)
      (Effect.Reload (record { ktum = merged (part_of q.op at) u.maps.ktum q.datum; ktem = u.maps.ktem }))
  ktem_store :
      Stores u q at (operating Operating.Ktem)
      (Effect.Reload (record { ktum = u.maps.ktum; ktem = merged (part_of q.op at) u.maps.ktem q.datum }))
  ktmr_store : Stores u q at (associative Associative.Ktmr) Effect.Keep
  pad_store : {i : ℕ} → Stores u q at (associative (Associative.Pad i)) (Effect.StorePad i (part_of q.op at) q.datum)

-- What a call does beside its answer and the core. Its effect is the only thing by which memory, map registers and cells change (`settled` of
-- specs/Calls.antt; the cells change by step 6 too), and the only thing by which a page is forgotten (`history_after` of specs/Runs.antt).
pub data Does (m : Memory) (u : Unit) : Call → Answer → Effect → Type 0 where
  -- answers 1, 2 and 3: nothing
  after-refusal : {c : Call} {a : Answer} → (shown a).number ≢ 0 → (shown a).number < 4 → Does m u c a Effect.Keep
  -- an unpaged 9: nothing
  after_unpaged_time_out :
      {q : Access} → unpaged u.core.ktcs.fcn q.state ≡ true → Does m u (Call.Access q) (Answer.Fault Fault.NoTarget) Effect.Keep
  -- answers 4 to 8, 10 and a paged 9: the page at fault, and no other, is forgotten
  after-fault :
      {q : Access} {f : Fault} {window : Bool} {tag : ℕ} {k : Cells} → AtFault m u q f window tag k
      → Does m u (Call.Access q) (Answer.Fault f) (Effect.Forget tag)
  -- INIT: all pages are forgotten, and the map registers stay
  after-init : Does m u Call.Init (Answer.Taken 0) (Effect.Reload u.maps)
  -- answer 0 of an interrupt, a trap, a sequence access, a read or a fetch: nothing
  after-interrupt : Does m u Call.Interrupt (Answer.Taken 0) Effect.Keep
  after-trap : {v : ℕ} → Does m u (Call.Trap v) (Answer.Taken 0) Effect.Keep
  after-sequence : {q : Access} {w : ℕ} → Does m u (Call.Access q) (Answer.Taken w) Effect.Keep
  after_read : {q : Access} {w at : ℕ} → q.op < 2 → Does m u (Call.Access q) (Answer.Done w at) Effect.Keep
  -- answer 0 of a store: what its target asks for
  after_store :
      {q : Access} {at : ℕ} {t : Target} {e : Effect} → 1 < q.op → place_of u.cells.size (length m) at ≡ Place.There t → Stores u q at t e
      → Does m u (Call.Access q) (Answer.Done 0 at) e

-- "Forget" for answers 4 to 8, 10 and a paged 9 alone, "Reload" for INIT and a KTUM or KTEM store alone, stores for answer 0 alone
abbrev pub EffectsByAnswer : Type 0
EffectsByAnswer = (m : Memory) (u : Unit) (c : Call) → Does m u c (decided m u c).outcome.answer (decided m u c).outcome.effect
