-- The promises: demands 1 and 3, and the making of a unit, as statements about the rules, with the definitions that they need beside those of specs/; the last record lists them.
-- They are proved in the rooms beside this file, and gathered in Proved.antt.
use Prim.Native.Nat.{ℕ, ◌+◌, ◌-◌, ◌≤◌, ◌<◌}
use mathlib.Core.Bool.{Bool, true, false, not, ◌&&◌, ◌||◌}
use mathlib.Core.Path.{◌≡◌}
use mathlib.Core.Logic.{◌≢◌, ◌↔◌}
use mathlib.Core.List.{List, [], ◌∷◌, ◌++◌}
use lib.Dec.{eqb}
use lib.ListN.{length, get_or, replicate}
use Rattle.std.specs.Prelude.{Some, None}
use Rattle.rules.specs.Types.{Wait, Ktcs, Fetch, Core, Maps, Cell, Size, Cells, Unit, Access, Call, Associative, Target, Place, Part, Entry, Looked, Due, Fault, Answer, Effect, Job}
use Rattle.rules.specs.Choice.{pick}
use Rattle.rules.specs.Memory.{Memory}
use Rattle.rules.specs.Unit.{count_of, size_of, room, there, empty_cell, cell_at, clear_fetch}
use Rattle.rules.specs.Status.{packed, flags_clear}
use Rattle.rules.specs.Registers.{ktic, ktad, ktdt, place_of, merged, peeked}
use Rattle.rules.specs.Maps.{unpaged, unpaged_at, page_of, physical_at, resident_bit, public_bit, write_bit, low9, exec_zero, exec_zero_entry, walk_of, entry_of, tag_of, cell_of, filled, looked, forgotten}
use Rattle.rules.specs.Fetched.{is_fetch, is_dato, normal, noted}
use Rattle.rules.specs.Steps.{well_shaped, due_of, odd_word, watches, forbidden}
use Rattle.rules.specs.Sequences.{violated, timed_out, trap_twice, vector_listed, idle}
use Rattle.rules.specs.Order.{word_read, window_addr}
use Rattle.rules.specs.Calls.{After, cells_after, call_of, fresh}
use Rattle.rules.specs.Answers.{shown, making_shown}
use Rattle.rules.specs.Runs.{Turn, unit_after, seen_along, Station, station_after, plain_of, plain_along, History, none_in_use, is_outdated, meets, history_of}

-- Demand 1: an access under way ------------------------------------------------------------------------------------------

-- what was asked, the unit's core as step 4 leaves it, the map registers, and how many cells there are
abbrev pub job : Unit → Access → Job
job u q = record { q = q; core = noted u.core q; maps = u.maps; size = u.cells.size }

-- step 6 for the page of the access's own address: its entry, and the cells after the look-up
abbrev pub outer : Memory → Unit → Access → Looked
outer m u q = looked m u.maps (job u q).core.ktcs.um (page_of q.addr) u.cells

-- step 6 again, for the page that a window goes on to: a user's, by the cells that the first look-up left
abbrev pub inner : Memory → Unit → Access → Looked
inner m u q = looked m u.maps true (page_of (window_addr (job u q))) (outer m u q).cells

abbrev pub outer_tag : Unit → Access → ℕ
outer_tag u q = tag_of (job u q).core.ktcs.um (page_of q.addr)

abbrev pub inner_tag : Unit → Access → ℕ
inner_tag u q = tag_of true (page_of (window_addr (job u q)))

-- the physical page that an entry names; a walk that ran off memory names none, and no test asks further
abbrev pub page_named : Entry → ℕ
page_named Entry.OffMap = 0
page_named (Entry.ExecZero page) = page
page_named (Entry.Mapped w) = low9 w

-- the physical addresses of the two, and what lies there
abbrev pub outer_physical : Memory → Unit → Access → ℕ
outer_physical m u q = physical_at (page_named (outer m u q).entry) q.addr

abbrev pub inner_physical : Memory → Unit → Access → ℕ
inner_physical m u q = physical_at (page_named (inner m u q).entry) (window_addr (job u q))

abbrev pub outer_place : Memory → Unit → Access → Place
outer_place m u q = place_of u.cells.size (length m) (outer_physical m u q)

-- the word that a paged fetch reads at its target
abbrev pub word_fetched : Memory → Unit → Access → Target → ℕ
word_fetched m u q t = word_read m (job u q) (outer m u q).cells (outer_physical m u q) t

-- Demand 1: the answer, by the tests of 01's steps in their order --------------------------------------------------------

-- a test: whether its step refuses, and the answer that it then gives
pub record Test : Type 0 where
  pub refuses : Bool
  pub answer : Answer

abbrev pub test : Bool → Answer → Test
test b a = record { refuses = b; answer = a }

-- the answer of the first test that refuses, or a where all pass
abbrev pub first_of : List Test → Answer → Answer
first_of [] a = a
first_of (t ∷ ts) a = pick t.refuses t.answer (first_of ts a)

abbrev pub all_pass : List Test → Bool
all_pass [] = true
all_pass (t ∷ ts) = not t.refuses && all_pass ts

-- "6. Walk (9).", where "10 takes 9's place" (T-01), "7. Residency (5). 8. Write key for operations 1-3 (6). 9. Privacy (7).", the last of an
-- access that is watched: "not a fetch, flag set"
abbrev pub entry_tests : ℕ → Bool → Entry → List Test
entry_tests op watched Entry.OffMap = test true (Answer.Fault Fault.NoMapWord) ∷ []
entry_tests op watched (Entry.ExecZero page) = []
entry_tests op watched (Entry.Mapped w) =
    test (not (resident_bit w)) (Answer.Fault Fault.NotResident)
    ∷ test (not (eqb op 0) && not (write_bit w)) (Answer.Fault Fault.NotWritable)
    ∷ test (watched && not (public_bit w)) (Answer.Fault Fault.NotPublic) ∷ []

-- a place that is no target; the window is none where it is shut: "Unpaged, by fetch, or window on window"
abbrev pub no_target : Bool → Place → Bool
no_target shut (Place.There t) = false
no_target shut Place.Window = shut
no_target shut Place.Nowhere = true

abbrev pub is_window : Place → Bool
is_window (Place.There t) = false
is_window Place.Window = true
is_window Place.Nowhere = false

-- "3. Unpaged odd word (3)." and step 10
abbrev pub unpaged_tests : Memory → Unit → Access → List Test
unpaged_tests m u q =
    test (odd_word q.width q.addr) Answer.UnpagedOdd
    ∷ test (no_target true (place_of u.cells.size (length m) (unpaged_at q.addr))) (Answer.Fault Fault.NoTarget) ∷ []

-- "11. For a fetch, the word (8).": the word of a target that is there
abbrev pub word_tests : Memory → Unit → Access → Place → List Test
word_tests m u q (Place.There t) =
    test (is_fetch q && forbidden (job u q).core (outer m u q).entry (word_fetched m u q t))
    (Answer.Fault (Fault.Forbidden (word_fetched m u q t) (outer_physical m u q))) ∷ []
word_tests m u q Place.Window = []
word_tests m u q Place.Nowhere = []

-- "10. Target at or beyond L and not a register above (9).", and step 11
abbrev pub target_tests : Memory → Unit → Access → List Test
target_tests m u q =
    test (no_target (is_fetch q) (outer_place m u q)) (Answer.Fault Fault.NoTarget) ∷ word_tests m u q (outer_place m u q)

-- "5. Paged odd word (4)." and on
abbrev pub outer_tests : Memory → Unit → Access → List Test
outer_tests m u q =
    test (odd_word q.width q.addr) (Answer.Fault Fault.OddAddress)
    ∷ (entry_tests q.op (watches (job u q).core.fetch q) (outer m u q).entry ++ target_tests m u q)

-- the window "goes on as a user access to KTAD, through steps 5-8 and 10 again"
abbrev pub inner_tests : Memory → Unit → Access → List Test
inner_tests m u q =
    test (odd_word q.width (window_addr (job u q))) (Answer.Fault Fault.OddAddress)
    ∷ (entry_tests q.op false (inner m u q).entry
    ++ (test (no_target true (place_of u.cells.size (length m) (inner_physical m u q))) (Answer.Fault Fault.NoTarget) ∷ []))

abbrev pub paged_tests : Memory → Unit → Access → List Test
paged_tests m u q = outer_tests m u q ++ pick (is_window (outer_place m u q)) (inner_tests m u q) []

-- "2. The wait (2); a due sequence access ends here.", and what comes after
abbrev pub wait_tests : Due → List Test → List Test
wait_tests Due.Steps ts = ts
wait_tests Due.OutOfTurn ts = test true Answer.NotDue ∷ []
wait_tests Due.StatusStore ts = []
wait_tests Due.ProgramCounterStore ts = []
wait_tests Due.FirstRead ts = []
wait_tests Due.SecondRead ts = []

-- the tests of a call: for an access "1. Shape (answer 1)." and on; "In every call 1 comes before 2"; INIT "is always accepted"
abbrev pub tests_of : Memory → Unit → Call → List Test
tests_of m u (Call.Access q) =
    test (not (well_shaped (length m) q)) Answer.Misshapen
    ∷ wait_tests (due_of u.core q) (pick (unpaged u.core.ktcs.fcn q.state) (unpaged_tests m u q) (paged_tests m u q))
tests_of m u Call.Interrupt = test (not (idle u.core.wait u.core.ktcs.fcn)) Answer.NotDue ∷ []
tests_of m u (Call.Trap v) =
    test (not (vector_listed v)) Answer.Misshapen ∷ test (not (idle u.core.wait u.core.ktcs.fcn)) Answer.NotDue ∷ []
tests_of m u Call.Init = []

-- an answer that is the one of the first test that refuses, or, where all pass, one that 01's table numbers 0
pub record ByTests (ts : List Test) (a : Answer) : Type 0 where
  pub passed : Answer
  pub zero : (shown passed).number ≡ 0
  pub first : a ≡ first_of ts passed

-- "each answer means that its step's test fails and the tests of all earlier steps pass"
abbrev pub AnsweredInOrder : Type 0
AnsweredInOrder = (m : Memory) (u : Unit) (c : Call) → ByTests (tests_of m u c) (call_of m u c).reply.answer

-- the number of the answer, by 01's table and T-01
abbrev pub number_of : After → ℕ
number_of a = (shown a.reply.answer).number

-- the numbers of those answers in 01: "1. Shape (answer 1). 2. The wait (2) .. 3. Unpaged odd word (3)", "Paged odd word (4). 6. Walk (9). 7. Residency
-- (5). 8. Write key .. (6). 9. Privacy (7). 10. Target .. (9). 11. For a fetch, the word (8)."; and "10 takes 9's place at step 6 .. 9 stays at step
-- 10" (T-01)
pub record NumbersOfSteps : Type 0 where
  pub shape : (shown Answer.Misshapen).number ≡ 1
  pub wait : (shown Answer.NotDue).number ≡ 2
  pub unpaged-odd : (shown Answer.UnpagedOdd).number ≡ 3
  pub paged_odd : (shown (Answer.Fault Fault.OddAddress)).number ≡ 4
  pub walk : (shown (Answer.Fault Fault.NoMapWord)).number ≡ 10
  pub residency : (shown (Answer.Fault Fault.NotResident)).number ≡ 5
  pub write_key : (shown (Answer.Fault Fault.NotWritable)).number ≡ 6
  pub privacy : (shown (Answer.Fault Fault.NotPublic)).number ≡ 7
  pub target : (shown (Answer.Fault Fault.NoTarget)).number ≡ 9
  pub fetched-word : (w at : ℕ) → (shown (Answer.Fault (Fault.Forbidden w at))).number ≡ 8

-- a call has an answer, one of 0 to 10: `call_of` is a function, so that there always is one
abbrev pub Numbered : Type 0
Numbered = (m : Memory) (u : Unit) (c : Call) → number_of (call_of m u c) < 11

-- "Answers 0 and 8 of an access give the physical address ..; .. the other answers give none.", and the data of each other answer is 0
abbrev pub BareRefusals : Type 0
BareRefusals =
    (m : Memory) (u : Unit) (c : Call) → number_of (call_of m u c) ≢ 0 → number_of (call_of m u c) ≢ 8
    → shown (call_of m u c).reply.answer ≡ record { number = number_of (call_of m u c); datum = 0; physical = None }

-- "18-bit address": of an access at a 16-bit address, each physical address that comes back is one
abbrev pub EighteenBits : Type 0
EighteenBits =
    (m : Memory) (u : Unit) (q : Access) (at : ℕ) → q.addr < 0o200000
    → (shown (call_of m u (Call.Access q)).reply.answer).physical ≡ Some at → at < 0o1000000

-- Demand 1: the two reasons, a walk that ran off memory (10) and a target that is not there (9) ---------------------------

-- steps 1 and 2 passed
pub record Begun (m : Memory) (u : Unit) (q : Access) : Type 0 where
  pub shaped : well_shaped (length m) q ≡ true
  pub due : due_of u.core q ≡ Due.Steps

-- unpaged, and step 3 passed
pub record Unpaged (m : Memory) (u : Unit) (q : Access) : Type 0 where
  pub steps : Begun m u q
  pub mode : unpaged u.core.ktcs.fcn q.state ≡ true
  pub even : odd_word q.width q.addr ≡ false

-- paged, which passes step 3
pub record Paged (m : Memory) (u : Unit) (q : Access) : Type 0 where
  pub steps : Begun m u q
  pub mode : unpaged u.core.ktcs.fcn q.state ≡ false

-- "The walk itself should report that it ran off memory" (T-01): the page is walked, since no cell of k holds it, and its walk does not finish
pub record RanOff (m : Memory) (r : Maps) (k : Cells) (user : Bool) (p : ℕ) : Type 0 where
  pub no_cell : (i : ℕ) → (cell_at k i).tag ≢ tag_of user p
  pub walk : walk_of m r user p ≡ None

-- the walk of the access's own page; exec page 0 is never walked
pub record OuterRanOff (m : Memory) (u : Unit) (q : Access) : Type 0 where
  pub even : odd_word q.width q.addr ≡ false
  pub not_exec_zero : exec_zero u.core.ktcs.um (page_of q.addr) ≡ false
  pub ran_off : RanOff m u.maps u.cells u.core.ktcs.um (page_of q.addr)

-- a paged access that goes on through the window: all tests of its own page pass, its target is the window, it is no fetch, and step 5 passes again, since
-- KTAD is no odd word
pub record GoesInside (m : Memory) (u : Unit) (q : Access) : Type 0 where
  pub passes : all_pass (outer_tests m u q) ≡ true
  pub window : outer_place m u q ≡ Place.Window
  pub no_fetch : is_fetch q ≡ false
  pub even : odd_word q.width (get_or u.core.kept ktad 0) ≡ false

-- "also in the window's inner walk": of KTAD's page as a user's, by the cells that the outer look-up left
pub record InnerRanOff (m : Memory) (u : Unit) (q : Access) : Type 0 where
  pub inside : GoesInside m u q
  pub ran_off : RanOff m u.maps (outer m u q).cells true (page_of (get_or u.core.kept ktad 0))

-- what 10 means
pub data WalkRanOff (m : Memory) (u : Unit) : Call → Type 0 where
  outer-walk : {q : Access} → Paged m u q → OuterRanOff m u q → WalkRanOff m u (Call.Access q)
  inner-walk : {q : Access} → Paged m u q → InnerRanOff m u q → WalkRanOff m u (Call.Access q)

-- "answer 9 stays for targets" (T-01): of an unpaged access, of the access's own page, all of whose keys pass, and of a window's inner page alike
pub record UnpagedNowhere (m : Memory) (u : Unit) (q : Access) : Type 0 where
  pub steps : Unpaged m u q
  pub nowhere : no_target true (place_of u.cells.size (length m) (unpaged_at q.addr)) ≡ true

pub record OuterNowhere (m : Memory) (u : Unit) (q : Access) : Type 0 where
  pub even : odd_word q.width q.addr ≡ false
  pub passes : all_pass (entry_tests q.op (watches (job u q).core.fetch q) (outer m u q).entry) ≡ true
  pub nowhere : no_target (is_fetch q) (outer_place m u q) ≡ true

pub record InnerNowhere (m : Memory) (u : Unit) (q : Access) : Type 0 where
  pub inside : GoesInside m u q
  pub passes : all_pass (entry_tests q.op false (inner m u q).entry) ≡ true
  pub nowhere : no_target true (place_of u.cells.size (length m) (inner_physical m u q)) ≡ true

-- what 9 means
pub data TargetNowhere (m : Memory) (u : Unit) : Call → Type 0 where
  unpaged-target : {q : Access} → UnpagedNowhere m u q → TargetNowhere m u (Call.Access q)
  outer-target : {q : Access} → Paged m u q → OuterNowhere m u q → TargetNowhere m u (Call.Access q)
  inner-target : {q : Access} → Paged m u q → InnerNowhere m u q → TargetNowhere m u (Call.Access q)

-- "All callers of the walk then speak of two reasons where they spoke of one." (T-01)
pub record TwoReasons : Type 0 where
  pub walk : (m : Memory) (u : Unit) (c : Call) → (number_of (call_of m u c) ≡ 10) ↔ WalkRanOff m u c
  pub target : (m : Memory) (u : Unit) (c : Call) → (number_of (call_of m u c) ≡ 9) ↔ TargetNowhere m u c

-- Demand 1: memory -------------------------------------------------------------------------------------------------------

-- "memory is untouched by every answer other than 0"
abbrev pub MemoryUntouched : Type 0
MemoryUntouched = (m : Memory) (u : Unit) (c : Call) → number_of (call_of m u c) ≢ 0 → (call_of m u c).memory ≡ m

-- "and its length never changes"
abbrev pub LengthKept : Type 0
LengthKept = (m : Memory) (u : Unit) (c : Call) → length (call_of m u c).memory ≡ length m

-- Demand 1: what steps 4 and 6 leave alone -------------------------------------------------------------------------------

-- KTCS but for SS and DS
pub record StatesOnly (s t : Ktcs) : Type 0 where
  pub fcn : t.fcn ≡ s.fcn
  pub um : t.um ≡ s.um
  pub iu : t.iu ≡ s.iu
  pub rv : t.rv ≡ s.rv
  pub pv : t.pv ≡ s.pv
  pub wv : t.wv ≡ s.wv
  pub av : t.av ≡ s.av
  pub iv : t.iv ≡ s.iv

-- Step 4 makes t of KTCS s. SS and DS alone move: not in FCN 0, and not where an error flag stands; a fetch sets neither, and leaves both but in normal
-- paging; another access clears neither.
pub record Step4Status (q : Access) (s t : Ktcs) : Type 0 where
  pub only : StatesOnly s t
  pub fetch_ss : is_fetch q ≡ true → s.ss ≡ false → t.ss ≡ false
  pub fetch_ds : is_fetch q ≡ true → s.ds ≡ false → t.ds ≡ false
  pub fetch_not_normal : is_fetch q ≡ true → normal s q ≡ false → t ≡ s
  pub ss_stands : is_fetch q ≡ false → s.ss ≡ true → t.ss ≡ true
  pub ds_stands : is_fetch q ≡ false → s.ds ≡ true → t.ds ≡ true
  pub fcn_zero : s.fcn ≡ 0 → t ≡ s
  pub flagged : flags_clear s ≡ false → t ≡ s

-- Of KTIC to KTDT, KTIC alone moves: by a paged fetch, where no error flag stands.
pub record Step4Registers (q : Access) (c d : Core) : Type 0 where
  pub count : length d.kept ≡ length c.kept
  pub others : (i : ℕ) → i ≢ ktic → get_or d.kept i 0 ≡ get_or c.kept i 0
  pub unpaged-access : unpaged c.ktcs.fcn q.state ≡ true → d.kept ≡ c.kept
  pub no_fetch : is_fetch q ≡ false → d.kept ≡ c.kept
  pub flagged : flags_clear c.ktcs ≡ false → d.kept ≡ c.kept

-- Of the fetch memory the counts alone move: not by a fetch, that of DATOs by a DATO alone, and a count that is 2 stays so.
pub record Step4Counts (q : Access) (f g : Fetch) : Type 0 where
  pub newer : g.newer ≡ f.newer
  pub older : g.older ≡ f.older
  pub public : g.public ≡ f.public
  pub by_fetch : is_fetch q ≡ true → g ≡ f
  pub datos : is_dato q ≡ false → g.datos ≡ f.datos
  pub datos_stop : f.datos ≡ 2 → g.datos ≡ 2
  pub accesses_stop : f.accesses ≡ 2 → g.accesses ≡ 2

pub record Step4Keeps (q : Access) (c d : Core) : Type 0 where
  pub ktcs : Step4Status q c.ktcs d.ktcs
  pub registers : Step4Registers q c d
  pub wait : d.wait ≡ c.wait
  pub fetch : Step4Counts q c.fetch d.fetch

abbrev pub Step4Leaves : Type 0
Step4Leaves = (c : Core) (q : Access) → Step4Keeps q c (noted c q)

-- Step 6 for a page makes l of the cells k. It fills at most the cell that the counter names; a hit, a walk that ran off memory and exec page 0
-- leave the cells and the counter.
pub record Step6Keeps (user : Bool) (p : ℕ) (k : Cells) (l : Looked) : Type 0 where
  pub size : l.cells.size ≡ k.size
  pub count : length (there l.cells) ≡ length (there k)
  pub others : (i : ℕ) → i ≢ k.counter - 0o10 → cell_at l.cells i ≡ cell_at k i
  pub hit : {i : ℕ} → cell_of k (tag_of user p) ≡ Some i → l.cells ≡ k
  pub ran_off : l.entry ≡ Entry.OffMap → l.cells ≡ k
  pub at_exec_zero : exec_zero user p ≡ true → l.cells ≡ k

abbrev pub Step6Leaves : Type 0
Step6Leaves = (m : Memory) (r : Maps) (user : Bool) (p : ℕ) (k : Cells) → Step6Keeps user p k (looked m r user p k)

-- Demand 1: what a refusal leaves alone ----------------------------------------------------------------------------------

-- "answers 1, 2 and 3 change nothing"
abbrev pub RefusedUnchanged : Type 0
RefusedUnchanged =
    (m : Memory) (u : Unit) (c : Call) → number_of (call_of m u c) ≢ 0 → number_of (call_of m u c) < 4 → (call_of m u c).reply.unit ≡ u

-- "an unpaged 9 changes only what step 4 does, KTAD and KTDT"
pub record UnpagedTimeOut (u : Unit) (q : Access) (a : After) : Type 0 where
  pub number : number_of a ≡ 9
  pub core : a.reply.unit.core ≡ timed_out (noted u.core q) q
  pub maps : a.reply.unit.maps ≡ u.maps
  pub cells : a.reply.unit.cells ≡ u.cells
  pub ktcs : a.reply.unit.core.ktcs ≡ (noted u.core q).ktcs
  pub count : length a.reply.unit.core.kept ≡ length u.core.kept
  pub registers : (i : ℕ) → i ≢ ktad → i ≢ ktdt → get_or a.reply.unit.core.kept i 0 ≡ get_or u.core.kept i 0
  pub wait : a.reply.unit.core.wait ≡ u.core.wait
  pub fetch : a.reply.unit.core.fetch ≡ (noted u.core q).fetch

-- and an unpaged access is not answered by 4 to 8, nor by 10
abbrev pub UnpagedRefusal : Type 0
UnpagedRefusal =
    (m : Memory) (u : Unit) (q : Access) → unpaged u.core.ktcs.fcn q.state ≡ true → 3 < number_of (call_of m u (Call.Access q))
    → UnpagedTimeOut u q (call_of m u (Call.Access q))

-- Answers 4 to 8, 10 and a paged 9 make d of the core c. SS, DS and KTIC are as step 4 left them, KTSP, KTPC and KTPS as they were, KTAD too in a
-- window's inner access. Of the five flags the fault's own is set, and the others are as they were: "AV, RV, WV, PV, IV" are answers 4 to 8, and 9
-- and 10 have none. "IU takes UM; UM clears; FCN 3 becomes 2; .. fetch memory clears; the unit waits for two SERVICE DATOs."
pub record ViolationKeeps (q : Access) (window : Bool) (f : Fault) (c d : Core) : Type 0 where
  pub fcn : eqb c.ktcs.fcn 3 ≡ false → d.ktcs.fcn ≡ c.ktcs.fcn
  pub fcn_three : eqb c.ktcs.fcn 3 ≡ true → d.ktcs.fcn ≡ 2
  pub um : d.ktcs.um ≡ false
  pub iu : d.ktcs.iu ≡ c.ktcs.um
  pub ss : d.ktcs.ss ≡ (noted c q).ktcs.ss
  pub ds : d.ktcs.ds ≡ (noted c q).ktcs.ds
  pub av : d.ktcs.av ≡ (c.ktcs.av || eqb (shown (Answer.Fault f)).number 4)
  pub rv : d.ktcs.rv ≡ (c.ktcs.rv || eqb (shown (Answer.Fault f)).number 5)
  pub wv : d.ktcs.wv ≡ (c.ktcs.wv || eqb (shown (Answer.Fault f)).number 6)
  pub pv : d.ktcs.pv ≡ (c.ktcs.pv || eqb (shown (Answer.Fault f)).number 7)
  pub iv : d.ktcs.iv ≡ (c.ktcs.iv || eqb (shown (Answer.Fault f)).number 8)
  pub count : length d.kept ≡ length c.kept
  pub instruction : get_or d.kept ktic 0 ≡ get_or (noted c q).kept ktic 0
  pub registers : (i : ℕ) → i ≢ ktic → i ≢ ktad → i ≢ ktdt → get_or d.kept i 0 ≡ get_or c.kept i 0
  pub inner-address : window ≡ true → get_or d.kept ktad 0 ≡ get_or c.kept ktad 0
  pub wait : d.wait ≡ Wait.StatusDue
  pub fetch : d.fetch ≡ clear_fetch

-- Emptying the cell of the page at fault makes l of the cells k: the counter and the cells of other pages stay, and all where the page has none.
pub record ForgottenKeeps (tag : ℕ) (k l : Cells) : Type 0 where
  pub counter : l.counter ≡ k.counter
  pub size : l.size ≡ k.size
  pub count : length (there l) ≡ length (there k)
  pub none : tag ≡ 0 → l ≡ k
  pub others : (i : ℕ) → (cell_at k i).tag ≢ tag → cell_at l i ≡ cell_at k i

-- of an access that steps 5 to 11 refuse, whether the page at fault is a window's inner one: all tests of its own page pass
abbrev pub fault_inside : Memory → Unit → Access → Bool
fault_inside m u q = all_pass (outer_tests m u q)

abbrev pub tag_at_fault : Memory → Unit → Access → ℕ
tag_at_fault m u q = pick (fault_inside m u q) (inner_tag u q) (outer_tag u q)

-- the cells as step 6 left them: an odd address is refused before it
abbrev pub cells_looked : Memory → Unit → Access → Cells
cells_looked m u q =
    pick (odd_word q.width q.addr) u.cells
    (pick (fault_inside m u q && not (odd_word q.width (window_addr (job u q)))) (inner m u q).cells (outer m u q).cells)

-- "answers 4 to 8 and a paged 9 change only what steps 4 and 6 do and the sequence", and so does 10: "State changes are as for 9" (T-01)
pub record Violation (m : Memory) (u : Unit) (q : Access) (a : After) : Type 0 where
  pub fault : Fault
  pub answer : a.reply.answer ≡ Answer.Fault fault
  pub core : a.reply.unit.core ≡ violated (noted u.core q) q (fault_inside m u q) fault
  pub maps : a.reply.unit.maps ≡ u.maps
  pub cells : a.reply.unit.cells ≡ forgotten (cells_looked m u q) (tag_at_fault m u q)
  pub keeps : ViolationKeeps q (fault_inside m u q) fault u.core a.reply.unit.core
  pub others : ForgottenKeeps (tag_at_fault m u q) (cells_looked m u q) a.reply.unit.cells

abbrev pub PagedRefusal : Type 0
PagedRefusal =
    (m : Memory) (u : Unit) (q : Access) → unpaged u.core.ktcs.fcn q.state ≡ false → 3 < number_of (call_of m u (Call.Access q))
    → Violation m u q (call_of m u (Call.Access q))

-- "State changes are as for 9" (T-01): of the core this, and of map registers and cells `Violation`, in which they don't depend on the fault
abbrev pub AsForNine : Type 0
AsForNine = (c : Core) (q : Access) (window : Bool) → violated c q window Fault.NoMapWord ≡ violated c q window Fault.NoTarget

-- Demand 1: what interrupt, trap and INIT leave alone --------------------------------------------------------------------

-- An interrupt or a trap, accepted or not, makes d of the core c: it moves IU, and from user mode UM, the wait and the fetch memory.
pub record ModesOnly (c d : Core) : Type 0 where
  pub registers : d.kept ≡ c.kept
  pub fcn : d.ktcs.fcn ≡ c.ktcs.fcn
  pub ss : d.ktcs.ss ≡ c.ktcs.ss
  pub ds : d.ktcs.ds ≡ c.ktcs.ds
  pub rv : d.ktcs.rv ≡ c.ktcs.rv
  pub pv : d.ktcs.pv ≡ c.ktcs.pv
  pub wv : d.ktcs.wv ≡ c.ktcs.wv
  pub av : d.ktcs.av ≡ c.ktcs.av
  pub iv : d.ktcs.iv ≡ c.ktcs.iv
  pub exec_um : c.ktcs.um ≡ false → d.ktcs.um ≡ false
  pub exec_wait : c.ktcs.um ≡ false → d.wait ≡ c.wait
  pub exec_fetch : c.ktcs.um ≡ false → d.fetch ≡ c.fetch

pub record InterruptKeeps (m : Memory) (u : Unit) (a : After) : Type 0 where
  pub memory : a.memory ≡ m
  pub maps : a.reply.unit.maps ≡ u.maps
  pub cells : a.reply.unit.cells ≡ u.cells
  pub core : ModesOnly u.core a.reply.unit.core

abbrev pub InterruptLeaves : Type 0
InterruptLeaves = (m : Memory) (u : Unit) → InterruptKeeps m u (call_of m u Call.Interrupt)

abbrev pub TrapLeaves : Type 0
TrapLeaves = (m : Memory) (u : Unit) (v : ℕ) → InterruptKeeps m u (call_of m u (Call.Trap v))

-- "Trap from exec changes nothing."
abbrev pub ExecTrapUnchanged : Type 0
ExecTrapUnchanged = (m : Memory) (u : Unit) (v : ℕ) → u.core.ktcs.um ≡ false → (call_of m u (Call.Trap v)).reply.unit ≡ u

-- "vector 34o when the last two fetched words are not both TRAP; that changes nothing"
abbrev pub OtherTrapUnchanged : Type 0
OtherTrapUnchanged = (m : Memory) (u : Unit) → trap_twice u.core.fetch ≡ false → (call_of m u (Call.Trap 0o34)).reply.unit ≡ u

-- "empties all cells and sets the counter to 10o" makes l of the cells k; how many there are stays
pub record Reloaded (k l : Cells) : Type 0 where
  pub cells : (i : ℕ) → cell_at l i ≡ empty_cell
  pub counter : l.counter ≡ 0o10
  pub size : l.size ≡ k.size

-- INIT: "other registers stay (H)", and the cells are cleared
pub record InitKeeps (m : Memory) (u : Unit) (a : After) : Type 0 where
  pub memory : a.memory ≡ m
  pub maps : a.reply.unit.maps ≡ u.maps
  pub registers : a.reply.unit.core.kept ≡ u.core.kept
  pub cells : Reloaded u.cells a.reply.unit.cells

abbrev pub InitLeaves : Type 0
InitLeaves = (m : Memory) (u : Unit) → InitKeeps m u (call_of m u Call.Init)

-- Demand 1: what a store does to the cells -------------------------------------------------------------------------------

-- Which calls store into a map register or a scratchpad word is `EffectsByAnswer` of Ways.antt, and what their effect does to the cells is this.
abbrev pub ReloadEmpties : Type 0
ReloadEmpties = (r : Maps) (k : Cells) → Reloaded k (cells_after (Effect.Reload r) k)

-- "A store into a scratchpad word leaves the tag, and does nothing in an empty cell (H).": a store into the word of cell i makes l of the cells k
pub record PadTakes (i : ℕ) (p : Part) (v : ℕ) (k l : Cells) : Type 0 where
  pub tag : (cell_at l i).tag ≡ (cell_at k i).tag
  pub word : (cell_at k i).tag ≢ 0 → (cell_at l i).word ≡ merged p (cell_at k i).word v
  pub empty : (cell_at k i).tag ≡ 0 → cell_at l i ≡ cell_at k i
  pub others : (j : ℕ) → j ≢ i → cell_at l j ≡ cell_at k j
  pub counter : l.counter ≡ k.counter
  pub size : l.size ≡ k.size

abbrev pub PadStoreTakes : Type 0
PadStoreTakes =
    (k : Cells) (i : ℕ) (p : Part) (v : ℕ) → i < length (there k) → PadTakes i p v k (cells_after (Effect.StorePad i p v) k)

-- Making, and how many cells there are ------------------------------------------------------------------------------------

-- "a fresh unit (all zero, then INIT) with so many cells, counter 10o" (T-08); the room of cells that it hasn't got is empty too
pub record FreshUnit (s : Size) (u : Unit) : Type 0 where
  pub ktcs : packed u.core.ktcs ≡ 0
  pub kept : u.core.kept ≡ 0 ∷ 0 ∷ 0 ∷ 0 ∷ 0 ∷ 0 ∷ []
  pub wait : u.core.wait ≡ Wait.Nothing
  pub fetch : u.core.fetch ≡ record { newer = 0; older = 0; datos = 0; accesses = 0; public = false }
  pub maps : u.maps ≡ record { ktum = 0; ktem = 0 }
  pub cells : u.cells ≡ record { size = s; list = replicate 24 (record { tag = 0; word = 0 }); counter = 0o10 }

-- "8 and 24 give a fresh unit .. Every other number gives 30 and no unit." (T-08): the sizes by the number that is asked for
pub record MadeOrRefused : Type 0 where
  pub eight : size_of 8 ≡ Some Size.Eight
  pub of_twenty_four : size_of 24 ≡ Some Size.TwentyFour
  pub other : (n : ℕ) → n ≢ 8 → n ≢ 24 → size_of n ≡ None
  -- what is made has as many cells as were asked for
  pub count : (n : ℕ) (s : Size) → size_of n ≡ Some s → count_of s ≡ n
  pub made : (s : Size) → making_shown (Some s) ≡ record { number = 0; datum = 0; physical = None }
  pub refused : making_shown None ≡ record { number = 30; datum = 0; physical = None }
  pub fresh-unit : (s : Size) → FreshUnit s (fresh s)

-- "Cell i (from 0) is the one that the counter names at 10o + i" (T-08): the one that a finished walk fills, and the one whose scratchpad word
-- then reads what it holds; where that word stands is `PadsByAddress` of HostView.antt
pub record FilledAt (i tag w : ℕ) (k : Cells) : Type 0 where
  pub cell : cell_at k i ≡ record { tag = tag; word = w }
  pub read : peeked k (Associative.Pad i) ≡ w
  -- "then the counter steps .. and round"
  pub next : i + 1 < count_of k.size → k.counter ≡ 0o10 + (i + 1)
  pub round : i + 1 ≡ count_of k.size → k.counter ≡ 0o10

abbrev pub CellByCounter : Type 0
CellByCounter = (k : Cells) (i tag w : ℕ) → k.counter ≡ 0o10 + i → i < length (there k) → FilledAt i tag w (filled k tag w)

-- "The number of cells is set by making alone." (T-08)
abbrev pub SizeStays : Type 0
SizeStays = (m : Memory) (u : Unit) (c : Call) → (call_of m u c).reply.unit.cells.size ≡ u.cells.size

-- two units that differ at most in what stands past the cells that are there
pub record Alike (u v : Unit) : Type 0 where
  pub core : u.core ≡ v.core
  pub maps : u.maps ≡ v.maps
  pub size : u.cells.size ≡ v.cells.size
  pub counter : u.cells.counter ≡ v.cells.counter
  pub cells : there u.cells ≡ there v.cells

pub record AlikeAfter (a b : After) : Type 0 where
  pub answer : a.reply.answer ≡ b.reply.answer
  pub memory : a.memory ≡ b.memory
  pub units : Alike a.reply.unit b.reply.unit

-- "They are not there: no search comes to them, no counter names them, no address reads them, and what stands in those words changes no
-- answer." (T-08)
abbrev pub AbsentUnseen : Type 0
AbsentUnseen = (m : Memory) (u v : Unit) (c : Call) → Alike u v → AlikeAfter (call_of m u c) (call_of m v c)

-- Demand 3, first part: always ------------------------------------------------------------------------------------------

-- a unit's n cells, in a list with room for all, one of which the counter names: the first of them is 10 octal
pub record NamesCell (n : ℕ) (k : Cells) : Type 0 where
  pub size : count_of k.size ≡ n
  pub number : length (there k) ≡ n
  pub listed : length k.list ≡ room
  pub from : 0o10 ≤ k.counter
  pub below : k.counter < 0o10 + n

-- what holds of the cells of a unit with n of them
pub record CellsFit (n : ℕ) (k : Cells) : Type 0 where
  -- their number stays, and the counter names one
  pub names : NamesCell n k
  -- no page stands in two cells
  pub once : (i j : ℕ) → (cell_at k i).tag ≡ (cell_at k j).tag → (cell_at k i).tag ≢ 0 → i ≡ j
  -- an empty cell holds nothing
  pub empty : (i : ℕ) → (cell_at k i).tag ≡ 0 → (cell_at k i).word ≡ 0
  -- a tag is that of a page, by 7 bits, with 128 for a user's
  pub tags : (i : ℕ) → (cell_at k i).tag < 256
  -- in the room of cells that the unit hasn't got nothing stands
  pub absent : (i : ℕ) → n ≤ i → get_or k.list i empty_cell ≡ empty_cell

-- the wait agrees with FCN and UM (`record {}` asks nothing)
abbrev pub WaitFits : Wait → ℕ → Bool → Type 0
WaitFits Wait.Nothing fcn um = record {}
WaitFits Wait.StatusDue fcn um = (um ≡ false) × (fcn ≢ 3)
WaitFits Wait.ProgramCounterDue fcn um = (um ≡ false) × (fcn ≢ 3)
WaitFits Wait.SecondReadDue fcn um = fcn ≡ 3

pub record CoreFit (c : Core) : Type 0 where
  pub fcn : c.ktcs.fcn < 4
  pub wait : WaitFits c.wait c.ktcs.fcn c.ktcs.um
  -- "each stops at 2", and a DATO is an access
  pub datos : c.fetch.datos ≤ c.fetch.accesses
  pub accesses : c.fetch.accesses ≤ 2

pub record UnitFit (n : ℕ) (u : Unit) : Type 0 where
  pub core : CoreFit u.core
  pub cells : CellsFit n u.cells

-- From a fresh unit of either size, after any calls, each over a memory of its own: so the host may change memory between them.
abbrev pub AlwaysFit : Type 0
AlwaysFit = (s : Size) (ts : List Turn) → UnitFit (count_of s) (unit_after (fresh s) ts)

-- Exec page zero stands in no cell: its tag is the one that means empty, which no other page has, and a look-up of it gives physical page M of
-- KTEM whatever the cells hold, and leaves them.
pub record ExecZeroUncelled : Type 0 where
  pub tag-zero : (user : Bool) (p : ℕ) → exec_zero user p ≡ true → tag_of user p ≡ 0
  pub tag-other : (user : Bool) (p : ℕ) → exec_zero user p ≡ false → tag_of user p ≢ 0
  pub look_up : (m : Memory) (r : Maps) (k : Cells) → looked m r false 0 k ≡ record { entry = exec_zero_entry r; cells = k }

-- Demand 3, second part: on the premises, which `meets` of specs/Runs.antt computes (`crates/worked` has runs that meet them) ---

-- a cell that holds what the walk of its page now gives, so that this walk does not run off memory
pub record HoldsItsPage (m : Memory) (r : Maps) (c : Cell) : Type 0 where
  pub user : Bool
  pub page : ℕ
  pub below : page < 128
  pub tag : c.tag ≡ tag_of user page
  pub word : entry_of (walk_of m r user page) ≡ Entry.Mapped c.word

-- where a run stands: each cell holds what the walk of its page now gives, unless it is empty or its page is outdated
abbrev pub CellsTrueAt : Station → History → Type 0
CellsTrueAt s h =
    (i : ℕ) → (cell_at s.unit.cells i).tag ≢ 0 → is_outdated (h (cell_at s.unit.cells i).tag) ≡ false
    → HoldsItsPage s.memory s.unit.maps (cell_at s.unit.cells i)

-- So it is after every prefix cs of a run cs ++ ds that meets the premises.
abbrev pub CellsTrueThroughout : Type 0
CellsTrueThroughout =
    (s : Size) (m : Memory) (cs ds : List Call) → meets m (fresh s) none_in_use (cs ++ ds) ≡ true
    → CellsTrueAt (station_after m (fresh s) cs) (history_of m (fresh s) none_in_use cs)

-- After each call of such a run the answer with its data and physical address, KTCS, the registers, the wait, the fetch memory and every byte of
-- memory are those of the unit with no cells, which walks the maps on every access.
abbrev pub SameAsPlain : Type 0
SameAsPlain =
    (s : Size) (m : Memory) (cs : List Call) → meets m (fresh s) none_in_use cs ≡ true
    → seen_along m (fresh s) cs ≡ plain_along m (plain_of (fresh s)) cs

-- All of them ------------------------------------------------------------------------------------------------------------

pub record Promises : Type 0 where
  -- Demand 1
  pub answered_in_order : AnsweredInOrder
  pub numbers_of_steps : NumbersOfSteps
  pub numbered : Numbered
  pub bare-refusals : BareRefusals
  pub two-reasons : TwoReasons
  pub eighteen_bits : EighteenBits
  pub memory-untouched : MemoryUntouched
  pub length_kept : LengthKept
  pub refused-unchanged : RefusedUnchanged
  pub unpaged-refusal : UnpagedRefusal
  pub paged_refusal : PagedRefusal
  pub as_for_nine : AsForNine
  pub step4_leaves : Step4Leaves
  pub step6_leaves : Step6Leaves
  pub interrupt_leaves : InterruptLeaves
  pub trap_leaves : TrapLeaves
  pub exec_trap_unchanged : ExecTrapUnchanged
  pub other_trap_unchanged : OtherTrapUnchanged
  pub init_leaves : InitLeaves
  pub reload_empties : ReloadEmpties
  pub pad_store_takes : PadStoreTakes
  -- Making
  pub made_or_refused : MadeOrRefused
  pub cell_by_counter : CellByCounter
  pub size-stays : SizeStays
  pub absent-unseen : AbsentUnseen
  -- Demand 3
  pub always_fit : AlwaysFit
  pub exec_zero_uncelled : ExecZeroUncelled
  pub cells_true_throughout : CellsTrueThroughout
  pub same_as_plain : SameAsPlain
