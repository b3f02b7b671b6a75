-- The tests of the eleven steps of an access, in their order. Step 4, which refuses nothing, is `noted` of Fetched.antt; step 6's walk is `looked` of
-- Maps.antt; step 10's test is `place_of` of Registers.antt, which Order.antt asks.
use Rattle.std.specs.Prelude.{ℕ, ◌%◌, Bool, false, not, ◌&&◌, ◌||◌, eqb, ltb, Result, Ok, Err}
use Rattle.rules.specs.Types.{Fetch, Wait, Core, Access, Kind, Due, Entry, Fault}
use Rattle.rules.specs.Choice.{pick}
use Rattle.rules.specs.Memory.{good_length}
use Rattle.rules.specs.Maps.{resident_bit, public_bit, write_bit, low9}
use Rattle.rules.specs.Fetched.{is_fetch, is_dato, kind_of}

-- Step 1 -----------------------------------------------------------------------------------------------------------------

-- "Operations: 0 DATI, 1 DATIP, 2 DATO, 3 DATOB. States: 0 FETCH, 1 SOURCE, 2 DESTINATION, 3 EXECUTE, 4 SERVICE. Width: 0 word, 1 byte."
unfoldable pub listed : Access → Bool
listed q = ltb q.op 4 && ltb q.state 5 && ltb q.width 2

-- "a word DATI"
unfoldable pub word_dati : Access → Bool
word_dati q = eqb q.op 0 && eqb q.width 0

-- what answer 1 refuses: "DATO as byte, DATOB as word; FETCH not a word DATI"
unfoldable pub ill_fitting : Access → Bool
ill_fitting q = (is_dato q && eqb q.width 1) || (eqb q.op 3 && eqb q.width 0) || (is_fetch q && not (word_dati q))

-- "1. Shape (answer 1)": "a number outside its list; DATO as byte, DATOB as word; FETCH not a word DATI; for an access, L bad"
unfoldable pub well_shaped : ℕ → Access → Bool
well_shaped len q = listed q && not (ill_fitting q) && good_length len

-- Step 2 -----------------------------------------------------------------------------------------------------------------

-- "the unit waits for two SERVICE DATOs"
unfoldable pub service_dato : Access → Bool
service_dato q = is_dato q && eqb q.state 4

-- "the next two accesses other than a fetch must be word DATIs"
unfoldable pub start_read : Access → Bool
start_read q = not (is_fetch q) && word_dati q

-- "while waiting, another call than the one due" is refused; "FCN 3: the next two accesses other than a fetch must be word DATIs. .. Fetches may come
-- before the first and not between."
unfoldable pub due_when : Wait → ℕ → Access → Due
due_when Wait.Nothing fcn q = pick (eqb fcn 3 && not (is_fetch q)) (pick (start_read q) Due.FirstRead Due.OutOfTurn) Due.Steps
due_when Wait.StatusDue fcn q = pick (service_dato q) Due.StatusStore Due.OutOfTurn
due_when Wait.ProgramCounterDue fcn q = pick (service_dato q) Due.ProgramCounterStore Due.OutOfTurn
due_when Wait.SecondReadDue fcn q = pick (start_read q) Due.SecondRead Due.OutOfTurn

-- "2. The wait (2); a due sequence access ends here."
unfoldable pub due_of : Core → Access → Due
due_of c q = due_when c.wait c.ktcs.fcn q

-- Steps 3 and 5 ----------------------------------------------------------------------------------------------------------

-- "3. Unpaged odd word (3)." and "5. Paged odd word (4)."
unfoldable pub odd_word : ℕ → ℕ → Bool
odd_word width a = eqb width 0 && eqb (a % 2) 1

-- Steps 6 to 9 -----------------------------------------------------------------------------------------------------------

-- "7. Residency (5). 8. Write key for operations 1-3 (6). 9. Privacy (7)." of a map word; `watched` says that privacy is asked
unfoldable pub keys_of : ℕ → Bool → ℕ → Result ℕ Fault
keys_of op watched w =
    pick (not (resident_bit w)) (Err Fault.NotResident)
    (pick (not (eqb op 0) && not (write_bit w)) (Err Fault.NotWritable)
    (pick (watched && not (public_bit w)) (Err Fault.NotPublic) (Ok (low9 w))))

-- "6. Walk (9).", where "10 takes 9's place" (T-01), and the keys. "Exec page 0: physical page M of KTEM, no cell, every key passes."
unfoldable pub judged : ℕ → Bool → Entry → Result ℕ Fault
judged op watched Entry.OffMap = Err Fault.NoMapWord
judged op watched (Entry.ExecZero page) = Ok page
judged op watched (Entry.Mapped w) = keys_of op watched w

-- whether step 9 asks: "Privacy: not a fetch, flag set, page private."
unfoldable pub watches : Fetch → Access → Bool
watches f q = not (is_fetch q) && f.public

-- Step 11 ----------------------------------------------------------------------------------------------------------------

-- the page's public bit: "exec page 0 counts as private"
unfoldable pub public_page : Entry → Bool
public_page Entry.OffMap = false
public_page (Entry.ExecZero page) = false
public_page (Entry.Mapped w) = public_bit w

-- a page that is judged as private: exec page 0 "is never judged for privacy or entry point"
unfoldable pub guarded : Entry → Bool
guarded Entry.OffMap = false
guarded (Entry.ExecZero page) = false
guarded (Entry.Mapped w) = not (public_bit w)

-- by the word's kind: a user's privileged word, and any but the entry point where the fetch goes from public to private
unfoldable pub forbidden_by : Kind → Bool → Bool → Bool
forbidden_by Kind.Jsr user entering = entering
forbidden_by Kind.Rts user entering = entering
forbidden_by Kind.Rti user entering = entering
forbidden_by Kind.Trap user entering = entering
forbidden_by Kind.Privileged user entering = user || entering
forbidden_by Kind.EntryPoint user entering = false
forbidden_by Kind.Other user entering = entering

-- "Word rule, paged fetches: user HALT 0, WAIT 1, RESET 5; or flag set, page private, word not 000400o."
unfoldable pub forbidden : Core → Entry → ℕ → Bool
forbidden c e w = forbidden_by (kind_of w) c.ktcs.um (c.fetch.public && guarded e)
