-- Runs of calls whose answers are worked out by hand from document 01, and computed from the definitions.
use Prim.Native.Nat.{ℕ}
use mathlib.Core.Path.{◌≡◌, refl}
use mathlib.Core.List.{List, [], ◌∷◌, ◌++◌, map}
use lib.ListN.{replicate}
use Rattle.std.specs.Prelude.{Option, Some, None}
use Rattle.rules.specs.declared.Unit.{Unit}
use Rattle.rules.specs.declared.Call.{Call}
use Rattle.rules.specs.Memory.{Memory, store_word}
use Rattle.rules.specs.Status.{packed}
use Rattle.rules.specs.Answers.{shown}
use Rattle.rules.specs.Unit.{there}
use Rattle.rules.specs.Maps.{tag_in}
use Rattle.rules.specs.Runs.{Seen, seen_along, station_after}
use Rattle.worked.proofs.Opened.{opened}
use Rattle.worked.proofs.Units.{eight, twenty_four}
use Rattle.worked.proofs.Starred.{number_at}

-- what the bench program prints of a call: the answer's number, its data and physical address, and KTCS after it
pub record Row : Type 0 where
  pub number : ℕ
  pub datum : ℕ
  pub physical : Option ℕ
  pub ktcs : ℕ

abbrev pub row_of : Seen → Row
row_of s =
    record {
      number = (shown s.answer).number;
      datum = (shown s.answer).datum;
      physical = (shown s.answer).physical;
      ktcs = packed s.core.ktcs;
    }

-- a row with a physical address, and one with none
abbrev pub at : ℕ → ℕ → ℕ → ℕ → Row
at n d p s = record { number = n; datum = d; physical = Some p; ktcs = s }

abbrev pub off : ℕ → ℕ → ℕ → Row
off n d s = record { number = n; datum = d; physical = None; ktcs = s }

-- a line of the bench program's input that begins with A
abbrev pub A : ℕ → ℕ → ℕ → ℕ → ℕ → Call
A op state width addr datum = Call.Access (record { op = op; state = state; width = width; addr = addr; datum = datum })

-- 01's listing: 65,536 bytes of zeroed memory, two words stored, four calls of a fresh unit
abbrev pub listing_of : Unit → List Row
listing_of u =
    map row_of
    (seen_along (store_word (store_word (replicate 65536 0) 0o001402 0o160002) 0o002004 0o000123) u
    (A 2 2 0 0o177616 0o177001 ∷ A 2 2 0 0o177576 0o000002 ∷ A 0 2 0 0o001004 0 ∷ A 0 2 0 0o001005 0 ∷ []))

abbrev pub listing_rows : List Row
listing_rows = at 0 0 0o777616 0o000000 ∷ at 0 0 0o777576 0o000002 ∷ at 0 0o000123 0o002004 0o000012 ∷ off 4 0 0o040012 ∷ []

-- "The listing of 01 prints the same with both counts." (T-08)
pub listing : (listing_of eight ≡ listing_rows) × (listing_of twenty_four ≡ listing_rows)
unfolding opened
listing = (refl, refl)

-- "L=65,536 unpaged: the last word below 160000o is fine. L=4: 2 is fine"
pub fine_at_the_end : (number_at (replicate 65536 0) 0o157776 ≡ 0) × (number_at (replicate 4 0) 2 ≡ 0)
unfolding opened
fine_at_the_end = (refl, refl)

-- Eight pages of memory. The exec's map is page 1, all simple, and its last page is the registers' (777o); the user's map is page 2, all
-- simple: page 0 is physical page 3, resident, public and write-enabled, and page 1 is not resident.
abbrev pub small_memory : Memory
small_memory =
    store_word (store_word (store_word (replicate 4096 0) 0o001776 0o160777) 0o002400 0o160003) 0o002402 0o020004

-- KTEM 177001, KTUM 177002, KTPC 000100, KTPS 000340, FCN 3 and the two START reads: a user is started.
abbrev pub start_user : List Call
start_user =
    A 2 1 0 0o177616 0o177001 ∷ A 2 1 0 0o177614 0o177002 ∷ A 2 1 0 0o177604 0o000100 ∷ A 2 1 0 0o177606 0o000340 ∷ A 2 1 0 0o177576 3 ∷ A 0 1 0 0 0 ∷ A 0 1 0 0 0 ∷ []

-- KTCS is FCN 3 before the reads and UM with FCN 2, 22o, after them. The reads give KTPC and KTPS, with no physical address.
pub a_user_starts :
    map row_of (seen_along small_memory eight start_user)
    ≡ at 0 0 0o777616 0 ∷ at 0 0 0o777614 0 ∷ at 0 0 0o777604 0 ∷ at 0 0 0o777606 0 ∷ at 0 0 0o777576 3 ∷ off 0 0o000100 3
    ∷ off 0 0o000340 0o000022 ∷ []
unfolding opened
a_user_starts = refl

-- what is seen of calls made after that start
abbrev pub onward : List Call → List Row
onward cs = map row_of (seen_along (station_after small_memory eight start_user).memory (station_after small_memory eight start_user).unit cs)

-- The user reads its page 1 in state SOURCE: answer 5. KTCS: RV 4000o, IU 40o (it takes UM, which clears), SS 4, FCN 2.
-- Then the two SERVICE stores, status 17o and program counter 1002o with stack pointer 776o. Last, by the exec's page of registers and with the
-- flags still standing, so that DS stays clear: KTAD, KTDT, KTPS, KTSP and KTPC.
pub a_violation_is_served :
    onward (A 0 1 0 0o001000 0 ∷ A 2 4 0 0o001000 0o000017 ∷ A 2 4 0 0o000776 0o001002 ∷ A 0 2 0 0o177610 0 ∷ A 0 2 0 0o177612 0
    ∷ A 0 2 0 0o177606 0 ∷ A 0 2 0 0o177602 0 ∷ A 0 2 0 0o177604 0 ∷ [])
    ≡ off 5 0 0o004046 ∷ off 0 0 0o004046 ∷ off 0 0 0o004046 ∷ at 0 0o001000 0o777610 0o004046 ∷ at 0 0 0o777612 0o004046
    ∷ at 0 0o000017 0o777606 0o004046 ∷ at 0 0o000776 0o777602 0o004046 ∷ at 0 0o001002 0o777604 0o004046 ∷ []
unfolding opened
a_violation_is_served = refl

-- The same violation and stores; the exec stores 2 into KTCS, which clears the flags and IU and leaves SS (6). It reads the window, in state
-- DESTINATION, with KTAD still 1000o: the user's page 1 is not resident, answer 5, now from exec mode (IU clear), with DS 10o: KTCS 4016o. After
-- the two stores KTAD is still 1000o.
pub a_window_faults_within :
    onward (A 0 1 0 0o001000 0 ∷ A 2 4 0 0 0 ∷ A 2 4 0 0 0 ∷ A 2 2 0 0o177576 2 ∷ A 0 2 0 0o177572 0 ∷ A 2 4 0 0 0 ∷ A 2 4 0 0 0
    ∷ A 0 2 0 0o177610 0 ∷ [])
    ≡ off 5 0 0o004046 ∷ off 0 0 0o004046 ∷ off 0 0 0o004046 ∷ at 0 0 0o777576 0o000006 ∷ off 5 0 0o004016 ∷ off 0 0 0o004016
    ∷ off 0 0 0o004016 ∷ at 0 0o001000 0o777610 0o004016 ∷ []
unfolding opened
a_window_faults_within = refl

-- the tags of the cells after a run of calls on a fresh unit
abbrev pub tags_after : List Call → List ℕ
tags_after cs = map tag_in (there (station_after small_memory eight cs).unit.cells)

-- KTEM 177001, FCN 2, and KTIC read through the exec's last page, 177o, which fills the first cell
abbrev pub one_cell : List Call
one_cell = A 2 1 0 0o177616 0o177001 ∷ A 2 1 0 0o177576 2 ∷ A 0 1 0 0o177600 0 ∷ []

-- "A store into KTUM or KTEM, byte or word, empties all cells", and so does a violation the cell of its page, which the walk had just filled.
pub record Emptied : Type 0 where
  pub filled : tags_after one_cell ≡ 0o177 ∷ replicate 7 0
  pub by_ktum : tags_after (one_cell ++ (A 3 1 1 0o177614 0o000002 ∷ [])) ≡ replicate 8 0
  pub by_ktem : tags_after (one_cell ++ (A 2 1 0 0o177616 0o177002 ∷ [])) ≡ replicate 8 0
  pub by_violation : tags_after (start_user ++ (A 0 1 0 0o001000 0 ∷ [])) ≡ replicate 8 0

pub emptied-cells : Emptied
unfolding opened
emptied-cells = record { filled = refl; by_ktum = refl; by_ktem = refl; by_violation = refl }
