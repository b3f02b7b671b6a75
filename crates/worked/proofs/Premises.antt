-- That the premises of demand 3 can be met, and that each is needed: runs computed from the definitions.
use Prim.Native.Nat.{ℕ, ◌+◌, ◌*◌}
use native.Mathlib.Omega.{arith}
use mathlib.Core.Path.{◌≡◌, refl, ap}
use mathlib.Core.Bool.{Bool, true, false}
use mathlib.Core.List.{List, [], ◌∷◌, ◌++◌, map}
use lib.ListN.{length, replicate}
use Rattle.rules.specs.declared.Size.{Size}
use Rattle.rules.specs.declared.Call.{Call}
use Rattle.rules.specs.declared.Unit.{Unit}
use Rattle.rules.specs.Memory.{Memory, store_word}
use Rattle.rules.specs.Unit.{there}
use Rattle.rules.specs.Maps.{tag_in}
use Rattle.rules.specs.Answers.{shown}
use Rattle.rules.specs.Calls.{call_of}
use Rattle.rules.specs.Runs.{Seen, seen_in, seen_along, station_after, plain_of, plain_call, plain_along, deed_of, Use, unused, in_use, outdated, History, none_in_use, heard, none_outdated, meets, history_of}
use Rattle.rules.proofs.Demand3.SameRun.{same_as_plain}
use Rattle.worked.proofs.Opened.{opened}
use Rattle.worked.proofs.Units.{eight, twenty_four}
use Rattle.worked.proofs.Worked.{A}

-- the number of an answer and its data
pub record Told : Type 0 where
  pub number : ℕ
  pub datum : ℕ

abbrev pub told_by : Seen → Told
told_by s = record { number = (shown s.answer).number; datum = (shown s.answer).datum }

abbrev pub ans : ℕ → ℕ → Told
ans n d = record { number = n; datum = d }

-- words stored one after another
pub record Word : Type 0 where
  pub place : ℕ
  pub value : ℕ

abbrev pub stored : List Word → Memory → Memory
stored [] m = m
stored (w ∷ ws) m = stored ws (store_word m w.place w.value)

-- a line of the bench program's input that begins with W
abbrev pub W : ℕ → ℕ → Word
W a v = record { place = a; value = v }

-- Four pages of memory. The exec's map is page 1, all simple: its pages 1 to 9 are physical page 2, and its last page is the registers' (777o).
-- By the exec's page 0, which is page 1 too, the exec stores into its own map. Page 2 begins with 111o and page 3 with 222o. Page 3 is another
-- map, by which the exec's pages 1 and 5 are page 3, and by which the user's page 2 has a pointer to the map word of the exec's page 3 in page 1.
abbrev pub memory : Memory
memory =
    stored
    (W 0o001402 0o160002 ∷ W 0o001404 0o160002 ∷ W 0o001406 0o160002 ∷ W 0o001410 0o160002 ∷ W 0o001412 0o160002
    ∷ W 0o001414 0o160002 ∷ W 0o001416 0o160002 ∷ W 0o001420 0o160002 ∷ W 0o001422 0o160002
    ∷ W 0o001776 0o160777 ∷ W 0o002000 0o111 ∷ W 0o003000 0o222 ∷ W 0o003402 0o160003 ∷ W 0o003412 0o160003 ∷ W 0o003404 0o003001 ∷ [])
    (replicate 2048 0)

-- KTEM 177001 and FCN 2
abbrev pub paging_on : List Call
paging_on = A 2 1 0 0o177616 0o177001 ∷ A 2 1 0 0o177576 0o000002 ∷ []

-- the exec reads the first word of its page p
abbrev pub read_page : ℕ → Call
read_page p = A 0 1 0 (512 * p) 0

-- it stores into the map word of its page p: physical page 3 from now on
abbrev pub move_page : ℕ → Call
move_page p = A 2 1 0 (0o400 + 2 * p) 0o160003

-- A run that meets the premises ------------------------------------------------------------------------------------------------

-- Nine pages are read: eight cells fill, and the ninth walk replaces page 1.
abbrev pub nine_read : List Call
nine_read = paging_on ++ map read_page (1 ∷ 2 ∷ 3 ∷ 4 ∷ 5 ∷ 6 ∷ 7 ∷ 8 ∷ 9 ∷ [])

-- The map words of pages 1, which no cell holds, and 2 are stored into.
abbrev pub two_moved : List Call
two_moved = nine_read ++ (move_page 1 ∷ move_page 2 ∷ [])

-- Page 2 is at fault, by an odd word, and its two SERVICE stores follow.
abbrev pub one_faulted : List Call
one_faulted = two_moved ++ (A 0 1 0 0o002001 0 ∷ A 2 4 0 0 0 ∷ A 2 4 0 0 0 ∷ [])

-- Page 2 is read. By page 127, which is the registers', KTEM takes 177003, and pages 1 and 5 are read, of which a cell held the latter.
abbrev pub all_forgotten : List Call
all_forgotten = one_faulted ++ (read_page 2 ∷ A 2 1 0 0o177616 0o177003 ∷ read_page 1 ∷ read_page 5 ∷ [])

-- A user's page by the window, with KTUM 000003, by which only the user's page 0 is simple: KTAD takes the page's address, and the window is read.
abbrev pub through_window : ℕ → List Call
through_window a = A 2 1 0 0o177610 a ∷ A 0 1 0 0o177572 0 ∷ []

abbrev pub shared_read : List Call
shared_read = A 2 1 0 0o177614 0o000003 ∷ paging_on ++ through_window 0o002000

-- The map word that the pointer leads to is stored into, as that of the exec's page 3.
abbrev pub shared_moved : List Call
shared_moved = shared_read ++ (move_page 3 ∷ [])

-- The user's page is at fault, by an odd word, the two SERVICE stores follow, and it is read again.
abbrev pub shared_again : List Call
shared_again = shared_moved ++ through_window 0o002001 ++ (A 2 4 0 0 0 ∷ A 2 4 0 0 0 ∷ []) ++ through_window 0o002000

abbrev pub use_after : List Call → ℕ → Use
use_after cs tag = history_of memory eight none_in_use cs tag

abbrev pub tags_after : List Call → List ℕ
tags_after cs = map tag_in (there (station_after memory eight cs).unit.cells)

pub record PremisesMet : Type 0 where
  pub filled_and_replaced : tags_after nine_read ≡ 9 ∷ 2 ∷ 3 ∷ 4 ∷ 5 ∷ 6 ∷ 7 ∷ 8 ∷ []
  pub replaced_in_use : use_after nine_read 1 ≡ in_use (0o001402 ∷ [])
  pub outdated-unheld : use_after two_moved 1 ≡ outdated
  pub outdated-held : use_after two_moved 2 ≡ outdated
  pub forgotten_by_fault : use_after one_faulted 2 ≡ unused
  pub emptied_by_fault : tags_after one_faulted ≡ 9 ∷ 0 ∷ 3 ∷ 4 ∷ 5 ∷ 6 ∷ 7 ∷ 8 ∷ []
  pub still_outdated : use_after one_faulted 1 ≡ outdated
  pub all_met : meets memory eight none_in_use all_forgotten ≡ true
  pub answers :
      map told_by (seen_along memory eight all_forgotten)
      ≡ ans 0 0 ∷ ans 0 0 ∷ ans 0 0o111 ∷ ans 0 0o111 ∷ ans 0 0o111 ∷ ans 0 0o111 ∷ ans 0 0o111 ∷ ans 0 0o111 ∷ ans 0 0o111 ∷ ans 0 0o111 ∷ ans 0 0o111 ∷ ans 0 0
      ∷ ans 0 0 ∷ ans 4 0 ∷ ans 0 0 ∷ ans 0 0 ∷ ans 0 0o222 ∷ ans 0 0 ∷ ans 0 0o222 ∷ ans 0 0o222 ∷ []
  pub ends_with : tags_after all_forgotten ≡ 1 ∷ 5 ∷ 0 ∷ 0 ∷ 0 ∷ 0 ∷ 0 ∷ 0 ∷ []
  -- a user's page 2 has tag 130, its pointer and its map word count, and the window's outer page is the exec's 127
  pub shared_in_use : use_after shared_read 130 ≡ in_use (0o003404 ∷ 0o001406 ∷ [])
  pub shared_tags : tags_after shared_read ≡ 127 ∷ 130 ∷ 0 ∷ 0 ∷ 0 ∷ 0 ∷ 0 ∷ 0 ∷ []
  pub shared_outdated : use_after shared_moved 130 ≡ outdated
  pub shared_met : meets memory eight none_in_use shared_again ≡ true
  pub shared_answers :
      map told_by (seen_along memory eight shared_again)
      ≡ ans 0 0 ∷ ans 0 0 ∷ ans 0 0 ∷ ans 0 0 ∷ ans 0 0o111 ∷ ans 0 0 ∷ ans 0 0 ∷ ans 4 0 ∷ ans 0 0 ∷ ans 0 0 ∷ ans 0 0 ∷ ans 0 0o222 ∷ []

pub premises_met : PremisesMet
unfolding opened
premises_met =
    record {
      filled_and_replaced = refl;
      replaced_in_use = refl;
      outdated-unheld = refl;
      outdated-held = refl;
      forgotten_by_fault = refl;
      emptied_by_fault = refl;
      still_outdated = refl;
      all_met = refl;
      answers = refl;
      ends_with = refl;
      shared_in_use = refl;
      shared_tags = refl;
      shared_outdated = refl;
      shared_met = refl;
      shared_answers = refl;
    }

-- Runs that break one premise --------------------------------------------------------------------------------------------------

-- of each call: whether it reaches a scratchpad word or the replacement register, and whether it goes to no outdated page
abbrev pub reaches_along : Memory → Unit → List Call → List Bool
reaches_along m u [] = []
reaches_along m u (c ∷ cs) = (deed_of m u c).reaches ∷ reaches_along (call_of m u c).memory (call_of m u c).reply.unit cs

abbrev pub current_along : Memory → Unit → History → List Call → List Bool
current_along m u h [] = []
current_along m u h (c ∷ cs) =
    none_outdated h (deed_of m u c).visits ∷ current_along (call_of m u c).memory (call_of m u c).reply.unit (heard h (deed_of m u c)) cs

-- Page 1 is read, its scratchpad word, which is the first, is stored into, and it is read again.
abbrev pub pad_stored_run : List Call
pad_stored_run = paging_on ++ (read_page 1 ∷ A 2 1 0 0o177620 0o160003 ∷ read_page 1 ∷ [])

-- The replacement register is read, unpaged.
abbrev pub counter_read_run : List Call
counter_read_run = A 0 1 0 0o177574 0 ∷ []

-- Page 1 is read, its map word is stored into, and it is read again with no fault between.
abbrev pub stale_run : List Call
stale_run = paging_on ++ (read_page 1 ∷ move_page 1 ∷ read_page 1 ∷ [])

-- Page 1 is read. Then the host stores into its map word, and page 1 is read again.
abbrev pub before_host : List Call
before_host = paging_on ++ (read_page 1 ∷ [])

abbrev pub host_changed : Memory
host_changed = store_word (station_after memory eight before_host).memory 0o001402 0o160003

-- KTEM 177001 and FCN 1, in which EXECUTE is paged and SOURCE is not; then nine pages are read, by EXECUTE
abbrev pub execute_page : ℕ → Call
execute_page p = A 0 3 0 (512 * p) 0

abbrev pub nine_by_execute : List Call
nine_by_execute =
    A 2 1 0 0o177616 0o177001 ∷ A 2 1 0 0o177576 0o000001 ∷ map execute_page (1 ∷ 2 ∷ 3 ∷ 4 ∷ 5 ∷ 6 ∷ 7 ∷ 8 ∷ 9 ∷ [])

-- A unit with 24 cells holds the ninth page in cell 8. Its scratchpad word, at 777640o, is stored into, and the page is read again.
abbrev pub ninth_stored_run : List Call
ninth_stored_run = nine_by_execute ++ (A 2 1 0 0o177640 0o160003 ∷ execute_page 9 ∷ [])

-- what both units answer to the first eleven calls
abbrev pub nine_executed : List Told
nine_executed =
    ans 0 0 ∷ ans 0 0 ∷ ans 0 0o111 ∷ ans 0 0o111 ∷ ans 0 0o111 ∷ ans 0 0o111 ∷ ans 0 0o111 ∷ ans 0 0o111 ∷ ans 0 0o111 ∷ ans 0 0o111
    ∷ ans 0 0o111 ∷ []

pub record EachPremiseNeeded : Type 0 where
  -- a scratchpad store: that call alone breaks a premise, and the last answers differ
  pub pad_reaches : reaches_along memory eight pad_stored_run ≡ false ∷ false ∷ false ∷ true ∷ false ∷ []
  pub pad_current : current_along memory eight none_in_use pad_stored_run ≡ true ∷ true ∷ true ∷ true ∷ true ∷ []
  pub pad_seen : map told_by (seen_along memory eight pad_stored_run) ≡ ans 0 0 ∷ ans 0 0 ∷ ans 0 0o111 ∷ ans 0 0 ∷ ans 0 0o222 ∷ []
  pub pad_plain :
      map told_by (plain_along memory (plain_of eight) pad_stored_run) ≡ ans 0 0 ∷ ans 0 0 ∷ ans 0 0o111 ∷ ans 0 0 ∷ ans 0 0o111 ∷ []
  pub pad_differs : seen_along memory eight pad_stored_run ≡ plain_along memory (plain_of eight) pad_stored_run → ⊥
  -- a read of the replacement register
  pub counter_reaches : reaches_along memory eight counter_read_run ≡ true ∷ []
  pub counter_current : current_along memory eight none_in_use counter_read_run ≡ true ∷ []
  pub counter_seen : map told_by (seen_along memory eight counter_read_run) ≡ ans 0 0o004000 ∷ []
  pub counter_plain : map told_by (plain_along memory (plain_of eight) counter_read_run) ≡ ans 0 0 ∷ []
  pub counter_differs : seen_along memory eight counter_read_run ≡ plain_along memory (plain_of eight) counter_read_run → ⊥
  -- a map word stored into and used: the last call alone breaks a premise
  pub stale_reaches : reaches_along memory eight stale_run ≡ false ∷ false ∷ false ∷ false ∷ false ∷ []
  pub stale_current : current_along memory eight none_in_use stale_run ≡ true ∷ true ∷ true ∷ true ∷ false ∷ []
  pub stale_seen : map told_by (seen_along memory eight stale_run) ≡ ans 0 0 ∷ ans 0 0 ∷ ans 0 0o111 ∷ ans 0 0 ∷ ans 0 0o111 ∷ []
  pub stale_plain :
      map told_by (plain_along memory (plain_of eight) stale_run) ≡ ans 0 0 ∷ ans 0 0 ∷ ans 0 0o111 ∷ ans 0 0 ∷ ans 0 0o222 ∷ []
  pub stale_differs : seen_along memory eight stale_run ≡ plain_along memory (plain_of eight) stale_run → ⊥
  -- a host that changes memory: every call meets the other premises
  pub host_met : meets memory eight none_in_use before_host ≡ true
  pub host_met_on :
      meets host_changed (station_after memory eight before_host).unit (history_of memory eight none_in_use before_host) (read_page 1 ∷ []) ≡ true
  pub host_keeps_length : length host_changed ≡ length memory
  pub host_seen : told_by (seen_in (call_of host_changed (station_after memory eight before_host).unit (read_page 1))) ≡ ans 0 0o111
  pub host_plain : told_by (plain_call host_changed (plain_of (station_after memory eight before_host).unit) (read_page 1)) ≡ ans 0 0o222
  pub host_differs :
      seen_in (call_of host_changed (station_after memory eight before_host).unit (read_page 1))
      ≡ plain_call host_changed (plain_of (station_after memory eight before_host).unit) (read_page 1) → ⊥

-- "no call reaches the scratchpad words" means those that the unit has (T-08): with 24 cells a store into 777640o reaches one, and the premise is
-- needed there too; with 8 the same calls reach none, meet the premises and do not part.
pub record PadsOfTheUnit : Type 0 where
  pub reaches :
      reaches_along memory twenty_four ninth_stored_run
      ≡ false ∷ false ∷ false ∷ false ∷ false ∷ false ∷ false ∷ false ∷ false ∷ false ∷ false ∷ true ∷ false ∷ []
  pub current : current_along memory twenty_four none_in_use ninth_stored_run ≡ replicate 13 true
  pub seen : map told_by (seen_along memory twenty_four ninth_stored_run) ≡ nine_executed ++ (ans 0 0 ∷ ans 0 0o222 ∷ [])
  pub plain : map told_by (plain_along memory (plain_of twenty_four) ninth_stored_run) ≡ nine_executed ++ (ans 0 0 ∷ ans 0 0o111 ∷ [])
  pub differs : seen_along memory twenty_four ninth_stored_run ≡ plain_along memory (plain_of twenty_four) ninth_stored_run → ⊥
  pub eight-met : meets memory eight none_in_use ninth_stored_run ≡ true
  pub eight-plain : map told_by (plain_along memory (plain_of eight) ninth_stored_run) ≡ nine_executed ++ (ans 9 0 ∷ ans 0 0o111 ∷ [])
  pub eight-seen : map told_by (seen_along memory eight ninth_stored_run) ≡ nine_executed ++ (ans 9 0 ∷ ans 0 0o111 ∷ [])
  pub eight-same : seen_along memory eight ninth_stored_run ≡ plain_along memory (plain_of eight) ninth_stored_run

-- the sum of the data along a run, by which two runs are told apart
abbrev pub sum_of : List Told → ℕ
sum_of [] = 0
sum_of (s ∷ ss) = s.datum + sum_of ss

pub each_premise_needed : EachPremiseNeeded
unfolding opened
each_premise_needed =
    record {
      pad_reaches = refl;
      pad_current = refl;
      pad_seen = refl;
      pad_plain = refl;
      pad_differs = λ e. omega (arith, ap (λ (l : List Seen). sum_of (map told_by l)) e);
      counter_reaches = refl;
      counter_current = refl;
      counter_seen = refl;
      counter_plain = refl;
      counter_differs = λ e. omega (arith, ap (λ (l : List Seen). sum_of (map told_by l)) e);
      stale_reaches = refl;
      stale_current = refl;
      stale_seen = refl;
      stale_plain = refl;
      stale_differs = λ e. omega (arith, ap (λ (l : List Seen). sum_of (map told_by l)) e);
      host_met = refl;
      host_met_on = refl;
      host_keeps_length = refl;
      host_seen = refl;
      host_plain = refl;
      host_differs = λ e. omega (arith, ap (λ (s : Seen). (told_by s).datum) e);
    }

pub pads_of_the_unit : PadsOfTheUnit
unfolding opened
pads_of_the_unit =
    record {
      reaches = refl;
      current = refl;
      seen = refl;
      plain = refl;
      differs = λ e. omega (arith, ap (λ (l : List Seen). sum_of (map told_by l)) e);
      eight-met = refl;
      eight-plain = refl;
      eight-seen = refl;
      eight-same = same_as_plain Size.Eight memory ninth_stored_run refl;
    }
