-- How a unit lies in words of 16 bits, the same number of them for both sizes: between two words that never change, KTCS packed, and every other
-- field in a word of its own.
use Rattle.std.specs.Prelude.{ℕ, zero, suc, ◌+◌, ◌/◌, ◌%◌, Bool, true, false, ◌&&◌, ◌||◌, List, [], ◌∷◌, ◌++◌, map, eqb, ltb, leb, get_or, drop, Option, Some, None}
use Rattle.rules.specs.declared.Wait.{Wait}
use Rattle.rules.specs.declared.Core.{Core}
use Rattle.rules.specs.declared.Maps.{Maps}
use Rattle.rules.specs.declared.Cell.{Cell}
use Rattle.rules.specs.declared.Size.{Size}
use Rattle.rules.specs.declared.Cells.{Cells}
use Rattle.rules.specs.declared.Unit.{Unit}
use Rattle.rules.specs.Choice.{pick}
use Rattle.rules.specs.Unit.{count_of, room}
use Rattle.rules.specs.Status.{packed, unpacked}
use Rattle.rules.specs.Maps.{tag_in}

-- Places ---------------------------------------------------------------------------------------------------------------------------

-- how many words stand before the cells: an end, the core and the map registers
abbrev pub core_count : ℕ
core_count = 16

-- where the number of cells stands, and the counter behind it
abbrev pub count_place : ℕ
count_place = core_count

abbrev pub counter_place : ℕ
counter_place = count_place + 1

-- Where the cells' tags begin, and behind them their words, with room for all that the larger unit has. In the room of cells that a unit hasn't got
-- anything may stand.
abbrev pub tags_place : ℕ
tags_place = counter_place + 1

abbrev pub words_place : ℕ
words_place = tags_place + room

-- where the other end stands
abbrev pub last_place : ℕ
last_place = words_place + room

-- how many words a unit takes
abbrev pub unit_words : ℕ
unit_words = last_place + 1

-- Single words ---------------------------------------------------------------------------------------------------------------------

-- The first end, which reads "K2" as bytes: words never made by the library are hardly ever taken for a unit. It changes with each layout, so that
-- words of another one are refused; this is the second.
abbrev pub first_word : ℕ
first_word = 0x324b

-- the other end, which reads "1B"
abbrev pub last_word : ℕ
last_word = 0x4231

-- what is waited for, as a number
unfoldable pub wait_number : Wait → ℕ
wait_number Wait.Nothing = 0
wait_number Wait.StatusDue = 1
wait_number Wait.ProgramCounterDue = 2
wait_number Wait.SecondReadDue = 3

-- what such a number says is waited for
unfoldable pub wait_of : ℕ → Wait
wait_of n =
    pick (eqb n 0) Wait.Nothing (pick (eqb n 1) Wait.StatusDue (pick (eqb n 2) Wait.ProgramCounterDue Wait.SecondReadDue))

-- a flag as a number
unfoldable pub flag_number : Bool → ℕ
flag_number true = 1
flag_number false = 0

-- the size that a number of cells is, out of the two numbers that are one
unfoldable pub size_in : ℕ → Size
size_in n = pick (eqb n 24) Size.TwentyFour Size.Eight

-- From words ------------------------------------------------------------------------------------------------------------------------

-- Whether words hold a unit, by the two ends and every field that has fewer values than a word: KTCS's bits 10 to 6 "read 0", there are 8 or 24
-- cells, and the counter names one of them.
unfoldable pub is_unit : List ℕ → Bool
is_unit w =
    eqb (get_or w 0 0) first_word && eqb (get_or w last_place 0) last_word && eqb (get_or w 1 0 / 0o100 % 0o40) 0 && ltb (get_or w 8 0) 4
    && ltb (get_or w 11 0) 3 && ltb (get_or w 12 0) 3 && ltb (get_or w 13 0) 2 && (eqb (get_or w count_place 0) 8 || eqb (get_or w count_place 0) 24)
    && leb 0o10 (get_or w counter_place 0) && ltb (get_or w counter_place 0) (0o10 + count_of (size_in (get_or w count_place 0)))

-- the core, from the words that each of its fields has
unfoldable pub core_of : List ℕ → Core
core_of w =
    record {
      ktcs = unpacked (get_or w 1 0);
      kept = get_or w 2 0 ∷ get_or w 3 0 ∷ get_or w 4 0 ∷ get_or w 5 0 ∷ get_or w 6 0 ∷ get_or w 7 0 ∷ [];
      wait = wait_of (get_or w 8 0);
      fetch =
          record {
            newer = get_or w 9 0;
            older = get_or w 10 0;
            datos = get_or w 11 0;
            accesses = get_or w 12 0;
            public = eqb (get_or w 13 0) 1;
          };
    }

-- the map registers, which stand last before the cells
unfoldable pub maps_of : List ℕ → Maps
maps_of w = record { ktum = get_or w 14 0; ktem = get_or w 15 0 }

-- so many cells, each with the next of these tags and the next of these words
unfoldable pub cells_in : ℕ → List ℕ → List ℕ → List Cell
cells_in zero tags words = []
cells_in (suc n) tags words = record { tag = get_or tags 0 0; word = get_or words 0 0 } ∷ cells_in n (drop 1 tags) (drop 1 words)

-- all cells for which there is room, of which the unit has the first
unfoldable pub list_of : List ℕ → List Cell
list_of w = cells_in room (drop tags_place w) (drop words_place w)

-- the cells with their number and the counter
unfoldable pub cells_of : List ℕ → Cells
cells_of w = record { size = size_in (get_or w count_place 0); list = list_of w; counter = get_or w counter_place 0 }

-- the unit that words are
unfoldable pub decoded : List ℕ → Unit
decoded w = record { core = core_of w; maps = maps_of w; cells = cells_of w }

-- the unit that words hold, if they hold one
unfoldable pub unit_in : List ℕ → Option Unit
unit_in w = pick (is_unit w) (Some (decoded w)) None

-- To words --------------------------------------------------------------------------------------------------------------------------

-- the words before the cells: an end, the core and the map registers
unfoldable pub core_words : Core → Maps → List ℕ
core_words c r =
    first_word ∷ packed c.ktcs ∷ get_or c.kept 0 0 ∷ get_or c.kept 1 0 ∷ get_or c.kept 2 0 ∷ get_or c.kept 3 0 ∷ get_or c.kept 4 0
    ∷ get_or c.kept 5 0 ∷ wait_number c.wait ∷ c.fetch.newer ∷ c.fetch.older ∷ c.fetch.datos ∷ c.fetch.accesses
    ∷ flag_number c.fetch.public ∷ r.ktum ∷ r.ktem ∷ []

-- the scratchpad word that a cell holds
unfoldable pub word_in : Cell → ℕ
word_in x = x.word

-- the words from the cells on: their number, the counter, all tags, all words and the other end
unfoldable pub cells_words : Cells → List ℕ
cells_words k = count_of k.size ∷ k.counter ∷ map tag_in k.list ++ map word_in k.list ++ last_word ∷ []

-- the words of a unit
unfoldable pub coded : Unit → List ℕ
coded u = core_words u.core u.maps ++ cells_words u.cells
