-- What a front panel or a debugger reads of the words of a unit, and where a map page lies.
use Rattle.std.specs.Prelude.{ℕ, ◌+◌, ◌-◌, ◌*◌, ◌&&◌, List, [], eqb, ltb, leb, take, drop, ◌≡◌, MatchOption, Result, Ok, Err}
use Rattle.rules.specs.declared.Cell.{Cell}
use Rattle.rules.specs.declared.Cells.{Cells}
use Rattle.rules.specs.declared.Unit.{Unit}
use Rattle.rules.specs.declared.Register.{Register}
use Rattle.rules.specs.Choice.{pick}
use Rattle.rules.specs.Memory.{Memory}
use Rattle.rules.specs.Unit.{count_of, cell_at}
use Rattle.rules.specs.Registers.{register_of}
use Rattle.rules.specs.Maps.{low9}
use Rattle.rules.specs.Order.{source_in, word_from}
use Rattle.coding.specs.Coding.{wait_number, is_unit, decoded, unit_in}
use Rattle.replies.specs.declared.Refusal.{Refusal}
use Rattle.replies.specs.Replies.{told, no_unit, misshapen, read_as}

-- Readings -------------------------------------------------------------------------------------------------------------------------

-- What is answered where a unit can be read so: what one reading of it answers, or that the words hold none.
abbrev pub IsReading : (Unit → Result ℕ Refusal → Type 0) → List ℕ → ℕ → Type 0
IsReading of w n = MatchOption (unit_in w) (n ≡ no_unit) (λ u. (r : Result ℕ Refusal) × of u r × (n ≡ read_as r))

-- a register as an access would read it
unfoldable pub register_told : Unit → Register → ℕ
register_told u g = told 0 (word_from u.cells (source_in u.core u.maps g))

-- a register by its number in the table of addresses, KTMR 1 to KTEM 10; 0 is the window, and from 11 on are the scratchpad words
unfoldable pub register_read : List ℕ → ℕ → ℕ
register_read w n =
    pick (is_unit w) (pick (ltb 0 n && ltb n 11) (register_told (decoded w) (register_of (n - 1))) misshapen) no_unit

-- how many cells the unit has
unfoldable pub count_read : List ℕ → ℕ
count_read w = pick (is_unit w) (told 0 (count_of (decoded w).cells.size)) no_unit

-- the cell at this place, where there is one
abbrev pub cell_in : Cells → ℕ → Result Cell Refusal
cell_in k i = pick (ltb i (count_of k.size)) (Ok (cell_at k i)) (Err Refusal.Misshapen)

-- a number x that is read of the cell at this place, its tag or its word, where the unit has such a cell
unfoldable pub cell_read : List ℕ → ℕ → ℕ → ℕ
cell_read w i x = pick (is_unit w) (pick (ltb i (count_of (decoded w).cells.size)) (told 0 x) misshapen) no_unit

abbrev pub tag_read : List ℕ → ℕ → ℕ
tag_read w i = cell_read w i (cell_at (decoded w).cells i).tag

abbrev pub word_read : List ℕ → ℕ → ℕ
word_read w i = cell_read w i (cell_at (decoded w).cells i).word

unfoldable pub counter_read : List ℕ → ℕ
counter_read w = pick (is_unit w) (told 0 (decoded w).cells.counter) no_unit

unfoldable pub wait_read : List ℕ → ℕ
wait_read w = pick (is_unit w) (told 0 (wait_number (decoded w).core.wait)) no_unit

-- The map page ---------------------------------------------------------------------------------------------------------------------

-- the number that says that there is none
abbrev pub no_page : ℕ
no_page = 0xffffffffffffffff

-- where the page that a map register names begins, in a memory of this length
unfoldable pub page_place : ℕ → ℕ → ℕ
page_place len r = pick (leb (512 * low9 r + 512) len) (512 * low9 r) no_page

-- the part of memory that such a place stands for
unfoldable pub page_at : Memory → ℕ → Memory
page_at m at = pick (eqb at no_page) [] (take 512 (drop at m))
