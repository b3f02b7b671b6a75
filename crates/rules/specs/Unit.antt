-- The unit's state, its emptying and its clearing (01, "The unit and its calls" and the end of "Registers").
use Rattle.std.specs.Prelude.{ℕ, false, List, [], ◌∷◌, eqb, length, get_or, take, replicate, Option, Some, None}
use Rattle.rules.specs.Types.{Ktcs, Fetch, Wait, Core, Cell, Size, Cells, Unit}
use Rattle.rules.specs.Choice.{pick}

-- How many cells a unit has: "A unit is made with 8 or 24 cells." (T-08) Everything that 01 says of eight cells reads with this number.
unfoldable pub count_of : Size → ℕ
count_of Size.Eight = 8
count_of Size.TwentyFour = 24

-- what comes of asking for a unit with so many: "making a unit with another count gives 30 and no unit" (T-08)
unfoldable pub size_of : ℕ → Option Size
size_of n = pick (eqb n 8) (Some Size.Eight) (pick (eqb n 24) (Some Size.TwentyFour) None)

-- how many cells there is room for in every unit
abbrev pub room : ℕ
room = 24

-- The cells that a unit has. What stands past them is not there: no answer, no memory and no cell that is there depends on it (`AbsentUnseen` of the
-- promises).
unfoldable pub there : Cells → List Cell
there k = take (count_of k.size) k.list

-- how many registers with no side effect there are: KTIC, KTSP, KTPC, KTPS, KTAD and KTDT
abbrev pub kept_count : ℕ
kept_count = 6

-- "Vectors: 4, 10, 14, 20, 24, 30, 34 (o)."
abbrev pub vectors : List ℕ
vectors = 0o4 ∷ 0o10 ∷ 0o14 ∷ 0o20 ∷ 0o24 ∷ 0o30 ∷ 0o34 ∷ []

-- "Emptying a cell sets its tag and word to 0."
unfoldable pub empty_cell : Cell
empty_cell = record { tag = 0; word = 0 }

-- a cell by its number, counted from 0; past the last there are empty ones
abbrev pub cell_at : Cells → ℕ → Cell
cell_at k i = get_or (there k) i empty_cell

-- "empties all cells and sets the counter to 10o"; how many there are stays
unfoldable pub emptied : Cells → Cells
emptied k = record { size = k.size; list = replicate (length k.list) empty_cell; counter = 0o10 }

-- "INIT clears KTCS": all of it
unfoldable pub clear_ktcs : Ktcs
clear_ktcs =
    record { fcn = 0; ss = false; ds = false; um = false; iu = false; rv = false; pv = false; wv = false; av = false; iv = false }

-- "Fetch memory: .. cleared is all zero."
unfoldable pub clear_fetch : Fetch
clear_fetch = record { newer = 0; older = 0; datos = 0; accesses = 0; public = false }

-- One part of the core is changed by one of these, so that what stays is plain. (The sequences, which move the wait too, write the core out.)
unfoldable pub with_ktcs : Core → Ktcs → Core
with_ktcs c s = record { ktcs = s; kept = c.kept; wait = c.wait; fetch = c.fetch }

unfoldable pub with_kept : Core → List ℕ → Core
with_kept c r = record { ktcs = c.ktcs; kept = r; wait = c.wait; fetch = c.fetch }

unfoldable pub with_fetch : Core → Fetch → Core
with_fetch c f = record { ktcs = c.ktcs; kept = c.kept; wait = c.wait; fetch = f }

-- INIT, of the core: "INIT clears KTCS, the wait, the fetch memory and the cells, and sets the counter to 10o; other registers stay (H)."
unfoldable pub init_core : Core → Core
init_core c = record { ktcs = clear_ktcs; kept = c.kept; wait = Wait.Nothing; fetch = clear_fetch }

-- "A fresh unit is all zero, then INIT.": the zeros. What INIT makes of it is `fresh` of Calls.antt.
unfoldable pub zero_unit : Size → Unit
zero_unit s =
    record {
      core = record { ktcs = clear_ktcs; kept = replicate kept_count 0; wait = Wait.Nothing; fetch = clear_fetch };
      maps = record { ktum = 0; ktem = 0 };
      cells = record { size = s; list = replicate room empty_cell; counter = 0 };
    }
