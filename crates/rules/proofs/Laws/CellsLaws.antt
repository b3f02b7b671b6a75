-- The cells that are there under a look-up, an emptying, a forgetting and a store: all of them, then one cell at a time.
use mathlib.Core.Path.{◌≡◌, refl, sym, subst, ◌∙◌}
use mathlib.Core.Bool.{true}
use mathlib.Core.List.{map}
use Prim.Native.Nat.{ℕ, ◌-◌, ◌≤◌, ◌<◌}
use native.Mathlib.Omega.{arith}
use borrow.Author.Tests.{eq-eqb, ne_eqb}
use lib.Dec.{eqb}
use lib.Seq.{length-take-le}
use lib.ListN.{length, get_or, set, replicate, get_or-map}
use Rattle.std.specs.Prelude.{Some, None}
use Rattle.rules.specs.Types.{Cell, Size, Cells, Part}
use Rattle.rules.specs.Choice.{pick}
use Rattle.rules.specs.Unit.{count_of, room, there, empty_cell, cell_at, emptied}
use Rattle.rules.specs.Registers.{cell_stored, pad_stored}
use Rattle.rules.specs.Maps.{tag_in, cell_of, filled, holds, cell_forgotten, forgotten}
use Rattle.rules.proofs.Laws.Choices.{pick_same, picked}
use Rattle.rules.proofs.Laws.Lists.{take_set, take_map, take_replicate, get_d_replicate_default, found_is_there, missing_is_nowhere}

-- How many there are ------------------------------------------------------------------------------------------------------

-- no unit is without cells
pub some_cells : (s : Size) → 0 < count_of s
unfolding count_of
some_cells Size.Eight = omega arith
some_cells Size.TwentyFour = omega arith

-- and there is room for all of them
pub cells_fit_in : (s : Size) → count_of s ≤ room
unfolding count_of
cells_fit_in Size.Eight = omega arith
cells_fit_in Size.TwentyFour = omega arith

-- a unit has all its cells, in a list with that room
pub all_there : (k : Cells) → length k.list ≡ room → length (there k) ≡ count_of k.size
unfolding there
all_there k e = length-take-le (count_of k.size) k.list (rw e (cells_fit_in k.size))

-- All that are there ------------------------------------------------------------------------------------------------------

pub there-filled : (k : Cells) (tag w : ℕ) → there (filled k tag w) ≡ set (there k) (k.counter - 0o10) (record { tag = tag; word = w })
unfolding there filled
there-filled k tag w = take_set (count_of k.size) (k.counter - 0o10) k.list _

pub there-stored :
    (k : Cells) (i : ℕ) (p : Part) (v : ℕ) → there (pad_stored k i p v) ≡ set (there k) i (cell_stored (cell_at k i) p v)
unfolding there pad_stored
there-stored k i p v = take_set (count_of k.size) i k.list _

pub there-forgotten : (k : Cells) (tag : ℕ) → there (forgotten k tag) ≡ map (cell_forgotten tag) (there k)
unfolding there forgotten
there-forgotten k tag = take_map (cell_forgotten tag) (count_of k.size) k.list

pub there-emptied : (k : Cells) → there (emptied k) ≡ replicate (length (there k)) empty_cell
unfolding there emptied
there-emptied k = take_replicate (count_of k.size) k.list empty_cell

-- One cell ----------------------------------------------------------------------------------------------------------------

pub empty_tag : empty_cell.tag ≡ 0
unfolding empty_cell
empty_tag = refl

pub empty_forgotten : (tag : ℕ) → cell_forgotten tag empty_cell ≡ empty_cell
unfolding cell_forgotten
empty_forgotten tag = pick_same (holds tag empty_cell) empty_cell

pub cell_stored-tag : (c : Cell) (p : Part) (v : ℕ) → (cell_stored c p v).tag ≡ c.tag
unfolding cell_stored
cell_stored-tag c p v = picked (λ (x : Cell). x.tag ≡ c.tag) (eqb c.tag 0) _ _ (λ t. refl) (λ t. refl)

tag_at : (k : Cells) (i : ℕ) → get_or (map tag_in (there k)) i (tag_in empty_cell) ≡ (cell_at k i).tag
unfolding tag_in
tag_at k i = get_or-map tag_in (there k) i empty_cell

-- the cell that is found has the tag
pub found_has_tag : (k : Cells) (i tag : ℕ) → cell_of k tag ≡ Some i → (cell_at k i).tag ≡ tag
unfolding cell_of
found_has_tag k i tag e =
    let (j, n, h) = found_is_there (tag_in empty_cell) 0 i tag (map tag_in (there k)) e in
    let same : i ≡ j = omega arith in rw same (sym (tag_at k j) ∙ h)

-- where none is found, no cell has it
pub missing_has_none : (k : Cells) (tag : ℕ) → cell_of k tag ≡ None → (tag ≡ 0 → ⊥) → (i : ℕ) → (cell_at k i).tag ≡ tag → ⊥
unfolding cell_of tag_in empty_cell
missing_has_none k tag e z i h =
    missing_is_nowhere (tag_in empty_cell) 0 tag (map tag_in (there k)) e (λ q. z (sym q)) i (tag_at k i ∙ h)

-- after an emptying each cell is empty
pub cell_emptied : (k : Cells) (i : ℕ) → cell_at (emptied k) i ≡ empty_cell
cell_emptied k i = rw (there-emptied k) (get_d_replicate_default (length (there k)) i empty_cell)

-- after a forgetting each cell is as it was, or empty where it held the page
pub cell_at-forgotten : (k : Cells) (tag i : ℕ) → cell_at (forgotten k tag) i ≡ pick (holds tag (cell_at k i)) empty_cell (cell_at k i)
unfolding cell_forgotten
cell_at-forgotten k tag i =
    rw (there-forgotten k tag)
    (subst (λ (d : Cell). get_or (map (cell_forgotten tag) (there k)) i d ≡ cell_forgotten tag (cell_at k i))
    (empty_forgotten tag) (get_or-map (cell_forgotten tag) (there k) i empty_cell))

-- a cell with the tag of a page other than exec page 0 holds it
pub page_held : (tag : ℕ) (h : Cell) → h.tag ≡ tag → (h.tag ≡ 0 → ⊥) → holds tag h ≡ true
unfolding holds
page_held tag h e n = simp (eq-eqb _ _ e, ne_eqb _ 0 n)
