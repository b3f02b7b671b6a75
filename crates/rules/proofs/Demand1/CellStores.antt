-- What a store into a map register or a scratchpad word, and INIT, do to the cells that are there.
use Prim.Native.Nat.{ℕ, ◌<◌}
use mathlib.Core.Path.{◌≡◌, refl, ap, ◌∙◌}
use mathlib.Core.Logic.{◌≢◌}
use mathlib.Core.List.{List}
use lib.ListN.{length, get_or}
use lib.Seq.{get_or-set_same, get_or-set_other}
use borrow.Author.Tests.{eq-eqb, ne_eqb}
use Rattle.rules.specs.Types.{Cell, Cells, Part}
use Rattle.rules.specs.Choice.{pick}
use Rattle.rules.specs.Unit.{there, empty_cell, cell_at, emptied}
use Rattle.rules.specs.Registers.{merged, cell_stored, pad_stored}
use Rattle.rules.specs.Calls.{cells_after}
use Rattle.rules.proofs.Laws.CellsLaws.{there-stored, cell_emptied, cell_stored-tag}
use Rattle.rules.proofs.Promises.{Reloaded, ReloadEmpties, PadTakes, PadStoreTakes}

pub emptied-reloads : (k : Cells) → Reloaded k (emptied k)
unfolding emptied
emptied-reloads k = record { cells = cell_emptied k; counter = refl; size = refl }

pub reload_empties : ReloadEmpties
unfolding cells_after
reload_empties r k = emptied-reloads k

module _ (k : Cells) (i : ℕ) (p : Part) (v : ℕ) (inside : i < length (there k)) where
  stored_here : cell_at (pad_stored k i p v) i ≡ cell_stored (cell_at k i) p v
  stored_here =
      ap (λ (l : List Cell). get_or l i empty_cell) (there-stored k i p v)
      ∙ get_or-set_same (there k) i (cell_stored (cell_at k i) p v) empty_cell inside

  word_taken : (cell_at k i).tag ≢ 0 → (cell_at (pad_stored k i p v) i).word ≡ merged p (cell_at k i).word v
  unfolding cell_stored pick
  word_taken n = ap (λ (c : Cell). c.word) stored_here ∙ rw (ne_eqb (cell_at k i).tag 0 n)

  nothing_taken : (cell_at k i).tag ≡ 0 → cell_at (pad_stored k i p v) i ≡ cell_at k i
  unfolding cell_stored pick
  nothing_taken e = stored_here ∙ rw (eq-eqb (cell_at k i).tag 0 e)

  pad_takes : PadTakes i p v k (pad_stored k i p v)
  unfolding pad_stored
  pad_takes =
      record {
        tag = ap (λ (c : Cell). c.tag) stored_here ∙ cell_stored-tag (cell_at k i) p v;
        word = word_taken;
        empty = nothing_taken;
        others =
            λ j n.
            ap (λ (l : List Cell). get_or l j empty_cell) (there-stored k i p v)
            ∙ get_or-set_other (there k) i j (cell_stored (cell_at k i) p v) empty_cell n;
        counter = refl;
        size = refl;
      }

pub pad_store_takes : PadStoreTakes
unfolding cells_after
pad_store_takes k i p v inside = pad_takes k i p v inside
