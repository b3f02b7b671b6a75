-- The table of a unit of this size is the beginning of the table of all addresses.
use Rattle.std.proofs.Common.{◌≡◌, ◌∙◌, sym, ap, ℕ, ◌+◌, false, take}
use Rattle.std.specs.Prelude.{Option, Some, None}
use Rattle.std.specs.Option.{MatchOption}
use lib.Dec.{ltb}
use borrow.Author.Tests.{le-ltb}
use Rattle.rules.specs.declared.Size.{Size}
use Rattle.rules.specs.declared.Place.{Place}
use Rattle.rules.specs.Choice.{pick}
use Rattle.rules.specs.Memory.{even_of}
use Rattle.rules.specs.Unit.{count_of, room}
use Rattle.rules.specs.Registers.{found_from, place_of, place_in, place_found, registers, words_from}
use Rattle.rules.proofs.Laws.CellsLaws.{cells_fit_in}
use Rattle.rules.proofs.Laws.PlaceLaws.{table_first}
use Rattle.registers.proofs.place_of.Goals as goal

-- what the search of that beginning comes to is what lies there, at or beyond the end of memory
placed :
    (s : Size) (len at count even : ℕ) (f : Option ℕ) → ltb at len ≡ false → count ≡ count_of s → even ≡ even_of at
    → f ≡ found_from 0 (take (11 + count) (registers room)) even → place_found f ≡ place_of s len at
unfolding place_of pick
placed s len at count even f past counted evened found =
    let same : f ≡ found_from 0 (registers (count_of s)) (even_of at) =
    found ∙ rw (counted, evened, table_first (count_of s) room (cells_fit_in s)) in
    ap place_found same ∙ sym (simp past)

mapped : (f : Option ℕ) (r : Place) → MatchOption f (r ≡ Place.Nowhere) (λ n. r ≡ place_in n) → r ≡ place_found f
unfolding place_found
mapped None r h = h
mapped (Some n) r h = h

pub returns : goal.returns
unfolding registers words_from
returns c =
    mapped c.found.result c.map_or.result c.map_or.ensures
    ∙ placed _ _ _ _ _ _ (le-ltb _ _ c.if-at-len.false) c.count_of-end.ensures.0 c.even_of.ensures c.found.ensures
