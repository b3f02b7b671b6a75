-- The place of the first match is what the search of the list comes to.
use Rattle.std.proofs.Common.{◌≡◌, ◌∙◌, refl, ap, ℕ, suc, Bool, true, false, List, [], ◌∷◌, add-one, cond, rules, tests}
use Rattle.std.specs.Prelude.{Option, Some, eqb}
use Rattle.std.specs.List.{position_from}
use Rattle.std.proofs.lemmas.Iterator.{YieldsList-from_slice}
use Rattle.std.proofs.lemmas.Iterator.Adapters.{position_from-zero}
use Rattle.std.proofs.lemmas.Iterator.Search.{position_from_yields_List}
use Rattle.rules.specs.Choice.{pick}
use Rattle.rules.specs.Registers.{found_from}
use Rattle.registers.proofs.found.Goals as goal

-- one element more
picked : (t : Bool) (i : ℕ) (a b : Option ℕ) → a ≡ b → cond t (Some i) a ≡ pick t (Some i) b
unfolding pick
picked true i a b e = refl
picked false i a b e = e

from_found : (i : ℕ) (l : List ℕ) (x : ℕ) → position_from (λ y. eqb x y) i l ≡ found_from i l x
unfolding found_from
from_found i [] x = refl
from_found i (y ∷ ys) x = picked (eqb x y) i _ _ (ap (λ (j : ℕ). position_from (λ z. eqb x z) j ys) (add-one i) ∙ from_found (suc i) ys x)

pub returns : goal.returns
returns c =
    position_from_yields_List (λ y. eqb c.args.x y) _ _ c.position.result c.position.ensures.ran (YieldsList-from_slice c.args.list.now cc)
    (λ x b q k. search (rules, tests))
    ∙ position_from-zero _ c.args.list.now
    ∙ from_found 0 c.args.list.now c.args.x
