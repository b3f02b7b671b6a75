-- The pages that a call goes to, one after another: the history and the premise along them.
use mathlib.Core.Path.{◌≡◌, refl, sym, ap, ap₂, ◌∙◌}
use mathlib.Core.Bool.{Bool, true, not, ◌&&◌}
use mathlib.Core.List.{List, [], ◌∷◌, ◌++◌}
use Prim.Native.Nat.{ℕ}
use lib.Dec.{eqb}
use borrow.Author.Tests.{eqb-true}
use Rattle.std.specs.Prelude.{Option}
use Rattle.rules.specs.Types.{Walked}
use Rattle.rules.specs.Runs.{Visit, Use, History, used_by, told, in_use_after, is_outdated, none_outdated}
use Rattle.rules.proofs.Laws.Choices.{both_true, picked}
use Rattle.rules.proofs.Demand3.Uses.{used-outdated}

pub in_use_after-append : (h : History) (vs ws : List Visit) → in_use_after h (vs ++ ws) ≡ in_use_after (in_use_after h vs) ws
unfolding in_use_after
in_use_after-append h [] ws = refl
in_use_after-append h (v ∷ vs) ws = in_use_after-append (told h v.tag (used_by v.walk (h v.tag))) vs ws

-- the premise of visits is that of each part
pub none_outdated-left : (h : History) (vs ws : List Visit) → none_outdated h (vs ++ ws) ≡ true → none_outdated h vs ≡ true
unfolding none_outdated
none_outdated-left h [] ws e = refl
none_outdated-left h (v ∷ vs) ws e =
    let (a, b) = both_true (not (is_outdated (h v.tag))) (none_outdated h (vs ++ ws)) e in
    ap₂ (λ (x y : Bool). x && y) a (none_outdated-left h vs ws b)

pub none_outdated-right : (h : History) (vs ws : List Visit) → none_outdated h (vs ++ ws) ≡ true → none_outdated h ws ≡ true
unfolding none_outdated
none_outdated-right h [] ws e = e
none_outdated-right h (v ∷ vs) ws e =
    none_outdated-right h vs ws (both_true (not (is_outdated (h v.tag))) (none_outdated h (vs ++ ws)) e).1

-- coming into use makes no page outdated
entering_outdates_none : (h : History) (w : Option Walked) (tag t : ℕ) → is_outdated (told h tag (used_by w (h tag)) t) ≡ is_outdated (h t)
unfolding told
entering_outdates_none h w tag t =
    picked (λ (u : Use). is_outdated u ≡ is_outdated (h t)) (eqb t tag) _ _
    (λ e. used-outdated w (h tag) ∙ ap (λ (x : ℕ). is_outdated (h x)) (sym (eqb-true t tag e))) (λ e. refl)

in_use_after-outdates_none : (h : History) (vs : List Visit) (t : ℕ) → is_outdated (in_use_after h vs t) ≡ is_outdated (h t)
unfolding in_use_after
in_use_after-outdates_none h [] t = refl
in_use_after-outdates_none h (v ∷ vs) t =
    in_use_after-outdates_none (told h v.tag (used_by v.walk (h v.tag))) vs t ∙ entering_outdates_none h v.walk v.tag t

pub none_outdated-in_use_after : (h : History) (vs ws : List Visit) → none_outdated (in_use_after h vs) ws ≡ none_outdated h ws
unfolding none_outdated
none_outdated-in_use_after h vs [] = refl
none_outdated-in_use_after h vs (w ∷ ws) =
    ap₂ (λ (x y : Bool). not x && y) (in_use_after-outdates_none h vs w.tag) (none_outdated-in_use_after h vs ws)
