-- The laws of a line's fields: the cut at each tab is the library's, and the first field is what stands before the first tab.
use Prim.Native.Nat.{ℕ, suc, ◌+◌, ◌≤◌}
use mathlib.Core.Path.{◌≡◌, refl, ap, sym, ◌∙◌}
use mathlib.Core.Bool.{Bool, true, false, cond}
use mathlib.Core.List.{List, [], ◌∷◌}
use native.Mathlib.Omega.{arith}
use lib.ListN.{length, take, drop}
use lib.Dec.{eqb, ltb}
use borrow.Author.Tests.{ltb-false}
use Rattle.rules.specs.Choice.{pick}
use Rattle.std.specs.Prelude.{Option, Some, None}
use denote.Ref.{Bor}
use denote.Param.Members.{Mut}
use Rattle.std.specs.Option.{unwrap_or}
use Rattle.std.specs.declared.iter.Skip.{Skip}
use Rattle.std.specs.declared.slice.Split.{Split}
use Rattle.std.specs.Fn.{CalledAt}
use Rattle.std.specs.Iterator.{AlwaysYields}
use Rattle.std.specs.Iterator.Adapters.{skip_source, skip_count, skip_steps}
use Rattle.std.specs.Slice.Iter.{split_rest, split_done, split_callee, split_steps}
use Rattle.std.proofs.lemmas.Iterator.Adapters.{YieldsList-from_skip}
use Rattle.std.proofs.lemmas.Iterator.Splits.{YieldsList-from_slice_split}
use Rattle.std.specs.List.{slice_split, onto_first, position_or_len}
use Rattle.std.proofs.lemmas.List.Recursion.{is_position_or_len}
use Rattle.fieldtext.specs.Cut.{onto, fields, head_of}
use Rattle.fieldtext.proofs.Places.{fields_placed}

-- a line is its first field, and the fields past it
pub fields_split : (s : List ℕ) → fields s ≡ head_of s ∷ drop 1 (fields s)
fields_split s = fields_placed s ∙ ap (λ (fs : List (List ℕ)). head_of s ∷ fs) (sym (ap (drop 1) (fields_placed s)))

-- the first field is no longer than the line
pub head_bound : (s : List ℕ) → length (head_of s) ≤ length s
unfolding head_of pick
head_bound [] = omega arith
head_bound (b ∷ s) = by (eqb b 9) (head_bound s)
  where
    by : (t : Bool) → length (head_of s) ≤ length s → length (pick t [] (b ∷ head_of s)) ≤ suc (length s)
    by true h = omega arith
    by false h = omega arith

-- it is as long as the place of the first tab, or the line's length, says
head_length : (s : List ℕ) → length (head_of s) ≡ position_or_len (λ b. eqb b 9) s
unfolding head_of pick
head_length = is_position_or_len (λ s. length (head_of s)) (λ b. eqb b 9) refl (λ b s. by (eqb b 9) s b)
  where
    by : (t : Bool) (s : List ℕ) (b : ℕ) → length (pick t [] (b ∷ head_of s)) ≡ cond t 0 (1 + length (head_of s))
    by true s b = refl
    by false s b = omega arith

-- which the library finds
pub head_found : (s : List ℕ) (r : Option ℕ)
    → r ≡ cond (ltb (position_or_len (λ b. eqb b 9) s) (length s)) (Some (position_or_len (λ b. eqb b 9) s)) None
    → unwrap_or r (length s) ≡ length (head_of s)
head_found s r e = by (ltb (position_or_len (λ b. eqb b 9) s) (length s)) refl e
  where
    by : (t : Bool) → ltb (position_or_len (λ b. eqb b 9) s) (length s) ≡ t → r ≡ cond t (Some (position_or_len (λ b. eqb b 9) s)) None
        → unwrap_or r (length s) ≡ length (head_of s)
    by true g e = simp (e, head_length s)
    by false g e = simp e (omega (arith, head_length s, head_bound s, ltb-false (position_or_len (λ b. eqb b 9) s) (length s) g))

-- the library's cut
pub fields_cut : (s : List ℕ) → fields s ≡ slice_split (λ b. eqb b 9) s
unfolding fields onto pick
fields_cut [] = refl
fields_cut (b ∷ s) = by (eqb b 9) (fields s) (slice_split (λ b. eqb b 9) s) (fields_cut s)
  where
    one : (fs : List (List ℕ)) → onto b fs ≡ onto_first b fs
    one [] = refl
    one (f ∷ fs) = refl

    by : (t : Bool) (fs ps : List (List ℕ)) → fs ≡ ps → pick t ([] ∷ fs) (onto b fs) ≡ cond t ([] ∷ ps) (onto_first b ps)
    by true fs ps e = simp e
    by false fs ps e = simp e (one ps)

-- past the first
pub fields_yielded : {F : Type 0} (g : Mut F (Bor ℕ × Unit {0}) Bool) (line : List ℕ) {s : Skip (Split ℕ F)} {t : Split ℕ F} {f : F}
    → skip_source s ≡ t → skip_count s ≡ 1 → split_rest t ≡ line → split_done t ≡ false → split_callee t ≡ f
    → ((b : ℕ) (r : Bool) (q : F) → CalledAt g f b r q → (q ≡ f) × (r ≡ eqb b 9))
    → AlwaysYields (skip_steps (split_steps g)) (λ x. x.now) s (drop 1 (fields line))
fields_yielded g line {s} {t} source count rest done closure tests =
    let cut = YieldsList-from_slice_split {s = t} g (λ b. eqb b 9) line rest done closure tests in
    rw fields_cut (YieldsList-from_skip 1 (rw (← source) at cut) count).runs

-- the first field is what stands before its end
pub head_take : (s : List ℕ) → take (length (head_of s)) s ≡ head_of s
unfolding head_of pick
head_take [] = refl
head_take (b ∷ s) = part (eqb b 9) (head_take s)
  where
    part : (t : Bool) → take (length (head_of s)) s ≡ head_of s → take (length (pick t [] (b ∷ head_of s))) (b ∷ s) ≡ pick t [] (b ∷ head_of s)
    part true e = refl
    part false e = simp e
