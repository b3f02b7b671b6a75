-- The search for a tag from the last cell to the first: what is gathered is the search among the cells that were compared.
use Prim.Native.Nat.{ℕ, suc}
use mathlib.Core.Path.{◌≡◌, refl, sym, ap, ◌∙◌}
use mathlib.Core.List.{List, [], ◌∷◌, ◌++◌, map, append-nil}
use native.Mathlib.Omega.{arith}
use borrow.Author.Tests.{eq-eqb, ne_eqb}
use lib.ListN.{length, drop, length-append}
use lib.Seq.{append_snoc, drop-length}
use Rattle.std.specs.List.{push}
use Rattle.std.specs.Prelude.{Option, Some, None}
use Rattle.rules.specs.declared.Cell.{Cell}
use Rattle.rules.specs.Choice.{pick}
use Rattle.rules.specs.Registers.{found_from}
use Rattle.rules.specs.Maps.{tag_in}

-- the rest of the search, from place i on
abbrev pub sought_from : List Cell → ℕ → ℕ → Option ℕ
sought_from l i tag = found_from i (map tag_in (drop i l)) tag

dropped : (before : List Cell) (held : Cell) (after : List Cell) → drop (length before) (push before held ++ after) ≡ held ∷ after
dropped [] held after = refl
dropped (x ∷ xs) held after = dropped xs held after

-- before the first comparison all cells are left
module _ (l left : List Cell) (tag : ℕ) (whole : left ≡ l) where
  pub none_yet : None ≡ sought_from l (length left) tag
  unfolding found_from
  none_yet = rw (whole, drop-length l)

  pub all_left : left ++ drop (length left) l ≡ l
  all_left = rw (whole, drop-length l, append-nil)

-- one cell more is compared, the last of those that were left
module _ (l before left : List Cell) (held : Cell) (tag : ℕ) (split : left ++ drop (length left) l ≡ l) (last : left ≡ push before held) where
  from_here : drop (length before) l ≡ held ∷ drop (length left) l
  from_here =
      ap (drop (length before)) (sym split ∙ ap (λ (o : List Cell). o ++ drop (length left) l) last)
      ∙ dropped before held (drop (length left) l)

  pub still_split : before ++ drop (length before) l ≡ l
  still_split = rw from_here (sym (append_snoc before held _) ∙ ap (λ (o : List Cell). o ++ drop (length left) l) (sym last) ∙ split)

  pub matched : tag ≡ held.tag → Some (length before) ≡ sought_from l (length before) tag
  unfolding found_from tag_in pick
  matched h = rw from_here (simp (eq-eqb _ _ h))

  pub unmatched : (tag ≡ held.tag → ⊥) → sought_from l (length left) tag ≡ sought_from l (length before) tag
  unfolding found_from tag_in pick
  unmatched h =
      let longer : length left ≡ suc (length before) = rw last (omega (arith, length-append {A = Cell})) in
      rw (from_here, ne_eqb _ _ h)
      (ap (λ (i : ℕ). found_from i (map tag_in (drop (length left) l)) tag) longer)
