-- The coding goes there and back: every unit that can be is its words decoded, and words that hold a unit are its code.
use Prim.Native.Nat.{ℕ, ◌+◌, ◌/◌, ◌%◌, ◌<◌, ◌≤◌}
use mathlib.Core.Path.{◌≡◌, refl, sym, ap, ◌∙◌}
use mathlib.Core.Bool.{Bool, true, false, ◌||◌}
use mathlib.Core.List.{List, [], ◌∷◌, ◌++◌, append_assoc}
use native.Mathlib.Omega.{arith}
use lib.Dec.{eqb}
use lib.ListN.{length, get_or, take, drop, length-drop, take-append-drop}
use lib.Seq.{drop-drop}
use borrow.Author.Tests.{ne_eqb, eqb-true, eqb-false, ltb-true, leb-true}
use Rattle.rules.specs.declared.Wait.{Wait}
use Rattle.rules.specs.declared.Size.{Size}
use Rattle.std.specs.Prelude.{Some}
use Rattle.rules.specs.declared.Unit.{Unit}
use Rattle.rules.specs.Choice.{pick}
use Rattle.rules.specs.Unit.{count_of, size_of, room, kept_count}
use Rattle.rules.proofs.Laws.Choices.{both_true, true_is_not_false}
use Rattle.rules.proofs.Sizes.{made_or_refused}
use Rattle.rules.proofs.Laws.StatusLaws.{packed-unpacked, unpacked-packed}
use Rattle.coding.specs.Coding.{core_count, count_place, counter_place, tags_place, words_place, last_place, unit_words}
use Rattle.coding.specs.Coding.{first_word, last_word, wait_number, wait_of, flag_number, size_in, is_unit, core_of, maps_of, list_of, cells_of, decoded, core_words, cells_words, coded}
use Rattle.coding.proofs.Elements.{elements, elements-then, elements-last}
use Rattle.coding.proofs.Cells.{tags_back, words_back, cells-coded}

-- what `is_unit` says of words
pub record UnitWords (w : List ℕ) : Type 0 where
  pub first : get_or w 0 0 ≡ first_word
  pub last : get_or w last_place 0 ≡ last_word
  pub ktcs : get_or w 1 0 / 0o100 % 0o40 ≡ 0
  pub wait : get_or w 8 0 < 4
  pub datos : get_or w 11 0 < 3
  pub accesses : get_or w 12 0 < 3
  pub public : get_or w 13 0 < 2
  pub count : (eqb (get_or w count_place 0) 8 || eqb (get_or w count_place 0) 24) ≡ true
  pub from : 0o10 ≤ get_or w counter_place 0
  pub below : get_or w counter_place 0 < 0o10 + count_of (size_in (get_or w count_place 0))

pub unit-words : (w : List ℕ) → is_unit w ≡ true → UnitWords w
unfolding is_unit
unit-words w h =
    let h₉ = both_true _ _ h in
    let h₈ = both_true _ _ h₉.0 in
    let h₇ = both_true _ _ h₈.0 in
    let h₆ = both_true _ _ h₇.0 in
    let h₅ = both_true _ _ h₆.0 in
    let h₄ = both_true _ _ h₅.0 in
    let h₃ = both_true _ _ h₄.0 in
    let h₂ = both_true _ _ h₃.0 in
    let h₁ = both_true _ _ h₂.0 in
    record {
      first = eqb-true _ _ h₁.0;
      last = eqb-true _ _ h₁.1;
      ktcs = eqb-true _ _ h₂.1;
      wait = ltb-true _ _ h₃.1;
      datos = ltb-true _ _ h₄.1;
      accesses = ltb-true _ _ h₅.1;
      public = ltb-true _ _ h₆.1;
      count = h₇.1;
      from = leb-true _ _ h₈.1;
      below = ltb-true _ _ h₉.1;
    }

-- Parts ----------------------------------------------------------------------------------------------------------------------------

wait_there : (x : Wait) → wait_of (wait_number x) ≡ x
unfolding wait_of wait_number pick
wait_there Wait.Nothing = refl
wait_there Wait.StatusDue = refl
wait_there Wait.ProgramCounterDue = refl
wait_there Wait.SecondReadDue = refl

wait_back : (n : ℕ) → n < 4 → wait_number (wait_of n) ≡ n
unfolding wait_of wait_number pick
wait_back n h = go (eqb n 0) (eqb n 1) (eqb n 2) refl refl refl
  where
    go : (a b c : Bool) → eqb n 0 ≡ a → eqb n 1 ≡ b → eqb n 2 ≡ c → wait_number (wait_of n) ≡ n
    go true b c e₀ e₁ e₂ = rw e₀ (sym (eqb-true n 0 e₀))
    go false true c e₀ e₁ e₂ = rw (e₀, e₁) (sym (eqb-true n 1 e₁))
    go false false true e₀ e₁ e₂ = rw (e₀, e₁, e₂) (sym (eqb-true n 2 e₂))
    go false false false e₀ e₁ e₂ = rw (e₀, e₁, e₂) (omega (arith, eqb-false n 0 e₀, eqb-false n 1 e₁, eqb-false n 2 e₂))

flag_there : (b : Bool) → eqb (flag_number b) 1 ≡ b
unfolding flag_number
flag_there true = refl
flag_there false = refl

flag_back : (n : ℕ) → n < 2 → flag_number (eqb n 1) ≡ n
unfolding flag_number
flag_back n h = go (eqb n 1) refl
  where
    go : (b : Bool) → eqb n 1 ≡ b → flag_number (eqb n 1) ≡ n
    go true e = rw e (sym (eqb-true n 1 e))
    go false e = rw e (omega (arith, eqb-false n 1 e))

pub size-there : (s : Size) → size_in (count_of s) ≡ s
unfolding size_in count_of pick
size-there Size.Eight = refl
size-there Size.TwentyFour = refl

-- one of the two numbers is read as the size that is made with it: no other number is taken in words than in making
pub size-made : (n : ℕ) → (eqb n 8 || eqb n 24) ≡ true → size_of n ≡ Some (size_in n)
unfolding size_of size_in pick
size-made n h = go (eqb n 24) (eqb n 8) refl refl h
  where
    go : (a b : Bool) → eqb n 24 ≡ a → eqb n 8 ≡ b → (b || a) ≡ true → size_of n ≡ Some (size_in n)
    go true b e f t = let other : eqb n 8 ≡ false = ne_eqb n 8 (λ o. eqb-false 8 24 refl (sym o ∙ eqb-true n 24 e)) in rw (e, other)
    go false true e f t = rw (e, f)
    go false false e f t = true_is_not_false (sym t)

-- and it is the number of that size
pub size_back : (n : ℕ) → (eqb n 8 || eqb n 24) ≡ true → count_of (size_in n) ≡ n
size_back n h = made_or_refused.count n (size_in n) (size-made n h)

-- There and back -------------------------------------------------------------------------------------------------------------------

-- the words behind the counter: the tags, the words and the rest
behind_counter :
    (w : List ℕ) → drop tags_place w ≡ take room (drop tags_place w) ++ take room (drop words_place w) ++ drop last_place w
behind_counter w =
    let tags : List ℕ = take room (drop tags_place w) in
    let words : List ℕ = take room (drop words_place w) in
    let from-words : words ++ drop last_place w ≡ drop words_place w =
    ap (λ (x : List ℕ). words ++ x) (sym (drop-drop room words_place w)) ∙ take-append-drop room (drop words_place w) in
    let from-tags : tags ++ drop words_place w ≡ drop tags_place w =
    ap (λ (x : List ℕ). tags ++ x) (sym (drop-drop room tags_place w)) ∙ take-append-drop room (drop tags_place w) in
    sym (append_assoc tags words (drop last_place w) ∙ ap (λ (x : List ℕ). tags ++ x) from-words ∙ from-tags)

-- The words from the cells on are a unit's cells, with their number, the counter and the end: what changes the core alone leaves them. The length
-- is that of the words' type.
pub cells_stay : (w : List ℕ) → length w ≡ unit_words → is_unit w ≡ true → drop core_count w ≡ cells_words (decoded w).cells
unfolding decoded cells_of list_of cells_words elements
cells_stay w long is =
    let u = unit-words w is in
    let tags : room ≤ length (drop tags_place w) = omega (arith, length-drop tags_place w, long) in
    let words : room ≤ length (drop words_place w) = omega (arith, length-drop words_place w, long) in
    let last : drop last_place w ≡ last_word ∷ [] = elements-last w last_place 1 long ∙ ap (λ (x : ℕ). x ∷ []) u.last in
    rw (size_back (get_or w count_place 0) u.count, tags_back room (drop tags_place w) (drop words_place w) tags, words_back room (drop tags_place w) (drop words_place w) words, ← last, ← behind_counter w)
    (elements-then w core_count 2 tags_place refl (omega (arith, long)))

-- Words that hold a unit are the code of what they decode to. The bound, too, is that of the words' type.
pub coded-decoded : (w : List ℕ) → length w ≡ unit_words → get_or w 1 0 < 0o200000 → is_unit w ≡ true → coded (decoded w) ≡ w
unfolding coded decoded core_of maps_of core_words elements
coded-decoded w long small is =
    let u = unit-words w is in
    rw (← cells_stay w long is)
    (simp (packed-unpacked (get_or w 1 0) small u.ktcs, wait_back (get_or w 8 0) u.wait, flag_back (get_or w 13 0) u.public)
    (rw (← u.first) (sym (elements-then w 0 core_count core_count refl (omega arith)))))

-- A unit that can be: FCN below 4, and as many registers as there are, and cells as there is room for.
pub record CanBe (u : Unit) : Type 0 where
  pub fcn : u.core.ktcs.fcn < 4
  pub kept : length u.core.kept ≡ kept_count
  pub list : length u.cells.list ≡ room

pub decoded-coded : (u : Unit) → CanBe u → decoded (coded u) ≡ u
unfolding coded decoded core_of maps_of cells_of list_of core_words cells_words elements
decoded-coded u h =
    simp (unpacked-packed u.core.ktcs h.fcn, wait_there u.core.wait, flag_there u.core.fetch.public, size-there u.cells.size, cells-coded room u.cells.list (last_word ∷ []) h.list)
    (rw (← elements-last u.core.kept 0 kept_count h.kept))
