-- Words that differ at most in the room of cells that a unit hasn't got hold units that differ at most there, and so do the words of such units.
use Prim.Native.Nat.{ℕ, zero, suc, ◌+◌, ◌≤◌, ◌<◌}
use mathlib.Core.Path.{◌≡◌, refl, sym, ap, ap₂, ◌∙◌}
use mathlib.Core.List.{List, [], ◌∷◌, ◌++◌, map, append_assoc}
use native.Mathlib.Omega.{arith}
use lib.ListN.{length, get_or, take, drop, length-drop, length-map, length-append}
use lib.Seq.{get_or-take, get_or-drop, length-take-le, take-add, take-append-add, take-append-le, drop_at}
use Rattle.rules.specs.declared.Cell.{Cell}
use Rattle.rules.specs.declared.Unit.{Unit}
use Rattle.rules.specs.Unit.{count_of, room, there}
use Rattle.rules.specs.Maps.{tag_in}
use Rattle.rules.proofs.Promises.{Alike}
use Rattle.rules.proofs.Laws.Lists.{take_map}
use Rattle.rules.proofs.Laws.CellsLaws.{cells_fit_in}
use Rattle.coding.specs.Coding.{count_place, counter_place, tags_place, words_place, last_place, unit_words, last_word, word_in, size_in, is_unit, core_of, maps_of, cells_in, list_of, cells_of, decoded, core_words, cells_words, coded}

-- words that differ at most there: they agree up to the tags of the n cells that there are, in the words of these, and in the last word
pub record RoomAside (n : ℕ) (w v : List ℕ) : Type 0 where
  pub head : take (tags_place + n) w ≡ take (tags_place + n) v
  pub words : take n (drop words_place w) ≡ take n (drop words_place v)
  pub last : drop last_place w ≡ drop last_place v

-- Cells out of the first tags and words ---------------------------------------------------------------------------------------------

cells-first : (n m : ℕ) (tags words : List ℕ) → n ≤ m → take n (cells_in m tags words) ≡ cells_in n tags words
unfolding cells_in
cells-first zero m tags words h = refl
cells-first (suc n) zero tags words h = absurd (omega (arith, h))
cells-first (suc n) (suc m) tags words h =
    ap (λ (l : List Cell). record { tag = get_or tags 0 0; word = get_or words 0 0 } ∷ l) (cells-first n m (drop 1 tags) (drop 1 words) (omega (arith, h)))

cells-taken : (n : ℕ) (tags words : List ℕ) → n ≤ length tags → n ≤ length words → cells_in n tags words ≡ cells_in n (take n tags) (take n words)
unfolding cells_in
cells-taken zero tags words h g = refl
cells-taken (suc n) [] words h g = absurd (omega (arith, h))
cells-taken (suc n) (t ∷ tags) [] h g = absurd (omega (arith, g))
cells-taken (suc n) (t ∷ tags) (x ∷ words) h g =
    ap (λ (l : List Cell). record { tag = t; word = x } ∷ l) (cells-taken n tags words (omega (arith, h)) (omega (arith, g)))

-- From words to units ----------------------------------------------------------------------------------------------------------------

module _ (n : ℕ) (w v : List ℕ) (a : RoomAside n w v) where
  same_at : (i : ℕ) → i < tags_place + n → get_or w i 0 ≡ get_or v i 0
  same_at i h =
      sym (get_or-take (tags_place + n) w i 0 h) ∙ ap (λ (l : List ℕ). get_or l i 0) a.head ∙ get_or-take (tags_place + n) v i 0 h

  before-tags : (i : ℕ) → i < tags_place → get_or w i 0 ≡ get_or v i 0
  before-tags i h = same_at i (omega (arith, h))

  same-last : get_or w last_place 0 ≡ get_or v last_place 0
  same-last = sym (get_or-drop last_place w 0 0) ∙ ap (λ (l : List ℕ). get_or l 0 0) a.last ∙ get_or-drop last_place v 0 0

  -- whether they hold a unit is the same
  pub is_unit_same : is_unit w ≡ is_unit v
  unfolding is_unit
  is_unit_same =
      rw (before-tags 0 (omega arith), before-tags 1 (omega arith), before-tags 8 (omega arith), before-tags 11 (omega arith), before-tags 12 (omega arith), before-tags 13 (omega arith), before-tags count_place (omega arith), before-tags counter_place (omega arith), same-last)

  module _ (long : length w ≡ unit_words) (long₁ : length v ≡ unit_words) (few : n ≤ room) where
    tags_same : take n (drop tags_place w) ≡ take n (drop tags_place v)
    tags_same = sym (behind w long) ∙ ap (drop tags_place) a.head ∙ behind v long₁
      where
        behind : (x : List ℕ) → length x ≡ unit_words → drop tags_place (take (tags_place + n) x) ≡ take n (drop tags_place x)
        behind x l =
            ap (drop tags_place) (take-add tags_place n x)
            ∙ drop_at (take tags_place x) (take n (drop tags_place x)) tags_place (length-take-le tags_place x (omega (arith, l)))

    cells_same : take n (list_of w) ≡ take n (list_of v)
    unfolding list_of
    cells_same = go w long ∙ ap₂ (cells_in n) tags_same a.words ∙ sym (go v long₁)
      where
        go : (x : List ℕ) → length x ≡ unit_words
            → take n (cells_in room (drop tags_place x) (drop words_place x)) ≡ cells_in n (take n (drop tags_place x)) (take n (drop words_place x))
        go x l =
            cells-first n room (drop tags_place x) (drop words_place x) few
            ∙ cells-taken n (drop tags_place x) (drop words_place x) (omega (arith, few, l, length-drop tags_place x)) (omega (arith, few, l, length-drop words_place x))

-- and the units that they hold differ at most in that room
pub decoded-alike :
    (w v : List ℕ) → length w ≡ unit_words → length v ≡ unit_words → RoomAside (count_of (decoded w).cells.size) w v
    → Alike (decoded w) (decoded v)
unfolding decoded cells_of core_of maps_of there
decoded-alike w v long long₁ a =
    let n : ℕ = count_of (size_in (get_or w count_place 0)) in
    let at = before-tags n w v a in
    let size : get_or w count_place 0 ≡ get_or v count_place 0 = at count_place (omega arith) in
    record {
      core =
          rw (at 1 (omega arith), at 2 (omega arith), at 3 (omega arith), at 4 (omega arith), at 5 (omega arith), at 6 (omega arith), at 7 (omega arith), at 8 (omega arith), at 9 (omega arith), at 10 (omega arith), at 11 (omega arith), at 12 (omega arith), at 13 (omega arith));
      maps = rw (at 14 (omega arith), at 15 (omega arith));
      size = ap size_in size;
      counter = at counter_place (omega arith);
      cells =
          cells_same n w v a long long₁ (cells_fit_in _)
          ∙ ap (λ (x : ℕ). take (count_of (size_in x)) (list_of v)) size;
    }

-- From units to words ----------------------------------------------------------------------------------------------------------------

-- a unit's words before the tags
abbrev before : Unit → List ℕ
before u = core_words u.core u.maps ++ count_of u.cells.size ∷ u.cells.counter ∷ []

module _ (u : Unit) (listed : length u.cells.list ≡ room) where
  tags : length (map tag_in u.cells.list) ≡ room
  tags = length-map u.cells.list tag_in ∙ listed

  words : length (map word_in u.cells.list) ≡ room
  words = length-map u.cells.list word_in ∙ listed

  few : count_of u.cells.size ≤ room
  few = cells_fit_in u.cells.size

  abbrev n : ℕ
  n = count_of u.cells.size

  coded-head : take (tags_place + n) (coded u) ≡ before u ++ map tag_in (there u.cells)
  unfolding coded core_words cells_words there
  coded-head =
      take-append-add (before u) (map tag_in u.cells.list ++ map word_in u.cells.list ++ last_word ∷ []) n
      ∙ ap (λ (l : List ℕ). before u ++ l)
      (take-append-le n (map tag_in u.cells.list ++ map word_in u.cells.list) (last_word ∷ []) (omega (arith, few, tags, length-append (map tag_in u.cells.list) (map word_in u.cells.list)))
      ∙ take-append-le n (map tag_in u.cells.list) (map word_in u.cells.list) (omega (arith, few, tags))
      ∙ take_map tag_in n u.cells.list)

  coded-words : take n (drop words_place (coded u)) ≡ map word_in (there u.cells)
  unfolding coded core_words cells_words there
  coded-words =
      ap (take n)
      (ap (drop room) (append_assoc (map tag_in u.cells.list) (map word_in u.cells.list) (last_word ∷ []))
      ∙ drop_at (map tag_in u.cells.list) (map word_in u.cells.list ++ last_word ∷ []) room tags)
      ∙ take-append-le n (map word_in u.cells.list) (last_word ∷ []) (omega (arith, few, words)) ∙ take_map word_in n u.cells.list

  coded-last : drop last_place (coded u) ≡ last_word ∷ []
  unfolding coded core_words cells_words
  coded-last =
      drop_at (map tag_in u.cells.list ++ map word_in u.cells.list) (last_word ∷ []) (room + room)
      (length-append (map tag_in u.cells.list) (map word_in u.cells.list) ∙ ap₂ (λ (x y : ℕ). x + y) tags words)

-- the words of units that differ at most in that room
pub coded-aside :
    (u v : Unit) → length u.cells.list ≡ room → length v.cells.list ≡ room → Alike u v
    → RoomAside (count_of u.cells.size) (coded u) (coded v)
coded-aside u v listed listed₁ h =
    let number : count_of u.cells.size ≡ count_of v.cells.size = ap count_of h.size in
    record {
      head =
          coded-head u listed
          ∙ ap₂ (λ (x y : List ℕ). x ++ y) same-before (ap (map tag_in) h.cells)
          ∙ sym (ap (λ (n : ℕ). take (tags_place + n) (coded v)) number ∙ coded-head v listed₁);
      words =
          coded-words u listed ∙ ap (map word_in) h.cells
          ∙ sym (ap (λ (n : ℕ). take n (drop words_place (coded v))) number ∙ coded-words v listed₁);
      last = coded-last u listed ∙ sym (coded-last v listed₁);
    }
  where
    same-before : before u ≡ before v
    same-before =
        ap₂ (λ (x : List ℕ) (y : List ℕ). x ++ y) (ap₂ core_words h.core h.maps)
        (ap₂ (λ (x y : ℕ). x ∷ y ∷ []) (ap count_of h.size) h.counter)
