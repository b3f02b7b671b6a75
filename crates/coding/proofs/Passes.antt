-- One turn of a pass over the cells: of the reading of cells from words, and of their writing.
use denote.Param.Members.{Mut, Called}
use Prim.Native.Nat.{ℕ, zero, suc, ◌+◌, ◌≤◌, ◌<◌}
use mathlib.Core.Path.{◌≡◌, sym, ap, subst, ◌∙◌}
use mathlib.Core.List.{List, [], ◌∷◌, ◌++◌, map}
use native.Mathlib.Nat.{add-zero}
use native.Mathlib.Numerals.{add-one}
use native.Mathlib.Omega.{arith}
use lib.ListN.{length, get_or, set, take, drop, length-set, length-append, drop_of_length-le, length-map, get_or-map}
use lib.Seq.{drop-cons, get_or-set_same, take-set-le, drop-drop, get_or-drop, take-suc-set, take_all, append_snoc, take-set-lt, drop-set-lt, set-append_left, length-take-le, paste, paste-zero, paste-suc, length-paste, take-paste, drop-paste}
use Rattle.std.specs.Array.{IsFromFnResult, IsFromFnResultFrom}
use Rattle.rules.specs.declared.Cell.{Cell}
use Rattle.rules.specs.Unit.{empty_cell}
use Rattle.rules.specs.Maps.{tag_in}
use Rattle.coding.specs.Coding.{cells_in, word_in}

-- Reading --------------------------------------------------------------------------------------------------------------------------

-- Cells that were made one after the other, each of the tag and the word that stand at its place behind s and v, are those that the words hold.
module _ {F : Type 0} (g : Mut F (ℕ × Unit {0}) Cell) (s v : ℕ) (w : List ℕ) (l : List Cell) (f : F) where
  abbrev pub ReadsEach : Type 0
  ReadsEach =
      (i : ℕ) (x : Cell) (q : F) → Called g f (i, tt) x q → (x ≡ record { tag = get_or w (s + i) 0; word = get_or w (v + i) 0 }) × (q ≡ f)

  read_from : ReadsEach → (n i : ℕ) → length l ≡ i + n → IsFromFnResultFrom g f l i n → cells_in n (drop (s + i) w) (drop (v + i) w) ≡ drop i l
  unfolding cells_in
  read_from reads zero i long made = sym (drop_of_length-le l (omega arith))
  read_from reads (suc n) i long (q, x, here, called, rest) =
      let read = reads i x q called in
      let inside : i < length l = omega arith in
      let next : cells_in n (drop (s + (i + 1)) w) (drop (v + (i + 1)) w) ≡ drop (i + 1) l =
      read_from reads n (i + 1) (omega arith) (subst (λ (p : F). IsFromFnResultFrom g p l (i + 1) n) read.1 rest) in
      let tag : s + (i + 1) ≡ s + i + 1 = omega arith in
      let word : v + (i + 1) ≡ v + i + 1 = omega arith in
      rw (drop-cons l i x inside, here.0, read.0, ← add-one i, ← next, tag, word) (simp (get_or-drop, drop-drop, add-zero))

  pub read_all : ReadsEach → (n : ℕ) → IsFromFnResult g f l n → cells_in n (drop s w) (drop v w) ≡ l
  read_all reads n made = simp (add-zero) at (read_from reads n 0 (omega (arith, made.long)) made.each)

-- Writing --------------------------------------------------------------------------------------------------------------------------

-- words into which the first i tags are written from place s on, and the first i words from place v on
abbrev pub writing : ℕ → ℕ → List Cell → List ℕ → ℕ → List ℕ
writing s v l w i = paste (paste w s (map tag_in l) i) v (map word_in l) i

-- a store before the place where a list is written
set_before : (w : List ℕ) (at : ℕ) (s : List ℕ) (n j a : ℕ) → j < at → at ≤ length w → set (paste w at s n) j a ≡ paste (set w j a) at s n
set_before w at s n j a before long =
    let first : j < length (take at w) = rw (length-take-le at w long) before in
    let both : j < length (take at w ++ take n s) = rw (length-append (take at w) (take n s)) (omega (arith, first)) in
    let past : j < at + n = omega (arith, before) in
    set-append_left (take at w ++ take n s) (drop (at + n) w) j a both
    ∙ ap (λ (x : List ℕ). x ++ drop (at + n) w) (set-append_left (take at w) (take n s) j a first)
    ∙ sym (rw (take-set-lt at w j a before, drop-set-lt (at + n) w j a past))

module _ (s v : ℕ) (l : List Cell) (w : List ℕ) where
  pub written_none : w ≡ writing s v l w 0
  written_none = paste-zero w s (map tag_in l) ∙ paste-zero (paste w s (map tag_in l) 0) v (map word_in l)

  module _ (i : ℕ) (inside : i < length l) (apart : s + length l ≤ v) (long : v + length l ≤ length w) where
    -- the tag of cell i, and then its word
    tag-written : set (paste w s (map tag_in l) i) (s + i) (get_or l i empty_cell).tag ≡ paste w s (map tag_in l) (suc i)
    unfolding tag_in
    tag-written =
        ap (set (paste w s (map tag_in l) i) (s + i)) (sym (get_or-map tag_in l i empty_cell))
        ∙ paste-suc w s (map tag_in l) i (tag_in empty_cell) (omega (arith, inside, apart, long)) (rw (length-map l tag_in) inside)

    length_tagged : (n : ℕ) → n ≤ length l → length (paste w s (map tag_in l) n) ≡ length w
    length_tagged n h = length-paste w s (map tag_in l) n (omega (arith, h, apart, long)) (rw (length-map l tag_in) h)

    word_written :
        set (paste (paste w s (map tag_in l) (suc i)) v (map word_in l) i) (v + i) (get_or l i empty_cell).word
        ≡ paste (paste w s (map tag_in l) (suc i)) v (map word_in l) (suc i)
    unfolding word_in
    word_written =
        ap (set (paste (paste w s (map tag_in l) (suc i)) v (map word_in l) i) (v + i)) (sym (get_or-map word_in l i empty_cell))
        ∙ paste-suc (paste w s (map tag_in l) (suc i)) v (map word_in l) i (word_in empty_cell)
        (rw (length_tagged (suc i) inside) (omega (arith, inside, long))) (rw (length-map l word_in) inside)

    pub written_here :
        set (set (writing s v l w i) (s + i) (get_or l i empty_cell).tag) (v + i) (get_or l i empty_cell).word ≡ writing s v l w (i + 1)
    written_here =
        let fits : v ≤ length (paste w s (map tag_in l) i) = rw (length_tagged i (omega (arith, inside))) (omega (arith, long)) in
        ap (λ (x : List ℕ). set x (v + i) (get_or l i empty_cell).word)
        (set_before (paste w s (map tag_in l) i) v (map word_in l) i (s + i) (get_or l i empty_cell).tag (omega (arith, inside, apart)) fits
        ∙ ap (λ (x : List ℕ). paste x v (map word_in l) i) tag-written)
        ∙ word_written ∙ ap (writing s v l w) (sym (add-one i))

-- all of them, where the words begin behind the tags
pub written_all :
    (s n : ℕ) (l : List Cell) (w : List ℕ) → length l ≡ n → s + n ≤ length w
    → writing s (s + n) l w n ≡ take s w ++ map tag_in l ++ map word_in l ++ drop (s + n + n) w
written_all s n l w many long =
    let tags : length (map tag_in l) ≡ n = length-map l tag_in ∙ many in
    let words : length (map word_in l) ≡ n = length-map l word_in ∙ many in
    let whole-tags : take n (map tag_in l) ≡ map tag_in l = take_all n (map tag_in l) (omega (arith, tags)) in
    let whole_words : take n (map word_in l) ≡ map word_in l = take_all n (map word_in l) (omega (arith, words)) in
    let inner : List ℕ = paste w s (map tag_in l) n in
    let first : take (s + n) inner ≡ take s w ++ map tag_in l =
    take-paste w s (map tag_in l) n (omega (arith, long)) (omega (arith, tags)) ∙ ap (λ (x : List ℕ). take s w ++ x) whole-tags in
    let behind : drop (s + n + n) inner ≡ drop (s + n + n) w =
    sym (drop-drop n (s + n) inner) ∙ ap (drop n) (drop-paste w s (map tag_in l) n (omega (arith, long)) (omega (arith, tags)))
    ∙ drop-drop n (s + n) w in
    ap (λ (x : List ℕ). x ++ take n (map word_in l) ++ drop (s + n + n) inner) first
    ∙ ap (λ (x : List ℕ). take s w ++ map tag_in l ++ x ++ drop (s + n + n) inner) whole_words
    ∙ ap (λ (x : List ℕ). take s w ++ map tag_in l ++ map word_in l ++ x) behind

-- The words around the cells --------------------------------------------------------------------------------------------------------

-- the words up to two that are stored one after the other, and one that is stored behind them
pub pair_stored :
    (w : List ℕ) (at c k far l : ℕ) → at + 2 ≤ far → far < length w
    → take (at + 2) (set (set (set w at c) (at + 1) k) far l) ≡ take at w ++ c ∷ k ∷ []
pair_stored w at c k far l before long =
    let first : at < length w = omega (arith, before, long) in
    let second : suc at < length (set w at c) = rw (length-set w at c) (omega (arith, before, long)) in
    let next : at + 2 ≡ suc (suc at) = omega arith in
    take-set-le (at + 2) (set (set w at c) (at + 1) k) far l before
    ∙ rw (next, add-one, take-suc-set (set w at c) (suc at), take-suc-set w at, append_snoc)

-- the last word of a list, stored
pub last_stored : (w : List ℕ) (at l : ℕ) → length w ≡ at + 1 → drop at (set w at l) ≡ l ∷ []
last_stored w at l long =
    let here : at < length (set w at l) = rw (length-set w at l) (omega (arith, long)) in
    let end : length (set w at l) ≤ suc at = rw (length-set w at l) (omega (arith, long)) in
    drop-cons (set w at l) at 0 here ∙ rw (get_or-set_same w at l 0 (omega (arith, long)), drop_of_length-le (set w at l) end)
