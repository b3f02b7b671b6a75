-- Cells and their words, over any number of cells: there and back, and how many they are.
use Prim.Native.Nat.{ℕ, zero, suc, ◌+◌, ◌≤◌}
use mathlib.Core.Path.{◌≡◌, refl, sym, ap, ◌∙◌}
use mathlib.Core.List.{List, [], ◌∷◌, ◌++◌, map, append_assoc}
use native.Mathlib.Omega.{arith}
use lib.ListN.{length, get_or, take, drop, length-append, length-map}
use lib.Seq.{drop_at, get_or-append-add}
use Rattle.rules.specs.declared.Cell.{Cell}
use Rattle.rules.specs.Maps.{tag_in}
use Rattle.coding.specs.Coding.{cells_in, word_in}

pub length_cells : (n : ℕ) (tags words : List ℕ) → length (cells_in n tags words) ≡ n
unfolding cells_in
length_cells zero tags words = refl
length_cells (suc n) tags words = ap suc (length_cells n (drop 1 tags) (drop 1 words))

-- the tags and the words of n cells, read, are those cells, whatever stands behind either
pub cells-there :
    (n : ℕ) (l : List Cell) (more rest : List ℕ) → length l ≡ n → cells_in n (map tag_in l ++ more) (map word_in l ++ rest) ≡ l
unfolding cells_in tag_in word_in
cells-there n l more rest many = rw (← many) (there l)
  where
    there : (l : List Cell) → cells_in (length l) (map tag_in l ++ more) (map word_in l ++ rest) ≡ l
    there [] = refl
    there (x ∷ l) = ap (λ (m : List Cell). x ∷ m) (there l)

-- the tags of the cells that words hold are those words
pub tags_back : (n : ℕ) (tags words : List ℕ) → n ≤ length tags → map tag_in (cells_in n tags words) ≡ take n tags
unfolding cells_in tag_in
tags_back zero tags words h = refl
tags_back (suc n) [] words h = absurd (omega arith)
tags_back (suc n) (t ∷ tags) words h = ap (λ (l : List ℕ). t ∷ l) (tags_back n tags (drop 1 words) (omega arith))

-- and so are their scratchpad words
pub words_back : (n : ℕ) (tags words : List ℕ) → n ≤ length words → map word_in (cells_in n tags words) ≡ take n words
unfolding cells_in word_in
words_back zero tags words h = refl
words_back (suc n) tags [] h = absurd (omega arith)
words_back (suc n) tags (v ∷ words) h = ap (λ (l : List ℕ). v ∷ l) (words_back n (drop 1 tags) words (omega arith))

-- the same of tags with the words behind them, as they lie in a unit's words
pub cells-coded :
    (n : ℕ) (l : List Cell) (rest : List ℕ) → length l ≡ n
    → cells_in n (map tag_in l ++ map word_in l ++ rest) (drop n (map tag_in l ++ map word_in l ++ rest)) ≡ l
cells-coded n l rest many =
    let behind : drop n (map tag_in l ++ (map word_in l ++ rest)) ≡ map word_in l ++ rest =
    drop_at (map tag_in l) (map word_in l ++ rest) n (length-map l tag_in ∙ many) in
    rw (append_assoc (map tag_in l) (map word_in l) rest, behind) (cells-there n l (map word_in l ++ rest) rest many)

-- and what stands behind both
pub behind_cells :
    (n j : ℕ) (l : List Cell) (rest : List ℕ) → length l ≡ n → get_or (map tag_in l ++ map word_in l ++ rest) (n + n + j) 0 ≡ get_or rest j 0
behind_cells n j l rest many =
    let long : n + n ≡ length (map tag_in l ++ map word_in l) =
    sym (length-append (map tag_in l) (map word_in l) ∙ rw (length-map l tag_in, length-map l word_in, many)) in
    rw long (get_or-append-add (map tag_in l ++ map word_in l) rest j 0)
