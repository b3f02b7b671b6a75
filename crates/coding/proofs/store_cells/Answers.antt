-- The number of cells, the counter and the other end are stored first, and then the cells.
use Rattle.std.proofs.Common.{◌≡◌, ◌∙◌, ℕ, List, [], ◌∷◌, ◌++◌, map, length, take, drop, append_assoc, rules, arith, ap}
use lib.ListN.{set, length-set}
use Rattle.rules.specs.Maps.{tag_in}
use Rattle.coding.specs.Coding.{core_count, count_place, counter_place, tags_place, last_place, unit_words, last_word, word_in, cells_words}
use Rattle.coding.proofs.Passes.{pair_stored, last_stored}
use Rattle.coding.proofs.store_cells.Goals as goal

-- the words before the tags, the tags, the words and the last word, as `cells_words` has them
put_together :
    (a b t v l : List ℕ) (x y : ℕ) → b ≡ a ++ x ∷ y ∷ [] → b ++ t ++ v ++ l ≡ a ++ (x ∷ y ∷ t ++ v ++ l)
put_together a b t v l x y e =
    ap (λ (z : List ℕ). z ++ t ++ v ++ l) e ∙ ap (λ (z : List ℕ). z ++ v ++ l) (append_assoc a (x ∷ y ∷ []) t)
    ∙ ap (λ (z : List ℕ). z ++ l) (append_assoc a (x ∷ y ∷ t) v) ∙ append_assoc a (x ∷ y ∷ t ++ v) l

-- the words with the number of cells c, the counter k and the last word stored
abbrev stored : List ℕ → ℕ → ℕ → List ℕ
stored w c k = set (set (set w count_place c) counter_place k) last_place last_word

with_ends :
    (w t v : List ℕ) (c k n : ℕ) → length w ≡ unit_words → c ≡ n
    → take tags_place (stored w c k) ++ t ++ v ++ drop last_place (stored w c k) ≡ take core_count w ++ (n ∷ k ∷ t ++ v ++ last_word ∷ [])
with_ends w t v c k n long counted =
    let before : List ℕ = set (set w count_place c) counter_place k in
    let whole : length before ≡ unit_words = length-set (set w count_place c) counter_place k ∙ length-set w count_place c ∙ long in
    ap (λ (z : List ℕ). take tags_place (stored w c k) ++ t ++ v ++ z) (last_stored before last_place last_word whole)
    ∙ put_together (take core_count w) (take tags_place (stored w c k)) t v (last_word ∷ []) c k
    (pair_stored w count_place c k last_place last_word (omega arith) (omega (arith, long)))
    ∙ ap (λ (z : ℕ). take core_count w ++ (z ∷ k ∷ t ++ v ++ last_word ∷ [])) counted

pub returns : goal.returns
unfolding cells_words
returns c =
    c.store_list.ensures
    ∙ with_ends c.args.w.now (map tag_in c.args.k.now.list) (map word_in c.args.k.now.list) c.count_of.result c.args.k.now.counter _ (search rules) c.count_of.ensures.0
