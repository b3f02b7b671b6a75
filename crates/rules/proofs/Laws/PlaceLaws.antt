-- Where the scratchpad words stand: the table of addresses over any number of them, and what lies there for a unit of either size.
use Prim.Native.Nat.{ℕ, zero, suc, ◌+◌, ◌-◌, ◌*◌, ◌%◌, ◌≤◌, ◌<◌}
use mathlib.Core.Path.{◌≡◌, refl, sym, ap, ◌∙◌}
use mathlib.Core.Bool.{true, false}
use mathlib.Core.List.{List, [], ◌∷◌, ◌++◌, append-nil}
use native.Mathlib.Omega.{arith}
use lib.Dec.{eqb, ltb, leb}
use lib.ListN.{take}
use lib.Seq.{take-append-add}
use borrow.Author.Tests.{eq-eqb, ne_eqb, le-ltb, leb-true}
use Rattle.std.specs.Prelude.{Some}
use Rattle.rules.specs.Types.{Size, Associative, Register, Target, Place}
use Rattle.rules.specs.Choice.{pick}
use Rattle.rules.specs.Memory.{good_length, even_of}
use Rattle.rules.specs.Unit.{count_of}
use Rattle.rules.specs.Registers.{found_from, words_from, first_pad, registers, register_of, place_in, place_found, place_of}
use Rattle.rules.proofs.Laws.Choices.{both_true}

-- memory ends below every register
pub beyond_memory : (len at : ℕ) → good_length len ≡ true → 0o760000 ≤ at → ltb at len ≡ false
unfolding good_length
beyond_memory len at good h = le-ltb at len (omega (arith, leb-true len 0o760000 (both_true (eqb (len % 2) 0) (leb len 0o760000) good).1))

-- the addresses of a row of words are passed by in a search for one past them
past_words : (i a n x : ℕ) (ys : List ℕ) → a + 2 * n ≤ x → found_from i (words_from a n ++ ys) x ≡ found_from (i + n) ys x
unfolding found_from words_from pick
past_words i a zero x ys h = ap (λ (j : ℕ). found_from j ys x) (omega arith)
past_words i a (suc n) x ys h =
    rw (ne_eqb x a (omega (arith, h)))
    (past_words (suc i) (a + 2) n x ys (omega (arith, h)) ∙ ap (λ (j : ℕ). found_from j ys x) (omega arith))

-- a word of the row is found at its place
word_found : (i a n j : ℕ) → j < n → found_from i (words_from a n) (a + 2 * j) ≡ Some (i + j)
unfolding found_from words_from pick
word_found i a zero j h = elim h [ ]
word_found i a (suc n) zero h = rw (eq-eqb (a + 2 * 0) a (omega arith)) (ap Some (omega arith))
word_found i a (suc n) (suc j) h =
    rw (ne_eqb (a + 2 * suc j) a (omega arith))
    (ap (found_from (suc i) (words_from (a + 2) n)) (omega arith) ∙ word_found (suc i) (a + 2) n j (omega (arith, h)) ∙ ap Some (omega arith))

-- a row of words is the beginning of a longer one
pub words_from-first : (a n room : ℕ) → n ≤ room → take n (words_from a room) ≡ words_from a n
unfolding words_from
words_from-first a zero room h = refl
words_from-first a (suc n) zero h = elim h [ ]
words_from-first a (suc n) (suc room) h = ap (λ (l : List ℕ). a ∷ l) (words_from-first (a + 2) n room (omega (arith, h)))

-- the table of a unit with fewer cells is the beginning of that of one with more
pub table_first : (n room : ℕ) → n ≤ room → take (11 + n) (registers room) ≡ registers n
unfolding registers words_from
table_first n room h =
    take-append-add (0o777572 ∷ words_from 0o777574 first_pad) (words_from 0o777620 room) n
    ∙ ap (λ (l : List ℕ). (0o777572 ∷ words_from 0o777574 first_pad) ++ l) (words_from-first 0o777620 n room h)

module _ (s : Size) (len : ℕ) (good : good_length len ≡ true) where
  -- a search past KTEM goes on among the scratchpad words, of which the first has number 11
  among-pads :
      (at : ℕ) → 0o777620 ≤ even_of at → 0o760000 ≤ at
      → place_of s len at ≡ place_found (found_from 11 (words_from 0o777620 (count_of s)) (even_of at))
  unfolding place_of registers found_from pick
  among-pads at h g =
      rw (beyond_memory len at good g, ne_eqb (even_of at) 0o777572 (omega (arith, h)))
      (ap place_found (past_words 1 0o777574 first_pad (even_of at) (words_from 0o777620 (count_of s)) (omega (arith, h))))

  pub pad_place :
      (i at : ℕ) → i < count_of s → even_of at ≡ 0o777620 + 2 * i → 0o760000 ≤ at
      → place_of s len at ≡ Place.There (Target.In (Register.Associative (Associative.Pad i)))
  unfolding place_found place_in register_of pick
  pad_place i at b e g =
      among-pads at (omega (arith, e)) g ∙ ap (λ (x : ℕ). place_found (found_from 11 (words_from 0o777620 (count_of s)) x)) e
      ∙ ap place_found (word_found 11 0o777620 (count_of s) i b) ∙ pad_numbered
    where
      pad_numbered : place_in (11 + i) ≡ Place.There (Target.In (Register.Associative (Associative.Pad i)))
      pad_numbered =
          rw (ne_eqb (11 + i) 0 (omega arith), ne_eqb (11 + i - 1) 0 (omega arith), ne_eqb (11 + i - 1) 1 (omega arith), le-ltb (11 + i - 1) 8 (omega arith), ne_eqb (11 + i - 1) 8 (omega arith), ne_eqb (11 + i - 1) 9 (omega arith))
          (ap (λ (n : ℕ). Place.There (Target.In (Register.Associative (Associative.Pad n)))) (omega arith))

  pub past_the_pads : (at : ℕ) → 0o777620 + 2 * count_of s ≤ even_of at → 0o760000 ≤ at → place_of s len at ≡ Place.Nowhere
  unfolding place_found found_from
  past_the_pads at h g =
      among-pads at (omega (arith, h)) g
      ∙ ap (λ (l : List ℕ). place_found (found_from 11 l (even_of at))) (sym (append-nil (words_from 0o777620 (count_of s))))
      ∙ ap place_found (past_words 11 0o777620 (count_of s) (even_of at) [] h)
