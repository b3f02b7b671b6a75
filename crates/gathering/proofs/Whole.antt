-- The theorem of the gather: for every line, however long, the gathered line asks for what the whole line asks for.
use Prim.Native.Nat.{ℕ, suc, ◌+◌, ◌*◌, ◌≤◌, ◌<◌}
use mathlib.Core.Path.{◌≡◌, refl, ap, sym, ◌∙◌}
use mathlib.Core.Bool.{Bool, true, false, ◌&&◌}
use mathlib.Core.List.{List, [], ◌∷◌, ◌++◌, append-nil, append_assoc}
use native.Mathlib.Omega.{arith}
use lib.ListN.{length, get_or, take, drop, length-append}
use lib.Dec.{ltb, eqb}
use borrow.Author.Tests.{ltb-true, ltb-false, eqb-true}
use Rattle.std.specs.Prelude.{None, Ok, Err}
use Rattle.rules.specs.Choice.{pick}
use Rattle.rules.proofs.Laws.Choices.{pick_same, picked}
use Rattle.fieldtext.specs.Cut.{onto, fields, head_of}
use Rattle.fieldtext.specs.Number.{all_digits, are_digits, worth, is_number, all_numbers, numbers}
use Rattle.fieldtext.proofs.Scan.{fields_split}
use Rattle.std.proofs.lemmas.Bool.{and_parts}
use Rattle.std.proofs.lemmas.List.{take_at, take-append-le}
use Rattle.linetext.specs.Line.{store_of, access_of, trap_of, alone_of, by_letter, by_name, from_fields, line_of}
use Rattle.gathering.specs.Gather.{Gathered, nothing_yet, push_of, push_all, gathered, line_in}

-- the bytes of the fields, with one tab or end behind each
total : List (List ℕ) → ℕ
total [] = 0
total (f ∷ fs) = suc (length f) + total fs

total_onto : (b : ℕ) (f : List ℕ) (fs : List (List ℕ)) → total (onto b (f ∷ fs)) ≡ suc (total (f ∷ fs))
unfolding total onto
total_onto b f fs = omega arith

total_fields : (s : List ℕ) → total (fields s) ≡ suc (length s)
unfolding total fields pick
total_fields [] = refl
total_fields (b ∷ s) = by (eqb b 9) (total_fields s)
  where
    by : (t : Bool) → total (fields s) ≡ suc (length s) → total (pick t ([] ∷ fields s) (onto b (fields s))) ≡ suc (suc (length s))
    by true e = omega arith
    by false e =
        let split = fields_split s in
        ap (λ (fs : List (List ℕ)). total (onto b fs)) split
        ∙ total_onto b (head_of s) (drop 1 (fields s))
        ∙ ap suc (ap total (sym split) ∙ e)

number_short : (f : List ℕ) → is_number f ≡ true → length f < 7
unfolding is_number are_digits
number_short f e =
    let two = (and_parts (ltb 0 (length f) && ltb (length f) 7) (all_digits 8 f) (and_parts (are_digits 8 6 f) (ltb (worth f) 65536) e).0).0 in
    ltb-true (length f) 7 (and_parts (ltb 0 (length f)) (ltb (length f) 7) two).1

numbers-short : (fs : List (List ℕ)) → all_numbers fs ≡ true → total fs ≤ 7 * length fs
unfolding total all_numbers
numbers-short [] e = omega arith
numbers-short (f ∷ fs) e =
    let all = and_parts (is_number f) (all_numbers fs) e in
    let h = number_short f all.0 in
    let i = numbers-short fs all.1 in
    omega arith

no_numbers : (n : ℕ) (fs : List (List ℕ)) → n ≤ 5 → 35 < total fs → numbers n fs ≡ false
unfolding numbers
no_numbers n fs h k = by (eqb (length fs) n && all_numbers fs) refl
  where
    by : (t : Bool) → (eqb (length fs) n && all_numbers fs) ≡ t → t ≡ false
    by false e = refl
    by true e =
        let all = and_parts (eqb (length fs) n) (all_numbers fs) e in
        let l = eqb-true (length fs) n all.0 in
        let s = numbers-short fs all.1 in
        let z : ⊥ = omega arith in
        absurd z

letter_long : (b : ℕ) (fs : List (List ℕ)) → 35 < total fs → by_letter b fs ≡ None
unfolding by_letter store_of access_of trap_of alone_of pick
letter_long b fs k =
    simp (no_numbers 0 fs (omega arith) k, no_numbers 1 fs (omega arith) k, no_numbers 2 fs (omega arith) k, no_numbers 5 fs (omega arith) k, pick_same)

name_long : (name : List ℕ) (fs : List (List ℕ)) → 36 < length name + total fs → by_name name fs ≡ None
unfolding by_name pick
name_long name fs k = by (eqb (length name) 1) refl
  where
    by : (t : Bool) → eqb (length name) 1 ≡ t → pick t (by_letter (get_or name 0 0) fs) None ≡ None
    by true e =
        let one = eqb-true (length name) 1 e in
        letter_long (get_or name 0 0) fs (omega arith)
    by false e = refl

-- no good line has more than 36 bytes
pub long_bad : (s : List ℕ) → 36 < length s → line_of s ≡ None
unfolding line_of from_fields total
long_bad s h =
    let name : List ℕ = head_of s in
    let rest : List (List ℕ) = drop 1 (fields s) in
    let all : suc (length name) + total rest ≡ suc (length s) = ap total (sym (fields_split s)) ∙ total_fields s in
    ap from_fields (fields_split s) ∙ name_long name rest (omega arith)

-- what a gather holds of the line p that was pushed: all of it, or the first of it, and that it was too long
data Held (p : List ℕ) : Gathered → Type 0 where
  kept : length p ≤ 40 → Held p (Ok p)
  lost : (s : List ℕ) → s ≡ take 40 p → 40 < length p → Held p (Err s)

held_push : (p : List ℕ) (g : Gathered) (b : ℕ) → Held p g → Held (p ++ b ∷ []) (push_of g b)
unfolding push_of
held_push p _ b (kept h) =
    let longer = length-append p (b ∷ []) in
    picked (Held (p ++ b ∷ [])) (ltb (length p) 40) _ _
    (λ e. kept (omega (arith, ltb-true (length p) 40 e)))
    (λ e. lost p (sym (take_at p (b ∷ []) 40 (omega (arith, ltb-false (length p) 40 e)))) (omega (arith, ltb-false (length p) 40 e)))
held_push p _ b (lost s f h) =
    let longer = length-append p (b ∷ []) in
    lost s (f ∙ sym (take-append-le 40 p (b ∷ []) (omega arith))) (omega arith)

held_all : (s p : List ℕ) (g : Gathered) → Held p g → Held (p ++ s) (push_all g s)
unfolding push_all
held_all [] p g h = rw append-nil h
held_all (b ∷ s) p g h = rw append_assoc at (held_all s (p ++ b ∷ []) (push_of g b) (held_push p g b h))

-- a gather that holds a line asks for what the line asks for
held_line : (p : List ℕ) (g : Gathered) → Held p g → line_in g ≡ line_of p
unfolding line_in
held_line p _ (kept h) = refl
held_line p _ (lost s f h) = sym (long_bad p (omega arith))

-- whatever the line, what is gathered of it asks for what it asks for
pub whole : (s : List ℕ) → line_in (gathered s) ≡ line_of s
unfolding gathered nothing_yet
whole s = held_line s (gathered s) (held_all s [] nothing_yet (kept (omega arith)))
