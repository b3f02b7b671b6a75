-- The kind of a word by where it lies, a law for each sort.
use Prim.Native.Nat.{ℕ, zero, suc, ◌<◌, ◌≤◌}
use mathlib.Core.Path.{◌≡◌, refl}
use mathlib.Core.Bool.{Bool, true, false, ◌&&◌}
use native.Mathlib.Omega.{arith}
use lib.Dec.{leb}
use borrow.Author.Tests.{le-leb, leb-true, ne_eqb}
use Rattle.rules.specs.Types.{Kind}
use Rattle.rules.specs.Choice.{pick}
use Rattle.rules.specs.Fetched.{between, kind_of}

between_in : (a b w : ℕ) → a ≤ w → w ≤ b → between a b w ≡ true
unfolding between
between_in a b w l h = simp (le-leb _ _ l, le-leb _ _ h)

both : (s t : Bool) → (s ≡ true → t ≡ true → ⊥) → (s && t) ≡ false
both false t n = refl
both true false n = refl
both true true n = elim (n refl refl) [ ]

between-not : (a b w : ℕ) → (a ≤ w → w ≤ b → ⊥) → between a b w ≡ false
unfolding between
between-not a b w n = both (leb a w) (leb w b) (λ s t. n (leb-true _ _ s) (leb-true _ _ t))

pub jsr_word : (w : ℕ) → 0o004000 ≤ w → w ≤ 0o004777 → Kind.Jsr ≡ kind_of w
unfolding kind_of pick
jsr_word w l h = simp (between_in 0o004000 0o004777 w l h)

pub rts_word : (w : ℕ) → 0o000200 ≤ w → w ≤ 0o000207 → Kind.Rts ≡ kind_of w
unfolding kind_of pick
rts_word w l h =
    simp (between-not 0o004000 0o004777 w (λ a b. omega arith), between_in 0o000200 0o000207 w l h)

pub trap_word : (w : ℕ) → 0o104400 ≤ w → w ≤ 0o104777 → Kind.Trap ≡ kind_of w
unfolding kind_of pick
trap_word w l h =
    simp (
      between-not 0o004000 0o004777 w (λ a b. omega arith),
      between-not 0o000200 0o000207 w (λ a b. omega arith),
      ne_eqb w 0o000002 (λ e. omega arith),
      between_in 0o104400 0o104777 w l h,
    )

-- HALT and WAIT
pub low_word : (w : ℕ) → w < 2 → Kind.Privileged ≡ kind_of w
unfolding kind_of pick between
low_word zero h = refl
low_word (suc zero) h = refl
low_word (suc (suc n)) h = let z : ⊥ = omega arith in elim z [ ]

-- a word in none of the lists
pub other_word : (w : ℕ) → (0o004000 ≤ w → w ≤ 0o004777 → ⊥) → (0o000200 ≤ w → w ≤ 0o000207 → ⊥) → (0o104400 ≤ w → w ≤ 0o104777 → ⊥) → 2 ≤ w
    → (w ≡ 2 → ⊥) → (w ≡ 5 → ⊥) → (w ≡ 0o000400 → ⊥) → Kind.Other ≡ kind_of w
unfolding kind_of pick
other_word w jsr rts trap low rti reset entry =
    simp (
      between-not 0o004000 0o004777 w jsr,
      between-not 0o000200 0o000207 w rts,
      ne_eqb w 0o000002 rti,
      between-not 0o104400 0o104777 w trap,
      ne_eqb w 0 (λ e. omega arith),
      ne_eqb w 1 (λ e. omega arith),
      ne_eqb w 5 reset,
      ne_eqb w 0o000400 entry,
    )
