-- A store into memory leaves every walk that read none of its bytes.
use mathlib.Core.Path.{◌≡◌, refl, sym, ap, ap₂, ◌∙◌}
use mathlib.Core.Bool.{Bool, true, false}
use mathlib.Core.List.{[], ◌∷◌}
use Prim.Native.Nat.{ℕ, ◌+◌, ◌*◌, ◌/◌, ◌%◌}
use native.Mathlib.Omega.{arith}
use lib.Dec.{eqb, ltb}
use lib.ListN.{length, set, length-set}
use lib.Seq.{get_or-set_other}
use borrow.Author.Tests.{eqb-false}
use Rattle.std.specs.Prelude.{Option, Some, None}
use Rattle.rules.specs.Types.{Maps, Reads, Walked}
use Rattle.rules.specs.Choice.{pick}
use Rattle.rules.specs.Memory.{Memory, byte_at, word_at, even_of, store_word, store_byte}
use Rattle.rules.specs.Registers.{among}
use Rattle.rules.specs.Maps.{low9, high7, upper_at, lower_at, pointed_at, unless_off, word_walk, followed, pointer_walk, exec_walk, user_walk, walk_of, reads_of, finished}
use Rattle.rules.proofs.Laws.Choices.{both_false}
use Rattle.rules.proofs.Laws.SearchLaws.{among_first}

-- two memories that differ at most in the word at this even address
pub record DifferAt (e : ℕ) (m n : Memory) : Type 0 where
  pub lengths : length n ≡ length m
  pub others : (a : ℕ) → a % 2 ≡ 0 → (e ≡ a → ⊥) → word_at n a ≡ word_at m a

by_bytes : (m n : Memory) (a : ℕ) → byte_at n a ≡ byte_at m a → byte_at n (a + 1) ≡ byte_at m (a + 1) → word_at n a ≡ word_at m a
unfolding word_at
by_bytes m n a low high = ap₂ (λ (x y : ℕ). x + 256 * y) low high

module _ (m : Memory) (at v : ℕ) where
  pub byte_stored_differs : DifferAt (even_of at) m (store_byte m at v)
  unfolding store_byte byte_at even_of
  byte_stored_differs =
      record {
        lengths = length-set m at (v % 256);
        others = λ a even ne. by_bytes m (store_byte m at v) a (kept a (λ q. ne (omega arith))) (kept (a + 1) (λ q. ne (omega arith)));
      }
    where
      kept : (a : ℕ) → (a ≡ at → ⊥) → byte_at (store_byte m at v) a ≡ byte_at m a
      kept a n = get_or-set_other m at a (v % 256) 0 n

  pub word_stored_differs : at % 2 ≡ 0 → DifferAt (even_of at) m (store_word m at v)
  unfolding store_word byte_at even_of
  word_stored_differs h =
      record {
        lengths = simp length-set;
        others = λ a even ne.
            by_bytes m (store_word m at v) a (kept a (λ q. ne (omega arith)) (λ q. ne (omega arith)))
            (kept (a + 1) (λ q. ne (omega arith)) (λ q. ne (omega arith)));
      }
    where
      kept : (a : ℕ) → (a ≡ at → ⊥) → (a ≡ at + 1 → ⊥) → byte_at (store_word m at v) a ≡ byte_at m a
      kept a n n₁ = get_or-set_other (set m at (v % 256)) (at + 1) a (v / 256 % 256) 0 n₁ ∙ get_or-set_other m at a (v % 256) 0 n

-- every address that a walk reads is even
module _ (page p : ℕ) where
  pub upper_at-even : upper_at page p % 2 ≡ 0
  unfolding upper_at
  upper_at-even = omega arith

  pub lower_at-even : lower_at page p % 2 ≡ 0
  unfolding lower_at
  lower_at-even = omega arith

pub pointed_at-even : (w : ℕ) → pointed_at w % 2 ≡ 0
unfolding pointed_at
pointed_at-even w = upper_at-even (low9 w) (high7 w)

-- One walk is another, if the latter was finished and read nothing at this even address.
abbrev pub Spared : ℕ → Option Walked → Option Walked → Type 0
Spared e w w₁ = (v : ℕ) (rs : Reads) → w ≡ finished v rs → among e (reads_of rs) ≡ false → w₁ ≡ w

-- where the words stand that were read for a walk, if it ended
abbrev reads_or : Reads → Option Walked → Reads
reads_or rs (Some w) = w.reads
reads_or rs None = rs

finished_reads : {v v₁ : ℕ} {rs rs₁ : Reads} → finished v rs ≡ finished v₁ rs₁ → rs₁ ≡ rs
finished_reads {rs = rs} e = sym (ap (reads_or rs) e)

module _ (e : ℕ) (m n : Memory) (d : DifferAt e m n) where
  word_walk-spared : (at : ℕ) → at % 2 ≡ 0 → Spared e (word_walk m at) (word_walk n at)
  unfolding word_walk unless_off reads_of pick
  word_walk-spared at even v rs f h = rw d.lengths (go (ltb at (length m)) f)
    where
      go :
          (t : Bool) → pick t (finished (word_at m at) (Reads.Direct at)) None ≡ finished v rs
          → pick t (finished (word_at n at) (Reads.Direct at)) None ≡ pick t (finished (word_at m at) (Reads.Direct at)) None
      go true f =
          let same : rs ≡ Reads.Direct at = finished_reads f in
          let (k, _) = both_false (eqb e at) _ (sym (among_first e at []) ∙ rw same at h) in
          ap (λ (w : ℕ). finished w (Reads.Direct at)) (d.others at even (eqb-false e at k))
      go false f = refl

  followed-spared :
      (from at v : ℕ) (rs : Reads) → from % 2 ≡ 0 → at % 2 ≡ 0 → followed m from at ≡ finished v rs → among e (reads_of rs) ≡ false
      → (word_at n from ≡ word_at m from) × (followed n from at ≡ followed m from at)
  unfolding followed unless_off reads_of pick
  followed-spared from at v rs even even₁ f h = rw d.lengths (go (ltb at (length m)) f)
    where
      ended : ℕ → Option Walked
      ended w = finished w (Reads.Pointed from at)

      go :
          (t : Bool) → pick t (ended (word_at m at)) None ≡ finished v rs
          → (word_at n from ≡ word_at m from) × (pick t (ended (word_at n at)) None ≡ pick t (ended (word_at m at)) None)
      go true f =
          let same : rs ≡ Reads.Pointed from at = finished_reads f in
          let (k, l) = both_false (eqb e from) _ (sym (among_first e from (at ∷ [])) ∙ rw same at h) in
          let (k₁, _) = both_false (eqb e at) _ (sym (among_first e at []) ∙ l) in
          (d.others from even (eqb-false e from k), ap ended (d.others at even₁ (eqb-false e at k₁)))
      go false f = (cc, refl)

  pointer_walk-spared : (from : ℕ) → from % 2 ≡ 0 → Spared e (pointer_walk m from) (pointer_walk n from)
  unfolding pointer_walk unless_off pick
  pointer_walk-spared from even v rs f h = rw d.lengths (go (ltb from (length m)) f)
    where
      go :
          (t : Bool) → pick t (followed m from (pointed_at (word_at m from))) None ≡ finished v rs
          → pick t (followed n from (pointed_at (word_at n from))) None ≡ pick t (followed m from (pointed_at (word_at m from))) None
      go true f =
          let (pointer, word) = followed-spared from (pointed_at (word_at m from)) v rs even (pointed_at-even (word_at m from)) f h in
          rw pointer word
      go false f = refl

  pick-spared : (t : Bool) (a b a₁ b₁ : Option Walked) → Spared e a a₁ → Spared e b b₁ → Spared e (pick t a b) (pick t a₁ b₁)
  unfolding pick
  pick-spared true a b a₁ b₁ f g = f
  pick-spared false a b a₁ b₁ f g = g

  -- A finished walk that read nothing of what a store changed is the same after it.
  pub walk-spared : (r : Maps) (user : Bool) (p : ℕ) → Spared e (walk_of m r user p) (walk_of n r user p)
  unfolding walk_of user_walk exec_walk
  walk-spared r user p =
      pick-spared user _ _ _ _
      (pick-spared _ _ _ _ _ (word_walk-spared _ (upper_at-even _ p)) (pointer_walk-spared _ (upper_at-even _ p)))
      (pick-spared _ _ _ _ _ (word_walk-spared _ (upper_at-even _ p)) (word_walk-spared _ (lower_at-even _ p)))
