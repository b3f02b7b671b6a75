-- Where the simple pages end (T-02): "pages 0 to N are simple, N=0 means one page, and N=127 means all", N the high 7 bits of a map register; which
-- word a walk reads on either side of that boundary, with the places written out; and what it comes to by the words that it reads.
use Prim.Native.Nat.{ℕ, ◌+◌, ◌*◌, ◌≤◌, ◌<◌}
use native.Mathlib.Omega.{arith}
use mathlib.Core.Path.{◌≡◌, refl, ◌∙◌}
use mathlib.Core.Logic.{◌↔◌}
use mathlib.Core.Bool.{true, false}
use lib.Dec.{ltb}
use lib.ListN.{length}
use borrow.Author.Tests.{leb-true, le-leb, lt-leb, lt-ltb, le-ltb}
use Rattle.std.specs.Prelude.{Option, None}
use Rattle.rules.specs.Types.{Maps, Reads, Walked}
use Rattle.rules.specs.Choice.{pick}
use Rattle.rules.specs.Memory.{Memory, word_at}
use Rattle.rules.specs.Maps.{low9, high7, simple, upper_at, lower_at, pointed_at, unless_off, word_walk, followed, pointer_walk, exec_walk, user_walk, walk_of, finished}
use Rattle.rules.proofs.Laws.Choices.{pick_true, pick-false}

-- of every map register and page
pub record Boundary : Type 0 where
  -- "pages 0 to N are simple", and no other
  pub up_to : (r p : ℕ) → (simple r p ≡ true) ↔ (p ≤ high7 r)
  -- "N=0 means one page", page 0
  pub one : (r p : ℕ) → high7 r ≡ 0 → (simple r p ≡ true) ↔ (p ≡ 0)
  -- "N=127 means all"
  pub all : (r p : ℕ) → high7 r ≡ 127 → p < 128 → simple r p ≡ true
  -- N is the last simple page, and the next is the first beyond
  pub first_beyond : (r : ℕ) → (simple r (high7 r) ≡ true) × (simple r (high7 r + 1) ≡ false)
  -- "with N=4, page 4 is simple and page 5 is the first beyond": KTUM 004005o
  pub with_four : (simple 0o004005 4 ≡ true) × (simple 0o004005 5 ≡ false)

-- Of every memory, map registers and page. No access walks exec page 0 (`ExecZeroUncelled`); the rows hold of its number too.
pub record WalksByBoundary : Type 0 where
  -- exec pages go by KTEM's N: up to it the map word is at 512·M(KTEM)+256+2p, beyond it at 512·M(KTUM)+2p
  pub exec_simple :
      (m : Memory) (r : Maps) (p : ℕ) → p ≤ high7 r.ktem → walk_of m r false p ≡ word_walk m (512 * low9 r.ktem + 256 + 2 * p)
  pub exec_per_process :
      (m : Memory) (r : Maps) (p : ℕ) → high7 r.ktem < p → walk_of m r false p ≡ word_walk m (512 * low9 r.ktum + 2 * p)
  -- user pages go by KTUM's N: the word at 512·M(KTUM)+256+2p is the map word up to it, and a pointer beyond
  pub user_simple :
      (m : Memory) (r : Maps) (p : ℕ) → p ≤ high7 r.ktum → walk_of m r true p ≡ word_walk m (512 * low9 r.ktum + 256 + 2 * p)
  pub user_shared :
      (m : Memory) (r : Maps) (p : ℕ) → high7 r.ktum < p → walk_of m r true p ≡ pointer_walk m (512 * low9 r.ktum + 256 + 2 * p)

-- Of every memory and place: what a walk comes to that reads a map word there, or a pointer. A word at or beyond L is not there (T-01: the walk ran off memory).
pub record WordsRead : Type 0 where
  pub word : (m : Memory) (at : ℕ) → at < length m → word_walk m at ≡ finished (word_at m at) (Reads.Direct at)
  pub word_off : (m : Memory) (at : ℕ) → length m ≤ at → word_walk m at ≡ None
  -- a pointer's high 7 bits are an entry's number and no boundary: "the map word is at 512·m+256+2n"
  pub pointer : (w : ℕ) → pointed_at w ≡ 512 * low9 w + 256 + 2 * high7 w
  -- the word that a pointer leads to is the map word, "never a pointer again"
  pub pointed :
      (m : Memory) (from : ℕ) → from < length m → pointed_at (word_at m from) < length m
      → pointer_walk m from ≡ finished (word_at m (pointed_at (word_at m from))) (Reads.Pointed from (pointed_at (word_at m from)))
  pub pointed_off : (m : Memory) (from : ℕ) → from < length m → length m ≤ pointed_at (word_at m from) → pointer_walk m from ≡ None
  pub pointer_off : (m : Memory) (from : ℕ) → length m ≤ from → pointer_walk m from ≡ None

-- Proofs -----------------------------------------------------------------------------------------------------------------

with_four : (simple 0o004005 4 ≡ true) × (simple 0o004005 5 ≡ false)
unfolding simple high7
with_four = (refl, refl)

simple-to : (r p : ℕ) → p ≤ high7 r → simple r p ≡ true
unfolding simple
simple-to r p h = le-leb _ _ h

beyond : (r p : ℕ) → high7 r < p → simple r p ≡ false
unfolding simple
beyond r p h = lt-leb _ _ h

simple_at_most : (r p : ℕ) → simple r p ≡ true → p ≤ high7 r
unfolding simple
simple_at_most r p e = leb-true _ _ e

pub boundary : Boundary
boundary =
    record {
      up_to = λ r p. (simple_at_most r p, simple-to r p);
      one = λ r p none. ((λ e. let h = simple_at_most r p e in omega arith), (λ z. simple-to r p (omega arith)));
      all = λ r p n h. simple-to r p (omega arith);
      first_beyond = λ r. (simple-to r (high7 r) (omega arith), beyond r (high7 r + 1) (omega arith));
      with_four = with_four;
    }

pub walks_by_boundary : WalksByBoundary
unfolding pick walk_of exec_walk user_walk upper_at lower_at
walks_by_boundary =
    record {
      exec_simple = λ m r p h. pick_true (simple r.ktem p) _ _ (simple-to r.ktem p h);
      exec_per_process = λ m r p h. pick-false (simple r.ktem p) _ _ (beyond r.ktem p h);
      user_simple = λ m r p h. pick_true (simple r.ktum p) _ _ (simple-to r.ktum p h);
      user_shared = λ m r p h. pick-false (simple r.ktum p) _ _ (beyond r.ktum p h);
    }

is_there : (m : Memory) (at : ℕ) (w : Option Walked) → at < length m → unless_off m at w ≡ w
unfolding unless_off
is_there m at w h = pick_true (ltb at (length m)) w None (lt-ltb at (length m) h)

is_off : (m : Memory) (at : ℕ) (w : Option Walked) → length m ≤ at → unless_off m at w ≡ None
unfolding unless_off
is_off m at w h = pick-false (ltb at (length m)) w None (le-ltb at (length m) h)

pub words_read : WordsRead
unfolding word_walk pointer_walk followed pointed_at upper_at
words_read =
    record {
      word = λ m at h. is_there m at _ h;
      word_off = λ m at h. is_off m at _ h;
      pointer = λ w. refl;
      pointed = λ m from h g. is_there m from _ h ∙ is_there m (pointed_at (word_at m from)) _ g;
      pointed_off = λ m from h g. is_there m from _ h ∙ is_off m (pointed_at (word_at m from)) _ g;
      pointer_off = λ m from h. is_off m from _ h;
    }
