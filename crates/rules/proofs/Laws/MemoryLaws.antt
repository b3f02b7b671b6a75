-- What reading and storing come to past the end of memory, and that storing keeps its length.
use Prim.Native.Nat.{ℕ, ◌+◌, ◌/◌, ◌%◌, ◌≤◌}
use mathlib.Core.Path.{◌≡◌, refl, ap, ◌∙◌}
use native.Mathlib.Omega.{arith}
use lib.ListN.{length, get_or-eq_default}
use lib.Seq.{set_out}
use Rattle.rules.specs.Memory.{Memory, byte_at, word_at, store_word, store_byte}

pub byte_at-past : (m : Memory) (at : ℕ) → length m ≤ at → byte_at m at ≡ 0
unfolding byte_at
byte_at-past m at h = get_or-eq_default m 0 h

pub word_at-past : (m : Memory) (at : ℕ) → length m ≤ at → word_at m at ≡ 0
unfolding word_at
word_at-past m at h = omega (arith, byte_at-past m at h, byte_at-past m (at + 1) (omega arith))

pub store_byte-past : (m : Memory) (at v : ℕ) → length m ≤ at → store_byte m at v ≡ m
unfolding store_byte
store_byte-past m at v h = set_out m at (v % 256) h

-- a word is stored as two bytes
pub store_word-bytes : (m : Memory) (at v : ℕ) → store_word m at v ≡ store_byte (store_byte m at v) (at + 1) (v / 256)
unfolding store_word store_byte
store_word-bytes m at v = refl

pub store_word-past : (m : Memory) (at v : ℕ) → length m ≤ at → store_word m at v ≡ m
store_word-past m at v h =
    store_word-bytes m at v ∙ ap (λ (l : Memory). store_byte l (at + 1) (v / 256)) (store_byte-past m at v h)
    ∙ store_byte-past m (at + 1) (v / 256) (omega arith)
