-- Memory as the host lends it: a list of bytes, low byte first.
use Rattle.std.specs.Prelude.{ℕ, ◌+◌, ◌*◌, ◌/◌, ◌%◌, Bool, ◌&&◌, List, eqb, leb, get_or, set}

abbrev pub Memory : Type 0
Memory = List ℕ

-- "its length L is even, at most 253,952 (760000o)"
unfoldable pub good_length : ℕ → Bool
good_length n = eqb (n % 2) 0 && leb n 0o760000

-- one byte
unfoldable pub byte_at : Memory → ℕ → ℕ
byte_at m at = get_or m at 0

-- "Memory is lent as bytes, low byte first"
unfoldable pub word_at : Memory → ℕ → ℕ
word_at m at = byte_at m at + 256 * byte_at m (at + 1)

-- "Reads give the whole word at the even address."
unfoldable pub even_of : ℕ → ℕ
even_of at = at / 2 * 2

-- a word stored, low byte first
unfoldable pub store_word : Memory → ℕ → ℕ → Memory
store_word m at v = set (set m at (v % 256)) (at + 1) (v / 256 % 256)

-- "DATOB writes the low 8 bits of data."
unfoldable pub store_byte : Memory → ℕ → ℕ → Memory
store_byte m at v = set m at (v % 256)
