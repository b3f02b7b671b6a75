-- A reply as one number: bits 0 to 15 data, 16 to 33 the physical address, 34 set if there is one, 40 to 47 the answer's number.
use Rattle.std.specs.Prelude.{ℕ, ◌+◌, ◌*◌, ◌%◌, Option, Some, None, Result, Ok, Err}
use Rattle.rules.specs.declared.Returned.{Returned}
use Rattle.rules.specs.Answers.{shown_as, making_shown}
use Rattle.replies.specs.declared.Refusal.{Refusal}

-- a physical address by its 18 bits, and that there is one
unfoldable pub physical_bits : Option ℕ → ℕ
physical_bits (Some at) = at % 0x40000 * 0x10000 + 0x400000000
physical_bits None = 0

-- what comes back, in its bits
unfoldable pub reply_word : Returned → ℕ
reply_word s = s.datum + physical_bits s.physical + s.number % 256 * 0x10000000000

-- a reply with no physical address
unfoldable pub told : ℕ → ℕ → ℕ
told number datum = reply_word (shown_as number datum None)

-- the answer to words that don't hold a unit
unfoldable pub no_unit : ℕ
no_unit = told 70 0

-- the answer to a number that names no register and no cell
unfoldable pub misshapen : ℕ
misshapen = told 1 0

-- the answer that says why the library refuses
abbrev pub refused : Refusal → ℕ
refused Refusal.Misshapen = misshapen
refused Refusal.OtherCount = reply_word (making_shown None)
refused Refusal.NoUnit = no_unit

-- what a reading answers: the number that was read, or why there is none
abbrev pub read_as : Result ℕ Refusal → ℕ
read_as (Ok datum) = told 0 datum
read_as (Err why) = refused why
