-- What the bench program counts, and what a call prints (01, the bench program).
use Rattle.std.specs.Prelude.{ℕ, ◌+◌, ◌%◌, ◌^◌, List, Option, Some, None}
use Rattle.rules.specs.declared.Ktcs.{Ktcs}
use Rattle.rules.specs.declared.Unit.{Unit}
use Rattle.rules.specs.declared.Returned.{Returned}
use Rattle.rules.specs.declared.Reply.{Reply}
use Rattle.rules.specs.Status.{packed}
use Rattle.rules.specs.Answers.{shown}
use Rattle.rowtext.specs.Row.{row_of}
use Rattle.tally.specs.declared.Bench.{Bench}

-- one more, by 64 bits
unfoldable pub next : ℕ → ℕ
next n = (n + 1) % 2 ^ 64

-- a physical address as a row prints it: it has 18 bits
unfoldable pub printed_as : Option ℕ → Option ℕ
printed_as (Some at) = Some (at % 0o1000000)
printed_as None = None

unfoldable pub shown_row : ℕ → Returned → Ktcs → List ℕ
shown_row call s k = row_of call s.number s.datum (printed_as s.physical) (packed k)

-- "Each call prints its decimal number, answer, data, physical (six digits each, or `-`) and KTCS."
unfoldable pub call_row : ℕ → Reply → List ℕ
call_row call r = shown_row call (shown r.answer) r.unit.core.ktcs

-- a line that is no call is counted as a line alone
unfoldable pub line_counted : Bench → Bench
line_counted b = record { unit = b.unit; calls = b.calls; lines = next b.lines }

-- a call is counted as both, refused or not
unfoldable pub call_counted : Bench → Unit → Bench
call_counted b u = record { unit = u; calls = next b.calls; lines = next b.lines }
