-- What one line of the bench program's input does, and what it prints (01, the bench program).
use Rattle.std.specs.Prelude.{ℕ, List, [], Option, Some, None}
use Rattle.rules.specs.declared.Call.{Call}
use Rattle.rules.specs.Memory.{Memory, store_word}
use Rattle.rules.specs.Calls.{After, call_of}
use Rattle.linetext.specs.declared.Line.{Line}
use Rattle.rowtext.specs.Row.{bad_of}
use Rattle.tally.specs.declared.Bench.{Bench}
use Rattle.tally.specs.Tally.{next, call_row, line_counted, call_counted}

-- what a line leaves, and what it prints
pub record Done : Type 0 where
  pub bench : Bench
  pub memory : Memory
  pub prints : List ℕ

unfoldable pub call_done : Bench → After → Done
call_done b a =
    record { bench = call_counted b a.reply.unit; memory = a.memory; prints = call_row (next b.calls) a.reply }

-- "`W` address value (even, one memory word)", behind the unit's back; the calls; "A bad line prints `BAD`, tab, its decimal line number."
unfoldable pub line_done : Memory → Bench → Option Line → Done
line_done m b (Some (Line.Store at w)) = record { bench = line_counted b; memory = store_word m at w; prints = [] }
line_done m b (Some (Line.Access a)) = call_done b (call_of m b.unit (Call.Access a))
line_done m b (Some Line.Interrupt) = call_done b (call_of m b.unit Call.Interrupt)
line_done m b (Some (Line.Trap v)) = call_done b (call_of m b.unit (Call.Trap v))
line_done m b (Some Line.Init) = call_done b (call_of m b.unit Call.Init)
line_done m b None = record { bench = line_counted b; memory = m; prints = bad_of (next b.lines) }
