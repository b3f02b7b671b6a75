-- The four calls: what each decides, and the one place at which memory and the map registers change, and the cells other than by a look-up.
use Rattle.std.specs.Prelude.{ℕ, []}
use Rattle.rules.specs.Types.{Core, Maps, Size, Cells, Unit, Call, Answer, Effect, Ran, Reply}
use Rattle.rules.specs.Choice.{pick}
use Rattle.rules.specs.Memory.{Memory, store_word, store_byte}
use Rattle.rules.specs.Unit.{emptied, init_core, zero_unit}
use Rattle.rules.specs.Registers.{pad_stored}
use Rattle.rules.specs.Maps.{forgotten}
use Rattle.rules.specs.Sequences.{interrupted, trapped, vector_listed, idle}
use Rattle.rules.specs.Program.{Prog, done, run}
use Rattle.rules.specs.Order.{outcome, refused, sequenced, accessed}

-- "Interrupt: ..", and 2 while waiting or in FCN 3
unfoldable pub interrupt_of : Core → Prog
interrupt_of c = pick (idle c.wait c.ktcs.fcn) (sequenced 0 (interrupted c)) (refused c Answer.NotDue)

-- "In every call 1 comes before 2"
unfoldable pub trap_of : Core → ℕ → Prog
trap_of c v =
    pick (vector_listed v) (pick (idle c.wait c.ktcs.fcn) (sequenced 0 (trapped c v)) (refused c Answer.NotDue))
    (refused c Answer.Misshapen)

-- "INIT clears KTCS, the wait, the fetch memory and the cells, and sets the counter to 10o; other registers stay (H). It is always accepted."
unfoldable pub init_of : Core → Maps → Prog
init_of c r = done (outcome (Answer.Taken 0) (init_core c) (Effect.Reload r))

-- "Calls: access .., interrupt, trap (vector), INIT."
unfoldable pub called : Memory → Size → Core → Maps → Call → Prog
called m s c r (Call.Access q) = accessed m s c r q
called m s c r Call.Interrupt = interrupt_of c
called m s c r (Call.Trap v) = trap_of c v
called m s c r Call.Init = init_of c r

-- What an effect does to the map registers, to the cells and to memory.
unfoldable pub maps_after : Effect → Maps → Maps
maps_after Effect.Keep r = r
maps_after (Effect.Forget tag) r = r
maps_after (Effect.Reload r₁) r = r₁
maps_after (Effect.StoreWord at v) r = r
maps_after (Effect.StoreByte at v) r = r
maps_after (Effect.StorePad i p v) r = r

unfoldable pub cells_after : Effect → Cells → Cells
cells_after Effect.Keep k = k
cells_after (Effect.Forget tag) k = forgotten k tag
cells_after (Effect.Reload r₁) k = emptied k
cells_after (Effect.StoreWord at v) k = k
cells_after (Effect.StoreByte at v) k = k
cells_after (Effect.StorePad i p v) k = pad_stored k i p v

unfoldable pub memory_after : Effect → Memory → Memory
memory_after Effect.Keep m = m
memory_after (Effect.Forget tag) m = m
memory_after (Effect.Reload r₁) m = m
memory_after (Effect.StoreWord at v) m = store_word m at v
memory_after (Effect.StoreByte at v) m = store_byte m at v
memory_after (Effect.StorePad i p v) m = m

-- the answer with the unit, and memory, after a call
pub record After : Type 0 where
  pub reply : Reply
  pub memory : Memory

-- a decision, carried out
unfoldable pub settled : Memory → Maps → Ran → After
settled m r d =
    record {
      reply =
          record {
            answer = d.outcome.answer;
            unit =
                record {
                  core = d.outcome.core;
                  maps = maps_after d.outcome.effect r;
                  cells = cells_after d.outcome.effect d.cells;
                };
          };
      memory = memory_after d.outcome.effect m;
    }

-- A call of the unit over lent memory: demand 2's answer, unit and memory.
unfoldable pub call_of : Memory → Unit → Call → After
call_of m u c = settled m u.maps (run m u.maps (called m u.cells.size u.core u.maps c) u.cells)

-- "A fresh unit is all zero, then INIT.", of either size
unfoldable pub fresh : Size → Unit
fresh s = (call_of [] (zero_unit s) Call.Init).reply.unit
