-- An interrupt, a trap and INIT leave memory as it was.
use Rattle.std.proofs.Common.{ℕ, ◌≡◌}
use Rattle.rules.specs.declared.Call.{Call}
use Rattle.rules.specs.declared.Unit.{Unit}
use Rattle.rules.specs.Memory.{Memory}
use Rattle.rules.specs.Calls.{call_of}
use Rattle.rules.proofs.Demand1.Interrupts.{interrupt_leaves, trap_leaves, init_leaves}

pub interrupt_memory : (m : Memory) (u : Unit) → (call_of m u Call.Interrupt).memory ≡ m
interrupt_memory m u = (interrupt_leaves m u).memory

pub trap_memory : (m : Memory) (u : Unit) (v : ℕ) → (call_of m u (Call.Trap v)).memory ≡ m
trap_memory m u v = (trap_leaves m u v).memory

pub init_memory : (m : Memory) (u : Unit) → (call_of m u Call.Init).memory ≡ m
init_memory m u = (init_leaves m u).memory
