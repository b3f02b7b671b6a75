-- A byte more leaves the room 0 past the bytes.
use native.Mathlib.Omega.{arith}
use Rattle.std.proofs.Common.{length-set}
use Rattle.fewbytes.proofs.FewBytes.push.Goals as goal
use Rattle.fewbytes.proofs.Room.{zero_past}

pub invariant_of-self : goal.invariant_of-self
invariant_of-self g c = (
  omega (arith, length-set c.self.inside.room c.self.inside.len c.args.byte, c.if-self.true, c.self.told),
  zero_past g.row.N c.self.inside.len c.self.inside.room c.args.byte c.self.invariant.1,
)
