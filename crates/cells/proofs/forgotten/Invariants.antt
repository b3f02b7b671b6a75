-- The cells that were passed are as forgetting makes them, and the others as they were.
use Rattle.std.proofs.Common.{◌≡◌, ◌++◌, length, map, take, drop}
use Rattle.rules.specs.Maps.{cell_forgotten}
use Rattle.cells.proofs.forgotten.Given as goal

abbrev pub invariant-loop-held : goal.invariant-loop-held
invariant-loop-held l =
    (l.held-items ≡ map (cell_forgotten l.fn.tag) (take l.held-index l.fn.k.list) ++ drop l.held-index l.fn.k.list)
    × (length l.held-items ≡ length l.fn.k.list)
