-- An access under way: how the rest of its steps run from there.
use Rattle.rules.specs.declared.Ran.{Ran}
use Rattle.rules.specs.Program.{Prog, run}
use Rattle.transfer.specs.declared.Stage.{Stage}

-- over the memory that is lent, by the job's map registers, from the cells as the look-ups have left them so far
unfoldable pub ran : Stage → Prog → Ran
ran s p = run s.memory.now s.job.maps p s.cells.now
