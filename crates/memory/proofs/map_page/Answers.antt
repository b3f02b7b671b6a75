-- The page that a map register names is there, and so is a part of memory.
use native.Mathlib.Nat.{add-sub_cancel_left}
use borrow.Author.Tests.{le-leb}
use Rattle.rules.specs.Choice.{pick}
use Rattle.rules.specs.Tools.{map_page}
use Rattle.rules.specs.Maps.{low9}
use Rattle.memory.proofs.map_page.Goals as goal

pub returns-in-Some : goal.returns-in-Some
unfolding map_page low9 pick
returns-in-Some c =
    let h = rw c.from.ensures at c.in-Some.ensures.lookup in
    rw h.0.2 (simp (le-leb _ _ h.0.1, add-sub_cancel_left))
