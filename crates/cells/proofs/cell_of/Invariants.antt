-- The cells that are still to be compared are the first ones, and what is gathered is the search among the others.
use Rattle.std.proofs.Common.{◌≡◌, length, ◌++◌, drop}
use Rattle.rules.specs.Unit.{there}
use Rattle.cells.proofs.Laws.{sought_from}
use Rattle.cells.proofs.cell_of.Given as goal

abbrev pub invariant-loop-i : goal.invariant-loop-i
invariant-loop-i l =
    let left = l.i-iterator.iter.iter.rest.now in
    record {
      gathered : l.gathered ≡ sought_from (there l.fn.k) (length left) l.fn.tag;
      left : left ++ drop (length left) (there l.fn.k) ≡ there l.fn.k;
      counted : l.i-iterator.iter.count ≡ 0;
    }
