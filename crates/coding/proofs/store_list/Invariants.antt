-- Each cell in turn: the first i tags and the first i words are written.
use Rattle.std.proofs.Common.{◌≡◌}
use Rattle.coding.specs.Coding.{tags_place, words_place}
use Rattle.coding.proofs.Passes.{writing}
use Rattle.coding.proofs.store_list.Given as goal

abbrev pub invariant-loop-i : goal.invariant-loop-i
invariant-loop-i l = l.w ≡ writing tags_place words_place l.list l.initial.w l.i
