-- Each call reads the cell at its place, and they are the list.
use Rattle.std.proofs.Common.{rules, sym}
use Rattle.rules.specs.Unit.{room}
use Rattle.coding.specs.Coding.{tags_place, words_place, list_of}
use Rattle.coding.proofs.Passes.{read_all}
use Rattle.coding.proofs.list_of.Goals as goal

pub returns : goal.returns
unfolding list_of
returns c = sym (read_all _ tags_place words_place c.args.w.now _ _ (λ i x q called. search rules) room c.from_fn.ensures.items)
