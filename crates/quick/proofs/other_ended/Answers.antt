-- A read gives the word and does nothing else, and a store is the rules' own effect on memory.
use Rattle.std.proofs.Common.{◌∙◌, ap, sym}
use Rattle.rules.specs.declared.Part.{Part}
use Rattle.rules.specs.Memory.{word_at}
use Rattle.rules.specs.Order.{memory_effect}
use Rattle.quick.proofs.Sounds.{read_owed, store_owed}
use Rattle.quick.proofs.other_ended.Goals as goal

pub returns-then-is_read : goal.returns-then-is_read
returns-then-is_read c =
    λ k. read_owed _ _ _ k _ _ _ (sym c.is_read.ensures ∙ c.if-is_read.true) (c.word_at.ensures ∙ ap (word_at _) c.even_of.ensures) c.ended.ensures

pub returns : goal.returns
returns c =
    let effect = ap (λ (p : Part). memory_effect p c.args.at c.args.q.datum) c.part_of-part.ensures in
    λ k. store_owed _ _ _ k _ _ _ (sym c.is_read.ensures ∙ c.if-is_read.false) (c.memory_effect.ensures ∙ effect) c.ended-2.ensures
