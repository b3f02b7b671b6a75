-- What an outcome owes, at the core and the cells of the unit's words, is what the call does.
use Rattle.std.proofs.Common.{◌≡◌, ◌∙◌, ◌++◌, true, drop, ap, sym}
use Rattle.rules.specs.declared.Maps.{Maps}
use Rattle.coding.specs.Coding.{core_count, is_unit, decoded, core_words}
use Rattle.kt11b.proofs.Calls.{quick_words, quick_memory, quick_reply, owed_at}
use Rattle.kt11b.proofs.by_sort.Goals as goal

pub returns : goal.returns
unfolding decoded
returns c =
    let m = c.args.memory.now in
    let w = c.args.unit.now in
    let q = c.args.q in
    let is : is_unit w ≡ true = sym c.is_unit.ensures ∙ c.if-not-is_unit.false in
    let yes = sym c.usual.ensures ∙ c.if-usual.true in
    let s = owed_at m w q _ _ _ c.core_of-c.ensures c.cells_of.ensures yes c.in-Some.ensures in
    let stored = ap (λ (r : Maps). core_words c.in-Some.o.core r ++ drop core_count w) c.maps_of-maps.ensures in
    record {
      words = quick_words m w q _ is s _ c.store_core.ensures.number (c.store_core.ensures.words ∙ stored);
      memory = quick_memory m w q _ is s _ c.store.ensures;
      reply = quick_reply m w q _ is s _ c.replied.ensures;
    }
