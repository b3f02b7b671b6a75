-- The keys are those of the page's word, and what they grant leads on.
use Rattle.std.proofs.Common.{◌∙◌, ap, sym, Bool, rules}
use Rattle.rules.specs.Steps.{keys_of, judged}
use Rattle.quick.proofs.Sounds.{held_owed}
use Rattle.quick.proofs.held.Goals as goal

pub returns : goal.returns
unfolding judged
returns c =
    let a = c.args in
    let keys = ap (λ (b : Bool). keys_of a.q.op b a.v) c.watches.ensures in
    λ calms k. held_owed a.m.now a.q _ a.c a.v _ _ calms (sym (c.keys_of.ensures ∙ keys) ∙ search rules) c.physical_at.ensures.0 k (c.reached.ensures calms k)
