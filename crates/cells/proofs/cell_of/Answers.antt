-- One cell more is compared, the last of those that are left: its match replaces what was gathered, and no match leaves it.
use Rattle.std.proofs.Common.{◌≡◌, ◌∙◌, ap, ℕ, length, arith, rules}
use Rattle.std.proofs.lemmas.List.{take_all}
use Rattle.std.specs.Prelude.{Some}
use Rattle.rules.specs.Unit.{there}
use Rattle.rules.specs.Maps.{cell_of}
use Rattle.cells.proofs.Laws.{sought_from, none_yet, all_left, still_split, matched, unmatched}
use Rattle.cells.proofs.cell_of.Goals as goal

pub loop-i-init : goal.loop-i-init
unfolding there
loop-i-init c =
    let whole : c.into_iter-i-iterator.result.iter.iter.rest.now ≡ there c.args.k.now = search (rules, take_all) in
    record { gathered = none_yet _ _ c.args.tag whole; left = all_left _ _ c.args.tag whole; counted = cc }

pub loop-i-preserved-then-tag-held : goal.loop-i-preserved-then-tag-held
loop-i-preserved-then-tag-held c =
    let step = c.in-Some.ensures.steps in
    let inv = c.loop-i.invariant in
    let here : c.in-Some.i ≡ length c.next.new.self.iter.iter.rest.now = omega arith in
    let found = ap Some here ∙ matched _ _ _ _ _ inv.left step.1.0 c.if-tag-held.true in
    record {
      gathered = search (rules, found);
      left = still_split _ _ _ _ c.args.tag inv.left step.1.0;
      counted = step.0 ∙ inv.counted;
    }

pub loop-i-preserved : goal.loop-i-preserved
loop-i-preserved c =
    let step = c.in-Some.ensures.steps in
    let inv = c.loop-i.invariant in
    record {
      gathered = inv.gathered ∙ unmatched _ _ _ _ _ inv.left step.1.0 c.if-tag-held.false;
      left = still_split _ _ _ _ c.args.tag inv.left step.1.0;
      counted = step.0 ∙ inv.counted;
    }

pub returns : goal.returns
unfolding cell_of
returns c =
    c.loop-i.invariant.gathered
    ∙ ap (λ (i : ℕ). sought_from (there c.args.k.now) i c.args.tag) c.in-None.ensures.steps.1.0
