-- A target below the end is memory, and step 4 of a calm core is the one that was taken, of a fetch or of another access.
use Rattle.std.proofs.Common.{◌∙◌, ◌<◌, length, arith, sym, Some}
use Rattle.quick.proofs.Sounds.{reached-fetch, reached-other}
use Rattle.quick.proofs.reached.Goals as goal

pub returns-then-is_fetch : goal.returns-then-is_fetch
returns-then-is_fetch c =
    let below : c.args.at < length c.args.m.now = omega arith in
    λ calms k. reached-fetch _ _ _ k _ _ _ below calms _ (sym c.is_fetch.ensures ∙ c.if-is_fetch.true) c.fetch_noted.ensures (c.fetch_ended.ensures k)

pub returns : goal.returns
returns c =
    let below : c.args.at < length c.args.m.now = omega arith in
    λ calms k. reached-other _ _ _ k (Some c.other_ended.result) _ _ below calms _ (sym c.is_fetch.ensures ∙ c.if-is_fetch.false) c.other_noted.ensures (c.other_ended.ensures k)
