-- The library's search finds the first tab.
use Rattle.std.proofs.Common.{rules, ◌∙◌, arith, nat_eq}
use borrow.Author.Tests.{tests}
use Rattle.std.proofs.lemmas.Iterator.{YieldsList-from_slice}
use Rattle.std.proofs.lemmas.Iterator.Search.{position_from_yields_List}
use Rattle.fieldtext.proofs.Scan.{head_bound, head_found}
use Rattle.fieldtext.proofs.field_end.Goals as goal

pub returns : goal.returns
returns c =
    let s = c.args.s.now in
    let found =
    position_from_yields_List (λ b. nat_eq b 9) _ _ c.position.result c.position.ensures.ran (YieldsList-from_slice s cc)
    (λ x b q k. search (rules, tests))
    in
    let e = c.unwrap_or.ensures ∙ head_found s c.position.result found in
    (e, omega (arith, e, head_bound s))
