-- The library's cut at each tab gives the fields.
use Rattle.std.proofs.Common.{rules}
use borrow.Author.Tests.{tests}
use Rattle.fieldtext.proofs.Scan.{fields_yielded}
use Rattle.fieldtext.proofs.numbers.Goals as goal

pub returns : goal.returns
returns g c =
    c.read_numbers.ensures _ (fields_yielded _ c.args.line.now c.skip.ensures.source c.skip.ensures.count (search rules) c.split.ensures.done c.split.ensures.closure (λ x r q k. search (rules, tests)))
