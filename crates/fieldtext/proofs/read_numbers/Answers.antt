-- The laws of one field more.
use Rattle.std.proofs.Common.{◌∙◌, sym, length-set, rules}
use Rattle.std.proofs.lemmas.List.{length-replicate}
use Rattle.std.proofs.Math.Nat.{sub-zero}
use Rattle.fieldtext.proofs.Chain.{numbers_start, no_field, at_end, no_number, one_number}
use Rattle.fieldtext.proofs.read_numbers.Goals as goal

pub loop-word-init : goal.loop-word-init
loop-word-init g c = (c.requires, length-replicate g.row.N 0, λ fs y. (fs, y, rw sub-zero (numbers_start g.row.N fs)))

pub returns-in_err-next : goal.returns-in_err-next
returns-in_err-next g c fs y =
    let h = c.loop-word.invariant.2 fs y in
    c.from_residual.ensures ∙ sym (h.2 ∙ no_field g.I.Iterator.next_gives _ _ h.0 h.1 _ _ _ c.loop-word-test.true c.in_err-next.ensures.steps)

pub returns-in_err-word : goal.returns-in_err-word
returns-in_err-word g c fs y =
    let h = c.loop-word.invariant.2 fs y in
    c.from_residual-in_err-word.ensures ∙ sym (h.2 ∙ no_number g.I.Iterator.next_gives _ _ h.0 h.1 c.in_ok-next.field-0 c.in_ok-next.ensures.steps _ _ _ c.loop-word-test.true (search rules))

pub loop-word-preserved : goal.loop-word-preserved
loop-word-preserved g c = (
  c.in_ok-next.ensures.goes.keeps,
  length-set c.loop-word.word-items c.loop-word.word-index _ ∙ c.loop-word.invariant.1,
  λ fs y.
      let h = c.loop-word.invariant.2 fs y in
      let m = one_number g.I.Iterator.next_gives _ _ h.0 h.1 c.in_ok-next.field-0 c.in_ok-next.ensures.steps c.loop-word.word-items g.row.N c.loop-word.word-index c.in_ok-word.field-0 c.loop-word-test.true c.loop-word.invariant.1 (search rules) in
      (m.0, m.1, h.2 ∙ m.2),
)

pub returns : goal.returns
returns g c fs y =
    let h = c.loop-word.invariant.2 fs y in
    let e =
    at_end g.I.Iterator.next_gives _ _ h.0 h.1 c.loop-word.word-items g.row.N c.loop-word.word-index c.loop-word-test.false c.loop-word.invariant.1
    c.next-2.result c.next-2.ensures.steps c.is_none.result c.is_none.ensures
    in
    c.then_some.ensures ∙ sym (h.2 ∙ e)
