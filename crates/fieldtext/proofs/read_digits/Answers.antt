-- A byte that is no digit says nothing of the whole; one that is a digit says base times more, which nine digits of base ten fit.
use Rattle.std.proofs.Common.{sym, ◌∙◌, Some, None, ◌+◌, arith}
use Rattle.std.proofs.lemmas.Bool.Decides.{nat_tests}
use Rattle.fieldtext.proofs.Digits.{told_end, told_more, digit_below, one_more, ten_small, digits_told}
use Rattle.fieldtext.proofs.read_digits.Goals as goal

pub returns-in_err-value : goal.returns-in_err-value
returns-in_err-value c =
    let f = c.args.bytes.now in
    let n = told_more c.args.base f c.loop-b.value c.loop-b.b-index None c.loop-b-test.true c.in_err-value.ensures in
    let all = digits_told c.args.base c.args.most f (omega arith) (omega arith) in
    c.from_residual.ensures ∙ sym (all ∙ c.loop-b.invariant.1 ∙ n)

pub overflow_add-value : goal.overflow_add-value
overflow_add-value c =
    let d = digit_below c.args.base _ _ c.in_ok-value.ensures in
    let m = one_more c.args.base c.loop-b.value c.in_ok-value.field-0 c.loop-b.b-index c.requires.0 c.loop-b.invariant.0 d in
    omega (arith, ten_small (c.loop-b.b-index + 1))

pub loop-b-preserved : goal.loop-b-preserved
loop-b-preserved c =
    let d = digit_below c.args.base _ _ c.in_ok-value.ensures in (
      one_more c.args.base c.loop-b.value c.in_ok-value.field-0 c.loop-b.b-index c.requires.0 c.loop-b.invariant.0 d,
      c.loop-b.invariant.1 ∙ told_more c.args.base c.args.bytes.now c.loop-b.value c.loop-b.b-index (Some c.in_ok-value.field-0) c.loop-b-test.true c.in_ok-value.ensures,
    )

pub returns : goal.returns
returns c =
    let f = c.args.bytes.now in
    let e = told_end c.args.base f c.loop-b.value c.loop-b.b-index (omega arith) in
    let all = digits_told c.args.base c.args.most f (grind (arith, nat_tests)) (omega arith) in
    sym (all ∙ c.loop-b.invariant.1 ∙ e)
