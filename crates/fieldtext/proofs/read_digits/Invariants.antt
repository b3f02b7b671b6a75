-- The bytes passed are digits and say `value`, which so many digits can say in base ten.
use Rattle.std.proofs.Common.{◌≡◌, ◌<◌, ◌^◌, drop}
use Rattle.fieldtext.proofs.Digits.{told_from}
use Rattle.fieldtext.proofs.read_digits.Given as goal

abbrev pub invariant-loop-b : goal.invariant-loop-b
invariant-loop-b l =
    (l.value < 10 ^ l.b-index) × (told_from l.base 0 l.bytes ≡ told_from l.base l.value (drop l.b-index l.bytes))
