-- Choosing by a test, at every type: the one way in which a rule says "if" of a test.
use Rattle.std.specs.Prelude.{Bool, true, false}

unfoldable pub pick : {A : Type 0} → Bool → A → A → A
pick true a b = a
pick false a b = b
