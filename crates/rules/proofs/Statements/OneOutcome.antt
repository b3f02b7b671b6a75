-- A contract of one of these forms leaves one outcome: whatever two runs of a function meet it, of the same inputs, come to the same.
use mathlib.Core.Path.{◌≡◌, sym, ◌∙◌}
use Rattle.rules.specs.Types.{Access, Call, Outcome, Reply, Unit}
use Rattle.rules.specs.Memory.{Memory}
use Rattle.rules.specs.Program.{Prog, done}
use Rattle.rules.specs.Calls.{call_of}

-- `result ≡ d`: a function that lends nothing out
pub one_answer : {A : Type 0} {x : A} (a a₁ : A) → a ≡ x → a₁ ≡ x → a ≡ a₁
one_answer a a₁ e e₁ = e ∙ sym e₁

-- `(result ≡ d) × B result`: a bound beside the value takes nothing away
pub one-bounded : {A : Type 0} {x : A} (B : A → Type 0) (a a₁ : A) → (a ≡ x) × B a → (a₁ ≡ x) × B a₁ → a ≡ a₁
one-bounded B a a₁ e e₁ = one_answer a a₁ e.0 e₁.0

-- `result ≡ d` and `m.new ≡ d'`: a function with an answer and lent memory
pub one-outcome :
    {A B : Type 0} {x : A} {y : B} (a a₁ : A) (b b₁ : B) → a ≡ x → b ≡ y → a₁ ≡ x → b₁ ≡ y → (a ≡ a₁) × (b ≡ b₁)
one-outcome a a₁ b b₁ e f e₁ f₁ = (one_answer a a₁ e e₁, one_answer b b₁ f f₁)

-- `done result ≡ p`: an ending of the order of steps
pub one-ending : {p : Prog} (o o₁ : Outcome) → done o ≡ p → done o₁ ≡ p → o ≡ o₁
one-ending o o₁ e e₁ = cc

-- `(m : Memory) → result ≡ d m`: a call that asks for no memory, whatever memory there is
pub one_for_all : {A : Type 0} {d : Memory → A} (m : Memory) (a a₁ : A) → ((m : Memory) → a ≡ d m) → ((m : Memory) → a₁ ≡ d m) → a ≡ a₁
one_for_all m a a₁ e e₁ = one_answer a a₁ (e m) (e₁ m)

-- The unit's own call, in its contract's words: reply (answer and unit) and lent memory are fixed, refused or not.
pub one-access :
    (m : Memory) (u : Unit) (q : Access) (r r₁ : Reply) (n n₁ : Memory)
    → r ≡ (call_of m u (Call.Access q)).reply → n ≡ (call_of m u (Call.Access q)).memory
    → r₁ ≡ (call_of m u (Call.Access q)).reply → n₁ ≡ (call_of m u (Call.Access q)).memory
    → (r ≡ r₁) × (n ≡ n₁)
one-access m u q r r₁ n n₁ = one-outcome r r₁ n n₁
