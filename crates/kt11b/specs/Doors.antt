-- What making leaves in the words, and what a call does to them and to memory and replies: the rules' own, through the coding.
use Rattle.std.specs.Prelude.{ℕ, ◌≡◌, List, Option, Some, None, MatchOption}
use Rattle.rules.specs.declared.Size.{Size}
use Rattle.rules.specs.declared.Call.{Call}
use Rattle.rules.specs.declared.Unit.{Unit}
use Rattle.rules.specs.declared.Reply.{Reply}
use Rattle.rules.specs.Choice.{pick}
use Rattle.rules.specs.Memory.{Memory}
use Rattle.rules.specs.Answers.{shown}
use Rattle.rules.specs.Calls.{call_of, fresh}
use Rattle.coding.specs.Coding.{is_unit, decoded, unit_in, coded}
use Rattle.replies.specs.Replies.{reply_word, no_unit}

-- What making leaves in the words: those of a fresh unit, or, where there is "no unit", what stood there.
unfoldable pub words_made : List ℕ → Option Size → List ℕ
words_made w (Some s) = coded (fresh s)
words_made w None = w

-- Words that don't hold a unit stay, memory stays with them, and the answer says so; a unit goes through the call as the rules say.
unfoldable pub words_after : Memory → List ℕ → Call → List ℕ
words_after m w c = pick (is_unit w) (coded (call_of m (decoded w) c).reply.unit) w

unfoldable pub memory_after : Memory → List ℕ → Call → Memory
memory_after m w c = pick (is_unit w) (call_of m (decoded w) c).memory m

unfoldable pub reply_after : Memory → List ℕ → Call → ℕ
reply_after m w c = pick (is_unit w) (reply_word (shown (call_of m (decoded w) c).reply.answer)) no_unit

-- What a call, of which this says what it gives, makes of words and of its reply, where memory plays no part.
abbrev pub IsCall : (Unit → Reply → Type 0) → List ℕ → List ℕ → ℕ → Type 0
IsCall gives w o n =
    MatchOption (unit_in w) ((o ≡ w) × (n ≡ no_unit)) (λ u. (r : Reply) × gives u r × (o ≡ coded r.unit) × (n ≡ reply_word (shown r.answer)))
