-- A call of a unit, and of words that don't hold one: what the words, memory and the reply come to.
use Prim.Native.Nat.{ℕ}
use mathlib.Core.Path.{◌≡◌, refl, sym, ap, subst, ◌∙◌}
use mathlib.Core.Bool.{true, false}
use mathlib.Core.List.{List, ◌++◌}
use lib.ListN.{length, drop}
use Rattle.rules.specs.declared.Call.{Call}
use Rattle.rules.specs.declared.Outcome.{Outcome}
use Rattle.rules.specs.Choice.{pick}
use Rattle.rules.specs.Memory.{Memory}
use Rattle.rules.specs.Answers.{shown}
use Rattle.rules.specs.declared.Core.{Core}
use Rattle.rules.specs.declared.Cells.{Cells}
use Rattle.rules.specs.declared.Access.{Access}
use Rattle.rules.specs.Order.{accessed}
use Rattle.rules.specs.Calls.{After, called, settled, call_of}
use Rattle.rules.specs.Calls.{memory_after as effectOn}
use Rattle.coding.specs.Coding.{core_count, unit_words, is_unit, core_of, cells_of, decoded, core_words, cells_words, coded}
use Rattle.rules.proofs.Laws.Choices.{picked}
use Rattle.coding.proofs.Laws.{cells_stay}
use Rattle.coding.proofs.Stays.{unit-stays}
use Rattle.quick.specs.Usual.{usual, IsOutcome}
use Rattle.replies.specs.Replies.{reply_word, no_unit}
use Rattle.kt11b.specs.Doors.{words_after, memory_after, reply_after}

module _ (m : Memory) (w : List ℕ) (c : Call) where
  pub stay_words : is_unit w ≡ false → w ≡ words_after m w c
  unfolding words_after pick
  stay_words is = rw is

  pub stay_memory : is_unit w ≡ false → m ≡ memory_after m w c
  unfolding memory_after pick
  stay_memory is = rw is

  pub stay_reply : (a : ℕ) → is_unit w ≡ false → a ≡ no_unit → a ≡ reply_after m w c
  unfolding reply_after pick
  stay_reply a is e = e ∙ rw is

-- words that hold a unit hold one afterwards, and words that don't hold one stay as they are
pub unit-after : (m : Memory) (w : List ℕ) (c : Call) → is_unit (words_after m w c) ≡ is_unit w
unfolding words_after
unit-after m w c = picked (λ (o : List ℕ). is_unit o ≡ is_unit w) (is_unit w) _ _ (λ is. unit-stays m w c is ∙ sym is) (λ is. refl)

-- An outcome of the attempt, at the core of a unit's words: a the outcome, o the words written.
module _ (m : Memory) (w : List ℕ) (q : Access) (a : Outcome) (is : is_unit w ≡ true) (s : IsOutcome a m (λ r. accessed m (decoded w).cells.size (decoded w).core r q) (decoded w).cells) where
  quick_call :
      call_of m (decoded w) (Call.Access q)
      ≡ record { reply = record { answer = a.answer; unit = record { core = a.core; maps = (decoded w).maps; cells = (decoded w).cells } }; memory = effectOn a.effect m }
  unfolding call_of called settled
  quick_call = simp (s.runs (decoded w).maps, s.quiet.maps, s.quiet.cells)

  pub quick_memory : (n : Memory) → n ≡ effectOn a.effect m → n ≡ memory_after m w (Call.Access q)
  unfolding memory_after pick
  quick_memory n e = e ∙ sym (rw is (ap (λ (x : After). x.memory) quick_call))

  pub quick_reply : (n : ℕ) → n ≡ reply_word (shown a.answer) → n ≡ reply_after m w (Call.Access q)
  unfolding reply_after pick
  quick_reply n e = e ∙ sym (rw is (ap (λ (x : After). reply_word (shown x.reply.answer)) quick_call))

  pub quick_words :
      (o : List ℕ) → length w ≡ unit_words → o ≡ core_words a.core (decoded w).maps ++ drop core_count w → o ≡ words_after m w (Call.Access q)
  unfolding words_after coded pick
  quick_words o long e =
      e ∙ rw (cells_stay w long is) (sym (rw is (ap (λ (x : After). core_words x.reply.unit.core x.reply.unit.maps ++ cells_words x.reply.unit.cells) quick_call)))

-- What an outcome owes at the core and the cells of a unit's words.
pub owed_at :
    (m : Memory) (w : List ℕ) (q : Access) (a : Outcome) (c : Core) (k : Cells) → c ≡ core_of w → k ≡ cells_of w
    → usual (length m) c q ≡ true → (usual (length m) c q ≡ true → IsOutcome a m (λ r. accessed m k.size c r q) k)
    → IsOutcome a m (λ r. accessed m (decoded w).cells.size (decoded w).core r q) (decoded w).cells
unfolding decoded
owed_at m w q a c k ce ke usually s =
    subst (λ (x : Core). IsOutcome a m (λ r. accessed m (cells_of w).size x r q) (cells_of w)) ce
    (subst (λ (x : Cells). IsOutcome a m (λ r. accessed m x.size c r q) x) ke (s usually))
