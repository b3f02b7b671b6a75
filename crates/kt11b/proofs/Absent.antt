-- "what stands in those words changes no answer" (T-08): two units' words that differ at most in the room of cells that they haven't got.
use Prim.Native.Nat.{ℕ}
use mathlib.Core.Path.{◌≡◌, refl, sym, ap, subst, ◌∙◌}
use mathlib.Core.Bool.{Bool, true, false}
use mathlib.Core.List.{List}
use lib.ListN.{length}
use Rattle.rules.specs.declared.Size.{Size}
use Rattle.rules.specs.declared.Answer.{Answer}
use Rattle.rules.specs.declared.Unit.{Unit}
use Rattle.rules.specs.declared.Call.{Call}
use Rattle.rules.specs.Choice.{pick}
use Rattle.rules.specs.Memory.{Memory}
use Rattle.rules.specs.Unit.{count_of, room}
use Rattle.rules.specs.Answers.{shown}
use Rattle.rules.specs.Calls.{call_of}
use Rattle.rules.proofs.Sizes.{size-stays, absent-unseen}
use Rattle.rules.proofs.Demand3.Ranges.{call_in_range}
use Rattle.coding.specs.Coding.{unit_words, is_unit, decoded, coded}
use Rattle.coding.proofs.Stays.{decoded_in_range}
use Rattle.coding.proofs.Room.{RoomAside, is_unit_same, decoded-alike, coded-aside}
use Rattle.replies.specs.Replies.{reply_word}
use Rattle.kt11b.specs.Doors.{words_after, memory_after, reply_after}

-- a call of either gives the same reply and the same memory, and leaves words that differ at most there again
pub record SameButRoom (n : ℕ) (m : Memory) (c : Call) (w v : List ℕ) : Type 0 where
  pub units : is_unit w ≡ is_unit v
  pub reply : reply_after m w c ≡ reply_after m v c
  pub memory : memory_after m w c ≡ memory_after m v c
  pub words : RoomAside n (words_after m w c) (words_after m v c)

abbrev pub RoomUnseen : Type 0
RoomUnseen =
    (m : Memory) (c : Call) (w v : List ℕ) → length w ≡ unit_words → length v ≡ unit_words
    → RoomAside (count_of (decoded w).cells.size) w v → SameButRoom (count_of (decoded w).cells.size) m c w v

module _ (m : Memory) (c : Call) (w v : List ℕ) (long : length w ≡ unit_words) (long₁ : length v ≡ unit_words) (a : RoomAside (count_of (decoded w).cells.size) w v) where
  abbrev n : ℕ
  n = count_of (decoded w).cells.size

  abbrev after : List ℕ → Unit
  after x = (call_of m (decoded x) c).reply.unit

  listed : (x : List ℕ) → is_unit x ≡ true → length (after x).cells.list ≡ room
  listed x is = (call_in_range m (decoded x) c (decoded_in_range x is)).cells.listed

  same_units : is_unit w ≡ is_unit v
  same_units = is_unit_same n w v a

  of_units : is_unit w ≡ true → is_unit v ≡ true → SameButRoom n m c w v
  unfolding words_after memory_after reply_after pick
  of_units is is₁ =
      let s = absent-unseen m (decoded w) (decoded v) c (decoded-alike w v long long₁ a) in
      let aside : RoomAside n (coded (after w)) (coded (after v)) =
      subst (λ (x : Size). RoomAside (count_of x) (coded (after w)) (coded (after v))) (size-stays m (decoded w) c)
      (coded-aside (after w) (after v) (listed w is) (listed v is₁) s.units) in
      record {
        units = same_units;
        reply = rw (is, is₁) (ap (λ (x : Answer). reply_word (shown x)) s.answer);
        memory = rw (is, is₁) s.memory;
        words = rw (is, is₁) aside;
      }

  of_others : is_unit w ≡ false → is_unit v ≡ false → SameButRoom n m c w v
  unfolding words_after memory_after reply_after pick
  of_others is is₁ = record { units = same_units; reply = rw (is, is₁); memory = rw (is, is₁); words = rw (is, is₁) a }

  room-cases : (t : Bool) → is_unit w ≡ t → SameButRoom n m c w v
  room-cases true is = of_units is (sym same_units ∙ is)
  room-cases false is = of_others is (sym same_units ∙ is)

pub room-unseen : RoomUnseen
room-unseen m c w v long long₁ a = room-cases m c w v long long₁ a (is_unit w) refl
