-- The four empty programs of document 01, each shut out by demand 2: named calls at which a program of that kind is not the rules.
use Prim.Native.Nat.{ℕ}
use mathlib.Core.Path.{◌≡◌, sym, ap, ◌∙◌}
use mathlib.Core.List.{[], ◌∷◌}
use native.Mathlib.Omega.{arith}
use lib.ListN.{get_or}
use Rattle.std.specs.Prelude.{Option, Some}
use Rattle.rules.specs.declared.Unit.{Unit}
use Rattle.rules.specs.declared.Access.{Access}
use Rattle.rules.specs.declared.Call.{Call}
use Rattle.rules.specs.Memory.{Memory}
use Rattle.rules.specs.Answers.{shown}
use Rattle.rules.specs.Calls.{After, call_of}
use Rattle.rules.specs.Runs.{station_after}
use Rattle.worked.proofs.Opened.{opened}
use Rattle.worked.proofs.Units.{eight}
use Rattle.worked.proofs.Worked.{A}
use Rattle.rules.proofs.Promises.{number_of}
use Rattle.worked.proofs.Premises.{memory, paging_on, read_page}

-- a program in the unit's place: what it makes of memory, unit and call
abbrev pub Program : Type 0
Program = Memory → Unit → Call → After

-- it does at this input what the rules say
abbrev pub IsRight : Program → Memory → Unit → Call → Type 0
IsRight p m u c = p m u c ≡ call_of m u c

-- the physical address of an answer, by 01's table
abbrev pub physical_of : After → Option ℕ
physical_of a = (shown a.reply.answer).physical

-- "all answers 1": wrong at INIT, which is always accepted
abbrev pub AllOnesWrong : Type 0
AllOnesWrong = (p : Program) → ((m : Memory) (u : Unit) (c : Call) → number_of (p m u c) ≡ 1) → IsRight p [] eight Call.Init → ⊥

-- "a fixed answer", whichever number it has: wrong at INIT, answered by 0, or at a trap by vector 5, which is in no list and answered by 1
abbrev pub FixedAnswerWrong : Type 0
FixedAnswerWrong =
    (p : Program) (n : ℕ) → ((m : Memory) (u : Unit) (c : Call) → number_of (p m u c) ≡ n)
    → IsRight p [] eight Call.Init → IsRight p [] eight (Call.Trap 5) → ⊥

-- "a call that changes nothing". Of the unit: wrong at a store into KTEM. Of memory: wrong at a store into a memory of one word.
abbrev pub store_ktem : Call
store_ktem = A 2 1 0 0o177616 0o000001

abbrev pub store_word_zero : Call
store_word_zero = A 2 1 0 0 0o000001

abbrev pub one_word : Memory
one_word = 0 ∷ 0 ∷ []

abbrev pub UnitUnchangedWrong : Type 0
UnitUnchangedWrong =
    (p : Program) → ((m : Memory) (u : Unit) (c : Call) → (p m u c).reply.unit ≡ u) → IsRight p [] eight store_ktem → ⊥

abbrev pub MemoryUnchangedWrong : Type 0
MemoryUnchangedWrong =
    (p : Program) → ((m : Memory) (u : Unit) (c : Call) → (p m u c).memory ≡ m) → IsRight p one_word eight store_word_zero → ⊥

-- "a unit that translates its first access and then echoes addresses": after its first access, which it does right, each physical address that it
-- gives is the virtual one.
abbrev pub Echoes : Program → Memory → Unit → Call → Type 0
Echoes p m u first =
    (q : Access) (at : ℕ) → physical_of (p (p m u first).memory (p m u first).reply.unit (Call.Access q)) ≡ Some at → at ≡ q.addr

-- it does both of two calls, one after the other, as the rules say
pub record RightTwice (p : Program) (m : Memory) (u : Unit) (first second : Call) : Type 0 where
  pub at_first : IsRight p m u first
  pub at_second : IsRight p (call_of m u first).memory (call_of m u first).reply.unit second

-- From a fresh unit, unpaged: KTIC, 177600o, is read twice, and the second time too it is 777600o.
abbrev pub read_ktic : Call
read_ktic = A 0 1 0 0o177600 0

abbrev pub EchoWrong : Type 0
EchoWrong = (p : Program) → Echoes p [] eight read_ktic → RightTwice p [] eight read_ktic read_ktic → ⊥

-- With paging on, as in Premises.antt: page 2 is read, and then page 1, which is physical page 2, so that 001000o is 002000o.
abbrev pub paging : Unit
paging = (station_after memory eight paging_on).unit

abbrev pub PagedEchoWrong : Type 0
PagedEchoWrong = (p : Program) → Echoes p memory paging (read_page 2) → RightTwice p memory paging (read_page 2) (read_page 1) → ⊥

-- Proofs -----------------------------------------------------------------------------------------------------------------

pub all_ones_wrong : AllOnesWrong
unfolding opened
all_ones_wrong p one r = let z : ◌≡◌ {A = ℕ} 1 0 = sym (one [] eight Call.Init) ∙ ap number_of r in omega arith

pub fixed_answer_wrong : FixedAnswerWrong
unfolding opened
fixed_answer_wrong p n fixed r s =
    let a : n ≡ 0 = sym (fixed [] eight Call.Init) ∙ ap number_of r in
    let b : n ≡ 1 = sym (fixed [] eight (Call.Trap 5)) ∙ ap number_of s in
    omega arith

pub unit_unchanged_wrong : UnitUnchangedWrong
unfolding opened
unit_unchanged_wrong p same r =
    let z : ◌≡◌ {A = ℕ} 0 1 = ap (λ (u : Unit). u.maps.ktem) (sym (same [] eight store_ktem) ∙ ap (λ (a : After). a.reply.unit) r) in
    omega arith

pub memory_unchanged_wrong : MemoryUnchangedWrong
unfolding opened
memory_unchanged_wrong p same r =
    let z : ◌≡◌ {A = ℕ} 0 1 =
    ap (λ (m : Memory). get_or m 0 0) (sym (same one_word eight store_word_zero) ∙ ap (λ (a : After). a.memory) r) in
    omega arith

-- the second call, after the first, is the rules'
second_right :
    (p : Program) (m : Memory) (u : Unit) (first second : Call) → RightTwice p m u first second
    → p (p m u first).memory (p m u first).reply.unit second
    ≡ call_of (call_of m u first).memory (call_of m u first).reply.unit second
second_right p m u first second r = ap (λ (a : After). p a.memory a.reply.unit second) r.at_first ∙ r.at_second

pub echo_wrong : EchoWrong
unfolding opened
echo_wrong p echo r =
    let z : ◌≡◌ {A = ℕ} 0o777600 0o177600 = echo _ 0o777600 (ap physical_of (second_right p [] eight read_ktic read_ktic r)) in
    omega arith

pub paged_echo_wrong : PagedEchoWrong
unfolding opened
paged_echo_wrong p echo r =
    let z : ◌≡◌ {A = ℕ} 0o002000 0o001000 = echo _ 0o002000 (ap physical_of (second_right p memory paging (read_page 2) (read_page 1) r)) in
    omega arith
