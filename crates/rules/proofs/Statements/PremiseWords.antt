-- The words of demand 3's premises, which specs/Runs.antt computes along a run, by the steps and the answer of each call: what is
-- computed there is what 01's words say. Proved in Goes.antt, Reaches.antt and Histories.antt of the room Demand3.
use mathlib.Core.Path.{◌≡◌}
use mathlib.Core.Bool.{Bool, true, false}
use mathlib.Core.List.{List, [], ◌++◌}
use Prim.Native.Nat.{ℕ, ◌<◌}
use lib.Dec.{ltb}
use lib.ListN.{length}
use Rattle.std.specs.Prelude.{Option, Some, None}
use Rattle.rules.specs.Types.{Size, Cells, Unit, Access, Call, Operating, Associative, Register, Target, Place, Fault, Answer}
use Rattle.rules.specs.Memory.{Memory}
use Rattle.rules.specs.Maps.{page_of}
use Rattle.rules.specs.Registers.{place_of}
use Rattle.rules.specs.Order.{window_addr}
use Rattle.rules.specs.Calls.{call_of}
use Rattle.rules.specs.Answers.{shown}
use Rattle.rules.specs.Runs.{Visit, visit, deed_of, Use, unused, History, in_use_after, struck, heard}
use Rattle.rules.proofs.Promises.{job}
use Rattle.rules.proofs.Statements.Ways.{Asked, InnerAsked, AtFault, operating}

-- "A window's access goes to its outer page and, once reached, to its inner one.": an access goes to the page of its address where step 6 asks for
-- that page's entry, and to a window's inner page where step 6 is come to again (`Asked` and `InnerAsked` of Ways.antt).
pub data GoesTo (m : Memory) (u : Unit) (q : Access) : List Visit → Type 0 where
  to_no_page : (Asked m u q → ⊥) → GoesTo m u q []
  one-page : Asked m u q → (InnerAsked m u q → ⊥) → GoesTo m u q (visit m u.maps (job u q).core.ktcs.um (page_of q.addr))
  two-pages :
      InnerAsked m u q
      → GoesTo m u q (visit m u.maps (job u q).core.ktcs.um (page_of q.addr) ++ visit m u.maps true (page_of (window_addr (job u q))))

abbrev pub GoesBySteps : Type 0
GoesBySteps = (m : Memory) (u : Unit) (q : Access) → GoesTo m u q (deed_of m u (Call.Access q)).visits

-- "no call reaches the scratchpad words or the replacement register": told by the physical address that comes back with answers 0 and 8. A
-- scratchpad word that the unit has is reached by any operation, KTMR by those that read; a store into KTMR does nothing, and the premise does without it.
abbrev pub target_in_cells : ℕ → Target → Bool
target_in_cells op Target.Memory = false
target_in_cells op (Target.In (Register.Operating g)) = false
target_in_cells op (Target.In (Register.Associative Associative.Ktmr)) = ltb op 2
target_in_cells op (Target.In (Register.Associative (Associative.Pad i))) = true

abbrev pub place_in_cells : ℕ → Place → Bool
place_in_cells op (Place.There t) = target_in_cells op t
place_in_cells op Place.Window = false
place_in_cells op Place.Nowhere = false

abbrev pub place_at : Memory → Size → Option ℕ → Place
place_at m s (Some at) = place_of s (length m) at
place_at m s None = Place.Nowhere

abbrev pub ReachesByAnswer : Type 0
ReachesByAnswer =
    (m : Memory) (u : Unit) (q : Access)
    → (deed_of m u (Call.Access q)).reaches ≡ place_in_cells q.op (place_at m u.cells.size (shown (call_of m u (Call.Access q)).reply.answer).physical)

-- An interrupt, a trap and INIT go to no page and reach nothing.
pub record OtherCallsIdle (m : Memory) (u : Unit) : Type 0 where
  pub interrupt_visits : (deed_of m u Call.Interrupt).visits ≡ []
  pub interrupt_reaches : (deed_of m u Call.Interrupt).reaches ≡ false
  pub trap_visits : (v : ℕ) → (deed_of m u (Call.Trap v)).visits ≡ []
  pub trap_reaches : (v : ℕ) → (deed_of m u (Call.Trap v)).reaches ≡ false
  pub init_visits : (deed_of m u Call.Init).visits ≡ []
  pub init_reaches : (deed_of m u Call.Init).reaches ≡ false

abbrev pub OthersGoNowhere : Type 0
OthersGoNowhere = (m : Memory) (u : Unit) → OtherCallsIdle m u

-- A store that is done, whose physical address is that of this target. (That a call is answered so is demand 1's matter.)
pub record StoreDone (m : Memory) (u : Unit) (q : Access) (at : ℕ) (t : Target) : Type 0 where
  pub answer : (call_of m u (Call.Access q)).reply.answer ≡ Answer.Done 0 at
  pub operation : 1 < q.op
  pub place : place_of u.cells.size (length m) at ≡ Place.There t

-- "It is forgotten by INIT, a KTUM or KTEM store, or any of answers 4 to 9 with it as the page at fault.", and by 10: "State changes are as for 9"
-- (T-01). `AtFault` of Ways.antt says of each such answer which page is at fault, and an unpaged 9 has none
pub data Forgets (m : Memory) (u : Unit) (tag : ℕ) : Call → Type 0 where
  by_init : Forgets m u tag Call.Init
  by_ktum_store : {q : Access} {at : ℕ} → StoreDone m u q at (operating Operating.Ktum) → Forgets m u tag (Call.Access q)
  by_ktem_store : {q : Access} {at : ℕ} → StoreDone m u q at (operating Operating.Ktem) → Forgets m u tag (Call.Access q)
  by_fault : {q : Access} {f : Fault} {window : Bool} {k : Cells} → AtFault m u q f window tag k → Forgets m u tag (Call.Access q)

-- What a call makes of a page, from what is known of it once the call has gone to its pages: it is forgotten, or stored into, or stays as it is
-- known, which is where the call neither forgets it nor stores into memory.
pub data Becomes (m : Memory) (u : Unit) (tag : ℕ) (known : Use) : Call → Use → Type 0 where
  forgotten : {c : Call} → Forgets m u tag c → Becomes m u tag known c unused
  stored-into : {q : Access} {at : ℕ} → StoreDone m u q at Target.Memory → Becomes m u tag known (Call.Access q) (struck at known)
  stays :
      {c : Call} → (Forgets m u tag c → ⊥) → ((q : Access) (at : ℕ) → c ≡ Call.Access q → StoreDone m u q at Target.Memory → ⊥)
      → Becomes m u tag known c known

-- So the history of specs/Runs.antt, which goes by what a call does, goes by what it is answered, in 01's words.
abbrev pub HistoryByAnswers : Type 0
HistoryByAnswers =
    (m : Memory) (u : Unit) (h : History) (c : Call) (tag : ℕ)
    → Becomes m u tag (in_use_after h (deed_of m u c).visits tag) c (heard h (deed_of m u c) tag)
