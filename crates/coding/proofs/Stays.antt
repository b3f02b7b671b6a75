-- A unit stays a unit: no call of the rules makes words that hold a unit into words that are refused.
use Prim.Native.Nat.{ℕ, ◌+◌, ◌<◌}
use mathlib.Core.Path.{◌≡◌, refl}
use mathlib.Core.Bool.{Bool, true, false, ◌||◌}
use mathlib.Core.List.{List, [], ◌∷◌}
use native.Mathlib.Omega.{arith}
use lib.Dec.{eqb}
use lib.ListN.{get_or}
use borrow.Author.Tests.{eq-eqb, lt-ltb, le-leb}
use Rattle.rules.specs.declared.Wait.{Wait}
use Rattle.rules.specs.declared.Size.{Size}
use Rattle.std.specs.Prelude.{Some}
use Rattle.rules.specs.declared.Unit.{Unit}
use Rattle.rules.specs.declared.Call.{Call}
use Rattle.rules.specs.Memory.{Memory}
use Rattle.rules.specs.Unit.{count_of, size_of, room}
use Rattle.rules.specs.Calls.{call_of, fresh}
use Rattle.rules.proofs.Laws.StatusLaws.{packed-zeros}
use Rattle.rules.proofs.Laws.CellsLaws.{all_there}
use Rattle.rules.proofs.Promises.{UnitFit}
use Rattle.rules.proofs.Demand3.Wellformed.{fresh-fit}
use Rattle.rules.proofs.Demand3.Ranges.{InRange, call_in_range}
use Rattle.coding.specs.Coding.{count_place, last_word, wait_number, flag_number, is_unit, core_of, list_of, cells_of, decoded, core_words, cells_words, coded}
use Rattle.coding.proofs.Cells.{length_cells, behind_cells}
use Rattle.coding.proofs.Laws.{UnitWords, unit-words, size-there, size-made}

wait_small : (w : Wait) → wait_number w < 4
unfolding wait_number
wait_small Wait.Nothing = omega arith
wait_small Wait.StatusDue = omega arith
wait_small Wait.ProgramCounterDue = omega arith
wait_small Wait.SecondReadDue = omega arith

flag_small : (b : Bool) → flag_number b < 2
unfolding flag_number
flag_small true = omega arith
flag_small false = omega arith

one_of_two : (s : Size) → (eqb (count_of s) 8 || eqb (count_of s) 24) ≡ true
unfolding count_of
one_of_two Size.Eight = refl
one_of_two Size.TwentyFour = refl

-- a unit whose counts and counter are in their ranges is not refused for its words
pub range_is_unit : {n : ℕ} (u : Unit) → InRange n u → is_unit (coded u) ≡ true
unfolding is_unit coded core_words cells_words
range_is_unit {n} u h =
    let datos : u.core.fetch.datos < 3 = omega (arith, h.counts.datos) in
    let below : u.cells.counter < 0o10 + count_of u.cells.size = rw h.cells.size h.cells.below in
    let accesses : u.core.fetch.accesses < 3 = omega (arith, h.counts.accesses) in
    let last = behind_cells room 0 u.cells.list (last_word ∷ []) h.cells.listed in
    simp (last, size-there u.cells.size, one_of_two u.cells.size, eq-eqb _ 0 (packed-zeros u.core.ktcs), lt-ltb _ 4 (wait_small u.core.wait), lt-ltb _ 3 datos, lt-ltb _ 3 accesses, lt-ltb _ 2 (flag_small u.core.fetch.public), le-leb _ _ h.cells.from, lt-ltb _ _ below)

-- UnitFit holds of a fresh unit and after every call (`fresh-fit` and `call-fit` of the rules).
pub fit_is_unit : {n : ℕ} (u : Unit) → UnitFit n u → is_unit (coded u) ≡ true
fit_is_unit u h =
    range_is_unit u
    (record {
      counts = record { datos = omega (arith, h.core.datos, h.core.accesses); accesses = h.core.accesses };
      cells = h.cells.names;
    })

-- so what making puts into the words is a unit, of either size
pub fresh_is_unit : (s : Size) → is_unit (coded (fresh s)) ≡ true
fresh_is_unit s = fit_is_unit (fresh s) (fresh-fit s)

-- words that hold a unit have those ranges, whoever wrote them
pub decoded_in_range : (w : List ℕ) → is_unit w ≡ true → InRange (count_of (decoded w).cells.size) (decoded w)
unfolding decoded core_of cells_of list_of
decoded_in_range w is =
    let h : UnitWords w = unit-words w is in
    record {
      counts = record { datos = omega (arith, h.datos); accesses = omega (arith, h.accesses) };
      cells =
          record {
            size = refl;
            number = all_there (decoded w).cells (length_cells room _ _);
            listed = length_cells room _ _;
            from = h.from;
            below = h.below;
          };
    }

-- so words that hold a unit hold one after every call
pub unit-stays : (m : Memory) (w : List ℕ) (c : Call) → is_unit w ≡ true → is_unit (coded (call_of m (decoded w) c).reply.unit) ≡ true
unit-stays m w c is =
    range_is_unit _ (call_in_range m (decoded w) c (decoded_in_range w is))

-- and whoever wrote words that hold a unit, it is one of the size that is made with the number in them
pub unit-made : (w : List ℕ) → is_unit w ≡ true → size_of (get_or w count_place 0) ≡ Some (decoded w).cells.size
unfolding decoded cells_of
unit-made w is = size-made (get_or w count_place 0) (unit-words w is).count
