-- What the host has, in numbers: demand 3's equality, which follows from `SameAsPlain`, and where the registers and the scratchpad words stand.
use Prim.Native.Nat.{ℕ, ◌+◌, ◌*◌, ◌≤◌, ◌<◌}
use mathlib.Core.Path.{◌≡◌, refl, ap}
use mathlib.Core.Bool.{true, false}
use mathlib.Core.List.{List, [], ◌∷◌, map}
use native.Mathlib.Omega.{arith}
use lib.Dec.{ltb}
use lib.ListN.{get_or}
use Rattle.rules.specs.Types.{Core, Maps, Size, Call, Operating, Associative, Register, Target, Place, Returned}
use Rattle.rules.specs.Choice.{pick}
use Rattle.rules.specs.Memory.{Memory, good_length, even_of}
use Rattle.rules.specs.Unit.{count_of}
use Rattle.rules.specs.Status.{packed}
use Rattle.rules.specs.Registers.{found_from, words_from, registers, register_of, place_in, place_found, place_of, operating_word}
use Rattle.rules.specs.Registers.{ktic, ktsp, ktpc, ktps, ktad, ktdt}
use Rattle.rules.specs.Calls.{fresh}
use Rattle.rules.specs.Answers.{shown}
use Rattle.rules.specs.Runs.{Seen, seen_along, plain_of, plain_along, none_in_use, meets}
use Rattle.rules.proofs.Laws.PlaceLaws.{beyond_memory, pad_place, past_the_pads}
use Rattle.rules.proofs.Demand3.SameRun.{same_as_plain}

-- demand 3's "operating register (KTCS and 777600o-777616o)"
abbrev pub operating_registers : List Operating
operating_registers =
    Operating.Ktcs ∷ Operating.Kept ktic ∷ Operating.Kept ktsp ∷ Operating.Kept ktpc ∷ Operating.Kept ktps ∷ Operating.Kept ktad
    ∷ Operating.Kept ktdt ∷ Operating.Ktum ∷ Operating.Ktem ∷ []

-- What the host has after a call: the answer's number, data and physical address by 01's table and T-01 (`shown` of specs/Answers.antt), the words of
-- KTCS, KTIC, KTSP, KTPC, KTPS, KTAD, KTDT, KTUM and KTEM, and memory.
pub record HostHas : Type 0 where
  pub answer : Returned
  pub registers : List ℕ
  pub memory : Memory

abbrev pub host_has : Seen → HostHas
host_has s =
    record {
      answer = shown s.answer;
      registers = map (operating_word s.core s.maps) operating_registers;
      memory = s.memory;
    }

-- After each call of a run that meets the premises the host has, number for number, what the unit with no cells would have given it.
abbrev pub SameToTheHost : Type 0
SameToTheHost =
    (s : Size) (m : Memory) (cs : List Call) → meets m (fresh s) none_in_use cs ≡ true
    → map host_has (seen_along m (fresh s) cs) ≡ map host_has (plain_along m (plain_of (fresh s)) cs)

-- That those registers are what lies at 777576o and at 777600o to 777616o, for either size and every length that 01 allows, and the word of each.
pub record RegistersByAddress : Type 0 where
  pub places :
      (s : Size) (len : ℕ) → good_length len ≡ true
      → map (place_of s len) (words_from 0o777576 9) ≡ map (λ g. Place.There (Target.In (Register.Operating g))) operating_registers
  pub words :
      (c : Core) (r : Maps)
      → map (operating_word c r) operating_registers
      ≡ packed c.ktcs ∷ get_or c.kept ktic 0 ∷ get_or c.kept ktsp 0 ∷ get_or c.kept ktpc 0 ∷ get_or c.kept ktps 0
      ∷ get_or c.kept ktad 0 ∷ get_or c.kept ktdt 0 ∷ r.ktum ∷ r.ktem ∷ []

-- The scratchpad words of a unit: "Scratchpad words stand at 777620o to 777636o with 8 cells and at 777620o to 777676o with 24; both bytes of each
-- word belong to it." Past them is nowhere: "777640o to 777677o are registers of a 24-cell unit and nowhere for an 8-cell one. 777700o on is
-- nowhere for both." (T-08)
pub record PadsByAddress (s : Size) (len : ℕ) : Type 0 where
  pub words :
      (i : ℕ) → i < count_of s → place_of s len (0o777620 + 2 * i) ≡ Place.There (Target.In (Register.Associative (Associative.Pad i)))
  pub bytes :
      (i : ℕ) → i < count_of s → place_of s len (0o777621 + 2 * i) ≡ Place.There (Target.In (Register.Associative (Associative.Pad i)))
  pub past_them : (at : ℕ) → 0o777620 + 2 * count_of s ≤ at → place_of s len at ≡ Place.Nowhere

abbrev pub PadsStand : Type 0
PadsStand = (s : Size) (len : ℕ) → good_length len ≡ true → PadsByAddress s len

pub same_to_the_host : SameToTheHost
same_to_the_host s m cs e = ap (map host_has) (same_as_plain s m cs e)

module _ (len : ℕ) (good : good_length len ≡ true) where
  beyond : (at : ℕ) → 0o760000 ≤ at → ltb at len ≡ false
  beyond at h = beyond_memory len at good h

  places_so : (s : Size) → map (place_of s len) (words_from 0o777576 9) ≡ map (λ g. Place.There (Target.In (Register.Operating g))) operating_registers
  unfolding place_of place_found place_in register_of found_from words_from registers even_of pick
  places_so s =
      simp (beyond 0o777576 (omega arith), beyond 0o777600 (omega arith), beyond 0o777602 (omega arith), beyond 0o777604 (omega arith), beyond 0o777606 (omega arith), beyond 0o777610 (omega arith), beyond 0o777612 (omega arith), beyond 0o777614 (omega arith), beyond 0o777616 (omega arith))

pub registers_by_address : RegistersByAddress
unfolding operating_word
registers_by_address = record { places = λ s len good. places_so len good s; words = λ c r. refl }

pub pads_stand : PadsStand
unfolding even_of
pads_stand s len good =
    record {
      words = λ i b. pad_place s len good i (0o777620 + 2 * i) b (omega arith) (omega arith);
      bytes = λ i b. pad_place s len good i (0o777621 + 2 * i) b (omega arith) (omega arith);
      past_them = λ at h. past_the_pads s len good at (omega (arith, h)) (omega (arith, h));
    }
