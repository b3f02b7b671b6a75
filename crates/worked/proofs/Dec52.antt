-- DEC's maintenance steps, source 5.2 f to i: which word each step's walk reads, for every memory, computed once from the definitions. Where a step
-- names one map register, the row holds whatever the other one is.
use Prim.Native.Nat.{ℕ}
use mathlib.Core.Path.{◌≡◌, refl}
use mathlib.Core.Bool.{true, false}
use Rattle.rules.specs.declared.Maps.{Maps}
use Rattle.rules.specs.Memory.{Memory}
use Rattle.rules.specs.Maps.{pointed_at, word_walk, pointer_walk, walk_of}
use Rattle.worked.proofs.Opened.{opened}

-- the two map registers, KTEM first as in 5.2 g
abbrev pub maps_of : ℕ → ℕ → Maps
maps_of ktem ktum = record { ktum = ktum; ktem = ktem }

pub record Dec52 : Type 0 where
  -- f, "Exec Simple", KTEM 177001: exec page 1, and the last
  pub exec_simple_1 : (m : Memory) (ktum : ℕ) → walk_of m (maps_of 0o177001 ktum) false 1 ≡ word_walk m 0o001402
  pub exec_simple_127 : (m : Memory) (ktum : ℕ) → walk_of m (maps_of 0o177001 ktum) false 127 ≡ word_walk m 0o001776
  -- g, "Exec Per Process", KTEM 000001 and KTUM 000001
  pub exec_per_process_1 : (m : Memory) → walk_of m (maps_of 0o000001 0o000001) false 1 ≡ word_walk m 0o001002
  pub exec_per_process_127 : (m : Memory) → walk_of m (maps_of 0o000001 0o000001) false 127 ≡ word_walk m 0o001376
  -- h, "Shared User", KTUM 000005: "Examine page zero; you should be in user simple mode. Examine page one; you should be in shared user mode."
  pub user_simple_0 : (m : Memory) (ktem : ℕ) → walk_of m (maps_of ktem 0o000005) true 0 ≡ word_walk m 0o005400
  pub user_shared_1 : (m : Memory) (ktem : ℕ) → walk_of m (maps_of ktem 0o000005) true 1 ≡ pointer_walk m 0o005402
  pub user_shared_127 : (m : Memory) (ktem : ℕ) → walk_of m (maps_of ktem 0o000005) true 127 ≡ pointer_walk m 0o005776
  -- the pointers of its map, 1001 and 177001
  pub pointer_1 : pointed_at 0o001001 ≡ 0o001402
  pub pointer_127 : pointed_at 0o177001 ≡ 0o001776
  -- i, "Start User", KTUM 177001: the last page
  pub user_simple_127 : (m : Memory) (ktem : ℕ) → walk_of m (maps_of ktem 0o177001) true 127 ≡ word_walk m 0o001776

pub dec52 : Dec52
unfolding opened
dec52 =
    record {
      exec_simple_1 = λ m ktum. refl;
      exec_simple_127 = λ m ktum. refl;
      exec_per_process_1 = λ m. refl;
      exec_per_process_127 = λ m. refl;
      user_simple_0 = λ m ktem. refl;
      user_shared_1 = λ m ktem. refl;
      user_shared_127 = λ m ktem. refl;
      pointer_1 = refl;
      pointer_127 = refl;
      user_simple_127 = λ m ktem. refl;
    }
