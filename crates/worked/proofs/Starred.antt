-- The numbers that document 01 marks *, those at the boundary as T-02 changes them ("with N=4, page 4 is simple and page 5 is the first beyond"), a row each
-- of one table, proved once of the definitions by computation.
use Prim.Native.Nat.{ℕ}
use mathlib.Core.Path.{◌≡◌, refl}
use mathlib.Core.Bool.{true, false}
use mathlib.Core.List.{List, [], ◌∷◌, map}
use lib.ListN.{replicate}
use Rattle.rules.specs.declared.Maps.{Maps}
use Rattle.rules.specs.declared.Size.{Size}
use Rattle.rules.specs.declared.Cells.{Cells}
use Rattle.rules.specs.declared.Access.{Access}
use Rattle.rules.specs.declared.Call.{Call}
use Rattle.rules.specs.declared.Entry.{Entry}
use Rattle.rules.specs.declared.Answer.{Answer}
use Rattle.rules.specs.Memory.{Memory}
use Rattle.rules.specs.Unit.{count_of, there}
use Rattle.rules.specs.Maps.{unpaged_at, page_of, physical_at, high7, pointed_at, word_walk, pointer_walk, walk_of, walked, entry_of, looked, stepped, tag_in}
use Rattle.rules.specs.Answers.{shown}
use Rattle.rules.specs.Calls.{call_of}
use Rattle.worked.proofs.Opened.{opened}
use Rattle.worked.proofs.Units.{eight}

-- the fresh unit's answer to an access, which is unpaged
abbrev pub answer_to : Memory → Access → Answer
answer_to m q = (call_of m eight (Call.Access q)).reply.answer

-- the number of its answer to a word DATI in state SOURCE
abbrev pub number_at : Memory → ℕ → ℕ
number_at m a = (shown (answer_to m (record { op = 0; state = 1; width = 0; addr = a; datum = 0 }))).number

-- KTUM 004005o; KTEM with N=4, M=1
abbrev pub maps : Maps
maps = record { ktum = 0o004005; ktem = 0o004001 }

-- the cells after the exec's pages of a list were looked for, all of them simple, with KTEM's map page, the second page of this memory, all zero
abbrev pub looked_for : List ℕ → Cells → Cells
looked_for [] k = k
looked_for (p ∷ ps) k = looked_for ps (looked (replicate 1024 0) (record { ktum = 0; ktem = 0o177001 }) false p k).cells

pub record Starred : Type 0 where
  -- "KTUM 004005o (N=4)"
  pub n_of_ktum : high7 0o004005 ≡ 4
  -- "user page 3 word at 005406o"
  pub user_3 : (m : Memory) → walk_of m maps true 3 ≡ word_walk m 0o005406
  -- T-02: page 4 word at 005410o, where 01 had a pointer
  pub user_4 : (m : Memory) → walk_of m maps true 4 ≡ word_walk m 0o005410
  -- T-02: page 5 pointer at 005412o
  pub user_5 : (m : Memory) → walk_of m maps true 5 ≡ pointer_walk m 0o005412
  -- "pointer 003007o leads to 007406o"
  pub pointer : pointed_at 0o003007 ≡ 0o007406
  -- "KTEM N=4, M=1: exec page 3 at 001406o"
  pub n_of_ktem : high7 0o004001 ≡ 4
  pub exec_3 : (m : Memory) → walk_of m maps false 3 ≡ word_walk m 0o001406
  -- T-02: exec page 4 at 001410o, where 01 had 005010o by KTUM
  pub exec_4 : (m : Memory) → walk_of m maps false 4 ≡ word_walk m 0o001410
  -- T-02: exec page 5, with the KTUM above, at 005012o
  pub exec_5 : (m : Memory) → walk_of m maps false 5 ≡ word_walk m 0o005012
  -- "KTEM M=1: exec 000777o is 001777o"
  pub zero_page : (m : Memory) (k : Cells) → (looked m maps false (page_of 0o000777) k).entry ≡ Entry.ExecZero 1
  pub zero_byte : physical_at 1 0o000777 ≡ 0o001777
  -- "exec 001000o is walked"
  pub one-walked : (m : Memory) → walked m maps false (page_of 0o001000) ≡ entry_of (word_walk m 0o001402)
  -- "Unpaged byte DATI 157777o stays"
  pub stays : answer_to (replicate 65536 0) (record { op = 0; state = 1; width = 1; addr = 0o157777; datum = 0 }) ≡ Answer.Done 0 0o157777
  -- "160000o is 760000o"
  pub moves : unpaged_at 0o160000 ≡ 0o760000
  -- "L=0: unpaged 0 times out."
  pub nothing_there : number_at [] 0 ≡ 9
  -- "L=4: .. 4 times out."
  pub past_the_end : number_at (replicate 4 0) 4 ≡ 9
  -- "The counter after 17o is 10o: the ninth walk refills the first cell."
  pub counter_round : stepped (count_of Size.Eight) 0o17 ≡ 0o10
  pub ninth_refills :
      map tag_in (there (looked_for (1 ∷ 2 ∷ 3 ∷ 4 ∷ 5 ∷ 6 ∷ 7 ∷ 8 ∷ 9 ∷ []) eight.cells)) ≡ 9 ∷ 2 ∷ 3 ∷ 4 ∷ 5 ∷ 6 ∷ 7 ∷ 8 ∷ []

pub starred : Starred
unfolding opened
starred =
    record {
      n_of_ktum = refl;
      user_3 = λ m. refl;
      user_4 = λ m. refl;
      user_5 = λ m. refl;
      pointer = refl;
      n_of_ktem = refl;
      exec_3 = λ m. refl;
      exec_4 = λ m. refl;
      exec_5 = λ m. refl;
      zero_page = λ m k. refl;
      zero_byte = refl;
      one-walked = λ m. refl;
      stays = refl;
      moves = refl;
      nothing_there = refl;
      past_the_end = refl;
      counter_round = refl;
      ninth_refills = refl;
    }
