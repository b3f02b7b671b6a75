-- What the 24-cell option says in numbers (T-08), beside what 8 cells say, a row each of one table, computed from the definitions.
use Prim.Native.Nat.{ℕ}
use mathlib.Core.Path.{◌≡◌, refl}
use mathlib.Core.List.{List, [], ◌∷◌, ◌++◌, map}
use lib.ListN.{drop, replicate}
use Rattle.rules.specs.declared.Size.{Size}
use Rattle.rules.specs.declared.Cells.{Cells}
use Rattle.rules.specs.declared.Unit.{Unit}
use Rattle.rules.specs.declared.Associative.{Associative}
use Rattle.rules.specs.declared.Register.{Register}
use Rattle.rules.specs.declared.Target.{Target}
use Rattle.rules.specs.declared.Place.{Place}
use Rattle.rules.specs.Memory.{Memory}
use Rattle.rules.specs.Unit.{count_of, there}
use Rattle.rules.specs.Registers.{place_of, peeked}
use Rattle.rules.specs.Maps.{tag_in, stepped}
use Rattle.rules.specs.Runs.{seen_along}
use Rattle.worked.proofs.Opened.{opened}
use Rattle.worked.proofs.Units.{eight, twenty_four}
use Rattle.worked.proofs.Starred.{looked_for}
use Rattle.worked.proofs.Worked.{A}
use Rattle.worked.proofs.Premises.{Told, told_by, ans, stored, W, nine_by_execute}

-- one page more than there are cells
abbrev pub pages1to25 : List ℕ
pages1to25 =
    1 ∷ 2 ∷ 3 ∷ 4 ∷ 5 ∷ 6 ∷ 7 ∷ 8 ∷ 9 ∷ 10 ∷ 11 ∷ 12 ∷ 13 ∷ 14 ∷ 15 ∷ 16 ∷ 17 ∷ 18 ∷ 19 ∷ 20 ∷ 21 ∷ 22 ∷ 23 ∷ 24 ∷ 25 ∷ []

-- the scratchpad word of a cell
abbrev pub pad_word : ℕ → Place
pad_word i = Place.There (Target.In (Register.Associative (Associative.Pad i)))

-- Three pages of memory. The exec's map is page 1: its pages 1 to 9 are physical page 2, with words that differ in the bits 12-9, which are ignored.
abbrev pub memory : Memory
memory =
    stored
    (W 0o001402 0o161002 ∷ W 0o001404 0o162002 ∷ W 0o001406 0o163002 ∷ W 0o001410 0o164002 ∷ W 0o001412 0o165002
    ∷ W 0o001414 0o166002 ∷ W 0o001416 0o167002 ∷ W 0o001420 0o170002 ∷ W 0o001422 0o171002 ∷ [])
    (replicate 1536 0)

-- pages 1 to 9 read by EXECUTE, and then, by SOURCE, unpaged, KTMR and the words at 777620o, 777640o and 777676o
abbrev pub pads_read : Unit → List Told
pads_read u =
    drop 11
    (map told_by
    (seen_along memory u
    (nine_by_execute ++ (A 0 1 0 0o177574 0 ∷ A 0 1 0 0o177620 0 ∷ A 0 1 0 0o177640 0 ∷ A 0 1 0 0o177676 0 ∷ []))))

pub record WithTwentyFour : Type 0 where
  -- "10o to 37o and round with 24"
  pub counter_round : stepped (count_of Size.TwentyFour) 0o37 ≡ 0o10
  pub counter_on : stepped (count_of Size.TwentyFour) 0o17 ≡ 0o20
  -- the twenty-fifth walk refills the first cell
  pub twenty_fifth_refills :
      map tag_in (there (looked_for pages1to25 twenty_four.cells))
      ≡ 25 ∷ 2 ∷ 3 ∷ 4 ∷ 5 ∷ 6 ∷ 7 ∷ 8 ∷ 9 ∷ 10 ∷ 11 ∷ 12 ∷ 13 ∷ 14 ∷ 15 ∷ 16 ∷ 17 ∷ 18 ∷ 19 ∷ 20 ∷ 21 ∷ 22 ∷ 23 ∷ 24 ∷ []
  -- "KTMR reads the counter times 256: .. 004000 to 017400 with 24"
  pub ktmr_first : peeked twenty_four.cells Associative.Ktmr ≡ 0o004000
  pub ktmr_last : (k : Cells) → peeked (record { size = k.size; list = k.list; counter = 0o37 }) Associative.Ktmr ≡ 0o017400
  -- the ninth page stands in cell 8 of 24, which reads at 777640o, and in cell 0 of 8
  pub pads_of_24 : pads_read twenty_four ≡ ans 0 0o010400 ∷ ans 0 0o161002 ∷ ans 0 0o171002 ∷ ans 0 0 ∷ []
  pub pads_of_8 : pads_read eight ≡ ans 0 0o004400 ∷ ans 0 0o171002 ∷ ans 9 0 ∷ ans 9 0 ∷ []
  -- "at 777620o to 777676o with 24; both bytes of each word belong to it"
  pub last_word : place_of Size.TwentyFour 0 0o777676 ≡ pad_word 23
  pub last_byte : place_of Size.TwentyFour 0 0o777677 ≡ pad_word 23
  pub ninth_word : place_of Size.TwentyFour 0 0o777640 ≡ pad_word 8
  -- "777700o on is nowhere for both"
  pub past_them : place_of Size.TwentyFour 0 0o777700 ≡ Place.Nowhere
  -- "777620o to 777636o with 8 cells"; "777640o to 777677o are .. nowhere for an 8-cell one"
  pub eighth_of_eight : place_of Size.Eight 0 0o777636 ≡ pad_word 7
  pub past_eight : place_of Size.Eight 0 0o777640 ≡ Place.Nowhere
  pub past_both : place_of Size.Eight 0 0o777700 ≡ Place.Nowhere

pub with_twenty_four : WithTwentyFour
unfolding opened
with_twenty_four =
    record {
      counter_round = refl;
      counter_on = refl;
      twenty_fifth_refills = refl;
      ktmr_first = refl;
      ktmr_last = λ k. refl;
      pads_of_24 = refl;
      pads_of_8 = refl;
      last_word = refl;
      last_byte = refl;
      ninth_word = refl;
      past_them = refl;
      eighth_of_eight = refl;
      past_eight = refl;
      past_both = refl;
    }
