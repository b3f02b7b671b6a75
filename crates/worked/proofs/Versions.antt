-- The three faults that shipped, and an error that looks right, as rules that differ from 01's in what a call leaves in the cells, and a computed
-- run that tells each apart.
use Prim.Native.Nat.{ℕ, ◌+◌}
use native.Mathlib.Omega.{arith}
use mathlib.Core.Path.{◌≡◌, refl, ap}
use mathlib.Core.Bool.{true}
use mathlib.Core.List.{List, [], ◌∷◌, ◌++◌, map}
use lib.Dec.{eqb}
use lib.ListN.{replicate}
use Rattle.rules.specs.declared.Maps.{Maps}
use Rattle.rules.specs.declared.Cells.{Cells}
use Rattle.rules.specs.declared.Unit.{Unit}
use Rattle.rules.specs.declared.Call.{Call}
use Rattle.rules.specs.declared.Effect.{Effect}
use Rattle.rules.specs.declared.Ran.{Ran}
use Rattle.rules.specs.Choice.{pick}
use Rattle.rules.specs.Memory.{Memory, store_word}
use Rattle.rules.specs.Unit.{emptied}
use Rattle.rules.specs.Program.{run}
use Rattle.rules.specs.Calls.{After, called, maps_after, cells_after, memory_after, settled, call_of}
use Rattle.rules.specs.Runs.{Seen, seen_in, seen_along, none_in_use, meets}
use Rattle.worked.proofs.Opened.{opened}
use Rattle.worked.proofs.Units.{eight}
use Rattle.worked.proofs.Worked.{A}
use Rattle.worked.proofs.Premises.{told_by, ans, stored, W, memory, paging_on, read_page, move_page, sum_of}

-- what a version leaves in the cells: by the call, the map registers before it, its effect, and the cells after its look-ups
abbrev pub Version : Type 0
Version = Call → Maps → Effect → Cells → Cells

-- 01's rules
abbrev pub by_the_rules : Version
by_the_rules c r e k = cells_after e k

-- version one: cells kept on a store that changes KTUM
abbrev pub one : Version
one c r e k = pick (eqb (maps_after e r).ktum r.ktum) (cells_after e k) k

-- its twin: cells kept on a store that changes KTEM
abbrev pub twin : Version
twin c r e k = pick (eqb (maps_after e r).ktem r.ktem) (cells_after e k) k

-- an error that looks right: a byte store leaves the cells
abbrev pub words_only : Version
words_only (Call.Access q) r e k = pick (eqb q.op 3) k (cells_after e k)
words_only Call.Interrupt r e k = cells_after e k
words_only (Call.Trap v) r e k = cells_after e k
words_only Call.Init r e k = cells_after e k

-- version two: cells emptied on every access, and the counter with them
abbrev pub two : Version
two c r e k = emptied k

-- version three: the cell of the page at fault kept
abbrev pub three : Version
three c r Effect.Keep k = cells_after Effect.Keep k
three c r (Effect.Forget tag) k = k
three c r (Effect.Reload r₁) k = cells_after (Effect.Reload r₁) k
three c r (Effect.StoreWord at v) k = cells_after (Effect.StoreWord at v) k
three c r (Effect.StoreByte at v) k = cells_after (Effect.StoreByte at v) k
three c r (Effect.StorePad i p v) k = cells_after (Effect.StorePad i p v) k

-- a call by a version, and what is seen along a run of calls
abbrev pub settled_by : (Maps → Effect → Cells → Cells) → Memory → Maps → Ran → After
settled_by f m r d =
    record {
      reply =
          record {
            answer = d.outcome.answer;
            unit = record { core = d.outcome.core; maps = maps_after d.outcome.effect r; cells = f r d.outcome.effect d.cells };
          };
      memory = memory_after d.outcome.effect m;
    }

abbrev pub call_by : Version → Memory → Unit → Call → After
call_by f m u c = settled_by (f c) m u.maps (run m u.maps (called m u.cells.size u.core u.maps c) u.cells)

abbrev pub seen_by : Version → Memory → Unit → List Call → List Seen
seen_by f m u [] = []
seen_by f m u (c ∷ cs) = seen_in (call_by f m u c) ∷ seen_by f (call_by f m u c).memory (call_by f m u c).reply.unit cs

-- 01's rules are a version like these
pub rules_are_a_version : (m : Memory) (u : Unit) (cs : List Call) → seen_by by_the_rules m u cs ≡ seen_along m u cs
unfolding seen_along call_of settled
rules_are_a_version m u [] = refl
rules_are_a_version m u (c ∷ cs) = ap (λ (l : List Seen). seen_in (call_of m u c) ∷ l) (rules_are_a_version (call_of m u c).memory (call_of m u c).reply.unit cs)

-- Version one ------------------------------------------------------------------------------------------------------------------

-- Six pages. Pages 2 and 3 are maps, of which a half is used: page 1 is physical page 4 by the former and 5 by the latter, and the last page is
-- the registers' by both. Page 4 begins with 111o and page 5 with 222o.
abbrev pub two_maps : ℕ → Memory
two_maps half =
    stored
    (W (0o002002 + half) 0o160004 ∷ W (0o002376 + half) 0o160777 ∷ W (0o003002 + half) 0o160005 ∷ W (0o003376 + half) 0o160777 ∷ W 0o004000 0o111 ∷ W 0o005000 0o222 ∷ [])
    (replicate 3072 0)

-- Only the exec's page 0 is simple, so that its other pages go by KTUM, and by the lower half of its map: KTEM 000001, KTUM 000002 and FCN 2.
-- Page 1 is read, KTUM takes 000003, and page 1 is read again.
abbrev pub ktum_changed : List Call
ktum_changed =
    A 2 1 0 0o177616 0o000001 ∷ A 2 1 0 0o177614 0o000002 ∷ A 2 1 0 0o177576 2 ∷ read_page 1 ∷ A 2 1 0 0o177614 0o000003 ∷ read_page 1 ∷ []

-- All of the exec's pages are simple, by the upper half: KTEM 177002 and FCN 2. Page 1 is read, KTEM takes 177003, and page 1 is read again.
abbrev pub ktem_changed : List Call
ktem_changed = A 2 1 0 0o177616 0o177002 ∷ A 2 1 0 0o177576 2 ∷ read_page 1 ∷ A 2 1 0 0o177616 0o177003 ∷ read_page 1 ∷ []

pub record OneDiffers : Type 0 where
  pub met : meets (two_maps 0) eight none_in_use ktum_changed ≡ true
  pub rules : map told_by (seen_along (two_maps 0) eight ktum_changed) ≡ ans 0 0 ∷ ans 0 0 ∷ ans 0 0 ∷ ans 0 0o111 ∷ ans 0 0 ∷ ans 0 0o222 ∷ []
  pub version : map told_by (seen_by one (two_maps 0) eight ktum_changed) ≡ ans 0 0 ∷ ans 0 0 ∷ ans 0 0 ∷ ans 0 0o111 ∷ ans 0 0 ∷ ans 0 0o111 ∷ []
  pub differs : seen_by one (two_maps 0) eight ktum_changed ≡ seen_along (two_maps 0) eight ktum_changed → ⊥
  pub twin-met : meets (two_maps 0o400) eight none_in_use ktem_changed ≡ true
  pub twin-rules : map told_by (seen_along (two_maps 0o400) eight ktem_changed) ≡ ans 0 0 ∷ ans 0 0 ∷ ans 0 0o111 ∷ ans 0 0 ∷ ans 0 0o222 ∷ []
  pub twin-version : map told_by (seen_by twin (two_maps 0o400) eight ktem_changed) ≡ ans 0 0 ∷ ans 0 0 ∷ ans 0 0o111 ∷ ans 0 0 ∷ ans 0 0o111 ∷ []
  pub twin-differs : seen_by twin (two_maps 0o400) eight ktem_changed ≡ seen_along (two_maps 0o400) eight ktem_changed → ⊥

pub one-differs : OneDiffers
unfolding opened
one-differs =
    record {
      met = refl;
      rules = refl;
      version = refl;
      differs = λ e. omega (arith, ap (λ (l : List Seen). sum_of (map told_by l)) e);
      twin-met = refl;
      twin-rules = refl;
      twin-version = refl;
      twin-differs = λ e. omega (arith, ap (λ (l : List Seen). sum_of (map told_by l)) e);
    }

-- "or only on word stores" --------------------------------------------------------------------------------------------------------

-- as the run of KTUM above, but its low byte takes 003
abbrev pub byte_changed : List Call
byte_changed =
    A 2 1 0 0o177616 0o000001 ∷ A 2 1 0 0o177614 0o000002 ∷ A 2 1 0 0o177576 2 ∷ read_page 1 ∷ A 3 1 1 0o177614 0o000003 ∷ read_page 1 ∷ []

pub record WordsOnlyDiffers : Type 0 where
  pub met : meets (two_maps 0) eight none_in_use byte_changed ≡ true
  pub rules : map told_by (seen_along (two_maps 0) eight byte_changed) ≡ ans 0 0 ∷ ans 0 0 ∷ ans 0 0 ∷ ans 0 0o111 ∷ ans 0 0 ∷ ans 0 0o222 ∷ []
  pub version : map told_by (seen_by words_only (two_maps 0) eight byte_changed) ≡ ans 0 0 ∷ ans 0 0 ∷ ans 0 0 ∷ ans 0 0o111 ∷ ans 0 0 ∷ ans 0 0o111 ∷ []
  pub differs : seen_by words_only (two_maps 0) eight byte_changed ≡ seen_along (two_maps 0) eight byte_changed → ⊥

pub words_only_differs : WordsOnlyDiffers
unfolding opened
words_only_differs = record { met = refl; rules = refl; version = refl; differs = λ e. omega (arith, ap (λ (l : List Seen). sum_of (map told_by l)) e) }

-- Version two ------------------------------------------------------------------------------------------------------------------

-- Two pages are read, and then KTMR, by the last page: three walks, so that the counter is 13o, and KTMR reads it times 256.
abbrev pub counter_read : List Call
counter_read = paging_on ++ (read_page 1 ∷ read_page 2 ∷ A 0 1 0 0o177574 0 ∷ [])

pub record TwoDiffers : Type 0 where
  pub rules : map told_by (seen_along memory eight counter_read) ≡ ans 0 0 ∷ ans 0 0 ∷ ans 0 0o111 ∷ ans 0 0o111 ∷ ans 0 0o005400 ∷ []
  pub version : map told_by (seen_by two memory eight counter_read) ≡ ans 0 0 ∷ ans 0 0 ∷ ans 0 0o111 ∷ ans 0 0o111 ∷ ans 0 0o004400 ∷ []
  pub differs : seen_by two memory eight counter_read ≡ seen_along memory eight counter_read → ⊥

pub two-differs : TwoDiffers
unfolding opened
two-differs = record { rules = refl; version = refl; differs = λ e. omega (arith, ap (λ (l : List Seen). sum_of (map told_by l)) e) }

-- Version three ----------------------------------------------------------------------------------------------------------------

-- as in Premises.antt, with page 1 not resident
abbrev pub absent : Memory
absent = store_word memory 0o001402 0o020002

-- Page 1 is read: answer 5. The two SERVICE stores follow, the exec brings the page in, and the read is made again.
abbrev pub brought_in : List Call
brought_in = paging_on ++ (read_page 1 ∷ A 2 4 0 0 0 ∷ A 2 4 0 0 0 ∷ move_page 1 ∷ read_page 1 ∷ [])

pub record ThreeDiffers : Type 0 where
  pub met : meets absent eight none_in_use brought_in ≡ true
  pub rules : map told_by (seen_along absent eight brought_in) ≡ ans 0 0 ∷ ans 0 0 ∷ ans 5 0 ∷ ans 0 0 ∷ ans 0 0 ∷ ans 0 0 ∷ ans 0 0o222 ∷ []
  pub version : map told_by (seen_by three absent eight brought_in) ≡ ans 0 0 ∷ ans 0 0 ∷ ans 5 0 ∷ ans 0 0 ∷ ans 0 0 ∷ ans 0 0 ∷ ans 5 0 ∷ []
  pub differs : seen_by three absent eight brought_in ≡ seen_along absent eight brought_in → ⊥

pub three-differs : ThreeDiffers
unfolding opened
three-differs = record { met = refl; rules = refl; version = refl; differs = λ e. omega (arith, ap (λ (l : List Seen). sum_of (map told_by l)) e) }
