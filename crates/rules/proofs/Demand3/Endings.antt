-- How every call ends, whatever its questions are answered: words go to even addresses, and the core stays as it must be.
use mathlib.Core.Path.{◌≡◌, refl}
use mathlib.Core.Bool.{Bool, true, false, not, ◌&&◌, ◌||◌}
use Prim.Native.Nat.{ℕ, ◌%◌, ◌<◌}
use native.Mathlib.Omega.{arith}
use lib.Dec.{eqb, ltb}
use lib.ListN.{length}
use borrow.Author.Tests.{eqb-true, eqb-false, eq-eqb, ltb-true, ltb-false, not-true}
use Rattle.std.specs.Prelude.{Result, Ok, Err}
use Rattle.rules.specs.Types.{Wait, Core, Maps, Size, Access, Call, Operating, Associative, Register, Target, Place, Part, Entry, Due, Fault, Answer, Effect, Outcome, Job}
use Rattle.rules.specs.Memory.{Memory, good_length}
use Rattle.rules.specs.Registers.{part_of}
use Rattle.rules.specs.Maps.{unpaged, unpaged_at, physical_at, low9}
use Rattle.rules.specs.Fetched.{is_fetch, noted, is_dato}
use Rattle.rules.specs.Steps.{listed, ill_fitting, well_shaped, service_dato, start_read, due_when, due_of, odd_word, forbidden}
use Rattle.rules.specs.Sequences.{vector_listed, idle}
use Rattle.rules.specs.Program.{Prog, done}
use Rattle.rules.specs.Order.{outcome, refused, faulted, outer_fault, Source, at-hand, in_cells, source_at, read_from, read_at, operating_effect, associative_effect, memory_effect, stored_in, stored_at, transferred, fetched, word_judged, unpaged_reached, unpaged_time_out, unpaged_target, unpaged_from, window_addr, inner_fault, inner_target, inner_ruled, windowed, paged_reached, outer_target, outer_ruled, paged_from, sequenced, after_wait, accessed}
use Rattle.rules.specs.Calls.{interrupt_of, trap_of, init_of, called}
use Rattle.rules.proofs.Laws.Choices.{both_true, both_false, second_false, picked}
use Rattle.rules.proofs.Laws.Pages.{page_of-below}
use Rattle.rules.proofs.Demand3.Always.{Always, ends, asks, peeks-at, EvenStore}
use Rattle.rules.proofs.Laws.CoreLaws
use Rattle.rules.proofs.Laws.CoreLaws.{Calm}
use Rattle.rules.proofs.Promises.{CoreFit}

-- an outcome of a call of a unit with this core
pub record Ending (c : Core) (o : Outcome) : Type 0 where
  pub even : EvenStore o.effect
  pub fits : CoreFit c → CoreFit o.core

-- an outcome with an effect that stores no word
module _ (c : Core) (a : Answer) (c₁ : Core) (h : CoreFit c → CoreFit c₁) where
  keeping_ends : Always (Ending c) (done (outcome a c₁ Effect.Keep))
  unfolding outcome
  keeping_ends = ends {o = outcome a c₁ Effect.Keep} (record { even = record {}; fits = h })

  forgetting-ends : (tag : ℕ) → Always (Ending c) (done (outcome a c₁ (Effect.Forget tag)))
  unfolding outcome
  forgetting-ends tag = ends {o = outcome a c₁ (Effect.Forget tag)} (record { even = record {}; fits = h })

  reloading_ends : (r : Maps) → Always (Ending c) (done (outcome a c₁ (Effect.Reload r)))
  unfolding outcome
  reloading_ends r = ends {o = outcome a c₁ (Effect.Reload r)} (record { even = record {}; fits = h })

-- Shape and parity ---------------------------------------------------------------------------------------------------------------

-- what step 1 says of a store's operation: 2 or 3, and 2 by word
record Shaped (q : Access) : Type 0 where
  op : q.op < 4
  word : q.op ≡ 2 → q.width ≡ 0

well_shaped-shaped : (len : ℕ) (q : Access) → well_shaped len q ≡ true → Shaped q
unfolding well_shaped listed ill_fitting is_dato
well_shaped-shaped len q e =
    let (s, _) = both_true _ (good_length len) e in
    let (l, f) = both_true (listed q) (not (ill_fitting q)) s in
    let (a, w) = both_true (ltb q.op 4 && ltb q.state 5) (ltb q.width 2) l in
    let (o, _) = both_true (ltb q.op 4) (ltb q.state 5) a in
    let (n, _) = both_false ((eqb q.op 2 && eqb q.width 1) || (eqb q.op 3 && eqb q.width 0)) _ (not-true (ill_fitting q) f) in
    let (n₁, _) = both_false (eqb q.op 2 && eqb q.width 1) _ n in
    record {
      op = ltb-true q.op 4 o;
      word = λ h. omega (arith, ltb-true q.width 2 w, eqb-false q.width 1 (second_false (eqb q.op 2) _ n₁ (eq-eqb q.op 2 h)));
    }

-- an address that a word store may have
abbrev Aligned : Access → ℕ → Type 0
Aligned q at = q.op ≡ 2 → at % 2 ≡ 0

addr_aligned : (q : Access) (a : ℕ) → Shaped q → odd_word q.width a ≡ false → Aligned q a
unfolding odd_word
addr_aligned q a s e o =
    omega (arith, eqb-false (a % 2) 1 (second_false (eqb q.width 0) _ e (eq-eqb q.width 0 (s.word o))))

physical_aligned : (page a : ℕ) → a % 2 ≡ 0 → physical_at page a % 2 ≡ 0
unfolding physical_at low9
physical_aligned page a h = omega arith

unpaged-aligned : (a : ℕ) → a % 2 ≡ 0 → unpaged_at a % 2 ≡ 0
unfolding unpaged_at
unpaged-aligned a h = picked (λ (x : ℕ). x % 2 ≡ 0) (ltb a 0o160000) _ _ (λ t. h) (λ t. omega arith)

-- The steps of an access -----------------------------------------------------------------------------------------------------------

memory_effect-even : (p : Part) (at v : ℕ) → (p ≡ Part.Whole → at % 2 ≡ 0) → EvenStore (memory_effect p at v)
unfolding memory_effect
memory_effect-even Part.Whole at v h = h refl
memory_effect-even Part.Low at v h = record {}
memory_effect-even Part.High at v h = record {}

operating_effect-even : (r : Maps) (p : Part) (v : ℕ) (g : Operating) → EvenStore (operating_effect r p v g)
unfolding operating_effect
operating_effect-even r p v Operating.Ktcs = record {}
operating_effect-even r p v (Operating.Kept i) = record {}
operating_effect-even r p v Operating.Ktum = record {}
operating_effect-even r p v Operating.Ktem = record {}

associative_effect-even : (p : Part) (v : ℕ) (g : Associative) → EvenStore (associative_effect p v g)
unfolding associative_effect
associative_effect-even p v Associative.Ktmr = record {}
associative_effect-even p v (Associative.Pad i) = record {}

-- a whole word is stored by operation 2 alone
whole_word : (q : Access) (at : ℕ) → Shaped q → ltb q.op 2 ≡ false → part_of q.op at ≡ Part.Whole → q.op ≡ 2
unfolding part_of
whole_word q at s n =
    picked (λ (x : Part). x ≡ Part.Whole → q.op ≡ 2) (eqb q.op 3) _ _
    (λ t. picked (λ (x : Part). x ≡ Part.Whole → q.op ≡ 2) (eqb (at % 2) 0) _ _ (λ t₁ e. cc) (λ t₁ e. cc))
    (λ t e. omega (arith, s.op, ltb-false q.op 2 n, eqb-false q.op 3 t))

module _ (c : Core) (m : Memory) (j : Job) (shaped : Shaped j.q) (calm : CoreFit c → Calm j.core) where
  faulted-ends : (inner : Bool) (tag : ℕ) (f : Fault) → Always (Ending c) (faulted j inner tag f)
  unfolding faulted
  faulted-ends inner tag f = forgetting-ends c _ _ (λ h. CoreLaws.violated-fits j.core j.q inner f (calm h)) tag

  outer_fault-ends : (f : Fault) → Always (Ending c) (outer_fault j f)
  unfolding outer_fault
  outer_fault-ends f = faulted-ends _ _ f

  inner_fault-ends : (f : Fault) → Always (Ending c) (inner_fault j f)
  unfolding inner_fault
  inner_fault-ends f = faulted-ends _ _ f

  read_from-ends : (s : Source) (f : ℕ → Prog) → ((w : ℕ) → Always (Ending c) (f w)) → Always (Ending c) (read_from s f)
  unfolding read_from
  read_from-ends (at-hand w) f h = h w
  read_from-ends (in_cells g) f h = peeks-at h

  read_at-ends :
      (at : ℕ) (t : Target) (f : ℕ → Prog) → ((w : ℕ) → Always (Ending c) (f w)) → Always (Ending c) (read_at m j at t f)
  unfolding read_at
  read_at-ends at t f h = read_from-ends (source_at m j at t) f h

  stored_in-ends : (p : Part) (at : ℕ) (g : Register) → Ending c (stored_in j p at g)
  unfolding stored_in outcome
  stored_in-ends p at (Register.Operating g) =
      record { even = operating_effect-even _ p _ g; fits = λ f. CoreLaws.calm-fits (CoreLaws.stored-calm j.core p _ g (calm f)) }
  stored_in-ends p at (Register.Associative g) =
      record { even = associative_effect-even p _ g; fits = λ f. CoreLaws.calm-fits (calm f) }

  stored_at-ends : (p : Part) (at : ℕ) (t : Target) → (p ≡ Part.Whole → at % 2 ≡ 0) → Ending c (stored_at j p at t)
  unfolding stored_at outcome
  stored_at-ends p at Target.Memory h = record { even = memory_effect-even p at _ h; fits = λ f. CoreLaws.calm-fits (calm f) }
  stored_at-ends p at (Target.In g) h = stored_in-ends p at g

  transferred-ends : (at : ℕ) (t : Target) → Aligned j.q at → Always (Ending c) (transferred m j at t)
  unfolding transferred
  transferred-ends at t h =
      picked (Always (Ending c)) (ltb j.q.op 2) _ _
      (λ e. read_at-ends at t _ (λ w. keeping_ends c _ _ (λ f. CoreLaws.calm-fits (calm f))))
      (λ e. ends (stored_at-ends (part_of j.q.op at) at t (λ x. h (whole_word j.q at shaped e x))))

  fetched-ends : (at : ℕ) (flag : Bool) (w : ℕ) → Always (Ending c) (fetched j at flag w)
  unfolding fetched
  fetched-ends at flag w = keeping_ends c _ _ (λ f. CoreLaws.calm-fits (CoreLaws.fetched-calm j.core w flag (calm f)))

  word_judged-ends : (at : ℕ) (t : Target) (e : Entry) (w : ℕ) → Always (Ending c) (word_judged j at t e w)
  unfolding word_judged
  word_judged-ends at t e w =
      picked (Always (Ending c)) (forbidden j.core e w) _ _ (λ x. outer_fault-ends _) (λ x. fetched-ends at _ w)

  -- unpaged
  unpaged_reached-ends : (at : ℕ) (t : Target) → Aligned j.q at → Always (Ending c) (unpaged_reached m j at t)
  unfolding unpaged_reached
  unpaged_reached-ends at t h =
      picked (Always (Ending c)) (is_fetch j.q) _ _ (λ e. read_at-ends at t _ (fetched-ends at _)) (λ e. transferred-ends at t h)

  unpaged_time_out-ends : Always (Ending c) (unpaged_time_out j)
  unfolding unpaged_time_out
  unpaged_time_out-ends = keeping_ends c _ _ (λ f. CoreLaws.calm-fits (CoreLaws.timed_out-calm j.core j.q (calm f)))

  unpaged_target-ends : (at : ℕ) (pl : Place) → Aligned j.q at → Always (Ending c) (unpaged_target m j at pl)
  unfolding unpaged_target
  unpaged_target-ends at (Place.There t) h = unpaged_reached-ends at t h
  unpaged_target-ends at Place.Window h = unpaged_time_out-ends
  unpaged_target-ends at Place.Nowhere h = unpaged_time_out-ends

  -- the window's inner access
  inner_target-ends : (at : ℕ) (pl : Place) → Aligned j.q at → Always (Ending c) (inner_target m j at pl)
  unfolding inner_target
  inner_target-ends at (Place.There t) h = transferred-ends at t h
  inner_target-ends at Place.Window h = inner_fault-ends _
  inner_target-ends at Place.Nowhere h = inner_fault-ends _

  inner_ruled-ends : (d : Result ℕ Fault) → Aligned j.q (window_addr j) → Always (Ending c) (inner_ruled m j d)
  unfolding inner_ruled
  inner_ruled-ends (Err f) h = inner_fault-ends f
  inner_ruled-ends (Ok page) h = inner_target-ends _ _ (λ o. physical_aligned page (window_addr j) (h o))

  windowed-ends : Always (Ending c) (windowed m j)
  unfolding windowed
  windowed-ends =
      picked (Always (Ending c)) (odd_word j.q.width (window_addr j)) _ _ (λ t. inner_fault-ends _)
      (λ t. asks (page_of-below (window_addr j)) (λ e. inner_ruled-ends _ (addr_aligned j.q (window_addr j) shaped t)))

  -- paged
  paged_reached-ends : (at : ℕ) (e : Entry) (t : Target) → Aligned j.q at → Always (Ending c) (paged_reached m j at e t)
  unfolding paged_reached
  paged_reached-ends at e t h =
      picked (Always (Ending c)) (is_fetch j.q) _ _ (λ f. read_at-ends at t _ (word_judged-ends at t e)) (λ f. transferred-ends at t h)

  outer_target-ends : (at : ℕ) (e : Entry) (pl : Place) → Aligned j.q at → Always (Ending c) (outer_target m j at e pl)
  unfolding outer_target
  outer_target-ends at e (Place.There t) h = paged_reached-ends at e t h
  outer_target-ends at e Place.Window h = picked (Always (Ending c)) (is_fetch j.q) _ _ (λ t. outer_fault-ends _) (λ t. windowed-ends)
  outer_target-ends at e Place.Nowhere h = outer_fault-ends _

  outer_ruled-ends : (e : Entry) (d : Result ℕ Fault) → Aligned j.q j.q.addr → Always (Ending c) (outer_ruled m j e d)
  unfolding outer_ruled
  outer_ruled-ends e (Err f) h = outer_fault-ends f
  outer_ruled-ends e (Ok page) h = outer_target-ends _ e _ (λ o. physical_aligned page j.q.addr (h o))

  paged_from-ends : Always (Ending c) (paged_from m j)
  unfolding paged_from
  paged_from-ends =
      picked (Always (Ending c)) (odd_word j.q.width j.q.addr) _ _ (λ t. outer_fault-ends _)
      (λ t. asks (page_of-below j.q.addr) (λ e. outer_ruled-ends e _ (addr_aligned j.q j.q.addr shaped t)))

-- The four calls -------------------------------------------------------------------------------------------------------------------

module _ (c : Core) where
  refused-ends : (a : Answer) → Always (Ending c) (refused c a)
  unfolding refused
  refused-ends a = keeping_ends c a c (λ h. h)

  sequenced-ends : (w : ℕ) (c₁ : Core) → (CoreFit c → CoreFit c₁) → Always (Ending c) (sequenced w c₁)
  unfolding sequenced
  sequenced-ends w c₁ h = keeping_ends c _ c₁ h

  module _ (m : Memory) (s : Size) (r : Maps) (q : Access) (shaped : Shaped q) where
    steps_end : c.wait ≡ Wait.Nothing → Always (Ending c) (after_wait m s c r q Due.Steps)
    unfolding after_wait unpaged_from
    steps_end w =
        picked (Always (Ending c)) (unpaged c.ktcs.fcn q.state) _ _
        (λ t. picked (Always (Ending c)) (odd_word q.width q.addr) _ _ (λ t₁. refused-ends _)
        (λ t₁. unpaged_target-ends c m (record { q = q; core = noted c q; maps = r; size = s }) shaped (CoreLaws.noted-calm c q w) _ _
        (λ o. unpaged-aligned q.addr (addr_aligned q q.addr shaped t₁ o))))
        (λ t. paged_from-ends c m (record { q = q; core = noted c q; maps = r; size = s }) shaped (CoreLaws.noted-calm c q w))

    after_wait-ends : (w : Wait) → c.wait ≡ w → Always (Ending c) (after_wait m s c r q (due_when w c.ktcs.fcn q))
    unfolding due_when after_wait
    after_wait-ends Wait.Nothing w =
        picked (λ (d : Due). Always (Ending c) (after_wait m s c r q d)) (eqb c.ktcs.fcn 3 && not (is_fetch q)) _ _
        (λ t. picked (λ (d : Due). Always (Ending c) (after_wait m s c r q d)) (start_read q) _ _
        (λ t₁. sequenced-ends _ _ (CoreLaws.first_read_done-fits c (eqb-true c.ktcs.fcn 3 (both_true (eqb c.ktcs.fcn 3) _ t).0)))
        (λ t₁. refused-ends _))
        (λ t. steps_end w)
    after_wait-ends Wait.StatusDue w =
        picked (λ (d : Due). Always (Ending c) (after_wait m s c r q d)) (service_dato q) _ _
        (λ t. sequenced-ends _ _ (CoreLaws.status_stored-fits c q.datum w)) (λ t. refused-ends _)
    after_wait-ends Wait.ProgramCounterDue w =
        picked (λ (d : Due). Always (Ending c) (after_wait m s c r q d)) (service_dato q) _ _
        (λ t. sequenced-ends _ _ (CoreLaws.program_counter_stored-fits c q.addr q.datum)) (λ t. refused-ends _)
    after_wait-ends Wait.SecondReadDue w =
        picked (λ (d : Due). Always (Ending c) (after_wait m s c r q d)) (start_read q) _ _
        (λ t. sequenced-ends _ _ (λ h. CoreLaws.user_started-fits c)) (λ t. refused-ends _)

  pub call_ends : (m : Memory) (s : Size) (r : Maps) (a : Call) → Always (Ending c) (called m s c r a)
  unfolding called accessed due_of interrupt_of trap_of init_of
  call_ends m s r (Call.Access q) =
      picked (Always (Ending c)) (well_shaped (length m) q) _ _
      (λ t. after_wait-ends m s r q (well_shaped-shaped (length m) q t) c.wait refl) (λ t. refused-ends _)
  call_ends m s r Call.Interrupt =
      picked (Always (Ending c)) (idle c.wait c.ktcs.fcn) _ _ (λ t. sequenced-ends _ _ (CoreLaws.interrupted-fits c t)) (λ t. refused-ends _)
  call_ends m s r (Call.Trap v) =
      picked (Always (Ending c)) (vector_listed v) _ _
      (λ t. picked (Always (Ending c)) (idle c.wait c.ktcs.fcn) _ _ (λ t₁. sequenced-ends _ _ (CoreLaws.trapped-fits c v t₁)) (λ t₁. refused-ends _))
      (λ t. refused-ends _)
  call_ends m s r Call.Init = reloading_ends c _ _ (λ h. CoreLaws.init_core-fits c) r
