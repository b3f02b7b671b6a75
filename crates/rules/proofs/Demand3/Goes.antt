-- The pages that an access goes to are those whose entry its steps ask for.
use Prim.Native.Nat.{ℕ}
use mathlib.Core.Bool.{true}
use mathlib.Core.Path.{◌≡◌, refl, sym, ap, ◌∙◌}
use mathlib.Core.List.{List, [], ◌++◌, append-nil}
use native.Mathlib.Omega.{arith}
use lib.Dec.{ltb}
use lib.ListN.{length}
use Rattle.std.specs.Prelude.{Result, Ok, Err}
use Rattle.rules.specs.Types.{Cells, Unit, Access, Target, Place, Entry, Due, Job, Fault}
use Rattle.rules.specs.Memory.{Memory}
use Rattle.rules.specs.Registers.{place_of}
use Rattle.rules.specs.Maps.{unpaged, unpaged_at, page_of}
use Rattle.rules.specs.Fetched.{is_fetch}
use Rattle.rules.specs.Steps.{well_shaped, due_of, odd_word, watches, forbidden}
use Rattle.rules.specs.Program.{Prog}
use Rattle.rules.specs.Order.{refused, faulted, outer_fault, Source, at-hand, in_cells, source_at, read_from, read_at, transferred, fetched, word_judged, unpaged_reached, unpaged_time_out, unpaged_target, unpaged_from, window_addr, inner_fault, inner_target, inner_ruled, windowed, paged_reached, outer_target, outer_ruled, paged_from, sequenced, after_wait, accessed}
use Rattle.rules.specs.Calls.{called}
use Rattle.rules.specs.Runs.{Visit, visit, visits_of, deed_in, deed_of}
use Rattle.rules.proofs.Laws.Choices.{true_is_not_false, picked}
use Rattle.rules.proofs.Promises.{job, outer, Paged}
use Rattle.rules.proofs.Statements.Ways.{outer_at, Keys, Asked, Granted, Windowed, InnerAsked}
use Rattle.rules.proofs.Statements.PremiseWords.{GoesTo, to_no_page, one-page, two-pages, GoesBySteps}
use Rattle.rules.proofs.Demand1.Determined.{keys_judged}
use Rattle.rules.proofs.Demand1.Why.{judged-keys}

-- Where nothing more is asked for ------------------------------------------------------------------------------------------

module _ (m : Memory) (u : Unit) (j : Job) where
  abbrev IsSilent : Prog → Type 0
  IsSilent p = (k : Cells) → visits_of m u.maps p k ≡ []

  read_from-silent : (s : Source) (f : ℕ → Prog) → ((w : ℕ) → IsSilent (f w)) → IsSilent (read_from s f)
  unfolding read_from visits_of
  read_from-silent (at-hand w) f h k = h w k
  read_from-silent (in_cells g) f h k = h _ k

  read_at-silent : (at : ℕ) (t : Target) (f : ℕ → Prog) → ((w : ℕ) → IsSilent (f w)) → IsSilent (read_at m j at t f)
  unfolding read_at
  read_at-silent at t f h k = read_from-silent (source_at m j at t) f h k

  transferred-silent : (at : ℕ) (t : Target) → IsSilent (transferred m j at t)
  unfolding transferred visits_of
  transferred-silent at t k =
      picked (λ p. visits_of m u.maps p k ≡ []) (ltb j.q.op 2) _ _ (λ e. read_at-silent at t _ (λ w k₁. refl) k) (λ e. refl)

  unpaged_reached-silent : (at : ℕ) (t : Target) → IsSilent (unpaged_reached m j at t)
  unfolding unpaged_reached fetched visits_of
  unpaged_reached-silent at t k =
      picked (λ p. visits_of m u.maps p k ≡ []) (is_fetch j.q) _ _ (λ e. read_at-silent at t _ (λ w k₁. refl) k)
      (λ e. transferred-silent at t k)

  unpaged_target-silent : (at : ℕ) (pl : Place) → IsSilent (unpaged_target m j at pl)
  unfolding unpaged_target unpaged_time_out visits_of
  unpaged_target-silent at (Place.There t) k = unpaged_reached-silent at t k
  unpaged_target-silent at Place.Window k = refl
  unpaged_target-silent at Place.Nowhere k = refl

  word_judged-silent : (at : ℕ) (t : Target) (e : Entry) (w : ℕ) → IsSilent (word_judged j at t e w)
  unfolding word_judged outer_fault faulted fetched visits_of
  word_judged-silent at t e w k =
      picked (λ p. visits_of m u.maps p k ≡ []) (forbidden j.core e w) _ _ (λ x. refl) (λ x. refl)

  paged_reached-silent : (at : ℕ) (e : Entry) (t : Target) → IsSilent (paged_reached m j at e t)
  unfolding paged_reached
  paged_reached-silent at e t k =
      picked (λ p. visits_of m u.maps p k ≡ []) (is_fetch j.q) _ _ (λ x. read_at-silent at t _ (word_judged-silent at t e) k)
      (λ x. transferred-silent at t k)

  inner_target-silent : (at : ℕ) (pl : Place) → IsSilent (inner_target m j at pl)
  unfolding inner_target inner_fault faulted visits_of
  inner_target-silent at (Place.There t) k = transferred-silent at t k
  inner_target-silent at Place.Window k = refl
  inner_target-silent at Place.Nowhere k = refl

  inner_ruled-silent : (d : Result ℕ Fault) → IsSilent (inner_ruled m j d)
  unfolding inner_ruled inner_fault faulted visits_of
  inner_ruled-silent (Err f) k = refl
  inner_ruled-silent (Ok page) k = inner_target-silent _ _ k

-- The steps ------------------------------------------------------------------------------------------------------------------

module _ (m : Memory) (u : Unit) (q : Access) where
  abbrev outer_visit : List Visit
  outer_visit = visit m u.maps (job u q).core.ktcs.um (page_of q.addr)

  abbrev inner_visit : List Visit
  inner_visit = visit m u.maps true (page_of (window_addr (job u q)))

  -- the access, having asked for its page, goes on by this program
  abbrev IsOnward : Prog → Type 0
  IsOnward p = GoesTo m u q (outer_visit ++ visits_of m u.maps p (outer m u q).cells)

  -- it goes on, and asks for no other page
  ends-here : {vs : List Visit} → Asked m u q → (InnerAsked m u q → ⊥) → vs ≡ [] → GoesTo m u q (outer_visit ++ vs)
  ends-here a n e = rw (e, append-nil) (one-page a n)

  -- what the keys say of the entry, they say once
  same-ruling : {g g₁ : Result ℕ Fault} → Keys q.op (watches (job u q).core.fetch q) (outer m u q).entry g → Keys q.op (watches (job u q).core.fetch q) (outer m u q).entry g₁ → g ≡ g₁
  same-ruling h h₁ = sym (keys_judged h) ∙ keys_judged h₁

  windowed-goes : Windowed m u q → IsOnward (windowed m (job u q))
  unfolding windowed inner_fault faulted visits_of
  windowed-goes s =
      picked IsOnward (odd_word q.width (window_addr (job u q))) _ _
      (λ e. ends-here s.steps.steps (λ i. true_is_not_false (sym e ∙ i.even)) refl)
      (λ e. rw (inner_ruled-silent m u (job u q) _ _, append-nil) (two-pages (record { steps = s; even = e })))

  -- a target that is not the window goes on to no other page
  elsewhere : {page : ℕ} {pl : Place} → place_of u.cells.size (length m) (outer_at q page) ≡ pl → Granted m u q page → InnerAsked m u q → Place.Window ≡ pl
  elsewhere {page} e s i =
      let x : i.steps.page ≡ page = cc (same-ruling i.steps.steps.keys s.keys) in
      sym i.steps.place ∙ ap (λ (b : ℕ). place_of u.cells.size (length m) (outer_at q b)) x ∙ e

  outer_target-goes :
      {page : ℕ} (pl : Place) → place_of u.cells.size (length m) (outer_at q page) ≡ pl → Granted m u q page
      → IsOnward (outer_target m (job u q) (outer_at q page) (outer m u q).entry pl)
  unfolding outer_target outer_fault faulted visits_of
  outer_target-goes {page} (Place.There t) e s =
      ends-here s.steps (λ i. let w : Place.Window ≡ Place.There t = elsewhere e s i in let y : ◌≡◌ {A = ℕ} 0 1 = cc in omega arith) (paged_reached-silent m u (job u q) _ _ _ _)
  outer_target-goes {page} Place.Window e s =
      picked IsOnward (is_fetch q) _ _
      (λ t. ends-here s.steps (λ i. true_is_not_false (sym t ∙ i.steps.no_fetch)) refl)
      (λ t. windowed-goes (record { page = page; steps = s; place = e; no_fetch = t }))
  outer_target-goes {page} Place.Nowhere e s =
      ends-here s.steps (λ i. let w : Place.Window ≡ Place.Nowhere = elsewhere e s i in let y : ◌≡◌ {A = ℕ} 0 1 = cc in omega arith) refl

  outer_ruled-goes :
      (g : Result ℕ Fault) → Keys q.op (watches (job u q).core.fetch q) (outer m u q).entry g → Asked m u q
      → IsOnward (outer_ruled m (job u q) (outer m u q).entry g)
  unfolding outer_ruled outer_fault faulted visits_of
  outer_ruled-goes (Err f) h s = ends-here s (λ i. let y : ◌≡◌ {A = ℕ} 0 1 = cc (same-ruling i.steps.steps.keys h) in omega arith) refl
  outer_ruled-goes (Ok page) h s = outer_target-goes (place_of u.cells.size (length m) (outer_at q page)) refl (record { steps = s; keys = h })

  paged_from-goes : Paged m u q → GoesTo m u q (visits_of m u.maps (paged_from m (job u q)) u.cells)
  unfolding paged_from outer_fault faulted visits_of
  paged_from-goes s =
      picked (λ p. GoesTo m u q (visits_of m u.maps p u.cells)) (odd_word q.width q.addr) _ _
      (λ e. to_no_page (λ a. true_is_not_false (sym e ∙ a.even)))
      (λ e. outer_ruled-goes _ (judged-keys q.op (watches (job u q).core.fetch q) (outer m u q).entry) (record { steps = s; even = e }))

  -- an access that comes to no page
  goes_nowhere : {vs : List Visit} → (Asked m u q → ⊥) → vs ≡ [] → GoesTo m u q vs
  goes_nowhere n e = rw e (to_no_page n)

  unpaged_from-goes :
      unpaged u.core.ktcs.fcn q.state ≡ true → GoesTo m u q (visits_of m u.maps (unpaged_from m u.cells.size u.core u.maps q) u.cells)
  unfolding unpaged_from refused visits_of
  unpaged_from-goes t =
      picked (λ p. GoesTo m u q (visits_of m u.maps p u.cells)) (odd_word q.width q.addr) _ _
      (λ e. to_no_page (λ a. true_is_not_false (sym t ∙ a.steps.mode)))
      (λ e. goes_nowhere (λ a. true_is_not_false (sym t ∙ a.steps.mode)) (unpaged_target-silent m u (job u q) (unpaged_at q.addr) (place_of u.cells.size (length m) (unpaged_at q.addr)) u.cells))

  -- where step 2 says otherwise than to go on, no page is asked for
  not_begun : {d : Due} → due_of u.core q ≡ d → (Due.Steps ≡ d → ⊥) → Asked m u q → ⊥
  not_begun e n a = n (sym a.steps.steps.due ∙ e)

  after_wait-goes :
      (d : Due) → due_of u.core q ≡ d → well_shaped (length m) q ≡ true
      → GoesTo m u q (visits_of m u.maps (after_wait m u.cells.size u.core u.maps q d) u.cells)
  unfolding after_wait refused sequenced visits_of
  after_wait-goes Due.Steps e s =
      picked (λ p. GoesTo m u q (visits_of m u.maps p u.cells)) (unpaged u.core.ktcs.fcn q.state) _ _ unpaged_from-goes
      (λ t. paged_from-goes (record { steps = record { shaped = s; due = e }; mode = t }))
  after_wait-goes Due.OutOfTurn e s = to_no_page (not_begun e (λ z. let y : ◌≡◌ {A = ℕ} 0 1 = cc in omega arith))
  after_wait-goes Due.StatusStore e s = to_no_page (not_begun e (λ z. let y : ◌≡◌ {A = ℕ} 0 1 = cc in omega arith))
  after_wait-goes Due.ProgramCounterStore e s = to_no_page (not_begun e (λ z. let y : ◌≡◌ {A = ℕ} 0 1 = cc in omega arith))
  after_wait-goes Due.FirstRead e s = to_no_page (not_begun e (λ z. let y : ◌≡◌ {A = ℕ} 0 1 = cc in omega arith))
  after_wait-goes Due.SecondRead e s = to_no_page (not_begun e (λ z. let y : ◌≡◌ {A = ℕ} 0 1 = cc in omega arith))

  accessed-goes : GoesTo m u q (visits_of m u.maps (accessed m u.cells.size u.core u.maps q) u.cells)
  unfolding accessed refused visits_of
  accessed-goes =
      picked (λ p. GoesTo m u q (visits_of m u.maps p u.cells)) (well_shaped (length m) q) _ _ (after_wait-goes (due_of u.core q) refl)
      (λ e. to_no_page (λ a. true_is_not_false (sym a.steps.steps.shaped ∙ e)))

pub goes_by_steps : GoesBySteps
unfolding deed_of deed_in called
goes_by_steps m u q = accessed-goes m u q
