-- The history of pages goes by answers, in 01's words: what forgets a page, what stores into its map words, and that nothing else does.
use Prim.Native.Nat.{ℕ, ◌<◌}
use mathlib.Core.Bool.{Bool, true, false}
use mathlib.Core.Path.{◌≡◌, refl, sym, ap, subst, ◌∙◌}
use native.Mathlib.Omega.{arith}
use lib.Dec.{eqb}
use lib.ListN.{length}
use borrow.Author.Tests.{eq-eqb, eqb-true}
use Rattle.rules.specs.Types.{Unit, Access, Call, Operating, Target, Place, Answer, Effect}
use Rattle.rules.specs.Memory.{Memory}
use Rattle.rules.specs.Registers.{place_of}
use Rattle.rules.specs.Program.{run}
use Rattle.rules.specs.Order.{outcome}
use Rattle.rules.specs.Calls.{init_of, called, settled, call_of}
use Rattle.rules.specs.Answers.{shown_as, shown}
use Rattle.rules.specs.Runs.{deed_in, deed_of, History, told, in_use_after, history_after, heard}
use Rattle.rules.proofs.Laws.Choices.{true_is_not_false, picked}
use Rattle.rules.proofs.Statements.Ways.{violation, access, decided}
use Rattle.rules.proofs.Statements.Ways.{operating, Stores, word_store, byte_store, ktmr_store, ktcs_store, kept_store, ktum_store, ktem_store, pad_store}
use Rattle.rules.proofs.Statements.Ways.{Does, after-refusal, after_unpaged_time_out, after-fault, after-init, after-interrupt, after-trap, after-sequence, after_read, after_store}
use Rattle.rules.proofs.Statements.PremiseWords.{StoreDone, Forgets, by_init, by_ktum_store, by_ktem_store, by_fault, Becomes, forgotten, stored-into, stays, HistoryByAnswers}
use Rattle.rules.proofs.Demand1.Determined.{determined}
use Rattle.rules.proofs.Demand1.Effects.{effects_by_answer}

-- whether an effect forgets a page, and whether it stores into memory
abbrev forgetting : ℕ → Effect → Bool
forgetting tag Effect.Keep = false
forgetting tag (Effect.Forget t) = eqb tag t
forgetting tag (Effect.Reload r) = true
forgetting tag (Effect.StoreWord at v) = false
forgetting tag (Effect.StoreByte at v) = false
forgetting tag (Effect.StorePad i p v) = false

abbrev storing : Effect → Bool
storing Effect.Keep = false
storing (Effect.Forget t) = false
storing (Effect.Reload r) = false
storing (Effect.StoreWord at v) = true
storing (Effect.StoreByte at v) = true
storing (Effect.StorePad i p v) = false

-- a store into KTUM or KTEM forgets every page, and one into memory stores
ktum_forgets :
    {u : Unit} {q : Access} {at : ℕ} {e : Effect} (tag : ℕ) → Stores u q at (operating Operating.Ktum) e → forgetting tag e ≡ true
ktum_forgets tag ktum_store = refl

ktem_forgets :
    {u : Unit} {q : Access} {at : ℕ} {e : Effect} (tag : ℕ) → Stores u q at (operating Operating.Ktem) e → forgetting tag e ≡ true
ktem_forgets tag ktem_store = refl

memory-stores : {u : Unit} {q : Access} {at : ℕ} {e : Effect} → Stores u q at Target.Memory e → storing e ≡ true
memory-stores (word_store o) = refl
memory-stores (byte_store o) = refl

module _ {m : Memory} {u : Unit} where
  -- a store that is done does what its target asks for
  done-stores :
      {q : Access} {at : ℕ} {t : Target} {a : Answer} {e : Effect} → Does m u (Call.Access q) a e → a ≡ Answer.Done 0 at → 1 < q.op
      → place_of u.cells.size (length m) at ≡ Place.There t → Stores u q at t e
  unfolding shown shown_as
  done-stores (after-refusal n l) h o p = absurd (n (ap (λ (x : Answer). (shown x).number) h))
  done-stores (after_unpaged_time_out t) h o p = absurd (let z : ◌≡◌ {A = ℕ} 0 1 = cc in omega arith)
  done-stores (after-fault r) h o p = absurd (let z : ◌≡◌ {A = ℕ} 0 1 = cc in omega arith)
  done-stores after-sequence h o p = absurd (let z : ◌≡◌ {A = ℕ} 0 1 = cc in omega arith)
  done-stores (after_read l) h o p = absurd (omega arith)
  done-stores {q} {at} {t} (after_store {at = at₁} {t = t₁} {e = e} o₁ p₁ s) h o p =
      let x : at₁ ≡ at = cc in
      let z : Place.There t₁ ≡ Place.There t = sym p₁ ∙ ap (place_of u.cells.size (length m)) x ∙ p in
      let y : t₁ ≡ t = cc in
      subst (λ (b : ℕ). Stores u q b t e) x (subst (λ (l : Target). Stores u q at₁ l e) y s)

  stores_at :
      {q : Access} {at : ℕ} {t : Target} → StoreDone m u q at t → Stores u q at t (decided m u (Call.Access q)).outcome.effect
  unfolding call_of settled
  stores_at {q} s = done-stores (effects_by_answer m u (Call.Access q)) s.answer s.operation s.place

  -- what forgets a page, in 01's words, has an effect that forgets it
  forgets_by_effect : {tag : ℕ} {c : Call} → Forgets m u tag c → forgetting tag (decided m u c).outcome.effect ≡ true
  unfolding called init_of run outcome
  forgets_by_effect by_init = refl
  forgets_by_effect {tag} (by_ktum_store s) = ktum_forgets tag (stores_at s)
  forgets_by_effect {tag} (by_ktem_store s) = ktem_forgets tag (stores_at s)
  forgets_by_effect {tag} (by_fault {q = q} r) = rw (determined m u (Call.Access q) _ (access (violation r))) (eq-eqb tag tag refl)

  module _ (h : History) (tag : ℕ) where
    -- the page stays as it is known, where the effect neither forgets it nor stores
    page_stays :
        (c : Call) (e : Effect) → (decided m u c).outcome.effect ≡ e → forgetting tag e ≡ false → storing e ≡ false → Becomes m u tag (h tag) c (h tag)
    page_stays c e same f s =
        stays {c = c} (λ x. true_is_not_false (sym (forgets_by_effect x) ∙ ap (forgetting tag) same ∙ f))
        (λ q at i x.
        true_is_not_false
        (sym (memory-stores (stores_at x)) ∙ ap (λ (d : Call). storing (decided m u d).outcome.effect) (sym i) ∙ ap storing same ∙ s))

    store_becomes :
        {q : Access} {at : ℕ} {t : Target} {e : Effect} → Stores u q at t e → StoreDone m u q at t
        → (decided m u (Call.Access q)).outcome.effect ≡ e → Becomes m u tag (h tag) (Call.Access q) (history_after e h tag)
    unfolding history_after
    store_becomes (word_store o) d same = stored-into d
    store_becomes (byte_store o) d same = stored-into d
    store_becomes ktmr_store d same = page_stays _ _ same refl refl
    store_becomes ktcs_store d same = page_stays _ _ same refl refl
    store_becomes kept_store d same = page_stays _ _ same refl refl
    store_becomes ktum_store d same = forgotten (by_ktum_store d)
    store_becomes ktem_store d same = forgotten (by_ktem_store d)
    store_becomes pad_store d same = page_stays _ _ same refl refl

    becomes :
        {c : Call} {a : Answer} {e : Effect} → Does m u c a e → (call_of m u c).reply.answer ≡ a → (decided m u c).outcome.effect ≡ e
        → Becomes m u tag (h tag) c (history_after e h tag)
    unfolding history_after told
    becomes (after-refusal n l) answer same = page_stays _ _ same refl refl
    becomes (after_unpaged_time_out t) answer same = page_stays _ _ same refl refl
    becomes (after-fault {q = q} {tag = t} r) answer same =
        picked (Becomes m u tag (h tag) (Call.Access q)) (eqb tag t) _ _
        (λ e. forgotten (by_fault (rw (← eqb-true tag t e) at r))) (λ e. page_stays _ _ same e refl)
    becomes after-init answer same = forgotten by_init
    becomes after-interrupt answer same = page_stays _ _ same refl refl
    becomes after-trap answer same = page_stays _ _ same refl refl
    becomes after-sequence answer same = page_stays _ _ same refl refl
    becomes (after_read l) answer same = page_stays _ _ same refl refl
    becomes (after_store o p s) answer same = store_becomes s (record { answer = answer; operation = o; place = p }) same

pub history_by_answers : HistoryByAnswers
unfolding heard deed_of deed_in call_of settled
history_by_answers m u h c tag = becomes (in_use_after h (deed_of m u c).visits) tag (effects_by_answer m u c) refl refl
