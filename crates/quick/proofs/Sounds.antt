-- What each stage of an attempt owes, from what the next one owes.
use Prim.Native.Nat.{ℕ, ◌<◌}
use mathlib.Core.Path.{◌≡◌, refl, sym, ap, ◌∙◌}
use mathlib.Core.Bool.{Bool, true, false, not}
use lib.Dec.{ltb}
use lib.ListN.{length}
use borrow.Author.Tests.{lt-ltb}
use Rattle.std.specs.Prelude.{Option, Some, None, Ok}
use Rattle.rules.specs.declared.Part.{Part}
use Rattle.rules.specs.declared.Core.{Core}
use Rattle.rules.specs.declared.Maps.{Maps}
use Rattle.rules.specs.declared.Cells.{Cells}
use Rattle.rules.specs.declared.Access.{Access}
use Rattle.rules.specs.declared.Answer.{Answer}
use Rattle.rules.specs.declared.Entry.{Entry}
use Rattle.rules.specs.declared.Looked.{Looked}
use Rattle.rules.specs.declared.Target.{Target}
use Rattle.rules.specs.declared.Place.{Place}
use Rattle.rules.specs.declared.Effect.{Effect}
use Rattle.rules.specs.declared.Outcome.{Outcome}
use Rattle.rules.specs.Choice.{pick}
use Rattle.rules.specs.Memory.{Memory, word_at, even_of}
use Rattle.rules.specs.Unit.{cell_at, with_fetch}
use Rattle.rules.specs.Registers.{place_of, part_of}
use Rattle.rules.specs.Maps.{unpaged, page_of, physical_at, public_bit, exec_zero, tag_of, cell_of, sought_in, looked}
use Rattle.rules.specs.Fetched.{is_fetch, after_fetch, noted}
use Rattle.rules.specs.Steps.{well_shaped, odd_word, judged, watches, due_when, due_of, public_page, forbidden}
use Rattle.rules.specs.Program.{Prog, done, ask, run}
use Rattle.rules.specs.Order.{outcome, source_at, read_from, read_at, fetched, flag_after, memory_effect, stored_at, transferred, word_judged, paged_reached, outer_target, outer_ruled, paged_from, after_wait, accessed}
use Rattle.rules.specs.Calls.{maps_after, cells_after}
use Rattle.rules.proofs.Laws.Choices.{both_true}
use Rattle.rules.proofs.Laws.RunLaws.{run-done, run-ask}
use Rattle.quick.specs.Usual.{calm, usual, fetch_noted, other_noted, job_of, Quiet, IsOutcome, Sound}
use Rattle.quick.proofs.Noted.{is_calm, noted-fetch, noted_other, noted-um, noted-watches}

-- The same steps owe the same.
outcome-by : (o : Outcome) (m : Memory) (p p₁ : Maps → Prog) (k : Cells) → ((r : Maps) → p r ≡ p₁ r) → IsOutcome o m p₁ k → IsOutcome o m p k
outcome-by o m p p₁ k e s = record { runs = λ r. ap (λ (x : Prog). run m r x k) (e r) ∙ s.runs r; quiet = s.quiet }

owed_by :
    (a : Option Outcome) (m : Memory) (p p₁ : Maps → Prog) (k : Cells) → ((r : Maps) → p r ≡ p₁ r) → Sound a m p₁ k → Sound a m p k
owed_by None m p p₁ k e s = s
owed_by (Some o) m p p₁ k e s = outcome-by o m p p₁ k e s

quiet-keep : Quiet Effect.Keep
unfolding maps_after cells_after
quiet-keep = record { maps = λ r. refl; cells = λ k. refl }

quiet-memory : (p : Part) (at v : ℕ) → Quiet (memory_effect p at v)
unfolding maps_after cells_after memory_effect
quiet-memory Part.Whole at v = record { maps = λ r. refl; cells = λ k. refl }
quiet-memory Part.Low at v = record { maps = λ r. refl; cells = λ k. refl }
quiet-memory Part.High at v = record { maps = λ r. refl; cells = λ k. refl }

-- an outcome with a quiet effect, of steps that are done
ended-owed :
    (o end : Outcome) (m : Memory) (p : Maps → Prog) (k : Cells) → o ≡ end → Quiet end.effect → ((r : Maps) → p r ≡ done end)
    → IsOutcome o m p k
ended-owed o end m p k e quiet is =
    rw e (record { runs = λ r. ap (λ (x : Prog). run m r x k) (is r) ∙ run-done m r end k; quiet = quiet })

module _ (m : Memory) (q : Access) (at : ℕ) (k : Cells) where
  module _ (o : Outcome) where
    -- step 11 passed
    pub fetch_owed :
        (c d : Core) (v w : ℕ) → w ≡ word_at m (even_of at) → forbidden c (Entry.Mapped v) w ≡ false
        → d ≡ with_fetch c (after_fetch c.fetch w (public_bit v)) → o ≡ record { answer = Answer.Done w at; core = d; effect = Effect.Keep }
        → IsOutcome o m (λ r. read_at m (job_of q c k r) at Target.Memory (word_judged (job_of q c k r) at Target.Memory (Entry.Mapped v))) k
    unfolding source_at read_from read_at word_judged fetched flag_after public_page outcome pick
    fetch_owed c d v w read allowed after is = ended-owed o _ m _ k is quiet-keep (λ r. simp (sym read, allowed, sym after))

    pub read_owed :
        (c : Core) (w : ℕ) → ltb q.op 2 ≡ true → w ≡ word_at m (even_of at)
        → o ≡ record { answer = Answer.Done w at; core = c; effect = Effect.Keep }
        → IsOutcome o m (λ r. transferred m (job_of q c k r) at Target.Memory) k
    unfolding transferred source_at read_from read_at outcome pick
    read_owed c w reads read is = ended-owed o _ m _ k is quiet-keep (λ r. simp (reads, sym read))

    pub store_owed :
        (c : Core) (e : Effect) → ltb q.op 2 ≡ false → e ≡ memory_effect (part_of q.op at) at q.datum
        → o ≡ record { answer = Answer.Done 0 at; core = c; effect = e }
        → IsOutcome o m (λ r. transferred m (job_of q c k r) at Target.Memory) k
    unfolding transferred stored_at outcome pick
    store_owed c e stores effect is =
        ended-owed o _ m _ k is (rw effect (quiet-memory (part_of q.op at) at q.datum)) (λ r. simp (stores, sym effect))

  module _ (a : Option Outcome) (c : Core) (v : ℕ) (below : at < length m) (calms : calm c ≡ true) where
    in_memory : place_of k.size (length m) at ≡ Place.There Target.Memory
    unfolding place_of pick
    in_memory = simp (lt-ltb at (length m) below)

    pub reached-fetch :
        (d : Core) → is_fetch q ≡ true → d ≡ fetch_noted c q
        → Sound a m (λ r. read_at m (job_of q d k r) at Target.Memory (word_judged (job_of q d k r) at Target.Memory (Entry.Mapped v))) k
        → Sound a m (λ r. outer_target m (job_of q (noted c q) k r) at (Entry.Mapped v) (place_of k.size (length m) at)) k
    unfolding outer_target paged_reached pick
    reached-fetch d f after s =
        owed_by a m _ _ k (λ r. simp (in_memory, f, noted-fetch c q (is_calm c calms) f, sym after)) s

    pub reached-other :
        (d : Core) → is_fetch q ≡ false → d ≡ other_noted c q → Sound a m (λ r. transferred m (job_of q d k r) at Target.Memory) k
        → Sound a m (λ r. outer_target m (job_of q (noted c q) k r) at (Entry.Mapped v) (place_of k.size (length m) at)) k
    unfolding outer_target paged_reached pick
    reached-other d f after s =
        owed_by a m _ _ k (λ r. simp (in_memory, f, noted_other c q (is_calm c calms) f, sym after)) s

-- a look-up that a cell answers
hit :
    (m : Memory) (user : Bool) (p : ℕ) (k : Cells) (i v : ℕ) → exec_zero user p ≡ false → cell_of k (tag_of user p) ≡ Some i
    → v ≡ (cell_at k i).word → (r : Maps) → looked m r user p k ≡ record { entry = Entry.Mapped v; cells = k }
unfolding looked sought_in pick
hit m user p k i v mapped found word r = simp (mapped, found, sym word)

module _ (m : Memory) (q : Access) (a : Option Outcome) (c : Core) where
  pub held_owed :
      (v page at : ℕ) → calm c ≡ true → judged q.op (watches c.fetch q) (Entry.Mapped v) ≡ Ok page
      → at ≡ physical_at page q.addr → (k : Cells)
      → Sound a m (λ r. outer_target m (job_of q (noted c q) k r) at (Entry.Mapped v) (place_of k.size (length m) at)) k
      → Sound a m (λ r. outer_ruled m (job_of q (noted c q) k r) (Entry.Mapped v) (judged q.op (watches (noted c q).fetch q) (Entry.Mapped v))) k
  unfolding outer_ruled
  held_owed v page at calms granted place k s =
      owed_by a m _ _ k (λ r. simp (noted-watches c q (is_calm c calms), granted, sym place)) s

  module _ (yes : usual (length m) c q ≡ true) where
    usual-calm : calm c ≡ true
    unfolding usual
    usual-calm = (both_true _ _ yes).0

    usual-steps :
        (k : Cells) (r : Maps) →
        accessed m k.size c r q
        ≡ ask c.ktcs.um (page_of q.addr)
        (λ e. outer_ruled m (job_of q (noted c q) k r) e (judged q.op (watches (noted c q).fetch q) e))
    unfolding usual accessed after_wait paged_from due_of due_when unpaged pick
    usual-steps k r =
        let h = is_calm c usual-calm in
        let s = both_true (well_shaped (length m) q) (not (odd_word q.width q.addr)) (both_true (calm c) _ yes).1 in
        let shaped : well_shaped (length m) q ≡ true = s.0 in
        let even : odd_word q.width q.addr ≡ false = not_true _ s.1 in
        simp (shaped, h.wait, h.fcn, even, noted-um c q h)
      where
        not_true : (b : Bool) → not b ≡ true → b ≡ false
        not_true true e = cc
        not_true false e = refl

    pub attempt_owed :
        (k : Cells) (i v : ℕ) → exec_zero c.ktcs.um (page_of q.addr) ≡ false
        → cell_of k (tag_of c.ktcs.um (page_of q.addr)) ≡ Some i → v ≡ (cell_at k i).word
        → (calm c ≡ true → (k : Cells) → Sound a m (λ r. outer_ruled m (job_of q (noted c q) k r) (Entry.Mapped v) (judged q.op (watches (noted c q).fetch q) (Entry.Mapped v))) k)
        → Sound a m (λ r. accessed m k.size c r q) k
    attempt_owed k i v mapped found word s =
        steps-owed a (s usual-calm k)
      where
        here : Maps → Prog
        here r = outer_ruled m (job_of q (noted c q) k r) (Entry.Mapped v) (judged q.op (watches (noted c q).fetch q) (Entry.Mapped v))

        steps-owed : (a : Option Outcome) → Sound a m here k → Sound a m (λ r. accessed m k.size c r q) k
        steps-owed None s = s
        steps-owed (Some o) s =
            record {
              runs =
                  λ r.
                  ap (λ (x : Prog). run m r x k) (usual-steps k r) ∙ run-ask m r _ _ _ k
                  ∙ ap (λ (l : Looked). run m r (outer_ruled m (job_of q (noted c q) k r) l.entry (judged q.op (watches (noted c q).fetch q) l.entry)) l.cells) (hit m c.ktcs.um (page_of q.addr) k i v mapped found word r)
                  ∙ s.runs r;
              quiet = s.quiet;
            }
