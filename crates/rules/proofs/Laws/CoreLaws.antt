-- FCN, UM, the wait and the counts of a core stay in agreement, whatever the steps and the sequences do to it.
use mathlib.Core.Path.{◌≡◌, refl, sym, subst}
use mathlib.Core.Bool.{Bool, true, ◌&&◌}
use mathlib.Core.List.{List}
use Prim.Native.Nat.{ℕ, ◌+◌, ◌≤◌, ◌<◌}
use native.Mathlib.Omega.{arith}
use lib.Dec.{eqb, ltb}
use borrow.Author.Tests.{eqb-false, ltb-true, ltb-false, not-true}
use Rattle.rules.specs.Types.{Ktcs, Fetch, Wait, Core, Access, Operating, Part, Fault}
use Rattle.rules.specs.Unit.{clear_fetch, clear_ktcs, with_ktcs, with_kept, with_fetch, init_core}
use Rattle.rules.specs.Status.{with_modes, with_states, with_flags, flags_clear, fcn_stored, ktcs_stored}
use Rattle.rules.specs.Fetched.{is_fetch, is_dato, one_more, counted, normal, states_marked, instruction_noted, marked, noted, after_fetch}
use Rattle.rules.specs.Sequences.{service_awaited, flagged, start_ended, lines_kept, fault_data, violated, timed_out, status_stored, program_counter_stored, first_read_done, user_started, interrupted, trap_taken, trapped, idle}
use Rattle.rules.specs.Order.{core_stored}
use Rattle.rules.proofs.Laws.Choices.{true_is_not_false, picked}
use Rattle.rules.proofs.Promises.{WaitFits, CoreFit}

-- "each stops at 2", and DATOs are among the accesses
record CountsFit (f : Fetch) : Type 0 where
  datos : f.datos ≤ f.accesses
  accesses : f.accesses ≤ 2

-- a core that is as it must be, and waits for nothing
pub record Calm (c : Core) : Type 0 where
  pub fcn : c.ktcs.fcn < 4
  pub wait : c.wait ≡ Wait.Nothing
  pub datos : c.fetch.datos ≤ c.fetch.accesses
  pub accesses : c.fetch.accesses ≤ 2

nothing_fits : (w : Wait) (fcn : ℕ) (um : Bool) → w ≡ Wait.Nothing → WaitFits w fcn um
nothing_fits w fcn um e = subst (λ (w : Wait). WaitFits w fcn um) (sym e) (record {})

pub calm-fits : {c : Core} → Calm c → CoreFit c
calm-fits {c} h = record { fcn = h.fcn; wait = nothing_fits c.wait _ _ h.wait; datos = h.datos; accesses = h.accesses }

-- Step 4 -----------------------------------------------------------------------------------------------------------------------

counts_at : (c : Core) → CoreFit c → CountsFit c.fetch
counts_at c h = record { datos = h.datos; accesses = h.accesses }

pub one_more-most : (n : ℕ) → one_more n ≤ 2
unfolding one_more
one_more-most n = picked (λ (x : ℕ). x ≤ 2) (ltb n 2) _ _ (λ t. omega (arith, ltb-true n 2 t)) (λ t. omega arith)

one_more-up : (a b : ℕ) → b ≤ 2 → a ≤ b → a ≤ one_more b
unfolding one_more
one_more-up a b h l = picked (λ (x : ℕ). a ≤ x) (ltb b 2) _ _ (λ t. omega arith) (λ t. omega arith)

one_more-both : (a b : ℕ) → b ≤ 2 → a ≤ b → one_more a ≤ one_more b
unfolding one_more
one_more-both a b h l =
    picked (λ (x : ℕ). one_more a ≤ x) (ltb b 2) _ _
    (λ t. picked (λ (x : ℕ). x ≤ b + 1) (ltb a 2) _ _ (λ t₁. omega arith) (λ t₁. omega (arith, ltb-true b 2 t, ltb-false a 2 t₁)))
    (λ t. one_more-most a)

counted-fit : (q : Access) (f : Fetch) → CountsFit f → CountsFit (counted q f)
unfolding counted
counted-fit q f h =
    picked CountsFit (is_fetch q) _ _ (λ t. h)
    (λ t. record {
      datos =
          picked (λ (x : ℕ). x ≤ one_more f.accesses) (is_dato q) _ _ (λ t₁. one_more-both _ _ h.accesses h.datos)
          (λ t₁. one_more-up _ _ h.accesses h.datos);
      accesses = one_more-most f.accesses;
    })

-- SS and DS move, FCN stays
states_marked-fcn : (s : Ktcs) (f : Fetch) (q : Access) → (states_marked s f q).fcn ≡ s.fcn
unfolding states_marked with_states
states_marked-fcn s f q =
    picked (λ (x : Ktcs). x.fcn ≡ s.fcn) (is_fetch q) _ _
    (λ t. picked (λ (x : Ktcs). x.fcn ≡ s.fcn) (normal s q) _ _ (λ t₁. refl) (λ t₁. refl)) (λ t. refl)

pub noted-calm : (c : Core) (q : Access) → c.wait ≡ Wait.Nothing → CoreFit c → Calm (noted c q)
unfolding noted marked instruction_noted with_ktcs with_kept with_fetch
noted-calm c q w h =
    picked Calm (flags_clear c.ktcs) _ _
    (λ t. picked (λ (x : Core). Calm (with_ktcs x (states_marked c.ktcs c.fetch q))) (is_fetch q && normal c.ktcs q) _ _
    (λ t₁. record { fcn = f; wait = w; datos = n.datos; accesses = n.accesses })
    (λ t₁. record { fcn = f; wait = w; datos = n.datos; accesses = n.accesses }))
    (λ t. record { fcn = h.fcn; wait = w; datos = n.datos; accesses = n.accesses })
  where
    n : CountsFit (counted q c.fetch)
    n = counted-fit q c.fetch (counts_at c h)

    f : (states_marked c.ktcs c.fetch q).fcn < 4
    f = rw (states_marked-fcn c.ktcs c.fetch q) h.fcn

-- The end of an access ---------------------------------------------------------------------------------------------------------

flagged-fcn : (s : Ktcs) (f : Fault) → (flagged s f).fcn ≡ s.fcn
unfolding flagged with_flags
flagged-fcn s Fault.OddAddress = refl
flagged-fcn s Fault.NoMapWord = refl
flagged-fcn s Fault.NotResident = refl
flagged-fcn s Fault.NotWritable = refl
flagged-fcn s Fault.NotPublic = refl
flagged-fcn s Fault.NoTarget = refl
flagged-fcn s (Fault.Forbidden w at) = refl

-- what a violation, an interrupt and a trap share
left-fits : (s : Ktcs) (kept : List ℕ) → s.fcn < 4 → (s.fcn ≡ 3 → ⊥) → CoreFit (service_awaited s kept)
unfolding service_awaited with_modes clear_fetch
left-fits s kept h n = record { fcn = h; wait = (refl, n); datos = omega arith; accesses = omega arith }

start_ended-ended : (s : Ktcs) → s.fcn < 4 → ((start_ended s).fcn < 4) × ((start_ended s).fcn ≡ 3 → ⊥)
unfolding start_ended with_modes
start_ended-ended s h =
    picked (λ (x : ℕ). (x < 4) × (x ≡ 3 → ⊥)) (eqb s.fcn 3) 2 s.fcn (λ t. omega arith) (λ t. (h, eqb-false s.fcn 3 t))

pub violated-fits : (c : Core) (q : Access) (inner : Bool) (f : Fault) → Calm c → CoreFit (violated c q inner f)
unfolding violated
violated-fits c q inner f h =
    let (b, n) = start_ended-ended c.ktcs h.fcn in
    let e = flagged-fcn (start_ended c.ktcs) f in
    left-fits (flagged (start_ended c.ktcs) f) (lines_kept c.kept inner q.addr (fault_data q f)) (rw e b) (rw e n)

pub timed_out-calm : (c : Core) (q : Access) → Calm c → Calm (timed_out c q)
unfolding timed_out with_kept
timed_out-calm c q h = record { fcn = h.fcn; wait = h.wait; datos = h.datos; accesses = h.accesses }

pub fetched-calm : (c : Core) (w : ℕ) (flag : Bool) → Calm c → Calm (with_fetch c (after_fetch c.fetch w flag))
unfolding with_fetch after_fetch
fetched-calm c w flag h = record { fcn = h.fcn; wait = h.wait; datos = omega arith; accesses = omega arith }

fcn_stored-below : (fcn : ℕ) (p : Part) (v : ℕ) → fcn < 4 → fcn_stored fcn p v < 4
unfolding fcn_stored
fcn_stored-below fcn Part.Whole v h = omega arith
fcn_stored-below fcn Part.Low v h = omega arith
fcn_stored-below fcn Part.High v h = h

pub stored-calm : (c : Core) (p : Part) (v : ℕ) (g : Operating) → Calm c → Calm (core_stored c p v g)
unfolding core_stored with_ktcs with_kept ktcs_stored with_flags with_modes
stored-calm c p v Operating.Ktcs h =
    record { fcn = fcn_stored-below c.ktcs.fcn p v h.fcn; wait = h.wait; datos = h.datos; accesses = h.accesses }
stored-calm c p v (Operating.Kept i) h = record { fcn = h.fcn; wait = h.wait; datos = h.datos; accesses = h.accesses }
stored-calm c p v Operating.Ktum h = h
stored-calm c p v Operating.Ktem h = h

-- The sequence accesses and the other calls ------------------------------------------------------------------------------------

pub status_stored-fits : (c : Core) (v : ℕ) → c.wait ≡ Wait.StatusDue → CoreFit c → CoreFit (status_stored c v)
unfolding status_stored
status_stored-fits c v w h = record { fcn = h.fcn; wait = rw w at h.wait; datos = h.datos; accesses = h.accesses }

pub program_counter_stored-fits : (c : Core) (a v : ℕ) → CoreFit c → CoreFit (program_counter_stored c a v)
unfolding program_counter_stored
program_counter_stored-fits c a v h = record { fcn = h.fcn; wait = record {}; datos = h.datos; accesses = h.accesses }

pub first_read_done-fits : (c : Core) → c.ktcs.fcn ≡ 3 → CoreFit c → CoreFit (first_read_done c)
unfolding first_read_done
first_read_done-fits c e h = record { fcn = h.fcn; wait = e; datos = h.datos; accesses = h.accesses }

pub user_started-fits : (c : Core) → CoreFit (user_started c)
unfolding user_started with_modes clear_fetch
user_started-fits c = record { fcn = omega arith; wait = record {}; datos = omega arith; accesses = omega arith }

pub init_core-fits : (c : Core) → CoreFit (init_core c)
unfolding init_core clear_ktcs clear_fetch
init_core-fits c = record { fcn = omega arith; wait = record {}; datos = omega arith; accesses = omega arith }

-- only where nothing is waited for may an interrupt or a trap come
idle-waits : (w : Wait) (fcn : ℕ) → idle w fcn ≡ true → (w ≡ Wait.Nothing) × (fcn ≡ 3 → ⊥)
unfolding idle
idle-waits Wait.Nothing fcn e = (refl, eqb-false fcn 3 (not-true (eqb fcn 3) e))
idle-waits Wait.StatusDue fcn e = true_is_not_false (sym e)
idle-waits Wait.ProgramCounterDue fcn e = true_is_not_false (sym e)
idle-waits Wait.SecondReadDue fcn e = true_is_not_false (sym e)

pub interrupted-fits : (c : Core) → idle c.wait c.ktcs.fcn ≡ true → CoreFit c → CoreFit (interrupted c)
unfolding interrupted with_ktcs with_modes
interrupted-fits c i h =
    let (w, n) = idle-waits c.wait c.ktcs.fcn i in
    picked CoreFit c.ktcs.um _ _ (λ t. left-fits c.ktcs c.kept h.fcn n)
    (λ t. record { fcn = h.fcn; wait = nothing_fits c.wait _ _ w; datos = h.datos; accesses = h.accesses })

pub trapped-fits : (c : Core) (v : ℕ) → idle c.wait c.ktcs.fcn ≡ true → CoreFit c → CoreFit (trapped c v)
unfolding trapped
trapped-fits c v i h =
    picked CoreFit (trap_taken c v) _ _ (λ t. left-fits c.ktcs c.kept h.fcn (idle-waits c.wait c.ktcs.fcn i).1) (λ t. h)
