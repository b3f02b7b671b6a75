-- Step 4 of a usual access: what it comes to where nothing is waited for, FCN is 2, no flag is set and the instruction under way is plain.
use mathlib.Core.Path.{◌≡◌, refl, ap}
use mathlib.Core.Bool.{Bool, true, false, or-false}
use borrow.Author.Tests.{eqb-true}
use Rattle.rules.specs.declared.Kind.{Kind}
use Rattle.rules.specs.declared.Wait.{Wait}
use Rattle.rules.specs.declared.Core.{Core}
use Rattle.rules.specs.declared.Access.{Access}
use Rattle.rules.specs.Choice.{pick}
use Rattle.rules.specs.Unit.{with_ktcs, with_kept, with_fetch}
use Rattle.rules.specs.Status.{flags_clear, with_states}
use Rattle.rules.specs.Fetched.{kind_of, is_fetch, counted, normal, source_by, destination_by, source_set, destination_set, states_marked, instruction_noted, marked, noted}
use Rattle.rules.specs.Steps.{watches}
use Rattle.rules.proofs.Laws.Choices.{both_true}
use Rattle.quick.specs.Usual.{is_idle, is_plain, calm, fetch_noted, other_fetch, other_noted}

idle-is : (w : Wait) → is_idle w ≡ true → w ≡ Wait.Nothing
unfolding is_idle
idle-is Wait.Nothing h = refl
idle-is Wait.StatusDue h = cc
idle-is Wait.ProgramCounterDue h = cc
idle-is Wait.SecondReadDue h = cc

plain_is : (k : Kind) → is_plain k ≡ true → k ≡ Kind.Other
unfolding is_plain
plain_is Kind.Jsr h = cc
plain_is Kind.Rts h = cc
plain_is Kind.Rti h = cc
plain_is Kind.Trap h = cc
plain_is Kind.Privileged h = cc
plain_is Kind.EntryPoint h = cc
plain_is Kind.Other h = refl

pub record IsCalm (c : Core) : Type 0 where
  pub wait : c.wait ≡ Wait.Nothing
  pub fcn : c.ktcs.fcn ≡ 2
  pub flags : flags_clear c.ktcs ≡ true
  pub kind : kind_of c.fetch.newer ≡ Kind.Other

pub is_calm : (c : Core) → calm c ≡ true → IsCalm c
unfolding calm
is_calm c h =
    let h₃ = both_true _ _ h in
    let h₂ = both_true _ _ h₃.0 in
    let h₁ = both_true _ _ h₂.0 in
    record {
      wait = idle-is c.wait h₁.0;
      fcn = eqb-true _ _ h₁.1;
      flags = h₂.1;
      kind = plain_is _ h₃.1;
    }

module _ (c : Core) (q : Access) (h : IsCalm c) where
  pub noted-fetch : is_fetch q ≡ true → noted c q ≡ fetch_noted c q
  unfolding noted marked counted instruction_noted states_marked normal with_ktcs with_kept with_fetch fetch_noted pick
  noted-fetch f = simp (f, h.flags, h.fcn)

  in_normal : normal c.ktcs q ≡ true
  unfolding normal
  in_normal = simp h.fcn

  pub noted_other : is_fetch q ≡ false → noted c q ≡ other_noted c q
  unfolding noted marked counted instruction_noted states_marked source_set destination_set source_by destination_by with_ktcs with_kept with_fetch other_noted other_fetch pick
  noted_other f = simp (f, h.flags, in_normal, h.kind, or-false)

  -- a pair of facts that hold either way: the mode and the public flag stay
  either : (b : Bool) → is_fetch q ≡ b → ((noted c q).ktcs.um ≡ c.ktcs.um) × ((noted c q).fetch.public ≡ c.fetch.public)
  unfolding fetch_noted other_noted other_fetch with_states
  either true f = (ap (λ (x : Core). x.ktcs.um) (noted-fetch f), ap (λ (x : Core). x.fetch.public) (noted-fetch f))
  either false f = (ap (λ (x : Core). x.ktcs.um) (noted_other f), ap (λ (x : Core). x.fetch.public) (noted_other f))

  pub noted-um : (noted c q).ktcs.um ≡ c.ktcs.um
  noted-um = (either (is_fetch q) refl).0

  pub noted-watches : watches (noted c q).fetch q ≡ watches c.fetch q
  unfolding watches
  noted-watches = rw (either (is_fetch q) refl).1
