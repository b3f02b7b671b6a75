-- On the premises a run is that of the unit with no cells, and leaves cells that are true.
use mathlib.Core.Path.{◌≡◌, refl, sym, ap, ap₂, subst, ◌∙◌}
use mathlib.Core.Bool.{Bool, true, false, not, ◌&&◌}
use mathlib.Core.List.{List, [], ◌∷◌, ◌++◌}
use borrow.Author.Tests.{not-true}
use Rattle.rules.specs.Types.{Maps, Size, Cells, Unit, Call, Entry, Outcome}
use Rattle.rules.specs.Memory.{Memory}
use Rattle.rules.specs.Unit.{zero_unit}
use Rattle.rules.specs.Maps.{looked}
use Rattle.rules.specs.Program.{Prog, run, plain_run}
use Rattle.rules.specs.Order.{outcome}
use Rattle.rules.specs.Calls.{called, init_of, cells_after, settled, call_of, fresh}
use Rattle.rules.specs.Runs.{Seen, seen_in, seen_along, station_after, plain_of, plain_decision, plain_settled, plain_call, plain_in, plain_along, visit, visits_of, peeks, stores_pad, deed_in, deed_of, History, none_in_use, in_use_after, heard, none_outdated, allowed, meets, history_of}
use Rattle.rules.proofs.Laws.Choices.{true_is_not_false, both_true, both_false}
use Rattle.rules.proofs.Demand3.Visits.{in_use_after-append, none_outdated-left, none_outdated-right, none_outdated-in_use_after}
use Rattle.rules.proofs.Demand3.Uses.{held_true}
use Rattle.rules.proofs.Demand3.Always.{Always, ends, asks, peeks-at}
use Rattle.rules.proofs.Demand3.Endings.{Ending, call_ends}
use Rattle.rules.proofs.Demand3.Sound.{Sound, asked, effect-sound, emptied-sound}
use Rattle.rules.proofs.Laws.Pages.{page_by, nonzero_tag}
use Rattle.rules.proofs.Sizes.{size-stays}
use Rattle.rules.proofs.Demand3.Wellformed.{fresh-fit, station_fit}
use Rattle.rules.proofs.Promises.{CellsTrueAt, CellsTrueThroughout, SameAsPlain}

-- One call -------------------------------------------------------------------------------------------------------------------------

module _ (P : Outcome → Type 0) (m : Memory) (r : Maps) where
  -- what a program comes to: an outcome that is P, the same one without cells, and the invariant
  record Same (p : Prog) (k : Cells) (h : History) : Type 0 where
    always : P (run m r p k).outcome
    same : (run m r p k).outcome ≡ plain_run m r p
    sound : Sound m r (run m r p k).cells (in_use_after h (visits_of m r p k))

  same-run :
      {p : Prog} → Always P p → (k : Cells) (h : History) → Sound m r k h
      → peeks m r p k ≡ false → none_outdated h (visits_of m r p k) ≡ true → Same p k h
  unfolding run plain_run peeks visits_of in_use_after
  same-run (ends o) k h s e n = record { always = o; same = refl; sound = s }
  same-run (asks {user = user} {p = p} {f = f} b a) k h s e n =
      let vs = visit m r user p in
      let ws = visits_of m r (f (looked m r user p k).entry) (looked m r user p k).cells in
      let q = asked m r k h s user p b (none_outdated-left h vs ws n) in
      let c = same-run (a (looked m r user p k).entry) (looked m r user p k).cells (in_use_after h vs) q.sound e
      (none_outdated-in_use_after h vs ws ∙ none_outdated-right h vs ws n) in
      record {
        always = c.always;
        same = c.same ∙ ap (λ (x : Entry). plain_run m r (f x)) q.same;
        sound = subst (Sound m r _) (sym (in_use_after-append h vs ws)) c.sound;
      }
  same-run (peeks-at a) k h s e n = true_is_not_false e

module _ (m : Memory) (u : Unit) (h : History) (c : Call) (s : Sound m u.maps u.cells h) (a : allowed h (deed_of m u c) ≡ true) where
  unreached : (peeks m u.maps (called m u.cells.size u.core u.maps c) u.cells ≡ false) × (stores_pad (deed_of m u c).effect ≡ false)
  unfolding allowed deed_of deed_in
  unreached = both_false _ _ (not-true (deed_of m u c).reaches (both_true _ (none_outdated h (deed_of m u c).visits) a).0)

  call-run : Same (Ending u.core) m u.maps (called m u.cells.size u.core u.maps c) u.cells h
  unfolding allowed deed_of deed_in
  call-run =
      same-run (Ending u.core) m u.maps (call_ends u.core m u.cells.size u.maps c) u.cells h s unreached.0
      (both_true (not (deed_of m u c).reaches) _ a).1

  call_same : seen_in (call_of m u c) ≡ plain_call m (plain_of u) c
  unfolding seen_in call_of settled plain_call plain_settled plain_decision plain_of
  call_same = ap (plain_settled m u.maps) call-run.same

  call-sound :
      Sound (call_of m u c).memory (call_of m u c).reply.unit.maps (call_of m u c).reply.unit.cells (heard h (deed_of m u c))
  unfolding call_of settled heard deed_of deed_in
  call-sound = effect-sound m u.maps _ _ _ call-run.always.even unreached.1 call-run.sound

-- A run ----------------------------------------------------------------------------------------------------------------------------

run-same :
    (m : Memory) (u : Unit) (h : History) (cs : List Call) → Sound m u.maps u.cells h → meets m u h cs ≡ true
    → seen_along m u cs ≡ plain_along m (plain_of u) cs
unfolding seen_along plain_along meets seen_in plain_in plain_of
run-same m u h [] s e = refl
run-same m u h (c ∷ cs) s e =
    let (a, b) = both_true (allowed h (deed_of m u c)) _ e in
    rw (← call_same m u h c s a)
    (ap (λ (l : List Seen). seen_in (call_of m u c) ∷ l)
    (run-same (call_of m u c).memory (call_of m u c).reply.unit (heard h (deed_of m u c)) cs (call-sound m u h c s a) b
    ∙ ap (λ (x : Size). plain_along (call_of m u c).memory (plain_in x (seen_in (call_of m u c))) cs) (size-stays m u c)))

run_sound :
    (m : Memory) (u : Unit) (h : History) (cs : List Call) → Sound m u.maps u.cells h → meets m u h cs ≡ true
    → Sound (station_after m u cs).memory (station_after m u cs).unit.maps (station_after m u cs).unit.cells (history_of m u h cs)
unfolding station_after history_of meets
run_sound m u h [] s e = s
run_sound m u h (c ∷ cs) s e =
    let (a, b) = both_true (allowed h (deed_of m u c)) _ e in
    run_sound (call_of m u c).memory (call_of m u c).reply.unit (heard h (deed_of m u c)) cs (call-sound m u h c s a) b

meets-prefix : (m : Memory) (u : Unit) (h : History) (cs ds : List Call) → meets m u h (cs ++ ds) ≡ true → meets m u h cs ≡ true
unfolding meets
meets-prefix m u h [] ds e = refl
meets-prefix m u h (c ∷ cs) ds e =
    let (a, b) = both_true (allowed h (deed_of m u c)) _ e in
    ap₂ (λ (x y : Bool). x && y) a (meets-prefix (call_of m u c).memory (call_of m u c).reply.unit (heard h (deed_of m u c)) cs ds b)

-- before the first call no page is in use, and all cells are empty
fresh-sound : (s : Size) (m : Memory) → Sound m (fresh s).maps (fresh s).cells none_in_use
unfolding fresh call_of settled run called init_of outcome cells_after none_in_use
fresh-sound s m = emptied-sound m (fresh s).maps (zero_unit s).cells

-- Demand 3, second part --------------------------------------------------------------------------------------------------------------

-- at the end of a run, and so after each of its calls
cells-true :
    (s : Size) (m : Memory) (cs : List Call) → meets m (fresh s) none_in_use cs ≡ true
    → CellsTrueAt (station_after m (fresh s) cs) (history_of m (fresh s) none_in_use cs)
cells-true s m cs e i z o =
    let p = page_by _ ((station_fit m (fresh s) cs (fresh-fit s)).cells.tags i) in
    record {
      user = p.user;
      page = p.page;
      below = p.below;
      tag = p.same;
      word =
          held_true
          ((run_sound m (fresh s) none_in_use cs (fresh-sound s m) e).held i p.user p.page p.below
          (nonzero_tag p.user p.page (λ t. z (p.same ∙ t))) p.same) (rw p.same at o);
    }

pub cells_true_throughout : CellsTrueThroughout
cells_true_throughout s m cs ds e = cells-true s m cs (meets-prefix m (fresh s) none_in_use cs ds e)

pub same_as_plain : SameAsPlain
same_as_plain s m cs e = run-same m (fresh s) none_in_use cs (fresh-sound s m) e
