-- The tests that a way to end names settle the call: no other ending has them.
use Prim.Native.Nat.{ℕ}
use mathlib.Core.Bool.{Bool, false}
use mathlib.Core.Path.{◌≡◌, refl, ◌∙◌}
use lib.ListN.{length}
use Rattle.std.specs.Prelude.{Result}
use Rattle.rules.specs.Types.{Cells, Unit, Access, Call, Target, Entry, Fault, Job, Ran}
use Rattle.rules.specs.Choice.{pick}
use Rattle.rules.specs.Memory.{Memory}
use Rattle.rules.specs.Registers.{place_of}
use Rattle.rules.specs.Maps.{unpaged, unpaged_at}
use Rattle.rules.specs.Steps.{keys_of, judged, watches}
use Rattle.rules.specs.Program.{Prog, run}
use Rattle.rules.specs.Order.{outcome, refused, faulted, outer_fault, transferred, fetched, word_judged, unpaged_reached, unpaged_time_out, unpaged_target, unpaged_from, inner_fault, inner_target, inner_ruled, windowed, paged_reached, outer_target, outer_ruled, paged_from, sequenced, after_wait, accessed}
use Rattle.rules.specs.Calls.{interrupt_of, trap_of, init_of, called}
use Rattle.rules.proofs.Laws.RunLaws.{run-read_at}
use Rattle.rules.proofs.Promises.{job, outer, inner, Begun, Unpaged, Paged}
use Rattle.rules.proofs.Statements.Ways.{outer_at, inner_at, Keys, off-map, not_resident, not_writable, not_public, granted, at_exec_zero, fault_ending, Transfer, read, store}
use Rattle.rules.proofs.Statements.Ways.{UnpagedThere, Asked, Granted, PagedThere, Windowed, InnerAsked, InnerGranted, InnerThere}
use Rattle.rules.proofs.Statements.Ways.{AtFault, odd, keys_refuse, nowhere, window_by_fetch, forbidden-word, inner-odd, inner_keys_refuse, inner-nowhere, window_on_window}
use Rattle.rules.proofs.Statements.Ways.{Way, misshapen, late, stored_status, stored_program_counter, first_read, second_read, unpaged-odd, unpaged-nowhere, unpaged-window, unpaged-fetch, unpaged-transfer, violation, fetch, transfer, inner-transfer}
use Rattle.rules.proofs.Statements.Ways.{access, interrupt_late, interrupt_taken, unlisted, trap_late, taken_trap, init, decided, Settled}

pub keys_judged : {op : ℕ} {watched : Bool} {e : Entry} {g : Result ℕ Fault} → Keys op watched e g → judged op watched e ≡ g
unfolding judged keys_of pick
keys_judged off-map = refl
keys_judged at_exec_zero = refl
keys_judged (not_resident r) = rw r
keys_judged (not_writable r l) = rw (r, l)
keys_judged (not_public r l h) = rw (r, l, h)
keys_judged (granted r l h) = rw (r, l, h)

module _ (m : Memory) (u : Unit) where
  transferred-so :
      {j : Job} {k : Cells} {at : ℕ} {t : Target} {d : Ran} → Transfer m j k at t d → run m u.maps (transferred m j at t) k ≡ d
  unfolding transferred pick run outcome
  transferred-so (read e) = rw (e, run-read_at)
  transferred-so (store e) = rw e

  module _ (q : Access) where
    -- the access goes on by this program, with the cells so far
    abbrev GoesOn : Cells → Prog → Type 0
    GoesOn k p = decided m u (Call.Access q) ≡ run m u.maps p k

    begun_so :
        Begun m u q
        → GoesOn u.cells
        (pick (unpaged u.core.ktcs.fcn q.state) (unpaged_from m u.cells.size u.core u.maps q) (paged_from m (job u q)))
    unfolding called accessed after_wait pick
    begun_so s = rw (s.shaped, s.due)

    unpaged-so :
        Unpaged m u q → GoesOn u.cells (unpaged_target m (job u q) (unpaged_at q.addr) (place_of u.cells.size (length m) (unpaged_at q.addr)))
    unfolding unpaged_from pick
    unpaged-so s = begun_so s.steps ∙ rw (s.mode, s.even)

    unpaged_there_so : {t : Target} → UnpagedThere m u q t → GoesOn u.cells (unpaged_reached m (job u q) (unpaged_at q.addr) t)
    unfolding unpaged_target
    unpaged_there_so s = unpaged-so s.steps ∙ rw s.place

    paged_so : Paged m u q → GoesOn u.cells (paged_from m (job u q))
    unfolding pick
    paged_so s = begun_so s.steps ∙ rw s.mode

    asked_so :
        Asked m u q
        → GoesOn (outer m u q).cells
        (outer_ruled m (job u q) (outer m u q).entry (judged q.op (watches (job u q).core.fetch q) (outer m u q).entry))
    unfolding paged_from pick run
    asked_so s = paged_so s.steps ∙ rw s.even

    granted_so :
        {page : ℕ} → Granted m u q page
        → GoesOn (outer m u q).cells
        (outer_target m (job u q) (outer_at q page) (outer m u q).entry (place_of u.cells.size (length m) (outer_at q page)))
    unfolding outer_ruled
    granted_so s = asked_so s.steps ∙ rw (keys_judged s.keys)

    paged_there_so :
        {page : ℕ} {t : Target} → PagedThere m u q page t
        → GoesOn (outer m u q).cells (paged_reached m (job u q) (outer_at q page) (outer m u q).entry t)
    unfolding outer_target
    paged_there_so s = granted_so s.steps ∙ rw s.place

    windowed-so : Windowed m u q → GoesOn (outer m u q).cells (windowed m (job u q))
    unfolding outer_target pick
    windowed-so s = granted_so s.steps ∙ rw (s.place, s.no_fetch)

    inner_asked_so :
        InnerAsked m u q → GoesOn (inner m u q).cells (inner_ruled m (job u q) (judged q.op false (inner m u q).entry))
    unfolding windowed pick run
    inner_asked_so s = windowed-so s.steps ∙ rw s.even

    inner_granted_so :
        {page : ℕ} → InnerGranted m u q page
        → GoesOn (inner m u q).cells (inner_target m (job u q) (inner_at u q page) (place_of u.cells.size (length m) (inner_at u q page)))
    unfolding inner_ruled
    inner_granted_so s = inner_asked_so s.steps ∙ rw (keys_judged s.keys)

    inner_there_so :
        {page : ℕ} {t : Target} → InnerThere m u q page t → GoesOn (inner m u q).cells (transferred m (job u q) (inner_at u q page) t)
    unfolding inner_target
    inner_there_so s = inner_granted_so s.steps ∙ rw s.place

    -- what refuses an access determines what it decided
    refused-so :
        {f : Fault} {window : Bool} {tag : ℕ} {k : Cells} → AtFault m u q f window tag k
        → decided m u (Call.Access q) ≡ fault_ending u q f window tag k
    unfolding paged_from outer_ruled outer_target paged_reached word_judged windowed inner_ruled inner_target outer_fault inner_fault faulted pick run outcome
    refused-so (odd s e) = paged_so s ∙ rw e
    refused-so (keys_refuse s h) = asked_so s ∙ rw (keys_judged h)
    refused-so (nowhere s e) = granted_so s ∙ rw e
    refused-so (window_by_fetch s e t) = granted_so s ∙ rw (e, t)
    refused-so (forbidden-word s t r e) = paged_there_so s ∙ rw (t, run-read_at, r, e)
    refused-so (inner-odd s e) = windowed-so s ∙ rw e
    refused-so (inner_keys_refuse s h) = inner_asked_so s ∙ rw (keys_judged h)
    refused-so (inner-nowhere s e) = inner_granted_so s ∙ rw e
    refused-so (window_on_window s e) = inner_granted_so s ∙ rw e

    -- and so does the way in which it ends
    ended_so : {d : Ran} → Way m u q d → decided m u (Call.Access q) ≡ d
    unfolding called accessed after_wait unpaged_from unpaged_target unpaged_reached unpaged_time_out paged_reached word_judged fetched refused sequenced pick run outcome
    ended_so (misshapen e) = rw e
    ended_so (late s e) = rw (s, e)
    ended_so (stored_status s e) = rw (s, e)
    ended_so (stored_program_counter s e) = rw (s, e)
    ended_so (first_read s e) = rw (s, e)
    ended_so (second_read s e) = rw (s, e)
    ended_so (unpaged-odd s t e) = begun_so s ∙ rw (t, e)
    ended_so (unpaged-nowhere s e) = unpaged-so s ∙ rw e
    ended_so (unpaged-window s e) = unpaged-so s ∙ rw e
    ended_so (unpaged-fetch s t r) = unpaged_there_so s ∙ rw (t, run-read_at, r)
    ended_so (unpaged-transfer s e t) = unpaged_there_so s ∙ rw e (transferred-so t)
    ended_so (violation r) = refused-so r
    ended_so (fetch s t r e) = paged_there_so s ∙ rw (t, run-read_at, r, e)
    ended_so (transfer s e t) = paged_there_so s ∙ rw e (transferred-so t)
    ended_so (inner-transfer s t) = inner_there_so s ∙ transferred-so t

pub determined : Settled
unfolding called interrupt_of trap_of init_of refused sequenced pick run outcome
determined m u c d (access {q} w) = ended_so m u q w
determined m u c d (interrupt_late e) = rw e
determined m u c d (interrupt_taken e) = rw e
determined m u c d (unlisted e) = rw e
determined m u c d (trap_late s e) = rw (s, e)
determined m u c d (taken_trap s e) = rw (s, e)
determined m u c d init = refl
