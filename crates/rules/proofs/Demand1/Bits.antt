-- Physical addresses have 18 bits: a page that the keys grant is one of 512.
use Prim.Native.Nat.{ℕ, ◌%◌, ◌<◌}
use mathlib.Core.Bool.{Bool}
use mathlib.Core.Path.{◌≡◌, refl}
use native.Mathlib.Omega.{arith}
use lib.Dec.{ltb}
use Rattle.std.specs.Prelude.{Option, Some, None, Ok, Err}
use Rattle.rules.specs.Types.{Maps, Cells, Unit, Access, Register, Target, Walked, Entry, Looked, Fault, Job, Ran}
use Rattle.rules.specs.Memory.{Memory}
use Rattle.rules.specs.Maps.{unpaged_at, physical_at, low9, exec_zero, exec_zero_entry, walk_of, entry_of, tag_of, cell_of, missed, sought_in, looked}
use Rattle.rules.specs.Order.{outcome, stored_in, stored_at}
use Rattle.rules.specs.Calls.{settled, call_of}
use Rattle.rules.specs.Answers.{shown_as, fault_shown, shown}
use Rattle.rules.proofs.Laws.Choices.{picked}
use Rattle.rules.proofs.Promises.{EighteenBits}
use Rattle.rules.proofs.Statements.Ways.{Keys, off-map, not_resident, not_writable, not_public, granted, at_exec_zero, Transfer, read, store}
use Rattle.rules.proofs.Statements.Ways.{Granted, InnerGranted}
use Rattle.rules.proofs.Statements.Ways.{AtFault, odd, keys_refuse, nowhere, window_by_fetch, forbidden-word, inner-odd, inner_keys_refuse, inner-nowhere, window_on_window}
use Rattle.rules.proofs.Statements.Ways.{Way, misshapen, late, stored_status, stored_program_counter, first_read, second_read, unpaged-odd, unpaged-nowhere, unpaged-window, unpaged-fetch, unpaged-transfer, violation, fetch, transfer, inner-transfer}
use Rattle.rules.proofs.Demand1.Why.{way}

-- exec page 0's physical page, as a look-up gives it
module _ (m : Memory) (r : Maps) (user : Bool) (p : ℕ) (k : Cells) (page : ℕ) where
  missed-page : (w : Option Walked) → (missed k (tag_of user p) w).entry ≡ Entry.ExecZero page → page < 512
  unfolding missed entry_of
  missed-page (Some w) e = absurd (let z : ◌≡◌ {A = ℕ} 0 1 = cc in omega arith)
  missed-page None e = absurd (let z : ◌≡◌ {A = ℕ} 0 1 = cc in omega arith)

  sought_page : (x : Option ℕ) → (sought_in m r user p k x).entry ≡ Entry.ExecZero page → page < 512
  unfolding sought_in
  sought_page (Some i) e = absurd (let z : ◌≡◌ {A = ℕ} 0 1 = cc in omega arith)
  sought_page None e = missed-page (walk_of m r user p) e

  looked-page : (looked m r user p k).entry ≡ Entry.ExecZero page → page < 512
  unfolding looked exec_zero_entry low9
  looked-page =
      picked (λ (l : Looked). l.entry ≡ Entry.ExecZero page → page < 512) (exec_zero user p) _ _
      (λ t e. let z : r.ktem % 512 ≡ page = cc in omega arith) (λ t. sought_page (cell_of k (tag_of user p)))

granted_page :
    {op : ℕ} {watched : Bool} {e : Entry} {page : ℕ} → Keys op watched e (Ok page)
    → ((p : ℕ) → e ≡ Entry.ExecZero p → p < 512) → page < 512
unfolding low9
granted_page (granted r l h) z = omega arith
granted_page at_exec_zero z = z _ refl

paged_bits : (page a : ℕ) → page < 512 → physical_at page a < 0o1000000
unfolding physical_at low9
paged_bits page a h = omega arith

unpaged-bits : (a : ℕ) → a < 0o200000 → unpaged_at a < 0o1000000
unfolding unpaged_at
unpaged-bits a h = picked (λ (x : ℕ). x < 0o1000000) (ltb a 0o160000) _ _ (λ t. omega arith) (λ t. omega arith)

module _ {m : Memory} {u : Unit} {q : Access} where
  outer-bits : {page : ℕ} → Granted m u q page → (a : ℕ) → physical_at page a < 0o1000000
  outer-bits {page} s a = paged_bits page a (granted_page s.keys (looked-page m u.maps _ _ u.cells))

  inner-bits : {page : ℕ} → InnerGranted m u q page → (a : ℕ) → physical_at page a < 0o1000000
  inner-bits {page} s a = paged_bits page a (granted_page s.keys (looked-page m u.maps _ _ _))

-- a physical address that comes back is the one that was come to
given : {to at : ℕ} → to < 0o1000000 → Some to ≡ Some at → at < 0o1000000
given {to} {at} b h = let z : to ≡ at = cc in omega arith

none : {at : ℕ} → None ≡ Some at → at < 0o1000000
none h = absurd (let z : ◌≡◌ {A = ℕ} 0 1 = cc in omega arith)

keys_bits :
    {op : ℕ} {watched : Bool} {e : Entry} {f : Fault} {at : ℕ} → Keys op watched e (Err f)
    → (fault_shown f).physical ≡ Some at → at < 0o1000000
unfolding fault_shown shown_as
keys_bits off-map h = none h
keys_bits (not_resident r) h = none h
keys_bits (not_writable r l) h = none h
keys_bits (not_public r l x) h = none h

transfer_bits :
    {m : Memory} {j : Job} {k : Cells} {to at : ℕ} {t : Target} {d : Ran} → to < 0o1000000 → Transfer m j k to t d
    → (shown d.outcome.answer).physical ≡ Some at → at < 0o1000000
unfolding outcome stored_in stored_at shown shown_as
transfer_bits b (read e) h = given b h
transfer_bits {t = Target.Memory} b (store e) h = given b h
transfer_bits {t = Target.In (Register.Operating g)} b (store e) h = given b h
transfer_bits {t = Target.In (Register.Associative g)} b (store e) h = given b h

module _ {m : Memory} {u : Unit} {q : Access} where
  fault_bits :
      {f : Fault} {window : Bool} {tag : ℕ} {k : Cells} {at : ℕ} → AtFault m u q f window tag k
      → (fault_shown f).physical ≡ Some at → at < 0o1000000
  unfolding fault_shown shown_as
  fault_bits (odd s e) h = none h
  fault_bits (keys_refuse s x) h = keys_bits x h
  fault_bits (nowhere s e) h = none h
  fault_bits (window_by_fetch s e t) h = none h
  fault_bits (forbidden-word s t r e) h = given (outer-bits s.steps q.addr) h
  fault_bits (inner-odd s e) h = none h
  fault_bits (inner_keys_refuse s x) h = keys_bits x h
  fault_bits (inner-nowhere s e) h = none h
  fault_bits (window_on_window s e) h = none h

  way_bits :
      {d : Ran} {at : ℕ} → q.addr < 0o200000 → Way m u q d → (shown d.outcome.answer).physical ≡ Some at → at < 0o1000000
  unfolding shown fault_shown shown_as
  way_bits b (misshapen e) h = none h
  way_bits b (late s e) h = none h
  way_bits b (stored_status s e) h = none h
  way_bits b (stored_program_counter s e) h = none h
  way_bits b (first_read s e) h = none h
  way_bits b (second_read s e) h = none h
  way_bits b (unpaged-odd s t e) h = none h
  way_bits b (unpaged-nowhere s e) h = none h
  way_bits b (unpaged-window s e) h = none h
  way_bits b (unpaged-fetch s t r) h = given (unpaged-bits q.addr b) h
  way_bits b (unpaged-transfer s e t) h = transfer_bits (unpaged-bits q.addr b) t h
  way_bits b (violation r) h = fault_bits r h
  way_bits b (fetch s t r e) h = given (outer-bits s.steps q.addr) h
  way_bits b (transfer s e t) h = transfer_bits (outer-bits s.steps q.addr) t h
  way_bits b (inner-transfer s t) h = transfer_bits (inner-bits s.steps _) t h

pub eighteen_bits : EighteenBits
unfolding call_of settled
eighteen_bits m u q at b h = way_bits b (way m u q) h
