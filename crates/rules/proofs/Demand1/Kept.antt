-- Field by field, what step 4, step 6, a time-out, a violation and the emptying of a cell leave alone.
use Prim.Native.Nat.{ℕ, ◌<◌}
use mathlib.Core.Bool.{Bool, true, false, not, ◌&&◌, ◌||◌, true≢false, and-eq-true_iff, or-true, or-false}
use mathlib.Core.Path.{◌≡◌, refl, sym, ap, ◌∙◌}
use mathlib.Core.Logic.{◌≢◌}
use mathlib.Core.List.{List, [], ◌∷◌, map}
use native.Mathlib.Omega.{arith}
use lib.Dec.{eqb}
use lib.ListN.{length, get_or, set, length-set, length-map, get_or-map}
use lib.Seq.{get_or-set_other}
use borrow.Author.Tests.{eqb-true, ne_eqb}
use Rattle.std.specs.Prelude.{Option, Some, None}
use Rattle.rules.specs.Types.{Ktcs, Fetch, Core, Maps, Cell, Cells, Access, Kind, Walked, Entry, Fault, Answer}
use Rattle.rules.specs.Choice.{pick}
use Rattle.rules.specs.Memory.{Memory}
use Rattle.rules.specs.Unit.{there, empty_cell, cell_at, with_ktcs, with_kept, with_fetch}
use Rattle.rules.specs.Status.{with_modes, with_states, with_flags, flags_clear}
use Rattle.rules.specs.Registers.{ktic, ktad, ktdt}
use Rattle.rules.specs.Maps.{unpaged, exec_zero, tag_of, cell_of, walk_of, entry_of, filled, filled_by, missed, sought_in, looked, holds, cell_forgotten, forgotten}
use Rattle.rules.specs.Fetched.{is_fetch, is_dato, kind_of, one_more, counted, normal, destination_only, source_by, destination_by, source_set, destination_set, states_marked, instruction_noted, marked, noted}
use Rattle.rules.specs.Sequences.{service_awaited, flagged, start_ended, address_kept, lines_kept, fault_data, violated, timed_out}
use Rattle.rules.specs.Answers.{shown_as, fault_shown, shown}
use Rattle.rules.proofs.Laws.Choices.{both_true, picked}
use Rattle.rules.proofs.Laws.CellsLaws.{there-filled, there-forgotten, empty_forgotten}
use Rattle.rules.proofs.Promises.{StatesOnly, Step4Status, Step4Registers, Step4Counts, Step4Keeps, Step4Leaves, Step6Keeps, Step6Leaves, ViolationKeeps, ForgottenKeeps}

-- Step 4 -----------------------------------------------------------------------------------------------------------------

states_only : (s : Ktcs) (ss ds : Bool) → StatesOnly s (with_states s ss ds)
unfolding with_states
states_only s ss ds = record { fcn = refl; um = refl; iu = refl; rv = refl; pv = refl; wv = refl; av = refl; iv = refl }

states_same : (s : Ktcs) → StatesOnly s s
states_same s = record { fcn = refl; um = refl; iu = refl; rv = refl; pv = refl; wv = refl; av = refl; iv = refl }

-- FCN 0 is neither normal nor destination-only paging
fcn_zero_not_normal : (s : Ktcs) (q : Access) → s.fcn ≡ 0 → (normal s q ≡ false) × (destination_only s ≡ false)
unfolding normal destination_only
fcn_zero_not_normal s q e = (rw e, rw e)

source_by-neither : (k : Kind) (dato : Bool) → source_by k false false dato ≡ false
unfolding source_by
source_by-neither Kind.Jsr dato = refl
source_by-neither Kind.Rts dato = refl
source_by-neither Kind.Rti dato = refl
source_by-neither Kind.Trap dato = refl
source_by-neither Kind.Privileged dato = refl
source_by-neither Kind.EntryPoint dato = refl
source_by-neither Kind.Other dato = refl

destination_by-neither : (k : Kind) (dato2 access2 : Bool) → destination_by k false false dato2 access2 ≡ false
unfolding destination_by
destination_by-neither Kind.Jsr dato2 access2 = refl
destination_by-neither Kind.Rts dato2 access2 = refl
destination_by-neither Kind.Rti dato2 access2 = refl
destination_by-neither Kind.Trap dato2 access2 = refl
destination_by-neither Kind.Privileged dato2 access2 = refl
destination_by-neither Kind.EntryPoint dato2 access2 = refl
destination_by-neither Kind.Other dato2 access2 = refl

module _ (s : Ktcs) (f : Fetch) (q : Access) where
  source_unset : s.fcn ≡ 0 → (s.ss || source_set s f q) ≡ s.ss
  unfolding source_set
  source_unset e =
      let (n, d) = fcn_zero_not_normal s q e in rw (n, d, source_by-neither (kind_of f.newer) (is_dato q), or-false)

  destination_unset : s.fcn ≡ 0 → (s.ds || destination_set s f q) ≡ s.ds
  unfolding destination_set
  destination_unset e =
      let (n, d) = fcn_zero_not_normal s q e in
      rw (n, d, destination_by-neither (kind_of f.newer) (is_dato q && eqb f.datos 1) (eqb f.accesses 1), or-false)

  -- a fetch in normal paging clears both
  states_cleared : flags_clear s ≡ true → is_fetch q ≡ true → normal s q ≡ true → Step4Status q s (with_states s false false)
  unfolding with_states
  states_cleared clear e n =
      record {
        only = states_only s false false;
        fetch_ss = λ t z. refl;
        fetch_ds = λ t z. refl;
        fetch_not_normal = λ t z. absurd (true≢false (sym n ∙ z));
        ss_stands = λ t z. absurd (true≢false (sym e ∙ t));
        ds_stands = λ t z. absurd (true≢false (sym e ∙ t));
        fcn_zero = λ z. absurd (true≢false (sym n ∙ (fcn_zero_not_normal s q z).0));
        flagged = λ z. absurd (true≢false (sym clear ∙ z));
      }

  states_still : Step4Status q s s
  states_still =
      record {
        only = states_same s;
        fetch_ss = λ t z. z;
        fetch_ds = λ t z. z;
        fetch_not_normal = λ t z. refl;
        ss_stands = λ t z. z;
        ds_stands = λ t z. z;
        fcn_zero = λ z. refl;
        flagged = λ z. refl;
      }

  -- another access may set them
  states_set :
      flags_clear s ≡ true → is_fetch q ≡ false → Step4Status q s (with_states s (s.ss || source_set s f q) (s.ds || destination_set s f q))
  unfolding with_states
  states_set clear e =
      record {
        only = states_only s _ _;
        fetch_ss = λ t z. absurd (true≢false (sym t ∙ e));
        fetch_ds = λ t z. absurd (true≢false (sym t ∙ e));
        fetch_not_normal = λ t z. absurd (true≢false (sym t ∙ e));
        ss_stands = λ t z. rw z;
        ds_stands = λ t z. rw z;
        fcn_zero = λ z. rw (source_unset z, destination_unset z);
        flagged = λ z. absurd (true≢false (sym clear ∙ z));
      }

  states_marked-keeps : flags_clear s ≡ true → Step4Status q s (states_marked s f q)
  unfolding states_marked
  states_marked-keeps clear =
      picked (Step4Status q s) (is_fetch q) _ _
      (λ e. picked (Step4Status q s) (normal s q) _ _ (states_cleared clear e) (λ n. states_still)) (states_set clear)

-- an unpaged access is none of normal paging
unpaged-fcn : (fcn state : ℕ) (b : Bool) → eqb fcn 0 ≡ b → unpaged fcn state ≡ true → fcn < 2
unfolding unpaged
unpaged-fcn fcn state true z e = omega (arith, eqb-true fcn 0 z)
unpaged-fcn fcn state false z e = omega (arith, eqb-true fcn 1 ((and-eq-true_iff (eqb fcn 1) _).0 (rw z at e)).0)

unpaged_not_normal : (s : Ktcs) (q : Access) → unpaged s.fcn q.state ≡ true → normal s q ≡ false
unfolding normal
unpaged_not_normal s q e =
    let l : s.fcn < 2 = unpaged-fcn s.fcn q.state (eqb s.fcn 0) refl e in
    rw (ne_eqb s.fcn 2 (omega arith), ne_eqb s.fcn 3 (omega arith))

registers-same : (q : Access) (c d : Core) → d.kept ≡ c.kept → Step4Registers q c d
registers-same q c d e =
    record { count = rw e; others = λ i n. rw e; unpaged-access = λ u. e; no_fetch = λ f. e; flagged = λ f. e }

-- KTIC is taken in normal paging only, with the flags clear
instruction_only :
    (q : Access) (c d : Core) → flags_clear c.ktcs ≡ true → is_fetch q ≡ true → normal c.ktcs q ≡ true
    → d.kept ≡ set c.kept ktic q.addr → Step4Registers q c d
instruction_only q c d clear f n e =
    record {
      count = rw e (length-set c.kept ktic q.addr);
      others = λ i o. rw e (get_or-set_other c.kept ktic i q.addr 0 o);
      unpaged-access = λ u. absurd (true≢false (sym n ∙ unpaged_not_normal c.ktcs q u));
      no_fetch = λ z. absurd (true≢false (sym f ∙ z));
      flagged = λ z. absurd (true≢false (sym clear ∙ z));
    }

counted-keeps : (q : Access) (f : Fetch) → Step4Counts q f (counted q f)
unfolding counted one_more pick
counted-keeps q f =
    picked (Step4Counts q f) (is_fetch q) _ _
    (λ e. record {
      newer = refl;
      older = refl;
      public = refl;
      by_fetch = λ t. refl;
      datos = λ t. refl;
      datos_stop = λ z. z;
      accesses_stop = λ z. z;
    })
    (λ e. record {
      newer = refl;
      older = refl;
      public = refl;
      by_fetch = λ t. absurd (true≢false (sym t ∙ e));
      datos = λ t. rw t;
      datos_stop = stopped (is_dato q);
      accesses_stop = λ z. rw z;
    })
  where
    stopped : (b : Bool) → f.datos ≡ 2 → pick b (one_more f.datos) f.datos ≡ 2
    stopped true z = rw z
    stopped false z = z

-- step 4 by its parts: where a flag stands the counts alone move, and otherwise KTIC by a fetch in normal paging, SS and DS too
pub step4_leaves : Step4Leaves
unfolding noted marked instruction_noted with_ktcs with_kept with_fetch
step4_leaves c q =
    picked (Step4Keeps q c) (flags_clear c.ktcs) _ _
    (λ e. picked (λ (d : Core). Step4Keeps q c (with_ktcs d (states_marked c.ktcs c.fetch q))) (is_fetch q && normal c.ktcs q) _ _
    (λ n. let (f, p) = both_true (is_fetch q) (normal c.ktcs q) n in record {
      ktcs = states_marked-keeps c.ktcs c.fetch q e;
      registers = instruction_only q c _ e f p refl;
      wait = refl;
      fetch = counted-keeps q c.fetch;
    })
    (λ n. record {
      ktcs = states_marked-keeps c.ktcs c.fetch q e;
      registers = registers-same q c _ refl;
      wait = refl;
      fetch = counted-keeps q c.fetch;
    }))
    (λ e. record {
      ktcs = states_still c.ktcs c.fetch q;
      registers = registers-same q c _ refl;
      wait = refl;
      fetch = counted-keeps q c.fetch;
    })

-- Step 6 -----------------------------------------------------------------------------------------------------------------

module _ (user : Bool) (p : ℕ) (k : Cells) where
  cells_same : (e : Entry) → Step6Keeps user p k (record { entry = e; cells = k })
  cells_same e = record { size = refl; count = refl; others = λ i n. refl; hit = λ h. refl; ran_off = λ h. refl; at_exec_zero = λ h. refl }

  module _ (walks : exec_zero user p ≡ false) (missing : cell_of k (tag_of user p) ≡ None) where
    filled_keeps : (tag w : ℕ) → Step6Keeps user p k (record { entry = Entry.Mapped w; cells = filled k tag w })
    unfolding filled
    filled_keeps tag w =
        record {
          size = refl;
          count = rw (there-filled k tag w, length-set);
          others = λ i n. rw (there-filled k tag w, get_or-set_other);
          hit = λ h. cc;
          ran_off = λ h. cc;
          at_exec_zero = λ h. absurd (true≢false (cc));
        }

    missed-keeps : (tag : ℕ) (w : Option Walked) → Step6Keeps user p k (missed k tag w)
    unfolding missed entry_of filled_by
    missed-keeps tag (Some w) = filled_keeps tag w.word
    missed-keeps tag None = cells_same Entry.OffMap

  sought_keeps :
      (m : Memory) (r : Maps) (x : Option ℕ) → exec_zero user p ≡ false → cell_of k (tag_of user p) ≡ x
      → Step6Keeps user p k (sought_in m r user p k x)
  unfolding sought_in
  sought_keeps m r (Some i) z e = cells_same _
  sought_keeps m r None z e = missed-keeps z e (tag_of user p) (walk_of m r user p)

pub step6_leaves : Step6Leaves
unfolding looked
step6_leaves m r user p k =
    picked (Step6Keeps user p k) (exec_zero user p) _ _ (λ e. cells_same user p k _)
    (λ e. sought_keeps user p k m r (cell_of k (tag_of user p)) e refl)

-- A time-out and a violation ---------------------------------------------------------------------------------------------

lines_keep :
    (kept : List ℕ) (window : Bool) (a d i : ℕ) → i ≢ ktad → i ≢ ktdt → get_or (lines_kept kept window a d) i 0 ≡ get_or kept i 0
unfolding lines_kept address_kept
lines_keep kept window a d i n₁ n₂ =
    rw get_or-set_other (picked (λ (l : List ℕ). get_or l i 0 ≡ get_or kept i 0) window _ _ (λ e. refl) (λ e. rw get_or-set_other))

inner_lines_keep : (kept : List ℕ) (window : Bool) (a d : ℕ) → window ≡ true → get_or (lines_kept kept window a d) ktad 0 ≡ get_or kept ktad 0
unfolding lines_kept address_kept pick
inner_lines_keep kept window a d e = let n : ktad ≢ ktdt = omega arith in rw (e, get_or-set_other)

lines_count : (kept : List ℕ) (window : Bool) (a d : ℕ) → length (lines_kept kept window a d) ≡ length kept
unfolding lines_kept address_kept
lines_count kept window a d =
    length-set (address_kept kept window a) ktdt d
    ∙ picked (λ (l : List ℕ). length l ≡ length kept) window kept (set kept ktad a) (λ e. refl) (λ e. length-set kept ktad a)

pub timed_out_count : (c : Core) (q : Access) → length (timed_out (noted c q) q).kept ≡ length c.kept
unfolding timed_out with_kept
timed_out_count c q = lines_count (noted c q).kept false _ _ ∙ (step4_leaves c q).registers.count

-- a time-out of an unpaged access leaves every register but KTAD and KTDT
pub timed_out_registers :
    (c : Core) (q : Access) → unpaged c.ktcs.fcn q.state ≡ true → (i : ℕ) → i ≢ ktad → i ≢ ktdt
    → get_or (timed_out (noted c q) q).kept i 0 ≡ get_or c.kept i 0
unfolding timed_out with_kept
timed_out_registers c q e i n₁ n₂ = lines_keep (noted c q).kept false _ _ i n₁ n₂ ∙ rw ((step4_leaves c q).registers.unpaged-access e)

-- KTCS but for the flags, of which the fault's own is set
record FlagsOnly (f : Fault) (s t : Ktcs) : Type 0 where
  fcn : t.fcn ≡ s.fcn
  um : t.um ≡ s.um
  ss : t.ss ≡ s.ss
  ds : t.ds ≡ s.ds
  av : t.av ≡ (s.av || eqb (shown (Answer.Fault f)).number 4)
  rv : t.rv ≡ (s.rv || eqb (shown (Answer.Fault f)).number 5)
  wv : t.wv ≡ (s.wv || eqb (shown (Answer.Fault f)).number 6)
  pv : t.pv ≡ (s.pv || eqb (shown (Answer.Fault f)).number 7)
  iv : t.iv ≡ (s.iv || eqb (shown (Answer.Fault f)).number 8)

-- each flag stands if it stood, or if it is the fault's own
flagged-sets :
    (s : Ktcs) (f : Fault)
    → flagged s f
    ≡ with_flags s (s.rv || eqb (shown (Answer.Fault f)).number 5) (s.pv || eqb (shown (Answer.Fault f)).number 7) (s.wv || eqb (shown (Answer.Fault f)).number 6)
    (s.av || eqb (shown (Answer.Fault f)).number 4) (s.iv || eqb (shown (Answer.Fault f)).number 8)
unfolding flagged with_flags shown fault_shown shown_as
flagged-sets s Fault.OddAddress = simp (or-true, or-false)
flagged-sets s Fault.NoMapWord = simp or-false
flagged-sets s Fault.NotResident = simp (or-true, or-false)
flagged-sets s Fault.NotWritable = simp (or-true, or-false)
flagged-sets s Fault.NotPublic = simp (or-true, or-false)
flagged-sets s Fault.NoTarget = simp or-false
flagged-sets s (Fault.Forbidden w at) = simp (or-true, or-false)

flagged-keeps : (s : Ktcs) (f : Fault) → FlagsOnly f s (flagged s f)
unfolding with_flags
flagged-keeps s f =
    rw flagged-sets (record { fcn = refl; um = refl; ss = refl; ds = refl; av = refl; rv = refl; wv = refl; pv = refl; iv = refl })

pub violated-keeps : (c : Core) (q : Access) (window : Bool) (f : Fault) → ViolationKeeps q window f c (violated (noted c q) q window f)
unfolding violated service_awaited start_ended with_modes pick
violated-keeps c q window f =
    let h : Step4Keeps q c (noted c q) = step4_leaves c q in
    let s : FlagsOnly f (start_ended (noted c q).ktcs) (flagged (start_ended (noted c q).ktcs) f) = flagged-keeps (start_ended (noted c q).ktcs) f in
    let lines : (i : ℕ) → i ≢ ktad → i ≢ ktdt → get_or (violated (noted c q) q window f).kept i 0 ≡ get_or (noted c q).kept i 0 =
    lines_keep (noted c q).kept window q.addr (fault_data q f) in
    record {
      fcn = λ e. s.fcn ∙ rw (h.ktcs.only.fcn, e);
      fcn_three = λ e. s.fcn ∙ rw (h.ktcs.only.fcn, e);
      um = refl;
      iu = s.um ∙ h.ktcs.only.um;
      ss = s.ss;
      ds = s.ds;
      rv = s.rv ∙ rw h.ktcs.only.rv;
      pv = s.pv ∙ rw h.ktcs.only.pv;
      wv = s.wv ∙ rw h.ktcs.only.wv;
      av = s.av ∙ rw h.ktcs.only.av;
      iv = s.iv ∙ rw h.ktcs.only.iv;
      count = lines_count (noted c q).kept window q.addr (fault_data q f) ∙ h.registers.count;
      instruction = lines ktic (omega arith) (omega arith);
      registers = λ i n n₁ n₂. lines i n₁ n₂ ∙ h.registers.others i n;
      inner-address =
          λ e. inner_lines_keep (noted c q).kept window q.addr (fault_data q f) e ∙ h.registers.others ktad (omega arith);
      wait = refl;
      fetch = refl;
    }

-- The emptying of a cell -------------------------------------------------------------------------------------------------

other_forgotten : (tag : ℕ) (h : Cell) → h.tag ≢ tag → cell_forgotten tag h ≡ h
unfolding cell_forgotten holds pick
other_forgotten tag h n = rw (ne_eqb h.tag tag n)

-- exec page 0 has no cell
none-forgotten : (tag : ℕ) (h : Cell) → tag ≡ 0 → cell_forgotten tag h ≡ h
unfolding cell_forgotten holds
none-forgotten tag h e =
    rw e (picked (λ (c : Cell). c ≡ h) (eqb h.tag 0 && not (eqb h.tag 0)) _ _ (λ t. absurd (true≢false (both_ways (eqb h.tag 0) t))) (λ t. refl))
  where
    both_ways : (b : Bool) → (b && not b) ≡ true → true ≡ false
    both_ways true t = sym t
    both_ways false t = sym t

none-listed : (tag : ℕ) (hs : List Cell) → tag ≡ 0 → map (cell_forgotten tag) hs ≡ hs
none-listed tag [] e = refl
none-listed tag (h ∷ hs) e = rw (none-forgotten tag h e, none-listed tag hs e)

pub forgotten-keeps : (k : Cells) (tag : ℕ) → ForgottenKeeps tag k (forgotten k tag)
unfolding forgotten
forgotten-keeps k tag =
    record {
      counter = refl;
      size = refl;
      count = ap length (there-forgotten k tag) ∙ length-map (there k) (cell_forgotten tag);
      none = λ e. rw (none-listed tag k.list e);
      others =
          λ i n.
          rw (there-forgotten k tag)
          (ap (get_or (map (cell_forgotten tag) (there k)) i) (sym (empty_forgotten tag))
          ∙ get_or-map (cell_forgotten tag) (there k) i empty_cell ∙ other_forgotten tag (cell_at k i) n);
    }
