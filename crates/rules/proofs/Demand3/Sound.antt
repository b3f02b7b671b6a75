-- The invariant of a run that meets the premises, and how a look-up and an effect keep it.
use mathlib.Core.Path.{◌≡◌, refl, sym, ap, subst, ◌∙◌}
use mathlib.Core.Bool.{Bool, true, false, true≢false}
use mathlib.Core.List.{[], ◌∷◌}
use Prim.Native.Nat.{ℕ, ◌-◌, ◌<◌}
use lib.Dec.{eqb}
use borrow.Author.Tests.{eqb-true, eqb-false, not-true}
use Rattle.std.specs.Prelude.{Option, Some, None}
use Rattle.rules.specs.Types.{Maps, Cell, Cells, Walked, Entry, Effect}
use Rattle.rules.specs.Memory.{Memory, even_of, store_word, store_byte}
use Rattle.rules.specs.Unit.{there, empty_cell, cell_at, emptied}
use Rattle.rules.specs.Maps.{exec_zero, exec_zero_entry, walk_of, entry_of, walked, tag_of, cell_of, filled, filled_by, missed, sought_in, looked, holds, forgotten}
use Rattle.rules.specs.Calls.{maps_after, cells_after, memory_after}
use Rattle.rules.specs.Runs.{visit, Use, unused, History, used_by, told, in_use_after, struck, history_after, is_outdated, none_outdated, stores_pad}
use Rattle.rules.proofs.Laws.Choices.{true_is_not_false, both_true, picked, pick_true, pick-false}
use Rattle.rules.proofs.Laws.Lists.{get_d_set_either}
use Rattle.rules.proofs.Laws.Walks.{DifferAt, walk-spared, byte_stored_differs, word_stored_differs}
use Rattle.rules.proofs.Laws.Pages.{same-user, same-page, tag-other}
use Rattle.rules.proofs.Demand3.Uses.{Live, Held, used-live, used-held, held_used, held_true, struck-live, struck-held}
use Rattle.rules.proofs.Demand3.Always.{EvenStore}
use Rattle.rules.proofs.Laws.CellsLaws.{there-filled, empty_tag, found_has_tag, cell_emptied, cell_at-forgotten, page_held}

-- every page's use agrees with its walk
abbrev AllLive : Memory → Maps → History → Type 0
AllLive m r h = (user : Bool) (p : ℕ) → p < 128 → Live (walk_of m r user p) (h (tag_of user p))

-- whatever page a cell's tag says, its word is that page's
abbrev Holds : Memory → Maps → History → Cell → Type 0
Holds m r h c =
    (user : Bool) (p : ℕ) → p < 128 → exec_zero user p ≡ false → c.tag ≡ tag_of user p
    → Held (walk_of m r user p) c.word (h (tag_of user p))

pub record Sound (m : Memory) (r : Maps) (k : Cells) (h : History) : Type 0 where
  -- wanted for a page that was replaced in its cell and is walked for again
  pub live : AllLive m r h
  pub held : (i : ℕ) → Holds m r h (cell_at k i)

-- an empty cell holds no page
empty_holds : (m : Memory) (r : Maps) (h : History) → Holds m r h empty_cell
empty_holds m r h user p b x e = absurd (tag-other user p x (sym e ∙ empty_tag))

-- Another word about one page --------------------------------------------------------------------------------------------------

module _ (m : Memory) (r : Maps) (h : History) (user : Bool) (p : ℕ) (b : p < 128) (u : Use) where
  told-live : AllLive m r h → Live (walk_of m r user p) u → AllLive m r (told h (tag_of user p) u)
  unfolding told
  told-live live l user₁ p₁ b₁ =
      picked (Live (walk_of m r user₁ p₁)) (eqb (tag_of user₁ p₁) (tag_of user p)) u (h (tag_of user₁ p₁))
      (λ t. let e = eqb-true (tag_of user₁ p₁) (tag_of user p) t in
      rw (same-user user₁ user p₁ p b₁ b e, same-page user₁ user p₁ p b₁ b e) l)
      (λ t. live user₁ p₁ b₁)

  told-holds :
      (c : Cell) → ((c.tag ≡ tag_of user p → ⊥) → Holds m r h c) → (c.tag ≡ tag_of user p → Held (walk_of m r user p) c.word u)
      → Holds m r (told h (tag_of user p) u) c
  unfolding told
  told-holds c o n user₁ p₁ b₁ x e₁ =
      picked (Held (walk_of m r user₁ p₁) c.word) (eqb (tag_of user₁ p₁) (tag_of user p)) u (h (tag_of user₁ p₁))
      (λ t. let e = eqb-true (tag_of user₁ p₁) (tag_of user p) t in
      rw (same-user user₁ user p₁ p b₁ b e, same-page user₁ user p₁ p b₁ b e) (n (e₁ ∙ e)))
      (λ t. o (λ e. eqb-false (tag_of user₁ p₁) (tag_of user p) t (sym e₁ ∙ e)) user₁ p₁ b₁ x e₁)

-- A look-up --------------------------------------------------------------------------------------------------------------------

module _ (m : Memory) (r : Maps) (k : Cells) (h : History) (s : Sound m r k h) (user : Bool) (p : ℕ) (b : p < 128) where
  -- what the unit with no cells gets, and the invariant with the page in use
  pub record Asked : Type 0 where
    pub same : (looked m r user p k).entry ≡ walked m r user p
    pub sound : Sound m r (looked m r user p k).cells (in_use_after h (visit m r user p))

  module _ (x : exec_zero user p ≡ false) where
    -- the history with the page in use
    abbrev after : History
    after = told h (tag_of user p) (used_by (walk_of m r user p) (h (tag_of user p)))

    cell_holds : (i : ℕ) → Holds m r after (cell_at k i)
    cell_holds i =
        told-holds m r h user p b _ (cell_at k i) (λ n. s.held i)
        (λ e. let o = s.held i user p b x e in subst (Held (walk_of m r user p) (cell_at k i).word) (sym (held_used o)) o)

    kept_sound : Sound m r k after
    kept_sound = record { live = told-live m r h user p b _ s.live (used-live (s.live user p b)); held = cell_holds }

    module _ (fit : is_outdated (h (tag_of user p)) ≡ false) where
      filled-sound : (v : ℕ) → entry_of (walk_of m r user p) ≡ Entry.Mapped v → Sound m r (filled k (tag_of user p) v) after
      unfolding filled
      filled-sound v e =
          record {
            live = kept_sound.live;
            held = λ i.
                rw (there-filled k (tag_of user p) v)
                (get_d_set_either (Holds m r after) (there k) i (k.counter - 0o10) (record { tag = tag_of user p; word = v }) empty_cell
                (told-holds m r h user p b _ (record { tag = tag_of user p; word = v }) (λ n. absurd (n refl))
                (λ _. used-held e fit (s.live user p b)))
                (cell_holds i));
          }

      filled_by-sound : (w : Option Walked) → walk_of m r user p ≡ w → Sound m r (filled_by k (tag_of user p) w) after
      unfolding filled_by
      filled_by-sound (Some a) e = filled-sound a.word (ap entry_of e ∙ unfold entry_of in refl)
      filled_by-sound None e = kept_sound

      sought :
          (f : Option ℕ) → cell_of k (tag_of user p) ≡ f
          → ((sought_in m r user p k f).entry ≡ entry_of (walk_of m r user p)) × Sound m r (sought_in m r user p k f).cells after
      unfolding sought_in missed
      sought (Some i) e = (sym (held_true (s.held i user p b x (found_has_tag k i (tag_of user p) e)) fit), kept_sound)
      sought None e = (refl, filled_by-sound (walk_of m r user p) refl)

  pub asked : none_outdated h (visit m r user p) ≡ true → Asked
  unfolding looked walked visit in_use_after none_outdated
  asked n = go (exec_zero user p) refl
    where
      go : (t : Bool) → exec_zero user p ≡ t → Asked
      go true t =
          let l : looked m r user p k ≡ record { entry = exec_zero_entry r; cells = k } = pick_true (exec_zero user p) _ _ t in
          let v : visit m r user p ≡ [] = pick_true (exec_zero user p) _ _ t in
          let w : walked m r user p ≡ exec_zero_entry r = pick_true (exec_zero user p) _ _ t in
          record { same = rw (l, w); sound = rw (l, v) s }
      go false t =
          let l : looked m r user p k ≡ sought_in m r user p k (cell_of k (tag_of user p)) = pick-false (exec_zero user p) _ _ t in
          let v : visit m r user p ≡ record { tag = tag_of user p; walk = walk_of m r user p } ∷ [] = pick-false (exec_zero user p) _ _ t in
          let w : walked m r user p ≡ entry_of (walk_of m r user p) = pick-false (exec_zero user p) _ _ t in
          let (e, o) = sought t (not-true (is_outdated (h (tag_of user p))) (both_true _ true (rw v at n)).0) (cell_of k (tag_of user p)) refl in
          record { same = rw (l, w) e; sound = rw (l, v) o }

-- An effect --------------------------------------------------------------------------------------------------------------------

stored-sound :
    (m n : Memory) (at : ℕ) → DifferAt (even_of at) m n → (r : Maps) (k : Cells) (h : History) → Sound m r k h
    → Sound n r k (λ t. struck at (h t))
stored-sound m n at d r k h s =
    record {
      live = λ user p b. struck-live at (walk-spared (even_of at) m n d r user p) (s.live user p b);
      held = λ i user p b x e. struck-held at (walk-spared (even_of at) m n d r user p) (s.held i user p b x e);
    }

pub emptied-sound : (m : Memory) (r : Maps) (k : Cells) → Sound m r (emptied k) (λ t. unused)
emptied-sound m r k =
    record { live = λ user p b. Live.idle; held = λ i. subst (Holds m r (λ t. unused)) (sym (cell_emptied k i)) (empty_holds m r (λ t. unused)) }

module _ (m : Memory) (r : Maps) (k : Cells) (h : History) (tag : ℕ) (s : Sound m r k h) where
  -- a cell that does not hold the page which is forgotten holds what it held
  other_holds : (c : Cell) → Holds m r h c → holds tag c ≡ false → Holds m r (told h tag unused) c
  unfolding told
  other_holds c o n user p b x e =
      picked (Held (walk_of m r user p) c.word) (eqb (tag_of user p) tag) _ _
      (λ t. absurd (true≢false (sym (page_held tag c (e ∙ eqb-true (tag_of user p) tag t) (λ z. tag-other user p x (sym e ∙ z))) ∙ n)))
      (λ t. o user p b x e)

  forgotten-sound : Sound m r (forgotten k tag) (told h tag unused)
  unfolding told
  forgotten-sound =
      record {
        live = λ user p b. picked (Live (walk_of m r user p)) (eqb (tag_of user p) tag) _ _ (λ t. Live.idle) (λ t. s.live user p b);
        held = λ i.
            subst (Holds m r (told h tag unused)) (sym (cell_at-forgotten k tag i))
            (picked (Holds m r (told h tag unused)) (holds tag (cell_at k i)) _ _ (λ t. empty_holds m r (told h tag unused))
            (λ t. other_holds (cell_at k i) (s.held i) t));
      }

-- An effect that stores into no scratchpad word keeps the invariant.
pub effect-sound :
    (m : Memory) (r : Maps) (k : Cells) (h : History) (e : Effect) → EvenStore e → stores_pad e ≡ false → Sound m r k h
    → Sound (memory_after e m) (maps_after e r) (cells_after e k) (history_after e h)
unfolding memory_after maps_after cells_after history_after stores_pad
effect-sound m r k h Effect.Keep o n s = s
effect-sound m r k h (Effect.Forget tag) o n s = forgotten-sound m r k h tag s
effect-sound m r k h (Effect.Reload r₁) o n s = emptied-sound m r₁ k
effect-sound m r k h (Effect.StoreWord at v) o n s = stored-sound m (store_word m at v) at (word_stored_differs m at v o) r k h s
effect-sound m r k h (Effect.StoreByte at v) o n s = stored-sound m (store_byte m at v) at (byte_stored_differs m at v) r k h s
effect-sound m r k h (Effect.StorePad i p v) o n s = true_is_not_false n
