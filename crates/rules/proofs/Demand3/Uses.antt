-- What is known of one page, against its walk: before and after it comes into use, and before and after a store.
use mathlib.Core.Path.{◌≡◌, refl, ◌∙◌, ap}
use mathlib.Core.Bool.{false}
use Prim.Native.Nat.{ℕ}
use native.Mathlib.Omega.{arith}
use Rattle.std.specs.Prelude.{Option, Some, None}
use Rattle.rules.specs.Types.{Reads, Walked, Entry}
use Rattle.rules.specs.Memory.{even_of}
use Rattle.rules.specs.Registers.{among}
use Rattle.rules.specs.Maps.{reads_of, entry_of, finished}
use Rattle.rules.specs.Runs.{Use, unused, in_use, outdated, used_by, struck, is_outdated}
use Rattle.rules.proofs.Laws.Choices.{true_is_not_false, picked}
use Rattle.rules.proofs.Laws.Walks.{Spared}

-- a page in use is one whose walk now ends, and now reads what it read when the page came into use
pub data Live (w : Option Walked) : Use → Type 0 where
  idle : Live w unused
  current : {v : ℕ} {rs : Reads} → w ≡ finished v rs → Live w (in_use (reads_of rs))
  stale : Live w outdated

-- a page with word v in a cell is in use, and its walk now gives that word, or it is outdated
pub data Held (w : Option Walked) (v : ℕ) : Use → Type 0 where
  true_yet : {rs : Reads} → w ≡ finished v rs → Held w v (in_use (reads_of rs))
  stale_now : Held w v outdated

pub used-live : {w : Option Walked} {u : Use} → Live w u → Live w (used_by w u)
unfolding used_by
used-live {w = Some a} idle = current refl
used-live {w = Some a} (current e) = current e
used-live {w = Some a} stale = stale
used-live {w = None} l = l

pub used-held : {w : Option Walked} {u : Use} {v : ℕ} → entry_of w ≡ Entry.Mapped v → is_outdated u ≡ false → Live w u → Held w v (used_by w u)
unfolding used_by is_outdated entry_of
used-held {w = Some a} {v = v} f n idle =
    let word : a.word ≡ v = cc in true_yet {rs = a.reads} (ap (λ (x : ℕ). finished x a.reads) word)
used-held {w = Some a} f n (current {rs = rs₁} e) = true_yet {rs = rs₁} (cc)
used-held {w = Some a} f n stale = stale_now
used-held {w = None} f n l = absurd (let z : ◌≡◌ {A = ℕ} 0 1 = cc in omega arith)

-- a page that is held, and not outdated, stays as it came into use
pub held_used : {w : Option Walked} {u : Use} {v : ℕ} → Held w v u → used_by w u ≡ u
unfolding used_by
held_used {w = Some a} (true_yet e) = refl
held_used {w = Some a} stale_now = refl
held_used {w = None} h = refl

pub held_true : {w : Option Walked} {u : Use} {v : ℕ} → Held w v u → is_outdated u ≡ false → entry_of w ≡ Entry.Mapped v
unfolding is_outdated entry_of
held_true (true_yet e) n = rw e
held_true stale_now n = true_is_not_false n

-- coming into use makes nothing outdated
pub used-outdated : (w : Option Walked) (u : Use) → is_outdated (used_by w u) ≡ is_outdated u
unfolding used_by is_outdated
used-outdated (Some a) unused = refl
used-outdated (Some a) (in_use ws) = refl
used-outdated (Some a) outdated = refl
used-outdated None u = refl

module _ (at : ℕ) {w w₁ : Option Walked} (spared : Spared (even_of at) w w₁) where
  pub struck-live : {u : Use} → Live w u → Live w₁ (struck at u)
  unfolding struck
  struck-live idle = idle
  struck-live (current {v = v} {rs = rs} e) =
      picked (Live w₁) (among (even_of at) (reads_of rs)) _ _ (λ t. stale) (λ t. current (spared v rs e t ∙ e))
  struck-live stale = stale

  pub struck-held : {u : Use} {v : ℕ} → Held w v u → Held w₁ v (struck at u)
  unfolding struck
  struck-held {v = v} (true_yet {rs = rs} e) =
      picked (Held w₁ v) (among (even_of at) (reads_of rs)) _ _ (λ t. stale_now) (λ t. true_yet (spared v rs e t ∙ e))
  struck-held stale_now = stale_now
