-- KTCS packs into 16 bits and comes back the same, both ways.
use Prim.Native.Nat.{ℕ, ◌+◌, ◌*◌, ◌/◌, ◌%◌, ◌<◌, ◌≤◌}
use mathlib.Core.Path.{◌≡◌, refl, sym, ap, ◌∙◌}
use mathlib.Core.Bool.{Bool, true, false}
use native.Mathlib.Omega.{arith}
use native.Mathlib.Nat.{div-div-eq-div-mul}
use lib.Dec.{eqb}
use borrow.Author.Tests.{eq-eqb, ne_eqb, eqb-true, eqb-false}
use Rattle.rules.specs.Types.{Ktcs}
use Rattle.rules.specs.Choice.{pick}
use Rattle.rules.specs.Status.{bit_of, bit_in, packed, unpacked}

-- a bit's worth, as a number that is 0 or 1
abbrev one : Bool → ℕ
one true = 1
one false = 0

one-small : (b : Bool) → one b ≤ 1
one-small true = omega arith
one-small false = omega arith

bit_of-one : (b : Bool) (v : ℕ) → bit_of b v ≡ v * one b
unfolding bit_of pick
bit_of-one true v = omega arith
bit_of-one false v = omega arith

eqb_one : (b : Bool) (n : ℕ) → n ≡ one b → eqb n 1 ≡ b
eqb_one true n h = eq-eqb n 1 h
eqb_one false n h = ne_eqb n 1 (λ e. omega arith)

packed-sum : (s : Ktcs) →
    packed s ≡ s.fcn % 4 + 0o4 * one s.ss + 0o10 * one s.ds + 0o20 * one s.um + 0o40 * one s.iu + 0o4000 * one s.rv
    + 0o10000 * one s.pv + 0o20000 * one s.wv + 0o40000 * one s.av + 0o100000 * one s.iv
unfolding packed
packed-sum s = simp bit_of-one

-- the digits of such a sum, the bits being 0 or 1 and f below 4: what `unpacked` takes out
digits :
    (f a b c d e g h k l x : ℕ) → f < 4 → a ≤ 1 → b ≤ 1 → c ≤ 1 → d ≤ 1 → e ≤ 1 → g ≤ 1 → h ≤ 1 → k ≤ 1 → l ≤ 1 →
    x ≡ f + 0o4 * a + 0o10 * b + 0o20 * c + 0o40 * d + 0o4000 * e + 0o10000 * g + 0o20000 * h + 0o40000 * k + 0o100000 * l →
    (x % 4 ≡ f) × (x / 0o4 % 2 ≡ a) × (x / 0o10 % 2 ≡ b) × (x / 0o20 % 2 ≡ c) × (x / 0o40 % 2 ≡ d) × (x / 0o4000 % 2 ≡ e) × (x / 0o10000 % 2 ≡ g)
    × (x / 0o20000 % 2 ≡ h) × (x / 0o40000 % 2 ≡ k) × (x / 0o100000 % 2 ≡ l)
digits f a b c d e g h k l x hf ha hb hc hd he hg hh hk hl hx = omega arith

between-zero :
    (f a b c d e g h k l x : ℕ) → f < 4 → a ≤ 1 → b ≤ 1 → c ≤ 1 → d ≤ 1
    → x ≡ f + 0o4 * a + 0o10 * b + 0o20 * c + 0o40 * d + 0o4000 * e + 0o10000 * g + 0o20000 * h + 0o40000 * k + 0o100000 * l
    → x / 0o100 % 0o40 ≡ 0
between-zero f a b c d e g h k l x hf ha hb hc hd hx = omega arith

-- "others read 0": bits 10 to 6
pub packed-zeros : (s : Ktcs) → packed s / 0o100 % 0o40 ≡ 0
packed-zeros s =
    between-zero (s.fcn % 4) (one s.ss) (one s.ds) (one s.um) (one s.iu) (one s.rv) (one s.pv) (one s.wv) (one s.av) (one s.iv) (packed s)
    (omega arith) (one-small s.ss) (one-small s.ds) (one-small s.um) (one-small s.iu) (packed-sum s)

-- There and back: what was packed is unpacked as it was.
pub unpacked-packed : (s : Ktcs) → s.fcn < 4 → unpacked (packed s) ≡ s
unfolding unpacked bit_in
unpacked-packed s small =
    let d = digits (s.fcn % 4) (one s.ss) (one s.ds) (one s.um) (one s.iu) (one s.rv) (one s.pv) (one s.wv) (one s.av) (one s.iv) (packed s)
    (omega arith) (one-small s.ss) (one-small s.ds) (one-small s.um) (one-small s.iu) (one-small s.rv) (one-small s.pv) (one-small s.wv) (one-small s.av) (one-small s.iv) (packed-sum s) in
    λ i.
    record {
      fcn = fcn_same d.0 i;
      ss = eqb_one s.ss (packed s / 0o4 % 2) d.1 i;
      ds = eqb_one s.ds (packed s / 0o10 % 2) d.2 i;
      um = eqb_one s.um (packed s / 0o20 % 2) d.3 i;
      iu = eqb_one s.iu (packed s / 0o40 % 2) d.4 i;
      rv = eqb_one s.rv (packed s / 0o4000 % 2) d.5 i;
      pv = eqb_one s.pv (packed s / 0o10000 % 2) d.6 i;
      wv = eqb_one s.wv (packed s / 0o20000 % 2) d.7 i;
      av = eqb_one s.av (packed s / 0o40000 % 2) d.8 i;
      iv = eqb_one s.iv (packed s / 0o100000 % 2) d.9 i;
    }
  where
    fcn_same : packed s % 4 ≡ s.fcn % 4 → packed s % 4 ≡ s.fcn
    fcn_same e = omega arith

one_bit : (n : ℕ) → n < 2 → one (eqb n 1) ≡ n
one_bit n h = go (eqb n 1) refl
  where
    go : (b : Bool) → eqb n 1 ≡ b → one (eqb n 1) ≡ n
    go true e = rw e (sym (eqb-true n 1 e))
    go false e = rw e (omega (arith, eqb-false n 1 e))

one_mod_2 : (n : ℕ) → one (eqb (n % 2) 1) ≡ n % 2
one_mod_2 n = one_bit (n % 2) (omega arith)

four_twice : (w : ℕ) → w % 4 % 4 ≡ w % 4
four_twice w = omega arith

-- a number's multiple of v, less its digit there, is its multiple of twice v
halves : (w v : ℕ) → v * (w / v) ≡ v * (w / v % 2) + v * 2 * (w / (v * 2))
halves w v = rw (← div-div-eq-div-mul w v 2) (go (w / v))
  where
    go : (q : ℕ) → v * q ≡ v * (q % 2) + v * 2 * (q / 2)
    go q =
        let e : q ≡ q % 2 + 2 * (q / 2) = omega arith in
        ap (λ (n : ℕ). v * n) e ∙ omega arith

-- digit by digit from the low end, with nothing between bits 5 and 11 and nothing past bit 15
summed :
    (w f a b c d e g h k l q₂ q₃ q₄ q₅ q₆ q₁₁ q₁₂ q₁₃ q₁₄ q₁₅ q₁₆ : ℕ) →
    w ≡ f + q₂ → q₂ ≡ a + q₃ → q₃ ≡ b + q₄ → q₄ ≡ c + q₅ → q₅ ≡ d + q₆ → q₆ ≡ q₁₁ → q₁₁ ≡ e + q₁₂ → q₁₂ ≡ g + q₁₃ → q₁₃ ≡ h + q₁₄ →
    q₁₄ ≡ k + q₁₅ → q₁₅ ≡ l + q₁₆ → q₁₆ ≡ 0 → f + a + b + c + d + e + g + h + k + l ≡ w
summed w f a b c d e g h k l q₂ q₃ q₄ q₅ q₆ q₁₁ q₁₂ q₁₃ q₁₄ q₁₅ q₁₆ e₀ e₁ e₂ e₃ e₄ e₅ e₆ e₇ e₈ e₉ e₁₀ e₁₁ = omega arith

by_four : (w : ℕ) → w ≡ w % 4 + 4 * (w / 4)
by_four w = omega arith

none_between : (w : ℕ) → w / 0o100 % 0o40 ≡ 0 → 0o100 * (w / 0o100) ≡ 0o4000 * (w / 0o4000)
none_between w zeros = omega arith

none-past : (w : ℕ) → w < 0o200000 → 0o200000 * (w / 0o200000) ≡ 0
none-past w small = omega arith

-- Back and there: a word in which only KTCS's own bits stand is what its fields pack into. Bits 10 to 6 "read 0".
pub packed-unpacked : (w : ℕ) → w < 0o200000 → w / 0o100 % 0o40 ≡ 0 → packed (unpacked w) ≡ w
unfolding unpacked bit_in
packed-unpacked w small zeros =
    packed-sum (unpacked w)
    ∙ simp (one_mod_2, four_twice)
    (summed w _ _ _ _ _ _ _ _ _ _ _ _ _ _ _ _ _ _ _ _ _ (by_four w) (halves w 0o4) (halves w 0o10) (halves w 0o20) (halves w 0o40)
    (none_between w zeros) (halves w 0o4000) (halves w 0o10000) (halves w 0o20000) (halves w 0o40000) (halves w 0o100000) (none-past w small))
