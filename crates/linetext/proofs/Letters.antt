-- What a line is by its first field.
use Prim.Native.Nat.{ℕ, ◌≤◌, ◌<◌}
use mathlib.Core.Path.{◌≡◌, ap, ◌∙◌}
use mathlib.Core.List.{List}
use native.Mathlib.Omega.{arith}
use lib.ListN.{length, get_or, take, drop}
use borrow.Author.Tests.{ne_eqb}
use Rattle.std.specs.Prelude.{None}
use Rattle.rules.specs.Choice.{pick}
use Rattle.fieldtext.specs.Cut.{head_of, fields}
use Rattle.fieldtext.proofs.Scan.{fields_split, head_take}
use Rattle.linetext.specs.Line.{by_letter, by_name, from_fields, line_of}

module _ (s : List ℕ) (n : ℕ) (e : n ≡ length (head_of s)) where
  line_named : line_of s ≡ by_name (take n s) (drop 1 (fields s))
  unfolding line_of from_fields
  line_named = rw (e, head_take s) (ap from_fields (fields_split s))

  -- a letter
  pub line_letter : 1 ≤ length (take n s) → length (take n s) < 2 → line_of s ≡ by_letter (get_or (take n s) 0 0) (drop 1 (fields s))
  unfolding by_name pick
  line_letter a b = let one : length (take n s) ≡ 1 = omega arith in line_named ∙ simp one

  -- nothing, or more than one letter
  pub line_empty : length (take n s) < 1 → line_of s ≡ None
  unfolding by_name pick
  line_empty h = line_named ∙ simp (ne_eqb (length (take n s)) 1 (λ e. omega arith))

  pub line_longer : 2 ≤ length (take n s) → line_of s ≡ None
  unfolding by_name pick
  line_longer h = line_named ∙ simp (ne_eqb (length (take n s)) 1 (λ e. omega arith))
