-- What the numbers of a line make of it.
use Prim.Native.Nat.{ℕ, zero, suc, ◌%◌}
use mathlib.Core.Path.{◌≡◌, refl, sym}
use mathlib.Core.Bool.{Bool, true, false, ◌&&◌}
use mathlib.Core.List.{List, [], ◌∷◌, map}
use lib.ListN.{get_or}
use lib.Dec.{eqb}
use Rattle.std.specs.Prelude.{Option, Some, None}
use Rattle.rules.specs.Choice.{pick}
use Rattle.fieldtext.specs.Number.{worth, worth_from, numbers, numbers_of}
use Rattle.linetext.specs.Line.{the, store_of, access_of, trap_of, alone_of}
use Rattle.linetext.specs.declared.Line.{Line}
use Rattle.linetext.specs.declared.Line.TheVariants.{Store, Access, Trap}

-- a field that is not there says 0
the_word : (fs : List (List ℕ)) (k : ℕ) → get_or (map worth fs) k 0 ≡ the fs k
unfolding worth worth_from
the_word [] k = refl
the_word (f ∷ fs) zero = refl
the_word (f ∷ fs) (suc k) = the_word fs k

-- what a line is by its numbers
module _ (of_words : List ℕ → Option Line) where
  abbrev pub by_words : Option (List ℕ) → Option Line
  by_words (Some ws) = of_words ws
  by_words None = None

abbrev pub store_by : List ℕ → Option Line
store_by ws = pick (eqb (get_or ws 0 0 % 2) 0) (Some (Store (get_or ws 0 0) (get_or ws 1 0))) None

pub store_read : (fs : List (List ℕ)) → store_of fs ≡ by_words store_by (numbers_of 2 fs)
unfolding store_of numbers_of pick
store_read fs = by (numbers 2 fs)
  where
    by : (t : Bool) → pick (t && eqb (the fs 0 % 2) 0) (Some (Store (the fs 0) (the fs 1))) None ≡ by_words store_by (pick t (Some (map worth fs)) None)
    by true = simp (the_word fs 0, the_word fs 1)
    by false = refl

abbrev pub access_by : List ℕ → Option Line
access_by ws =
    Some (Access (record { op = get_or ws 0 0; state = get_or ws 1 0; width = get_or ws 2 0; addr = get_or ws 3 0; datum = get_or ws 4 0 }))

pub access_read : (fs : List (List ℕ)) → access_of fs ≡ by_words access_by (numbers_of 5 fs)
unfolding access_of numbers_of pick
access_read fs = simp (sym (the_word fs 0), sym (the_word fs 1), sym (the_word fs 2), sym (the_word fs 3), sym (the_word fs 4)) (by (numbers 5 fs))
  where
    by : (t : Bool) → pick t (access_by (map worth fs)) None ≡ by_words access_by (pick t (Some (map worth fs)) None)
    by true = refl
    by false = refl

abbrev pub trap_by : List ℕ → Option Line
trap_by ws = Some (Trap (get_or ws 0 0))

pub trap_read : (fs : List (List ℕ)) → trap_of fs ≡ by_words trap_by (numbers_of 1 fs)
unfolding trap_of numbers_of pick
trap_read fs = simp (sym (the_word fs 0)) (by (numbers 1 fs))
  where
    by : (t : Bool) → pick t (trap_by (map worth fs)) None ≡ by_words trap_by (pick t (Some (map worth fs)) None)
    by true = refl
    by false = refl

pub alone_read : (l : Line) (fs : List (List ℕ)) → alone_of l fs ≡ by_words (λ ws. Some l) (numbers_of 0 fs)
unfolding alone_of numbers_of pick
alone_read l fs = by (numbers 0 fs)
  where
    by : (t : Bool) → pick t (Some l) None ≡ by_words (λ ws. Some l) (pick t (Some (map worth fs)) None)
    by true = refl
    by false = refl
