-- What comes from the iterator completes the numbers passed.
use Rattle.std.proofs.Common.{◌≡◌, ◌-◌, List, ℕ, length, take}
use Rattle.std.specs.Iterator.{AlwaysYields}
use Rattle.fieldtext.specs.Number.{numbers_of}
use Rattle.fieldtext.proofs.Chain.{numbers_after}
use Rattle.fieldtext.proofs.read_numbers.Given as goal

abbrev pub invariant-loop-word : goal.invariant-loop-word
invariant-loop-word g l =
    g.I.Iterator.can_next l.fields
    × (length l.word-items ≡ g.row.N)
    × ((fs : List (List ℕ)) → AlwaysYields g.I.Iterator.next_gives (λ f. f.now) l.fn.fields fs
    → (left : List (List ℕ)) × AlwaysYields g.I.Iterator.next_gives (λ f. f.now) l.fields left
    × (numbers_of g.row.N fs ≡ numbers_after (take l.word-index l.word-items) (g.row.N - l.word-index) left))

abbrev pub decreases-loop-word : goal.decreases-loop-word
decreases-loop-word g l = l.word-index-end - l.word-index
