-- How a call runs, piece by piece: what `run` makes of each piece of which the steps are built.
use Prim.Native.Nat.{ℕ}
use mathlib.Core.Bool.{Bool, true, false}
use mathlib.Core.Path.{◌≡◌, refl}
use Rattle.rules.specs.Types.{Maps, Cells, Associative, Target, Entry, Outcome, Job}
use Rattle.rules.specs.Choice.{pick}
use Rattle.rules.specs.Memory.{Memory}
use Rattle.rules.specs.Registers.{peeked}
use Rattle.rules.specs.Maps.{looked}
use Rattle.rules.specs.Program.{Prog, done, ask, peek, run}
use Rattle.rules.specs.Order.{Source, at-hand, in_cells, source_at, read_from, read_at, word_from, word_read}

pub run-done : (m : Memory) (r : Maps) (o : Outcome) (k : Cells) → run m r (done o) k ≡ record { outcome = o; cells = k }
unfolding run
run-done m r o k = refl

pub run-ask :
    (m : Memory) (r : Maps) (user : Bool) (p : ℕ) (f : Entry → Prog) (k : Cells)
    → run m r (ask user p f) k ≡ run m r (f (looked m r user p k).entry) (looked m r user p k).cells
unfolding run
run-ask m r user p f k = refl

pub run-peek :
    (m : Memory) (r : Maps) (g : Associative) (f : ℕ → Prog) (k : Cells) → run m r (peek g f) k ≡ run m r (f (peeked k g)) k
unfolding run
run-peek m r g f k = refl

pub run-pick :
    (m : Memory) (r : Maps) (b : Bool) (p q : Prog) (k : Cells) → run m r (pick b p q) k ≡ pick b (run m r p k) (run m r q k)
unfolding pick
run-pick m r true p q k = refl
run-pick m r false p q k = refl

run-read_from :
    (m : Memory) (r : Maps) (s : Source) (f : ℕ → Prog) (k : Cells) → run m r (read_from s f) k ≡ run m r (f (word_from k s)) k
unfolding read_from word_from run
run-read_from m r (at-hand w) f k = refl
run-read_from m r (in_cells g) f k = refl

pub run-read_at :
    (m : Memory) (r : Maps) (j : Job) (at : ℕ) (t : Target) (f : ℕ → Prog) (k : Cells)
    → run m r (read_at m j at t f) k ≡ run m r (f (word_read m j k at t)) k
unfolding read_at word_read
run-read_at m r j at t f k = run-read_from m r (source_at m j at t) f k
