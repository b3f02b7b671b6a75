-- How a call runs: the steps ask for entries and for what the cells show, and one interpreter answers by the cells, another by the walk alone.
-- Nothing else tells the unit from the unit with no cells of demand 3.
use Rattle.std.specs.Prelude.{ℕ, Bool}
use Rattle.rules.specs.Types.{Maps, Cells, Associative, Entry, Outcome, Ran}
use Rattle.rules.specs.Memory.{Memory}
use Rattle.rules.specs.Registers.{peeked}
use Rattle.rules.specs.Maps.{looked, walked}

-- `done`: the steps have ruled. `ask`: step 6, for the entry of a user's or the exec's page. `peek`: what KTMR or a scratchpad word reads.
pub data Prog : Type 0 where
  done : Outcome → Prog
  ask : Bool → ℕ → (Entry → Prog) → Prog
  peek : Associative → (ℕ → Prog) → Prog

-- the unit: an entry is looked up in the cells and walked for on a miss
unfoldable pub run : Memory → Maps → Prog → Cells → Ran
run m r (done o) k = record { outcome = o; cells = k }
run m r (ask user p f) k = run m r (f (looked m r user p k).entry) (looked m r user p k).cells
run m r (peek g f) k = run m r (f (peeked k g)) k

-- the unit with no cells of demand 3, "which walks the maps on every access"; it reads 0 in the
-- places of the scratchpad words and of the counter, and the premises of demand 3 leave out the calls that ask for them
unfoldable pub plain_run : Memory → Maps → Prog → Outcome
plain_run m r (done o) = o
plain_run m r (ask user p f) = plain_run m r (f (walked m r user p))
plain_run m r (peek g f) = plain_run m r (f 0)
