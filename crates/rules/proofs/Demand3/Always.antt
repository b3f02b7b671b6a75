-- What holds however a call's questions are answered: of the pages that it asks for, and of its every outcome.
use mathlib.Core.Path.{◌≡◌}
use mathlib.Core.Bool.{Bool}
use Prim.Native.Nat.{ℕ, ◌%◌, ◌<◌}
use Rattle.rules.specs.Types.{Associative, Entry, Effect, Outcome}
use Rattle.rules.specs.Program.{Prog, done, ask, peek}

-- every outcome is P, and every page asked for is one of 128
pub data Always (P : Outcome → Type 0) : Prog → Type 0 where
  ends : {o : Outcome} → P o → Always P (done o)
  asks : {user : Bool} {p : ℕ} {f : Entry → Prog} → p < 128 → ((e : Entry) → Always P (f e)) → Always P (ask user p f)
  peeks-at : {g : Associative} {f : ℕ → Prog} → ((w : ℕ) → Always P (f w)) → Always P (peek g f)

-- "A word into memory, at an even address."
abbrev pub EvenStore : Effect → Type 0
EvenStore Effect.Keep = record {}
EvenStore (Effect.Forget tag) = record {}
EvenStore (Effect.Reload r) = record {}
EvenStore (Effect.StoreWord at v) = at % 2 ≡ 0
EvenStore (Effect.StoreByte at v) = record {}
EvenStore (Effect.StorePad i p v) = record {}
