-- Past the bytes that are there the room is 0, also when there is one more.
use Prim.Native.Nat.{ℕ, ◌+◌, ◌-◌}
use mathlib.Core.Path.{◌≡◌, sym, ◌∙◌}
use mathlib.Core.List.{List}
use native.Mathlib.Omega.{arith}
use lib.ListN.{drop, set, replicate}
use Rattle.std.proofs.lemmas.List.{drop-set-lt, drop-replicate}
use Rattle.std.proofs.lemmas.Grind.{drop_more_same}

pub zero_past :
    (n len : ℕ) (room : List ℕ) (byte : ℕ) → drop len room ≡ replicate (n - len) 0
    → drop (len + 1) (set room len byte) ≡ replicate (n - (len + 1)) 0
zero_past n len room byte zero =
    drop-set-lt (len + 1) room len byte (omega arith)
    ∙ drop_more_same room (replicate n 0) len (zero ∙ sym (drop-replicate len n 0))
    ∙ drop-replicate (len + 1) n 0
