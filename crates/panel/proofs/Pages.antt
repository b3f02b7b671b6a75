-- The place of a map page stands for the page that the rules give tools: 512 bytes of memory, or an empty part.
use Prim.Native.Nat.{ℕ, ◌+◌, ◌*◌, ◌%◌}
use mathlib.Core.Path.{◌≡◌, refl}
use mathlib.Core.Bool.{Bool, true, false}
use native.Mathlib.Omega.{arith}
use lib.Dec.{leb}
use lib.ListN.{length}
use borrow.Author.Tests.{ne_eqb}
use Rattle.rules.specs.Choice.{pick}
use Rattle.rules.specs.Memory.{Memory}
use Rattle.rules.specs.Maps.{low9}
use Rattle.rules.specs.Tools.{map_page}
use Rattle.panel.specs.Panel.{no_page, page_place, page_at}

pub page_part : (m : Memory) (r : ℕ) → page_at m (page_place (length m) r) ≡ map_page m r
unfolding page_at page_place map_page low9 pick
page_part m r = go (leb (512 * (r % 512) + 512) (length m)) refl
  where
    go : (b : Bool) → leb (512 * (r % 512) + 512) (length m) ≡ b → page_at m (page_place (length m) r) ≡ map_page m r
    go true e = simp (e, ne_eqb (512 * (r % 512)) no_page (λ h. omega arith))
    go false e = simp e
