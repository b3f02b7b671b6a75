-- The map page that tools get (01, the end of "What comes back").
use Rattle.std.specs.Prelude.{ℕ, ◌+◌, ◌*◌, [], leb, length, take, drop}
use Rattle.rules.specs.Choice.{pick}
use Rattle.rules.specs.Memory.{Memory}
use Rattle.rules.specs.Maps.{low9}

-- "Tools that read a map get the page a map register names as a part of the caller's memory, or an empty part if it isn't wholly below L."
unfoldable pub map_page : Memory → ℕ → Memory
map_page m r = pick (leb (512 * low9 r + 512) (length m)) (take 512 (drop (512 * low9 r) m)) []
