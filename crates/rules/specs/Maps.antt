-- From address to entry: unpaged or paged, page and offset, the maps, the walk, the cells (01, "From address to entry").
use Rattle.std.specs.Prelude.{ℕ, ◌+◌, ◌-◌, ◌*◌, ◌/◌, ◌%◌, Bool, not, ◌&&◌, ◌||◌, List, [], ◌∷◌, map, eqb, ltb, leb, length, set, Option, Some, None}
use Rattle.rules.specs.Types.{Maps, Cell, Cells, Reads, Walked, Entry, Looked}
use Rattle.rules.specs.Choice.{pick}
use Rattle.rules.specs.Memory.{Memory, word_at}
use Rattle.rules.specs.Status.{bit_in}
use Rattle.rules.specs.Unit.{count_of, there, empty_cell, cell_at}
use Rattle.rules.specs.Registers.{found_from}

-- "Unpaged: FCN 0, or FCN 1 in a state other than DESTINATION or EXECUTE."
unfoldable pub unpaged : ℕ → ℕ → Bool
unpaged fcn state = eqb fcn 0 || (eqb fcn 1 && not (eqb state 2 || eqb state 3))

-- "Physical equals virtual, but 160000o-177777o become 760000o-777777o (PDP-11 rule)."
unfoldable pub unpaged_at : ℕ → ℕ
unpaged_at a = pick (ltb a 0o160000) a (a + 0o600000)

-- the low 9 bits: an address's offset, the physical page of a map word, a map register (M) or a pointer (m)
unfoldable pub low9 : ℕ → ℕ
low9 w = w % 512

-- the high 7 of 16 bits: an address's page, a map register's N, a pointer's n
unfoldable pub high7 : ℕ → ℕ
high7 w = w / 512 % 128

-- "Otherwise page p is the top 7 bits, the offset the low 9."
unfoldable pub page_of : ℕ → ℕ
page_of a = high7 a

-- a physical page, with the offset of a virtual address
unfoldable pub physical_at : ℕ → ℕ → ℕ
physical_at page a = 512 * page + low9 a

-- A map word: "bit 15 resident, 14 public, 13 write-enabled .., 8-0 physical page; 12-9 ignored"
unfoldable pub resident_bit : ℕ → Bool
resident_bit w = bit_in w 0o100000

unfoldable pub public_bit : ℕ → Bool
public_bit w = bit_in w 0o40000

unfoldable pub write_bit : ℕ → Bool
write_bit w = bit_in w 0o20000

-- "So pages 0 to N are simple, N=0 means one page, and N=127 means all." (T-02) N is the number of the last simple page, as LNE is in source 4.2.2.1,
-- "Exec address 0 through 1000₈ * LNE + 777 are in Exec simple space", and LNU in 4.2.2.2, "entries 0 through LNU of this Page Map". Source 3.3.2.2, "the
-- first N entries", does not decide here. Exec pages go by KTEM's N and user pages by KTUM's; this is the one boundary of both.
unfoldable pub simple : ℕ → ℕ → Bool
simple r p = leb p (high7 r)

-- the word of page or entry p in the upper half of a physical page: "512·M(KTEM)+256+2p", "512·M(KTUM)+256+2p", "512·m+256+2n"
unfoldable pub upper_at : ℕ → ℕ → ℕ
upper_at page p = 512 * page + 256 + 2 * p

-- the word of page p in its lower half: "512·M(KTUM)+2p"
unfoldable pub lower_at : ℕ → ℕ → ℕ
lower_at page p = 512 * page + 2 * p

-- "the map word is at 512·m+256+2n": m the pointer's low 9 bits, n its high 7
unfoldable pub pointed_at : ℕ → ℕ
pointed_at w = upper_at (low9 w) (high7 w)

-- A walk that reads the word at this address: "A map word or pointer at or beyond L is a time-out.", and "The walk itself should report that it ran
-- off memory" (T-01). No map word is read from a register: these stand beyond every L that 01 allows.
unfoldable pub unless_off : Memory → ℕ → Option Walked → Option Walked
unless_off m at w = pick (ltb at (length m)) w None

-- a walk that ended: the map word, and where the words stand that were read for it
abbrev pub finished : ℕ → Reads → Option Walked
finished w rs = Some (record { word = w; reads = rs })

-- a map word that stands at a place
unfoldable pub word_walk : Memory → ℕ → Option Walked
word_walk m at = unless_off m at (finished (word_at m at) (Reads.Direct at))

-- the map word that a pointer leads to, and "never a pointer again"
unfoldable pub followed : Memory → ℕ → ℕ → Option Walked
followed m from at = unless_off m at (finished (word_at m at) (Reads.Pointed from at))

-- "Other user pages: the word at that same place is a pointer, high 7 bits n, low 9 bits m; the map word is at 512·m+256+2n"
unfoldable pub pointer_walk : Memory → ℕ → Option Walked
pointer_walk m from = unless_off m from (followed m from (pointed_at (word_at m from)))

-- "Exec simple: word at 512·M(KTEM)+256+2p. Other exec pages: word at 512·M(KTUM)+2p."
unfoldable pub exec_walk : Memory → Maps → ℕ → Option Walked
exec_walk m r p =
    pick (simple r.ktem p) (word_walk m (upper_at (low9 r.ktem) p)) (word_walk m (lower_at (low9 r.ktum) p))

-- "User simple: word at 512·M(KTUM)+256+2p. Other user pages: the word at that same place is a pointer"
unfoldable pub user_walk : Memory → Maps → ℕ → Option Walked
user_walk m r p =
    pick (simple r.ktum p) (word_walk m (upper_at (low9 r.ktum) p)) (pointer_walk m (upper_at (low9 r.ktum) p))

-- the walk of a page that is not exec page 0
unfoldable pub walk_of : Memory → Maps → Bool → ℕ → Option Walked
walk_of m r user p = pick user (user_walk m r p) (exec_walk m r p)

-- "Its map words are those the walk read, pointer included.": their addresses
unfoldable pub reads_of : Reads → List ℕ
reads_of (Reads.Direct at) = at ∷ []
reads_of (Reads.Pointed from at) = from ∷ at ∷ []

-- what a walk gives the access
unfoldable pub entry_of : Option Walked → Entry
entry_of (Some w) = Entry.Mapped w.word
entry_of None = Entry.OffMap

-- "Exec page 0": the only page that has neither map word nor cell
unfoldable pub exec_zero : Bool → ℕ → Bool
exec_zero user p = not user && eqb p 0

-- "Exec page 0: physical page M of KTEM, no cell, every key passes."
unfoldable pub exec_zero_entry : Maps → Entry
exec_zero_entry r = Entry.ExecZero (low9 r.ktem)

-- The entry by the maps alone, as the unit with no cells finds it.
unfoldable pub walked : Memory → Maps → Bool → ℕ → Entry
walked m r user p = pick (exec_zero user p) (exec_zero_entry r) (entry_of (walk_of m r user p))

-- "Tag: 128 for user plus p; 0 means empty."
unfoldable pub tag_of : Bool → ℕ → ℕ
tag_of user p = pick user (128 + p) p

-- the tag that a cell holds
unfoldable pub tag_in : Cell → ℕ
tag_in h = h.tag

-- which cell holds a page
unfoldable pub cell_of : Cells → ℕ → Option ℕ
cell_of k tag = found_from 0 (map tag_in (there k)) tag

-- "then the counter steps 10o to 17o and round", the last being 7 more than there are cells: "With 24 the counter runs 10o to 37o" (T-08). The
-- 57o of source 3.3.2.6 is neither.
unfoldable pub stepped : ℕ → ℕ → ℕ
stepped n counter = pick (ltb counter (0o7 + n)) (counter + 1) 0o10

-- "A finished walk fills the cell the counter names, then the counter steps"; the first cell is named by 10o
unfoldable pub filled : Cells → ℕ → ℕ → Cells
filled k tag w =
    record {
      size = k.size;
      list = set k.list (k.counter - 0o10) (record { tag = tag; word = w });
      counter = stepped (count_of k.size) k.counter;
    }

-- "A finished walk fills the cell .. A walk that times out fills nothing.", which is one that ran off memory
unfoldable pub filled_by : Cells → ℕ → Option Walked → Cells
filled_by k tag (Some w) = filled k tag w.word
filled_by k tag None = k

-- a page that no cell holds
unfoldable pub missed : Cells → ℕ → Option Walked → Looked
missed k tag w = record { entry = entry_of w; cells = filled_by k tag w }

-- "A hit uses the cell."
unfoldable pub sought_in : Memory → Maps → Bool → ℕ → Cells → Option ℕ → Looked
sought_in m r user p k (Some i) = record { entry = Entry.Mapped (cell_at k i).word; cells = k }
sought_in m r user p k None = missed k (tag_of user p) (walk_of m r user p)

-- Step 6: how an access gets the entry of its page, and what that leaves in the cells.
unfoldable pub looked : Memory → Maps → Bool → ℕ → Cells → Looked
looked m r user p k =
    pick (exec_zero user p) (record { entry = exec_zero_entry r; cells = k }) (sought_in m r user p k (cell_of k (tag_of user p)))

-- whether a cell holds the page with this tag: "0 means empty", and exec page 0, whose tag that is, has "no cell"
unfoldable pub holds : ℕ → Cell → Bool
holds tag h = eqb h.tag tag && not (eqb h.tag 0)

-- one cell, emptied if it holds the page
unfoldable pub cell_forgotten : ℕ → Cell → Cell
cell_forgotten tag h = pick (holds tag h) empty_cell h

-- "the cell of the page at fault .. empties"; the counter stays
unfoldable pub forgotten : Cells → ℕ → Cells
forgotten k tag = record { size = k.size; list = map (cell_forgotten tag) k.list; counter = k.counter }
