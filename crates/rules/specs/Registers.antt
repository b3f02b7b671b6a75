-- The register table: which address is which register, and reading and storing by word and by byte (01, "Registers").
use Rattle.std.specs.Prelude.{ℕ, suc, zero, ◌+◌, ◌-◌, ◌*◌, ◌/◌, ◌%◌, Bool, List, [], ◌∷◌, ◌++◌, eqb, ltb, get_or, set, Option, Some, None, is_some}
use Rattle.rules.specs.Types.{Core, Maps, Cell, Size, Cells, Operating, Associative, Register, Target, Place, Part}
use Rattle.rules.specs.Choice.{pick}
use Rattle.rules.specs.Memory.{even_of}
use Rattle.rules.specs.Unit.{count_of, cell_at, kept_count}
use Rattle.rules.specs.Status.{packed}

-- where a list has x first, counting from i: the one search, for vectors, registers, cells and map words
unfoldable pub found_from : ℕ → List ℕ → ℕ → Option ℕ
found_from i [] x = None
found_from i (y ∷ ys) x = pick (eqb x y) (Some i) (found_from (suc i) ys x)

-- whether a list has x
unfoldable pub among : ℕ → List ℕ → Bool
among x ys = is_some (found_from 0 ys x)

-- even addresses, n of them from a on
unfoldable pub words_from : ℕ → ℕ → List ℕ
words_from a zero = []
words_from a (suc n) = a ∷ words_from (a + 2) n

-- the numbers of KTIC and of the first scratchpad word among the registers, which are counted from KTMR
abbrev pub first_kept : ℕ
first_kept = 2

abbrev pub first_pad : ℕ
first_pad = 10

-- The table of addresses: KTWN 777572, then the registers: KTMR 777574, KTCS 777576, KTIC 777600, KTSP 777602, KTPC 777604, KTPS 777606,
-- KTAD 777610, KTDT 777612, KTUM 777614, KTEM 777616, and from 777620 the scratchpad words, one a cell: to 777636 with 8 cells, "With 24 .. at
-- 777620o to 777676o" (T-08).
unfoldable pub registers : ℕ → List ℕ
registers cells = 0o777572 ∷ words_from 0o777574 first_pad ++ words_from 0o777620 cells

-- which register has this number, counted from KTMR in the order of their addresses
unfoldable pub register_of : ℕ → Register
register_of n =
    pick (eqb n 0) (Register.Associative Associative.Ktmr)
    (pick (eqb n 1) (Register.Operating Operating.Ktcs)
    (pick (ltb n (first_kept + kept_count)) (Register.Operating (Operating.Kept (n - first_kept)))
    (pick (eqb n 8) (Register.Operating Operating.Ktum)
    (pick (eqb n 9) (Register.Operating Operating.Ktem)
    (Register.Associative (Associative.Pad (n - first_pad)))))))

-- what stands at this place of the table: the window first, and the registers after it
unfoldable pub place_in : ℕ → Place
place_in n = pick (eqb n 0) Place.Window (Place.There (Target.In (register_of (n - 1))))

-- what a search of the table comes to: an address that it does not have is that of nothing
unfoldable pub place_found : Option ℕ → Place
place_found None = Place.Nowhere
place_found (Some n) = place_in n

-- What lies at a physical address, for a unit of this size with memory of this length: step 10's "at or beyond L and not a register above". L is
-- at most 760000o, so no register lies in memory.
unfoldable pub place_of : Size → ℕ → ℕ → Place
place_of s len at = pick (ltb at len) (Place.There Target.Memory) (place_found (found_from 0 (registers (count_of s)) (even_of at)))

-- "DATOB writes the low 8 bits of data", into the byte that its address names; every other store covers the word
unfoldable pub part_of : ℕ → ℕ → Part
part_of op at = pick (eqb op 3) (pick (eqb (at % 2) 0) Part.Low Part.High) Part.Whole

-- "Other registers take words and bytes."
unfoldable pub merged : Part → ℕ → ℕ → ℕ
merged Part.Whole old v = v
merged Part.Low old v = old / 256 * 256 + v % 256
merged Part.High old v = v % 256 * 256 + old % 256

-- KTIC to KTDT by 01's names: their places, counted from KTIC
abbrev pub ktic : ℕ
ktic = 0

abbrev pub ktsp : ℕ
ktsp = 1

abbrev pub ktpc : ℕ
ktpc = 2

abbrev pub ktps : ℕ
ktps = 3

abbrev pub ktad : ℕ
ktad = 4

abbrev pub ktdt : ℕ
ktdt = 5

-- what a read of a register gives that the core or the map registers answer for
unfoldable pub operating_word : Core → Maps → Operating → ℕ
operating_word c r Operating.Ktcs = packed c.ktcs
operating_word c r (Operating.Kept i) = get_or c.kept i 0
operating_word c r Operating.Ktum = r.ktum
operating_word c r Operating.Ktem = r.ktem

-- what a read of a register gives that the cells answer for: "KTMR reads the counter times 256": its low 8 bits, in KTMR's
-- "high byte"; a scratchpad word reads what its cell holds, which in an empty one is 0
unfoldable pub peeked : Cells → Associative → ℕ
peeked k Associative.Ktmr = k.counter % 256 * 256
peeked k (Associative.Pad i) = (cell_at k i).word

-- one cell under a store: it "leaves the tag, and does nothing in an empty cell (H)"
unfoldable pub cell_stored : Cell → Part → ℕ → Cell
cell_stored h p v = pick (eqb h.tag 0) h (record { tag = h.tag; word = merged p h.word v })

-- "A store into a scratchpad word leaves the tag, and does nothing in an empty cell (H)."
unfoldable pub pad_stored : Cells → ℕ → Part → ℕ → Cells
pad_stored k i p v =
    record { size = k.size; list = set k.list i (cell_stored (cell_at k i) p v); counter = k.counter }
