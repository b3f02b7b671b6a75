-- The fetch memory, the kinds of a fetched word, and step 4: the counts, KTIC, SS and DS (01, "Order in one access"; source 3.3.2.1).
use Rattle.std.specs.Prelude.{ℕ, ◌+◌, Bool, false, ◌&&◌, ◌||◌, eqb, leb, ltb, set}
use Rattle.rules.specs.Types.{Ktcs, Fetch, Core, Access, Kind}
use Rattle.rules.specs.Choice.{pick}
use Rattle.rules.specs.Status.{flags_clear, with_states}
use Rattle.rules.specs.Unit.{with_ktcs, with_kept, with_fetch}
use Rattle.rules.specs.Registers.{ktic}

-- "States: 0 FETCH"
unfoldable pub is_fetch : Access → Bool
is_fetch q = eqb q.state 0

-- "Only DATO counts as DATO": operation 2
unfoldable pub is_dato : Access → Bool
is_dato q = eqb q.op 2

-- "004000-004777o" and its like: from the first to the last, both included
unfoldable pub between : ℕ → ℕ → ℕ → Bool
between a b w = leb a w && leb w b

-- "JSR 004000-004777o, RTS 000200-000207o, RTI 000002o, TRAP 104400-104777o"; the privileged HALT 0, WAIT 1, RESET 5; the entry point 000400o
unfoldable pub kind_of : ℕ → Kind
kind_of w =
    pick (between 0o004000 0o004777 w) Kind.Jsr
    (pick (between 0o000200 0o000207 w) Kind.Rts
    (pick (eqb w 0o000002) Kind.Rti
    (pick (between 0o104400 0o104777 w) Kind.Trap
    (pick (eqb w 0 || eqb w 1 || eqb w 5) Kind.Privileged
    (pick (eqb w 0o000400) Kind.EntryPoint Kind.Other)))))

-- "counts of DATOs and of all non-fetch accesses since (this one included, each stops at 2)"
unfoldable pub one_more : ℕ → ℕ
one_more n = pick (ltb n 2) (n + 1) 2

-- Step 4: "Counts since the last fetch". A fetch is not counted.
unfoldable pub counted : Access → Fetch → Fetch
counted q f =
    pick (is_fetch q) f
    (record { newer = f.newer; older = f.older; datos = pick (is_dato q) (one_more f.datos) f.datos; accesses = one_more f.accesses; public = f.public })

-- ""Normal paging" is FCN 2, and FCN 3 for a fetch."
unfoldable pub normal : Ktcs → Access → Bool
normal s q = eqb s.fcn 2 || (eqb s.fcn 3 && is_fetch q)

-- destination-only paging: "The FCN 1 clauses hold whether or not that access is paged."
unfoldable pub destination_only : Ktcs → Bool
destination_only s = eqb s.fcn 1

-- SS by what is being executed, clauses 2, 3 and 4 of SS (source 3.3.2.1): "A DATO operation while executing a TRAP or JSR during normal paging. 3. A
-- DATO while executing a JSR during destination only paging. 4. Any bus operation while executing a RTS or RTI and paging during normal or
-- destination - only paging."; n in normal paging, d in destination-only paging, dato at a DATO
unfoldable pub source_by : Kind → Bool → Bool → Bool → Bool
source_by Kind.Jsr n d dato = (n || d) && dato
source_by Kind.Rts n d dato = n || d
source_by Kind.Rti n d dato = n || d
source_by Kind.Trap n d dato = n && dato
source_by Kind.Privileged n d dato = false
source_by Kind.EntryPoint n d dato = false
source_by Kind.Other n d dato = false

-- DS by what is being executed, clauses 2 and 3 of DS: "The second DATO operation while executing a TRAP during normal paging. 3. The second bus
-- operation while not in the fetch state and executing an RTI during normal or destination only paging."; dato2 at the second DATO, access2 at the
-- second access
unfoldable pub destination_by : Kind → Bool → Bool → Bool → Bool → Bool
destination_by Kind.Jsr n d dato2 access2 = false
destination_by Kind.Rts n d dato2 access2 = false
destination_by Kind.Rti n d dato2 access2 = (n || d) && access2
destination_by Kind.Trap n d dato2 access2 = n && dato2
destination_by Kind.Privileged n d dato2 access2 = false
destination_by Kind.EntryPoint n d dato2 access2 = false
destination_by Kind.Other n d dato2 access2 = false

-- clause 1 of SS: "Any bus operation while in the "SOURCE" state during normal paging", and the others
unfoldable pub source_set : Ktcs → Fetch → Access → Bool
source_set s f q = (normal s q && eqb q.state 1) || source_by (kind_of f.newer) (normal s q) (destination_only s) (is_dato q)

-- clause 1 of DS: "Any bus operation while in the "DESTINATION" state during normal or destination - only paging", and the others;
-- "the "second" is the one that takes its count from 1 to 2"
unfoldable pub destination_set : Ktcs → Fetch → Access → Bool
destination_set s f q =
    ((normal s q || destination_only s) && eqb q.state 2)
    || destination_by (kind_of f.newer) (normal s q) (destination_only s) (is_dato q && eqb f.datos 1) (eqb f.accesses 1)

-- SS and DS, where the flags are clear. A fetch in normal paging clears both: "It is cleared whenever the processor does any bus operation while in the
-- "FETCH" state during normal paging if all the error flags are clear.", and DS "is cleared whenever the source state bit is cleared" (source
-- 3.3.2.1). "a fetch sets neither bit (H)", and another access may set them.
unfoldable pub states_marked : Ktcs → Fetch → Access → Ktcs
states_marked s f q =
    pick (is_fetch q) (pick (normal s q) (with_states s false false) s)
    (with_states s (s.ss || source_set s f q) (s.ds || destination_set s f q))

-- "KTIC from the address on a paged FETCH": a fetch is paged in FCN 2 and 3, which is normal paging
unfoldable pub instruction_noted : Core → Access → Core
instruction_noted c q = pick (is_fetch q && normal c.ktcs q) (with_kept c (set c.kept ktic q.addr)) c

-- "then, if bits 15-11 are clear: KTIC ..; SS and DS"; f is the fetch memory before this access was counted
unfoldable pub marked : Core → Fetch → Access → Core
marked c f q = pick (flags_clear c.ktcs) (with_ktcs (instruction_noted c q) (states_marked c.ktcs f q)) c

-- Step 4, whole. It refuses nothing.
unfoldable pub noted : Core → Access → Core
noted c q = marked (with_fetch c (counted q c.fetch)) c.fetch q

-- "A fetch with answer 0 updates it (counts go to 0, the flag to the page's public bit)"
unfoldable pub after_fetch : Fetch → ℕ → Bool → Fetch
after_fetch f w flag = record { newer = w; older = f.newer; datos = 0; accesses = 0; public = flag }
