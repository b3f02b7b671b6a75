-- For demand 3: runs of calls, what each call did, pages in use, outdated and forgotten, the premises, and the unit with no cells. The quotations
-- are 01's ("From address to entry") or, where they say so, demand 3's own.
use Rattle.std.specs.Prelude.{ℕ, Bool, true, false, not, ◌&&◌, ◌||◌, List, [], ◌∷◌, ◌++◌, eqb, Option, Some, None}
use Rattle.rules.specs.Types.{Core, Maps, Size, Cells, Unit, Call, Walked, Answer, Effect, Outcome}
use Rattle.rules.specs.Choice.{pick}
use Rattle.rules.specs.Memory.{Memory, even_of}
use Rattle.rules.specs.Registers.{among, peeked}
use Rattle.rules.specs.Maps.{looked, exec_zero, walk_of, reads_of, tag_of}
use Rattle.rules.specs.Program.{Prog, done, ask, peek, run, plain_run}
use Rattle.rules.specs.Calls.{After, called, call_of, maps_after, memory_after}

-- A run ------------------------------------------------------------------------------------------------------------------

-- What is compared after a call; demand 3: "each answer with its data and address, memory byte and operating register (KTCS and 777600o-777616o)". Wait
-- and fetch memory, which are in the core, are compared too; scratchpad words and counter are not.
pub record Seen : Type 0 where
  pub answer : Answer
  pub core : Core
  pub maps : Maps
  pub memory : Memory

-- what is compared, out of all that a call leaves
unfoldable pub seen_in : After → Seen
seen_in a = record { answer = a.reply.answer; core = a.reply.unit.core; maps = a.reply.unit.maps; memory = a.memory }

-- what is seen after each call of a run, in which memory "changes only by these calls" (demand 3)
unfoldable pub seen_along : Memory → Unit → List Call → List Seen
seen_along m u [] = []
seen_along m u (c ∷ cs) = seen_in (call_of m u c) ∷ seen_along (call_of m u c).memory (call_of m u c).reply.unit cs

-- the unit and memory at the end of such a run
pub record Station : Type 0 where
  pub unit : Unit
  pub memory : Memory

-- one call after the other, each on what the one before it left
unfoldable pub station_after : Memory → Unit → List Call → Station
station_after m u [] = record { unit = u; memory = m }
station_after m u (c ∷ cs) = station_after (call_of m u c).memory (call_of m u c).reply.unit cs

-- a call over a memory of its own: a run of these is one in which the host may change memory as it likes
pub record Turn : Type 0 where
  pub memory : Memory
  pub call : Call

-- the unit at the end of such a run
unfoldable pub unit_after : Unit → List Turn → Unit
unit_after u [] = u
unit_after u (t ∷ ts) = unit_after (call_of t.memory u t.call).reply.unit ts

-- The unit with no cells -------------------------------------------------------------------------------------------------

-- It has no cells, and registers at the same addresses as the unit that it stands beside, so that both run the same program.
pub record Plain : Type 0 where
  pub core : Core
  pub maps : Maps
  pub size : Size

-- a unit without its cells
unfoldable pub plain_of : Unit → Plain
plain_of u = record { core = u.core; maps = u.maps; size = u.cells.size }

-- the same rules, "which walks the maps on every access" (demand 3)
unfoldable pub plain_decision : Memory → Plain → Call → Outcome
plain_decision m u c = plain_run m u.maps (called m u.size u.core u.maps c)

-- its decision, carried out: there are no cells to change
unfoldable pub plain_settled : Memory → Maps → Outcome → Seen
plain_settled m r o =
    record { answer = o.answer; core = o.core; maps = maps_after o.effect r; memory = memory_after o.effect m }

-- a call of it
unfoldable pub plain_call : Memory → Plain → Call → Seen
plain_call m u c = plain_settled m u.maps (plain_decision m u c)

-- the unit with no cells, as a call left it; its size is set by making alone
unfoldable pub plain_in : Size → Seen → Plain
plain_in s a = record { core = a.core; maps = a.maps; size = s }

-- what is seen after each call of a run of it
unfoldable pub plain_along : Memory → Plain → List Call → List Seen
plain_along m u [] = []
plain_along m u (c ∷ cs) = plain_call m u c ∷ plain_along (plain_call m u c).memory (plain_in u.size (plain_call m u c)) cs

-- What a call did --------------------------------------------------------------------------------------------------------

-- a page that an access goes to, and the walk of its maps
pub record Visit : Type 0 where
  pub tag : ℕ
  pub walk : Option Walked

-- A page that is gone to. Exec page 0 has no map words that could be stored into, so it is left out.
unfoldable pub visit : Memory → Maps → Bool → ℕ → List Visit
visit m r user p = pick (exec_zero user p) [] (record { tag = tag_of user p; walk = walk_of m r user p } ∷ [])

-- "A window's access goes to its outer page and, once reached, to its inner one.": the pages whose entry was asked for (step 6). An odd address is
-- refused before that, and goes to no page, though the page is at fault and is forgotten.
unfoldable pub visits_of : Memory → Maps → Prog → Cells → List Visit
visits_of m r (done o) k = []
visits_of m r (ask user p f) k =
    visit m r user p ++ visits_of m r (f (looked m r user p k).entry) (looked m r user p k).cells
visits_of m r (peek g f) k = visits_of m r (f (peeked k g)) k

-- whether a call read a scratchpad word or the replacement register, also by a fetch that then ends in answer 8
unfoldable pub peeks : Memory → Maps → Prog → Cells → Bool
peeks m r (done o) k = false
peeks m r (ask user p f) k = peeks m r (f (looked m r user p k).entry) (looked m r user p k).cells
peeks m r (peek g f) k = true

-- whether it stored into a scratchpad word; a store into the replacement register does nothing, and is no hindrance
unfoldable pub stores_pad : Effect → Bool
stores_pad Effect.Keep = false
stores_pad (Effect.Forget tag) = false
stores_pad (Effect.Reload r) = false
stores_pad (Effect.StoreWord at v) = false
stores_pad (Effect.StoreByte at v) = false
stores_pad (Effect.StorePad i p v) = true

-- What a call did: the pages that it went to, whether it reached a scratchpad word or read the replacement register, and its effect, which
-- says the bytes that it stored, the page at fault that it forgets, and whether it forgets all.
pub record Deed : Type 0 where
  pub visits : List Visit
  pub reaches : Bool
  pub effect : Effect

-- what a program does, by the cells
unfoldable pub deed_in : Memory → Maps → Prog → Cells → Deed
deed_in m r p k =
    record {
      visits = visits_of m r p k;
      reaches = peeks m r p k || stores_pad (run m r p k).outcome.effect;
      effect = (run m r p k).outcome.effect;
    }

-- what a call does
unfoldable pub deed_of : Memory → Unit → Call → Deed
deed_of m u c = deed_in m u.maps (called m u.cells.size u.core u.maps c) u.cells

-- In use, outdated, forgotten --------------------------------------------------------------------------------------------

-- what is known of a page: in use, with the addresses of its map words, "those the walk read, pointer included"
pub data Use : Type 0 where
  unused : Use
  in_use : List ℕ → Use
  outdated : Use

-- a page's use by its tag
abbrev pub History : Type 0
History = ℕ → Use

-- of a fresh unit
unfoldable pub none_in_use : History
none_in_use t = unused

-- "A page comes into use when an access gets its entry.": a walk that ran off memory gives none. One that is in use stays as it came.
unfoldable pub used_by : Option Walked → Use → Use
used_by (Some w) unused = in_use (reads_of w.reads)
used_by (Some w) (in_use ws) = in_use ws
used_by (Some w) outdated = outdated
used_by None u = u

-- the history with another word about one page
unfoldable pub told : History → ℕ → Use → History
told h tag u t = pick (eqb t tag) u (h t)

-- the history once a call has gone to these pages
unfoldable pub in_use_after : History → List Visit → History
in_use_after h [] = h
in_use_after h (v ∷ vs) = in_use_after (told h v.tag (used_by v.walk (h v.tag))) vs

-- "Storing counts even if the value is equal.", and one byte of a map word counts for the word
unfoldable pub struck : ℕ → Use → Use
struck at unused = unused
struck at (in_use ws) = pick (among (even_of at) ws) outdated (in_use ws)
struck at outdated = outdated

-- "It is forgotten by INIT, a KTUM or KTEM store, or any of answers 4 to 9 with it as the page at fault.", and by 10: "State changes are as for
-- 9" (T-01)
unfoldable pub history_after : Effect → History → History
history_after Effect.Keep h t = h t
history_after (Effect.Forget tag) h t = told h tag unused t
history_after (Effect.Reload r) h t = unused
history_after (Effect.StoreWord at v) h t = struck at (h t)
history_after (Effect.StoreByte at v) h t = struck at (h t)
history_after (Effect.StorePad i p v) h t = h t

-- the history after a call
unfoldable pub heard : History → Deed → History
heard h d = history_after d.effect (in_use_after h d.visits)

-- The premises -----------------------------------------------------------------------------------------------------------

-- "stored into since it came into use and not yet forgotten" (demand 3)
unfoldable pub is_outdated : Use → Bool
is_outdated unused = false
is_outdated (in_use ws) = false
is_outdated outdated = true

-- demand 3: "no access goes to a page whose map words were stored into since it came into use and not yet forgotten"
unfoldable pub none_outdated : History → List Visit → Bool
none_outdated h [] = true
none_outdated h (v ∷ vs) = not (is_outdated (h v.tag)) && none_outdated h vs

-- the premises, of one call; demand 3: also "no call reaches the scratchpad words or the replacement register"
unfoldable pub allowed : History → Deed → Bool
allowed h d = not d.reaches && none_outdated h d.visits

-- The premises along a run in which memory "changes only by these calls" (demand 3), which keep its length. The history is what is known of the pages
-- before it: of a fresh unit, whose cells are empty, none is in use.
unfoldable pub meets : Memory → Unit → History → List Call → Bool
meets m u h [] = true
meets m u h (c ∷ cs) =
    allowed h (deed_of m u c) && meets (call_of m u c).memory (call_of m u c).reply.unit (heard h (deed_of m u c)) cs

-- the history at the end of the run
unfoldable pub history_of : Memory → Unit → History → List Call → History
history_of m u h [] = h
history_of m u h (c ∷ cs) = history_of (call_of m u c).memory (call_of m u c).reply.unit (heard h (deed_of m u c)) cs
