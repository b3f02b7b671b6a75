-- Each cell of the list is what forgetting makes of the one at its place.
use Rattle.std.proofs.Common.{◌≡◌, refl, ◌∙◌, ◌<◌, ◌≤◌, length, get_or, map, arith, rules, length-set, append-nil}
use lib.ListN.{drop_of_length-le}
use Rattle.std.proofs.lemmas.List.{get_or_default, take_all}
use Rattle.std.proofs.lemmas.List.Edits.{map_over_more}
use Rattle.rules.specs.Maps.{cell_forgotten, forgotten}
use Rattle.cells.proofs.forgotten.Goals as goal

pub loop-held-init : goal.loop-held-init
loop-held-init c = (search rules, refl)

pub loop-held-preserved : goal.loop-held-preserved
loop-held-preserved c =
    let items = c.loop-held.held-items in
    let i = c.loop-held.held-index in
    let held = get_or items i (record { tag = 0; word = 0 }) in
    let inv = c.loop-held.invariant in
    let inside : i < length c.args.k.list = search rules in
    let written = map_over_more (cell_forgotten c.args.tag) c.args.k.list items i held inside inv.0 (get_or_default items i _ held (omega (arith, inv.1, inside))) in
    (search (rules, written), length-set items i _ ∙ inv.1)

pub returns : goal.returns
unfolding forgotten
returns c =
    let past : length c.args.k.list ≤ c.loop-held.held-index = omega (arith, c.loop-held.invariant.1, c.loop-held-test.array_long, c.loop-held-test.false) in
    let each : c.loop-held.held-items ≡ map (cell_forgotten c.args.tag) c.args.k.list =
    rw (take_all _ c.args.k.list past) at (rw (drop_of_length-le c.args.k.list past, append-nil) at c.loop-held.invariant.0) in
    rw each
