-- What one turn writes lies apart from what is written before and after it, and where all are written they are the two lists.
use Rattle.std.proofs.Common.{◌≡◌, ◌∙◌, ◌+◌, ◌<◌, ℕ, List, length, get_or, rules, arith, ap}
use lib.ListN.{set}
use Rattle.rules.specs.Unit.{room, empty_cell}
use Rattle.coding.specs.Coding.{tags_place, words_place, unit_words}
use Rattle.coding.proofs.Passes.{writing, written_none, written_here, written_all}
use Rattle.coding.proofs.store_list.Goals as goal

pub loop-i-init : goal.loop-i-init
loop-i-init c = written_none tags_place words_place c.args.list.now c.args.w.now

pub loop-i-preserved : goal.loop-i-preserved
unfolding empty_cell
loop-i-preserved c =
    let list = c.args.list.now in
    let w = c.args.w.now in
    let i = c.loop-i.i in
    let many : length list ≡ room = search rules in
    let long : length w ≡ unit_words = search rules in
    let inside : i < length list = search rules in
    ap (λ (x : List ℕ). set (set x (18 + i) (get_or list i empty_cell).tag) (42 + i) (get_or list i empty_cell).word) c.loop-i.invariant
    ∙ written_here tags_place words_place list w i inside (omega (arith, many)) (omega (arith, many, long))

pub returns : goal.returns
returns c =
    let list = c.args.list.now in
    let w = c.args.w.now in
    let many : length list ≡ room = search rules in
    let long : length w ≡ unit_words = search rules in
    let all : c.loop-i.i ≡ room = search rules in
    c.loop-i.invariant ∙ ap (writing tags_place words_place list w) all
    ∙ written_all tags_place room list w many (omega (arith, long))
