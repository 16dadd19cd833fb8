-- The walk goes on from the place that is read.
use Rattle.std.proofs.Common.{◌≡◌, ◌+◌, Some, rules, sym, subst}
use Rattle.std.proofs.lemmas.Option.{slice_get_read}
use Rattle.std.specs.List.{slice_get}
use Rattle.engine.proofs.Walked.{Walked, passes_marked, passes_key}
use Rattle.engine.proofs.listing.count_keys.Goals as goal
use Rattle.engine.proofs.listing.count_keys.Goals.{then-not-marked, else-not-marked}

pub loop-preserved : goal.loop-preserved
loop-preserved g c =
    let ps = c.args.places.now in
    let from = c.args.from in
    let turn = c.loop.index in
    let at = c.loop.at in
    let count = c.loop.count in
    let x = c.in_ok-next.field-0.now in
    let there : slice_get ps at ≡ Some x = let finds = c.get.ensures.lookup in search (rules, slice_get_read) in
    elim c.if-not-marked.branch [
      | then-not-marked w ↦ subst (Walked ps from (turn + 1) x.next) (sym w.count-is) (passes_key ps from turn at count c.loop.invariant c.loop-test.true x c.if-at-eq-HIGH.false there w.if-not-marked.true)
      | else-not-marked w ↦ subst (Walked ps from (turn + 1) x.next) (sym w.count-is) (passes_marked ps from turn at count c.loop.invariant c.loop-test.true x c.if-at-eq-HIGH.false there w.if-not-marked.false)
    ]
