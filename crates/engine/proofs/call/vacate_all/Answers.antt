-- Place after place is made free.
use Rattle.std.proofs.Common.{set, sym, ap, ◌∙◌}
use Rattle.std.proofs.lemmas.List.Edits.{map_over_more}
use Rattle.engine.specs.Calling.{vacated}
use Rattle.engine.proofs.call.vacate_all.Goals as goal

pub loop-place-preserved : goal.loop-place-preserved
loop-place-preserved g c =
    let i = c.loop-place.place-index in
    ap (set c.loop-place.places i) (c.vacate.ensures ∙ ap vacated (sym c.place-item.is))
    ∙ map_over_more vacated c.args.places.now c.loop-place.places i c.place-item.result c.loop-place-test.true c.loop-place.invariant c.place-item.is
