-- Place after place stops waiting for the station.
use Rattle.std.proofs.Common.{get_or, set, sym, ap, ◌∙◌}
use Rattle.std.proofs.lemmas.List.Edits.{map_over_more}
use Rattle.records.specs.Records.{with_status}
use Rattle.engine.specs.Settling.{let_go}
use Rattle.engine.proofs.settle.after_work.Goals as goal

pub loop-place-preserved : goal.loop-place-preserved
loop-place-preserved g c =
    let i = c.loop-place.place-index in
    let ps = c.loop-place.places in
    let x = get_or ps i c.place-item.result in
    ap (λ s. set ps i (with_status s x)) c.without_station-place.ensures
    ∙ ap (λ y. set ps i (let_go c.args.seat.number y)) (sym c.place-item.is)
    ∙ map_over_more (let_go c.args.seat.number) c.args.places.now ps i c.place-item.result c.loop-place-test.true c.loop-place.invariant c.place-item.is
