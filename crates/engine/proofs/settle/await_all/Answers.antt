-- Station after station is told.
use Rattle.std.proofs.Common.{set, sym, ap, ◌∙◌}
use Rattle.std.proofs.lemmas.List.Edits.{map_over_more}
use Rattle.engine.specs.Settling.{awaiting}
use Rattle.engine.proofs.settle.await_all.Goals as goal

pub loop-station-preserved : goal.loop-station-preserved
loop-station-preserved g c =
    let i = c.loop-station.station-index in
    ap (set c.loop-station.stations i) (c.awaiting.ensures ∙ ap awaiting (sym c.station-item.is))
    ∙ map_over_more awaiting c.args.stations.now c.loop-station.stations i c.station-item.result c.loop-station-test.true c.loop-station.invariant c.station-item.is
