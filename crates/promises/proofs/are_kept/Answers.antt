-- The promises are kept, by the laws of the order.
use Rattle.std.proofs.Common.{refl}
use Rattle.promises.proofs.Whole.{promises_kept}
use Rattle.promises.proofs.are_kept.Goals as goal

pub returns : goal.returns
returns g c =
    let met = g.met.K.Order in
    (refl, promises_kept g.K.Order.rank (record { swaps = met.swaps; chains = met.chains; same = met.same }))
