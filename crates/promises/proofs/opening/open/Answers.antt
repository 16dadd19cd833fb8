-- The engine's open; that calls make runs, whatever the guide; and the promises, by the laws of the order.
use Rattle.promises.proofs.Alone.{alone_is_a_set}
use Rattle.promises.proofs.Laws.{Laws}
use Rattle.promises.proofs.RunsMade.{calls_make_runs}
use Rattle.promises.proofs.Whole.{promises_kept, statuses_told}
use Rattle.promises.proofs.opening.open.Given
use Rattle.promises.proofs.opening.open.Goals as goal

-- The laws that the order keeps.
laws : (g : Given.Over) → Laws g.K.Order.rank
laws g = record { swaps = g.met.K.Order.swaps; chains = g.met.K.Order.chains; same = g.met.K.Order.same }

pub returns : goal.returns
returns g c = record {
  opens = c.«open».ensures;
  runs = calls_make_runs g.K.Order.rank g.G.Guide.meaning g.G.Guide.CAPACITY;
  promises = promises_kept g.K.Order.rank (laws g);
  statuses = statuses_told g.K.Order.rank (laws g);
  alone = alone_is_a_set g.K.Order.rank (laws g);
}
