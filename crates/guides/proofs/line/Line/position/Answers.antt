-- The search finds a position if the sequence has the place.
use Rattle.std.proofs.Common.{eqb, ap, ◌∙◌, rules, tests}
use Rattle.std.proofs.lemmas.Iterator.Search.{position_from_yields_List}
use Rattle.std.proofs.lemmas.Iterator.{YieldsList-from_slice}
use Rattle.std.specs.Option.{is_some}
use Rattle.guides.proofs.Positions.{is_some-position}
use Rattle.guides.proofs.line.Line.position.Goals as goal

pub returns-clause-tells : goal.returns-clause-tells
returns-clause-tells c =
    let xs = c.args.self.now.order.items in
    let found =
    position_from_yields_List (λ stood. eqb stood c.args.place) _ _ c.position.result c.position.ensures.ran
    (YieldsList-from_slice xs (cc)) (λ x b q k. search (rules, tests)) in
    ap is_some found ∙ is_some-position c.args.place xs
