-- Each number below the count is turned into the value.
use Rattle.std.proofs.Common.{sym, ◌∙◌, arith, rules}
use Rattle.std.specs.List.{range_with_len}
use Rattle.std.proofs.lemmas.Iterator.{items_from_collect, YieldsList-from_map, YieldsList-from_range}
use Rattle.std.proofs.lemmas.List.FromFn.{length-range_with_len}
use Rattle.std.proofs.lemmas.Result.{IfOk-weaker}
use Rattle.std.proofs.lemmas.Simd.{splat_is_map}
use Rattle.play.proofs.book.repeated.Goals as goal

pub returns : goal.returns
returns g c =
    let same = splat_is_map (range_with_len 0 c.args.count) c.args.count c.args.value (length-range_with_len 0 c.args.count) in
    IfOk-weaker c.collect.result _ _ (λ v made. made ∙ sym same)
    (items_from_collect c.collect.result c.collect.ensures.ran
    (YieldsList-from_map _ (λ _. c.args.value) (YieldsList-from_range 0 _ c.args.count c.map.ensures.source (omega arith)) c.map.ensures.closure (λ x r q k. search rules)))
