-- Place after place is counted, by its status.
use Rattle.std.proofs.Common.{◌≡◌, ℕ, ◌+◌, ◌-◌, ◌≤◌, Bool, cond, List, length, take, drop, ap, ◌∙◌, arith}
use Rattle.records.specs.declared.record.Place.{Place}
use Rattle.records.specs.declared.record.Status.{Status}
use Rattle.rules.specs.Putting.{is_free}
use Rattle.engine.specs.Counting.{is_in_hand, is_chained, is_retired, count_of, inner}
use Rattle.engine.proofs.Counted.{Counted, none_tallied, one_tallied, all_counted, found_inner}
use Rattle.engine.proofs.counting.counts.Goals as goal

pub loop-place-init : goal.loop-place-init
loop-place-init g c = none_tallied (take (length c.args.places.now - 2) (drop 2 c.args.places.now))

pub with_one-counts-requires : goal.with_one-counts-requires
with_one-counts-requires g c =
    let tallied = c.loop-place.invariant in
    (omega (arith, tallied.free.few), (omega (arith, tallied.in_hand.few), (omega (arith, tallied.chained.few), omega (arith, tallied.retired.few))))

pub loop-place-preserved : goal.loop-place-preserved
loop-place-preserved g c =
    let one = c.with_one-counts.ensures in
    let ps = take (length c.args.places.now - 2) (drop 2 c.args.places.now) in
    one_tallied ps c.loop-place.place-index c.loop-place.counts c.with_one-counts.result c.loop-place.invariant c.loop-place-test.true c.place-item.result
    (one.free ∙ ap (λ x. c.loop-place.counts.free + cond (is_free x.status) 1 0) c.place-item.is)
    (one.in_hand ∙ ap (λ x. c.loop-place.counts.in_hand + cond (is_in_hand x.status) 1 0) c.place-item.is)
    (one.chained ∙ ap (λ x. c.loop-place.counts.chained + cond (is_chained x.status) 1 0) c.place-item.is)
    (one.retired ∙ ap (λ x. c.loop-place.counts.retired + cond (is_retired x.status) 1 0) c.place-item.is)

whole : {K : Type 0} (is : Status → Bool) (ps : List (Place K)) (i n : ℕ) → Counted (take (length ps - 2) (drop 2 ps)) is i n
    → length (take (length ps - 2) (drop 2 ps)) ≤ i → n ≡ count_of is (inner ps)
whole is ps i n counted over = all_counted (take (length ps - 2) (drop 2 ps)) is i n counted over ∙ ap (count_of is) (found_inner ps)

pub returns-after-loop-place-clause-free : goal.returns-after-loop-place-clause-free
returns-after-loop-place-clause-free g c = whole is_free c.args.places.now c.loop-place.place-index _ c.loop-place.invariant.free c.loop-place-test.false

pub returns-after-loop-place-clause-in_hand : goal.returns-after-loop-place-clause-in_hand
returns-after-loop-place-clause-in_hand g c = whole is_in_hand c.args.places.now c.loop-place.place-index _ c.loop-place.invariant.in_hand c.loop-place-test.false

pub returns-after-loop-place-clause-chained : goal.returns-after-loop-place-clause-chained
returns-after-loop-place-clause-chained g c = whole is_chained c.args.places.now c.loop-place.place-index _ c.loop-place.invariant.chained c.loop-place-test.false

pub returns-after-loop-place-clause-retired : goal.returns-after-loop-place-clause-retired
returns-after-loop-place-clause-retired g c = whole is_retired c.args.places.now c.loop-place.place-index _ c.loop-place.invariant.retired c.loop-place-test.false
