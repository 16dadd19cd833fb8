-- Key by key, by where the walk stands.
use Rattle.std.proofs.Common.{◌≡◌, suc, ◌+◌, ◌-◌, ◌<◌, ◌≤◌, length, Some, rules, sym, ap, subst, arith}
use Rattle.std.proofs.lemmas.Option.{slice_get_read}
use Rattle.std.specs.List.{slice_get}
use Rattle.engine.proofs.Listed.{Copied, copies_nothing, copies_key, all_copied}
use Rattle.engine.proofs.Walked.{Walked, keys_within, stands, none_at_high, left_marked, left_key, passes_marked, passes_key}
use Rattle.engine.proofs.listing.write_keys.Goals as goal
use Rattle.engine.proofs.listing.write_keys.Goals.{then-not-place, else-not-place}

pub returns-then-at-eq-HIGH : goal.returns-then-at-eq-HIGH
returns-then-at-eq-HIGH g c =
    let room : c.loop.count ≤ length c.loop.keys = omega (arith, c.loop.invariant.0.meets, c.requires.1) in
    all_copied c.args.places.now c.args.from c.args.keys.now c.loop.index c.loop.at c.loop.count c.loop.keys c.loop.invariant.1
    (none_at_high c.args.places.now c.args.from c.loop.index c.loop.at c.loop.count c.loop.invariant.0 c.loop-test.true c.if-at-eq-HIGH.true) room

pub returns-in_default : goal.returns-in_default
returns-in_default g c =
    let past : length c.args.places.now ≤ c.loop.at = search rules in
    absurd (stands c.args.places.now c.args.from c.loop.index c.loop.at c.loop.count c.loop.invariant.0 c.loop-test.true c.if-at-eq-HIGH.false past c.requires.0)

pub bounds-keys-count : goal.bounds-keys-count
bounds-keys-count g c =
    let ps = c.args.places.now in
    let x = c.in-Some.place.now in
    let there : slice_get ps c.loop.at ≡ Some x = let finds = c.get.ensures.lookup in search (rules, slice_get_read) in
    let left : length (keys_within ps (length ps - c.loop.index) c.loop.at) ≡ suc (length (keys_within ps (length ps - (c.loop.index + 1)) x.next)) =
    ap length (left_key ps c.args.from c.loop.index c.loop.at c.loop.count c.loop.invariant.0 c.loop-test.true x c.if-at-eq-HIGH.false there c.if-not-place.true) in
    omega (arith, c.loop.invariant.0.meets, c.requires.1)

pub loop-preserved : goal.loop-preserved
loop-preserved g c =
    let ps = c.args.places.now in
    let from = c.args.from in
    let given = c.args.keys.now in
    let turn = c.loop.index in
    let at = c.loop.at in
    let count = c.loop.count in
    let keys = c.loop.keys in
    let walked = c.loop.invariant.0 in
    let copied = c.loop.invariant.1 in
    let more = c.loop-test.true in
    let off = c.if-at-eq-HIGH.false in
    let x = c.in-Some.place.now in
    let there : slice_get ps at ≡ Some x = let finds = c.get.ensures.lookup in search (rules, slice_get_read) in
    let next = x.next in
    elim c.if-not-place.branch [
      | then-not-place w ↦
          let left = left_key ps from turn at count walked more x off there w.if-not-place.true in
          let room : count < length keys = omega (arith, walked.meets, c.requires.1, ap length left) in (
            subst (Walked ps from (turn + 1) next) (sym w.count-is) (passes_key ps from turn at count walked more x off there w.if-not-place.true),
            subst (λ n. Copied ps from given (turn + 1) next n c.if-not-place.keys) (sym w.count-is)
                (subst (Copied ps from given (turn + 1) next (count + 1)) (sym w.keys-is) (copies_key ps from given turn at count keys copied next x.key room left)),
          )
      | else-not-place w ↦ (
        subst (Walked ps from (turn + 1) next) (sym w.count-is) (passes_marked ps from turn at count walked more x off there w.if-not-place.false),
        subst (λ n. Copied ps from given (turn + 1) next n c.if-not-place.keys) (sym w.count-is)
            (subst (Copied ps from given (turn + 1) next count) (sym w.keys-is) (copies_nothing ps from given turn at count keys copied next (left_marked ps from turn at count walked more x off there w.if-not-place.false))),
      )
    ]
