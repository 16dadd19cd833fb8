-- The best so far leans.
use Rattle.std.proofs.Common.{◌≡◌, ◌-◌, true, refl, rules}
use Rattle.std.proofs.iter.Yields.{nat_range_steps}
use Rattle.std.proofs.lemmas.Fn.{fold_over}
use Rattle.std.proofs.lemmas.Iterator.{YieldsList-from_range}
use Rattle.even.specs.Balance.{leaning}
use Rattle.even.specs.Evened.{entries_of, heights_of}
use Rattle.even.proofs.balanced.Even.tallest_leaning.Goals as goal

pub returns : goal.returns
returns c =
    let e = c.args.self.now in
    let first = c.in_ok-first.first in
    fold_over nat_range_steps (λ x. x) _ (λ ys best. leaning (entries_of e) (heights_of e) best ≡ true) _
    (λ ys a x b q j k. search rules) (record { start = first; end = 1024 }) _ first c.fold.result
    (YieldsList-from_range first 1024 (1024 - first) refl refl).runs c.in_ok-first.ensures c.fold.ensures.ran
