-- Each place that is passed was asked.
use Rattle.std.proofs.Common.{ℕ, Bool, true, false, rules}
use Rattle.std.proofs.lemmas.Iterator.{first_from_Range}
use Rattle.even.proofs.Finding.{finds_from_first}
use Rattle.even.proofs.balanced.first_place.Goals as goal

pub returns : goal.returns
returns g c =
    let Tells : ℕ → Bool → Type 0 = λ x told. goal.F-post g c.args.test x told in
    finds_from_first Tells c.find.result _
    (first_from_Range _ _ _ c.find.result (λ x. Tells x true) (λ x. Tells x false) c.find.ensures.ran
    (λ x q k. search rules) (λ x q k. search rules))
