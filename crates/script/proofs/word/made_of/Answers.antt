-- There are bytes, and `all` tells whether each lies within the bounds.
use Rattle.std.proofs.Common.{◌≡◌, not, ◌&&◌, ap, ◌∙◌, rules, tests}
use Rattle.std.specs.List.{list_all}
use Rattle.std.proofs.lemmas.Iterator.{YieldsList-from_slice}
use Rattle.std.proofs.lemmas.Iterator.Search.{all_from_yields_List}
use Rattle.script.specs.Words.{within}
use Rattle.script.proofs.word.made_of.Goals as goal

pub returns-then-not-is_empty : goal.returns-then-not-is_empty
returns-then-not-is_empty c =
    let bytes = c.args.bytes.now in
    let test = within c.args.low c.args.high in
    let all : c.all.result ≡ list_all test bytes =
    all_from_yields_List test _ _ c.all.result c.all.ensures.ran (YieldsList-from_slice bytes cc) (λ x b q k. search (rules, tests)) in
    all ∙ ap (λ empty. not empty && list_all test bytes) c.if-not-is_empty.ensures
