-- The cut falls at the first mark, or there is none.
use Rattle.std.proofs.Common.{sym, ap, ◌∙◌, add-one, rules}
use Rattle.std.specs.Option.{option_map}
use Rattle.std.proofs.lemmas.List.{take_rest}
use Rattle.script.specs.Words.{both_now}
use Rattle.script.proofs.Cuts.{cut_found, cut_nowhere}
use Rattle.script.proofs.word.cut_at.Goals as goal

pub returns : goal.returns
returns c =
    let found = cut_found c.args.mark c.args.bytes.now c.in_ok-at.at (search rules) (search rules) (search rules) in
    simp (take_rest, add-one) (sym found)

pub returns-in_err-at : goal.returns-in_err-at
returns-in_err-at c = ap (option_map both_now) c.from_residual.ensures ∙ sym (cut_nowhere c.args.mark c.args.bytes.now (search rules))
