-- That a guide's rules leave it an answer. Assumes nothing.
use Rattle.std.proofs.Common.{◌≡◌, ℕ, Bool, true, false, List, refl}
use Rattle.guides.specs.declared.answer.Beside.{Beside}
use Rattle.guides.specs.declared.answer.Beside.TheVariants.{Absent, End}
use Rattle.guides.specs.declared.answer.Side.{Side}
use Rattle.guides.specs.Meaning.{has}
use Rattle.guides.specs.Rules.{AnswersBeside}

-- Beside can always be answered: absent where the place is not in the sequence, else end.
pub some_beside : (xs : List ℕ) (p : ℕ) (side : Side) → (beside : Beside) × AnswersBeside xs p side beside
some_beside xs p side = by (has p xs) refl
  where
    by : (b : Bool) → has p xs ≡ b → (beside : Beside) × AnswersBeside xs p side beside
    by true e = (End, e)
    by false e = (Absent, e)
