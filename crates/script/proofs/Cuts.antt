-- Where a text is cut: at the first mark, or nowhere. Assumes nothing.
use Rattle.std.proofs.Common.{◌≡◌, ℕ, zero, suc, ◌<◌, List, [], ◌∷◌, length, get_or, take, drop, Some, None, refl, ap, ◌∙◌, arith}
use Rattle.std.proofs.lemmas.Bool.{cond-true, cond-false, eq-eqb, ne_eqb}
use Rattle.script.specs.Words.{cut_at, in_front}

-- No byte before i is the mark.
abbrev pub Unmarked : ℕ → List ℕ → ℕ → Type 0
Unmarked mark bs i = (k : ℕ) → k < i → get_or bs k 0 ≡ mark → ⊥

rest_unmarked : (mark b : ℕ) (bs : List ℕ) (i : ℕ) → Unmarked mark (b ∷ bs) (suc i) → Unmarked mark bs i
rest_unmarked mark b bs i none k h = none (suc k) (omega arith)

pub cut_found : (mark : ℕ) (bs : List ℕ) (i : ℕ) → i < length bs → Unmarked mark bs i → get_or bs i 0 ≡ mark → cut_at mark bs ≡ Some (take i bs, drop (suc i) bs)
cut_found mark [] i h none e = absurd (omega arith)
cut_found mark (b ∷ bs) zero h none e = cond-true _ _ _ (eq-eqb b mark e)
cut_found mark (b ∷ bs) (suc i) h none e =
    cond-false _ _ _ (ne_eqb b mark (none 0 (omega arith))) ∙ ap (in_front b) (cut_found mark bs i (omega arith) (rest_unmarked mark b bs i none) e)

pub cut_nowhere : (mark : ℕ) (bs : List ℕ) → Unmarked mark bs (length bs) → cut_at mark bs ≡ None
cut_nowhere mark [] none = refl
cut_nowhere mark (b ∷ bs) none =
    cond-false _ _ _ (ne_eqb b mark (none 0 (omega arith))) ∙ ap (in_front b) (cut_nowhere mark bs (rest_unmarked mark b bs (length bs) none))
