-- What is read from a table after several writes. Assumes that each write is within the table.
use Rattle.std.proofs.Common.{◌≡◌, ℕ, ◌<◌, cond, eqb, ◌⊎◌, List, [], ◌∷◌, ◌++◌, length, sym, refl, ap, ◌∙◌, inl, inr, arith, length-set, get_or-set_other, get_or-set_same}
use Rattle.std.specs.List.{AllByRecursion as All}
use Rattle.std.proofs.lemmas.Bool.{cond-true, cond-false, cond_both, eq-eqb, ne_eqb}
use Rattle.std.proofs.lemmas.Bool.Decides.{eqb_tells}
use Rattle.tables.specs.declared.entry.Entry.{Entry}
use Rattle.tables.specs.Entries.{blank}
use Rattle.tables.specs.Revisions.{at, revise, revised}

-- What becomes of one place's entry.
abbrev pub touched : List (ℕ × (Entry → Entry)) → ℕ → Entry → Entry
touched [] y e = e
touched (c ∷ cs) y e = touched cs y (cond (eqb y c.0) (c.1 e) e)

at_revise : (p : ℕ) (g : Entry → Entry) (es : List Entry) (y : ℕ) → p < length es
    → at (revise p g es) y ≡ cond (eqb y p) (g (at es y)) (at es y)
at_revise p g es y within =
    elim (eqb_tells y p) [
      | inl h ↦
          ap (λ z. at (revise p g es) z) h.1 ∙ get_or-set_same es p (g (at es p)) blank within
          ∙ ap (λ z. g (at es z)) (sym h.1) ∙ sym (cond-true _ _ _ h.0)
      | inr h ↦ get_or-set_other es p y (g (at es p)) blank h.1 ∙ sym (cond-false _ _ _ h.0)
    ]

abbrev pub Within : ℕ → List (ℕ × (Entry → Entry)) → Type 0
Within n cs = All (λ c. c.0 < n) cs

pub at_revised : (cs : List (ℕ × (Entry → Entry))) (es : List Entry) (n : ℕ) → length es ≡ n → Within n cs → (y : ℕ)
    → at (revised cs es) y ≡ touched cs y (at es y)
at_revised [] es n long within y = refl
at_revised (c ∷ cs) es n long within y =
    let here : c.0 < length es = omega (arith, within.0) in
    at_revised cs (revise c.0 c.1 es) n (length-set es c.0 (c.1 (at es c.0)) ∙ long) within.1 y
    ∙ ap (touched cs y) (at_revise c.0 c.1 es y here)

pub length_revised : (cs : List (ℕ × (Entry → Entry))) (es : List Entry) → length (revised cs es) ≡ length es
length_revised [] es = refl
length_revised (c ∷ cs) es =
    length_revised cs (revise c.0 c.1 es) ∙ length-set es c.0 (c.1 (at es c.0))

-- ---- which writes reach a place

pub touch_skip : (c : ℕ × (Entry → Entry)) (cs : List (ℕ × (Entry → Entry))) (y : ℕ) (e : Entry) → (y ≡ c.0 → ⊥)
    → touched (c ∷ cs) y e ≡ touched cs y e
touch_skip c cs y e away = ap (touched cs y) (cond-false _ _ _ (ne_eqb _ _ away))

pub touch_hit : (c : ℕ × (Entry → Entry)) (cs : List (ℕ × (Entry → Entry))) (y : ℕ) (e : Entry) → y ≡ c.0
    → touched (c ∷ cs) y e ≡ touched cs y (c.1 e)
touch_hit c cs y e here = ap (touched cs y) (cond-true _ _ _ (eq-eqb _ _ here))

-- No write reaches the place.
abbrev pub Away : ℕ → List (ℕ × (Entry → Entry)) → Type 0
Away y cs = All (λ c. y ≡ c.0 → ⊥) cs

pub touched_away : (cs : List (ℕ × (Entry → Entry))) (y : ℕ) (e : Entry) → Away y cs → touched cs y e ≡ e
touched_away [] y e away = refl
touched_away (c ∷ cs) y e away = touch_skip c cs y e away.0 ∙ touched_away cs y e away.1

pub touched_append : (cs ds : List (ℕ × (Entry → Entry))) (y : ℕ) (e : Entry)
    → touched (cs ++ ds) y e ≡ touched ds y (touched cs y e)
touched_append [] ds y e = refl
touched_append (c ∷ cs) ds y e = touched_append cs ds y (cond (eqb y c.0) (c.1 e) e)

-- A field that each write keeps where it reaches the place is as it was.
pub field_kept : {X : Type 0} (field : Entry → X) (cs : List (ℕ × (Entry → Entry))) (y : ℕ) (e : Entry)
    → All (λ c. (y ≡ c.0 → ⊥) ⊎ ((d : Entry) → field (c.1 d) ≡ field d)) cs → field (touched cs y e) ≡ field e
field_kept field [] y e kept = refl
field_kept field (c ∷ cs) y e kept =
    field_kept field cs y (cond (eqb y c.0) (c.1 e) e) kept.1
    ∙ elim kept.0 [
      | inl away ↦ ap field (cond-false (eqb y c.0) (c.1 e) e (ne_eqb _ _ away))
      | inr same ↦
          cond_both (eqb y c.0) (c.1 e) e (λ d. field d ≡ field e) (λ _. same e) (λ _. refl)
    ]
