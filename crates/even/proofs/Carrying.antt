-- What a call of the plain tree does, the even tree around it does. Assumes nothing.
use Rattle.std.proofs.Common.{◌≡◌, ℕ, ◌<◌, ◌≤◌, false, ltb, Ok, Err, Result, sym, refl, ap, ◌∙◌, inl, inr, arith}
use Rattle.std.proofs.lemmas.Bool.{cases_Bool, cases_lt, and_left, and_right}
use Rattle.guides.specs.declared.answer.GuideRefusal.{GuideRefusal}
use Rattle.guides.specs.declared.answer.Mended as done
use Rattle.guides.specs.declared.answer.Mended.TheVariants as did
use Rattle.guides.specs.Meaning.{Meaning, has}
use Rattle.guides.specs.Rules.{Does}
use Rattle.trees.specs.declared.tree.Tree.{Tree}
use Rattle.trees.specs.Plain as tree
use Rattle.trees.specs.Plain.{plain}
use Rattle.trees.proofs.Keeping.{holds_of}
use Rattle.tables.specs.Revisions.{at}
use Rattle.tables.specs.Shapes.{shape_of}
use Rattle.tables.proofs.Holding.{below_of}
use Rattle.even.specs.declared.balanced.Even.{Even}
use Rattle.even.specs.declared.heights.Heights.{Heights}
use Rattle.even.specs.Balance.{flawed, leaning}
use Rattle.even.specs.Evened.{evened, entries_of, heights_of}

pub ok_not_err : {T E : Type 0} (x : T) (e : E) → ◌≡◌ {A = Result T E} (Ok x) (Err e) → ⊥
ok_not_err x e h = let z : ◌≡◌ {A = ℕ} 0 1 = cc in omega arith

pub carries_ok : (told : Result Meaning GuideRefusal) (before after : Tree) (e d : Even) → d.tree ≡ after
    → Does plain told before (Ok tt) after → Does evened told e (Ok tt) d
carries_ok (Ok m) before after e d is h = (refl, ap plain is ∙ h.1)
carries_ok (Err x) before after e d is h = absurd (ok_not_err tt x h.0)

abbrev around : Heights → Tree → Even
around hs t = record { tree = t; heights = hs }

pub carries_err : (told : Result Meaning GuideRefusal) (before after : Tree) (hs : Heights) (x : GuideRefusal)
    → Does plain told before (Err x) after
    → Does evened told (record { tree = before; heights = hs }) (Err x) (record { tree = after; heights = hs })
carries_err (Ok m) before after hs x h = absurd (ok_not_err tt x (sym h.0))
carries_err (Err y) before after hs x h = (h.0, ap (around hs) h.1)

-- Beyond the table no place stands, so none is flawed or leans there.
beyond : (t : Tree) (p : ℕ) → 1024 ≤ p → has p (plain t).sequence ≡ false
beyond t p past =
    elim (cases_Bool (has p (plain t).sequence)) [
      | inl stands ↦
          let room = t.bounded in
          let below = below_of (at (tree.entries_of t)) t.places (shape_of (tree.entries_of t)) (holds_of t) p stands in
          absurd (omega arith)
      | inr absent ↦ absent
    ]

pub none_flawed : (e : Even) → ((p : ℕ) → p < 1024 → flawed (entries_of e) (heights_of e) p ≡ false)
    → (p : ℕ) → flawed (entries_of e) (heights_of e) p ≡ false
none_flawed e asked p =
    elim (cases_lt p 1024) [
      | inl within ↦ asked p within
      | inr past ↦ and_right (ltb 0 p) _ (and_left _ _ (beyond e.tree p past))
    ]

pub none_leans : (e : Even) → ((p : ℕ) → p < 1024 → leaning (entries_of e) (heights_of e) p ≡ false)
    → (p : ℕ) → leaning (entries_of e) (heights_of e) p ≡ false
none_leans e asked p =
    elim (cases_lt p 1024) [
      | inl within ↦ asked p within
      | inr past ↦ and_right (ltb 1 p) _ (and_left _ _ (beyond e.tree p past))
    ]

abbrev pub NothingIsMended : Type 0
NothingIsMended = ◌≡◌ {A = done.Mended} did.Nothing did.Mended

pub nothing_not_mended : NothingIsMended → ⊥
nothing_not_mended h = let z : ◌≡◌ {A = ℕ} 0 1 = cc in omega arith
