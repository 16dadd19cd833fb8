-- Small facts that many proofs use: on orderings, truth values, works, statuses and locks. Assumes nothing.
use Rattle.std.proofs.Common.{◌≡◌, ℕ, zero, suc, Bool, true, false, ◌||◌, ◌⊎◌, List, [], ◌∷◌, get_or, is_some, Some, None, Option, Ordering, Less, Equal, Greater, sym, refl, ap, ◌∙◌, inl, inr, arith}
use Rattle.std.proofs.lemmas.Bool.{true≢false, eqb-true, or_right}
use Rattle.std.specs.Ordering.{ordering_reverse, is_eq}
use Rattle.records.specs.declared.record.Phase.{Phase}
use Rattle.records.specs.declared.record.Phase.TheVariants.{Link, Mark}
use Rattle.records.specs.declared.record.Status.{Status}
use Rattle.records.specs.declared.record.Status.TheVariants.{Free, InHand, Chained, Retired}
use Rattle.records.specs.declared.record.Task.{Task}
use Rattle.records.specs.declared.record.Work.{Work}
use Rattle.records.specs.declared.record.Work.TheVariants.{Put, Strike, Look, First, After}
use Rattle.rules.specs.Putting.{is_free}
use Rattle.engine.specs.Calling.{locked_by}
use Rattle.engine.specs.Settling.{anyone}
use Rattle.promises.proofs.Invariant.{fits, is_awaited}

-- ---- truth values

pub true_and_false : {P : Type 0} {b : Bool} → b ≡ true → b ≡ false → P
true_and_false h k = absurd (true≢false (sym h ∙ k))

pub same_bool : (a b : Bool) → (a ≡ true → b ≡ true) → (b ≡ true → a ≡ true) → a ≡ b
same_bool true b f g = sym (f refl)
same_bool false true f g = g refl
same_bool false false f g = refl

-- ---- orderings

pub equal_only : (o : Ordering) → is_eq o ≡ true → o ≡ Equal
equal_only Less h = cc
equal_only Equal h = refl
equal_only Greater h = cc

pub itself : (o : Ordering) → o ≡ ordering_reverse o → o ≡ Equal
itself Less h = cc
itself Equal h = refl
itself Greater h = cc

pub equal_not_less : {o : Ordering} → o ≡ Equal → o ≡ Less → ⊥
equal_not_less e h = let z : ◌≡◌ {A = ℕ} 0 1 = cc in omega arith

pub greater_not_less : {o : Ordering} → o ≡ Greater → o ≡ Less → ⊥
greater_not_less e h = let z : ◌≡◌ {A = ℕ} 0 1 = cc in omega arith

pub up_not_less : {o : Ordering} → (o ≡ Equal) ⊎ (o ≡ Greater) → o ≡ Less → ⊥
up_not_less (inl e) h = equal_not_less e h
up_not_less (inr e) h = greater_not_less e h

-- ---- phases

pub link_not_mark : {P : Type 0} {p : Phase} → p ≡ Link → p ≡ Mark → P
link_not_mark e h = let z : ◌≡◌ {A = ℕ} 0 1 = cc in absurd (omega arith)

-- ---- works: only a first comes to FIRST, only a put to LINK, only a strike to MARK

pub fits_first : (w : Work) → fits w 2 ≡ true → w ≡ First
fits_first Put h = cc
fits_first Strike h = cc
fits_first Look h = cc
fits_first First h = refl
fits_first After h = cc

pub fits_put : (w : Work) → fits w 4 ≡ true → w ≡ Put
fits_put Put h = refl
fits_put Strike h = cc
fits_put Look h = cc
fits_put First h = cc
fits_put After h = cc

pub fits_strike : (w : Work) → fits w 5 ≡ true → w ≡ Strike
fits_strike Put h = cc
fits_strike Strike h = refl
fits_strike Look h = cc
fits_strike First h = cc
fits_strike After h = cc

pub awaited_works : {K : Type 0} (o : Option (Task K)) → is_awaited o ≡ true → is_some o ≡ true
awaited_works None h = h
awaited_works (Some t) h = refl

-- ---- statuses

pub only_free : (x : Status) → is_free x ≡ true → x ≡ Free
only_free Free h = refl
only_free InHand h = cc
only_free Chained h = cc
only_free (Retired waits) h = cc

pub anyone_of : (w : List Bool) (i : ℕ) → get_or w i false ≡ true → anyone w ≡ true
anyone_of [] i h = absurd (true≢false (sym h))
anyone_of (b ∷ w) zero h = ap (λ x. x || anyone w) h
anyone_of (b ∷ w) (suc i) h = or_right b (anyone w) (anyone_of w i h)

-- ---- locks

pub one_holder : (i j : ℕ) (l : Option ℕ) → l ≡ Some i → l ≡ Some j → i ≡ j
one_holder i j l x y = cc

pub locked_is : (i : ℕ) (l : Option ℕ) → locked_by i l ≡ true → l ≡ Some i
locked_is i None h = absurd (true≢false (sym h))
locked_is i (Some j) h = ap Some (eqb-true j i h)
