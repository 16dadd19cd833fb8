-- That the book which an accepted open leaves has the invariant. Assumes nothing.
use Rattle.std.proofs.Common.{◌≡◌, ℕ, zero, suc, Bool, true, false, cond, not, ◌&&◌, ◌||◌, eqb, ltb, ◌⊎◌, List, [], ◌∷◌, map, length, get_or, Some, None, Ok, Err, Option, Ordering, sym, refl, ap, ◌∙◌, subst, inl, inr, arith}
use Rattle.std.proofs.lemmas.Bool.{eqb-true}
use Rattle.std.proofs.lemmas.Bool.Decides.{nat_tests}
use Rattle.guides.specs.Meaning.{low, high, has}
use Rattle.records.specs.declared.record.Status.{Status}
use Rattle.records.specs.declared.record.Status.TheVariants.{Free, InHand, Chained, Retired}
use Rattle.records.specs.declared.record.Task.{Task}
use Rattle.engine.specs.Calling.{locked_by}
use Rattle.promises.specs.Promised.{is_chained}
use Rattle.promises.proofs.Laws.{bottom, top, before}
use Rattle.std.specs.List.{slice_get}
use Rattle.std.proofs.lemmas.List.{length-map}
use Rattle.std.proofs.Math.Bool.{or-false}
use Rattle.guides.specs.declared.answer.GuideRefusal.TheVariants.{SmallGuide}
use Rattle.guides.specs.Rules.{cleared, clearing}
use Rattle.records.specs.declared.answer.Refusal.TheVariants.{BadCount, Guide}
use Rattle.records.specs.declared.record.Place.{Place}
use Rattle.records.specs.declared.record.Station.{Station}
use Rattle.engine.specs.Calling.{Opened, bad_count, opening, opening_by, vacated, opened_places, opened_stations, served, task_at}
use Rattle.engine.specs.Contents.{field_of}
use Rattle.engine.specs.Settling.{idle}
use Rattle.promises.proofs.Sights.{Sight, sight}
use Rattle.promises.proofs.Finds.{never_ok, same_ok}
use Rattle.promises.proofs.Invariant.{is_lagging, is_striking, holds, other_in, is_handing, is_detaching, is_hiding, holder_in, chained, shown, Inv}
use Rattle.promises.proofs.Sees.{never}

module _ {K : Type 0} where
  free_status : (qs : List (Place K)) (p : ℕ) → field_of Free (λ x. x.status) (slice_get (map vacated qs) p) ≡ Free
  free_status [] p = refl
  free_status (q ∷ qs) zero = refl
  free_status (q ∷ qs) (suc p) = free_status qs p

  free_lock : (qs : List (Place K)) (p : ℕ) → field_of None (λ x. x.lock) (slice_get (map vacated qs) p) ≡ None
  free_lock [] p = refl
  free_lock (q ∷ qs) zero = refl
  free_lock (q ∷ qs) (suc p) = free_lock qs p

  idle_task : (ss : List (Station K)) (i : ℕ) → (get_or (opened_stations ss) i (idle {K = K})).task ≡ None
  idle_task [] i = refl
  idle_task (s ∷ ss) zero = refl
  idle_task (s ∷ ss) (suc i) = idle_task ss i

  pub no_task : (ss : List (Station K)) (i : ℕ) → task_at (opened_stations ss) i ≡ None
  no_task ss i = go (served (opened_stations ss) i)
    where
      go : (b : Bool) → cond b (get_or (opened_stations ss) i (idle {K = K})).task None ≡ None
      go true = idle_task ss i
      go false = refl

  module _ (rank : K → K → Ordering) (at_low at_high : Place K) (rest : List (Place K)) (ss : List (Station K)) where
    abbrev fresh : Sight K
    fresh = sight (opened_places (at_low ∷ (at_high ∷ rest))) (opened_stations ss) (cleared (length (at_low ∷ (at_high ∷ rest))))

    -- Only Low and High are chained, and every other place is free.
    pub data Kind (p : ℕ) : Type 0 where
      is_low : p ≡ 0 → Kind p
      is_high : p ≡ 1 → Kind p
      is_other : (eqb 0 p ≡ false) → (eqb 1 p ≡ false) → fresh.status p ≡ Free → Kind p

    kind : (p : ℕ) → Kind p
    kind zero = is_low refl
    kind (suc zero) = is_high refl
    kind (suc (suc p)) = is_other (grind (arith, nat_tests)) (grind (arith, nat_tests)) (free_status rest p)

    unlocked : (p : ℕ) → fresh.lock p ≡ None
    unlocked zero = refl
    unlocked (suc zero) = refl
    unlocked (suc (suc p)) = free_lock rest p

    idle_all : (i : ℕ) → fresh.task i ≡ None
    idle_all i = no_task ss i

    nobody : {P : Type 0} (i : ℕ) (t : Task K) → fresh.task i ≡ Some t → P
    nobody i t e = let both : ◌≡◌ {A = Option (Task K)} None (Some t) = sym (idle_all i) ∙ e in let z : ◌≡◌ {A = ℕ} 0 1 = cc in absurd (omega arith)

    ends : (p : ℕ) → chained fresh p ≡ true → (p ≡ 0) ⊎ (p ≡ 1)
    ends p c = elim (kind p) [
      | is_low e ↦ inl e
      | is_high e ↦ inr e
      | is_other a b f ↦ never (sym c ∙ ap is_chained f)
    ]

    not_status : {P : Type 0} (p : ℕ) (x : Status) → fresh.status p ≡ x → (Free ≡ x → ⊥) → (Chained ≡ x → ⊥) → P
    not_status p x e f c = elim (kind p) [
      | is_low k ↦ absurd (c (sym (ap fresh.status k) ∙ e))
      | is_high k ↦ absurd (c (sym (ap fresh.status k) ∙ e))
      | is_other a b k ↦ absurd (f (sym k ∙ e))
    ]

    not_retired : {P : Type 0} (p : ℕ) (w : List Bool) → fresh.status p ≡ Retired w → P
    not_retired p w e = not_status p (Retired w) e
        (λ h. let z : ◌≡◌ {A = ℕ} 0 1 = cc in omega arith) (λ h. let z : ◌≡◌ {A = ℕ} 0 1 = cc in omega arith)

    by_ends : (p : ℕ) (P : ℕ → Type 0) → chained fresh p ≡ true → P 0 → P 1 → P p
    by_ends p P c at_0 at_1 = elim (ends p c) [ inl e ↦ subst P (sym e) at_0 | inr e ↦ subst P (sym e) at_1 ]

    none_in : (f : ℕ → Bool) (i p : ℕ) → other_in f (fresh.task i) p ≡ false
    none_in f i p = ap (λ a. other_in f a p) (idle_all i)

    shows : (p : ℕ) → has p (low ∷ (high ∷ [])) ≡ shown fresh p
    shows p = elim (kind p) [
      | is_low e ↦ subst (λ q. has q (low ∷ (high ∷ [])) ≡ shown fresh q) (sym e) refl
      | is_high e ↦ subst (λ q. has q (low ∷ (high ∷ [])) ≡ shown fresh q) (sym e) refl
      | is_other a b f ↦ ap (λ c. c || (eqb 1 p || false)) a ∙ ap (λ c. c || false) b
          ∙ sym (ap (λ y. (is_chained y && not (holder_in is_hiding fresh.task (fresh.lock p) p)) || holder_in is_detaching fresh.task (fresh.lock p) p) f
          ∙ ap (λ l. holder_in is_detaching fresh.task l p) (unlocked p))
    ]

    pub opened_has : Inv rank fresh
    opened_has = record {
      two = omega arith;
      beyond = λ p h. elim (kind p) [ is_low e ↦ absurd (omega arith) | is_high e ↦ absurd (omega arith) | is_other a b f ↦ f ];
      guide_size = ap (λ n. suc (suc n)) (sym (length-map rest vacated));
      low_spot = refl;
      high_spot = refl;
      low_chained = refl;
      high_chained = refl;
      low_unmarked = refl;
      high_unmarked = refl;
      leads = λ p c h. by_ends p (λ q. (q ≡ high → ⊥) → chained fresh (fresh.next q) ≡ true) c (λ _. refl) (λ k. absurd (k refl)) h;
      rises = λ p c h. by_ends p (λ q. (q ≡ high → ⊥) → before rank (fresh.spot q) (fresh.spot (fresh.next q)) ≡ true) c (λ _. refl) (λ k. absurd (k refl)) h;
      gap = λ p q c d h. by_ends p (λ p. before rank (fresh.spot p) (fresh.spot q) ≡ true → (fresh.next p ≡ q) ⊎ (before rank (fresh.spot (fresh.next p)) (fresh.spot q) ≡ true)) c
          (λ h. by_ends q (λ q. before rank bottom (fresh.spot q) ≡ true → (high ≡ q) ⊎ (before rank top (fresh.spot q) ≡ true)) d (λ k. never (sym k)) (λ _. inl refl) h)
          (λ h. by_ends q (λ q. before rank top (fresh.spot q) ≡ true → (low ≡ q) ⊎ (before rank bottom (fresh.spot q) ≡ true)) d (λ _. inl refl) (λ k. never (sym k)) h) h;
      apart = λ p q c d. by_ends p (λ p. (p ≡ q) ⊎ ((before rank (fresh.spot p) (fresh.spot q) ≡ true) ⊎ (before rank (fresh.spot q) (fresh.spot p) ≡ true))) c
          (by_ends q (λ q. (0 ≡ q) ⊎ ((before rank bottom (fresh.spot q) ≡ true) ⊎ (before rank (fresh.spot q) bottom ≡ true))) d (inl refl) (inr (inl refl)))
          (by_ends q (λ q. (1 ≡ q) ⊎ ((before rank top (fresh.spot q) ≡ true) ⊎ (before rank (fresh.spot q) top ≡ true))) d (inr (inr refl)) (inl refl));
      follows = λ p c h. by_ends p (λ p. (p ≡ low → ⊥) → (q : ℕ) × (chained fresh q ≡ true) × (q ≡ high → ⊥) × (fresh.next q ≡ p)) c (λ k. absurd (k refl)) (λ _. (0, refl, (λ k. omega arith), refl)) h;
      backs = λ p c h. by_ends p (λ p. (p ≡ high → ⊥) → fresh.prev (fresh.next p) ≡ cond (holder_in is_lagging fresh.task (fresh.lock p) p) (fresh.prev p) p) c
          (λ _. refl) (λ k. absurd (k refl)) h;
      locks = λ i p. ap (locked_by i) (unlocked p) ∙ sym (ap (λ a. holds a p) (idle_all i));
      fit = λ i t e. nobody i t e;
      seen = λ i t e. nobody i t e;
      stands = λ i t e. nobody i t e;
      marks = λ p c m. by_ends p (λ p. fresh.marked p ≡ true → (i : ℕ) × (other_in is_striking (fresh.task i) p ≡ true)) c (λ k. never (sym k)) (λ k. never (sym k)) m;
      hands = λ p h. not_status p InHand h (λ k. let z : ◌≡◌ {A = ℕ} 0 1 = cc in omega arith) (λ k. let z : ◌≡◌ {A = ℕ} 0 1 = cc in omega arith);
      hands_apart = λ i j p y z. never (sym y ∙ none_in is_handing i p);
      rests = λ p w r. not_retired p w r;
      awaits = λ p w r i g. not_retired p w r;
      next_seen = λ p w r i g. not_retired p w r;
      prev_seen = λ p w r i g. not_retired p w r;
      guide_rises = ((λ y h. ap (λ q. before rank bottom (fresh.spot q)) (sym (eqb-true 1 y (sym (or-false (eqb 1 y)) ∙ h)))), ((λ y h. never (sym h)), tt));
      guide_shows = shows;
    }

  -- Whatever an accepted open leaves.
  module _ (rank : K → K → Ordering) (most : ℕ) (ss : List (Station K)) (o : Opened K) where
    abbrev Has : Type 0
    Has = Inv rank (sight o.places o.stations o.meaning)

    by_guide : (at_low at_high : Place K) (rest : List (Place K)) (b : Bool)
        → opening_by (cond b (Err SmallGuide) (Ok (cleared (length (at_low ∷ (at_high ∷ rest)))))) (at_low ∷ (at_high ∷ rest)) ss ≡ Ok o → Has
    by_guide at_low at_high rest true e = never_ok (Guide SmallGuide) o e
    by_guide at_low at_high rest false e =
        subst (λ x. Inv rank (sight x.places x.stations x.meaning)) (same_ok _ o e) (opened_has rank at_low at_high rest ss)

    by_count : (ps : List (Place K)) (b : Bool) → bad_count (length ps) (length ss) ≡ b
        → cond b (Err BadCount) (opening_by (clearing most (length ps)) ps ss) ≡ Ok o → Has
    by_count ps true bad e = never_ok BadCount o e
    by_count [] false bad e = never bad
    by_count (only ∷ []) false bad e = never bad
    by_count (at_low ∷ (at_high ∷ rest)) false bad e = by_guide at_low at_high rest (ltb (length (at_low ∷ (at_high ∷ rest))) 2 || ltb most (length (at_low ∷ (at_high ∷ rest)))) e

    pub open_has : (ps : List (Place K)) → opening most ps ss ≡ Ok o → Has
    open_has ps e = by_count ps (bad_count (length ps) (length ss)) refl e
