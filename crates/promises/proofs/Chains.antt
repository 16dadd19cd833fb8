-- That the chain of a book is its chained places in rising order, and that it reaches High. Assumes the laws of the order
-- and what holds between calls.
use Rattle.std.proofs.Common.{◌≡◌, ℕ, zero, suc, ◌+◌, ◌<◌, ◌≤◌, Bool, true, false, cond, ◌||◌, eqb, ltb, ◌⊎◌, List, [], ◌∷◌, ◌++◌, length, Ok, Err, Result, Ordering, sym, refl, ap, ◌∙◌, subst, inl, inr, ⊎_elim, arith}
use Rattle.std.proofs.lemmas.Bool.{cases_lt, cases_Bool, true≢false, false≢true, eqb-true, eqb-false, eq-eqb, lt-ltb, or_cases, or_left, or_right, cond-true}
use Rattle.std.proofs.lemmas.Bool.Decides.{nat_tests}
use Rattle.guides.specs.Meaning.{Meaning, low, high, has, distinct, all_below}
use Rattle.guides.proofs.Sequences.{has_append}
use Rattle.guides.proofs.Pigeonhole.{distinct_below_room}
use Rattle.records.specs.declared.answer.Damage.{Damage}
use Rattle.records.specs.declared.answer.Damage.TheVariants.{NoPlace}
use Rattle.records.specs.declared.record.Place.{Place}
use Rattle.records.specs.declared.record.Station.{Station}
use Rattle.engine.specs.Contents.{next_of, chain_from, chain, reaches_high}
use Rattle.promises.specs.Promised.{is_chained}
use Rattle.promises.proofs.Small.{same_bool}
use Rattle.promises.proofs.Laws.{Laws, Bound, bottom, exact, top, before, before_not_self, before_chains, before_once}
use Rattle.promises.proofs.Sights.{Sight, sight}
use Rattle.promises.proofs.Invariant.{Inv, chained, Rising}

-- The places reached from p by successors, before High.
abbrev pub Walks : {K : Type 0} → Sight K → ℕ → List ℕ → Type 0
Walks s p [] = p ≡ high
Walks s p (x ∷ xs) = (x ≡ p) × (p ≡ high → ⊥) × (chained s p ≡ true) × Walks s (s.next p) xs

module _ {K : Type 0} (rank : K → K → Ordering) where
  pub nothing_after_top : (b : Bound K) → before rank top b ≡ false
  nothing_after_top bottom = refl
  nothing_after_top (exact k) = refl
  nothing_after_top top = refl

  pub nothing_before_bottom : (b : Bound K) → before rank b bottom ≡ false
  nothing_before_bottom bottom = refl
  nothing_before_bottom (exact k) = refl
  nothing_before_bottom top = refl

-- ---- two rising sequences with the same places are the same

module _ {K : Type 0} (rank : K → K → Ordering) (laws : Laws rank) (spot : ℕ → Bound K) where
  pub rising_once : (x : ℕ) (xs : List ℕ) → Rising rank spot (x ∷ xs) → has x xs ≡ false
  rising_once x xs r = ⊎_elim (λ h. absurd (true≢false (sym (r.0 x h) ∙ before_not_self rank laws (spot x)))) (λ h. h) (cases_Bool (has x xs))

  same_first : (x y : ℕ) (xs ys : List ℕ) → Rising rank spot (x ∷ xs) → Rising rank spot (y ∷ ys)
      → ((p : ℕ) → has p (x ∷ xs) ≡ has p (y ∷ ys)) → x ≡ y
  same_first x y xs ys r q same =
      let in_xs : has y (x ∷ xs) ≡ true = same y ∙ or_left (eqb y y) (has y ys) (eq-eqb y y refl) in
      let in_ys : has x (y ∷ ys) ≡ true = sym (same x) ∙ or_left (eqb x x) (has x xs) (eq-eqb x x refl) in
      ⊎_elim (λ e. eqb-true x y e) (λ later.
      ⊎_elim (λ e. sym (eqb-true y x e)) (λ sooner. absurd (true≢false (sym (q.0 x sooner) ∙ before_once rank laws (spot x) (spot y) (r.0 y later))))
      (or_cases (eqb y x) (has x ys) in_ys))
      (or_cases (eqb x y) (has y xs) in_xs)

  same_rest : (x p : ℕ) (xs ys : List ℕ) → has x xs ≡ false → has x ys ≡ false → has p (x ∷ xs) ≡ has p (x ∷ ys) → has p xs ≡ has p ys
  same_rest x p xs ys h k e =
      ⊎_elim (λ (same : x ≡ p). subst (λ z. has z xs ≡ has z ys) same (h ∙ sym k)) (λ rest. rest) (go (eqb x p) refl e)
    where
      go : (b : Bool) → eqb x p ≡ b → (b || has p xs) ≡ (b || has p ys) → (x ≡ p) ⊎ (has p xs ≡ has p ys)
      go true t e = inl (eqb-true x p t)
      go false t e = inr e

  pub rising_same : (xs ys : List ℕ) → Rising rank spot xs → Rising rank spot ys → ((p : ℕ) → has p xs ≡ has p ys) → xs ≡ ys
  rising_same [] [] r q same = refl
  rising_same [] (y ∷ ys) r q same = absurd (false≢true (same y ∙ or_left (eqb y y) (has y ys) (eq-eqb y y refl)))
  rising_same (x ∷ xs) [] r q same = absurd (true≢false (sym (or_left (eqb x x) (has x xs) (eq-eqb x x refl)) ∙ same x))
  rising_same (x ∷ xs) (y ∷ ys) r q same =
      let first : x ≡ y = same_first x y xs ys r q same in
      let q' : Rising rank spot (x ∷ ys) = subst (λ z. Rising rank spot (z ∷ ys)) (sym first) q in
      let same' : (p : ℕ) → has p (x ∷ xs) ≡ has p (x ∷ ys) = subst (λ z. (p : ℕ) → has p (x ∷ xs) ≡ has p (z ∷ ys)) (sym first) same in
      let rest = rising_same xs ys r.1 q.1 (λ p. same_rest x p xs ys (rising_once x xs r) (rising_once x ys q') (same' p)) in
      ap (λ zs. x ∷ zs) rest ∙ ap (λ z. z ∷ ys) first

module _ {K : Type 0} (rank : K → K → Ordering) (laws : Laws rank) (s : Sight K) (inv : Inv rank s) where
  pub chained_within : (p : ℕ) → chained s p ≡ true → p < s.size
  chained_within p h = ⊎_elim (λ lt. lt) (λ ge. absurd (true≢false (sym h ∙ ap is_chained (inv.beyond p ge)))) (cases_lt p s.size)

  pub low_is_chained : chained s low ≡ true
  low_is_chained = ap is_chained inv.low_chained

  pub high_is_chained : chained s high ≡ true
  high_is_chained = ap is_chained inv.high_chained

  pub none_above_high : (p : ℕ) → before rank (s.spot high) (s.spot p) ≡ true → ⊥
  none_above_high p h =
      true≢false (sym h ∙ ap (λ b. before rank b (s.spot p)) inv.high_spot ∙ nothing_after_top rank (s.spot p))

  pub none_under_low : (p : ℕ) → before rank (s.spot p) (s.spot low) ≡ true → ⊥
  none_under_low p h =
      true≢false (sym h ∙ ap (before rank (s.spot p)) inv.low_spot ∙ nothing_before_bottom rank (s.spot p))

  -- Every chained place but Low is above Low, and every one but High under High.
  pub above_low : (p : ℕ) → chained s p ≡ true → (p ≡ low → ⊥) → before rank (s.spot low) (s.spot p) ≡ true
  above_low p h not_low =
      ⊎_elim (λ e. absurd (not_low (sym e))) (λ either. ⊎_elim (λ b. b) (λ b. absurd (none_under_low p b)) either) (inv.apart low p low_is_chained h)

  pub under_high : (p : ℕ) → chained s p ≡ true → (p ≡ high → ⊥) → before rank (s.spot p) (s.spot high) ≡ true
  under_high p h not_high =
      ⊎_elim (λ e. absurd (not_high e)) (λ either. ⊎_elim (λ b. b) (λ b. absurd (none_above_high p b)) either) (inv.apart p high h high_is_chained)

  -- ---- what a walk from a chained place passes

  pub walk_after : (xs : List ℕ) (p : ℕ) → chained s p ≡ true → (p ≡ high → ⊥) → Walks s (s.next p) xs
      → (y : ℕ) → has y xs ≡ true → before rank (s.spot p) (s.spot y) ≡ true
  walk_after [] p ch not_high w y h = absurd (false≢true h)
  walk_after (x ∷ xs) p ch not_high w y h =
      let up = inv.rises p ch not_high in
      ⊎_elim (λ e. subst (λ q. before rank (s.spot p) (s.spot q) ≡ true) (sym w.0 ∙ eqb-true x y e) up)
      (λ later. before_chains rank laws (s.spot p) (s.spot (s.next p)) (s.spot y) up (walk_after xs (s.next p) w.2 w.1 w.3 y later))
      (or_cases (eqb x y) (has y xs) h)

  pub walk_rises : (xs : List ℕ) (p : ℕ) → Walks s p xs → Rising rank s.spot xs
  walk_rises [] p w = tt
  walk_rises (x ∷ xs) p w =
      (λ y h. subst (λ q. before rank (s.spot q) (s.spot y) ≡ true) (sym w.0) (walk_after xs p w.2 w.1 w.3 y h), walk_rises xs (s.next p) w.3)

  pub walk_chained : (xs : List ℕ) (p : ℕ) → Walks s p xs → (y : ℕ) → has y xs ≡ true → (chained s y ≡ true) × (y ≡ high → ⊥)
  walk_chained [] p w y h = absurd (false≢true h)
  walk_chained (x ∷ xs) p w y h =
      ⊎_elim (λ e. let same : p ≡ y = sym w.0 ∙ eqb-true x y e in (subst (λ q. chained s q ≡ true) same w.2, subst (λ q. q ≡ high → ⊥) same w.1))
      (λ later. walk_chained xs (s.next p) w.3 y later)
      (or_cases (eqb x y) (has y xs) h)

  -- It leaves none out.
  pub walk_has : (xs : List ℕ) (p q : ℕ) → Walks s p xs → chained s q ≡ true → (q ≡ high → ⊥)
      → (p ≡ q) ⊎ (before rank (s.spot p) (s.spot q) ≡ true) → has q xs ≡ true
  walk_has [] p q w ch not_high either =
      ⊎_elim (λ e. absurd (not_high (sym e ∙ w))) (λ b. absurd (none_above_high q (subst (λ z. before rank (s.spot z) (s.spot q) ≡ true) w b))) either
  walk_has (x ∷ xs) p q w ch not_high either =
      ⊎_elim (λ e. or_left (eqb x q) (has q xs) (eq-eqb x q (w.0 ∙ e)))
      (λ b. or_right (eqb x q) (has q xs) (walk_has xs (s.next p) q w.3 ch not_high (inv.gap p q w.2 ch b)))
      either

  -- ---- the walk from Low

  module _ (xs : List ℕ) (w : Walks s (s.next low) xs) where
    pub walk_all : (p : ℕ) → chained s p ≡ true → (p ≡ low → ⊥) → (p ≡ high → ⊥) → has p xs ≡ true
    walk_all p ch not_low not_high =
        walk_has xs (s.next low) p w ch not_high (inv.gap low p low_is_chained ch (above_low p ch not_low))

    low_not_high : low ≡ high → ⊥
    low_not_high e = omega arith

    pub walk_past_low : (p : ℕ) → has p xs ≡ true → p ≡ low → ⊥
    walk_past_low p h e = none_under_low low (subst (λ z. before rank (s.spot low) (s.spot z) ≡ true) e (walk_after xs low low_is_chained low_not_high w p h))

    pub whole_rises : Rising rank s.spot (low ∷ (xs ++ high ∷ []))
    whole_rises = (above, ends xs (walk_rises xs (s.next low) w) (λ y h. walk_chained xs (s.next low) w y h))
      where
        above : (y : ℕ) → has y (xs ++ high ∷ []) ≡ true → before rank (s.spot low) (s.spot y) ≡ true
        above y h =
            ⊎_elim (λ k. walk_after xs low low_is_chained low_not_high w y k)
            (λ k. let at_high : y ≡ high = grind (arith, nat_tests) in
            subst (λ z. before rank (s.spot low) (s.spot z) ≡ true) (sym at_high) (under_high low low_is_chained low_not_high))
            (or_cases (has y xs) (has y (high ∷ [])) (sym (has_append y xs (high ∷ [])) ∙ h))

        ends : (ys : List ℕ) → Rising rank s.spot ys → ((y : ℕ) → has y ys ≡ true → (chained s y ≡ true) × (y ≡ high → ⊥)) → Rising rank s.spot (ys ++ high ∷ [])
        ends [] r each = (λ y h. absurd (false≢true h), tt)
        ends (y ∷ ys) r each = (
          λ z h. ⊎_elim (λ k. r.0 z k)
              (λ k. let at_high : z ≡ high = grind (arith, nat_tests) in
              let here = each y (or_left (eqb y y) (has y ys) (eq-eqb y y refl)) in
              subst (λ v. before rank (s.spot y) (s.spot v) ≡ true) (sym at_high) (under_high y here.0 here.1))
              (or_cases (has z ys) (has z (high ∷ [])) (sym (has_append z ys (high ∷ [])) ∙ h)),
          ends ys r.1 (λ z h. each z (or_right (eqb y z) (has z ys) h)),
        )

    pub whole_has : (p : ℕ) → has p (low ∷ (xs ++ high ∷ [])) ≡ chained s p
    whole_has p = go (eqb low p) refl (eqb high p) refl
      where
        go : (l : Bool) → eqb low p ≡ l → (r : Bool) → eqb high p ≡ r → has p (low ∷ (xs ++ high ∷ [])) ≡ chained s p
        go true l r h = or_left (eqb low p) (has p (xs ++ high ∷ [])) l ∙ sym (subst (λ z. chained s z ≡ true) (eqb-true low p l) low_is_chained)
        go false l true h =
            let parts = has_append p xs (high ∷ []) in
            or_right (eqb low p) (has p (xs ++ high ∷ [])) (parts ∙ or_right (has p xs) (has p (high ∷ [])) (or_left (eqb high p) false h))
            ∙ sym (subst (λ z. chained s z ≡ true) (eqb-true high p h) high_is_chained)
        go false l false h =
            let parts = has_append p xs (high ∷ []) in
            let all : chained s p ≡ true → has p xs ≡ true = λ ch. walk_all p ch (λ e. eqb-false low p l (sym e)) (λ e. eqb-false high p h (sym e)) in
            let only : has p xs ≡ true → chained s p ≡ true = λ k. (walk_chained xs (s.next low) w p k).0 in
            let same : has p xs ≡ chained s p = same_bool (has p xs) (chained s p) only all in
            grind (arith, nat_tests)

-- ---- the chain of the places

distinct_more : (p : ℕ) (xs : List ℕ) → has p xs ≡ false → distinct xs ≡ true → distinct (p ∷ xs) ≡ true
distinct_more p xs new once = grind (arith, nat_tests)

below_more : (n p : ℕ) (xs : List ℕ) → p < n → all_below n xs ≡ true → all_below n (p ∷ xs) ≡ true
below_more n p xs within inside = grind (arith, nat_tests)

module _ {K : Type 0} (rank : K → K → Ordering) (laws : Laws rank) (ps : List (Place K)) (ss : List (Station K)) (m : Meaning) (inv : Inv rank (sight ps ss m)) where
  by_end : (p : ℕ) (b : Bool) → eqb p high ≡ b → (xs : List ℕ) (r : Result (Unit {0}) Damage)
      → (b ≡ false → Walks (sight ps ss m) p (p ∷ xs)) → (b ≡ false → r ≡ Ok tt)
      → Walks (sight ps ss m) p (cond b [] (p ∷ xs)) × (cond b (Ok tt) r ≡ Ok tt)
  by_end p true e xs r f g = (eqb-true p high e, refl)
  by_end p false e xs r f g = (f refl, g refl)

  fresh : (p : ℕ) (passed : List ℕ) → ((y : ℕ) → has y passed ≡ true → before rank ((sight ps ss m).spot y) ((sight ps ss m).spot p) ≡ true) → has p passed ≡ false
  fresh p passed below =
      ⊎_elim (λ h. absurd (true≢false (sym (below p h) ∙ before_not_self rank laws ((sight ps ss m).spot p)))) (λ h. h) (cases_Bool (has p passed))

  -- With as many steps left as there are places not yet passed, the walk comes to High.
  walks_on : (n p : ℕ) (passed : List ℕ) → chained (sight ps ss m) p ≡ true
      → ((y : ℕ) → has y passed ≡ true → before rank ((sight ps ss m).spot y) ((sight ps ss m).spot p) ≡ true)
      → distinct passed ≡ true → all_below (length ps) passed ≡ true → length ps ≤ n + length passed
      → Walks (sight ps ss m) p (chain_from n ps p) × (reaches_high n ps p ≡ Ok tt)
  walks_on zero p passed ch below once inside enough =
      let room : length passed < length ps = distinct_below_room (length ps) p passed once inside (fresh p passed below) (chained_within rank laws (sight ps ss m) inv p ch) in
      absurd (omega arith)
  walks_on (suc n) p passed ch below once inside enough =
      let within : p < length ps = chained_within rank laws (sight ps ss m) inv p ch in
      let new : has p passed ≡ false = fresh p passed below in
      let more : (eqb p high ≡ false) → Walks (sight ps ss m) (next_of ps p) (chain_from n ps (next_of ps p)) × (reaches_high n ps (next_of ps p) ≡ Ok tt) = λ b.
      let not_high : p ≡ high → ⊥ = eqb-false p high b in
      let up = inv.rises p ch not_high in
      walks_on n (next_of ps p) (p ∷ passed) (inv.leads p ch not_high)
      (λ y h. ⊎_elim (λ e. subst (λ q. before rank ((sight ps ss m).spot q) ((sight ps ss m).spot (next_of ps p)) ≡ true) (eqb-true p y e) up)
      (λ k. before_chains rank laws ((sight ps ss m).spot y) ((sight ps ss m).spot p) ((sight ps ss m).spot (next_of ps p)) (below y k) up)
      (or_cases (eqb p y) (has y passed) h))
      (distinct_more p passed new once) (below_more (length ps) p passed within inside) (omega arith) in
      by_end p (eqb p high) refl (chain_from n ps (next_of ps p)) (cond (ltb p (length ps)) (reaches_high n ps (next_of ps p)) (Err NoPlace))
      (λ b. (refl, eqb-false p high b, ch, (more b).0))
      (λ b. cond-true (ltb p (length ps)) (reaches_high n ps (next_of ps p)) (Err NoPlace) (lt-ltb p (length ps) within) ∙ (more b).1)

  from_low : Walks (sight ps ss m) (next_of ps low) (chain ps) × (reaches_high (length ps) ps (next_of ps low) ≡ Ok tt)
  from_low =
      let not_high : low ≡ high → ⊥ = λ e. omega arith in
      let ch = low_is_chained rank laws (sight ps ss m) inv in
      let two : 2 ≤ length ps = inv.two in
      walks_on (length ps) (next_of ps low) (low ∷ []) (inv.leads low ch not_high)
      (λ y h. subst (λ q. before rank ((sight ps ss m).spot q) ((sight ps ss m).spot (next_of ps low)) ≡ true) (eqb-true low y (⊎_elim (λ e. e) (λ no. absurd (false≢true no)) (or_cases (eqb low y) false h)))
      (inv.rises low ch not_high))
      refl (grind (arith, nat_tests)) (omega arith)

  pub chain_walks : Walks (sight ps ss m) (next_of ps low) (chain ps)
  chain_walks = from_low.0

  pub chain_reaches_high : reaches_high (length ps) ps (next_of ps low) ≡ Ok tt
  chain_reaches_high = from_low.1

  pub chain_rises : Rising rank (sight ps ss m).spot (chain ps)
  chain_rises = walk_rises rank laws (sight ps ss m) inv (chain ps) (next_of ps low) chain_walks

  -- The chain has exactly the chained places other than Low and High.
  pub chain_inner : (p : ℕ) → has p (chain ps) ≡ true → (chained (sight ps ss m) p ≡ true) × (2 ≤ p) × (p < length ps)
  chain_inner p h =
      let it = walk_chained rank laws (sight ps ss m) inv (chain ps) (next_of ps low) chain_walks p h in
      let not_low = walk_past_low rank laws (sight ps ss m) inv (chain ps) chain_walks p h in
      let not_high = it.1 in
      (it.0, inner p not_low not_high, chained_within rank laws (sight ps ss m) inv p it.0)
    where
      inner : (q : ℕ) → (q ≡ low → ⊥) → (q ≡ high → ⊥) → 2 ≤ q
      inner q l r = grind (arith, nat_tests)

  pub chain_has : (p : ℕ) → 2 ≤ p → has p (chain ps) ≡ chained (sight ps ss m) p
  chain_has p two =
      same_bool (has p (chain ps)) (chained (sight ps ss m) p) (λ h. (chain_inner p h).0)
      (λ h. walk_all rank laws (sight ps ss m) inv (chain ps) chain_walks p h (λ e. omega arith) (λ e. omega arith))

  pub chain_distinct : distinct (chain ps) ≡ true
  chain_distinct = go (chain ps) chain_rises
    where
      go : (xs : List ℕ) → Rising rank (sight ps ss m).spot xs → distinct xs ≡ true
      go [] r = refl
      go (x ∷ xs) r =
          let once = rising_once rank laws (sight ps ss m).spot x xs r in
          let rest = go xs r.1 in
          grind (arith, nat_tests)
