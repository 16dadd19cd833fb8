-- What a sorted set of keys answers and becomes, told from its members. Assumes the laws of the order.
use Rattle.std.proofs.Common.{◌≡◌, ℕ, Bool, true, false, cond, ◌⊎◌, List, [], ◌∷◌, Ordering, Less, Equal, Greater, sym, refl, ap, ◌∙◌, subst, inl, inr, arith}
use Rattle.std.proofs.lemmas.Bool.{true≢false, or_left, or_right, or_cases, cond-true, cond-false}
use Rattle.std.specs.Ordering.{is_eq, is_lt, ordering_reverse}
use Rattle.records.specs.declared.answer.Answer.{Answer}
use Rattle.records.specs.declared.answer.Answer.TheVariants.{Yes, No, Found, Missing, NoRoom}
use Rattle.records.specs.declared.record.Work.{Work}
use Rattle.records.specs.declared.record.Work.TheVariants.{Put, Strike, Look, First, After}
use Rattle.promises.specs.Truths.{Holds, Adds, TakesAway, Rises, Smallest, SmallestAbove, TrueOf}
use Rattle.promises.specs.Alone.{is_in, with_key_in, without_key, first_key, first_above, set_answer, set_after}
use Rattle.promises.proofs.Small.{equal_only, itself}
use Rattle.promises.proofs.Laws.{Laws, less_only}
use Rattle.promises.proofs.Members.{rises_same}

-- Neither equal nor greater.
less_left : (o : Ordering) → is_lt (ordering_reverse o) ≡ false → (o ≡ Equal → ⊥) → o ≡ Less
less_left Less h k = refl
less_left Equal h k = absurd (k refl)
less_left Greater h k = cc

module _ {K : Type 0} (rank : K → K → Ordering) (laws : Laws rank) where
  equal_self : (k : K) → rank k k ≡ Equal
  equal_self k = itself (rank k k) (laws.swaps k k)

  less_not_self : {P : Type 0} (k : K) → rank k k ≡ Less → P
  less_not_self k h = let e = equal_self k in let z : ◌≡◌ {A = ℕ} 0 1 = cc in absurd (omega arith)

  less_not_same : {P : Type 0} (a b : K) → rank a b ≡ Less → a ≡ b → P
  less_not_same a b h e = less_not_self b (subst (λ z. rank z b ≡ Less) e h)

  same_or_not : (j k : K) → (j ≡ k) ⊎ (j ≡ k → ⊥)
  same_or_not j k = go (rank j k) refl
    where
      go : (o : Ordering) → rank j k ≡ o → (j ≡ k) ⊎ (j ≡ k → ⊥)
      go Less e = inr (λ same. less_not_same j k e same)
      go Equal e = inl (laws.same j k e)
      go Greater e = inr (λ same. less_not_same k j (laws.swaps j k ∙ ap ordering_reverse e) (sym same))

  -- ---- whether a key is there

  pub held_is_in : (k : K) (xs : List K) → Holds k xs → is_in rank k xs ≡ true
  held_is_in k [] h = absurd h
  held_is_in k (x ∷ xs) (inl e) = or_left (is_eq (rank x k)) (is_in rank k xs) (ap is_eq (ap (λ z. rank z k) e ∙ equal_self k))
  held_is_in k (x ∷ xs) (inr h) = or_right (is_eq (rank x k)) (is_in rank k xs) (held_is_in k xs h)

  is_in_held : (k : K) (xs : List K) → is_in rank k xs ≡ true → Holds k xs
  is_in_held k [] h = absurd (true≢false (sym h))
  is_in_held k (x ∷ xs) h = by (is_in_held k xs) (or_cases (is_eq (rank x k)) (is_in rank k xs) h)
    where
      by : (is_in rank k xs ≡ true → Holds k xs) → (is_eq (rank x k) ≡ true) ⊎ (is_in rank k xs ≡ true) → Holds k (x ∷ xs)
      by rest (inl e) = inl (laws.same x k (equal_only (rank x k) e))
      by rest (inr e) = inr (rest e)

  pub absent_not_in : (k : K) (xs : List K) → (Holds k xs → ⊥) → is_in rank k xs ≡ false
  absent_not_in k xs h = go (is_in rank k xs) refl
    where
      go : (c : Bool) → is_in rank k xs ≡ c → c ≡ false
      go true e = absurd (h (is_in_held k xs e))
      go false e = refl

  -- ---- a key put in

  put_from : (k j : K) (xs : List K) → Holds j (with_key_in rank k xs) → (k ≡ j) ⊎ Holds j xs
  put_from k j [] (inl e) = inl e
  put_from k j [] (inr h) = absurd h
  put_from k j (x ∷ xs) h = go (put_from k j xs) (is_lt (rank k x)) h
    where
      behind : (k ≡ j) ⊎ Holds j xs → (k ≡ j) ⊎ ((x ≡ j) ⊎ Holds j xs)
      behind (inl e) = inl e
      behind (inr n) = inr (inr n)

      after : (Holds j (with_key_in rank k xs) → (k ≡ j) ⊎ Holds j xs) → (x ≡ j) ⊎ Holds j (with_key_in rank k xs) → (k ≡ j) ⊎ ((x ≡ j) ⊎ Holds j xs)
      after rest (inl e) = inr (inl e)
      after rest (inr m) = behind (rest m)

      go : (Holds j (with_key_in rank k xs) → (k ≡ j) ⊎ Holds j xs) → (c : Bool) → Holds j (cond c (k ∷ (x ∷ xs)) (x ∷ with_key_in rank k xs)) → (k ≡ j) ⊎ ((x ≡ j) ⊎ Holds j xs)
      go rest true m = m
      go rest false m = after rest m

  put_has : (k j : K) (xs : List K) → (k ≡ j) ⊎ Holds j xs → Holds j (with_key_in rank k xs)
  put_has k j [] h = h
  put_has k j (x ∷ xs) h = go (put_has k j xs) (is_lt (rank k x))
    where
      after : ((k ≡ j) ⊎ Holds j xs → Holds j (with_key_in rank k xs)) → (k ≡ j) ⊎ ((x ≡ j) ⊎ Holds j xs) → (x ≡ j) ⊎ Holds j (with_key_in rank k xs)
      after rest (inl e) = inr (rest (inl e))
      after rest (inr (inl e)) = inl e
      after rest (inr (inr m)) = inr (rest (inr m))

      go : ((k ≡ j) ⊎ Holds j xs → Holds j (with_key_in rank k xs)) → (c : Bool) → Holds j (cond c (k ∷ (x ∷ xs)) (x ∷ with_key_in rank k xs))
      go rest true = h
      go rest false = after rest h

  put_rises : (k : K) (xs : List K) → Rises rank xs → (Holds k xs → ⊥) → Rises rank (with_key_in rank k xs)
  put_rises k [] r absent = ((λ y h. absurd h), tt)
  put_rises k (x ∷ xs) r absent = go (put_rises k xs r.1 (λ h. absent (inr h))) (is_lt (rank k x)) refl
    where
      above : rank k x ≡ Less → (y : K) → (x ≡ y) ⊎ Holds y xs → rank k y ≡ Less
      above l y (inl e) = subst (λ z. rank k z ≡ Less) e l
      above l y (inr m) = laws.chains k x y l (r.0 y m)

      below : is_lt (rank k x) ≡ false → rank x k ≡ Less
      below e = less_left (rank x k) (sym (ap is_lt (laws.swaps x k)) ∙ e) (λ q. absent (inl (laws.same x k q)))

      over : rank x k ≡ Less → (y : K) → (k ≡ y) ⊎ Holds y xs → rank x y ≡ Less
      over l y (inl e) = subst (λ z. rank x z ≡ Less) e l
      over l y (inr m) = r.0 y m

      go : Rises rank (with_key_in rank k xs) → (c : Bool) → is_lt (rank k x) ≡ c → Rises rank (cond c (k ∷ (x ∷ xs)) (x ∷ with_key_in rank k xs))
      go rest true e = (above (less_only (rank k x) e), r)
      go rest false e = ((λ y h. over (below e) y (put_from k y xs h)), rest)

  -- The keys after a key was added are those of the set after a put.
  pub added_is_put : (k : K) (xs ys : List K) → Rises rank xs → Rises rank ys → Adds k xs ys → ys ≡ with_key_in rank k xs
  added_is_put k xs ys r q adds =
      rises_same rank laws ys (with_key_in rank k xs) q (put_rises k xs r adds.absent)
      (λ j h. put_has k j xs (forth j h (same_or_not j k)))
      (λ j h. back j (put_from k j xs h) (same_or_not j k))
    where
      forth : (j : K) → Holds j ys → (j ≡ k) ⊎ (j ≡ k → ⊥) → (k ≡ j) ⊎ Holds j xs
      forth j h (inl e) = inl (sym e)
      forth j h (inr other) = inr (adds.no_more j other h)

      back : (j : K) → (k ≡ j) ⊎ Holds j xs → (j ≡ k) ⊎ (j ≡ k → ⊥) → Holds j ys
      back j (inl e) s = subst (λ z. Holds z ys) e adds.present
      back j (inr h) (inl e) = subst (λ z. Holds z ys) (sym e) adds.present
      back j (inr h) (inr other) = adds.stays j other h

  -- ---- a key struck

  struck_from : (k j : K) (xs : List K) → Rises rank xs → Holds j (without_key rank k xs) → Holds j xs × (j ≡ k → ⊥)
  struck_from k j [] r h = absurd h
  struck_from k j (x ∷ xs) r h = go (struck_from k j xs r.1) (is_eq (rank x k)) refl h
    where
      after : (Holds j (without_key rank k xs) → Holds j xs × (j ≡ k → ⊥)) → is_eq (rank x k) ≡ false → (x ≡ j) ⊎ Holds j (without_key rank k xs) → ((x ≡ j) ⊎ Holds j xs) × (j ≡ k → ⊥)
      after rest e (inl same) = (inl same, (λ q. true≢false (sym (ap is_eq (ap (λ z. rank z k) (same ∙ q) ∙ equal_self k)) ∙ e)))
      after rest e (inr m) = (inr (rest m).0, (rest m).1)

      go : (Holds j (without_key rank k xs) → Holds j xs × (j ≡ k → ⊥)) → (c : Bool) → is_eq (rank x k) ≡ c → Holds j (cond c xs (x ∷ without_key rank k xs)) → ((x ≡ j) ⊎ Holds j xs) × (j ≡ k → ⊥)
      go rest true e m = (inr m, (λ q. less_not_same x j (r.0 j m) (laws.same x k (equal_only (rank x k) e) ∙ sym q)))
      go rest false e m = after rest e m

  struck_has : (k j : K) (xs : List K) → Holds j xs → (j ≡ k → ⊥) → Holds j (without_key rank k xs)
  struck_has k j [] h other = absurd h
  struck_has k j (x ∷ xs) h other = go (λ m. struck_has k j xs m other) (is_eq (rank x k)) refl h
    where
      go : (Holds j xs → Holds j (without_key rank k xs)) → (c : Bool) → is_eq (rank x k) ≡ c → (x ≡ j) ⊎ Holds j xs → Holds j (cond c xs (x ∷ without_key rank k xs))
      go rest true e (inl same) = absurd (other (sym same ∙ laws.same x k (equal_only (rank x k) e)))
      go rest true e (inr m) = m
      go rest false e (inl same) = inl same
      go rest false e (inr m) = inr (rest m)

  struck_rises : (k : K) (xs : List K) → Rises rank xs → Rises rank (without_key rank k xs)
  struck_rises k [] r = tt
  struck_rises k (x ∷ xs) r = go (struck_rises k xs r.1) (is_eq (rank x k))
    where
      go : Rises rank (without_key rank k xs) → (c : Bool) → Rises rank (cond c xs (x ∷ without_key rank k xs))
      go rest true = r.1
      go rest false = ((λ y h. r.0 y (struck_from k y xs r.1 h).0), rest)

  -- The keys after a key was taken away are those of the set after a strike.
  pub taken_is_struck : (k : K) (xs ys : List K) → Rises rank xs → Rises rank ys → TakesAway k xs ys → ys ≡ without_key rank k xs
  taken_is_struck k xs ys r q takes =
      rises_same rank laws ys (without_key rank k xs) q (struck_rises k xs r)
      (λ j h. let other = (λ (e : j ≡ k). takes.absent (subst (λ z. Holds z ys) e h)) in struck_has k j xs (takes.stays j other h) other)
      (λ j h. let there = struck_from k j xs r h in takes.no_more j there.1 there.0)

  absent_not_struck : (k : K) (xs : List K) → (Holds k xs → ⊥) → without_key rank k xs ≡ xs
  absent_not_struck k [] absent = refl
  absent_not_struck k (x ∷ xs) absent = go (absent_not_struck k xs (λ h. absent (inr h))) (is_eq (rank x k)) refl
    where
      go : without_key rank k xs ≡ xs → (c : Bool) → is_eq (rank x k) ≡ c → cond c xs (x ∷ without_key rank k xs) ≡ x ∷ xs
      go rest true e = absurd (absent (inl (laws.same x k (equal_only (rank x k) e))))
      go rest false e = ap (◌∷◌ x) rest

  -- ---- the smallest key, and the smallest above another

  found_first : (j : K) (xs : List K) → Rises rank xs → Smallest rank j xs → Found j ≡ first_key xs
  found_first j [] r s = absurd s.among
  found_first j (x ∷ xs) r s = go s.among
    where
      go : (x ≡ j) ⊎ Holds j xs → Found j ≡ Found x
      go (inl e) = ap Found (sym e)
      go (inr h) = absurd (s.least x (inl refl) (r.0 j h))

  missing_first : (xs : List K) → ((j : K) → Holds j xs → ⊥) → Missing ≡ first_key xs
  missing_first [] none = refl
  missing_first (x ∷ xs) none = absurd (none x (inl refl))

  found_above : (k j : K) (xs : List K) → Rises rank xs → SmallestAbove rank k j xs → Found j ≡ first_above rank k xs
  found_above k j [] r s = absurd s.among
  found_above k j (x ∷ xs) r s = go (λ h. found_above k j xs r.1 (record { among = h; above = s.above; least = λ i m. s.least i (inr m) })) (is_lt (rank k x)) refl s.among
    where
      above_not : is_lt (rank k x) ≡ false → x ≡ j → ⊥
      above_not e same = true≢false (sym (ap is_lt (ap (rank k) same ∙ s.above)) ∙ e)

      go : (Holds j xs → Found j ≡ first_above rank k xs) → (c : Bool) → is_lt (rank k x) ≡ c → (x ≡ j) ⊎ Holds j xs → Found j ≡ cond c (Found x) (first_above rank k xs)
      go rest true e (inl same) = ap Found (sym same)
      go rest true e (inr h) = absurd (s.least x (inl refl) (less_only (rank k x) e) (r.0 j h))
      go rest false e (inl same) = absurd (above_not e same)
      go rest false e (inr h) = rest h

  missing_above : (k : K) (xs : List K) → ((j : K) → Holds j xs → rank k j ≡ Less → ⊥) → Missing ≡ first_above rank k xs
  missing_above k [] none = refl
  missing_above k (x ∷ xs) none = go (missing_above k xs (λ j h. none j (inr h))) (is_lt (rank k x)) refl
    where
      go : Missing ≡ first_above rank k xs → (c : Bool) → is_lt (rank k x) ≡ c → Missing ≡ cond c (Found x) (first_above rank k xs)
      go rest true e = absurd (none x (inl refl) (less_only (rank k x) e))
      go rest false e = rest

  -- ---- an answer that is true of the keys is that of the set, which stays as it is

  module _ (k : K) (xs : List K) (room : Bool) where
    pub present_said : {A : Type 0} (x y : A) → Holds k xs → x ≡ cond (is_in rank k xs) x y
    present_said x y h = sym (cond-true (is_in rank k xs) x y (held_is_in k xs h))

    pub absent_said : {A : Type 0} (x y : A) → (Holds k xs → ⊥) → y ≡ cond (is_in rank k xs) x y
    absent_said x y h = sym (cond-false (is_in rank k xs) x y (absent_not_in k xs h))

    pub true_is_said : (w : Work) (a : Answer K) → Rises rank xs → TrueOf rank w k a xs → (a ≡ NoRoom → ⊥) → a ≡ set_answer rank w k xs room
    true_is_said Put Yes r h roomy = absurd h
    true_is_said Put No r h roomy = present_said No (cond room Yes NoRoom) h
    true_is_said Put (Found j) r h roomy = absurd h
    true_is_said Put Missing r h roomy = absurd h
    true_is_said Put NoRoom r h roomy = absurd (roomy refl)
    true_is_said Strike Yes r h roomy = absurd h
    true_is_said Strike No r h roomy = absent_said Yes No h
    true_is_said Strike (Found j) r h roomy = absurd h
    true_is_said Strike Missing r h roomy = absurd h
    true_is_said Strike NoRoom r h roomy = absurd h
    true_is_said Look Yes r h roomy = present_said Yes No h
    true_is_said Look No r h roomy = absent_said Yes No h
    true_is_said Look (Found j) r h roomy = absurd h
    true_is_said Look Missing r h roomy = absurd h
    true_is_said Look NoRoom r h roomy = absurd h
    true_is_said First Yes r h roomy = absurd h
    true_is_said First No r h roomy = absurd h
    true_is_said First (Found j) r h roomy = found_first j xs r h
    true_is_said First Missing r h roomy = missing_first xs h
    true_is_said First NoRoom r h roomy = absurd h
    true_is_said After Yes r h roomy = absurd h
    true_is_said After No r h roomy = absurd h
    true_is_said After (Found j) r h roomy = found_above k j xs r h
    true_is_said After Missing r h roomy = missing_above k xs h
    true_is_said After NoRoom r h roomy = absurd h

    pub true_keeps : (w : Work) (a : Answer K) → TrueOf rank w k a xs → (a ≡ NoRoom → ⊥) → xs ≡ set_after rank w k xs room
    true_keeps Put Yes h roomy = absurd h
    true_keeps Put No h roomy = present_said xs (cond room (with_key_in rank k xs) xs) h
    true_keeps Put (Found j) h roomy = absurd h
    true_keeps Put Missing h roomy = absurd h
    true_keeps Put NoRoom h roomy = absurd (roomy refl)
    true_keeps Strike Yes h roomy = absurd h
    true_keeps Strike No h roomy = sym (absent_not_struck k xs h)
    true_keeps Strike (Found j) h roomy = absurd h
    true_keeps Strike Missing h roomy = absurd h
    true_keeps Strike NoRoom h roomy = absurd h
    true_keeps Look a h roomy = refl
    true_keeps First a h roomy = refl
    true_keeps After a h roomy = refl
