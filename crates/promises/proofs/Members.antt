-- The keys of a book are those that stand at unmarked places of its chain, and rising keys with the same members are the same.
-- Assumes the laws of the order and the invariant.
use Rattle.std.proofs.Common.{◌≡◌, ℕ, ◌≤◌, Bool, true, false, cond, ◌||◌, eqb, ◌⊎◌, List, [], ◌∷◌, Some, None, Option, Ordering, Less, Greater, sym, refl, ap, ◌∙◌, subst, inl, inr, arith}
use Rattle.std.proofs.lemmas.Bool.{or_left, or_right, eq-eqb, eqb-true}
use Rattle.std.proofs.lemmas.Bool.Decides.{nat_tests}
use Rattle.std.specs.List.{slice_get}
use Rattle.std.specs.Ordering.{ordering_reverse}
use Rattle.guides.specs.Meaning.{Meaning, low, high, has}
use Rattle.records.specs.declared.record.Place.{Place}
use Rattle.records.specs.declared.record.Station.{Station}
use Rattle.engine.specs.Contents.{chain, field_of, with_key, keys_of, contents}
use Rattle.promises.specs.Truths.{Holds, Rises}
use Rattle.promises.proofs.Laws.{Laws, Bound, bottom, exact, top}
use Rattle.promises.proofs.Sights.{own_spot, sight}
use Rattle.promises.proofs.Invariant.{Inv}
use Rattle.promises.proofs.Chains.{chain_inner, chain_has}
use Rattle.promises.proofs.Listed.{spot_of_key}
use Rattle.promises.proofs.Owned.{Kept}

neither : (p : ℕ) → eqb p low ≡ false → eqb p high ≡ false → 2 ≤ p
neither p l h = grind (arith, nat_tests)

module _ {K : Type 0} (ps : List (Place K)) (ss : List (Station K)) (m : Meaning) where
  -- The key k stands at an unmarked one of these places.
  record Among (xs : List ℕ) (k : K) : Type 0 where
    place : ℕ
    there : has place xs ≡ true
    unmarked : (sight ps ss m).marked place ≡ false
    stands : (sight ps ss m).spot place ≡ exact k

  later : (p : ℕ) (xs : List ℕ) (k : K) → Among xs k → Among (p ∷ xs) k
  later p xs k a = record { place = a.place; there = or_right (eqb p a.place) (has a.place xs) a.there; unmarked = a.unmarked; stands = a.stands }

  first_of : (p : ℕ) (xs : List ℕ) → has p (p ∷ xs) ≡ true
  first_of p xs = or_left (eqb p p) (has p xs) (eq-eqb p p refl)

  rest_inner : (p : ℕ) (xs : List ℕ) → ((q : ℕ) → has q (p ∷ xs) ≡ true → 2 ≤ q) → (q : ℕ) → has q xs ≡ true → 2 ≤ q
  rest_inner p xs inner q there = inner q (or_right (eqb p q) (has q xs) there)

  key_among : (xs : List ℕ) → ((p : ℕ) → has p xs ≡ true → 2 ≤ p) → (k : K) → Holds k (keys_of ps xs) → Among xs k
  key_among [] inner k h = absurd h
  key_among (p ∷ xs) inner k h = by_place (slice_get ps p) refl (λ l. later p xs k (key_among xs (rest_inner p xs inner) k l)) h
    where
      by_mark : (x : Place K) → slice_get ps p ≡ Some x → (Holds k (keys_of ps xs) → Among (p ∷ xs) k) → (b : Bool) → x.marked ≡ b → Holds k (cond b (keys_of ps xs) (x.key ∷ keys_of ps xs)) → Among (p ∷ xs) k
      by_mark x is rest true e h = rest h
      by_mark x is rest false e (inl same) = record { place = p; there = first_of p xs; unmarked = ap (field_of false (λ y. y.marked)) is ∙ e; stands = spot_of_key ps ss m p x (inner p (first_of p xs)) is ∙ ap exact same }
      by_mark x is rest false e (inr l) = rest l

      by_place : (o : Option (Place K)) → slice_get ps p ≡ o → (Holds k (keys_of ps xs) → Among (p ∷ xs) k) → Holds k (with_key o (keys_of ps xs)) → Among (p ∷ xs) k
      by_place None is rest h = rest h
      by_place (Some x) is rest h = by_mark x is rest x.marked refl h

  among_key : (xs : List ℕ) → ((p : ℕ) → has p xs ≡ true → 2 ≤ p) → (k : K) → Among xs k → Holds k (keys_of ps xs)
  among_key [] inner k a = let no : ◌≡◌ {A = ℕ} 0 1 = cc a.there in absurd (omega arith)
  among_key (p ∷ xs) inner k a = by_place (slice_get ps p) refl (λ l. among_key xs (rest_inner p xs inner) k l) (eqb p a.place) refl
    where
      behind : (x : Place K) (b : Bool) → Holds k (keys_of ps xs) → Holds k (cond b (keys_of ps xs) (x.key ∷ keys_of ps xs))
      behind x true h = h
      behind x false h = inr h

      here : (x : Place K) → slice_get ps p ≡ Some x → p ≡ a.place → (b : Bool) → x.marked ≡ b → Holds k (cond b (keys_of ps xs) (x.key ∷ keys_of ps xs))
      here x is same true e = let no : ◌≡◌ {A = Bool} true false = sym e ∙ sym (ap (field_of false (λ y. y.marked)) is) ∙ ap (λ q. (sight ps ss m).marked q) same ∙ a.unmarked in let z : ◌≡◌ {A = ℕ} 0 1 = cc in absurd (omega arith)
      here x is same false e = inl (exact_key x is same)
        where
          exact_key : (x : Place K) → slice_get ps p ≡ Some x → p ≡ a.place → x.key ≡ k
          exact_key x is same = let e : exact x.key ≡ exact k = sym (spot_of_key ps ss m p x (inner p (first_of p xs)) is) ∙ ap (λ q. (sight ps ss m).spot q) same ∙ a.stands in cc

      by_place : (o : Option (Place K)) → slice_get ps p ≡ o → (Among xs k → Holds k (keys_of ps xs)) → (b : Bool) → eqb p a.place ≡ b → Holds k (with_key o (keys_of ps xs))
      by_place None is rest true e =
          let same = eqb-true p a.place e in
          let no : exact k ≡ own_top = sym a.stands ∙ sym (ap (λ q. (sight ps ss m).spot q) same) ∙ missing in
          let z : ◌≡◌ {A = ℕ} 0 1 = cc in absurd (omega arith)
        where
          own_top : Bound K
          own_top = top

          missing : (sight ps ss m).spot p ≡ own_top
          missing =
              let two = inner p (first_of p xs) in
              let l : eqb p low ≡ false = grind (arith, nat_tests) in
              let r : eqb p high ≡ false = grind (arith, nat_tests) in
              ap (λ o. own_spot p (field_of top (λ x. exact x.key) o)) is ∙ ap (λ b. cond b bottom (cond (eqb p high) top top)) l ∙ ap (λ b. cond b top top) r
      by_place None is rest false e = rest (record { place = a.place; there = ap (λ b. b || has a.place xs) (sym e) ∙ a.there; unmarked = a.unmarked; stands = a.stands })
      by_place (Some x) is rest true e = here x is (eqb-true p a.place e) x.marked refl
      by_place (Some x) is rest false e = behind x x.marked (rest (record { place = a.place; there = ap (λ b. b || has a.place xs) (sym e) ∙ a.there; unmarked = a.unmarked; stands = a.stands }))

module _ {K : Type 0} (rank : K → K → Ordering) (laws : Laws rank) (ps : List (Place K)) (ss : List (Station K)) (m : Meaning) (inv : Inv rank (sight ps ss m)) where
  inner : (p : ℕ) → has p (chain ps) ≡ true → 2 ≤ p
  inner p there = (chain_inner rank laws ps ss m inv p there).1

  -- The keys of the book are the keys that are kept.
  pub held_is_kept : (k : K) → Holds k (contents ps) → Kept (sight ps ss m) k
  held_is_kept k h =
      let a = key_among ps ss m (chain ps) inner k h in
      record { place = a.place; on = (chain_inner rank laws ps ss m inv a.place a.there).0; unmarked = a.unmarked; stands = a.stands }

  -- A place whose spot is a key is neither Low nor High.
  counts : (p : ℕ) (k : K) → (sight ps ss m).spot p ≡ exact k → 2 ≤ p
  counts p k e = by (eqb p low) refl (eqb p high) refl
    where
      by : (a : Bool) → eqb p low ≡ a → (b : Bool) → eqb p high ≡ b → 2 ≤ p
      by true l b h = let no : bottom ≡ exact k = sym inv.low_spot ∙ sym (ap (λ q. (sight ps ss m).spot q) (eqb-true p low l)) ∙ e in let z : ◌≡◌ {A = ℕ} 0 1 = cc in absurd (omega arith)
      by false l true h = let no : top ≡ exact k = sym inv.high_spot ∙ sym (ap (λ q. (sight ps ss m).spot q) (eqb-true p high h)) ∙ e in let z : ◌≡◌ {A = ℕ} 0 1 = cc in absurd (omega arith)
      by false l false h = neither p l h

  pub kept_is_held : (k : K) → Kept (sight ps ss m) k → Holds k (contents ps)
  kept_is_held k h =
      among_key ps ss m (chain ps) inner k
      (record { place = h.place; there = chain_has rank laws ps ss m inv h.place (counts h.place k h.stands) ∙ h.on; unmarked = h.unmarked; stands = h.stands })

-- Rising keys with the same members are the same.
module _ {K : Type 0} (rank : K → K → Ordering) (laws : Laws rank) where
  less_twice : {P : Type 0} (a b : K) → rank a b ≡ Less → rank b a ≡ Less → P
  less_twice a b h k = let no : Less ≡ Greater = sym k ∙ laws.swaps a b ∙ ap ordering_reverse h in absurd (let z : ◌≡◌ {A = ℕ} 0 1 = cc in omega arith)

  pub rises_same : (xs ys : List K) → Rises rank xs → Rises rank ys → ((k : K) → Holds k xs → Holds k ys) → ((k : K) → Holds k ys → Holds k xs) → xs ≡ ys
  rises_same [] [] r q f g = refl
  rises_same [] (y ∷ ys) r q f g = absurd (g y (inl refl))
  rises_same (x ∷ xs) [] r q f g = absurd (f x (inl refl))
  rises_same (x ∷ xs) (y ∷ ys) r q f g =
      let same = heads (f x (inl refl)) (g y (inl refl)) in
      ap (λ z. z ∷ xs) same ∙ ap (◌∷◌ y) (rises_same xs ys r.1 q.1 (λ k h. tail_of k h (f k (inr h))) (λ k h. tail_back k h (g k (inr h))))
    where
      heads : (y ≡ x) ⊎ Holds x ys → (x ≡ y) ⊎ Holds y xs → x ≡ y
      heads (inl e) h = sym e
      heads (inr a) (inl e) = e
      heads (inr a) (inr b) = less_twice x y (r.0 y b) (q.0 x a)

      tail_of : (k : K) → Holds k xs → (y ≡ k) ⊎ Holds k ys → Holds k ys
      tail_of k h (inr l) = l
      tail_of k h (inl e) = by (f x (inl refl))
        where
          by : (y ≡ x) ⊎ Holds x ys → Holds k ys
          by (inl same) = less_twice k k (subst (λ z. rank z k ≡ Less) (sym same ∙ e) (r.0 k h)) (subst (λ z. rank z k ≡ Less) (sym same ∙ e) (r.0 k h))
          by (inr l) = less_twice x y (subst (λ z. rank x z ≡ Less) (sym e) (r.0 k h)) (q.0 x l)

      tail_back : (k : K) → Holds k ys → (x ≡ k) ⊎ Holds k xs → Holds k xs
      tail_back k h (inr l) = l
      tail_back k h (inl e) = by (g y (inl refl))
        where
          by : (x ≡ y) ⊎ Holds y xs → Holds k xs
          by (inl same) = less_twice k k (subst (λ z. rank z k ≡ Less) (sym same ∙ e) (q.0 k h)) (subst (λ z. rank z k ≡ Less) (sym same ∙ e) (q.0 k h))
          by (inr l) = less_twice y x (subst (λ z. rank y z ≡ Less) (sym e) (q.0 k h)) (r.0 y l)
