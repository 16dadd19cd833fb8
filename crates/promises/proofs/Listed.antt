-- That the keys of a book rise and that list shows them, refused only where there are too few positions. Assumes the laws
-- of the order and what holds between calls.
use Rattle.std.proofs.Common.{◌≡◌, ℕ, ◌<◌, ◌≤◌, Bool, true, false, cond, eqb, ltb, List, [], ◌∷◌, ◌++◌, length, drop, Some, None, Ok, Err, Option, Result, Ordering, Less, sym, refl, ap, ◌∙◌, subst, inl, inr, arith}
use Rattle.std.proofs.lemmas.Bool.{lt-ltb, ltb-true, or_left, or_right, eq-eqb, cond-true}
use Rattle.std.proofs.lemmas.Bool.Decides.{nat_tests}
use Rattle.std.specs.List.{slice_get}
use Rattle.guides.specs.Meaning.{Meaning, low, high, has}
use Rattle.records.specs.declared.answer.Damage.TheVariants.{NoPlace}
use Rattle.records.specs.declared.answer.Refusal.{Refusal}
use Rattle.records.specs.declared.answer.Refusal.TheVariants.{ShortList, Damaged}
use Rattle.records.specs.declared.record.Place.{Place}
use Rattle.records.specs.declared.record.Station.{Station}
use Rattle.engine.specs.Contents.{field_of, next_of, chain, with_key, keys_of, contents, reaches_high, listing_by, listing, Lists}
use Rattle.promises.specs.Truths.{Holds, Rises}
use Rattle.promises.proofs.Laws.{Laws, bottom, exact, top, before, less_only}
use Rattle.promises.proofs.Sights.{sight}
use Rattle.promises.proofs.Finds.{never_ok, same_ok}
use Rattle.promises.proofs.Invariant.{Inv, Rising}
use Rattle.promises.proofs.Chains.{chain_reaches_high, chain_rises, chain_inner}

-- The key of a place that is there, other than Low and High, is where it stands.
pub spot_of_key : {K : Type 0} (ps : List (Place K)) (ss : List (Station K)) (m : Meaning) (p : ℕ) (x : Place K) → 2 ≤ p → slice_get ps p ≡ Some x
    → (sight ps ss m).spot p ≡ exact x.key
spot_of_key ps ss m p x two e =
    let l : eqb p low ≡ false = grind (arith, nat_tests) in
    let r : eqb p high ≡ false = grind (arith, nat_tests) in
    ap (λ b. cond b bottom (cond (eqb p high) top (field_of top (λ x. exact x.key) (slice_get ps p)))) l
    ∙ ap (λ b. cond b top (field_of top (λ x. exact x.key) (slice_get ps p))) r
    ∙ ap (field_of top (λ x. exact x.key)) e

-- The keys of some places are where the unmarked ones of those places stand.
module _ {K : Type 0} (ps : List (Place K)) (ss : List (Station K)) (m : Meaning) where
  abbrev pub StandsAmong : List ℕ → K → Type 0
  StandsAmong xs k = (p : ℕ) × (has p xs ≡ true) × ((sight ps ss m).spot p ≡ exact k) × ((sight ps ss m).marked p ≡ false)

  pub key_stands : (xs : List ℕ) → ((p : ℕ) → has p xs ≡ true → 2 ≤ p) → (k : K) → Holds k (keys_of ps xs) → StandsAmong xs k
  key_stands [] inner k h = absurd h
  key_stands (p ∷ xs) inner k h =
      let rest : Holds k (keys_of ps xs) → StandsAmong (p ∷ xs) k = λ l.
      let found = key_stands xs (λ q there. inner q (or_right (eqb p q) (has q xs) there)) k l in
      (found.0, or_right (eqb p found.0) (has found.0 xs) found.1, found.2, found.3) in
      by_place (slice_get ps p) refl rest h
    where
      here : has p (p ∷ xs) ≡ true
      here = or_left (eqb p p) (has p xs) (eq-eqb p p refl)

      by_mark : (x : Place K) → slice_get ps p ≡ Some x → (Holds k (keys_of ps xs) → StandsAmong (p ∷ xs) k) → (b : Bool) → x.marked ≡ b → Holds k (cond b (keys_of ps xs) (x.key ∷ keys_of ps xs)) → StandsAmong (p ∷ xs) k
      by_mark x is rest true b h = rest h
      by_mark x is rest false b (inl e) = (p, here, spot_of_key ps ss m p x (inner p here) is ∙ ap exact e, ap (field_of false (λ y. y.marked)) is ∙ b)
      by_mark x is rest false b (inr l) = rest l

      by_place : (o : Option (Place K)) → slice_get ps p ≡ o → (Holds k (keys_of ps xs) → StandsAmong (p ∷ xs) k) → Holds k (with_key o (keys_of ps xs)) → StandsAmong (p ∷ xs) k
      by_place None is rest h = rest h
      by_place (Some x) is rest h = by_mark x is rest x.marked refl h

  module _ (rank : K → K → Ordering) where
    pub rising_keys : (xs : List ℕ) → ((p : ℕ) → has p xs ≡ true → 2 ≤ p) → Rising rank (sight ps ss m).spot xs → Rises rank (keys_of ps xs)
    rising_keys [] inner r = tt
    rising_keys (p ∷ xs) inner r =
        by_place (slice_get ps p) refl (rising_keys xs (λ q there. inner q (or_right (eqb p q) (has q xs) there)) r.1)
      where
        here : has p (p ∷ xs) ≡ true
        here = or_left (eqb p p) (has p xs) (eq-eqb p p refl)

        by_mark : (x : Place K) → slice_get ps p ≡ Some x → Rises rank (keys_of ps xs) → (b : Bool) → Rises rank (cond b (keys_of ps xs) (x.key ∷ keys_of ps xs))
        by_mark x is rest true = rest
        by_mark x is rest false = (above, rest)
          where
            above : (y : K) → Holds y (keys_of ps xs) → rank x.key y ≡ Less
            above y h =
                let found = key_stands xs (λ q there. inner q (or_right (eqb p q) (has q xs) there)) y h in
                let up : before rank ((sight ps ss m).spot p) ((sight ps ss m).spot found.0) ≡ true = r.0 found.0 found.1 in
                let own = spot_of_key ps ss m p x (inner p here) is in
                let seen : before rank (exact x.key) (exact y) ≡ true =
                sym (ap (λ b. before rank b (exact y)) own) ∙ sym (ap (before rank ((sight ps ss m).spot p)) found.2) ∙ up in
                less_only (rank x.key y) seen

        by_place : (o : Option (Place K)) → slice_get ps p ≡ o → Rises rank (keys_of ps xs) → Rises rank (with_key o (keys_of ps xs))
        by_place None is rest = rest
        by_place (Some x) is rest = by_mark x is rest x.marked

module _ {K : Type 0} (rank : K → K → Ordering) (laws : Laws rank) (ps : List (Place K)) (ss : List (Station K)) (m : Meaning) (inv : Inv rank (sight ps ss m)) where
  pub keys_rise : Rises rank (contents ps)
  keys_rise = rising_keys ps ss m rank (chain ps) (λ p h. (chain_inner rank laws ps ss m inv p h).1) (chain_rises rank laws ps ss m inv)

  -- List is not refused as damaged.
  pub listing_told : (positions : ℕ) → listing ps positions ≡ cond (ltb positions (length (contents ps))) (Err ShortList) (Ok (contents ps))
  listing_told positions =
      let two : 2 ≤ length ps = inv.two in
      let there : low < length ps = omega arith in
      cond-true (ltb low (length ps)) (listing_by (reaches_high (length ps) ps (next_of ps low)) ps positions) (Err (Damaged NoPlace)) (lt-ltb low (length ps) there)
      ∙ ap (λ r. listing_by r ps positions) (chain_reaches_high rank laws ps ss m inv)

  refused_so : (given after : List K) (e : Refusal) (b : Bool) → ltb (length given) (length (contents ps)) ≡ b
      → Lists (cond b (Err ShortList) (Ok (contents ps))) given (Err e) after → (e ≡ ShortList) × (length given < length (contents ps))
  refused_so given after e true is d = (same_err e ShortList d.0, ltb-true (length given) (length (contents ps)) is)
    where
      same_err : (a b : Refusal) → ◌≡◌ {A = Result ℕ Refusal} (Err a) (Err b) → a ≡ b
      same_err a b h = cc
  refused_so given after e false is d = never_ok e (length (contents ps)) d.0

  pub list_refused_only_if_short : (given after : List K) (e : Refusal) → Lists (listing ps (length given)) given (Err e) after
      → (e ≡ ShortList) × (length given < length (contents ps))
  list_refused_only_if_short given after e d =
      refused_so given after e (ltb (length given) (length (contents ps))) refl (subst (λ told. Lists told given (Err e) after) (listing_told (length given)) d)

  shown_so : (given after : List K) (n : ℕ) (b : Bool) → Lists (cond b (Err ShortList) (Ok (contents ps))) given (Ok n) after
      → (n ≡ length (contents ps)) × (after ≡ contents ps ++ drop n given)
  shown_so given after n true d = never_ok ShortList n (sym d.0)
  shown_so given after n false d =
      let many = same_ok n (length (contents ps)) d.0 in
      (many, d.1 ∙ ap (λ k. contents ps ++ drop k given) (sym many))

  pub list_shows_the_keys : (given after : List K) (n : ℕ) → Lists (listing ps (length given)) given (Ok n) after
      → (n ≡ length (contents ps)) × (after ≡ contents ps ++ drop n given)
  list_shows_the_keys given after n d =
      shown_so given after n (ltb (length given) (length (contents ps))) (subst (λ told. Lists told given (Ok n) after) (listing_told (length given)) d)
