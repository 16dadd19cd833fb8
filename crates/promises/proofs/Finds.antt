-- What an accepted rule found: the places that it needed are there, and what it read is what is seen. Assumes nothing.
use Rattle.std.proofs.Common.{◌≡◌, ℕ, ◌<◌, Bool, true, false, cond, eqb, ltb, List, [], ◌∷◌, length, None, Ok, Err, Result, Ordering, Less, Greater, sym, refl, ap, arith}
use Rattle.std.proofs.lemmas.Bool.{ltb-true}
use Rattle.std.proofs.lemmas.Bool.Decides.{nat_tests}
use Rattle.std.specs.List.{slice_get}
use Rattle.guides.specs.Meaning.{Meaning, low, high, has, precedes}
use Rattle.records.specs.declared.answer.Damage.{Damage}
use Rattle.records.specs.declared.answer.Damage.TheVariants.{NoPlace}
use Rattle.records.specs.declared.outcome.Outcome.{Outcome}
use Rattle.records.specs.declared.record.Place.{Place}
use Rattle.records.specs.declared.record.Station.{Station}
use Rattle.records.specs.declared.record.Status.TheVariants.{Free}
use Rattle.records.specs.Records.{Ruled, place, needing, standing_at}
use Rattle.rules.specs.Stepping.{Turn, reads, writes, guides}
use Rattle.engine.specs.Contents.{field_of}
use Rattle.promises.proofs.Laws.{compared, bottom, exact, top}
use Rattle.promises.proofs.Sights.{sight, guide_put, field_read}

pub never_ok : {A E P : Type 0} (e : E) (a : A) → ◌≡◌ {A = Result A E} (Err e) (Ok a) → P
never_ok e a h = let no : ◌≡◌ {A = ℕ} 0 1 = cc in absurd (omega arith)

pub same_ok : {A E : Type 0} (a b : A) → ◌≡◌ {A = Result A E} (Ok a) (Ok b) → a ≡ b
same_ok a b h = cc

-- The place was there.
pub needed : {K A : Type 0} (k : K) (ps : List (Place K)) (p : ℕ) (rule : Place K → Result A Damage) (r : A)
    → needing k ps p rule ≡ Ok r → (p < length ps) × (rule (place k ps p) ≡ Ok r)
needed k ps p rule r = go (ltb p (length ps)) refl
  where
    go : (b : Bool) → ltb p (length ps) ≡ b → cond b (rule (place k ps p)) (Err NoPlace) ≡ Ok r → (p < length ps) × (rule (place k ps p) ≡ Ok r)
    go true e h = (ltb-true p (length ps) e, h)
    go false e h = never_ok NoPlace r h

pub precedes_has : (p q : ℕ) (xs : List ℕ) → precedes p q xs ≡ true → has p xs ≡ true
precedes_has p q [] h = h
precedes_has p q (x ∷ xs) h = let rest = precedes_has p q xs in grind (arith, nat_tests)

pub precedes_has_last : (p q : ℕ) (xs : List ℕ) → precedes p q xs ≡ true → has q xs ≡ true
precedes_has_last p q [] h = h
precedes_has_last p q (x ∷ xs) h = let rest = precedes_has_last p q xs in grind (arith, nat_tests)

module _ {K : Type 0} (ps : List (Place K)) (ss : List (Station K)) (m : Meaning) where
  -- A rule that only reads, that writes places, and that changes the guide.
  pub read : (told : Result (Outcome K) Damage) (turn : Turn K) → reads ps m told ≡ Ok turn
      → (told ≡ Ok turn.outcome) × (sight turn.places ss turn.meaning ≡ sight ps ss m)
  read (Ok o) turn e =
      let same = same_ok (record { outcome = o; places = ps; meaning = m }) turn e in
      (ap (λ x. Ok x.outcome) same, ap (λ x. sight x.places ss x.meaning) (sym same))
  read (Err d) turn e = never_ok d turn e

  pub wrote : (told : Result (Ruled K) Damage) (turn : Turn K) → writes ps m told ≡ Ok turn
      → (ruled : Ruled K) × (told ≡ Ok ruled) × (turn.outcome ≡ ruled.outcome) × (sight turn.places ss turn.meaning ≡ sight ruled.places ss m)
  wrote (Ok ruled) turn e =
      let same = same_ok (record { outcome = ruled.outcome; places = ruled.places; meaning = m }) turn e in
      (ruled, refl, ap (λ x. x.outcome) (sym same), ap (λ x. sight x.places ss x.meaning) (sym same))
  wrote (Err d) turn e = never_ok d turn e

  pub guided : (o : Outcome K) (told : Result Meaning Damage) (turn : Turn K) → guides ps m o told ≡ Ok turn
      → (after : Meaning) × (told ≡ Ok after) × (turn.outcome ≡ o) × (sight turn.places ss turn.meaning ≡ guide_put after (sight ps ss m))
  guided o (Ok after) turn e =
      let same = same_ok (record { outcome = o; places = ps; meaning = after }) turn e in
      (after, refl, ap (λ x. x.outcome) (sym same), ap (λ x. sight x.places ss x.meaning) (sym same))
  guided o (Err d) turn e = never_ok d turn e

  module _ (rank : K → K → Ordering) (k : K) (p : ℕ) (h : p < length ps) where
    pub stands_seen : standing_at rank ps p k ≡ compared rank ((sight ps ss m).spot p) k
    stands_seen = go (eqb p low) (eqb p high)
      where
        go : (l r : Bool) → cond l Less (cond r Greater (rank (place k ps p).key k)) ≡ compared rank (cond l bottom (cond r top (field_of top (λ x. exact x.key) (slice_get ps p)))) k
        go true r = refl
        go false true = refl
        go false false = ap (λ b. compared rank b k) (field_read top (λ x. exact x.key) k ps p h)

  module _ (k : K) (p : ℕ) (h : p < length ps) where
    pub next_seen : (place k ps p).next ≡ (sight ps ss m).next p
    next_seen = field_read low (λ x. x.next) k ps p h

    pub prev_seen : (place k ps p).prev ≡ (sight ps ss m).prev p
    prev_seen = field_read low (λ x. x.prev) k ps p h

    pub marked_seen : (place k ps p).marked ≡ (sight ps ss m).marked p
    marked_seen = field_read false (λ x. x.marked) k ps p h

    pub lock_seen : (place k ps p).lock ≡ (sight ps ss m).lock p
    lock_seen = field_read None (λ x. x.lock) k ps p h

    pub status_seen : (place k ps p).status ≡ (sight ps ss m).status p
    status_seen = field_read Free (λ x. x.status) k ps p h
