-- What a work under way may say of the past: a place that was on the chain since the work began has its key still, and is
-- on the chain now, or was struck since, and its links are those of its last moment on the chain. Assumes the invariant of
-- every book of a run.
use Rattle.std.proofs.Common.{◌≡◌, ℕ, Bool, true, false, cond, ◌⊎◌, List, [], ◌∷◌, length, is_some, None, Ok, Err, Result, Ordering, sym, refl, ap, ◌∙◌, subst, inl, inr}
use Rattle.std.proofs.lemmas.Bool.{true≢false}
use Rattle.guides.specs.declared.answer.GuideRefusal.{GuideRefusal}
use Rattle.guides.specs.Meaning.{Meaning}
use Rattle.guides.specs.Rules.{clearing}
use Rattle.records.specs.declared.answer.Refusal.TheVariants.{BadCount, Guide}
use Rattle.records.specs.declared.record.Place.{Place}
use Rattle.records.specs.declared.record.Station.{Station}
use Rattle.engine.specs.Calling.{Opened, opening, opening_by, opened_stations, bad_count, task_at}
use Rattle.promises.specs.Books.{Book}
use Rattle.promises.specs.Runs.{Call, Reply, Does, Run, opened, next, works_in, for_work, since}
use Rattle.promises.proofs.Openings.{no_task}
use Rattle.promises.proofs.Sights.{sight_of}
use Rattle.promises.proofs.Finds.{never_ok, same_ok}
use Rattle.promises.proofs.Invariant.{Inv, chained}
use Rattle.promises.proofs.Keeps.{Off, Cut, FromOn, FromOff}
use Rattle.promises.proofs.Passes.{SettlesFor, settled_on, settled_off, begin_settles, leave_settles, step_keeps_on, step_keeps_off}
use Rattle.promises.proofs.Calls.{Did, call_did, working_among}

module _ {K : Type 0} where
  -- The book is one of these.
  abbrev pub Among : Book K → List (Book K) → Type 0
  Among b [] = ⊥
  Among b (x ∷ xs) = (x ≡ b) ⊎ Among b xs

  -- p was struck while the work of station i is under way; `last` is the last book in which it was on the chain.
  pub record Struck (i : ℕ) (b : Book K) (bs : List (Book K)) (p : ℕ) : Type 0 where
    pub off : Off i (sight_of b) p
    pub last : Book K
    pub among : Among last bs
    pub on : chained (sight_of last) p ≡ true
    pub marked : (sight_of last).marked p ≡ true
    pub next : (sight_of b).next p ≡ (sight_of last).next p
    pub prev : (sight_of b).prev p ≡ (sight_of last).prev p

  -- What book b tells of place p, which was on the chain in book σ.
  pub record Remembers (i : ℕ) (b : Book K) (bs : List (Book K)) (σ : Book K) (p : ℕ) : Type 0 where
    pub spot : (sight_of b).spot p ≡ (sight_of σ).spot p
    pub mark : (sight_of σ).marked p ≡ true → (sight_of b).marked p ≡ true
    pub fate : (chained (sight_of b) p ≡ true) ⊎ Struck i b bs p

  -- What a call makes of places that were on the chain, and of struck ones that wait for the work of station i.
  pub record Passes (i : ℕ) (b b' : Book K) : Type 0 where
    pub from_on : (p : ℕ) → chained (sight_of b) p ≡ true → FromOn i (sight_of b) (sight_of b') p
    pub from_off : (p : ℕ) → Off i (sight_of b) p → FromOff i (sight_of b) (sight_of b') p

  settled_passes : (i : ℕ) (b b' : Book K) → SettlesFor i (sight_of b) (sight_of b') → Passes i b b'
  settled_passes i b b' e = record { from_on = λ p. settled_on i p e; from_off = λ p. settled_off i p e }

  same_passes : (i : ℕ) (b : Book K) → Passes i b b
  same_passes i b = settled_passes i b b (record { reads = record { spot = refl; next = refl; prev = refl; marked = refl }; chain = λ p. refl; waits = λ p h. h })

  -- ---- no station works in a book that was just opened

  cleared_stations : (m : Result Meaning GuideRefusal) (ps : List (Place K)) (ss : List (Station K)) (o : Opened K) → opening_by m ps ss ≡ Ok o → o.stations ≡ opened_stations ss
  cleared_stations (Ok m) ps ss o e = sym (ap (λ x. x.stations) (same_ok _ _ e))
  cleared_stations (Err r) ps ss o e = never_ok (Guide r) o e

  opening_stations : (most : ℕ) (ps : List (Place K)) (ss : List (Station K)) (o : Opened K) → opening most ps ss ≡ Ok o → o.stations ≡ opened_stations ss
  opening_stations most ps ss o e = go (bad_count (length ps) (length ss)) e
    where
      go : (x : Bool) → cond x (Err BadCount) (opening_by (clearing most (length ps)) ps ss) ≡ Ok o → o.stations ≡ opened_stations ss
      go true e = never_ok BadCount o e
      go false e = cleared_stations (clearing most (length ps)) ps ss o e

  pub none_works_opened : (most : ℕ) (ps : List (Place K)) (ss : List (Station K)) (o : Opened K) → opening most ps ss ≡ Ok o → (i : ℕ) → task_at o.stations i ≡ None
  none_works_opened most ps ss o e i = ap (λ x. task_at x i) (opening_stations most ps ss o e) ∙ no_task ss i

module _ {K : Type 0} (rank : K → K → Ordering) where
  -- The book that stands now is one of those since a work began.
  now_in : (b b' : Book K) (bs : List (Book K)) (x y : Bool) → y ≡ true → Among b' (for_work rank x y [] (b' ∷ []) (b' ∷ bs))
  now_in b b' bs true true h = inl refl
  now_in b b' bs false true h = inl refl
  now_in b b' bs x false h = absurd (true≢false (sym h))

  pub now_among : {b : Book K} (r : Run rank b) (i : ℕ) → works_in rank b i ≡ true → Among b (since rank r i)
  unfolding since
  now_among (opened most ps ss o e) i works = absurd (true≢false (sym works ∙ ap is_some (none_works_opened most ps ss o e i)))
  now_among (next {b} c a b' r d) i works = now_in b b' (since rank r i) (works_in rank b i) (works_in rank b' i) works

  -- A station that works before and after a call.
  did_passes : (b : Book K) (c : Call K) (a : Reply K) (b' : Book K) → Inv rank (sight_of b) → Did rank b c a b' → (i : ℕ) → works_in rank b i ≡ true → works_in rank b' i ≡ true → Passes i b b'
  did_passes b c a b' inv (Did.nothing stepless e) i works works' = subst (Passes i b) (sym e) (same_passes i b)
  did_passes b c a b' inv (Did.begins j work key is rested ps e) i works works' = settled_passes i b b' (begin_settles i j _ (sight_of b) (sight_of b') e)
  did_passes b c a b' inv (Did.makes j x is ans made) i works works' =
      let among = working_among b.stations i works in
      record {
        from_on = step_keeps_on rank (sight_of b) inv j x (sight_of b') made i among works works';
        from_off = step_keeps_off rank (sight_of b) inv j x (sight_of b') made i among works works';
      }
  did_passes b c a b' inv (Did.leaves j t is busy ps e) i works works' = settled_passes i b b' (leave_settles i j t.awaited (sight_of b) (sight_of b') e works')

  pub call_passes : (b : Book K) (c : Call K) (a : Reply K) (b' : Book K) → Inv rank (sight_of b) → Does rank b c a b' → (i : ℕ) → works_in rank b i ≡ true → works_in rank b' i ≡ true → Passes i b b'
  call_passes b c a b' inv d i works works' = did_passes b c a b' inv (call_did rank b c a b' d) i works works'

  -- ---- one call more

  module _ (i : ℕ) (b b' : Book K) (bs : List (Book K)) (σ : Book K) (p : ℕ) (passes : Passes i b b') (now : Among b bs) where
    carry_cut : chained (sight_of b) p ≡ true → (chained (sight_of b') p ≡ true) ⊎ Cut i (sight_of b) (sight_of b') p → (chained (sight_of b') p ≡ true) ⊎ Struck i b' (b' ∷ bs) p
    carry_cut on (inl on') = inl on'
    carry_cut on (inr cut) = inr record { off = cut.off; last = b; among = inr now; on = on; marked = cut.was_marked; next = cut.next; prev = cut.prev }

    carry_fate : (sight_of b).spot p ≡ (sight_of σ).spot p → ((sight_of σ).marked p ≡ true → (sight_of b).marked p ≡ true) → (chained (sight_of b) p ≡ true) ⊎ Struck i b bs p
        → Remembers i b' (b' ∷ bs) σ p
    carry_fate spot mark (inl on) =
        let after = passes.from_on p on in
        record { spot = after.spot ∙ spot; mark = λ m. after.mark (mark m); fate = carry_cut on after.fate }
    carry_fate spot mark (inr struck) =
        let after = passes.from_off p struck.off in
        record {
          spot = after.spot ∙ spot;
          mark = λ m. after.off.marked;
          fate = inr record {
            off = after.off;
            last = struck.last;
            among = inr struck.among;
            on = struck.on;
            marked = struck.marked;
            next = after.next ∙ struck.next;
            prev = after.prev ∙ struck.prev;
          };
        }

    pub carry : Remembers i b bs σ p → Remembers i b' (b' ∷ bs) σ p
    carry m = carry_fate m.spot m.mark m.fate

  remembers_now : (i : ℕ) (b : Book K) (bs : List (Book K)) (σ : Book K) (p : ℕ) → b ≡ σ → chained (sight_of σ) p ≡ true → Remembers i b bs σ p
  remembers_now i b bs σ p e on =
      subst (λ x. Remembers i x bs σ p) (sym e) (record { spot = refl; mark = λ m. m; fate = inl on })

  module _ (inv : (b : Book K) → Run rank b → Inv rank (sight_of b)) where
    hindsight_by : (b b' : Book K) (bs : List (Book K)) (i : ℕ) (σ : Book K) (p : ℕ) → chained (sight_of σ) p ≡ true
        → (works_in rank b i ≡ true → works_in rank b' i ≡ true → Passes i b b') → (works_in rank b i ≡ true → Among b bs)
        → (works_in rank b i ≡ true → Among σ bs → Remembers i b bs σ p)
        → (x y : Bool) → works_in rank b i ≡ x → works_in rank b' i ≡ y → y ≡ true
        → Among σ (for_work rank x y [] (b' ∷ []) (b' ∷ bs)) → Remembers i b' (for_work rank x y [] (b' ∷ []) (b' ∷ bs)) σ p
    hindsight_by b b' bs i σ p on passes now before true true ex ey h (inl e) = remembers_now i b' (b' ∷ bs) σ p e on
    hindsight_by b b' bs i σ p on passes now before true true ex ey h (inr among) = carry i b b' bs σ p (passes ex ey) (now ex) (before ex among)
    hindsight_by b b' bs i σ p on passes now before false true ex ey h (inl e) = remembers_now i b' (b' ∷ []) σ p e on
    hindsight_by b b' bs i σ p on passes now before false true ex ey h (inr among) = absurd among
    hindsight_by b b' bs i σ p on passes now before x false ex ey h among = absurd (true≢false (sym h))

    pub hindsight : {b : Book K} (r : Run rank b) (i : ℕ) → works_in rank b i ≡ true → (σ : Book K) (p : ℕ) → chained (sight_of σ) p ≡ true → Among σ (since rank r i)
        → Remembers i b (since rank r i) σ p
    unfolding since
    hindsight (opened most ps ss o e) i works σ p on among = absurd among
    hindsight (next {b} c a b' r d) i works σ p on among =
        hindsight_by b b' (since rank r i) i σ p on (call_passes b c a b' (inv b r) d i) (now_among r i) (λ w m. hindsight r i w σ p on m)
        (works_in rank b i) (works_in rank b' i) refl refl works among
