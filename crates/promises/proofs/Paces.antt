-- How far a look has come: the places at which it went back, and those at which it went on, are as many places. Assumes the
-- invariant at the moments of the look, hindsight for it, and that the predecessor of a place of the chain lies below it.
use Rattle.std.proofs.Common.{◌≡◌, ℕ, ◌+◌, ◌*◌, ◌<◌, ◌≤◌, Bool, true, false, not, eqb, ltb, ◌⊎◌, List, [], ◌∷◌, length, Ordering, Less, Greater, sym, refl, ap, ◌∙◌, subst, inl, inr, arith}
use Rattle.std.proofs.lemmas.Bool.{true≢false, eqb-true, eq-eqb, or_left, or_right, or_cases, and_from, lt-ltb, not_from_false}
use Rattle.guides.specs.Meaning.{low, high, has, distinct, all_below}
use Rattle.guides.proofs.Pigeonhole.{distinct_below_room}
use Rattle.records.specs.declared.outcome.Outcome.{Outcome}
use Rattle.records.specs.declared.outcome.Outcome.TheVariants.{Goes, Waits, Ends, Retires}
use Rattle.records.specs.declared.record.Phase.{Phase}
use Rattle.records.specs.declared.record.Phase.TheVariants.{Enter, Down, Check, Back, On, Seek, Lock, Valid, Take, Link, LinkBack, Attach, ReleaseNew, PutEnd, TakeVictim, Mark, UnlinkBack, Unlink, Detach, ReleaseVictim, StrikeEnd, First, FirstNext}
use Rattle.records.specs.declared.record.Task.{Task}
use Rattle.records.specs.declared.record.Work.{Work}
use Rattle.records.specs.declared.record.Work.TheVariants.{Look, After}
use Rattle.promises.specs.Books.{Book}
use Rattle.promises.specs.Promised.{is_chained}
use Rattle.promises.proofs.Small.{equal_not_less, greater_not_less}
use Rattle.promises.proofs.Laws.{Laws, before, compared, before_chains}
use Rattle.promises.proofs.Sights.{Sight, sight_of}
use Rattle.promises.proofs.Views.{Way, Strays, Changes}
use Rattle.promises.proofs.Invariant.{Inv, chained, fits, group, waits_for}
use Rattle.promises.proofs.Hindsight.{Among, Struck, Remembers}
use Rattle.promises.proofs.Walked.{Known, moment}
use Rattle.promises.proofs.Moments.{never_self}

module _ {K : Type 0} (rank : K → K → Ordering) where
  -- x lies further than p: above it for a look that goes back, below it for one that goes on.
  abbrev far : Bool → Sight K → ℕ → ℕ → Bool
  far true s p x = before rank (s.spot p) (s.spot x)
  far false s p x = before rank (s.spot x) (s.spot p)

  -- Places, each once, that a look has left behind on its way to p.
  pub record Trail (back : Bool) (s : Sight K) (bs : List (Book K)) (p : ℕ) (xs : List ℕ) : Type 0 where
    pub known : (x : ℕ) → has x xs ≡ true → Known bs x
    pub apart : distinct xs ≡ true
    pub behind : (x : ℕ) → has x xs ≡ true → far back s p x ≡ true

  pub record Turned (s : Sight K) (bs : List (Book K)) (p g : ℕ) : Type 0 where
    pub turn : ℕ
    pub turn_known : Known bs turn
    pub backs : List ℕ
    pub back_trail : Trail true s bs turn backs
    pub ons : List ℕ
    pub on_trail : Trail false s bs p ons
    pub few : g ≤ 67 + length backs + length ons

  -- How many steps g a look has been given, by its phase.
  abbrev pub Paced : List (Book K) → Sight K → Phase → ℕ → ℕ → ℕ → Type 0
  Paced bs s Enter downs p g = g ≡ 0
  Paced bs s Down downs p g = (g ≡ downs + 1) × (downs < 64)
  Paced bs s Check downs p g = g ≤ 65
  Paced bs s Back downs p g = (xs : List ℕ) × Trail true s bs p xs × (g ≤ 66 + length xs)
  Paced bs s On downs p g = Turned s bs p g
  Paced bs s Seek downs p g = ⊥
  Paced bs s Lock downs p g = ⊥
  Paced bs s Valid downs p g = ⊥
  Paced bs s Take downs p g = ⊥
  Paced bs s Link downs p g = ⊥
  Paced bs s LinkBack downs p g = ⊥
  Paced bs s Attach downs p g = ⊥
  Paced bs s ReleaseNew downs p g = ⊥
  Paced bs s PutEnd downs p g = ⊥
  Paced bs s TakeVictim downs p g = ⊥
  Paced bs s Mark downs p g = ⊥
  Paced bs s UnlinkBack downs p g = ⊥
  Paced bs s Unlink downs p g = ⊥
  Paced bs s Detach downs p g = ⊥
  Paced bs s ReleaseVictim downs p g = ⊥
  Paced bs s StrikeEnd downs p g = ⊥
  Paced bs s First downs p g = ⊥
  Paced bs s FirstNext downs p g = ⊥

  trail_none : (back : Bool) (s : Sight K) (bs : List (Book K)) (p : ℕ) → Trail back s bs p []
  trail_none back s bs p = record { known = λ x h. absurd (true≢false (sym h)); apart = refl; behind = λ x h. absurd (true≢false (sym h)) }

  -- ---- another book, in which the known places have their keys still

  far_same : (back : Bool) (s s' : Sight K) (p x : ℕ) → s'.spot p ≡ s.spot p → s'.spot x ≡ s.spot x → far back s' p x ≡ far back s p x
  far_same true s s' p x ep ex = ap (λ y. before rank y (s'.spot x)) ep ∙ ap (before rank (s.spot p)) ex
  far_same false s s' p x ep ex = ap (λ y. before rank y (s'.spot p)) ex ∙ ap (before rank (s.spot x)) ep

  module _ (s s' : Sight K) (b' : Book K) (bs : List (Book K)) (same : (x : ℕ) → Known bs x → s'.spot x ≡ s.spot x) where
    known_more : {x : ℕ} → Known bs x → Known (b' ∷ bs) x
    known_more m = record { book = m.book; among = inr m.among; on = m.on }

    trail_more : (back : Bool) (p : ℕ) (xs : List ℕ) → Known bs p → Trail back s bs p xs → Trail back s' (b' ∷ bs) p xs
    trail_more back p xs kp m = record {
      known = λ x h. known_more (m.known x h);
      apart = m.apart;
      behind = λ x h. far_same back s s' p x (same p kp) (same x (m.known x h)) ∙ m.behind x h;
    }

    pub paced_more : (f : Phase) (downs p g : ℕ) → (f ≡ Back → Known bs p) → (f ≡ On → Known bs p) → Paced bs s f downs p g → Paced (b' ∷ bs) s' f downs p g
    paced_more Enter downs p g kb ko w = w
    paced_more Down downs p g kb ko w = w
    paced_more Check downs p g kb ko w = w
    paced_more Back downs p g kb ko w = (w.0, trail_more true p w.0 (kb refl) w.1, w.2)
    paced_more On downs p g kb ko w = record { turn = w.turn; turn_known = known_more w.turn_known; backs = w.backs; back_trail = trail_more true w.turn w.backs w.turn_known w.back_trail; ons = w.ons; on_trail = trail_more false p w.ons (ko refl) w.on_trail; few = w.few }
    paced_more Seek downs p g kb ko w = w
    paced_more Lock downs p g kb ko w = w
    paced_more Valid downs p g kb ko w = w
    paced_more Take downs p g kb ko w = w
    paced_more Link downs p g kb ko w = w
    paced_more LinkBack downs p g kb ko w = w
    paced_more Attach downs p g kb ko w = w
    paced_more ReleaseNew downs p g kb ko w = w
    paced_more PutEnd downs p g kb ko w = w
    paced_more TakeVictim downs p g kb ko w = w
    paced_more Mark downs p g kb ko w = w
    paced_more UnlinkBack downs p g kb ko w = w
    paced_more Unlink downs p g kb ko w = w
    paced_more Detach downs p g kb ko w = w
    paced_more ReleaseVictim downs p g kb ko w = w
    paced_more StrikeEnd downs p g kb ko w = w
    paced_more First downs p g kb ko w = w
    paced_more FirstNext downs p g kb ko w = w

  -- ---- one place more

  module _ (laws : Laws rank) where
    far_chains : (back : Bool) (s : Sight K) (q p x : ℕ) → far back s q p ≡ true → far back s p x ≡ true → far back s q x ≡ true
    far_chains true s q p x h k = before_chains rank laws (s.spot q) (s.spot p) (s.spot x) h k
    far_chains false s q p x h k = before_chains rank laws (s.spot x) (s.spot p) (s.spot q) k h

    far_not_self : (back : Bool) (s : Sight K) (p : ℕ) → far back s p p ≡ true → ⊥
    far_not_self true s p h = never_self rank laws (s.spot p) h
    far_not_self false s p h = never_self rank laws (s.spot p) h

    module _ (back : Bool) (s : Sight K) (bs : List (Book K)) (p : ℕ) (xs : List ℕ) (m : Trail back s bs p xs) where
      trail_fresh : has p xs ≡ false
      trail_fresh = go (has p xs) refl
        where
          go : (c : Bool) → has p xs ≡ c → c ≡ false
          go true e = absurd (far_not_self back s p (m.behind p e))
          go false e = refl

      trail_step : (q : ℕ) → Known bs p → far back s q p ≡ true → Trail back s bs q (p ∷ xs)
      trail_step q kp h = record {
        known = λ x e. known_by x (or_cases (eqb p x) (has x xs) e);
        apart = and_from (not (has p xs)) (distinct xs) (not_from_false (has p xs) trail_fresh) m.apart;
        behind = λ x e. behind_by x (or_cases (eqb p x) (has x xs) e);
      }
        where
          known_by : (x : ℕ) → (eqb p x ≡ true) ⊎ (has x xs ≡ true) → Known bs x
          known_by x (inl e) = subst (Known bs) (eqb-true p x e) kp
          known_by x (inr e) = m.known x e

          behind_by : (x : ℕ) → (eqb p x ≡ true) ⊎ (has x xs ≡ true) → far back s q x ≡ true
          behind_by x (inl e) = subst (λ y. far back s q y ≡ true) (eqb-true p x e) h
          behind_by x (inr e) = far_chains back s q p x h (m.behind x e)

      trail_fits : (n : ℕ) → Known bs p → ((x : ℕ) → Known bs x → x < n) → length xs < n
      trail_fits n kp within = distinct_below_room n p xs m.apart (go xs (λ x e. within x (m.known x e))) trail_fresh (within p kp)
        where
          go : (ys : List ℕ) → ((x : ℕ) → has x ys ≡ true → x < n) → all_below n ys ≡ true
          go [] f = refl
          go (y ∷ ys) f = and_from (ltb y n) (all_below n ys) (lt-ltb y n (f y (or_left (eqb y y) (has y ys) (eq-eqb y y refl)))) (go ys (λ x e. f x (or_right (eqb y x) (has x ys) e)))

    -- A look under way has been given fewer steps than this.
    pub paced_few : (s : Sight K) (bs : List (Book K)) (n : ℕ) → ((x : ℕ) → Known bs x → x < n) → 0 < n → (f : Phase) (downs p g : ℕ) → (f ≡ Back → Known bs p) → (f ≡ On → Known bs p)
        → Paced bs s f downs p g → g < 66 + 2 * n
    paced_few s bs n within some Enter downs p g kb ko w = omega arith
    paced_few s bs n within some Down downs p g kb ko w = omega (arith, w.0, w.1)
    paced_few s bs n within some Check downs p g kb ko w = omega arith
    paced_few s bs n within some Back downs p g kb ko w = let few = trail_fits true s bs p w.0 w.1 n (kb refl) within in omega (arith, w.2)
    paced_few s bs n within some On downs p g kb ko w = let few = trail_fits true s bs w.turn w.backs w.back_trail n w.turn_known within in let more = trail_fits false s bs p w.ons w.on_trail n (ko refl) within in omega (arith, w.few)
    paced_few s bs n within some Seek downs p g kb ko w = absurd w
    paced_few s bs n within some Lock downs p g kb ko w = absurd w
    paced_few s bs n within some Valid downs p g kb ko w = absurd w
    paced_few s bs n within some Take downs p g kb ko w = absurd w
    paced_few s bs n within some Link downs p g kb ko w = absurd w
    paced_few s bs n within some LinkBack downs p g kb ko w = absurd w
    paced_few s bs n within some Attach downs p g kb ko w = absurd w
    paced_few s bs n within some ReleaseNew downs p g kb ko w = absurd w
    paced_few s bs n within some PutEnd downs p g kb ko w = absurd w
    paced_few s bs n within some TakeVictim downs p g kb ko w = absurd w
    paced_few s bs n within some Mark downs p g kb ko w = absurd w
    paced_few s bs n within some UnlinkBack downs p g kb ko w = absurd w
    paced_few s bs n within some Unlink downs p g kb ko w = absurd w
    paced_few s bs n within some Detach downs p g kb ko w = absurd w
    paced_few s bs n within some ReleaseVictim downs p g kb ko w = absurd w
    paced_few s bs n within some StrikeEnd downs p g kb ko w = absurd w
    paced_few s bs n within some First downs p g kb ko w = absurd w
    paced_few s bs n within some FirstNext downs p g kb ko w = absurd w

-- ---- a look's step

look_strays_not : (w : Work) (f : Phase) → Strays w f → w ≡ Look → fits w (group f) ≡ true → ⊥
look_strays_not w f Strays.first_back e h = let z : ◌≡◌ {A = ℕ} 0 1 = cc in omega arith
look_strays_not w f Strays.put_on e h = let z : ◌≡◌ {A = ℕ} 0 1 = cc in omega arith
look_strays_not w f Strays.strike_on e h = let z : ◌≡◌ {A = ℕ} 0 1 = cc in omega arith
look_strays_not w f Strays.first_on e h = let z : ◌≡◌ {A = ℕ} 0 1 = cc in omega arith
look_strays_not w f Strays.look_valid e h = true≢false (sym h)
look_strays_not w f Strays.first_valid e h = let z : ◌≡◌ {A = ℕ} 0 1 = cc in omega arith
look_strays_not w f Strays.after_valid e h = let z : ◌≡◌ {A = ℕ} 0 1 = cc in omega arith

look_changes_not : (w : Work) → Changes w → w ≡ Look → ⊥
look_changes_not w Changes.puts e = let z : ◌≡◌ {A = ℕ} 0 1 = cc in omega arith
look_changes_not w Changes.strikes e = let z : ◌≡◌ {A = ℕ} 0 1 = cc in omega arith

module _ {K : Type 0} (rank : K → K → Ordering) (laws : Laws rank) (i : ℕ) (b : Book K) (bs : List (Book K)) (here : Among b bs)
    (inv_of : (σ : Book K) → Among σ bs → Inv rank (sight_of σ))
    (hind : (σ : Book K) → Among σ bs → (p : ℕ) → chained (sight_of σ) p ≡ true → Remembers i b bs σ p)
    (prevs : (σ : Book K) → Among σ bs → (p : ℕ) → chained (sight_of σ) p ≡ true → (p ≡ low → ⊥) → chained (sight_of σ) ((sight_of σ).prev p) ≡ true)
    (falls : (σ : Book K) → Among σ bs → (p : ℕ) → chained (sight_of σ) p ≡ true → (p ≡ low → ⊥) → before rank ((sight_of σ).spot ((sight_of σ).prev p)) ((sight_of σ).spot p) ≡ true) where
  pub known_within : (p : ℕ) → Known bs p → p < (sight_of b).size
  known_within p m = by_fate (hind m.book m.among p m.on).fate
    where
      by_status : ((sight_of b).size ≤ p → ⊥) → p < (sight_of b).size
      by_status h = omega arith

      by_fate : (chained (sight_of b) p ≡ true) ⊎ Struck i b bs p → p < (sight_of b).size
      by_fate (inl on) = by_status (λ h. true≢false (sym on ∙ ap is_chained ((inv_of b here).beyond p h)))
      by_fate (inr x) = by_status (λ h. true≢false (sym x.off.waits ∙ ap (waits_for i) ((inv_of b here).beyond p h)))

  prev_falls : (p : ℕ) → Known bs p → (p ≡ low → ⊥) → before rank ((sight_of b).spot ((sight_of b).prev p)) ((sight_of b).spot p) ≡ true
  prev_falls p m h =
      let at = moment rank laws i b bs here inv_of hind prevs p m in
      let back = prevs at.book at.among p at.on h in
      let spot_back = ap (sight_of b).spot at.prev ∙ (hind at.book at.among ((sight_of at.book).prev p) back).spot in
      ap (λ x. before rank x ((sight_of b).spot p)) spot_back ∙ ap (before rank ((sight_of at.book).spot ((sight_of at.book).prev p))) at.spot ∙ falls at.book at.among p at.on h

  next_rises : (p : ℕ) → Known bs p → (p ≡ high → ⊥) → before rank ((sight_of b).spot p) ((sight_of b).spot ((sight_of b).next p)) ≡ true
  next_rises p m h =
      let at = moment rank laws i b bs here inv_of hind prevs p m in
      let inv = inv_of at.book at.among in
      let spot_on = ap (sight_of b).spot at.next ∙ (hind at.book at.among ((sight_of at.book).next p) (inv.leads p at.on h)).spot in
      ap (before rank ((sight_of b).spot p)) spot_on ∙ ap (λ x. before rank x ((sight_of at.book).spot ((sight_of at.book).next p))) at.spot ∙ inv.rises p at.on h

  module _ (t : Task K) (looks : t.work ≡ Look) (fit : fits t.work (group t.phase) ≡ true) (g : ℕ)
      (known_back : t.phase ≡ Back → Known bs t.at) (known_on : t.phase ≡ On → Known bs t.at) (paced : Paced rank bs (sight_of b) t.phase t.downs t.at g) where
    abbrev Paces : Task K → Type 0
    Paces u = Paced rank bs (sight_of b) u.phase u.downs u.at (g + 1)

    in_phase : (f : Phase) → t.phase ≡ f → Paced rank bs (sight_of b) f t.downs t.at g
    in_phase f e = subst (λ h. Paced rank bs (sight_of b) h t.downs t.at g) e paced

    stay_in : (f : Phase) (downs p : ℕ) → t.phase ≡ f → Paced rank bs (sight_of b) f downs p (g + 1) → Paced rank bs (sight_of b) t.phase downs p (g + 1)
    stay_in f downs p e w = subst (λ h. Paced rank bs (sight_of b) h downs p (g + 1)) (sym e) w

    goes_on : {o : Outcome K} {u v : Task K} → o ≡ Goes v → o ≡ Goes u → Paces v → Paces u
    goes_on {o} {u} {v} e h w = let same : v ≡ u = cc in subst Paces same w

    abbrev going : Outcome K → Bool
    going (Goes u) = true
    going Waits = false
    going (Ends a) = false
    going (Retires p) = false

    goes_not : {P : Type 0} {o x : Outcome K} {u : Task K} → o ≡ x → going x ≡ false → o ≡ Goes u → P
    goes_not e calm h = absurd (true≢false (sym (ap going h) ∙ ap going e ∙ calm))

    other_work : {P : Type 0} → t.work ≡ After → P
    other_work e = let z : ◌≡◌ {A = ℕ} 0 1 = cc in absurd (omega arith)

    entered : t.phase ≡ Enter → (g + 1 ≡ 0 + 1) × (0 < 64)
    entered e = let w : g ≡ 0 = in_phase Enter e in (omega arith, omega arith)

    checked : t.phase ≡ Down → g + 1 ≤ 65
    checked e = let w = in_phase Down e in let x : g ≡ t.downs + 1 = w.0 in let y : t.downs < 64 = w.1 in omega arith

    deeper : t.phase ≡ Down → t.downs + 1 < 64 → (g + 1 ≡ (t.downs + 1) + 1) × (t.downs + 1 < 64)
    deeper e h = let w = in_phase Down e in let x : g ≡ t.downs + 1 = w.0 in (omega arith, h)

    begins_back : t.phase ≡ Check → (p : ℕ) → (xs : List ℕ) × Trail rank true (sight_of b) bs p xs × (g + 1 ≤ 66 + length xs)
    begins_back e p = let w : g ≤ 65 = in_phase Check e in ([], trail_none rank true (sight_of b) bs p, (omega arith))

    not_low : {o : Ordering} → compared rank ((sight_of b).spot t.at) t.key ≡ o → (o ≡ Less → ⊥) → t.at ≡ low → ⊥
    not_low is h e = h (sym is ∙ ap (λ q. compared rank ((sight_of b).spot q) t.key) e ∙ ap (λ x. compared rank x t.key) (inv_of b here).low_spot)

    not_high : compared rank ((sight_of b).spot t.at) t.key ≡ Less → t.at ≡ high → ⊥
    not_high is e =
        let clash : ◌≡◌ {A = Ordering} Less Greater = sym is ∙ ap (λ q. compared rank ((sight_of b).spot q) t.key) e ∙ ap (λ x. compared rank x t.key) (inv_of b here).high_spot in
        let z : ◌≡◌ {A = ℕ} 0 1 = cc in omega arith

    goes_back : t.phase ≡ Back → (t.at ≡ low → ⊥) → Paced rank bs (sight_of b) t.phase t.downs ((sight_of b).prev t.at) (g + 1)
    goes_back e h =
        let w = in_phase Back e in
        let few : g ≤ 66 + length w.0 = w.2 in
        stay_in Back t.downs ((sight_of b).prev t.at) e
        (t.at ∷ w.0, trail_step rank laws true (sight_of b) bs t.at w.0 w.1 ((sight_of b).prev t.at) (known_back e) (prev_falls t.at (known_back e) h), (omega arith))

    turns : t.phase ≡ Back → Turned rank (sight_of b) bs t.at (g + 1)
    turns e =
        let w = in_phase Back e in
        let few : g ≤ 66 + length w.0 = w.2 in
        record { turn = t.at; turn_known = known_back e; backs = w.0; back_trail = w.1; ons = []; on_trail = trail_none rank false (sight_of b) bs t.at; few = omega arith }

    goes_next : t.phase ≡ On → (t.at ≡ high → ⊥) → Paced rank bs (sight_of b) t.phase t.downs ((sight_of b).next t.at) (g + 1)
    goes_next e h =
        let w = in_phase On e in
        let few : g ≤ 67 + length w.backs + length w.ons = w.few in
        stay_in On t.downs ((sight_of b).next t.at) e
        (record {
          turn = w.turn;
          turn_known = w.turn_known;
          backs = w.backs;
          back_trail = w.back_trail;
          ons = t.at ∷ w.ons;
          on_trail = trail_step rank laws false (sight_of b) bs t.at w.ons w.on_trail ((sight_of b).next t.at) (known_on e) (next_rises t.at (known_on e) h);
          few = omega arith;
        })

    pub paces : {o : Outcome K} {m : Sight K} → Way rank (sight_of b) i t o m → (u : Task K) → o ≡ Goes u → Paces u
    paces (Way.strays x0 x1 x2) u e = absurd (look_strays_not t.work t.phase x0 looks fit)
    paces (Way.enters x0 x1 x2 x3 x4) u e = goes_on x3 e (entered x0)
    paces (Way.down_here x0 x1 x2 x3) u e = goes_on x2 e (checked x0)
    paces (Way.down_lost x0 x1 x2 x3) u e = goes_on x2 e (checked x0)
    paces (Way.down_last x0 x1 x2 x3 x4 x5 x6) u e = goes_on x5 e (checked x0)
    paces (Way.down_on x0 x1 x2 x3 x4 x5 x6) u e = goes_on x5 e (stay_in Down (t.downs + 1) x2 x0 (deeper x0 x4))
    paces (Way.check_marked x0 x1 x2 x3) u e = goes_on x2 e (begins_back x0 low)
    paces (Way.check_unmarked x0 x1 x2 x3) u e = goes_on x2 e (begins_back x0 t.at)
    paces (Way.back_look_yes x0 x1 x2 x3 x4 x5) u e = goes_not x4 refl e
    paces (Way.back_look_marked x0 x1 x2 x3 x4 x5) u e = goes_on x4 e (goes_back x0 (not_low x2 (equal_not_less refl)))
    paces (Way.back_look_above x0 x1 x2 x3 x4) u e = goes_on x3 e (goes_back x0 (not_low x2 (greater_not_less refl)))
    paces (Way.back_look_on x0 x1 x2 x3 x4) u e = goes_on x3 e (turns x0)
    paces (Way.back_after_above x0 x1 x2 x3 x4) u e = other_work x1
    paces (Way.back_after_on x0 x1 x2 x3 x4) u e = other_work x1
    paces (Way.back_change_above x0 x1 x2 x3 x4) u e = absurd (look_changes_not t.work x1 looks)
    paces (Way.back_change_seek x0 x1 x2 x3 x4) u e = absurd (look_changes_not t.work x1 looks)
    paces (Way.on_look_next x0 x1 x2 x3 x4) u e = goes_on x3 e (goes_next x0 (not_high x2))
    paces (Way.on_look_marked x0 x1 x2 x3 x4 x5) u e = goes_not x4 refl e
    paces (Way.on_look_yes x0 x1 x2 x3 x4 x5) u e = goes_not x4 refl e
    paces (Way.on_look_no x0 x1 x2 x3 x4) u e = goes_not x3 refl e
    paces (Way.on_after_next x0 x1 x2 x3 x4) u e = other_work x1
    paces (Way.on_after_missing x0 x1 x2 x3 x4) u e = goes_not x3 refl e
    paces (Way.on_after_marked x0 x1 x2 x3 x4 x5) u e = other_work x1
    paces (Way.on_after_found x0 x1 x2 x3 x4 x5 x6 x7) u e = goes_not x6 refl e
    paces (Way.seek_next x0 x1 x2 x3 x4) u e = absurd (in_phase Seek x0)
    paces (Way.seek_lock x0 x1 x2 x3 x4) u e = absurd (in_phase Seek x0)
    paces (Way.lock_waits x0 x1 x2 x3) u e = goes_not x2 refl e
    paces (Way.lock_taken x0 x1 x2 x3 x4) u e = absurd (in_phase Lock x0)
    paces (Way.valid_again x0 x1 x2 x3 x4) u e = absurd (in_phase Valid x0)
    paces (Way.valid_put_no x0 x1 x2 x3 x4 x5) u e = goes_not x4 refl e
    paces (Way.valid_take x0 x1 x2 x3 x4 x5) u e = absurd (in_phase Valid x0)
    paces (Way.valid_strike_no x0 x1 x2 x3 x4 x5) u e = goes_not x4 refl e
    paces (Way.valid_victim x0 x1 x2 x3 x4 x5) u e = absurd (in_phase Valid x0)
    paces (Way.take_none x0 x1 x2 x3) u e = goes_not x2 refl e
    paces (Way.take_some x0 x1 x2 x3 x4 x5 x6) u e = absurd (in_phase Take x0)
    paces (Way.links x0 x1 x2) u e = absurd (in_phase Link x0)
    paces (Way.links_back x0 x1 x2 x3) u e = absurd (in_phase LinkBack x0)
    paces (Way.attaches x0 x1 x2 x3 x4 x5) u e = absurd (in_phase Attach x0)
    paces (Way.releases_new x0 x1 x2) u e = absurd (in_phase ReleaseNew x0)
    paces (Way.put_ends x0 x1 x2) u e = goes_not x1 refl e
    paces (Way.victim_waits x0 x1 x2 x3) u e = goes_not x2 refl e
    paces (Way.victim_taken x0 x1 x2 x3 x4) u e = absurd (in_phase TakeVictim x0)
    paces (Way.marks x0 x1 x2) u e = absurd (in_phase Mark x0)
    paces (Way.unlinks_back x0 x1 x2 x3) u e = absurd (in_phase UnlinkBack x0)
    paces (Way.unlinks x0 x1 x2) u e = absurd (in_phase Unlink x0)
    paces (Way.detaches x0 x1 x2 x3 x4) u e = absurd (in_phase Detach x0)
    paces (Way.releases_victim x0 x1 x2) u e = absurd (in_phase ReleaseVictim x0)
    paces (Way.strike_ends x0 x1 x2 x3) u e = goes_not x2 refl e
    paces (Way.first_missing x0 x1 x2 x3) u e = goes_not x2 refl e
    paces (Way.first_on_next x0 x1 x2 x3) u e = absurd (in_phase First x0)
    paces (Way.first_marked x0 x1 x2 x3) u e = absurd (in_phase FirstNext x0)
    paces (Way.first_found x0 x1 x2 x3 x4 x5) u e = goes_not x4 refl e
