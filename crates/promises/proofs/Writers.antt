-- That the rules that write places or change the guide go one of the ways. Assumes nothing.
use Rattle.std.proofs.Common.{◌≡◌, ℕ, ◌<◌, Bool, true, false, cond, List, length, Some, None, Ok, Err, Option, Result, Ordering, Less, Equal, Greater, sym, refl, ap, ◌∙◌, subst, inl, inr}
use Rattle.std.proofs.lemmas.Bool.{leb-false, or_parts, not-false}
use Rattle.guides.specs.Meaning.{Meaning}
use Rattle.records.specs.declared.answer.Answer.TheVariants.{Yes}
use Rattle.records.specs.declared.answer.Damage.{Damage}
use Rattle.records.specs.declared.outcome.Outcome.{Outcome}
use Rattle.records.specs.declared.outcome.Outcome.TheVariants.{Goes, Waits, Ends, Retires}
use Rattle.records.specs.declared.record.Phase.TheVariants.{Lock, Valid, Take, Link, LinkBack, Attach, ReleaseNew, PutEnd, TakeVictim, Mark, UnlinkBack, Unlink, Detach, ReleaseVictim, StrikeEnd}
use Rattle.records.specs.declared.record.Place.{Place}
use Rattle.records.specs.declared.record.Station.{Station}
use Rattle.records.specs.declared.record.Task.{Task}
use Rattle.records.specs.declared.record.Work.{Work}
use Rattle.records.specs.declared.record.Work.TheVariants.{Put, Strike, Look, First as FirstWork, After}
use Rattle.guides.specs.declared.answer.GuideRefusal.{GuideRefusal}
use Rattle.guides.specs.Meaning.{neighbours}
use Rattle.guides.specs.Rules.{attaching, detaching}
use Rattle.std.proofs.lemmas.List.{length-set}
use Rattle.records.specs.declared.answer.Damage.TheVariants.{Guide}
use Rattle.records.specs.declared.record.Status.{Status}
use Rattle.records.specs.declared.record.Status.TheVariants.{Free, InHand, Chained}
use Rattle.records.specs.Records.{Ruled, place, needing, standing_at, written, with_next, with_prev, with_mark, with_lock, with_status, released, into, with_other, held_by_other}
use Rattle.rules.specs.Holding.{lock_by, valid_by, lock, valid}
use Rattle.rules.specs.Putting.{is_free, MayTake, take_by, take, link, link_back, release_new, put_end}
use Rattle.rules.specs.Striking.{take_victim_by, take_victim, mark, unlink_back, unlink, release_victim, strike_end}
use Rattle.rules.specs.Stepping.{attach, detach, as_damage}
use Rattle.promises.proofs.Small.{only_free}
use Rattle.promises.proofs.Laws.{compared}
use Rattle.promises.proofs.Sights.{Sight, sight, next_put, prev_put, lock_put, status_put, guide_put, filled}
use Rattle.promises.proofs.Writes.{sees_next, sees_prev, sees_mark, sees_lock, sees_status, sees_filled}
use Rattle.promises.proofs.Finds.{needed, never_ok, same_ok, stands_seen, next_seen, marked_seen, lock_seen, status_seen}
use Rattle.promises.proofs.Views.{Changes, puts, strikes, Strays, look_valid, first_valid, after_valid, stands, Way}

free_is_free : (x : Status) → x ≡ Free → is_free x ≡ true
free_is_free x h = ap is_free h

module _ {K : Type 0} (rank : K → K → Ordering) (me : ℕ) (ps : List (Place K)) (ss : List (Station K)) (m : Meaning) (t : Task K) (o : Outcome K) (s' : Sight K) where
  abbrev It : Type 0
  It = Way rank (sight ps ss m) me t o s'

  abbrev below : Place K
  below = place t.key ps t.at

  abbrev other : Place K
  other = place t.key ps t.other

  -- A rule that was told to write and wrote.
  pub record Wrote (told : Result (Ruled K) Damage) : Type 0 where
    pub ruled : Ruled K
    pub tells : told ≡ Ok ruled
    pub outcome : o ≡ ruled.outcome
    pub places : s' ≡ sight ruled.places ss m

  -- What it wrote, once it is known.
  did : (told : Result (Ruled K) Damage) (w : Wrote told) (x : Ruled K) → ◌≡◌ {A = Result (Ruled K) Damage} (Ok x) (Ok w.ruled) → (o ≡ x.outcome) × (s' ≡ sight x.places ss m)
  did told w x e =
      let same : x ≡ w.ruled = same_ok _ _ e in
      (w.outcome ∙ ap (λ y. y.outcome) (sym same), w.places ∙ ap (λ y. sight y.places ss m) (sym same))

  -- ---- LOCK

  pub locks : t.phase ≡ Lock → Wrote (lock ps t me) → It
  locks is w =
      let n = needed t.key ps t.at (λ x. Ok (lock_by ps t me x)) w.ruled w.tells in
      let d = did _ w (lock_by ps t me below) n.1 in
      go n.0 (held_by_other me below.lock) (ap (held_by_other me) (lock_seen ps ss m t.key t.at n.0)) d.0 d.1
    where
      go : t.at < length ps → (b : Bool) → b ≡ held_by_other me ((sight ps ss m).lock t.at)
          → o ≡ (cond {A = Ruled K} b (record { outcome = Waits; places = ps }) (record { outcome = Goes (into Valid t); places = written t.key t.at (with_lock (Some me)) ps })).outcome
          → s' ≡ sight (cond {A = Ruled K} b (record { outcome = Waits; places = ps }) (record { outcome = Goes (into Valid t); places = written t.key t.at (with_lock (Some me)) ps })).places ss m
          → It
      go h true e oc se = Way.lock_waits is (sym e) oc se
      go h false e oc se = Way.lock_taken is h (sym e) oc (se ∙ sees_lock t.key ps ss m t.at h (Some me))

  -- ---- VALID

  module _ (is : t.phase ≡ Valid) (h : t.at < length ps) where
    abbrev after_at : Ordering
    after_at = stands rank (sight ps ss m) me t ((sight ps ss m).next t.at)

    valids_by : (work : Work) → t.work ≡ work → (marked : Bool) → (sight ps ss m).marked t.at ≡ marked → (ord : Ordering) → after_at ≡ ord
        → o ≡ (valid_by ps t work marked ord).outcome → s' ≡ sight (valid_by ps t work marked ord).places ss m → It
    valids_by Put w true b ord st oc se = Way.valid_again is (subst Changes (sym w) puts) (inl b) oc (se ∙ sees_lock t.key ps ss m t.at h None)
    valids_by Put w false b Less st oc se = Way.valid_again is (subst Changes (sym w) puts) (inr st) oc (se ∙ sees_lock t.key ps ss m t.at h None)
    valids_by Put w false b Equal st oc se = Way.valid_put_no is w b st oc (se ∙ sees_lock t.key ps ss m t.at h None)
    valids_by Put w false b Greater st oc se = Way.valid_take is w b st oc se
    valids_by Strike w true b ord st oc se = Way.valid_again is (subst Changes (sym w) strikes) (inl b) oc (se ∙ sees_lock t.key ps ss m t.at h None)
    valids_by Strike w false b Less st oc se = Way.valid_again is (subst Changes (sym w) strikes) (inr st) oc (se ∙ sees_lock t.key ps ss m t.at h None)
    valids_by Strike w false b Equal st oc se = Way.valid_victim is w b st oc se
    valids_by Strike w false b Greater st oc se = Way.valid_strike_no is w b st oc (se ∙ sees_lock t.key ps ss m t.at h None)
    valids_by Look w marked b ord st oc se = Way.strays (subst (λ x. Strays x t.phase) (sym w) (subst (Strays Look) (sym is) look_valid)) oc se
    valids_by FirstWork w marked b ord st oc se = Way.strays (subst (λ x. Strays x t.phase) (sym w) (subst (Strays FirstWork) (sym is) first_valid)) oc se
    valids_by After w marked b ord st oc se = Way.strays (subst (λ x. Strays x t.phase) (sym w) (subst (Strays After) (sym is) after_valid)) oc se

  pub valids : t.phase ≡ Valid → Wrote (valid ps t rank) → It
  valids is w =
      let n = needed t.key ps t.at (λ x. needing t.key ps x.next (λ next. Ok (valid_by ps t t.work x.marked (standing_at rank ps x.next t.key)))) w.ruled w.tells in
      let l = needed t.key ps below.next (λ next. Ok (valid_by ps t t.work below.marked (standing_at rank ps below.next t.key))) w.ruled n.1 in
      let d = did _ w (valid_by ps t t.work below.marked (standing_at rank ps below.next t.key)) l.1 in
      let sees = next_seen ps ss m t.key t.at n.0 in
      valids_by is n.0 t.work refl below.marked (sym (marked_seen ps ss m t.key t.at n.0)) (standing_at rank ps below.next t.key)
      (sym (stands_seen ps ss m rank t.key below.next l.0 ∙ ap (λ p. compared rank ((sight ps ss m).spot p) t.key) sees)) d.0 d.1

  -- ---- TAKE

  pub takes : t.phase ≡ Take → (free : Option ℕ) → MayTake ps t.key free → Wrote (take ps t me free) → It
  takes is None may w =
      let n = needed t.key ps t.at (λ x. Ok (take_by ps t me None x)) w.ruled w.tells in
      let d = did _ w (take_by ps t me None below) n.1 in
      Way.take_none is
      (λ p two inside served f. may p (record { counts = two; within = inside; served = served; free = free_is_free _ (status_seen ps ss m t.key p inside ∙ f) }))
      d.0 (d.1 ∙ sees_lock t.key ps ss m t.at n.0 None)
  takes is (Some p) may w =
      let n = needed t.key ps t.at (λ x. Ok (take_by ps t me (Some p) x)) w.ruled w.tells in
      let d = did _ w (take_by ps t me (Some p) below) n.1 in
      let sees = next_seen ps ss m t.key t.at n.0 in
      Way.take_some is p may.counts may.within (sym (status_seen ps ss m t.key p may.within) ∙ only_free _ may.free) d.0
      (d.1 ∙ sees_filled t.key ps ss m p may.within (record { key = t.key; next = below.next; prev = t.at; marked = false; lock = Some me; status = InHand })
      ∙ ap (λ q. filled p (record { key = t.key; next = q; prev = t.at; marked = false; lock = Some me; status = InHand }) (sight ps ss m)) sees)

  -- ---- LINK and what follows

  pub links_way : t.phase ≡ Link → Wrote (link ps t) → It
  links_way is w =
      let n = needed t.key ps t.at (λ x. needing t.key ps t.other (λ new. Ok (record {
        outcome = Goes (into LinkBack t);
        places = written t.key t.other (with_status Chained) (written t.key t.at (with_next t.other) ps);
      }))) w.ruled w.tells in
      let l = needed t.key ps t.other (λ new. Ok (record {
        outcome = Goes (into LinkBack t);
        places = written t.key t.other (with_status Chained) (written t.key t.at (with_next t.other) ps);
      })) w.ruled n.1 in
      let d = did _ w _ l.1 in
      let longer : t.other < length (written t.key t.at (with_next t.other) ps) = simp length-set l.0 in
      Way.links is d.0
      (d.1 ∙ sees_status t.key (written t.key t.at (with_next t.other) ps) ss m t.other longer Chained
      ∙ ap (status_put t.other Chained) (sees_next t.key ps ss m t.at n.0 t.other))

  pub links_back_way : t.phase ≡ LinkBack → Wrote (link_back ps t) → It
  links_back_way is w =
      let n = needed t.key ps t.other (λ new. needing t.key ps new.next (λ next. Ok (record {
        outcome = Goes (into Attach t);
        places = written t.key new.next (with_prev t.other) ps;
      }))) w.ruled w.tells in
      let l = needed t.key ps other.next (λ next. Ok (record {
        outcome = Goes (into Attach t);
        places = written t.key other.next (with_prev t.other) ps;
      })) w.ruled n.1 in
      let d = did _ w _ l.1 in
      let sees = next_seen ps ss m t.key t.other n.0 in
      Way.links_back is (subst (λ q. q < length ps) sees l.0) d.0
      (d.1 ∙ sees_prev t.key ps ss m other.next l.0 t.other ∙ ap (λ q. prev_put q t.other (sight ps ss m)) sees)

  pub releases_new_way : t.phase ≡ ReleaseNew → Wrote (release_new ps t) → It
  releases_new_way is w =
      let n = needed t.key ps t.other (λ new. Ok (record { outcome = Goes (into PutEnd t); places = released t.key t.other ps })) w.ruled w.tells in
      let d = did _ w _ n.1 in
      Way.releases_new is d.0 (d.1 ∙ sees_lock t.key ps ss m t.other n.0 None)

  pub put_ends_way : t.phase ≡ PutEnd → Wrote (put_end ps t) → It
  put_ends_way is w =
      let n = needed t.key ps t.at (λ x. Ok (record { outcome = Ends Yes; places = released t.key t.at ps })) w.ruled w.tells in
      let d = did _ w _ n.1 in
      Way.put_ends is d.0 (d.1 ∙ sees_lock t.key ps ss m t.at n.0 None)

  -- ---- the victim and what follows

  pub victims : t.phase ≡ TakeVictim → Wrote (take_victim ps t me) → It
  victims is w =
      let n = needed t.key ps t.at (λ x. needing t.key ps x.next (λ victim. Ok (take_victim_by ps t me x victim))) w.ruled w.tells in
      let l = needed t.key ps below.next (λ victim. Ok (take_victim_by ps t me below victim)) w.ruled n.1 in
      let d = did _ w (take_victim_by ps t me below (place t.key ps below.next)) l.1 in
      go below.next (next_seen ps ss m t.key t.at n.0) l.0 (held_by_other me (place t.key ps below.next).lock)
      (ap (held_by_other me) (lock_seen ps ss m t.key below.next l.0)) d.0 d.1
    where
      go : (q : ℕ) → q ≡ (sight ps ss m).next t.at → q < length ps → (b : Bool) → b ≡ held_by_other me ((sight ps ss m).lock q)
          → o ≡ (cond {A = Ruled K} b (record { outcome = Waits; places = ps }) (record { outcome = Goes (into Mark (with_other q t)); places = written t.key q (with_lock (Some me)) ps })).outcome
          → s' ≡ sight (cond {A = Ruled K} b (record { outcome = Waits; places = ps }) (record { outcome = Goes (into Mark (with_other q t)); places = written t.key q (with_lock (Some me)) ps })).places ss m
          → It
      go q sees h true e oc se = Way.victim_waits is (ap (λ p. held_by_other me ((sight ps ss m).lock p)) (sym sees) ∙ sym e) oc se
      go q sees h false e oc se =
          Way.victim_taken is (subst (λ p. p < length ps) sees h) (ap (λ p. held_by_other me ((sight ps ss m).lock p)) (sym sees) ∙ sym e)
          (oc ∙ ap (λ p. Goes (into Mark (with_other p t))) sees)
          (se ∙ sees_lock t.key ps ss m q h (Some me) ∙ ap (λ p. lock_put p (Some me) (sight ps ss m)) sees)

  pub marks_way : t.phase ≡ Mark → Wrote (mark ps t) → It
  marks_way is w =
      let n = needed t.key ps t.other (λ victim. Ok (record { outcome = Goes (into UnlinkBack t); places = written t.key t.other with_mark ps })) w.ruled w.tells in
      let d = did _ w _ n.1 in
      Way.marks is d.0 (d.1 ∙ sees_mark t.key ps ss m t.other n.0)

  pub unlinks_back_way : t.phase ≡ UnlinkBack → Wrote (unlink_back ps t) → It
  unlinks_back_way is w =
      let n = needed t.key ps t.other (λ victim. needing t.key ps victim.next (λ next. Ok (record {
        outcome = Goes (into Unlink t);
        places = written t.key victim.next (with_prev t.at) ps;
      }))) w.ruled w.tells in
      let l = needed t.key ps other.next (λ next. Ok (record {
        outcome = Goes (into Unlink t);
        places = written t.key other.next (with_prev t.at) ps;
      })) w.ruled n.1 in
      let d = did _ w _ l.1 in
      let sees = next_seen ps ss m t.key t.other n.0 in
      Way.unlinks_back is (subst (λ q. q < length ps) sees l.0) d.0
      (d.1 ∙ sees_prev t.key ps ss m other.next l.0 t.at ∙ ap (λ q. prev_put q t.at (sight ps ss m)) sees)

  pub unlinks_way : t.phase ≡ Unlink → Wrote (unlink ps t) → It
  unlinks_way is w =
      let n = needed t.key ps t.at (λ x. needing t.key ps t.other (λ victim. Ok (record {
        outcome = Goes (into Detach t);
        places = written t.key t.other (with_status InHand) (written t.key t.at (with_next victim.next) ps);
      }))) w.ruled w.tells in
      let l = needed t.key ps t.other (λ victim. Ok (record {
        outcome = Goes (into Detach t);
        places = written t.key t.other (with_status InHand) (written t.key t.at (with_next victim.next) ps);
      })) w.ruled n.1 in
      let d = did _ w _ l.1 in
      let longer : t.other < length (written t.key t.at (with_next other.next) ps) = simp length-set l.0 in
      let sees = next_seen ps ss m t.key t.other l.0 in
      Way.unlinks is d.0
      (d.1 ∙ sees_status t.key (written t.key t.at (with_next other.next) ps) ss m t.other longer InHand
      ∙ ap (status_put t.other InHand) (sees_next t.key ps ss m t.at n.0 other.next)
      ∙ ap (λ q. status_put t.other InHand (next_put t.at q (sight ps ss m))) sees)

  pub releases_victim_way : t.phase ≡ ReleaseVictim → Wrote (release_victim ps t) → It
  releases_victim_way is w =
      let n = needed t.key ps t.other (λ victim. Ok (record { outcome = Goes (into StrikeEnd t); places = released t.key t.other ps })) w.ruled w.tells in
      let d = did _ w _ n.1 in
      Way.releases_victim is d.0 (d.1 ∙ sees_lock t.key ps ss m t.other n.0 None)

  pub strike_ends_way : t.phase ≡ StrikeEnd → Wrote (strike_end ps t) → It
  strike_ends_way is w =
      let n = needed t.key ps t.at (λ x. needing t.key ps t.other (λ victim. Ok (record { outcome = Retires t.other; places = released t.key t.at ps }))) w.ruled w.tells in
      let l = needed t.key ps t.other (λ victim. Ok (record { outcome = Retires t.other; places = released t.key t.at ps })) w.ruled n.1 in
      let d = did _ w _ l.1 in
      Way.strike_ends is l.0 d.0 (d.1 ∙ sees_lock t.key ps ss m t.at n.0 None)

  -- ---- ATTACH and DETACH

  -- A guide's call that was not refused.
  told_ok : {A G : Type 0} (wrap : G → Damage) (r : Result A G) (a : A) → as_damage wrap r ≡ Ok a → r ≡ Ok a
  told_ok wrap (Ok b) a e = ap Ok (same_ok _ _ e)
  told_ok wrap (Err g) a e = never_ok (wrap g) a e

  not_refused : (b : Bool) (g : GuideRefusal) (x y : Meaning) → ◌≡◌ {A = Result Meaning GuideRefusal} (cond b (Err g) (Ok x)) (Ok y) → (b ≡ false) × (y ≡ x)
  not_refused true g x y e = never_ok g y e
  not_refused false g x y e = (refl, sym (same_ok x y e))

  pub attaches_way : t.phase ≡ Attach → (after : Meaning) → attach ps t m ≡ Ok after → o ≡ Goes (into ReleaseNew t) → s' ≡ guide_put after (sight ps ss m) → It
  attaches_way is after e oc se =
      let n = needed t.key ps t.other (λ new. as_damage Guide (attaching t.at t.other new.next m)) after e in
      let told = not_refused _ _ _ _ (told_ok Guide (attaching t.at t.other other.next m) after n.1) in
      let fresh = or_parts _ _ told.0 in
      let rest = or_parts _ _ fresh.1 in
      let sees = next_seen ps ss m t.key t.other n.0 in
      Way.attaches is fresh.0 (leb-false _ _ rest.0) (subst (λ q. neighbours t.at q m.sequence ≡ true) sees (not-false _ rest.1)) oc
      (se ∙ ap (λ g. guide_put g (sight ps ss m)) told.1)

  pub detaches_way : t.phase ≡ Detach → (after : Meaning) → detach t m ≡ Ok after → o ≡ Goes (into ReleaseVictim t) → s' ≡ guide_put after (sight ps ss m) → It
  detaches_way is after e oc se =
      let told = not_refused _ _ _ _ (told_ok Guide (detaching t.other m) after e) in
      let parts = or_parts _ _ told.0 in
      Way.detaches is (leb-false _ _ parts.0) (not-false _ parts.1) oc (se ∙ ap (λ g. guide_put g (sight ps ss m)) told.1)
