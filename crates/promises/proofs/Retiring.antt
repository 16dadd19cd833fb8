-- That a strike's end keeps the invariant where no place waits for its work. Assumes the laws.
use Rattle.std.proofs.Common.{◌≡◌, ℕ, ◌<◌, ◌≤◌, Bool, true, false, cond, not, ◌&&◌, ◌||◌, eqb, List, get_or, is_some, Some, None, Option, Ordering, sym, refl, ap, ◌∙◌, subst, inl, inr, arith}
use Rattle.std.proofs.lemmas.Bool.{eqb-true, eq-eqb, ne_eqb, or_left, or_right, and_parts, and_from, cases_eq, cases_lt}
use Rattle.guides.specs.Meaning.{low, high, has}
use Rattle.records.specs.declared.record.Phase.TheVariants.{StrikeEnd}
use Rattle.records.specs.declared.record.Status.{Status}
use Rattle.records.specs.declared.record.Status.TheVariants.{Free, InHand, Retired}
use Rattle.records.specs.declared.record.Task.{Task}
use Rattle.engine.specs.Calling.{locked_by}
use Rattle.promises.specs.Promised.{is_chained}
use Rattle.promises.proofs.Small.{anyone_of}
use Rattle.promises.proofs.Laws.{Laws}
use Rattle.promises.proofs.Sights.{Sight, at_with}
use Rattle.promises.proofs.Invariant.{rung, group, fits, holds_at, holds_other, is_placed, is_marked, is_lagging, is_hiding, is_detaching, is_striking, is_handing, holds, other_in, is_awaited, holder_in, chained, seen_by, Stands, Inv}
use Rattle.promises.proofs.Retasks.{at_with_both}
use Rattle.promises.proofs.Sees.{never, holds_own_at, at_not_high}
use Rattle.promises.proofs.Relocks.{just}
use Rattle.promises.proofs.Invariant.{waits_for}
use Rattle.promises.proofs.Preds.{at_with_other, at_with_same}
use Rattle.std.proofs.lemmas.List.{get_or_past}
use Rattle.std.proofs.lemmas.Option.{slice_get-get_or}
use Rattle.engine.specs.Settling.{most_stations, anyone, retired_for as rests, awaiting_task, with_await}
use Rattle.promises.proofs.Settles.{Others}

-- A sight with another status of one place, another lock of one, and every other work awaited.
abbrev pub retired_by : {K : Type 0} → ℕ → ℕ → ℕ → Status → Sight K → Sight K
retired_by me b x y s = record {
  size = s.size;
  spot = s.spot;
  next = s.next;
  prev = s.prev;
  marked = s.marked;
  lock = at_with s.lock b None;
  status = at_with s.status x y;
  task = at_with (λ i. awaiting_task (s.task i)) me None;
  guide = s.guide;
}

module _ {K : Type 0} where
  holds_awaiting : (a : Option (Task K)) (p : ℕ) → holds (awaiting_task a) p ≡ holds a p
  holds_awaiting None p = refl
  holds_awaiting (Some t) p = refl

  other_awaiting : (f : ℕ → Bool) (a : Option (Task K)) (p : ℕ) → other_in f (awaiting_task a) p ≡ other_in f a p
  other_awaiting f None p = refl
  other_awaiting f (Some t) p = refl

  awaited_some : (a : Option (Task K)) → is_some a ≡ true → is_awaited (awaiting_task a) ≡ true
  awaited_some None h = never (sym h)
  awaited_some (Some t) h = refl

  some_awaited : (a : Option (Task K)) → is_awaited a ≡ true → is_some a ≡ true
  some_awaited None h = never (sym h)
  some_awaited (Some t) h = refl

  -- The task that awaits is one that was there.
  pub record WasTask (a : Option (Task K)) (w : Task K) : Type 0 where
    pub task : Task K
    pub is : a ≡ Some task
    pub now : with_await task ≡ w

  was_task : (a : Option (Task K)) (w : Task K) → awaiting_task a ≡ Some w → WasTask a w
  was_task None w h = let z : ◌≡◌ {A = ℕ} 0 1 = cc in absurd (omega arith)
  was_task (Some t) w h = record { task = t; is = refl; now = just (with_await t) w h }

  -- The stations for which a retired place waits.
  pub waits_when : (me : ℕ) (s : Sight K) (w : List Bool) → Others me s w → (j : ℕ) → get_or w j false ≡ true → (me ≡ j → ⊥) × (is_some (s.task j) ≡ true)
  waits_when me s w o j h = elim (cases_lt j most_stations) [
    | inl less ↦ let both = and_parts (not (eqb j me)) (is_some (s.task j)) (sym (value less) ∙ h) in ((λ same. never (sym both.0 ∙ ap not (eq-eqb j me (sym same)))), both.1)
    | inr past ↦ never (sym h ∙ get_or_past w j false (subst (λ k. k ≤ j) (sym o.many) past))
  ]
    where
      value : j < most_stations → get_or w j false ≡ (not (eqb j me) && is_some (s.task j))
      value less = just _ _ (sym (slice_get-get_or w j false (subst (λ k. j < k) (sym o.many) less)) ∙ o.each j less)

  waits_since : (me : ℕ) (s : Sight K) (w : List Bool) → Others me s w → (j : ℕ) → j < most_stations → (me ≡ j → ⊥) → is_some (s.task j) ≡ true → get_or w j false ≡ true
  waits_since me s w o j less d h =
      just _ _ (sym (slice_get-get_or w j false (subst (λ k. j < k) (sym o.many) less)) ∙ o.each j less)
      ∙ and_from (not (eqb j me)) _ (ap not (ne_eqb j me (λ same. d (sym same)))) h

rests_some : (w : List Bool) → anyone w ≡ true → rests w ≡ Retired w
rests_some w h = ap (λ c. cond c (Retired w) Free) h

pub record RestsAs (w v : List Bool) : Type 0 where
  pub same : v ≡ w
  pub some : anyone w ≡ true

rests_as : (w v : List Bool) → rests w ≡ Retired v → RestsAs w v
rests_as w v h = go (anyone w) refl h
  where
    go : (c : Bool) → anyone w ≡ c → cond c (Retired w) Free ≡ Retired v → RestsAs w v
    go true e h = record { same = cc; some = e }
    go false e h = let z : ◌≡◌ {A = ℕ} 0 1 = cc in absurd (omega arith)

rests_unchained : (w : List Bool) → is_chained (rests w) ≡ false
rests_unchained w = go (anyone w)
  where
    go : (c : Bool) → is_chained (cond c (Retired w) Free) ≡ false
    go true = refl
    go false = refl

rests_not_in_hand : (w : List Bool) → rests w ≡ InHand → ⊥
rests_not_in_hand w h = go (anyone w) h
  where
    go : (c : Bool) → cond c (Retired w) Free ≡ InHand → ⊥
    go true h = let z : ◌≡◌ {A = ℕ} 0 1 = cc in omega arith
    go false h = let z : ◌≡◌ {A = ℕ} 0 1 = cc in omega arith

module _ {K : Type 0} (rank : K → K → Ordering) (laws : Laws rank) (s : Sight K) (inv : Inv rank s) (me : ℕ) (t : Task K) (is_task : s.task me ≡ Some t) (e : t.phase ≡ StrikeEnd)
    (within : t.other < s.size) (stationed : (j : ℕ) → is_some (s.task j) ≡ true → j < most_stations)
    (unawaited : (p : ℕ) (v : List Bool) → s.status p ≡ Retired v → get_or v me false ≡ true → ⊥) (w : List Bool) (others : Others me s w) where
  st : Stands rank s.spot s.next s.prev s.marked s.status t
  st = inv.stands me t is_task

  by : (f : ℕ → Bool) → f 14 ≡ true → f (rung t.phase) ≡ true
  by f h = ap (λ x. f (rung x)) e ∙ h

  abbrev b : ℕ
  b = t.at

  abbrev x : ℕ
  x = t.other

  x_in_hand : s.status x ≡ InHand
  x_in_hand = st.in_hand (by is_handing refl)

  x_marked : s.marked x ≡ true
  x_marked = st.other_marked (by is_marked refl)

  b_chained : chained s b ≡ true
  b_chained = st.at_chained (by is_placed refl)

  b_not_high : b ≡ high → ⊥
  b_not_high = at_not_high rank laws s inv me t is_task (by is_placed refl)

  lock_b : s.lock b ≡ Some me
  lock_b = holds_own_at rank laws s inv me t is_task (by holds_at refl)

  abbrev status' : ℕ → Status
  status' = at_with s.status x (rests w)

  abbrev lock' : ℕ → Option ℕ
  lock' = at_with s.lock b None

  abbrev task' : ℕ → Option (Task K)
  task' = at_with (λ i. awaiting_task (s.task i)) me None

  status_else : (p : ℕ) → (x ≡ p → ⊥) → status' p ≡ s.status p
  status_else p d = at_with_other s.status x p (rests w) d

  x_now : status' x ≡ rests w
  x_now = at_with_same s.status x (rests w)

  same_chain : (p : ℕ) → is_chained (status' p) ≡ chained s p
  same_chain p = at_with_both s.status x p (rests w) (λ y. is_chained y ≡ chained s p)
      (λ same. rests_unchained w ∙ sym (ap (chained s) (sym same) ∙ ap is_chained x_in_hand)) (λ _. refl)

  chained_other : (p : ℕ) → chained s p ≡ true → x ≡ p → ⊥
  chained_other p c same = never (sym c ∙ ap (chained s) (sym same) ∙ ap is_chained x_in_hand)

  -- Whoever works elsewhere sees what it saw.
  seen' : (i p : ℕ) → (me ≡ i → ⊥) → is_some (s.task i) ≡ true → seen_by s i p ≡ true → (is_chained (status' p) || (s.marked p && waits_for i (status' p))) ≡ true
  seen' i p d works h = elim (cases_eq x p) [
    | inl same ↦ subst (λ q. (is_chained (status' q) || (s.marked q && waits_for i (status' q))) ≡ true) same
        (or_right (is_chained (status' x)) _ (and_from _ _ x_marked (ap (waits_for i) (x_now ∙ rests_some w (anyone_of w i waits)) ∙ waits)))
    | inr k ↦ ap (λ y. is_chained y || (s.marked p && waits_for i y)) (status_else p k) ∙ h
  ]
    where
      waits : get_or w i false ≡ true
      waits = waits_since me s w others i (stationed i works) d works

  -- A work that is there now was there before, elsewhere.
  now : (i : ℕ) (v : Task K) → task' i ≡ Some v → (me ≡ i → ⊥) × WasTask (s.task i) v
  now i v = at_with_both (λ i. awaiting_task (s.task i)) me i None (λ y. y ≡ Some v → (me ≡ i → ⊥) × WasTask (s.task i) v)
      (λ _ h. let z : ◌≡◌ {A = ℕ} 0 1 = cc in absurd (omega arith)) (λ d h. (d, was_task (s.task i) v h))

  fails : (f : ℕ → Bool) → f 14 ≡ false → (i p : ℕ) → other_in f (task' i) p ≡ other_in f (s.task i) p
  fails f h i p = at_with_both (λ i. awaiting_task (s.task i)) me i None (λ y. other_in f y p ≡ other_in f (s.task i) p)
      (λ same. sym (ap (λ j. other_in f (s.task j) p) (sym same) ∙ ap (λ y. other_in f y p) is_task ∙ ap (λ y. f (rung y) && eqb x p) e ∙ ap (λ c. c && eqb x p) h))
      (λ _. other_awaiting f (s.task i) p)

  holder' : (f : ℕ → Bool) → f 14 ≡ false → (p : ℕ) → holder_in f task' (lock' p) p ≡ holder_in f s.task (s.lock p) p
  holder' f h p = at_with_both s.lock b p None (λ l. holder_in f task' l p ≡ holder_in f s.task (s.lock p) p)
      (λ same. sym (ap (λ l. holder_in f s.task l p) (ap s.lock (sym same) ∙ lock_b) ∙ ap (λ y. other_in f y p) is_task ∙ ap (λ y. f (rung y) && eqb x p) e ∙ ap (λ c. c && eqb x p) h))
      (λ _. go (s.lock p))
    where
      go : (l : Option ℕ) → holder_in f task' l p ≡ holder_in f s.task l p
      go None = refl
      go (Some i) = fails f h i p

  locks' : (i p : ℕ) → locked_by i (lock' p) ≡ holds (task' i) p
  locks' i p =
      let old = inv.locks i p in
      at_with_both (λ i. awaiting_task (s.task i)) me i None (λ y. locked_by i (lock' p) ≡ holds y p)
      (λ same. at_with_both s.lock b p None (λ l. locked_by i l ≡ false) (λ _. refl)
      (λ d. old ∙ ap (λ j. holds (s.task j) p) (sym same) ∙ ap (λ y. holds y p) is_task
      ∙ ap (λ y. (holds_at (rung y) && eqb b p) || (holds_other (rung y) && eqb x p)) e ∙ ap (λ c. c || false) (ne_eqb b p d)))
      (λ d. at_with_both s.lock b p None (λ l. locked_by i l ≡ holds (awaiting_task (s.task i)) p)
      (λ same. sym (holds_awaiting (s.task i) p ∙ sym old ∙ ap (locked_by i) (ap s.lock (sym same) ∙ lock_b) ∙ ne_eqb me i d))
      (λ _. old ∙ sym (holds_awaiting (s.task i) p)))

  hand_now : (i p : ℕ) → other_in is_handing (task' i) p ≡ true → (me ≡ i → ⊥) × (other_in is_handing (s.task i) p ≡ true)
  hand_now i p = at_with_both (λ i. awaiting_task (s.task i)) me i None (λ y. other_in is_handing y p ≡ true → (me ≡ i → ⊥) × (other_in is_handing (s.task i) p ≡ true))
      (λ _ h. never (sym h)) (λ d h. (d, sym (other_awaiting is_handing (s.task i) p) ∙ h))

  stands' : (i : ℕ) (v : Task K) → (me ≡ i → ⊥) → s.task i ≡ Some v → Stands rank s.spot s.next s.prev s.marked status' (with_await v)
  stands' i v d is = let y = inv.stands i v is in record {
    at_chained = λ h. same_chain v.at ∙ y.at_chained h;
    at_unmarked = y.at_unmarked;
    at_below = y.at_below;
    next_above = y.next_above;
    next_keyed = y.next_keyed;
    joined = y.joined;
    keyed = y.keyed;
    other_marked = y.other_marked;
    spared = y.spared;
    in_hand = λ h. status_else v.other (λ same. d (inv.hands_apart me i x
        (ap (λ a. other_in is_handing a x) is_task ∙ and_from _ _ (by is_handing refl) (eq-eqb x x refl))
        (ap (λ a. other_in is_handing a x) is ∙ and_from _ _ h (eq-eqb v.other x (sym same))))) ∙ y.in_hand h;
    in_hand_next = y.in_hand_next;
    in_hand_prev = y.in_hand_prev;
  }

  -- What waits for whom.
  pub data Waiting (p i : ℕ) : Type 0 where
    here : x ≡ p → Waiting p i
    before_it : (v : List Bool) → s.status p ≡ Retired v → get_or v i false ≡ true → Waiting p i

  waiting : (p : ℕ) (v : List Bool) → status' p ≡ Retired v → (i : ℕ) → get_or v i false ≡ true → (me ≡ i → ⊥) × (is_some (s.task i) ≡ true) × Waiting p i
  waiting p v r i h = elim (cases_eq x p) [
    | inl same ↦
        let k = rests_as w v (sym x_now ∙ ap status' same ∙ r) in
        let o = waits_when me s w others i (ap (λ l. get_or l i false) (sym k.same) ∙ h) in
        (o.0, o.1, here same)
    | inr d ↦
        let q = sym (status_else p d) ∙ r in
        ((λ mine. unawaited p v q (ap (λ j. get_or v j false) mine ∙ h)), some_awaited (s.task i) (inv.awaits p v q i h), before_it v q h)
  ]

  awaited' : (i : ℕ) → (me ≡ i → ⊥) → is_some (s.task i) ≡ true → is_awaited (task' i) ≡ true
  awaited' i d works = at_with_both (λ i. awaiting_task (s.task i)) me i None (λ y. is_awaited y ≡ true) (λ same. absurd (d same)) (λ _. awaited_some (s.task i) works)

  near_seen : (i p q : ℕ) → s.next x ≡ q → (is_chained (status' q) || (s.marked q && waits_for i (status' q))) ≡ true
  near_seen i p q same =
      or_left (is_chained (status' q)) _ (same_chain q ∙ ap (chained s) (sym same ∙ st.in_hand_next (by is_handing refl)) ∙ inv.leads b b_chained b_not_high)

  pub retire_keeps : Inv rank (retired_by me b x (rests w) s)
  retire_keeps = record {
    two = inv.two;
    beyond = λ p h. status_else p (λ same. clash p h same) ∙ inv.beyond p h;
    guide_size = inv.guide_size;
    low_spot = inv.low_spot;
    high_spot = inv.high_spot;
    low_chained = status_else low (chained_other low (ap is_chained inv.low_chained)) ∙ inv.low_chained;
    high_chained = status_else high (chained_other high (ap is_chained inv.high_chained)) ∙ inv.high_chained;
    low_unmarked = inv.low_unmarked;
    high_unmarked = inv.high_unmarked;
    leads = λ p c h. same_chain (s.next p) ∙ inv.leads p (sym (same_chain p) ∙ c) h;
    rises = λ p c h. inv.rises p (sym (same_chain p) ∙ c) h;
    gap = λ p q c d h. inv.gap p q (sym (same_chain p) ∙ c) (sym (same_chain q) ∙ d) h;
    apart = λ p q c d. inv.apart p q (sym (same_chain p) ∙ c) (sym (same_chain q) ∙ d);
    follows = λ p c h. let f = inv.follows p (sym (same_chain p) ∙ c) h in (f.0, same_chain f.0 ∙ f.1, f.2, f.3);
    backs = λ p c h. inv.backs p (sym (same_chain p) ∙ c) h ∙ ap (λ y. cond y (s.prev p) p) (sym (holder' is_lagging refl p));
    locks = locks';
    fit = λ i v k. let o = now i v k in ap (λ y. fits y.work (group y.phase)) (sym o.1.now) ∙ inv.fit i o.1.task o.1.is;
    seen = λ i v k. let o = now i v k in
        seen' i v.at o.0 (ap is_some o.1.is) (ap (λ y. seen_by s i y.at) (sym o.1.now) ∙ inv.seen i o.1.task o.1.is);
    stands = λ i v k. let o = now i v k in
        subst (Stands rank s.spot s.next s.prev s.marked status') o.1.now (stands' i o.1.task o.0 o.1.is);
    marks = λ p c m. let has = inv.marks p (sym (same_chain p) ∙ c) m in (has.0, fails is_striking refl has.0 p ∙ has.1);
    hands = λ p h. elim (cases_eq x p) [
      | inl same ↦ absurd (rests_not_in_hand w (sym x_now ∙ ap status' same ∙ h))
      | inr d ↦ hand p d (inv.hands p (sym (status_else p d) ∙ h))
    ];
    hands_apart = λ i j p y z. inv.hands_apart i j p (hand_now i p y).1 (hand_now j p z).1;
    rests = λ p v r. elim (cases_eq x p) [
      | inl same ↦ let k = rests_as w v (sym x_now ∙ ap status' same ∙ r) in (ap s.marked (sym same) ∙ x_marked, ap anyone k.same ∙ k.some)
      | inr d ↦ inv.rests p v (sym (status_else p d) ∙ r)
    ];
    awaits = λ p v r i h. let o = waiting p v r i h in awaited' i o.0 o.1;
    next_seen = λ p v r i h. let o = waiting p v r i h in after i p o.0 o.1 o.2;
    prev_seen = λ p v r i h. let o = waiting p v r i h in ahead i p o.0 o.1 o.2;
    guide_rises = inv.guide_rises;
    guide_shows = λ p. inv.guide_shows p
        ∙ ap (λ c. (c && not (holder_in is_hiding s.task (s.lock p) p)) || holder_in is_detaching s.task (s.lock p) p) (sym (same_chain p))
        ∙ ap (λ y. (is_chained (status' p) && not y) || holder_in is_detaching s.task (s.lock p) p) (sym (holder' is_hiding refl p))
        ∙ ap (λ y. (is_chained (status' p) && not (holder_in is_hiding task' (lock' p) p)) || y) (sym (holder' is_detaching refl p));
  }
    where
      clash : (p : ℕ) → s.size ≤ p → x ≡ p → ⊥
      clash p h same = omega arith

      hand : (p : ℕ) → (x ≡ p → ⊥) → (i : ℕ) × (other_in is_handing (s.task i) p ≡ true) → (i : ℕ) × (other_in is_handing (task' i) p ≡ true)
      hand p d has = (
        has.0,
        at_with_both (λ i. awaiting_task (s.task i)) me has.0 None (λ y. other_in is_handing y p ≡ true)
            (λ same. absurd (d (eqb-true x p (and_parts (is_handing (rung t.phase)) (eqb x p) (ap (λ y. other_in is_handing y p) (sym is_task) ∙ ap (λ j. other_in is_handing (s.task j) p) same ∙ has.1)).1)))
            (λ _. other_awaiting is_handing (s.task has.0) p ∙ has.1),
      )

      after : (i p : ℕ) → (me ≡ i → ⊥) → is_some (s.task i) ≡ true → Waiting p i → (is_chained (status' (s.next p)) || (s.marked (s.next p) && waits_for i (status' (s.next p)))) ≡ true
      after i p d works (here same) = near_seen i p (s.next p) (ap s.next same)
      after i p d works (before_it v r h) = seen' i (s.next p) d works (inv.next_seen p v r i h)

      ahead : (i p : ℕ) → (me ≡ i → ⊥) → is_some (s.task i) ≡ true → Waiting p i → (is_chained (status' (s.prev p)) || (s.marked (s.prev p) && waits_for i (status' (s.prev p)))) ≡ true
      ahead i p d works (here same) =
          or_left (is_chained (status' (s.prev p))) _ (same_chain (s.prev p) ∙ ap (chained s) (ap s.prev (sym same) ∙ st.in_hand_prev (by is_handing refl)) ∙ b_chained)
      ahead i p d works (before_it v r h) = seen' i (s.prev p) d works (inv.prev_seen p v r i h)
