-- That STRIKE-END keeps the invariant: first no place waits for its work any longer, then its victim is retired. Assumes the laws.
use Rattle.std.proofs.Common.{◌≡◌, ℕ, ◌<◌, Bool, true, false, cond, not, ◌&&◌, ◌||◌, eqb, List, get_or, set, is_some, Some, None, Ordering, sym, refl, ap, ◌∙◌, subst, inl, inr}
use Rattle.std.proofs.lemmas.Bool.{or_left, cases_eq}
use Rattle.records.specs.declared.record.Phase.TheVariants.{StrikeEnd}
use Rattle.records.specs.declared.record.Status.TheVariants.{Free, Retired}
use Rattle.records.specs.declared.record.Task.{Task}
use Rattle.promises.specs.Promised.{is_chained}
use Rattle.promises.proofs.Laws.{Laws}
use Rattle.records.specs.declared.outcome.Outcome.{Outcome}
use Rattle.records.specs.declared.outcome.Outcome.TheVariants.{Retires}
use Rattle.promises.proofs.Sights.{Sight, lock_put}
use Rattle.promises.proofs.Invariant.{rung, is_placed, is_hiding, is_detaching, is_awaited, holder_in, chained, seen_by, Inv}
use Rattle.promises.proofs.Sees.{never}
use Rattle.promises.proofs.Walking.{Kept}
use Rattle.promises.proofs.Relocks.{just}
use Rattle.promises.proofs.Invariant.{waits_for}
use Rattle.std.proofs.lemmas.List.{get_or-set_other, set-get_or}
use Rattle.engine.specs.Settling.{most_stations, anyone, retired_for as rests, without_station}
use Rattle.promises.proofs.Writes.{alike}
use Rattle.promises.proofs.Settles.{Others, work_over, retire_put}
use Rattle.promises.proofs.Overs.{cleared, chained_still, in_hand_before, retired_before, waits_still}
use Rattle.promises.proofs.Retiring.{retired_by, waits_when, retire_keeps}

-- A sight in which no place waits for station i.
abbrev pub quieted : {K : Type 0} → ℕ → Sight K → Sight K
quieted i s = record {
  size = s.size;
  spot = s.spot;
  next = s.next;
  prev = s.prev;
  marked = s.marked;
  lock = s.lock;
  status = λ p. without_station i (s.status p);
  task = s.task;
  guide = s.guide;
}

module _ {K : Type 0} (rank : K → K → Ordering) (s : Sight K) (inv : Inv rank s) (me : ℕ) where
  same_chain : (p : ℕ) → is_chained (without_station me (s.status p)) ≡ chained s p
  same_chain p = chained_still me (s.status p)

  seen_still : (i p : ℕ) → (i ≡ me → ⊥) → seen_by s i p ≡ true → seen_by (quieted me s) i p ≡ true
  seen_still i p differ h =
      ap (λ c. c || (s.marked p && waits_for i (without_station me (s.status p)))) (same_chain p)
      ∙ ap (λ c. chained s p || (s.marked p && c)) (waits_still me i (s.status p) differ) ∙ h

  -- No place waits for this station, and whom it waits for it waited for before.
  pub quiet : (p : ℕ) (w : List Bool) → without_station me (s.status p) ≡ Retired w → get_or w me false ≡ true → ⊥
  quiet p w r g = let was = retired_before me (s.status p) w r in never (sym g ∙ ap (λ v. get_or v me false) was.left ∙ cleared was.waits me)

  still : (p : ℕ) (w : List Bool) → without_station me (s.status p) ≡ Retired w → (i : ℕ) → get_or w i false ≡ true
      → (i ≡ me → ⊥) × ((v : List Bool) × (s.status p ≡ Retired v) × (get_or v i false ≡ true))
  still p w r i g =
      let was = retired_before me (s.status p) w r in
      let differ : i ≡ me → ⊥ = λ same. quiet p w r (ap (λ j. get_or w j false) (sym same) ∙ g) in
      (differ, (was.waits, was.was, sym (get_or-set_other was.waits me i false false differ) ∙ ap (λ v. get_or v i false) (sym was.left) ∙ g))

  pub quieted_keeps : ((v : Task K) → s.task me ≡ Some v → chained s v.at ≡ true) → Inv rank (quieted me s)
  quieted_keeps on_chain = record {
    two = inv.two;
    beyond = λ p h. ap (without_station me) (inv.beyond p h);
    guide_size = inv.guide_size;
    low_spot = inv.low_spot;
    high_spot = inv.high_spot;
    low_chained = ap (without_station me) inv.low_chained;
    high_chained = ap (without_station me) inv.high_chained;
    low_unmarked = inv.low_unmarked;
    high_unmarked = inv.high_unmarked;
    leads = λ p c h. same_chain (s.next p) ∙ inv.leads p (sym (same_chain p) ∙ c) h;
    rises = λ p c h. inv.rises p (sym (same_chain p) ∙ c) h;
    gap = λ p q c d h. inv.gap p q (sym (same_chain p) ∙ c) (sym (same_chain q) ∙ d) h;
    apart = λ p q c d. inv.apart p q (sym (same_chain p) ∙ c) (sym (same_chain q) ∙ d);
    follows = λ p c h. let f = inv.follows p (sym (same_chain p) ∙ c) h in (f.0, same_chain f.0 ∙ f.1, f.2, f.3);
    backs = λ p c h. inv.backs p (sym (same_chain p) ∙ c) h;
    locks = inv.locks;
    fit = inv.fit;
    seen = λ i t k. elim (cases_eq i me) [
      | inl same ↦ or_left (is_chained (without_station me (s.status t.at))) _ (same_chain t.at ∙ on_chain t (ap s.task (sym same) ∙ k))
      | inr d ↦ seen_still i t.at d (inv.seen i t k)
    ];
    stands = λ i t k. let y = inv.stands i t k in record {
      at_chained = λ h. same_chain t.at ∙ y.at_chained h;
      at_unmarked = y.at_unmarked;
      at_below = y.at_below;
      next_above = y.next_above;
      next_keyed = y.next_keyed;
      joined = y.joined;
      keyed = y.keyed;
      other_marked = y.other_marked;
      spared = y.spared;
      in_hand = λ h. ap (without_station me) (y.in_hand h);
      in_hand_next = y.in_hand_next;
      in_hand_prev = y.in_hand_prev;
    };
    marks = λ p c m. inv.marks p (sym (same_chain p) ∙ c) m;
    hands = λ p h. inv.hands p (in_hand_before me (s.status p) h);
    hands_apart = inv.hands_apart;
    rests = λ p w r. let was = retired_before me (s.status p) w r in ((inv.rests p was.waits was.was).0, was.some);
    awaits = λ p w r i g. let k = still p w r i g in inv.awaits p k.1.0 k.1.1 i k.1.2;
    next_seen = λ p w r i g. let k = still p w r i g in seen_still i (s.next p) k.0 (inv.next_seen p k.1.0 k.1.1 i k.1.2);
    prev_seen = λ p w r i g. let k = still p w r i g in seen_still i (s.prev p) k.0 (inv.prev_seen p k.1.0 k.1.1 i k.1.2);
    guide_rises = inv.guide_rises;
    guide_shows = λ p. inv.guide_shows p
        ∙ ap (λ c. (c && not (holder_in is_hiding s.task (s.lock p) p)) || holder_in is_detaching s.task (s.lock p) p) (sym (same_chain p));
  }

-- A set that this station is not in stays when it is let go.
rests_still : (i : ℕ) (w : List Bool) → get_or w i false ≡ false → without_station i (rests w) ≡ rests w
rests_still i w h = go (anyone w) refl
  where
    same : set w i false ≡ w
    same = ap (set w i) (sym h) ∙ set-get_or w i false

    go : (c : Bool) → anyone w ≡ c → without_station i (cond c (Retired w) Free) ≡ cond c (Retired w) Free
    go true e = ap rests same ∙ ap (λ c. cond c (Retired w) Free) e
    go false e = refl

module _ {K : Type 0} (rank : K → K → Ordering) (laws : Laws rank) (s : Sight K) (inv : Inv rank s) (me : ℕ) (t : Task K) (is_task : s.task me ≡ Some t)
    (stationed : (j : ℕ) → is_some (s.task j) ≡ true → j < most_stations) (o : Outcome K) (mid : Sight K) where
  pub keeps_strike_ends : t.phase ≡ StrikeEnd → t.other < s.size → o ≡ Retires t.other → mid ≡ lock_put t.at None s → Kept rank me t o mid
  keeps_strike_ends e within oc se =
      Kept.retires t.other oc (λ w others. subst (λ m. Inv rank (work_over me t.awaited (retire_put t.other (rests w) m))) (sym se)
      (over w (own w (subst (λ m. Others me m w) se others)) t.awaited refl))
    where
      own : (w : List Bool) → Others me (lock_put t.at None s) w → Others me s w
      own w others = record { many = others.many; each = others.each }

      placed : (v : Task K) → s.task me ≡ Some v → chained s v.at ≡ true
      placed v is = (inv.stands me v is).at_chained (ap (λ y. is_placed (rung y.phase)) (just v t (sym is ∙ is_task)) ∙ ap (λ y. is_placed (rung y)) e)

      not_me : (w : List Bool) → Others me s w → (c : Bool) → get_or w me false ≡ c → c ≡ false
      not_me w others false h = refl
      not_me w others true h = absurd ((waits_when me s w others me h).0 refl)

      over : (w : List Bool) → Others me s w → (a : Bool) → t.awaited ≡ a → Inv rank (work_over me a (retire_put t.other (rests w) (lock_put t.at None s)))
      over w others false aw =
          retire_keeps rank laws s inv me t is_task e within stationed (λ p v r g. never (sym (inv.awaits p v r me g) ∙ ap is_awaited is_task ∙ aw)) w others
      over w others true aw =
          subst (Inv rank) same
          (retire_keeps rank laws (quieted me s) (quieted_keeps rank s inv me placed) me t is_task e within stationed (quiet rank s inv me) w (record { many = others.many; each = others.each }))
        where
          same : retired_by me t.at t.other (rests w) (quieted me s) ≡ work_over me true (retire_put t.other (rests w) (lock_put t.at None s))
          same = alike _ _ record {
            size = refl;
            spot = λ p. refl;
            next = λ p. refl;
            prev = λ p. refl;
            marked = λ p. refl;
            lock = λ p. refl;
            task = λ i. refl;
            guide = refl;
            status = λ p. go p (eqb t.other p);
          }
            where
              go : (p : ℕ) (c : Bool) → cond c (rests w) (without_station me (s.status p)) ≡ without_station me (cond c (rests w) (s.status p))
              go p true = sym (rests_still me w (not_me w others (get_or w me false) refl))
              go p false = refl
