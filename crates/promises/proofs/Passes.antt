-- What an accepted step, a begin and a leave make of the places of the chain and of the struck places that wait for a work
-- under way, and which places come to the chain. Assumes the invariant.
use Rattle.std.proofs.Common.{◌≡◌, ℕ, ◌<◌, Bool, true, false, cond, not, ◌&&◌, eqb, ◌⊎◌, List, get_or, set, is_some, Some, None, Option, Ordering, sym, refl, ap, ◌∙◌, subst, inl, inr, arith}
use Rattle.std.proofs.lemmas.List.{get_or-set_other}
use Rattle.std.proofs.lemmas.Option.{slice_get-get_or}
use Rattle.std.proofs.lemmas.Bool.{true≢false, ne_eqb, cases_eq}
use Rattle.records.specs.declared.answer.Stepped.{Stepped}
use Rattle.records.specs.declared.outcome.Outcome.{Outcome}
use Rattle.records.specs.declared.outcome.Outcome.TheVariants.{Retires}
use Rattle.records.specs.declared.record.Phase.TheVariants.{StrikeEnd}
use Rattle.records.specs.declared.record.Status.{Status}
use Rattle.records.specs.declared.record.Status.TheVariants.{Free, InHand, Chained, Retired}
use Rattle.records.specs.declared.record.Task.{Task}
use Rattle.engine.specs.Settling.{most_stations, anyone, retired_for as rests, without_station}
use Rattle.promises.specs.Promised.{is_chained}
use Rattle.promises.proofs.Overs.{chained_still}
use Rattle.promises.proofs.Small.{anyone_of}
use Rattle.promises.proofs.Sights.{Sight, at_with, task_put}
use Rattle.promises.proofs.Settles.{Settling, Others, work_over, retire_put}
use Rattle.promises.proofs.Accepted.{Made}
use Rattle.promises.proofs.Invariant.{Inv, rung, is_handing, waits_for, chained}
use Rattle.promises.proofs.Touches.{Touch, is_retiring, way_touches}
use Rattle.promises.proofs.Keeps.{Off, Cut, FromOn, FromOff, Joins, at_other, at_same, rule_keeps_on, rule_keeps_off, rule_joins}

-- ---- the set of stations that a retired place waits for

rests_waits : (w : List Bool) (i : ℕ) → get_or w i false ≡ true → waits_for i (rests w) ≡ true
rests_waits w i h = ap (λ b. waits_for i (cond b (Retired w) Free)) (anyone_of w i h) ∙ h

rests_off : (w : List Bool) → is_chained (rests w) ≡ false
rests_off w = go (anyone w)
  where
    go : (b : Bool) → is_chained (cond b (Retired w) Free) ≡ false
    go true = refl
    go false = refl

without_waits : (i j : ℕ) → (i ≡ j → ⊥) → (x : Status) → waits_for i x ≡ true → waits_for i (without_station j x) ≡ true
without_waits i j apart Free h = h
without_waits i j apart InHand h = h
without_waits i j apart Chained h = h
without_waits i j apart (Retired w) h = rests_waits (set w j false) i (get_or-set_other w j i false false apart ∙ h)

pub over_chained : (awaited : Bool) (j : ℕ) (x : Status) → is_chained (cond awaited (without_station j x) x) ≡ is_chained x
over_chained true j x = chained_still j x
over_chained false j x = refl

over_waits : (awaited : Bool) (i j : ℕ) → (i ≡ j → ⊥) → (x : Status) → waits_for i x ≡ true → waits_for i (cond awaited (without_station j x) x) ≡ true
over_waits true i j apart x h = without_waits i j apart x h
over_waits false i j apart x h = h

some_not_none : {A P : Type 0} {x : Option A} → is_some x ≡ true → x ≡ None → P
some_not_none h e = absurd (true≢false (sym h ∙ ap is_some e))

module _ {K : Type 0} where
  -- A station that works after the work of station j is over is another one.
  over_apart : (f : ℕ → Option (Task K)) (i j : ℕ) → is_some (at_with f j None i) ≡ true → i ≡ j → ⊥
  over_apart f i j h e = some_not_none h (at_same f j None i (sym e))

  -- The places read the same but for their locks and statuses.
  pub record ReadsSame (s s' : Sight K) : Type 0 where
    pub spot : s'.spot ≡ s.spot
    pub next : s'.next ≡ s.next
    pub prev : s'.prev ≡ s.prev
    pub marked : s'.marked ≡ s.marked

  -- A change of statuses that leaves the chain, and those that wait for the work of station i.
  pub record SettlesFor (i : ℕ) (s s' : Sight K) : Type 0 where
    pub reads : ReadsSame s s'
    pub chain : (p : ℕ) → chained s' p ≡ chained s p
    pub waits : (p : ℕ) → waits_for i (s.status p) ≡ true → waits_for i (s'.status p) ≡ true

  pub settled_on : (i : ℕ) {s s' : Sight K} (p : ℕ) → SettlesFor i s s' → chained s p ≡ true → FromOn i s s' p
  settled_on i p e on = record { spot = ap (λ f. f p) e.reads.spot; mark = λ m. ap (λ f. f p) e.reads.marked ∙ m; fate = inl (e.chain p ∙ on) }

  pub settled_off : (i : ℕ) {s s' : Sight K} (p : ℕ) → SettlesFor i s s' → Off i s p → FromOff i s s' p
  settled_off i p e off = record {
    spot = ap (λ f. f p) e.reads.spot;
    next = ap (λ f. f p) e.reads.next;
    prev = ap (λ f. f p) e.reads.prev;
    off = record { marked = ap (λ f. f p) e.reads.marked ∙ off.marked; waits = e.waits p off.waits };
  }

  -- ---- one change after another

  fate_then : (i : ℕ) {s m s' : Sight K} (p : ℕ) → SettlesFor i m s' → (chained m p ≡ true) ⊎ Cut i s m p → (chained s' p ≡ true) ⊎ Cut i s s' p
  fate_then i p e (inl on) = inl (e.chain p ∙ on)
  fate_then i p e (inr cut) =
      let after = settled_off i p e cut.off in
      inr record { was_marked = cut.was_marked; next = after.next ∙ cut.next; prev = after.prev ∙ cut.prev; off = after.off }

  pub on_then : (i : ℕ) {s m s' : Sight K} (p : ℕ) → FromOn i s m p → SettlesFor i m s' → FromOn i s s' p
  on_then i p f e = record {
    spot = ap (λ g. g p) e.reads.spot ∙ f.spot;
    mark = λ m. ap (λ g. g p) e.reads.marked ∙ f.mark m;
    fate = fate_then i p e f.fate;
  }

  pub off_then : (i : ℕ) {s m s' : Sight K} (p : ℕ) → FromOff i s m p → SettlesFor i m s' → FromOff i s s' p
  off_then i p f e =
      let after = settled_off i p e f.off in
      record { spot = after.spot ∙ f.spot; next = after.next ∙ f.next; prev = after.prev ∙ f.prev; off = after.off }

  -- ---- the settling of a step, and the end of a work

  tasked_settles : (i j : ℕ) (x : Option (Task K)) (s : Sight K) → SettlesFor i s (task_put j x s)
  tasked_settles i j x s = record { reads = record { spot = refl; next = refl; prev = refl; marked = refl }; chain = λ p. refl; waits = λ p h. h }

  over_settles : (i j : ℕ) (awaited : Bool) (s : Sight K) → (i ≡ j → ⊥) → SettlesFor i s (work_over j awaited s)
  over_settles i j awaited s apart = record {
    reads = record { spot = refl; next = refl; prev = refl; marked = refl };
    chain = λ p. over_chained awaited j (s.status p);
    waits = λ p. over_waits awaited i j apart (s.status p);
  }

  -- A place in hand is retired and waits for every other work.
  pub retired_chain : (q : ℕ) (w : List Bool) (s : Sight K) → chained s q ≡ false → (p : ℕ) → is_chained (at_with s.status q (rests w) p) ≡ chained s p
  retired_chain q w s off p = go (cases_eq q p)
    where
      go : (q ≡ p) ⊎ (q ≡ p → ⊥) → is_chained (at_with s.status q (rests w) p) ≡ chained s p
      go (inl same) = ap is_chained (at_same s.status q (rests w) p same) ∙ rests_off w ∙ sym off ∙ ap (chained s) same
      go (inr other) = ap is_chained (at_other s.status q (rests w) p other)

  pub others_has : (i j : ℕ) (s : Sight K) (w : List Bool) → Others j s w → i < most_stations → (i ≡ j → ⊥) → is_some (s.task i) ≡ true → get_or w i false ≡ true
  others_has i j s w others h apart works = some_same (sym (slice_get-get_or w i false (omega (arith, others.many))) ∙ others.each i h ∙ ap (λ b. Some (not b && is_some (s.task i))) (ne_eqb i j apart) ∙ ap Some works)
    where
      some_same : {a b : Bool} → Some a ≡ Some b → a ≡ b
      some_same e = cc

  retired_waits : (i q : ℕ) (w : List Bool) (s : Sight K) → get_or w i false ≡ true → (p : ℕ) → waits_for i (s.status p) ≡ true → waits_for i (at_with s.status q (rests w) p) ≡ true
  retired_waits i q w s has p h = go (eqb q p)
    where
      go : (b : Bool) → waits_for i (cond b (rests w) (s.status p)) ≡ true
      go true = rests_waits w i has
      go false = h

  retires_settles : (i j q : ℕ) (w : List Bool) (s : Sight K) → Others j s w → i < most_stations → (i ≡ j → ⊥) → is_some (s.task i) ≡ true → chained s q ≡ false
      → SettlesFor i s (retire_put q (rests w) s)
  retires_settles i j q w s others h apart works off = record {
    reads = record { spot = refl; next = refl; prev = refl; marked = refl };
    chain = retired_chain q w s off;
    waits = retired_waits i q w s (others_has i j s w others h apart works);
  }

  pub settles_then : (i : ℕ) {s m s' : Sight K} → SettlesFor i s m → SettlesFor i m s' → SettlesFor i s s'
  settles_then i f e = record {
    reads = record { spot = e.reads.spot ∙ f.reads.spot; next = e.reads.next ∙ f.reads.next; prev = e.reads.prev ∙ f.reads.prev; marked = e.reads.marked ∙ f.reads.marked };
    chain = λ p. e.chain p ∙ f.chain p;
    waits = λ p h. e.waits p (f.waits p h);
  }

  pub settling_settles : (i j : ℕ) (s s' : Sight K) (t : Task K) (o : Outcome K) (a : Stepped K) → Settling s j t o a s' → i < most_stations → is_some (s.task i) ≡ true → is_some (s'.task i) ≡ true
      → ((q : ℕ) → o ≡ Retires q → chained s q ≡ false) → SettlesFor i s s'
  settling_settles i j s s' t o a (Settling.goes u oc ac e) h works works' off = subst (SettlesFor i s) (sym e) (tasked_settles i j _ s)
  settling_settles i j s s' t o a (Settling.waits oc ac e) h works works' off = subst (SettlesFor i s) (sym e) (tasked_settles i j _ s)
  settling_settles i j s s' t o a (Settling.ends x oc ac e) h works works' off =
      subst (SettlesFor i s) (sym e) (over_settles i j t.awaited s (over_apart s.task i j (sym (ap (λ z. is_some (z.task i)) e) ∙ works')))
  settling_settles i j s s' t o a (Settling.retires q oc ac w others e) h works works' off =
      let apart = over_apart (retire_put q (rests w) s).task i j (sym (ap (λ z. is_some (z.task i)) e) ∙ works') in
      subst (SettlesFor i s) (sym e)
      (settles_then i (retires_settles i j q w s others h apart works (off q oc)) (over_settles i j t.awaited (retire_put q (rests w) s) apart))

  pub touch_tasks : {s : Sight K} {t : Task K} {o : Outcome K} {s' : Sight K} → Touch s t o s' → s'.task ≡ s.task
  touch_tasks (Touch.stays calm same) = same.task
  touch_tasks (Touch.fills calm q is x hand e) = ap (λ z. z.task) e
  touch_tasks (Touch.joins calm f e) = ap (λ z. z.task) e
  touch_tasks (Touch.backs calm f q e) = ap (λ z. z.task) e
  touch_tasks (Touch.marks calm f e) = ap (λ z. z.task) e
  touch_tasks (Touch.cuts calm f e) = ap (λ z. z.task) e
  touch_tasks (Touch.hands_over f oc same) = same.task

  pub clash : {P : Type 0} {o : Outcome K} {q : ℕ} → is_retiring o ≡ false → o ≡ Retires q → P
  clash calm e = absurd (true≢false (sym (ap is_retiring e) ∙ calm))

  -- A place that is retired was in hand.
  touch_retires : {s : Sight K} {t : Task K} {o : Outcome K} {s' : Sight K} → Touch s t o s' → (t.phase ≡ StrikeEnd → s.status t.other ≡ InHand)
      → (q : ℕ) → o ≡ Retires q → s'.status q ≡ InHand
  touch_retires (Touch.stays calm same) hand q e = clash calm e
  touch_retires (Touch.fills calm p is x in_hand se) hand q e = clash calm e
  touch_retires (Touch.joins calm f se) hand q e = clash calm e
  touch_retires (Touch.backs calm f p se) hand q e = clash calm e
  touch_retires (Touch.marks calm f se) hand q e = clash calm e
  touch_retires (Touch.cuts calm f se) hand q e = clash calm e
  touch_retires {s} {t} (Touch.hands_over f oc same) hand q e =
      let other : t.other ≡ q = cc in
      ap (λ g. g q) same.status ∙ ap s.status (sym other) ∙ hand f

module _ {K : Type 0} (rank : K → K → Ordering) (s : Sight K) (inv : Inv rank s) (j : ℕ) (a : Stepped K) (s' : Sight K) (made : Made rank s j a s') where
  pub step_touches : Touch s made.task made.outcome made.mid
  step_touches = way_touches made.way

  pub retired_in_hand : (q : ℕ) → made.outcome ≡ Retires q → made.mid.status q ≡ InHand
  retired_in_hand q e =
      touch_retires step_touches (λ f. (inv.stands j made.task made.under_way).in_hand (ap (λ x. is_handing (rung x)) f)) q e

  -- Station i, one of the sixteen, has a work under way before and after.
  module _ (i : ℕ) (among : i < most_stations) (works : is_some (s.task i) ≡ true) (works' : is_some (s'.task i) ≡ true) where
    step_settles : SettlesFor i made.mid s'
    step_settles =
        settling_settles i j made.mid s' made.task made.outcome a made.settling among
        (ap (λ f. is_some (f i)) (touch_tasks step_touches) ∙ works) works' (λ q e. ap is_chained (retired_in_hand q e))

    -- A place of the chain stays there, or this step unlinks it.
    pub step_keeps_on : (p : ℕ) → chained s p ≡ true → FromOn i s s' p
    step_keeps_on p on = on_then i p (rule_keeps_on rank s inv made.task (inv.stands j made.task made.under_way) i p step_touches on) step_settles

    -- A struck place that waits for the work of i is left alone and does not become free.
    pub step_keeps_off : (p : ℕ) → Off i s p → FromOff i s s' p
    step_keeps_off p off = off_then i p (rule_keeps_off rank s inv made.task (inv.stands j made.task made.under_way) i p step_touches off) step_settles

  -- Only LINK brings a place to the chain.
  settling_chain : {m : Sight K} {t : Task K} {o : Outcome K} → Settling m j t o a s' → ((q : ℕ) → o ≡ Retires q → m.status q ≡ InHand) → (p : ℕ) → chained s' p ≡ chained m p
  settling_chain (Settling.goes u oc ac e) hand p = ap (λ z. chained z p) e
  settling_chain (Settling.waits oc ac e) hand p = ap (λ z. chained z p) e
  settling_chain {m} {t} (Settling.ends x oc ac e) hand p = ap (λ z. chained z p) e ∙ over_chained t.awaited j (m.status p)
  settling_chain {m} {t} (Settling.retires q oc ac w others e) hand p =
      ap (λ z. chained z p) e ∙ over_chained t.awaited j (at_with m.status q (rests w) p) ∙ retired_chain q w m (ap is_chained (hand q oc)) p

  pub step_joins : (p : ℕ) → chained s' p ≡ true → (chained s p ≡ true) ⊎ Joins s made.task p
  step_joins p on =
      rule_joins rank s inv made.task (inv.stands j made.task made.under_way) p step_touches (sym (settling_chain made.settling retired_in_hand p) ∙ on)

module _ {K : Type 0} where
  -- A begin changes no place; a leave lets go only its own station.
  pub begin_settles : (i j : ℕ) (x : Option (Task K)) (s s' : Sight K) → s' ≡ task_put j x s → SettlesFor i s s'
  begin_settles i j x s s' e = subst (SettlesFor i s) (sym e) (tasked_settles i j x s)

  pub leave_settles : (i j : ℕ) (awaited : Bool) (s s' : Sight K) → s' ≡ work_over j awaited s → is_some (s'.task i) ≡ true → SettlesFor i s s'
  leave_settles i j awaited s s' e works' =
      subst (SettlesFor i s) (sym e) (over_settles i j awaited s (over_apart s.task i j (sym (ap (λ z. is_some (z.task i)) e) ∙ works')))
