-- What a rule leaves alone: places of the chain, and places that were struck and wait for a work. Assumes the invariant.
use Rattle.std.proofs.Common.{◌≡◌, ℕ, Bool, true, false, cond, eqb, leb, ◌⊎◌, Ordering, sym, refl, ap, ◌∙◌, subst, inl, inr, arith}
use Rattle.std.proofs.lemmas.Bool.{true≢false, eq-eqb, ne_eqb, cond-true, cond-false, cases_eq}
use Rattle.guides.specs.Meaning.{high}
use Rattle.records.specs.declared.outcome.Outcome.{Outcome}
use Rattle.records.specs.declared.record.Phase.{Phase}
use Rattle.records.specs.declared.record.Phase.TheVariants.{Link, LinkBack, UnlinkBack, Unlink}
use Rattle.records.specs.declared.record.Place.{Place}
use Rattle.records.specs.declared.record.Status.{Status}
use Rattle.records.specs.declared.record.Status.TheVariants.{Free, InHand, Chained, Retired}
use Rattle.records.specs.declared.record.Task.{Task}
use Rattle.promises.specs.Promised.{is_chained}
use Rattle.promises.proofs.Laws.{exact, before}
use Rattle.promises.proofs.Sights.{Sight, at_with, next_put, prev_put, mark_put, status_put, filled}
use Rattle.promises.proofs.Invariant.{Inv, Stands, rung, group, is_placed, is_joined, is_keyed, is_marked, is_spared, is_handing, waits_for, chained}
use Rattle.promises.proofs.Touches.{Touch, Still}

-- ---- reading a function with another value at one number

pub at_other : {A : Type 0} (f : ℕ → A) (p : ℕ) (a : A) (q : ℕ) → (p ≡ q → ⊥) → at_with f p a q ≡ f q
at_other f p a q h = cond-false (eqb p q) a (f q) (ne_eqb p q h)

pub at_same : {A : Type 0} (f : ℕ → A) (p : ℕ) (a : A) (q : ℕ) → p ≡ q → at_with f p a q ≡ a
at_same f p a q e = cond-true (eqb p q) a (f q) (eq-eqb p q e)

-- Two numbers at which a test differs are two.
pub apart_by : (f : ℕ → Bool) (p q : ℕ) → f p ≡ true → f q ≡ false → p ≡ q → ⊥
apart_by f p q yes_p no_q e = true≢false (sym yes_p ∙ ap f e ∙ no_q)

pub waiting_is_off : (i : ℕ) (x : Status) → waits_for i x ≡ true → is_chained x ≡ false
waiting_is_off i Free h = refl
waiting_is_off i InHand h = refl
waiting_is_off i Chained h = sym h
waiting_is_off i (Retired w) h = refl

module _ {K : Type 0} where
  -- p was struck, is off the chain, and is not free before the work of station i ends.
  pub record Off (i : ℕ) (s : Sight K) (p : ℕ) : Type 0 where
    pub marked : s.marked p ≡ true
    pub waits : waits_for i (s.status p) ≡ true

  -- p was unlinked between s and s'; its links are as they were.
  pub record Cut (i : ℕ) (s s' : Sight K) (p : ℕ) : Type 0 where
    pub was_marked : s.marked p ≡ true
    pub next : s'.next p ≡ s.next p
    pub prev : s'.prev p ≡ s.prev p
    pub off : Off i s' p

  -- What becomes of a place of the chain.
  pub record FromOn (i : ℕ) (s s' : Sight K) (p : ℕ) : Type 0 where
    pub spot : s'.spot p ≡ s.spot p
    pub mark : s.marked p ≡ true → s'.marked p ≡ true
    pub fate : (chained s' p ≡ true) ⊎ Cut i s s' p

  -- What becomes of a place that was struck and waits.
  pub record FromOff (i : ℕ) (s s' : Sight K) (p : ℕ) : Type 0 where
    pub spot : s'.spot p ≡ s.spot p
    pub next : s'.next p ≡ s.next p
    pub prev : s'.prev p ≡ s.prev p
    pub off : Off i s' p

  -- How p came to the chain: its work had it in hand and linked it.
  pub record Joins (s : Sight K) (t : Task K) (p : ℕ) : Type 0 where
    pub phase : t.phase ≡ Link
    pub other : t.other ≡ p
    pub in_hand : s.status p ≡ InHand
    pub unmarked : s.marked p ≡ false

  -- ---- a sight in which links, keys, marks and statuses are the same

  pub still_keeps_on : (i : ℕ) {s s' : Sight K} (p : ℕ) → Still s s' → chained s p ≡ true → FromOn i s s' p
  still_keeps_on i p e on = record {
    spot = ap (λ f. f p) e.spot;
    mark = λ m. ap (λ f. f p) e.marked ∙ m;
    fate = inl (ap (λ f. is_chained (f p)) e.status ∙ on);
  }

  pub still_keeps_off : (i : ℕ) {s s' : Sight K} (p : ℕ) → Still s s' → Off i s p → FromOff i s s' p
  still_keeps_off i p e off = record {
    spot = ap (λ f. f p) e.spot;
    next = ap (λ f. f p) e.next;
    prev = ap (λ f. f p) e.prev;
    off = record { marked = ap (λ f. f p) e.marked ∙ off.marked; waits = ap (λ f. waits_for i (f p)) e.status ∙ off.waits };
  }

module _ {K : Type 0} (rank : K → K → Ordering) (s : Sight K) (inv : Inv rank s) (t : Task K)
    (st : Stands rank s.spot s.next s.prev s.marked s.status t) where
  at_not_high : (f : Phase) → t.phase ≡ f → leb 3 (group f) ≡ true → t.at ≡ high → ⊥
  at_not_high f e g h =
      true≢false (sym (st.at_below (ap (λ x. leb 3 (group x)) e ∙ g)) ∙ ap (λ q. before rank (s.spot q) (exact t.key)) h
      ∙ ap (λ b. before rank b (exact t.key)) inv.high_spot)

  other_not_high : (f : Phase) → t.phase ≡ f → is_keyed (rung f) ≡ true → t.other ≡ high → ⊥
  other_not_high f e k h =
      let keyed = st.keyed (ap (λ x. is_keyed (rung x)) e ∙ k) in
      let at_high : s.spot t.other ≡ s.spot high = ap s.spot h in
      let tops = inv.high_spot in
      let z : ◌≡◌ {A = ℕ} 0 1 = cc in omega arith

  at_chained_in : (f : Phase) → t.phase ≡ f → is_placed (rung f) ≡ true → chained s t.at ≡ true
  at_chained_in f e h = st.at_chained (ap (λ x. is_placed (rung x)) e ∙ h)

  at_unmarked_in : (f : Phase) → t.phase ≡ f → is_placed (rung f) ≡ true → s.marked t.at ≡ false
  at_unmarked_in f e h = st.at_unmarked (ap (λ x. is_placed (rung x)) e ∙ h)

  other_chained_in : (f : Phase) → t.phase ≡ f → is_placed (rung f) ≡ true → leb 3 (group f) ≡ true → is_joined (rung f) ≡ true → chained s t.other ≡ true
  other_chained_in f e p g j =
      ap (chained s) (sym (st.joined (ap (λ x. is_joined (rung x)) e ∙ j))) ∙ inv.leads t.at (at_chained_in f e p) (at_not_high f e g)

  next_chained_in : (f : Phase) → t.phase ≡ f → is_placed (rung f) ≡ true → leb 3 (group f) ≡ true → is_joined (rung f) ≡ true → is_keyed (rung f) ≡ true
      → chained s (s.next t.other) ≡ true
  next_chained_in f e p g j k = inv.leads t.other (other_chained_in f e p g j) (other_not_high f e k)

  backs_chained : (t.phase ≡ LinkBack) ⊎ (t.phase ≡ UnlinkBack) → chained s (s.next t.other) ≡ true
  backs_chained (inl e) = next_chained_in LinkBack e refl refl refl refl
  backs_chained (inr e) = next_chained_in UnlinkBack e refl refl refl refl

  -- ---- places of the chain

  fills_keep_on : (i p q : ℕ) (x : Place K) → s.status q ≡ Free → chained s p ≡ true → FromOn i s (filled q x s) p
  fills_keep_on i p q x is on =
      let apart : q ≡ p → ⊥ = λ e. apart_by (chained s) p q on (ap is_chained is) (sym e) in
      record {
        spot = at_other s.spot q _ p apart;
        mark = λ m. at_other s.marked q _ p apart ∙ m;
        fate = inl (ap is_chained (at_other s.status q x.status p apart) ∙ on);
      }

  joins_keep_on : (i p : ℕ) → chained s p ≡ true → FromOn i s (status_put t.other Chained (next_put t.at t.other s)) p
  joins_keep_on i p on = record { spot = refl; mark = λ m. m; fate = inl (go (eqb t.other p)) }
    where
      go : (b : Bool) → is_chained (cond b Chained (s.status p)) ≡ true
      go true = refl
      go false = on

  marks_keep_on : (i p : ℕ) → chained s p ≡ true → FromOn i s (mark_put t.other s) p
  marks_keep_on i p on = record { spot = refl; mark = go (eqb t.other p); fate = inl on }
    where
      go : (b : Bool) → s.marked p ≡ true → cond b true (s.marked p) ≡ true
      go true m = refl
      go false m = m

  cuts_keep_on : (i p : ℕ) → t.phase ≡ Unlink → chained s p ≡ true → FromOn i s (status_put t.other InHand (next_put t.at (s.next t.other) s)) p
  cuts_keep_on i p e on = record { spot = refl; mark = λ m. m; fate = go (cases_eq t.other p) }
    where
      go : (t.other ≡ p) ⊎ (t.other ≡ p → ⊥)
          → (is_chained (at_with s.status t.other InHand p) ≡ true) ⊎ Cut i s (status_put t.other InHand (next_put t.at (s.next t.other) s)) p
      go (inl same) =
          let marked = subst (λ q. s.marked q ≡ true) same (st.other_marked (ap (λ x. is_marked (rung x)) e)) in
          inr record {
            was_marked = marked;
            next = at_other s.next t.at _ p (λ h. apart_by s.marked p t.at marked (at_unmarked_in Unlink e refl) (sym h));
            prev = refl;
            off = record { marked = marked; waits = ap (waits_for i) (at_same s.status t.other InHand p same) };
          }
      go (inr other) = inl (ap is_chained (at_other s.status t.other InHand p other) ∙ on)

  pub rule_keeps_on : (i p : ℕ) {o : Outcome K} {s' : Sight K} → Touch s t o s' → chained s p ≡ true → FromOn i s s' p
  rule_keeps_on i p (Touch.stays calm same) on = still_keeps_on i p same on
  rule_keeps_on i p (Touch.fills calm q is x hand e) on = subst (λ z. FromOn i s z p) (sym e) (fills_keep_on i p q x is on)
  rule_keeps_on i p (Touch.joins calm f e) on = subst (λ z. FromOn i s z p) (sym e) (joins_keep_on i p on)
  rule_keeps_on i p (Touch.backs calm f q e) on = subst (λ z. FromOn i s z p) (sym e) (record { spot = refl; mark = λ m. m; fate = inl on })
  rule_keeps_on i p (Touch.marks calm f e) on = subst (λ z. FromOn i s z p) (sym e) (marks_keep_on i p on)
  rule_keeps_on i p (Touch.cuts calm f e) on = subst (λ z. FromOn i s z p) (sym e) (cuts_keep_on i p f on)
  rule_keeps_on i p (Touch.hands_over f oc same) on = still_keeps_on i p same on

  -- ---- places that were struck and wait

  fills_keep_off : (i p q : ℕ) (x : Place K) → s.status q ≡ Free → Off i s p → FromOff i s (filled q x s) p
  fills_keep_off i p q x is off =
      let apart : q ≡ p → ⊥ = λ e. apart_by (λ r. waits_for i (s.status r)) p q off.waits (ap (waits_for i) is) (sym e) in
      record {
        spot = at_other s.spot q _ p apart;
        next = at_other s.next q _ p apart;
        prev = at_other s.prev q _ p apart;
        off = record { marked = at_other s.marked q _ p apart ∙ off.marked; waits = ap (waits_for i) (at_other s.status q x.status p apart) ∙ off.waits };
      }

  -- A place of the chain is another than one that waits.
  on_apart_off : (i p q : ℕ) → Off i s p → chained s q ≡ true → q ≡ p → ⊥
  on_apart_off i p q off on e = apart_by (chained s) q p on (waiting_is_off i (s.status p) off.waits) e

  joins_keep_off : (i p : ℕ) → t.phase ≡ Link → Off i s p → FromOff i s (status_put t.other Chained (next_put t.at t.other s)) p
  joins_keep_off i p e off = record {
    spot = refl;
    next = at_other s.next t.at _ p (on_apart_off i p t.at off (at_chained_in Link e refl));
    prev = refl;
    off = record {
      marked = off.marked;
      waits = ap (waits_for i) (at_other s.status t.other Chained p (λ h. apart_by s.marked p t.other off.marked (st.spared (ap (λ x. is_spared (rung x)) e)) (sym h))) ∙ off.waits;
    };
  }

  backs_keep_off : (i p q : ℕ) → (t.phase ≡ LinkBack) ⊎ (t.phase ≡ UnlinkBack) → Off i s p → FromOff i s (prev_put (s.next t.other) q s) p
  backs_keep_off i p q f off = record {
    spot = refl;
    next = refl;
    prev = at_other s.prev (s.next t.other) q p (on_apart_off i p (s.next t.other) off (backs_chained f));
    off = record { marked = off.marked; waits = off.waits };
  }

  marks_keep_off : (i p : ℕ) → Off i s p → FromOff i s (mark_put t.other s) p
  marks_keep_off i p off = record { spot = refl; next = refl; prev = refl; off = record { marked = go (eqb t.other p); waits = off.waits } }
    where
      go : (b : Bool) → cond b true (s.marked p) ≡ true
      go true = refl
      go false = off.marked

  cuts_keep_off : (i p : ℕ) → t.phase ≡ Unlink → Off i s p → FromOff i s (status_put t.other InHand (next_put t.at (s.next t.other) s)) p
  cuts_keep_off i p e off = record {
    spot = refl;
    next = at_other s.next t.at _ p (on_apart_off i p t.at off (at_chained_in Unlink e refl));
    prev = refl;
    off = record {
      marked = off.marked;
      waits = ap (waits_for i) (at_other s.status t.other InHand p (on_apart_off i p t.other off (other_chained_in Unlink e refl refl refl))) ∙ off.waits;
    };
  }

  pub rule_keeps_off : (i p : ℕ) {o : Outcome K} {s' : Sight K} → Touch s t o s' → Off i s p → FromOff i s s' p
  rule_keeps_off i p (Touch.stays calm same) off = still_keeps_off i p same off
  rule_keeps_off i p (Touch.fills calm q is x hand e) off = subst (λ z. FromOff i s z p) (sym e) (fills_keep_off i p q x is off)
  rule_keeps_off i p (Touch.joins calm f e) off = subst (λ z. FromOff i s z p) (sym e) (joins_keep_off i p f off)
  rule_keeps_off i p (Touch.backs calm f q e) off = subst (λ z. FromOff i s z p) (sym e) (backs_keep_off i p q f off)
  rule_keeps_off i p (Touch.marks calm f e) off = subst (λ z. FromOff i s z p) (sym e) (marks_keep_off i p off)
  rule_keeps_off i p (Touch.cuts calm f e) off = subst (λ z. FromOff i s z p) (sym e) (cuts_keep_off i p f off)
  rule_keeps_off i p (Touch.hands_over f oc same) off = still_keeps_off i p same off

  -- ---- places that come to the chain

  fills_join_none : (p q : ℕ) (x : Place K) → x.status ≡ InHand → chained (filled q x s) p ≡ true → chained s p ≡ true
  fills_join_none p q x hand on = go (eqb q p) on
    where
      go : (b : Bool) → is_chained (cond b x.status (s.status p)) ≡ true → chained s p ≡ true
      go true h = absurd (true≢false (sym h ∙ ap is_chained hand))
      go false h = h

  cuts_join_none : (p n : ℕ) → chained (status_put t.other InHand (next_put t.at n s)) p ≡ true → chained s p ≡ true
  cuts_join_none p n on = go (eqb t.other p) on
    where
      go : (b : Bool) → is_chained (cond b InHand (s.status p)) ≡ true → chained s p ≡ true
      go true h = absurd (true≢false (sym h))
      go false h = h

  links_join_other : (p : ℕ) → t.phase ≡ Link → (t.other ≡ p) ⊎ (t.other ≡ p → ⊥) → chained (status_put t.other Chained (next_put t.at t.other s)) p ≡ true
      → (chained s p ≡ true) ⊎ Joins s t p
  links_join_other p e (inl same) on = inr record {
    phase = e;
    other = same;
    in_hand = subst (λ q. s.status q ≡ InHand) same (st.in_hand (ap (λ x. is_handing (rung x)) e));
    unmarked = subst (λ q. s.marked q ≡ false) same (st.spared (ap (λ x. is_spared (rung x)) e));
  }
  links_join_other p e (inr other) on = inl (sym (ap is_chained (at_other s.status t.other Chained p other)) ∙ on)

  pub rule_joins : (p : ℕ) {o : Outcome K} {s' : Sight K} → Touch s t o s' → chained s' p ≡ true → (chained s p ≡ true) ⊎ Joins s t p
  rule_joins p (Touch.stays calm same) on = inl (sym (ap (λ f. is_chained (f p)) same.status) ∙ on)
  rule_joins p (Touch.fills calm q is x hand e) on = inl (fills_join_none p q x hand (subst (λ z. chained z p ≡ true) e on))
  rule_joins p (Touch.joins calm f e) on = links_join_other p f (cases_eq t.other p) (subst (λ z. chained z p ≡ true) e on)
  rule_joins p (Touch.backs calm f q e) on = inl (subst (λ z. chained z p ≡ true) e on)
  rule_joins p (Touch.marks calm f e) on = inl (subst (λ z. chained z p ≡ true) e on)
  rule_joins p (Touch.cuts calm f e) on = inl (cuts_join_none p (s.next t.other) (subst (λ z. chained z p ≡ true) e on))
  rule_joins p (Touch.hands_over f oc same) on = inl (sym (ap (λ f. is_chained (f p)) same.status) ∙ on)
