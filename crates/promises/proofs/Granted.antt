-- That the guide accepts every ATTACH and DETACH of a work. Assumes the laws of the order and what holds between calls.
use Rattle.std.proofs.Common.{◌≡◌, ℕ, ◌<◌, Bool, true, false, not, ◌&&◌, ◌||◌, eqb, leb, ◌⊎◌, List, [], ◌∷◌, Some, None, Ok, Err, Option, Ordering, sym, refl, ap, ◌∙◌, subst, inl, inr, ⊎_elim, arith}
use Rattle.std.proofs.lemmas.Bool.{cases_Bool, true≢false, false≢true, eqb-true, eq-eqb, ne_eqb, lt-leb, and_parts, and_from, or_cases, or_left, or_right, or_from, not_from_true, not_from_false, cond-false}
use Rattle.std.proofs.lemmas.Bool.Decides.{nat_tests}
use Rattle.std.proofs.Math.Bool.{and-false}
use Rattle.guides.specs.declared.answer.GuideRefusal.TheVariants.{BadSpot, NotThere}
use Rattle.guides.specs.Meaning.{low, high, has, begins_with, neighbours}
use Rattle.guides.specs.Rules.{attaching, detaching}
use Rattle.guides.proofs.Sequences.{attached, detached}
use Rattle.records.specs.declared.record.Status.TheVariants.{InHand, Chained}
use Rattle.records.specs.declared.record.Task.{Task}
use Rattle.promises.proofs.Rungs.{joined_placed, placed_holds}
use Rattle.promises.proofs.Laws.{Laws, Bound, exact, before, before_chains, before_once}
use Rattle.promises.proofs.Sights.{Sight}
use Rattle.promises.proofs.Invariant.{Inv, Rising, rung, holds_at, holds_other, is_between, is_placed, is_joined, is_keyed, is_handing, is_hiding, is_detaching, holds, other_in, holder_in, chained}
use Rattle.promises.proofs.Tidy.{other_found}
use Rattle.promises.proofs.Seats.{holder_locks, one_holder, not_both, not_itself, next_apart, holds_its_at, holds_its_other, at_not_high, placed_is_late, other_not_high, joined_chained, joined_within, joined_leads, at_under_other}

-- ---- neighbours in a rising sequence

module _ {K : Type 0} (rank : K → K → Ordering) (laws : Laws rank) (spot : ℕ → Bound K) where
  begins : (z : ℕ) (ys : List ℕ) → Rising rank spot ys → has z ys ≡ true → ((w : ℕ) → has w ys ≡ true → (w ≡ z) ⊎ (before rank (spot z) (spot w) ≡ true)) → begins_with z ys ≡ true
  begins z [] r h least = h
  begins z (w ∷ ws) r h least =
      ⊎_elim (λ e. eq-eqb w z e)
      (λ b. ⊎_elim (λ e. e) (λ later. absurd (true≢false (sym (r.0 z later) ∙ before_once rank laws (spot z) (spot w) b))) (or_cases (eqb w z) (has z ws) h))
      (least w (or_left (eqb w w) (has w ws) (eq-eqb w w refl)))

  -- Two places with none between them are neighbours.
  pub rising_neighbours : (xs : List ℕ) (x z : ℕ) → Rising rank spot xs → has x xs ≡ true → has z xs ≡ true → before rank (spot x) (spot z) ≡ true
      → ((y : ℕ) → has y xs ≡ true → before rank (spot x) (spot y) ≡ true → (y ≡ z) ⊎ (before rank (spot z) (spot y) ≡ true)) → neighbours x z xs ≡ true
  rising_neighbours [] x z r hx hz up least = hx
  rising_neighbours (y ∷ ys) x z r hx hz up least =
      ⊎_elim
      (λ e. let same : y ≡ x = eqb-true y x e in
      or_left (eqb y x && begins_with z ys) (neighbours x z ys) (and_from (eqb y x) (begins_with z ys) e
      (begins z ys r.1
      (⊎_elim (λ f. absurd (true≢false (sym (subst (λ v. before rank (spot v) (spot z) ≡ true) (sym same ∙ eqb-true y z f) up)
      ∙ not_before_self z)))
      (λ later. later) (or_cases (eqb y z) (has z ys) hz))
      (λ w there. least w (or_right (eqb y w) (has w ys) there) (subst (λ v. before rank (spot v) (spot w) ≡ true) same (r.0 w there))))))
      (λ later. or_right (eqb y x && begins_with z ys) (neighbours x z ys)
      (rising_neighbours ys x z r.1 later
      (⊎_elim (λ f. absurd (true≢false (sym (subst (λ v. before rank (spot v) (spot x) ≡ true) (eqb-true y z f) (r.0 x later)) ∙ before_once rank laws (spot x) (spot z) up)))
      (λ there. there) (or_cases (eqb y z) (has z ys) hz))
      up (λ w there. least w (or_right (eqb y w) (has w ys) there))))
      (or_cases (eqb y x) (has x ys) hx)
    where
      not_before_self : (v : ℕ) → before rank (spot v) (spot v) ≡ false
      not_before_self v = ⊎_elim (λ h. before_once rank laws (spot v) (spot v) h) (λ h. h) (cases_Bool (before rank (spot v) (spot v)))

-- ---- what stands in the guide

module _ {K : Type 0} (rank : K → K → Ordering) (laws : Laws rank) (s : Sight K) (inv : Inv rank s) where
  -- A chained place whose lock no work holds that has yet to attach it.
  pub chained_shown : (p : ℕ) → chained s p ≡ true → holder_in is_hiding s.task (s.lock p) p ≡ false → has p s.guide.sequence ≡ true
  chained_shown p ch h =
      inv.guide_shows p
      ∙ or_left (chained s p && not (holder_in is_hiding s.task (s.lock p) p)) (holder_in is_detaching s.task (s.lock p) p)
      (and_from (chained s p) (not (holder_in is_hiding s.task (s.lock p) p)) ch (not_from_false (holder_in is_hiding s.task (s.lock p) p) h))

  -- A place in the guide is chained, or its holder is about to detach it.
  pub shown_is : (p : ℕ) → has p s.guide.sequence ≡ true → (chained s p ≡ true) ⊎ ((j : ℕ) × (s.lock p ≡ Some j) × (other_in is_detaching (s.task j) p ≡ true))
  shown_is p h =
      ⊎_elim (λ both. inl (and_parts (chained s p) (not (holder_in is_hiding s.task (s.lock p) p)) both).0)
      (λ d. inr (holder (s.lock p) refl d))
      (or_cases (chained s p && not (holder_in is_hiding s.task (s.lock p) p)) (holder_in is_detaching s.task (s.lock p) p) (sym (inv.guide_shows p) ∙ h))
    where
      holder : (o : Option ℕ) → s.lock p ≡ o → holder_in is_detaching s.task o p ≡ true → (j : ℕ) × (s.lock p ≡ Some j) × (other_in is_detaching (s.task j) p ≡ true)
      holder None e d = absurd (false≢true d)
      holder (Some j) e d = (j, e, d)

  module _ (i : ℕ) (t : Task K) (is : s.task i ≡ Some t) where
    -- ---- DETACH

    module _ (rung_is : rung t.phase ≡ 12) where
      handing : is_handing (rung t.phase) ≡ true
      handing = ap is_handing rung_is

      pub detached_shown : has t.other s.guide.sequence ≡ true
      detached_shown =
          let locked = holder_locks rank laws s inv i t.other (holds_its_other rank laws s inv i t is (ap holds_other rung_is)) in
          inv.guide_shows t.other
          ∙ or_right (chained s t.other && not (holder_in is_hiding s.task (s.lock t.other) t.other)) (holder_in is_detaching s.task (s.lock t.other) t.other)
          (ap (λ o. holder_in is_detaching s.task o t.other) locked ∙ ap (λ o. other_in is_detaching o t.other) is
          ∙ and_from (is_detaching (rung t.phase)) (eqb t.other t.other) (ap is_detaching rung_is) (eq-eqb t.other t.other refl))

      pub detached_inner : high < t.other
      detached_inner =
          let hand = (inv.stands i t is).in_hand handing in
          let l = inv.low_chained in
          let r = inv.high_chained in
          inner t.other (λ e. unlike (sym hand ∙ ap s.status e ∙ l)) (λ e. unlike (sym hand ∙ ap s.status e ∙ r))
        where
          unlike : InHand ≡ Chained → ⊥
          unlike e = let z : ◌≡◌ {A = ℕ} 0 1 = cc in omega arith

          inner : (q : ℕ) → (q ≡ low → ⊥) → (q ≡ high → ⊥) → high < q
          inner q l r = grind (arith, nat_tests)

      pub detach_granted : detaching t.other s.guide ≡ Ok (detached t.other s.guide)
      detach_granted =
          cond-false (leb t.other high || not (has t.other s.guide.sequence)) (Err NotThere) (Ok (detached t.other s.guide))
          (or_from (leb t.other high) (not (has t.other s.guide.sequence)) (lt-leb t.other high detached_inner) (not_from_true (has t.other s.guide.sequence) detached_shown))

    -- ---- ATTACH

    module _ (rung_is : rung t.phase ≡ 7) where
      joined : is_joined (rung t.phase) ≡ true
      joined = ap is_joined rung_is

      placed : is_placed (rung t.phase) ≡ true
      placed = ap is_placed rung_is

      keyed : is_keyed (rung t.phase) ≡ true
      keyed = ap is_keyed rung_is

      has_at : holds (s.task i) t.at ≡ true
      has_at = holds_its_at rank laws s inv i t is (ap holds_at rung_is)

      has_other : holds (s.task i) t.other ≡ true
      has_other = holds_its_other rank laws s inv i t is (ap holds_other rung_is)

      at_ch : chained s t.at ≡ true
      at_ch = (inv.stands i t is).at_chained placed

      other_ch : chained s t.other ≡ true
      other_ch = joined_chained rank laws s inv i t is joined

      at_next : s.next t.at ≡ t.other
      at_next = (inv.stands i t is).joined joined

      up : before rank (s.spot t.at) (s.spot t.other) ≡ true
      up = at_under_other rank laws s inv i t is keyed

      next_up : before rank (s.spot t.other) (s.spot (s.next t.other)) ≡ true
      next_up = inv.rises t.other other_ch (other_not_high rank laws s inv i t is keyed)

      at_not_other : t.other ≡ t.at → ⊥
      at_not_other e = not_itself rank laws s inv (s.spot t.at) (subst (λ p. before rank (s.spot t.at) (s.spot p) ≡ true) e up)

      pub attached_hidden : has t.other s.guide.sequence ≡ false
      attached_hidden =
          let locked = holder_locks rank laws s inv i t.other has_other in
          let hid : holder_in is_hiding s.task (s.lock t.other) t.other ≡ true =
          ap (λ o. holder_in is_hiding s.task o t.other) locked ∙ ap (λ o. other_in is_hiding o t.other) is
          ∙ and_from (is_hiding (rung t.phase)) (eqb t.other t.other) (ap is_hiding rung_is) (eq-eqb t.other t.other refl) in
          let undetached : holder_in is_detaching s.task (s.lock t.other) t.other ≡ false =
          ap (λ o. holder_in is_detaching s.task o t.other) locked ∙ ap (λ o. other_in is_detaching o t.other) is
          ∙ ap (λ r. is_detaching r && eqb t.other t.other) rung_is in
          inv.guide_shows t.other ∙ neither (chained s t.other) _ _ hid undetached
        where
          neither : (c h d : Bool) → h ≡ true → d ≡ false → ((c && not h) || d) ≡ false
          neither c h d e f = grind (arith, nat_tests)

      at_shown : has t.at s.guide.sequence ≡ true
      at_shown =
          chained_shown t.at at_ch
          (ap (λ o. holder_in is_hiding s.task o t.at) (holder_locks rank laws s inv i t.at has_at) ∙ ap (λ o. other_in is_hiding o t.at) is
          ∙ ap (λ b. is_hiding (rung t.phase) && b) (ne_eqb t.other t.at at_not_other) ∙ and-false (is_hiding (rung t.phase)))

      -- The work of another station, or of this one: then it is the same work.
      same_work : (j : ℕ) (u : Task K) → s.task j ≡ Some u → i ≡ j → t ≡ u
      same_work j u has e = let both : Some t ≡ Some u = sym is ∙ ap s.task e ∙ has in cc

      upper_shown : has (s.next t.other) s.guide.sequence ≡ true
      upper_shown =
          chained_shown (s.next t.other) (joined_leads rank laws s inv i t is joined) (by_lock (s.lock (s.next t.other)))
        where
          hiding_joined : (r : ℕ) → is_hiding r ≡ true → is_joined r ≡ true
          hiding_joined r h = grind (arith, nat_tests)

          hidden : (j : ℕ) → other_in is_hiding (s.task j) (s.next t.other) ≡ true → ⊥
          hidden j h =
              let found = other_found is_hiding (s.task j) (s.next t.other) h in
              let u = found.0 in
              let u_joined = hiding_joined (rung u.phase) found.2 in
              let u_placed = joined_placed (rung u.phase) u_joined in
              let u_at = (inv.stands j u found.1).at_chained u_placed in
              let one : u.at ≡ t.other =
              next_apart rank laws s inv u.at t.other u_at other_ch (at_not_high rank laws s inv j u found.1 (placed_is_late rank laws s inv j u found.1 u_placed))
              (other_not_high rank laws s inv i t is keyed) ((inv.stands j u found.1).joined u_joined ∙ found.3) in
              let mine = one_holder rank laws s inv i j t.other has_other
              (subst (λ p. holds (s.task j) p ≡ true) one (holds_its_at rank laws s inv j u found.1 (placed_holds (rung u.phase) u_placed))) in
              let same : t ≡ u = same_work j u found.1 mine in
              at_not_other (sym one ∙ sym (ap (λ x. x.at) same))

          by_lock : (o : Option ℕ) → holder_in is_hiding s.task o (s.next t.other) ≡ false
          by_lock None = refl
          by_lock (Some j) = ⊎_elim (λ h. absurd (hidden j h)) (λ h. h) (cases_Bool (other_in is_hiding (s.task j) (s.next t.other)))

      -- Nothing in the guide stands between the two neighbours.
      abbrev Past : ℕ → Type 0
      Past y = (y ≡ s.next t.other) ⊎ (before rank (s.spot (s.next t.other)) (s.spot y) ≡ true)

      chained_past : (y : ℕ) → chained s y ≡ true → before rank (s.spot t.other) (s.spot y) ≡ true → Past y
      chained_past y ch b = ⊎_elim (λ e. inl (sym e)) (λ x. inr x) (inv.gap t.other y other_ch ch b)

      -- The successor of at is the other place, which is not in the guide.
      after_at : (y : ℕ) → chained s y ≡ true → (t.other ≡ y → ⊥) → before rank (s.spot t.at) (s.spot y) ≡ true → before rank (s.spot t.other) (s.spot y) ≡ true
      after_at y ch unlike b =
          ⊎_elim (λ e. absurd (unlike (sym at_next ∙ e))) (λ x. subst (λ p. before rank (s.spot p) (s.spot y) ≡ true) at_next x) (inv.gap t.at y at_ch ch b)

      detaching_past : (y j : ℕ) → other_in is_detaching (s.task j) y ≡ true → before rank (s.spot t.at) (s.spot y) ≡ true → Past y
      detaching_past y j d b =
          let found = other_found is_detaching (s.task j) y d in
          by_work found.0 found.1 (eqb-true (rung found.0.phase) 12 found.2) found.3
        where
          by_work : (u : Task K) → s.task j ≡ Some u → rung u.phase ≡ 12 → u.other ≡ y → Past y
          by_work u has twelve at_y =
              ⊎_elim (λ e. absurd (not_mine (one_holder rank laws s inv i j t.at has_at (subst (λ p. holds (s.task j) p ≡ true) (sym e) u_holds))))
              (λ either. ⊎_elim
              (λ later. inr (past_then (chained_past u.at u_ch (after_at u.at u_ch unlike later))))
              (λ sooner. absurd (sooner_not sooner)) either)
              (inv.apart t.at u.at at_ch u_ch)
            where
              u_ch : chained s u.at ≡ true
              u_ch = (inv.stands j u has).at_chained (ap is_placed twelve)

              u_holds : holds (s.task j) u.at ≡ true
              u_holds = holds_its_at rank laws s inv j u has (ap holds_at twelve)

              not_mine : i ≡ j → ⊥
              not_mine e =
                  let same : t ≡ u = same_work j u has e in
                  let clash : ◌≡◌ {A = ℕ} 7 12 = sym rung_is ∙ ap (λ x. rung x.phase) same ∙ twelve in
                  omega arith

              unlike : t.other ≡ u.at → ⊥
              unlike e = not_mine (one_holder rank laws s inv i j u.at (subst (λ p. holds (s.task i) p ≡ true) e has_other) u_holds)

              y_key : s.spot y ≡ exact u.key
              y_key = sym (ap s.spot at_y) ∙ (inv.stands j u has).keyed (ap is_keyed twelve)

              under_y : before rank (s.spot u.at) (s.spot y) ≡ true
              under_y = subst (λ p. before rank (s.spot u.at) (s.spot p) ≡ true) at_y (at_under_other rank laws s inv j u has (ap is_keyed twelve))

              over_y : before rank (s.spot y) (s.spot (s.next u.at)) ≡ true
              over_y = ap (λ b. before rank b (s.spot (s.next u.at))) y_key ∙ (inv.stands j u has).next_above (ap is_between twelve)

              past_then : Past u.at → before rank (s.spot (s.next t.other)) (s.spot y) ≡ true
              past_then (inl e) = subst (λ p. before rank (s.spot p) (s.spot y) ≡ true) e under_y
              past_then (inr x) = before_chains rank laws (s.spot (s.next t.other)) (s.spot u.at) (s.spot y) x under_y

              sooner_not : before rank (s.spot u.at) (s.spot t.at) ≡ true → ⊥
              sooner_not x =
                  ⊎_elim (λ e. not_both rank laws s inv (s.spot t.at) (s.spot y) b (subst (λ p. before rank (s.spot y) (s.spot p) ≡ true) e over_y))
                  (λ v. not_both rank laws s inv (s.spot t.at) (s.spot y) b (before_chains rank laws (s.spot y) (s.spot (s.next u.at)) (s.spot t.at) over_y v))
                  (inv.gap u.at t.at u_ch at_ch x)

      none_between : (y : ℕ) → has y s.guide.sequence ≡ true → before rank (s.spot t.at) (s.spot y) ≡ true → Past y
      none_between y h b =
          ⊎_elim (λ ch. chained_past y ch (after_at y ch (λ e. true≢false (sym h ∙ sym (ap (λ p. has p s.guide.sequence) e) ∙ attached_hidden)) b))
          (λ d. detaching_past y d.0 d.2 b) (shown_is y h)

      pub attached_between : neighbours t.at (s.next t.other) s.guide.sequence ≡ true
      attached_between =
          rising_neighbours rank laws s.spot s.guide.sequence t.at (s.next t.other) inv.guide_rises at_shown upper_shown
          (before_chains rank laws (s.spot t.at) (s.spot t.other) (s.spot (s.next t.other)) up next_up) none_between

      pub attach_granted : attaching t.at t.other (s.next t.other) s.guide ≡ Ok (attached t.at t.other s.guide)
      attach_granted =
          let within : t.other < s.guide.places = subst (λ n. t.other < n) (sym inv.guide_size) (joined_within rank laws s inv i t is joined) in
          cond-false
          (has t.other s.guide.sequence || (leb s.guide.places t.other || not (neighbours t.at (s.next t.other) s.guide.sequence)))
          (Err BadSpot) (Ok (attached t.at t.other s.guide))
          (or_from (has t.other s.guide.sequence) (leb s.guide.places t.other || not (neighbours t.at (s.next t.other) s.guide.sequence)) attached_hidden
          (or_from (leb s.guide.places t.other) (not (neighbours t.at (s.next t.other) s.guide.sequence))
          (lt-leb s.guide.places t.other within) (not_from_true (neighbours t.at (s.next t.other) s.guide.sequence) attached_between)))
