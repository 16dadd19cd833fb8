-- How many steps a work that is alone has been given, by its phase: nothing sends it back to the start, it goes back over places
-- ever lower and on over places ever higher. Assumes the laws of the order and the invariant.
use Rattle.std.proofs.Common.{◌≡◌, ℕ, ◌+◌, ◌*◌, ◌<◌, ◌≤◌, Bool, true, false, cond, not, ◌&&◌, eqb, leb, ◌⊎◌, Some, None, Option, Ordering, Less, Equal, Greater, sym, refl, ap, ◌∙◌, subst, inl, inr, arith}
use Rattle.std.proofs.lemmas.Bool.{true≢false, and_parts, or_cases}
use Rattle.std.proofs.lemmas.Bool.Decides.{nat_tests}
use Rattle.guides.specs.Meaning.{low, high, has}
use Rattle.records.specs.declared.outcome.Outcome.{Outcome}
use Rattle.records.specs.declared.outcome.Outcome.TheVariants.{Goes}
use Rattle.records.specs.declared.record.Phase.{Phase}
use Rattle.records.specs.declared.record.Phase.TheVariants.{Enter, Down, Check, Back, On, Seek, Lock, Valid, Take, Link, LinkBack, Attach, ReleaseNew, PutEnd, TakeVictim, Mark, UnlinkBack, Unlink, Detach, ReleaseVictim, StrikeEnd, First, FirstNext}
use Rattle.records.specs.declared.record.Task.{Task}
use Rattle.records.specs.declared.record.Work.{Work}
use Rattle.records.specs.declared.record.Work.TheVariants.{Put, Strike, Look, First as FirstWork, After}
use Rattle.records.specs.Records.{first_phase}
use Rattle.promises.specs.Promised.{is_chained}
use Rattle.promises.specs.Alone.{alone_steps}
use Rattle.promises.proofs.Small.{up_not_less, equal_not_less, greater_not_less}
use Rattle.promises.proofs.Laws.{Laws, Bound, bottom, exact, top, before, compared}
use Rattle.promises.proofs.Sights.{Sight}
use Rattle.promises.proofs.Views.{Way, Strays}
use Rattle.promises.proofs.Invariant.{Inv, chained, fits, group, rung, is_striking, is_detaching, is_hiding, other_in, holder_in}
use Rattle.promises.proofs.Preceding.{precedes}
use Rattle.promises.proofs.Works.{some_injects}
use Rattle.promises.proofs.Aims.{goes_not}
use Rattle.promises.proofs.Heights.{above, above_few, above_falls}

strays_not : {w : Work} {f : Phase} → Strays w f → fits w (group f) ≡ true → ⊥
strays_not Strays.first_back h = true≢false (sym h)
strays_not Strays.put_on h = true≢false (sym h)
strays_not Strays.strike_on h = true≢false (sym h)
strays_not Strays.first_on h = true≢false (sym h)
strays_not Strays.look_valid h = true≢false (sym h)
strays_not Strays.first_valid h = true≢false (sym h)
strays_not Strays.after_valid h = true≢false (sym h)

-- The most steps by the group of a phase.
abbrev group_steps : ℕ → ℕ → ℕ
group_steps g n = cond (leb g 1) (66 + 2 * n) (cond (eqb g 2) 2 (cond (leb g 4) (73 + 2 * n) (74 + 2 * n)))

group_within : (w : Work) (g n : ℕ) → fits w g ≡ true → group_steps g n ≤ alone_steps w n
group_within Put g n h = grind (arith, nat_tests)
group_within Strike g n h = grind (arith, nat_tests)
group_within Look g n h = grind (arith, nat_tests)
group_within FirstWork g n h = grind (arith, nat_tests)
group_within After g n h = grind (arith, nat_tests)

module _ {K : Type 0} (rank : K → K → Ordering) where
  -- The key of the successor is not below k.
  abbrev Bounded : Sight K → K → ℕ → Type 0
  Bounded s k p = compared rank (s.spot (s.next p)) k ≡ Less → ⊥

  -- How many steps g a work has been given; it stands on place p and looks for k.
  abbrev pub Paced : Sight K → Phase → K → ℕ → ℕ → ℕ → Type 0
  Paced s Enter k downs p g = g ≡ 0
  Paced s Down k downs p g = (g ≡ downs + 1) × (downs < 64) × (chained s p ≡ true)
  Paced s Check k downs p g = (g ≤ 65) × (chained s p ≡ true)
  Paced s Back k downs p g = (g ≤ 66 + above rank s p) × (chained s p ≡ true)
  Paced s On k downs p g = (g + above rank s p ≤ 65 + 2 * s.size) × (chained s p ≡ true)
  Paced s Seek k downs p g = (g + above rank s p ≤ 65 + 2 * s.size) × (chained s p ≡ true)
  Paced s Lock k downs p g = (g ≤ 65 + 2 * s.size) × (chained s p ≡ true) × Bounded s k p
  Paced s Valid k downs p g = (g ≤ 66 + 2 * s.size) × (chained s p ≡ true) × Bounded s k p
  Paced s Take k downs p g = g ≤ 67 + 2 * s.size
  Paced s Link k downs p g = g ≤ 68 + 2 * s.size
  Paced s LinkBack k downs p g = g ≤ 69 + 2 * s.size
  Paced s Attach k downs p g = g ≤ 70 + 2 * s.size
  Paced s ReleaseNew k downs p g = g ≤ 71 + 2 * s.size
  Paced s PutEnd k downs p g = g ≤ 72 + 2 * s.size
  Paced s TakeVictim k downs p g = g ≤ 67 + 2 * s.size
  Paced s Mark k downs p g = g ≤ 68 + 2 * s.size
  Paced s UnlinkBack k downs p g = g ≤ 69 + 2 * s.size
  Paced s Unlink k downs p g = g ≤ 70 + 2 * s.size
  Paced s Detach k downs p g = g ≤ 71 + 2 * s.size
  Paced s ReleaseVictim k downs p g = g ≤ 72 + 2 * s.size
  Paced s StrikeEnd k downs p g = g ≤ 73 + 2 * s.size
  Paced s First k downs p g = g ≡ 0
  Paced s FirstNext k downs p g = (g ≡ 1) × (chained s p ≡ true)

  pub begins_paced : (s : Sight K) (w : Work) (k : K) (downs p : ℕ) → Paced s (first_phase w) k downs p 0
  begins_paced s Put k downs p = refl
  begins_paced s Strike k downs p = refl
  begins_paced s Look k downs p = refl
  begins_paced s FirstWork k downs p = refl
  begins_paced s After k downs p = refl

  module _ (laws : Laws rank) (s : Sight K) (inv : Inv rank s) where
    -- A work under way has been given fewer steps than this.
    few : (f : Phase) (k : K) (downs p g : ℕ) → Paced s f k downs p g → g < group_steps (group f) s.size
    few Enter k downs p g w = omega arith
    few Down k downs p g w = omega (arith, w.0, w.1)
    few Check k downs p g w = omega (arith, w.0)
    few Back k downs p g w = let h = above_few rank laws s inv p w.1 in omega (arith, w.0)
    few On k downs p g w = omega (arith, w.0)
    few Seek k downs p g w = omega (arith, w.0)
    few Lock k downs p g w = omega (arith, w.0)
    few Valid k downs p g w = omega (arith, w.0)
    few Take k downs p g w = omega arith
    few Link k downs p g w = omega arith
    few LinkBack k downs p g w = omega arith
    few Attach k downs p g w = omega arith
    few ReleaseNew k downs p g w = omega arith
    few PutEnd k downs p g w = omega arith
    few TakeVictim k downs p g w = omega arith
    few Mark k downs p g w = omega arith
    few UnlinkBack k downs p g w = omega arith
    few Unlink k downs p g w = omega arith
    few Detach k downs p g w = omega arith
    few ReleaseVictim k downs p g w = omega arith
    few StrikeEnd k downs p g w = omega arith
    few First k downs p g w = omega arith
    few FirstNext k downs p g w = omega (arith, w.0)

    pub paced_few : (w : Work) (f : Phase) (k : K) (downs p g : ℕ) → fits w (group f) ≡ true → Paced s f k downs p g → g < alone_steps w s.size
    paced_few w f k downs p g fit paced = let h = few f k downs p g paced in let l = group_within w (group f) s.size fit in omega arith

    module _ (i : ℕ) (t : Task K) (is : s.task i ≡ Some t) (only : (j : ℕ) (u : Task K) → s.task j ≡ Some u → j ≡ i) where
      -- ---- what others would do is not done

      same_task : (j : ℕ) (u : Task K) → s.task j ≡ Some u → u ≡ t
      same_task j u was = some_injects was (ap s.task (only j u was) ∙ is)

      no_other : (test : ℕ → Bool) → test (rung t.phase) ≡ false → (j p : ℕ) → other_in test (s.task j) p ≡ true → ⊥
      no_other test calm j p h = go (s.task j) refl h
        where
          go : (x : Option (Task K)) → s.task j ≡ x → other_in test x p ≡ true → ⊥
          go None was e = true≢false (sym e)
          go (Some u) was e = true≢false (sym (and_parts (test (rung u.phase)) (eqb u.other p) e).0 ∙ ap (λ v. test (rung v.phase)) (same_task j u was) ∙ calm)

      no_holder : (test : ℕ → Bool) → test (rung t.phase) ≡ false → (l : Option ℕ) (p : ℕ) → holder_in test s.task l p ≡ true → ⊥
      no_holder test calm None p h = true≢false (sym h)
      no_holder test calm (Some j) p h = no_other test calm j p h

      -- A place that the guide names is on the chain.
      named_chained : is_detaching (rung t.phase) ≡ false → (p : ℕ) → has p s.guide.sequence ≡ true → chained s p ≡ true
      named_chained calm p h =
          by (or_cases (chained s p && not (holder_in is_hiding s.task (s.lock p) p)) (holder_in is_detaching s.task (s.lock p) p) (sym (inv.guide_shows p) ∙ h))
        where
          by : ((chained s p && not (holder_in is_hiding s.task (s.lock p) p)) ≡ true) ⊎ (holder_in is_detaching s.task (s.lock p) p ≡ true) → chained s p ≡ true
          by (inl e) = (and_parts (chained s p) (not (holder_in is_hiding s.task (s.lock p) p)) e).0
          by (inr e) = absurd (no_holder is_detaching calm (s.lock p) p e)

      -- A place of the chain is not marked.
      not_marked : {P : Type 0} → is_striking (rung t.phase) ≡ false → (p : ℕ) → chained s p ≡ true → s.marked p ≡ true → P
      not_marked calm p on m = let striker = inv.marks p on m in absurd (no_other is_striking calm striker.0 p striker.1)

      low_on : chained s low ≡ true
      low_on = ap is_chained inv.low_chained

      high_on : chained s high ≡ true
      high_on = ap is_chained inv.high_chained

      not_low : {o : Ordering} (p : ℕ) → compared rank (s.spot p) t.key ≡ o → (o ≡ Less → ⊥) → p ≡ low → ⊥
      not_low p how h e = h (sym how ∙ ap (λ q. compared rank (s.spot q) t.key) e ∙ ap (λ x. compared rank x t.key) inv.low_spot)

      not_high : {o : Ordering} (p : ℕ) → compared rank (s.spot p) t.key ≡ o → (o ≡ Greater → ⊥) → p ≡ high → ⊥
      not_high p how h e = h (sym how ∙ ap (λ q. compared rank (s.spot q) t.key) e ∙ ap (λ x. compared rank x t.key) inv.high_spot)

      -- ---- a step

      module _ (g : ℕ) (paced : Paced s t.phase t.key t.downs t.at g) where
        abbrev Pace : Sight K → Task K → Type 0
        Pace m u = Paced m u.phase u.key u.downs u.at (g + 1)

        in_phase : (f : Phase) → t.phase ≡ f → Paced s f t.key t.downs t.at g
        in_phase f e = subst (λ h. Paced s h t.key t.downs t.at g) e paced

        stay_in : (f : Phase) (downs p : ℕ) → t.phase ≡ f → Paced s f t.key downs p (g + 1) → Paced s t.phase t.key downs p (g + 1)
        stay_in f downs p e w = subst (λ h. Paced s h t.key downs p (g + 1)) (sym e) w

        goes_on : {o : Outcome K} {u v : Task K} {m n : Sight K} → o ≡ Goes v → o ≡ Goes u → m ≡ n → Pace n v → Pace m u
        goes_on {o} {u} {v} {m} {n} e h me w = let same : v ≡ u = cc in subst (λ z. Pace z u) (sym me) (subst (Pace n) same w)

        entered : t.phase ≡ Enter → (p : ℕ) → has p s.guide.sequence ≡ true → Paced s Down t.key 0 p (g + 1)
        entered e p h = let w : g ≡ 0 = in_phase Enter e in (omega arith, omega arith, named_chained (ap (λ f. is_detaching (rung f)) e) p h)

        down_few : t.phase ≡ Down → g + 1 ≤ 65
        down_few e = let w = in_phase Down e in omega (arith, w.0, w.1)

        deeper : t.phase ≡ Down → t.downs + 1 < 64 → (p : ℕ) → has p s.guide.sequence ≡ true → Paced s Down t.key (t.downs + 1) p (g + 1)
        deeper e h p there = let w = in_phase Down e in (omega (arith, w.0), h, named_chained (ap (λ f. is_detaching (rung f)) e) p there)

        checked : t.phase ≡ Check → (p : ℕ) → chained s p ≡ true → Paced s Back t.key t.downs p (g + 1)
        checked e p on = let w = in_phase Check e in (omega (arith, w.0), on)

        goes_back : t.phase ≡ Back → (t.at ≡ low → ⊥) → Paced s t.phase t.key t.downs (s.prev t.at) (g + 1)
        goes_back e h =
            let w = in_phase Back e in
            let back = precedes rank laws s inv t.at w.1 h in
            let more = above_falls rank laws s inv (s.prev t.at) t.at w.1 back.below in
            stay_in Back t.downs (s.prev t.at) e (omega (arith, w.0), back.on)

        turns : t.phase ≡ Back → (g + 1 + above rank s t.at ≤ 65 + 2 * s.size) × (chained s t.at ≡ true)
        turns e = let w = in_phase Back e in let less = above_few rank laws s inv t.at w.1 in (omega (arith, w.0), w.1)

        goes_next : (g + above rank s t.at ≤ 65 + 2 * s.size) × (chained s t.at ≡ true) → (t.at ≡ high → ⊥)
            → (g + 1 + above rank s (s.next t.at) ≤ 65 + 2 * s.size) × (chained s (s.next t.at) ≡ true)
        goes_next w h =
            let on = inv.leads t.at w.1 h in
            let less = above_falls rank laws s inv t.at (s.next t.at) on (inv.rises t.at w.1 h) in (omega (arith, w.0), on)

        below_high : leb 3 (group t.phase) ≡ true → before rank (s.spot t.at) (s.spot high) ≡ true
        below_high late =
            ap (before rank (s.spot t.at)) inv.high_spot ∙ by (s.spot t.at) ((inv.stands i t is).at_below late)
          where
            by : (x : Bound K) → before rank x (exact t.key) ≡ true → before rank x top ≡ true
            by bottom h = refl
            by (exact a) h = refl
            by top h = absurd (true≢false (sym h))

        locks : t.phase ≡ Seek → (compared rank (s.spot (s.next t.at)) t.key ≡ Less → ⊥) → Paced s Lock t.key t.downs t.at (g + 1)
        locks e h =
            let w = in_phase Seek e in
            let less = above_falls rank laws s inv t.at high high_on (below_high (ap (λ f. leb 3 (group f)) e)) in
            (omega (arith, w.0), w.1, h)

        held : t.phase ≡ Lock → Paced s Valid t.key t.downs t.at (g + 1)
        held e = let w = in_phase Lock e in (omega (arith, w.0), w.1, w.2)

        not_again : {P : Type 0} → t.phase ≡ Valid → (s.marked t.at ≡ true) ⊎ (compared rank (s.spot (s.next t.at)) t.key ≡ Less) → P
        not_again e (inl m) = not_marked (ap (λ f. is_striking (rung f)) e) t.at (in_phase Valid e).1 m
        not_again e (inr h) = absurd ((in_phase Valid e).2 h)

        valid_few : t.phase ≡ Valid → g + 1 ≤ 67 + 2 * s.size
        valid_few e = let w = in_phase Valid e in omega (arith, w.0)

        less_greater : ◌≡◌ {A = Ordering} Less Greater → ⊥
        less_greater e = let z : ◌≡◌ {A = ℕ} 0 1 = cc in omega arith

        equal_greater : ◌≡◌ {A = Ordering} Equal Greater → ⊥
        equal_greater e = let z : ◌≡◌ {A = ℕ} 0 1 = cc in omega arith

        up_not_low : (p : ℕ) → (compared rank (s.spot p) t.key ≡ Equal) ⊎ (compared rank (s.spot p) t.key ≡ Greater) → p ≡ low → ⊥
        up_not_low p (inl h) = not_low p h (equal_not_less refl)
        up_not_low p (inr h) = not_low p h (greater_not_less refl)

        down_not_high : (p : ℕ) → (compared rank (s.spot p) t.key ≡ Less) ⊎ (compared rank (s.spot p) t.key ≡ Equal) → p ≡ high → ⊥
        down_not_high p (inl h) = not_high p h less_greater
        down_not_high p (inr h) = not_high p h equal_greater

        at_not_high : leb 3 (group t.phase) ≡ true → t.at ≡ high → ⊥
        at_not_high late e = true≢false (sym (below_high late) ∙ ap (λ q. before rank (s.spot q) (s.spot high)) e ∙ ap (λ x. before rank x x) inv.high_spot)

        later : (n : ℕ) → g ≤ n + 2 * s.size → g + 1 ≤ (n + 1) + 2 * s.size
        later n h = omega arith

        first_more : t.phase ≡ First → g + 1 ≡ 1
        first_more e = let w : g ≡ 0 = in_phase First e in omega arith

        low_not_high : low ≡ high → ⊥
        low_not_high e = omega arith

        pub paces : {o : Outcome K} {m : Sight K} → Way rank s i t o m → (u : Task K) → o ≡ Goes u → Pace m u
        paces (Way.strays x0 x1 x2) u e = absurd (strays_not x0 (inv.fit i t is))
        paces (Way.enters x0 x1 x2 x3 x4) u e = goes_on x3 e x4 (entered x0 x1 x2)
        paces (Way.down_here x0 x1 x2 x3) u e = goes_on x2 e x3 (down_few x0, (in_phase Down x0).2)
        paces (Way.down_lost x0 x1 x2 x3) u e = goes_on x2 e x3 (down_few x0, low_on)
        paces (Way.down_last x0 x1 x2 x3 x4 x5 x6) u e = goes_on x5 e x6 (down_few x0, named_chained (ap (λ f. is_detaching (rung f)) x0) x2 x3)
        paces (Way.down_on x0 x1 x2 x3 x4 x5 x6) u e = goes_on x5 e x6 (stay_in Down (t.downs + 1) x2 x0 (deeper x0 x4 x2 x3))
        paces (Way.check_marked x0 x1 x2 x3) u e = goes_on x2 e x3 (checked x0 low low_on)
        paces (Way.check_unmarked x0 x1 x2 x3) u e = goes_on x2 e x3 (checked x0 t.at (in_phase Check x0).1)
        paces (Way.back_look_yes x0 x1 x2 x3 x4 x5) u e = goes_not x4 refl e
        paces (Way.back_look_marked x0 x1 x2 x3 x4 x5) u e = goes_on x4 e x5 (goes_back x0 (not_low t.at x2 (equal_not_less refl)))
        paces (Way.back_look_above x0 x1 x2 x3 x4) u e = goes_on x3 e x4 (goes_back x0 (not_low t.at x2 (greater_not_less refl)))
        paces (Way.back_look_on x0 x1 x2 x3 x4) u e = goes_on x3 e x4 (turns x0)
        paces (Way.back_after_above x0 x1 x2 x3 x4) u e = goes_on x3 e x4 (goes_back x0 (not_low t.at x2 (greater_not_less refl)))
        paces (Way.back_after_on x0 x1 x2 x3 x4) u e = goes_on x3 e x4 (turns x0)
        paces (Way.back_change_above x0 x1 x2 x3 x4) u e = goes_on x3 e x4 (goes_back x0 (up_not_low t.at x2))
        paces (Way.back_change_seek x0 x1 x2 x3 x4) u e = goes_on x3 e x4 (turns x0)
        paces (Way.on_look_next x0 x1 x2 x3 x4) u e = goes_on x3 e x4 (stay_in On t.downs (s.next t.at) x0 (goes_next (in_phase On x0) (not_high t.at x2 less_greater)))
        paces (Way.on_look_marked x0 x1 x2 x3 x4 x5) u e = goes_not x4 refl e
        paces (Way.on_look_yes x0 x1 x2 x3 x4 x5) u e = goes_not x4 refl e
        paces (Way.on_look_no x0 x1 x2 x3 x4) u e = goes_not x3 refl e
        paces (Way.on_after_next x0 x1 x2 x3 x4) u e = goes_on x3 e x4 (stay_in On t.downs (s.next t.at) x0 (goes_next (in_phase On x0) (down_not_high t.at x2)))
        paces (Way.on_after_missing x0 x1 x2 x3 x4) u e = goes_not x3 refl e
        paces (Way.on_after_marked x0 x1 x2 x3 x4 x5) u e = not_marked (ap (λ f. is_striking (rung f)) x0) t.at (in_phase On x0).1 x3
        paces (Way.on_after_found x0 x1 x2 x3 x4 x5 x6 x7) u e = goes_not x6 refl e
        paces (Way.seek_next x0 x1 x2 x3 x4) u e = goes_on x3 e x4 (stay_in Seek t.downs (s.next t.at) x0 (goes_next (in_phase Seek x0) (at_not_high (ap (λ f. leb 3 (group f)) x0))))
        paces (Way.seek_lock x0 x1 x2 x3 x4) u e = goes_on x3 e x4 (locks x0 (up_not_less x2))
        paces (Way.lock_waits x0 x1 x2 x3) u e = goes_not x2 refl e
        paces (Way.lock_taken x0 x1 x2 x3 x4) u e = goes_on x3 e x4 (held x0)
        paces (Way.valid_again x0 x1 x2 x3 x4) u e = not_again x0 x2
        paces (Way.valid_put_no x0 x1 x2 x3 x4 x5) u e = goes_not x4 refl e
        paces (Way.valid_take x0 x1 x2 x3 x4 x5) u e = goes_on x4 e x5 (valid_few x0)
        paces (Way.valid_strike_no x0 x1 x2 x3 x4 x5) u e = goes_not x4 refl e
        paces (Way.valid_victim x0 x1 x2 x3 x4 x5) u e = goes_on x4 e x5 (valid_few x0)
        paces (Way.take_none x0 x1 x2 x3) u e = goes_not x2 refl e
        paces (Way.take_some x0 x1 x2 x3 x4 x5 x6) u e = goes_on x5 e x6 (later 67 (in_phase Take x0))
        paces (Way.links x0 x1 x2) u e = goes_on x1 e x2 (later 68 (in_phase Link x0))
        paces (Way.links_back x0 x1 x2 x3) u e = goes_on x2 e x3 (later 69 (in_phase LinkBack x0))
        paces (Way.attaches x0 x1 x2 x3 x4 x5) u e = goes_on x4 e x5 (later 70 (in_phase Attach x0))
        paces (Way.releases_new x0 x1 x2) u e = goes_on x1 e x2 (later 71 (in_phase ReleaseNew x0))
        paces (Way.put_ends x0 x1 x2) u e = goes_not x1 refl e
        paces (Way.victim_waits x0 x1 x2 x3) u e = goes_not x2 refl e
        paces (Way.victim_taken x0 x1 x2 x3 x4) u e = goes_on x3 e x4 (later 67 (in_phase TakeVictim x0))
        paces (Way.marks x0 x1 x2) u e = goes_on x1 e x2 (later 68 (in_phase Mark x0))
        paces (Way.unlinks_back x0 x1 x2 x3) u e = goes_on x2 e x3 (later 69 (in_phase UnlinkBack x0))
        paces (Way.unlinks x0 x1 x2) u e = goes_on x1 e x2 (later 70 (in_phase Unlink x0))
        paces (Way.detaches x0 x1 x2 x3 x4) u e = goes_on x3 e x4 (later 71 (in_phase Detach x0))
        paces (Way.releases_victim x0 x1 x2) u e = goes_on x1 e x2 (later 72 (in_phase ReleaseVictim x0))
        paces (Way.strike_ends x0 x1 x2 x3) u e = goes_not x2 refl e
        paces (Way.first_missing x0 x1 x2 x3) u e = goes_not x2 refl e
        paces (Way.first_on_next x0 x1 x2 x3) u e = goes_on x2 e x3 (first_more x0, inv.leads low low_on low_not_high)
        paces (Way.first_marked x0 x1 x2 x3) u e = not_marked (ap (λ f. is_striking (rung f)) x0) t.at (in_phase FirstNext x0).1 x1
        paces (Way.first_found x0 x1 x2 x3 x4 x5) u e = goes_not x4 refl e
