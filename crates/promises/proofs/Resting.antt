-- That a retired place waits for just the works during which it was retired. Assumes the laws of the order, and what holds
-- between calls.
use Rattle.std.proofs.Common.{◌≡◌, ℕ, ◌<◌, Bool, true, false, cond, ◌&&◌, ◌||◌, eqb, ◌⊎◌, List, get_or, set, is_some, Some, None, Ok, Err, Option, Ordering, sym, refl, ap, ◌∙◌, inl, inr}
use Rattle.std.proofs.lemmas.List.{get_or-set_other}
use Rattle.std.proofs.lemmas.Bool.{true≢false, cases_eq, eq-eqb, ne_eqb, and_from, and_left, and_right, or_right}
use Rattle.records.specs.declared.answer.Answer.{Answer}
use Rattle.records.specs.declared.answer.Answer.TheVariants.{Yes, No, Found, Missing, NoRoom}
use Rattle.records.specs.declared.answer.Stepped.{Stepped}
use Rattle.records.specs.declared.outcome.Outcome.{Outcome}
use Rattle.records.specs.declared.outcome.Outcome.TheVariants.{Retires}
use Rattle.records.specs.declared.record.Phase.TheVariants.{StrikeEnd}
use Rattle.records.specs.declared.record.Status.{Status}
use Rattle.records.specs.declared.record.Status.TheVariants.{Free, InHand, Chained, Retired}
use Rattle.records.specs.declared.record.Task.{Task}
use Rattle.records.specs.declared.record.Work.{Work}
use Rattle.records.specs.declared.record.Work.TheVariants.{Put, Strike, Look, First as FirstWork, After}
use Rattle.engine.specs.Settling.{most_stations, anyone, retired_for as rests, without_station, awaiting_task}
use Rattle.promises.specs.Books.{Book, work_at}
use Rattle.promises.specs.Promised.{is_change, is_chained}
use Rattle.promises.specs.Runs.{Call, Reply, Run, opened, next, begin, step, leave, mend, list, begun, stepped, left, mended, listed, is_strike, is_yes, ends_with_yes, strikes_place, is_step_of, works_in, for_work, retires_now, retired_during}
use Rattle.promises.proofs.Small.{awaited_works}
use Rattle.promises.proofs.Laws.{Laws}
use Rattle.promises.proofs.Sights.{Sight, sight_of, at_with}
use Rattle.promises.proofs.Settles.{Settling, retire_put}
use Rattle.promises.proofs.Accepted.{Made}
use Rattle.promises.proofs.Invariant.{Inv, rung, group, fits, is_joined, is_handing}
use Rattle.promises.proofs.Touches.{Touch, way_touches}
use Rattle.promises.proofs.Keeps.{at_other, at_same}
use Rattle.promises.proofs.Passes.{touch_tasks, clash, others_has}
use Rattle.promises.proofs.Overs.{nobody}
use Rattle.promises.proofs.Calls.{Did, call_did, working_among}
use Rattle.promises.proofs.Doing.{Ending, ends_so}
use Rattle.promises.proofs.Seats.{joined_chained}
use Rattle.promises.proofs.Hindsight.{none_works_opened}

-- The place is retired and waits for the work of station i.
abbrev pub awaits_in : ℕ → Status → Bool
awaits_in i Free = false
awaits_in i InHand = false
awaits_in i Chained = false
awaits_in i (Retired w) = get_or w i false

retired_awaits : (w : List Bool) (i : ℕ) → awaits_in i (rests w) ≡ get_or w i false
retired_awaits w i = go (anyone w) refl
  where
    go : (b : Bool) → anyone w ≡ b → awaits_in i (cond b (Retired w) Free) ≡ get_or w i false
    go true e = refl
    go false e = sym (nobody w i e)

over_awaits : (awaited : Bool) (i j : ℕ) → (i ≡ j → ⊥) → (x : Status) → awaits_in i (cond awaited (without_station j x) x) ≡ awaits_in i x
over_awaits false i j apart x = refl
over_awaits true i j apart Free = refl
over_awaits true i j apart InHand = refl
over_awaits true i j apart Chained = refl
over_awaits true i j apart (Retired w) = retired_awaits (set w j false) i ∙ get_or-set_other w j i false false apart

awaiting_works : {K : Type 0} (x : Option (Task K)) → is_some (awaiting_task x) ≡ is_some x
awaiting_works None = refl
awaiting_works (Some t) = refl

chained_awaits_none : (i : ℕ) (x : Status) → is_chained x ≡ true → awaits_in i x ≡ false
chained_awaits_none i Free h = refl
chained_awaits_none i InHand h = refl
chained_awaits_none i Chained h = refl
chained_awaits_none i (Retired w) h = absurd (true≢false (sym h))

module _ {K : Type 0} (rank : K → K → Ordering) (s : Sight K) (inv : Inv rank s) where
  -- A place waits for no station that has no work under way.
  pub idle_awaits_none : (i p : ℕ) → is_some (s.task i) ≡ false → awaits_in i (s.status p) ≡ false
  idle_awaits_none i p idle = go (s.status p) refl
    where
      by : (w : List Bool) → s.status p ≡ Retired w → (b : Bool) → get_or w i false ≡ b → b ≡ false
      by w e true g = absurd (true≢false (sym (awaited_works (s.task i) (inv.awaits p w e i g)) ∙ idle))
      by w e false g = refl

      go : (x : Status) → s.status p ≡ x → awaits_in i x ≡ false
      go Free e = refl
      go InHand e = refl
      go Chained e = refl
      go (Retired w) e = by w e (get_or w i false) refl

-- ---- one step

module _ {K : Type 0} (rank : K → K → Ordering) (laws : Laws rank) (s : Sight K) (inv : Inv rank s) (j : ℕ) (t : Task K) (is : s.task j ≡ Some t) (i p : ℕ) where
  put_awaits : (q : ℕ) (x : Status) → awaits_in i x ≡ false → awaits_in i (s.status q) ≡ false → awaits_in i (at_with s.status q x p) ≡ awaits_in i (s.status p)
  put_awaits q x now was = go (cases_eq q p)
    where
      go : (q ≡ p) ⊎ (q ≡ p → ⊥) → awaits_in i (at_with s.status q x p) ≡ awaits_in i (s.status p)
      go (inl same) = ap (awaits_in i) (at_same s.status q x p same) ∙ now ∙ sym was ∙ ap (λ r. awaits_in i (s.status r)) same
      go (inr other) = ap (awaits_in i) (at_other s.status q x p other)

  -- No rule makes a place wait, or ends that a place waits.
  rule_awaits : {o : Outcome K} {m : Sight K} → Touch s t o m → awaits_in i (m.status p) ≡ awaits_in i (s.status p)
  rule_awaits (Touch.stays calm same) = ap (λ f. awaits_in i (f p)) same.status
  rule_awaits (Touch.fills calm q free x hand e) = ap (λ z. awaits_in i (z.status p)) e ∙ put_awaits q x.status (ap (awaits_in i) hand) (ap (awaits_in i) free)
  rule_awaits (Touch.joins calm f e) =
      ap (λ z. awaits_in i (z.status p)) e ∙ put_awaits t.other Chained refl (ap (awaits_in i) ((inv.stands j t is).in_hand (ap (λ x. is_handing (rung x)) f)))
  rule_awaits (Touch.backs calm f q e) = ap (λ z. awaits_in i (z.status p)) e
  rule_awaits (Touch.marks calm f e) = ap (λ z. awaits_in i (z.status p)) e
  rule_awaits (Touch.cuts calm f e) =
      ap (λ z. awaits_in i (z.status p)) e
      ∙ put_awaits t.other InHand refl (chained_awaits_none i (s.status t.other) (joined_chained rank laws s inv j t is (ap (λ x. is_joined (rung x)) f)))
  rule_awaits (Touch.hands_over f oc same) = ap (λ g. awaits_in i (g p)) same.status

-- A strike that ends with yes has retired its place.
no_strike : (work : Work) → is_change work ≡ false → is_strike work ≡ false
no_strike Put h = refl
no_strike Strike h = h
no_strike Look h = refl
no_strike FirstWork h = refl
no_strike After h = refl

put_only : (work : Work) → fits work 4 ≡ true → is_strike work ≡ false
put_only Put h = refl
put_only Strike h = absurd (true≢false (sym h))
put_only Look h = refl
put_only FirstWork h = refl
put_only After h = refl

strike_only : (work : Work) → fits work 5 ≡ true → is_strike work ≡ true
strike_only Put h = h
strike_only Strike h = refl
strike_only Look h = h
strike_only FirstWork h = h
strike_only After h = h

ends_no_strike : {K : Type 0} (t : Task K) (a : Answer K) → fits t.work (group t.phase) ≡ true → Ending t a → (is_strike t.work && is_yes a) ≡ false
ends_no_strike t a fit (Ending.put_done f e) = and_left (is_strike t.work) (is_yes a) (put_only t.work (ap (λ x. fits t.work (group x)) (sym f) ∙ fit))
ends_no_strike t Yes fit (Ending.unchanged z only) = and_left (is_strike t.work) true (no_strike t.work (only refl))
ends_no_strike t No fit (Ending.unchanged z only) = and_right (is_strike t.work) false refl
ends_no_strike t (Found k) fit (Ending.unchanged z only) = and_right (is_strike t.work) false refl
ends_no_strike t Missing fit (Ending.unchanged z only) = and_right (is_strike t.work) false refl
ends_no_strike t NoRoom fit (Ending.unchanged z only) = and_right (is_strike t.work) false refl

and_outer : (a b c : Bool) → (a && c) ≡ false → ((a && b) && c) ≡ false
and_outer true true c h = h
and_outer true false c h = refl
and_outer false b c h = refl

or_none : (a b : Bool) → b ≡ false → a ≡ (a || b)
or_none true b h = refl
or_none false b h = sym h

module _ {K : Type 0} (rank : K → K → Ordering) (laws : Laws rank) (s : Sight K) (inv : Inv rank s) (j : ℕ) (a : Stepped K) (s' : Sight K) (made : Made rank s j a s') where
  abbrev t : Task K
  t = made.task

  -- A station that works after a step worked before it.
  step_works : (i : ℕ) → is_some (s'.task i) ≡ true → is_some (s.task i) ≡ true
  step_works i works = go made.settling (cases_eq j i)
    where
      same : made.mid.task ≡ s.task
      same = touch_tasks (way_touches made.way)

      go : Settling made.mid j t made.outcome a s' → (j ≡ i) ⊎ (j ≡ i → ⊥) → is_some (s.task i) ≡ true
      go settling (inl own) = ap (λ k. is_some (s.task k)) (sym own) ∙ ap is_some made.under_way
      go (Settling.goes u oc ac e) (inr other) = ap (λ f. is_some (f i)) (sym same) ∙ ap is_some (sym (at_other made.mid.task j _ i other)) ∙ ap (λ z. is_some (z.task i)) (sym e) ∙ works
      go (Settling.waits oc ac e) (inr other) = ap (λ f. is_some (f i)) (sym same) ∙ ap is_some (sym (at_other made.mid.task j _ i other)) ∙ ap (λ z. is_some (z.task i)) (sym e) ∙ works
      go (Settling.ends x oc ac e) (inr other) = ap (λ f. is_some (f i)) (sym same) ∙ ap is_some (sym (at_other made.mid.task j None i other)) ∙ ap (λ z. is_some (z.task i)) (sym e) ∙ works
      go (Settling.retires q oc ac w others e) (inr other) =
          ap (λ f. is_some (f i)) (sym same) ∙ sym (awaiting_works (made.mid.task i))
          ∙ ap is_some (sym (at_other (retire_put q (rests w) made.mid).task j None i other)) ∙ ap (λ z. is_some (z.task i)) (sym e) ∙ works

  module _ (i p : ℕ) (among : i < most_stations) (works : is_some (s.task i) ≡ true) (works' : is_some (s'.task i) ≡ true) where
    -- The step ends the strike of p with yes.
    abbrev now : Bool
    now = (is_strike t.work && eqb t.other p) && ends_with_yes (Ok a)

    by_rule : awaits_in i (made.mid.status p) ≡ awaits_in i (s.status p)
    by_rule = rule_awaits rank laws s inv j t made.under_way i p (way_touches made.way)

    quiet : now ≡ false → awaits_in i (s.status p) ≡ (awaits_in i (s.status p) || now)
    quiet h = or_none (awaits_in i (s.status p)) now h

    left_over : (f : ℕ → Option (Task K)) → s'.task ≡ at_with f j None → i ≡ j → ⊥
    left_over f e same = true≢false (sym works' ∙ ap (λ g. is_some (g i)) e ∙ ap is_some (at_same f j None i (sym same)))

    retiring : (q : ℕ) → made.outcome ≡ Retires q → Touch s t made.outcome made.mid → (t.phase ≡ StrikeEnd) × (t.other ≡ q)
    retiring q oc (Touch.stays calm same) = clash calm oc
    retiring q oc (Touch.fills calm r free x hand e) = clash calm oc
    retiring q oc (Touch.joins calm f e) = clash calm oc
    retiring q oc (Touch.backs calm f r e) = clash calm oc
    retiring q oc (Touch.marks calm f e) = clash calm oc
    retiring q oc (Touch.cuts calm f e) = clash calm oc
    retiring q oc (Touch.hands_over f o same) = (f, let other : t.other ≡ q = cc in other)

    by_place : (q : ℕ) (w : List Bool) → made.outcome ≡ Retires q → get_or w i false ≡ true → ends_with_yes (Ok a) ≡ true → (q ≡ p) ⊎ (q ≡ p → ⊥)
        → awaits_in i (at_with made.mid.status q (rests w) p) ≡ (awaits_in i (s.status p) || now)
    by_place q w oc waits said (inl same) =
        let struck = retiring q oc (way_touches made.way) in
        ap (awaits_in i) (at_same made.mid.status q (rests w) p same) ∙ retired_awaits w i ∙ waits
        ∙ sym (or_right (awaits_in i (s.status p)) now (and_from _ _ (and_from _ _
        (strike_only t.work (ap (λ x. fits t.work (group x)) (sym struck.0) ∙ inv.fit j t made.under_way)) (eq-eqb t.other p (struck.1 ∙ same))) said))
    by_place q w oc waits said (inr other) =
        let struck = retiring q oc (way_touches made.way) in
        ap (awaits_in i) (at_other made.mid.status q (rests w) p other) ∙ by_rule
        ∙ quiet (and_left _ _ (and_right (is_strike t.work) _ (ne_eqb t.other p (λ e. other (sym struck.1 ∙ e)))))

    step_awaits : awaits_in i (s'.status p) ≡ (awaits_in i (s.status p) || now)
    step_awaits = go made.settling
      where
        go : Settling made.mid j t made.outcome a s' → awaits_in i (s'.status p) ≡ (awaits_in i (s.status p) || now)
        go (Settling.goes u oc ac e) = ap (λ z. awaits_in i (z.status p)) e ∙ by_rule ∙ quiet (and_right _ _ (ap (λ x. ends_with_yes (Ok x)) ac))
        go (Settling.waits oc ac e) = ap (λ z. awaits_in i (z.status p)) e ∙ by_rule ∙ quiet (and_right _ _ (ap (λ x. ends_with_yes (Ok x)) ac))
        go (Settling.ends x oc ac e) =
            ap (λ z. awaits_in i (z.status p)) e ∙ over_awaits t.awaited i j (left_over made.mid.task (ap (λ z. z.task) e)) (made.mid.status p) ∙ by_rule
            ∙ quiet (and_outer (is_strike t.work) (eqb t.other p) (ends_with_yes (Ok a)) (ap (λ y. is_strike t.work && ends_with_yes (Ok y)) ac
            ∙ ends_no_strike t x (inv.fit j t made.under_way) (ends_so made.way x oc).1))
        go (Settling.retires q oc ac w others e) =
            let apart = left_over (retire_put q (rests w) made.mid).task (ap (λ z. z.task) e) in
            ap (λ z. awaits_in i (z.status p)) e ∙ over_awaits t.awaited i j apart (at_with made.mid.status q (rests w) p)
            ∙ by_place q w oc (others_has i j made.mid w others among apart (ap (λ f. is_some (f i)) (touch_tasks (way_touches made.way)) ∙ works))
            (ap (λ x. ends_with_yes (Ok x)) ac) (cases_eq q p)

-- ---- one call

module _ {K : Type 0} (rank : K → K → Ordering) where
  -- Only an accepted step retires a place.
  stepless_retires_none : (p : ℕ) (b : Book K) (c : Call K) (a : Reply K) → ((i : ℕ) → is_step_of rank i c a ≡ false) → retires_now rank p b c a ≡ false
  stepless_retires_none p b (begin j work key) a steps = refl
  stepless_retires_none p b (step j) (begun r) steps = refl
  stepless_retires_none p b (step j) (stepped (Ok x)) steps = absurd (true≢false (sym (and_from (eqb j j) true (eq-eqb j j refl) refl) ∙ steps j))
  stepless_retires_none p b (step j) (stepped (Err e)) steps = and_right (strikes_place p (work_at b j)) false refl
  stepless_retires_none p b (step j) (left r) steps = refl
  stepless_retires_none p b (step j) (mended m) steps = refl
  stepless_retires_none p b (step j) (listed r after) steps = refl
  stepless_retires_none p b (leave j) a steps = refl
  stepless_retires_none p b mend a steps = refl
  stepless_retires_none p b (list given) a steps = refl

module _ {K : Type 0} (rank : K → K → Ordering) (laws : Laws rank) (b : Book K) (inv : Inv rank (sight_of b)) (c : Call K) (a : Reply K) (b' : Book K) (i p : ℕ) where
  abbrev waits : Book K → Bool
  waits x = awaits_in i ((sight_of x).status p)

  -- No place waits for a work that was just begun.
  begun_awaits : Did rank b c a b' → works_in rank b i ≡ false → works_in rank b' i ≡ true → waits b' ≡ false
  begun_awaits (Did.nothing stepless e) rested works = absurd (true≢false (sym works ∙ ap (λ x. works_in rank x i) e ∙ rested))
  begun_awaits (Did.begins j work key ce idle ps e) rested works = ap (λ z. awaits_in i (z.status p)) e ∙ idle_awaits_none rank (sight_of b) inv i p rested
  begun_awaits (Did.makes j x ce ae made) rested works = absurd (true≢false (sym (step_works rank laws (sight_of b) inv j x (sight_of b') made i works) ∙ rested))
  begun_awaits (Did.leaves j t ce busy ps e) rested works = go (cases_eq j i)
    where
      go : (j ≡ i) ⊎ (j ≡ i → ⊥) → waits b' ≡ false
      go (inl same) = absurd (true≢false (sym works ∙ ap (λ z. is_some (z.task i)) e ∙ ap is_some (at_same (work_at b) j None i same)))
      go (inr other) = absurd (true≢false (sym works ∙ ap (λ z. is_some (z.task i)) e ∙ ap is_some (at_other (work_at b) j None i other) ∙ rested))

  -- A place comes to wait for a work just by the end of its strike.
  going_awaits : Did rank b c a b' → works_in rank b i ≡ true → works_in rank b' i ≡ true → waits b' ≡ (waits b || retires_now rank p b c a)
  going_awaits (Did.nothing stepless e) works works' = ap waits e ∙ or_none (waits b) (retires_now rank p b c a) (stepless_retires_none rank p b c a stepless)
  going_awaits (Did.begins j work key ce idle ps e) works works' =
      ap (λ z. awaits_in i (z.status p)) e ∙ or_none (waits b) (retires_now rank p b c a) (ap (λ z. retires_now rank p b z a) ce)
  going_awaits (Did.makes j x ce ae made) works works' =
      step_awaits rank laws (sight_of b) inv j x (sight_of b') made i p (working_among b.stations i works) works works'
      ∙ ap (λ z. waits b || z) (sym (ap (λ z. retires_now rank p b z a) ce ∙ ap (retires_now rank p b (step j)) ae ∙ ap (λ z. strikes_place p z && ends_with_yes (Ok x)) made.under_way))
  going_awaits (Did.leaves j t ce busy ps e) works works' =
      ap (λ z. awaits_in i (z.status p)) e
      ∙ over_awaits t.awaited i j (λ same. true≢false (sym works' ∙ ap (λ z. is_some (z.task i)) e ∙ ap is_some (at_same (work_at b) j None i (sym same)))) ((sight_of b).status p)
      ∙ or_none (waits b) (retires_now rank p b c a) (ap (λ z. retires_now rank p b z a) ce)

  call_awaits : Inv rank (sight_of b') → Did rank b c a b' → (h : Bool) → waits b ≡ h
      → waits b' ≡ for_work rank (works_in rank b i) (works_in rank b' i) false false (h || retires_now rank p b c a)
  call_awaits inv' did h known = go (works_in rank b i) (works_in rank b' i) refl refl
    where
      go : (x y : Bool) → works_in rank b i ≡ x → works_in rank b' i ≡ y → waits b' ≡ for_work rank x y false false (h || retires_now rank p b c a)
      go x false ex ey = idle_awaits_none rank (sight_of b') inv' i p ey
      go false true ex ey = begun_awaits did ex ey
      go true true ex ey = going_awaits did ex ey ∙ ap (λ z. z || retires_now rank p b c a) known

module _ {K : Type 0} (rank : K → K → Ordering) (laws : Laws rank) (inv : (b : Book K) → Run rank b → Inv rank (sight_of b)) where
  -- In every run a place waits for the work of station i exactly if it was retired during it.
  pub awaits_known : {b : Book K} (r : Run rank b) (p i : ℕ) → awaits_in i ((sight_of b).status p) ≡ retired_during rank r p i
  unfolding retired_during
  awaits_known (opened most ps ss o e) p i = idle_awaits_none rank _ (inv _ (opened most ps ss o e)) i p (ap is_some (none_works_opened most ps ss o e i))
  awaits_known (next {b} c a b' r d) p i =
      call_awaits rank laws b (inv b r) c a b' i p (inv b' (next c a b' r d)) (call_did rank b c a b' d) (retired_during rank r p i) (awaits_known r p i)
