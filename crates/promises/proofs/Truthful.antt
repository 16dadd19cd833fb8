-- Every answer but a put's or a strike's yes is true of the keys at a moment of its work. Assumes the laws of the order, the
-- invariant of every book of a run, that the predecessor of a place of the chain is on it, and that the keys of a book are
-- those of the unmarked places of its chain.
use Rattle.std.proofs.Common.{◌≡◌, ℕ, ◌≤◌, Bool, true, false, leb, ◌⊎◌, List, [], ◌∷◌, is_some, Some, Ordering, Equal, Greater, sym, refl, ap, ◌∙◌, subst, inl, inr, arith}
use Rattle.std.proofs.lemmas.Bool.{true≢false, not-true}
use Rattle.guides.specs.Meaning.{low, high}
use Rattle.records.specs.declared.answer.Answer.{Answer}
use Rattle.records.specs.declared.answer.Answer.TheVariants.{Found, Missing}
use Rattle.records.specs.declared.answer.Stepped.TheVariants.{Ended}
use Rattle.records.specs.declared.outcome.Outcome.{Outcome}
use Rattle.records.specs.declared.outcome.Outcome.TheVariants.{Goes, Waits, Ends, Retires}
use Rattle.records.specs.declared.record.Phase.{Phase}
use Rattle.records.specs.declared.record.Phase.TheVariants.{On, Valid, Take, PutEnd, StrikeEnd, First, FirstNext}
use Rattle.records.specs.declared.record.Task.{Task}
use Rattle.records.specs.declared.record.Work.{Work}
use Rattle.records.specs.declared.record.Work.TheVariants.{Put, Strike, Look, First as FirstWork, After}
use Rattle.promises.specs.Books.{Book, keys, work_at}
use Rattle.promises.specs.Promised.{is_change, IsChangeDone, AtSome, AnswersAreTrue}
use Rattle.promises.specs.Runs.{Run, since}
use Rattle.promises.specs.Truths.{Holds, TrueOf}
use Rattle.promises.proofs.Chains.{nothing_before_bottom}
use Rattle.promises.proofs.Small.{fits_first, fits_put, fits_strike}
use Rattle.promises.proofs.Laws.{Laws, Bound, bottom, exact, top, before, compared, equal_is_exact, greater_is_after}
use Rattle.promises.proofs.Sights.{Sight, sight_of}
use Rattle.promises.proofs.Views.{Way}
use Rattle.promises.proofs.Settles.{Settling}
use Rattle.promises.proofs.Accepted.{accepted_step_made}
use Rattle.promises.proofs.Invariant.{Inv, chained, fits, group}
use Rattle.promises.proofs.Touches.{Touch, way_touches}
use Rattle.promises.proofs.Passes.{clash}
use Rattle.promises.proofs.Hindsight.{Among, Struck, Remembers, now_among, hindsight}
use Rattle.promises.proofs.Works.{some_injects}
use Rattle.promises.proofs.Walked.{Walked, LowKnown, Came, low_for, low_not_high, came_on, either_known, seen_unmarked}
use Rattle.promises.proofs.Spans.{since_runs, walked}
use Rattle.promises.proofs.Moments.{ShowsKeys, never_both, absent_next, absent_marked, smallest_above, none_above, smallest_of, none_at_all, valid_next_unmarked, at_low}

past_two : (n : ℕ) → (n ≡ low → ⊥) → (n ≡ high → ⊥) → 2 ≤ n
past_two n h k = omega arith

module _ {K : Type 0} (rank : K → K → Ordering) where
  low_is_bottom : (x : Bound K) (k : K) → low_for rank FirstWork x k ≡ true → x ≡ bottom
  low_is_bottom bottom k h = refl
  low_is_bottom (exact j) k h = absurd (true≢false (sym h))
  low_is_bottom top k h = absurd (true≢false (sym h))

  at_some : (P : List K → Type 0) (σ : Book K) (bs : List (Book K)) → Among σ bs → P (keys σ) → AtSome rank P bs
  at_some P σ [] m h = absurd m
  at_some P σ (x ∷ xs) (inl e) h = inl (subst (λ z. P (keys z)) (sym e) h)
  at_some P σ (x ∷ xs) (inr m) h = inr (at_some P σ xs m h)

  abbrev ending : Outcome K → Bool
  ending (Goes u) = false
  ending Waits = false
  ending (Ends a) = true
  ending (Retires p) = false

  ends_not : {P : Type 0} {o x : Outcome K} {a : Answer K} → o ≡ x → ending x ≡ false → o ≡ Ends a → P
  ends_not e calm h = absurd (true≢false (sym (ap ending h) ∙ ap ending e ∙ calm))

  -- Only STRIKE-END retires a place.
  retires_in : {s : Sight K} {t : Task K} {o : Outcome K} {m : Sight K} → Touch s t o m → (q : ℕ) → o ≡ Retires q → t.phase ≡ StrikeEnd
  retires_in (Touch.stays calm same) q e = clash calm e
  retires_in (Touch.fills calm p is x in_hand se) q e = clash calm e
  retires_in (Touch.joins calm f se) q e = clash calm e
  retires_in (Touch.backs calm f p se) q e = clash calm e
  retires_in (Touch.marks calm f se) q e = clash calm e
  retires_in (Touch.cuts calm f se) q e = clash calm e
  retires_in (Touch.hands_over f oc same) q e = f

-- The books at which the work t of station i was under way, b the newest of them.
module _ {K : Type 0} (rank : K → K → Ordering) (laws : Laws rank) (i : ℕ) (b : Book K) (bs : List (Book K)) (here : Among b bs)
    (inv_of : (σ : Book K) → Among σ bs → Inv rank (sight_of σ))
    (hind : (σ : Book K) → Among σ bs → (p : ℕ) → chained (sight_of σ) p ≡ true → Remembers i b bs σ p)
    (prevs : (σ : Book K) → Among σ bs → (p : ℕ) → chained (sight_of σ) p ≡ true → (p ≡ low → ⊥) → chained (sight_of σ) ((sight_of σ).prev p) ≡ true)
    (shows : (σ : Book K) → Among σ bs → ShowsKeys σ)
    (t : Task K) (is : work_at b i ≡ Some t) (known : Walked rank bs t.phase t.work t.key t.at) where
  -- The key of the work was absent at some moment.
  abbrev WasAbsent : Type 0
  WasAbsent = (σ : Book K) × Among σ bs × (Holds t.key (keys σ) → ⊥)

  now : Inv rank (sight_of b)
  now = inv_of b here

  fit_in : (f : Phase) → t.phase ≡ f → fits t.work (group f) ≡ true
  fit_in f e = ap (λ g. fits t.work (group g)) (sym e) ∙ now.fit i t is

  on_now : (sight_of b).marked t.at ≡ false → chained (sight_of b) t.at ≡ true
  on_now = seen_unmarked rank laws i b bs here inv_of hind prevs t.at (now.seen i t is)

  known_as : (f : Phase) (w : Work) → t.phase ≡ f → t.work ≡ w → Walked rank bs f w t.key t.at
  known_as f w e e' = subst (λ g. Walked rank bs g w t.key t.at) e (subst (λ v. Walked rank bs t.phase v t.key t.at) e' known)

  came_on_then : (w : Work) (m : Came rank bs w t.key t.at) → chained (sight_of m.book) t.at ≡ true
  came_on_then w m = came_on rank laws i b bs here inv_of hind prevs w t.key t.at m

  came_spot : (w : Work) (m : Came rank bs w t.key t.at) → (sight_of m.book).spot t.at ≡ (sight_of b).spot t.at
  came_spot w m = sym (hind m.book m.among t.at (came_on_then w m)).spot

  unmarked_then : (w : Work) (m : Came rank bs w t.key t.at) → (sight_of b).marked t.at ≡ false → (sight_of m.book).marked t.at ≡ false
  unmarked_then w m h = go ((sight_of m.book).marked t.at) refl
    where
      go : (c : Bool) → (sight_of m.book).marked t.at ≡ c → c ≡ false
      go true e = absurd (true≢false (sym ((hind m.book m.among t.at (came_on_then w m)).mark e) ∙ h))
      go false e = refl

  tells : (σ : Book K) → Among σ bs → (w : Work) → t.work ≡ w → {o : Outcome K} {y a : Answer K} → o ≡ Ends y → o ≡ Ends a → TrueOf rank w t.key y (keys σ)
      → AtSome rank (TrueOf rank t.work t.key a) bs
  tells σ m w e {o} {y} {a} oc oe h =
      let same : y ≡ a = cc in
      at_some rank (TrueOf rank t.work t.key a) σ bs m
      (subst (λ z. TrueOf rank t.work t.key z (keys σ)) same (subst (λ v. TrueOf rank v t.key y (keys σ)) (sym e) h))

  -- ---- looks

  look_yes : compared rank ((sight_of b).spot t.at) t.key ≡ Equal → (sight_of b).marked t.at ≡ false → Holds t.key (keys b)
  look_yes e unmarked = (shows b here).held t.at t.key (on_now unmarked) unmarked (equal_is_exact rank laws ((sight_of b).spot t.at) t.key e)

  look_marked_by : (sight_of b).spot t.at ≡ exact t.key → (sight_of b).marked t.at ≡ true → (chained (sight_of b) t.at ≡ true) ⊎ Struck i b bs t.at → WasAbsent
  look_marked_by e m (inl on) = (b, here, absent_marked rank laws b now (shows b here) t.at t.key on m e)
  look_marked_by e m (inr x) = (
    x.last,
    x.among,
    absent_marked rank laws x.last (inv_of x.last x.among) (shows x.last x.among) t.at t.key x.on x.marked
        (sym (hind x.last x.among t.at x.on).spot ∙ e),
  )

  look_marked : t.phase ≡ On → compared rank ((sight_of b).spot t.at) t.key ≡ Equal → (sight_of b).marked t.at ≡ true → WasAbsent
  look_marked f e m =
      let was = either_known rank laws i b bs here inv_of hind prevs t.work t.key t.at (known_as On t.work f refl) in
      look_marked_by (equal_is_exact rank laws ((sight_of b).spot t.at) t.key e) m (hind was.book was.among t.at was.on).fate

  look_no_by : before rank (exact t.key) ((sight_of b).spot t.at) ≡ true → LowKnown rank bs Look t.key t.at ⊎ Came rank bs Look t.key t.at → WasAbsent
  look_no_by above (inl m) =
      absurd (never_both rank laws (exact t.key) ((sight_of b).spot t.at) above
      (ap (λ x. before rank x (exact t.key)) (hind m.book m.among t.at m.on).spot ∙ m.low))
  look_no_by above (inr m) = (
    m.book,
    m.among,
    absent_next rank laws m.book (inv_of m.book m.among) (shows m.book m.among) m.from t.key m.on m.low
        (ap (λ x. before rank (exact t.key) ((sight_of m.book).spot x)) m.leads ∙ ap (before rank (exact t.key)) (came_spot Look m) ∙ above),
  )

  look_no : t.phase ≡ On → t.work ≡ Look → compared rank ((sight_of b).spot t.at) t.key ≡ Greater → WasAbsent
  look_no f w e = look_no_by (greater_is_after rank laws ((sight_of b).spot t.at) t.key e) (known_as On Look f w)

  -- ---- afters

  abbrev Told : Work → Answer K → Type 0
  Told w a = (σ : Book K) × Among σ bs × TrueOf rank w t.key a (keys σ)

  after_missing : t.at ≡ high → LowKnown rank bs After t.key t.at ⊎ Came rank bs After t.key t.at → Told After Missing
  after_missing e (inl m) = absurd (low_not_high rank (sight_of m.book) (inv_of m.book m.among) After t.key t.at m.low e)
  after_missing e (inr m) = (
    m.book,
    m.among,
    none_above rank laws m.book (inv_of m.book m.among) (shows m.book m.among) m.from t.key m.on
        (not-true (before rank (exact t.key) ((sight_of m.book).spot m.from)) m.low) (m.leads ∙ e),
  )

  after_found : (a : K) → before rank (exact t.key) ((sight_of b).spot t.at) ≡ true → (sight_of b).marked t.at ≡ false → (sight_of b).spot t.at ≡ exact a
      → LowKnown rank bs After t.key t.at ⊎ Came rank bs After t.key t.at → Told After (Found a)
  after_found a above unmarked e (inl m) =
      absurd (true≢false (sym above ∙ ap (before rank (exact t.key)) (hind m.book m.among t.at m.on).spot
      ∙ not-true (before rank (exact t.key) ((sight_of m.book).spot t.at)) m.low))
  after_found a above unmarked e (inr m) = (
    m.book,
    m.among,
    smallest_above rank laws m.book (inv_of m.book m.among) (shows m.book m.among) m.from t.at t.key a m.on
        (not-true (before rank (exact t.key) ((sight_of m.book).spot m.from)) m.low) m.leads (came_on_then After m) (unmarked_then After m unmarked)
        (came_spot After m ∙ e) (ap (before rank (exact t.key)) (came_spot After m) ∙ above),
  )

  -- ---- firsts

  first_found : (a : K) → (2 ≤ t.at → (sight_of b).spot t.at ≡ exact a) → (sight_of b).marked t.at ≡ false → Came rank bs FirstWork t.key t.at × (t.at ≡ high → ⊥) → Told FirstWork (Found a)
  first_found a e unmarked (m, not_high) =
      let inv = inv_of m.book m.among in
      let bottomed = low_is_bottom rank ((sight_of m.book).spot m.from) t.key m.low in
      let not_low : t.at ≡ low → ⊥ = λ h. true≢false (sym (inv.rises m.from m.on (low_not_high rank (sight_of m.book) inv FirstWork t.key m.from m.low))
      ∙ ap (λ x. before rank ((sight_of m.book).spot m.from) ((sight_of m.book).spot x)) (m.leads ∙ h)
      ∙ ap (before rank ((sight_of m.book).spot m.from)) inv.low_spot ∙ nothing_before_bottom rank ((sight_of m.book).spot m.from)) in (
        m.book,
        m.among,
        smallest_of rank laws m.book inv (shows m.book m.among) m.from t.at a m.on bottomed m.leads (came_on_then FirstWork m)
            (unmarked_then FirstWork m unmarked) (came_spot FirstWork m ∙ e (past_two t.at not_low not_high)),
      )

  -- ---- puts and strikes

  put_no : t.phase ≡ Valid → (sight_of b).marked t.at ≡ false → compared rank ((sight_of b).spot ((sight_of b).next t.at)) t.key ≡ Equal → Holds t.key (keys b)
  put_no f unmarked e =
      let on = on_now unmarked in
      (shows b here).held ((sight_of b).next t.at) t.key (now.leads t.at on (at_low rank laws (sight_of b) now i t is f on))
      (valid_next_unmarked rank laws (sight_of b) now i t is f on) (equal_is_exact rank laws ((sight_of b).spot ((sight_of b).next t.at)) t.key e)

  strike_no : t.phase ≡ Valid → (sight_of b).marked t.at ≡ false → compared rank ((sight_of b).spot ((sight_of b).next t.at)) t.key ≡ Greater → Holds t.key (keys b) → ⊥
  strike_no f unmarked e =
      absent_next rank laws b now (shows b here) t.at t.key (on_now unmarked) ((now.stands i t is).at_below (ap (λ g. leb 3 (group g)) f))
      (greater_is_after rank laws ((sight_of b).spot ((sight_of b).next t.at)) t.key e)

  pub ends_true : (a : Answer K) → (IsChangeDone t.work a → ⊥) → {o : Outcome K} {m : Sight K} → Way rank (sight_of b) i t o m → o ≡ Ends a → AtSome rank (TrueOf rank t.work t.key a) bs
  ends_true a open_end (Way.strays x0 x1 x2) e = ends_not rank x1 refl e
  ends_true a open_end (Way.enters x0 x1 x2 x3 x4) e = ends_not rank x3 refl e
  ends_true a open_end (Way.down_here x0 x1 x2 x3) e = ends_not rank x2 refl e
  ends_true a open_end (Way.down_lost x0 x1 x2 x3) e = ends_not rank x2 refl e
  ends_true a open_end (Way.down_last x0 x1 x2 x3 x4 x5 x6) e = ends_not rank x5 refl e
  ends_true a open_end (Way.down_on x0 x1 x2 x3 x4 x5 x6) e = ends_not rank x5 refl e
  ends_true a open_end (Way.check_marked x0 x1 x2 x3) e = ends_not rank x2 refl e
  ends_true a open_end (Way.check_unmarked x0 x1 x2 x3) e = ends_not rank x2 refl e
  ends_true a open_end (Way.back_look_yes x0 x1 x2 x3 x4 x5) e = tells b here Look x1 x4 e (look_yes x2 x3)
  ends_true a open_end (Way.back_look_marked x0 x1 x2 x3 x4 x5) e = ends_not rank x4 refl e
  ends_true a open_end (Way.back_look_above x0 x1 x2 x3 x4) e = ends_not rank x3 refl e
  ends_true a open_end (Way.back_look_on x0 x1 x2 x3 x4) e = ends_not rank x3 refl e
  ends_true a open_end (Way.back_after_above x0 x1 x2 x3 x4) e = ends_not rank x3 refl e
  ends_true a open_end (Way.back_after_on x0 x1 x2 x3 x4) e = ends_not rank x3 refl e
  ends_true a open_end (Way.back_change_above x0 x1 x2 x3 x4) e = ends_not rank x3 refl e
  ends_true a open_end (Way.back_change_seek x0 x1 x2 x3 x4) e = ends_not rank x3 refl e
  ends_true a open_end (Way.on_look_next x0 x1 x2 x3 x4) e = ends_not rank x3 refl e
  ends_true a open_end (Way.on_look_marked x0 x1 x2 x3 x4 x5) e = let w = look_marked x0 x2 x3 in tells w.0 w.1 Look x1 x4 e w.2
  ends_true a open_end (Way.on_look_yes x0 x1 x2 x3 x4 x5) e = tells b here Look x1 x4 e (look_yes x2 x3)
  ends_true a open_end (Way.on_look_no x0 x1 x2 x3 x4) e = let w = look_no x0 x1 x2 in tells w.0 w.1 Look x1 x3 e w.2
  ends_true a open_end (Way.on_after_next x0 x1 x2 x3 x4) e = ends_not rank x3 refl e
  ends_true a open_end (Way.on_after_missing x0 x1 x2 x3 x4) e = let w = after_missing x2 (known_as On After x0 x1) in tells w.0 w.1 After x1 x3 e w.2
  ends_true a open_end (Way.on_after_marked x0 x1 x2 x3 x4 x5) e = ends_not rank x4 refl e
  ends_true a open_end (Way.on_after_found x0 x1 x2 x3 x4 x5 x6 x7) e = let w = after_found x4 (greater_is_after rank laws ((sight_of b).spot t.at) t.key x2) x3 x5 (known_as On After x0 x1) in tells w.0 w.1 After x1 x6 e w.2
  ends_true a open_end (Way.seek_next x0 x1 x2 x3 x4) e = ends_not rank x3 refl e
  ends_true a open_end (Way.seek_lock x0 x1 x2 x3 x4) e = ends_not rank x3 refl e
  ends_true a open_end (Way.lock_waits x0 x1 x2 x3) e = ends_not rank x2 refl e
  ends_true a open_end (Way.lock_taken x0 x1 x2 x3 x4) e = ends_not rank x3 refl e
  ends_true a open_end (Way.valid_again x0 x1 x2 x3 x4) e = ends_not rank x3 refl e
  ends_true a open_end (Way.valid_put_no x0 x1 x2 x3 x4 x5) e = tells b here Put x1 x4 e (put_no x0 x2 x3)
  ends_true a open_end (Way.valid_take x0 x1 x2 x3 x4 x5) e = ends_not rank x4 refl e
  ends_true a open_end (Way.valid_strike_no x0 x1 x2 x3 x4 x5) e = tells b here Strike x1 x4 e (strike_no x0 x2 x3)
  ends_true a open_end (Way.valid_victim x0 x1 x2 x3 x4 x5) e = ends_not rank x4 refl e
  ends_true a open_end (Way.take_none x0 x1 x2 x3) e = tells b here Put (fits_put t.work (fit_in Take x0)) x2 e tt
  ends_true a open_end (Way.take_some x0 x1 x2 x3 x4 x5 x6) e = ends_not rank x5 refl e
  ends_true a open_end (Way.links x0 x1 x2) e = ends_not rank x1 refl e
  ends_true a open_end (Way.links_back x0 x1 x2 x3) e = ends_not rank x2 refl e
  ends_true a open_end (Way.attaches x0 x1 x2 x3 x4 x5) e = ends_not rank x4 refl e
  ends_true a open_end (Way.releases_new x0 x1 x2) e = ends_not rank x1 refl e
  ends_true a open_end (Way.put_ends x0 x1 x2) e = absurd (open_end (ap is_change (fits_put t.work (fit_in PutEnd x0)), (cc)))
  ends_true a open_end (Way.victim_waits x0 x1 x2 x3) e = ends_not rank x2 refl e
  ends_true a open_end (Way.victim_taken x0 x1 x2 x3 x4) e = ends_not rank x3 refl e
  ends_true a open_end (Way.marks x0 x1 x2) e = ends_not rank x1 refl e
  ends_true a open_end (Way.unlinks_back x0 x1 x2 x3) e = ends_not rank x2 refl e
  ends_true a open_end (Way.unlinks x0 x1 x2) e = ends_not rank x1 refl e
  ends_true a open_end (Way.detaches x0 x1 x2 x3 x4) e = ends_not rank x3 refl e
  ends_true a open_end (Way.releases_victim x0 x1 x2) e = ends_not rank x1 refl e
  ends_true a open_end (Way.strike_ends x0 x1 x2 x3) e = ends_not rank x2 refl e
  ends_true a open_end (Way.first_missing x0 x1 x2 x3) e = tells b here FirstWork (fits_first t.work (fit_in First x0)) x2 e (none_at_all rank laws b now (shows b here) x1)
  ends_true a open_end (Way.first_on_next x0 x1 x2 x3) e = ends_not rank x2 refl e
  ends_true a open_end (Way.first_marked x0 x1 x2 x3) e = ends_not rank x2 refl e
  ends_true a open_end (Way.first_found x0 x1 x2 x3 x4 x5) e = let w = first_found x2 x3 x1 (known_as FirstNext FirstWork x0 (fits_first t.work (fit_in FirstNext x0))) in tells w.0 w.1 FirstWork (fits_first t.work (fit_in FirstNext x0)) x4 e w.2

module _ {K : Type 0} (rank : K → K → Ordering) (laws : Laws rank) (inv : (b : Book K) → Run rank b → Inv rank (sight_of b))
    (prevs : (b : Book K) → Run rank b → (p : ℕ) → chained (sight_of b) p ≡ true → (p ≡ low → ⊥) → chained (sight_of b) ((sight_of b).prev p) ≡ true)
    (shows : (b : Book K) → Run rank b → ShowsKeys b) where
  module _ (b : Book K) (r : Run rank b) (i : ℕ) (t : Task K) (is : work_at b i ≡ Some t) (a : Answer K) (open_end : IsChangeDone t.work a → ⊥)
      (n : ℕ) (o : Outcome K) (m s' : Sight K) (way : Way rank (sight_of b) i t o m) where
    settled_true : Settling m i t o (Ended a n) s' → AtSome rank (TrueOf rank t.work t.key a) (since rank r i)
    settled_true (Settling.goes u oc ac se) = let z : ◌≡◌ {A = ℕ} 0 1 = cc in absurd (omega arith)
    settled_true (Settling.waits oc ac se) = let z : ◌≡◌ {A = ℕ} 0 1 = cc in absurd (omega arith)
    settled_true (Settling.ends x oc ac se) =
        let works = ap is_some is in
        ends_true rank laws i b (since rank r i) (now_among rank r i works) (λ σ w. inv σ (since_runs rank r i σ w)) (λ σ w p on. hindsight rank inv r i works σ p on w)
        (λ σ w. prevs σ (since_runs rank r i σ w)) (λ σ w. shows σ (since_runs rank r i σ w)) t is (walked rank laws inv prevs r i t is) a open_end way
        (let same : x ≡ a = cc in oc ∙ ap Ends same)
    settled_true (Settling.retires q oc ac w others se) =
        let phase = retires_in rank (way_touches way) q oc in
        absurd (open_end (ap is_change (fits_strike t.work (ap (λ g. fits t.work (group g)) (sym phase) ∙ (inv b r).fit i t is)), (cc)))

  pub answers_are_true : AnswersAreTrue rank
  answers_are_true b r i t a n b' ended open_end =
      let made = accepted_step_made rank i b.places b.stations b.guide (Ended a n) b'.places b'.stations b'.guide ended.1 in
      let same : made.task ≡ t = some_injects made.under_way ended.0 in
      inr (subst (λ u. AtSome rank (TrueOf rank u.work u.key a) (since rank r i)) same
      (settled_true b r i made.task made.under_way a (subst (λ u. IsChangeDone u.work a → ⊥) (sym same) open_end) n made.outcome made.mid (sight_of b') made.way made.settling))
