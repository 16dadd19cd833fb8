-- Where a look, an after or a first has come from: the place it stands on was on the chain at a moment of its work, and it
-- came there by a link of such a moment. Assumes the invariant at the moments of the work, hindsight for it, and that the
-- predecessor of a place of the chain is on the chain.
use Rattle.std.proofs.Common.{◌≡◌, ℕ, Bool, true, false, not, ◌&&◌, ◌||◌, ◌⊎◌, List, ◌∷◌, Ordering, Less, Equal, sym, refl, ap, ◌∙◌, subst, inl, inr}
use Rattle.std.proofs.lemmas.Bool.{true≢false, not_from_false}
use Rattle.std.proofs.Math.Bool.{or-false}
use Rattle.guides.specs.Meaning.{low, high}
use Rattle.records.specs.declared.outcome.Outcome.{Outcome}
use Rattle.records.specs.declared.outcome.Outcome.TheVariants.{Goes, Waits, Ends, Retires}
use Rattle.records.specs.declared.record.Phase.{Phase}
use Rattle.records.specs.declared.record.Phase.TheVariants.{Enter, Down, Check, Back, On, Seek, Lock, Valid, Take, Link, LinkBack, Attach, ReleaseNew, PutEnd, TakeVictim, Mark, UnlinkBack, Unlink, Detach, ReleaseVictim, StrikeEnd, First, FirstNext}
use Rattle.records.specs.declared.record.Task.{Task}
use Rattle.records.specs.declared.record.Work.{Work}
use Rattle.records.specs.declared.record.Work.TheVariants.{Put, Strike, Look, First as FirstWork, After}
use Rattle.records.specs.Records.{first_phase}
use Rattle.promises.specs.Books.{Book}
use Rattle.promises.specs.Promised.{is_chained}
use Rattle.promises.proofs.Small.{equal_not_less, greater_not_less, up_not_less}
use Rattle.promises.proofs.Laws.{Laws, Bound, bottom, exact, top, before, compared, before_once, before_not_self, less_is_before, equal_is_exact}
use Rattle.promises.proofs.Sights.{Sight, sight_of}
use Rattle.promises.proofs.Views.{Way}
use Rattle.promises.proofs.Invariant.{Inv, chained, seen_by, waits_for}
use Rattle.promises.proofs.Hindsight.{Among, Struck, Remembers}

abbrev is_bottom : {K : Type 0} → Bound K → Bool
is_bottom bottom = true
is_bottom (exact k) = false
is_bottom top = false

module _ {K : Type 0} where
  -- p was on the chain in one of these books.
  pub record Known (bs : List (Book K)) (p : ℕ) : Type 0 where
    pub book : Book K
    pub among : Among book bs
    pub on : chained (sight_of book) p ≡ true

  module _ (rank : K → K → Ordering) where
    -- So low a place must lie for the work to go on from it to the next.
    abbrev pub low_for : Work → Bound K → K → Bool
    low_for Put b k = false
    low_for Strike b k = false
    low_for Look b k = before rank b (exact k)
    low_for FirstWork b k = is_bottom b
    low_for After b k = not (before rank (exact k) b)

    -- p was on the chain, and lay so low.
    pub record LowKnown (bs : List (Book K)) (work : Work) (k : K) (p : ℕ) : Type 0 where
      pub book : Book K
      pub among : Among book bs
      pub on : chained (sight_of book) p ≡ true
      pub low : low_for work ((sight_of book).spot p) k ≡ true

    -- A place that lay so low was on the chain and led to q.
    pub record Came (bs : List (Book K)) (work : Work) (k : K) (q : ℕ) : Type 0 where
      pub book : Book K
      pub among : Among book bs
      pub from : ℕ
      pub on : chained (sight_of book) from ≡ true
      pub low : low_for work ((sight_of book).spot from) k ≡ true
      pub leads : (sight_of book).next from ≡ q

    -- What is known of the place p on which a work stands, by its phase.
    abbrev pub Walked : List (Book K) → Phase → Work → K → ℕ → Type 0
    Walked bs Enter work k p = Unit {0}
    Walked bs Down work k p = Unit {0}
    Walked bs Check work k p = Unit {0}
    Walked bs Back work k p = Known bs p
    Walked bs On work k p = LowKnown bs work k p ⊎ Came bs work k p
    Walked bs Seek work k p = Unit {0}
    Walked bs Lock work k p = Unit {0}
    Walked bs Valid work k p = Unit {0}
    Walked bs Take work k p = Unit {0}
    Walked bs Link work k p = Unit {0}
    Walked bs LinkBack work k p = Unit {0}
    Walked bs Attach work k p = Unit {0}
    Walked bs ReleaseNew work k p = Unit {0}
    Walked bs PutEnd work k p = Unit {0}
    Walked bs TakeVictim work k p = Unit {0}
    Walked bs Mark work k p = Unit {0}
    Walked bs UnlinkBack work k p = Unit {0}
    Walked bs Unlink work k p = Unit {0}
    Walked bs Detach work k p = Unit {0}
    Walked bs ReleaseVictim work k p = Unit {0}
    Walked bs StrikeEnd work k p = Unit {0}
    Walked bs First work k p = Unit {0}
    Walked bs FirstNext work k p = Came bs work k p × (p ≡ high → ⊥)

    -- ---- one book more

    more_known : (b : Book K) {bs : List (Book K)} {p : ℕ} → Known bs p → Known (b ∷ bs) p
    more_known b m = record { book = m.book; among = inr m.among; on = m.on }

    more_low : (b : Book K) {bs : List (Book K)} {work : Work} {k : K} {p : ℕ} → LowKnown bs work k p → LowKnown (b ∷ bs) work k p
    more_low b m = record { book = m.book; among = inr m.among; on = m.on; low = m.low }

    more_came : (b : Book K) {bs : List (Book K)} {work : Work} {k : K} {p : ℕ} → Came bs work k p → Came (b ∷ bs) work k p
    more_came b m = record { book = m.book; among = inr m.among; from = m.from; on = m.on; low = m.low; leads = m.leads }

    more_either : (b : Book K) {bs : List (Book K)} {work : Work} {k : K} {p : ℕ} → LowKnown bs work k p ⊎ Came bs work k p → LowKnown (b ∷ bs) work k p ⊎ Came (b ∷ bs) work k p
    more_either b (inl m) = inl (more_low b m)
    more_either b (inr m) = inr (more_came b m)

    pub more_walked : (b : Book K) (bs : List (Book K)) (f : Phase) (work : Work) (k : K) (p : ℕ) → Walked bs f work k p → Walked (b ∷ bs) f work k p
    more_walked b bs Enter work k p w = tt
    more_walked b bs Down work k p w = tt
    more_walked b bs Check work k p w = tt
    more_walked b bs Back work k p w = more_known b w
    more_walked b bs On work k p w = more_either b w
    more_walked b bs Seek work k p w = tt
    more_walked b bs Lock work k p w = tt
    more_walked b bs Valid work k p w = tt
    more_walked b bs Take work k p w = tt
    more_walked b bs Link work k p w = tt
    more_walked b bs LinkBack work k p w = tt
    more_walked b bs Attach work k p w = tt
    more_walked b bs ReleaseNew work k p w = tt
    more_walked b bs PutEnd work k p w = tt
    more_walked b bs TakeVictim work k p w = tt
    more_walked b bs Mark work k p w = tt
    more_walked b bs UnlinkBack work k p w = tt
    more_walked b bs Unlink work k p w = tt
    more_walked b bs Detach work k p w = tt
    more_walked b bs ReleaseVictim work k p w = tt
    more_walked b bs StrikeEnd work k p w = tt
    more_walked b bs First work k p w = tt
    more_walked b bs FirstNext work k p w = (more_came b w.0, w.1)

    -- A work just begun, or begun again, knows nothing.
    pub walked_first : (bs : List (Book K)) (v work : Work) (k : K) (p : ℕ) → Walked bs (first_phase v) work k p
    walked_first bs Put work k p = tt
    walked_first bs Strike work k p = tt
    walked_first bs Look work k p = tt
    walked_first bs FirstWork work k p = tt
    walked_first bs After work k p = tt

    low_not_top : (work : Work) (k : K) → low_for work top k ≡ false
    low_not_top Put k = refl
    low_not_top Strike k = refl
    low_not_top Look k = refl
    low_not_top FirstWork k = refl
    low_not_top After k = refl

    pub low_not_high : (s : Sight K) → Inv rank s → (work : Work) (k : K) (p : ℕ) → low_for work (s.spot p) k ≡ true → p ≡ high → ⊥
    low_not_high s inv work k p h e = true≢false (sym h ∙ ap (λ q. low_for work (s.spot q) k) e ∙ ap (λ b. low_for work b k) inv.high_spot ∙ low_not_top work k)

-- The books at which a work of station i was under way, b the newest of them.
module _ {K : Type 0} (rank : K → K → Ordering) (laws : Laws rank) (i : ℕ) (b : Book K) (bs : List (Book K)) (here : Among b bs)
    (inv_of : (σ : Book K) → Among σ bs → Inv rank (sight_of σ))
    (hind : (σ : Book K) → Among σ bs → (p : ℕ) → chained (sight_of σ) p ≡ true → Remembers i b bs σ p)
    (prevs : (σ : Book K) → Among σ bs → (p : ℕ) → chained (sight_of σ) p ≡ true → (p ≡ low → ⊥) → chained (sight_of σ) ((sight_of σ).prev p) ≡ true) where
  -- A moment at which p was on the chain with the key and the links that it has now.
  pub record Moment (p : ℕ) : Type 0 where
    pub book : Book K
    pub among : Among book bs
    pub on : chained (sight_of book) p ≡ true
    pub spot : (sight_of b).spot p ≡ (sight_of book).spot p
    pub next : (sight_of b).next p ≡ (sight_of book).next p
    pub prev : (sight_of b).prev p ≡ (sight_of book).prev p

  moment_by : (p : ℕ) → (chained (sight_of b) p ≡ true) ⊎ Struck i b bs p → Moment p
  moment_by p (inl on) = record { book = b; among = here; on = on; spot = refl; next = refl; prev = refl }
  moment_by p (inr m) = record { book = m.last; among = m.among; on = m.on; spot = (hind m.last m.among p m.on).spot; next = m.next; prev = m.prev }

  pub moment : (p : ℕ) → Known bs p → Moment p
  moment p m = moment_by p (hind m.book m.among p m.on).fate

  pub known_now : (p : ℕ) → chained (sight_of b) p ≡ true → Known bs p
  known_now p on = record { book = b; among = here; on = on }

  -- A place that a work sees and that is not marked is on the chain.
  pub seen_unmarked : (p : ℕ) → seen_by (sight_of b) i p ≡ true → (sight_of b).marked p ≡ false → chained (sight_of b) p ≡ true
  seen_unmarked p seen unmarked = sym (or-false (chained (sight_of b) p)) ∙ (ap (λ m. chained (sight_of b) p || (m && waits_for i ((sight_of b).status p))) (sym unmarked) ∙ seen)

  low_known : (work : Work) (k : K) (p : ℕ) → Known bs p → low_for rank work ((sight_of b).spot p) k ≡ true → LowKnown rank bs work k p
  low_known work k p m h =
      let at = moment p m in
      record { book = at.book; among = at.among; on = at.on; low = ap (λ x. low_for rank work x k) (sym at.spot) ∙ h }

  came_next : (work : Work) (k : K) (p : ℕ) → Known bs p → low_for rank work ((sight_of b).spot p) k ≡ true → Came rank bs work k ((sight_of b).next p)
  came_next work k p m h =
      let at = moment p m in
      record { book = at.book; among = at.among; from = p; on = at.on; low = ap (λ x. low_for rank work x k) (sym at.spot) ∙ h; leads = sym at.next }

  prev_known : (p : ℕ) → Known bs p → (p ≡ low → ⊥) → Known bs ((sight_of b).prev p)
  prev_known p m h =
      let at = moment p m in
      record { book = at.book; among = at.among; on = ap (chained (sight_of at.book)) at.prev ∙ prevs at.book at.among p at.on h }

  pub came_on : (work : Work) (k : K) (q : ℕ) (m : Came rank bs work k q) → chained (sight_of m.book) q ≡ true
  came_on work k q m =
      let inv = inv_of m.book m.among in
      ap (chained (sight_of m.book)) (sym m.leads) ∙ inv.leads m.from m.on (low_not_high rank (sight_of m.book) inv work k m.from m.low)

  pub either_known : (work : Work) (k : K) (p : ℕ) → LowKnown rank bs work k p ⊎ Came rank bs work k p → Known bs p
  either_known work k p (inl m) = record { book = m.book; among = m.among; on = m.on }
  either_known work k p (inr m) = record { book = m.book; among = m.among; on = came_on work k p m }

  not_less_not_low : (k : K) (p : ℕ) → (compared rank ((sight_of b).spot p) k ≡ Less → ⊥) → p ≡ low → ⊥
  not_less_not_low k p h e = h (ap (λ q. compared rank ((sight_of b).spot q) k) e ∙ ap (λ x. compared rank x k) (inv_of b here).low_spot)

  not_above : (x : Bound K) (k : K) → (compared rank x k ≡ Less) ⊎ (compared rank x k ≡ Equal) → not (before rank (exact k) x) ≡ true
  not_above x k (inl e) = not_from_false (before rank (exact k) x) (before_once rank laws x (exact k) (less_is_before rank laws x k e))
  not_above x k (inr e) = not_from_false (before rank (exact k) x) (ap (before rank (exact k)) (equal_is_exact rank laws x k e) ∙ before_not_self rank laws (exact k))

  module _ (t : Task K) (seen : seen_by (sight_of b) i t.at ≡ true) (walked : Walked rank bs t.phase t.work t.key t.at) where
    -- What is known of the place on which u stands.
    abbrev Walks : Task K → Type 0
    Walks u = Walked rank bs u.phase u.work u.key u.at

    goes_on : {o : Outcome K} {u v : Task K} → o ≡ Goes v → o ≡ Goes u → Walks v → Walks u
    goes_on {o} {u} {v} e h w = let same : v ≡ u = cc in subst Walks same w

    abbrev going : Outcome K → Bool
    going (Goes u) = true
    going Waits = false
    going (Ends a) = false
    going (Retires p) = false

    goes_not : {P : Type 0} {o x : Outcome K} {u : Task K} → o ≡ x → going x ≡ false → o ≡ Goes u → P
    goes_not e calm h = absurd (true≢false (sym (ap going h) ∙ ap going e ∙ calm))

    in_phase : (f : Phase) → t.phase ≡ f → Walked rank bs f t.work t.key t.at
    in_phase f e = subst (λ g. Walked rank bs g t.work t.key t.at) e walked

    stay_in : (f : Phase) (p : ℕ) → t.phase ≡ f → Walked rank bs f t.work t.key p → Walked rank bs t.phase t.work t.key p
    stay_in f p e w = subst (λ g. Walked rank bs g t.work t.key p) (sym e) w

    back_to : t.phase ≡ Back → (compared rank ((sight_of b).spot t.at) t.key ≡ Less → ⊥) → Walked rank bs t.phase t.work t.key ((sight_of b).prev t.at)
    back_to e h = stay_in Back ((sight_of b).prev t.at) e (prev_known t.at (in_phase Back e) (not_less_not_low t.key t.at h))

    low_here : (work : Work) → t.work ≡ work → low_for rank work ((sight_of b).spot t.at) t.key ≡ true → low_for rank t.work ((sight_of b).spot t.at) t.key ≡ true
    low_here work e h = ap (λ w. low_for rank w ((sight_of b).spot t.at) t.key) e ∙ h

    turns_on : t.phase ≡ Back → low_for rank t.work ((sight_of b).spot t.at) t.key ≡ true → Walked rank bs On t.work t.key t.at
    turns_on e h = inl (low_known t.work t.key t.at (in_phase Back e) h)

    goes_next : t.phase ≡ On → low_for rank t.work ((sight_of b).spot t.at) t.key ≡ true → Walked rank bs t.phase t.work t.key ((sight_of b).next t.at)
    goes_next e h = stay_in On ((sight_of b).next t.at) e (inr (came_next t.work t.key t.at (either_known t.work t.key t.at (in_phase On e)) h))

    -- A first begins at Low. The fit of the work and its phase tells that it is a first.
    first_next : t.work ≡ FirstWork → Came rank bs t.work t.key ((sight_of b).next low)
    first_next e =
        came_next t.work t.key low (known_now low (ap is_chained (inv_of b here).low_chained))
        (ap (λ w. low_for rank w ((sight_of b).spot low) t.key) e ∙ ap is_bottom (inv_of b here).low_spot)

    pub walks : (is_first : t.phase ≡ First → t.work ≡ FirstWork) {o : Outcome K} {m : Sight K} → Way rank (sight_of b) i t o m → (u : Task K) → o ≡ Goes u → Walks u
    walks is_first (Way.strays x0 x1 x2) u e = goes_on x1 e (walked_first rank bs t.work t.work t.key t.at)
    walks is_first (Way.enters x0 x1 x2 x3 x4) u e = goes_on x3 e tt
    walks is_first (Way.down_here x0 x1 x2 x3) u e = goes_on x2 e tt
    walks is_first (Way.down_lost x0 x1 x2 x3) u e = goes_on x2 e tt
    walks is_first (Way.down_last x0 x1 x2 x3 x4 x5 x6) u e = goes_on x5 e tt
    walks is_first (Way.down_on x0 x1 x2 x3 x4 x5 x6) u e = goes_on x5 e (stay_in Down x2 x0 tt)
    walks is_first (Way.check_marked x0 x1 x2 x3) u e = goes_on x2 e (known_now low (ap is_chained (inv_of b here).low_chained))
    walks is_first (Way.check_unmarked x0 x1 x2 x3) u e = goes_on x2 e (known_now t.at (seen_unmarked t.at seen x1))
    walks is_first (Way.back_look_yes x0 x1 x2 x3 x4 x5) u e = goes_not x4 refl e
    walks is_first (Way.back_look_marked x0 x1 x2 x3 x4 x5) u e = goes_on x4 e (back_to x0 (equal_not_less x2))
    walks is_first (Way.back_look_above x0 x1 x2 x3 x4) u e = goes_on x3 e (back_to x0 (greater_not_less x2))
    walks is_first (Way.back_look_on x0 x1 x2 x3 x4) u e = goes_on x3 e (turns_on x0 (low_here Look x1 (less_is_before rank laws _ _ x2)))
    walks is_first (Way.back_after_above x0 x1 x2 x3 x4) u e = goes_on x3 e (back_to x0 (greater_not_less x2))
    walks is_first (Way.back_after_on x0 x1 x2 x3 x4) u e = goes_on x3 e (turns_on x0 (low_here After x1 (not_above _ _ x2)))
    walks is_first (Way.back_change_above x0 x1 x2 x3 x4) u e = goes_on x3 e (back_to x0 (up_not_less x2))
    walks is_first (Way.back_change_seek x0 x1 x2 x3 x4) u e = goes_on x3 e tt
    walks is_first (Way.on_look_next x0 x1 x2 x3 x4) u e = goes_on x3 e (goes_next x0 (low_here Look x1 (less_is_before rank laws _ _ x2)))
    walks is_first (Way.on_look_marked x0 x1 x2 x3 x4 x5) u e = goes_not x4 refl e
    walks is_first (Way.on_look_yes x0 x1 x2 x3 x4 x5) u e = goes_not x4 refl e
    walks is_first (Way.on_look_no x0 x1 x2 x3 x4) u e = goes_not x3 refl e
    walks is_first (Way.on_after_next x0 x1 x2 x3 x4) u e = goes_on x3 e (goes_next x0 (low_here After x1 (not_above _ _ x2)))
    walks is_first (Way.on_after_missing x0 x1 x2 x3 x4) u e = goes_not x3 refl e
    walks is_first (Way.on_after_marked x0 x1 x2 x3 x4 x5) u e = goes_on x4 e tt
    walks is_first (Way.on_after_found x0 x1 x2 x3 x4 x5 x6 x7) u e = goes_not x6 refl e
    walks is_first (Way.seek_next x0 x1 x2 x3 x4) u e = goes_on x3 e (stay_in Seek ((sight_of b).next t.at) x0 tt)
    walks is_first (Way.seek_lock x0 x1 x2 x3 x4) u e = goes_on x3 e tt
    walks is_first (Way.lock_waits x0 x1 x2 x3) u e = goes_not x2 refl e
    walks is_first (Way.lock_taken x0 x1 x2 x3 x4) u e = goes_on x3 e tt
    walks is_first (Way.valid_again x0 x1 x2 x3 x4) u e = goes_on x3 e tt
    walks is_first (Way.valid_put_no x0 x1 x2 x3 x4 x5) u e = goes_not x4 refl e
    walks is_first (Way.valid_take x0 x1 x2 x3 x4 x5) u e = goes_on x4 e tt
    walks is_first (Way.valid_strike_no x0 x1 x2 x3 x4 x5) u e = goes_not x4 refl e
    walks is_first (Way.valid_victim x0 x1 x2 x3 x4 x5) u e = goes_on x4 e tt
    walks is_first (Way.take_none x0 x1 x2 x3) u e = goes_not x2 refl e
    walks is_first (Way.take_some x0 x1 x2 x3 x4 x5 x6) u e = goes_on x5 e tt
    walks is_first (Way.links x0 x1 x2) u e = goes_on x1 e tt
    walks is_first (Way.links_back x0 x1 x2 x3) u e = goes_on x2 e tt
    walks is_first (Way.attaches x0 x1 x2 x3 x4 x5) u e = goes_on x4 e tt
    walks is_first (Way.releases_new x0 x1 x2) u e = goes_on x1 e tt
    walks is_first (Way.put_ends x0 x1 x2) u e = goes_not x1 refl e
    walks is_first (Way.victim_waits x0 x1 x2 x3) u e = goes_not x2 refl e
    walks is_first (Way.victim_taken x0 x1 x2 x3 x4) u e = goes_on x3 e tt
    walks is_first (Way.marks x0 x1 x2) u e = goes_on x1 e tt
    walks is_first (Way.unlinks_back x0 x1 x2 x3) u e = goes_on x2 e tt
    walks is_first (Way.unlinks x0 x1 x2) u e = goes_on x1 e tt
    walks is_first (Way.detaches x0 x1 x2 x3 x4) u e = goes_on x3 e tt
    walks is_first (Way.releases_victim x0 x1 x2) u e = goes_on x1 e tt
    walks is_first (Way.strike_ends x0 x1 x2 x3) u e = goes_not x2 refl e
    walks is_first (Way.first_missing x0 x1 x2 x3) u e = goes_not x2 refl e
    walks is_first (Way.first_on_next x0 x1 x2 x3) u e = goes_on x2 e (first_next (is_first x0), x1)
    walks is_first (Way.first_marked x0 x1 x2 x3) u e = goes_on x2 e tt
    walks is_first (Way.first_found x0 x1 x2 x3 x4 x5) u e = goes_not x4 refl e
