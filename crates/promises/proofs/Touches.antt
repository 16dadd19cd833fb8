-- What the rule of a step writes into the places, by shape: nothing that links, keys, marks or owns a place; a free place;
-- or fields of the places of its work. Assumes nothing.
use Rattle.std.proofs.Common.{◌≡◌, ℕ, Bool, true, false, ◌⊎◌, Option, Ordering, refl, ap, inl, inr}
use Rattle.guides.specs.Meaning.{Meaning}
use Rattle.records.specs.declared.outcome.Outcome.{Outcome}
use Rattle.records.specs.declared.outcome.Outcome.TheVariants.{Goes, Waits, Ends, Retires}
use Rattle.records.specs.declared.record.Phase.TheVariants.{Link, LinkBack, Mark, UnlinkBack, Unlink, StrikeEnd}
use Rattle.records.specs.declared.record.Place.{Place}
use Rattle.records.specs.declared.record.Status.TheVariants.{Free, InHand, Chained}
use Rattle.records.specs.declared.record.Task.{Task}
use Rattle.promises.proofs.Sights.{Sight, next_put, prev_put, mark_put, lock_put, status_put, guide_put, filled}
use Rattle.promises.proofs.Views.{Way}

-- The outcome retires a place.
abbrev pub is_retiring : {K : Type 0} → Outcome K → Bool
is_retiring (Goes u) = false
is_retiring Waits = false
is_retiring (Ends a) = false
is_retiring (Retires p) = true

module _ {K : Type 0} where
  -- Keys, links, marks, statuses and works are as they were; locks and the guide may differ.
  pub record Still (s s' : Sight K) : Type 0 where
    pub spot : s'.spot ≡ s.spot
    pub next : s'.next ≡ s.next
    pub prev : s'.prev ≡ s.prev
    pub marked : s'.marked ≡ s.marked
    pub status : s'.status ≡ s.status
    pub task : s'.task ≡ s.task

  still_same : {s s' : Sight K} → s' ≡ s → Still s s'
  still_same e = record { spot = ap (λ x. x.spot) e; next = ap (λ x. x.next) e; prev = ap (λ x. x.prev) e; marked = ap (λ x. x.marked) e; status = ap (λ x. x.status) e; task = ap (λ x. x.task) e }

  still_lock : {s s' : Sight K} (p : ℕ) (l : Option ℕ) → s' ≡ lock_put p l s → Still s s'
  still_lock p l e = record { spot = ap (λ x. x.spot) e; next = ap (λ x. x.next) e; prev = ap (λ x. x.prev) e; marked = ap (λ x. x.marked) e; status = ap (λ x. x.status) e; task = ap (λ x. x.task) e }

  still_guide : {s s' : Sight K} (m : Meaning) → s' ≡ guide_put m s → Still s s'
  still_guide m e = record { spot = ap (λ x. x.spot) e; next = ap (λ x. x.next) e; prev = ap (λ x. x.prev) e; marked = ap (λ x. x.marked) e; status = ap (λ x. x.status) e; task = ap (λ x. x.task) e }

  -- The rule for work t of sight s came to outcome o and left s'.
  pub data Touch (s : Sight K) (t : Task K) (o : Outcome K) (s' : Sight K) : Type 0 where
    stays : is_retiring o ≡ false → Still s s' → Touch s t o s'
    fills : is_retiring o ≡ false → (p : ℕ) → s.status p ≡ Free → (x : Place K) → x.status ≡ InHand → s' ≡ filled p x s → Touch s t o s'
    joins : is_retiring o ≡ false → t.phase ≡ Link → s' ≡ status_put t.other Chained (next_put t.at t.other s) → Touch s t o s'
    backs : is_retiring o ≡ false → (t.phase ≡ LinkBack) ⊎ (t.phase ≡ UnlinkBack) → (q : ℕ) → s' ≡ prev_put (s.next t.other) q s → Touch s t o s'
    marks : is_retiring o ≡ false → t.phase ≡ Mark → s' ≡ mark_put t.other s → Touch s t o s'
    cuts : is_retiring o ≡ false → t.phase ≡ Unlink → s' ≡ status_put t.other InHand (next_put t.at (s.next t.other) s) → Touch s t o s'
    hands_over : t.phase ≡ StrikeEnd → o ≡ Retires t.other → Still s s' → Touch s t o s'

module _ {K : Type 0} {rank : K → K → Ordering} {s : Sight K} {me : ℕ} {t : Task K} {o : Outcome K} {s' : Sight K} where
  pub way_touches : Way rank s me t o s' → Touch s t o s'
  way_touches (Way.strays x0 x1 x2) = Touch.stays (ap is_retiring x1) (still_same x2)
  way_touches (Way.enters x0 x1 x2 x3 x4) = Touch.stays (ap is_retiring x3) (still_same x4)
  way_touches (Way.down_here x0 x1 x2 x3) = Touch.stays (ap is_retiring x2) (still_same x3)
  way_touches (Way.down_lost x0 x1 x2 x3) = Touch.stays (ap is_retiring x2) (still_same x3)
  way_touches (Way.down_last x0 x1 x2 x3 x4 x5 x6) = Touch.stays (ap is_retiring x5) (still_same x6)
  way_touches (Way.down_on x0 x1 x2 x3 x4 x5 x6) = Touch.stays (ap is_retiring x5) (still_same x6)
  way_touches (Way.check_marked x0 x1 x2 x3) = Touch.stays (ap is_retiring x2) (still_same x3)
  way_touches (Way.check_unmarked x0 x1 x2 x3) = Touch.stays (ap is_retiring x2) (still_same x3)
  way_touches (Way.back_look_yes x0 x1 x2 x3 x4 x5) = Touch.stays (ap is_retiring x4) (still_same x5)
  way_touches (Way.back_look_marked x0 x1 x2 x3 x4 x5) = Touch.stays (ap is_retiring x4) (still_same x5)
  way_touches (Way.back_look_above x0 x1 x2 x3 x4) = Touch.stays (ap is_retiring x3) (still_same x4)
  way_touches (Way.back_look_on x0 x1 x2 x3 x4) = Touch.stays (ap is_retiring x3) (still_same x4)
  way_touches (Way.back_after_above x0 x1 x2 x3 x4) = Touch.stays (ap is_retiring x3) (still_same x4)
  way_touches (Way.back_after_on x0 x1 x2 x3 x4) = Touch.stays (ap is_retiring x3) (still_same x4)
  way_touches (Way.back_change_above x0 x1 x2 x3 x4) = Touch.stays (ap is_retiring x3) (still_same x4)
  way_touches (Way.back_change_seek x0 x1 x2 x3 x4) = Touch.stays (ap is_retiring x3) (still_same x4)
  way_touches (Way.on_look_next x0 x1 x2 x3 x4) = Touch.stays (ap is_retiring x3) (still_same x4)
  way_touches (Way.on_look_marked x0 x1 x2 x3 x4 x5) = Touch.stays (ap is_retiring x4) (still_same x5)
  way_touches (Way.on_look_yes x0 x1 x2 x3 x4 x5) = Touch.stays (ap is_retiring x4) (still_same x5)
  way_touches (Way.on_look_no x0 x1 x2 x3 x4) = Touch.stays (ap is_retiring x3) (still_same x4)
  way_touches (Way.on_after_next x0 x1 x2 x3 x4) = Touch.stays (ap is_retiring x3) (still_same x4)
  way_touches (Way.on_after_missing x0 x1 x2 x3 x4) = Touch.stays (ap is_retiring x3) (still_same x4)
  way_touches (Way.on_after_marked x0 x1 x2 x3 x4 x5) = Touch.stays (ap is_retiring x4) (still_same x5)
  way_touches (Way.on_after_found x0 x1 x2 x3 x4 x5 x6 x7) = Touch.stays (ap is_retiring x6) (still_same x7)
  way_touches (Way.seek_next x0 x1 x2 x3 x4) = Touch.stays (ap is_retiring x3) (still_same x4)
  way_touches (Way.seek_lock x0 x1 x2 x3 x4) = Touch.stays (ap is_retiring x3) (still_same x4)
  way_touches (Way.lock_waits x0 x1 x2 x3) = Touch.stays (ap is_retiring x2) (still_same x3)
  way_touches (Way.lock_taken x0 x1 x2 x3 x4) = Touch.stays (ap is_retiring x3) (still_lock _ _ x4)
  way_touches (Way.valid_again x0 x1 x2 x3 x4) = Touch.stays (ap is_retiring x3) (still_lock _ _ x4)
  way_touches (Way.valid_put_no x0 x1 x2 x3 x4 x5) = Touch.stays (ap is_retiring x4) (still_lock _ _ x5)
  way_touches (Way.valid_take x0 x1 x2 x3 x4 x5) = Touch.stays (ap is_retiring x4) (still_same x5)
  way_touches (Way.valid_strike_no x0 x1 x2 x3 x4 x5) = Touch.stays (ap is_retiring x4) (still_lock _ _ x5)
  way_touches (Way.valid_victim x0 x1 x2 x3 x4 x5) = Touch.stays (ap is_retiring x4) (still_same x5)
  way_touches (Way.take_none x0 x1 x2 x3) = Touch.stays (ap is_retiring x2) (still_lock _ _ x3)
  way_touches (Way.take_some x0 x1 x2 x3 x4 x5 x6) = Touch.fills (ap is_retiring x5) x1 x4 _ refl x6
  way_touches (Way.links x0 x1 x2) = Touch.joins (ap is_retiring x1) x0 x2
  way_touches (Way.links_back x0 x1 x2 x3) = Touch.backs (ap is_retiring x2) (inl x0) t.other x3
  way_touches (Way.attaches x0 x1 x2 x3 x4 x5) = Touch.stays (ap is_retiring x4) (still_guide _ x5)
  way_touches (Way.releases_new x0 x1 x2) = Touch.stays (ap is_retiring x1) (still_lock _ _ x2)
  way_touches (Way.put_ends x0 x1 x2) = Touch.stays (ap is_retiring x1) (still_lock _ _ x2)
  way_touches (Way.victim_waits x0 x1 x2 x3) = Touch.stays (ap is_retiring x2) (still_same x3)
  way_touches (Way.victim_taken x0 x1 x2 x3 x4) = Touch.stays (ap is_retiring x3) (still_lock _ _ x4)
  way_touches (Way.marks x0 x1 x2) = Touch.marks (ap is_retiring x1) x0 x2
  way_touches (Way.unlinks_back x0 x1 x2 x3) = Touch.backs (ap is_retiring x2) (inr x0) t.at x3
  way_touches (Way.unlinks x0 x1 x2) = Touch.cuts (ap is_retiring x1) x0 x2
  way_touches (Way.detaches x0 x1 x2 x3 x4) = Touch.stays (ap is_retiring x3) (still_guide _ x4)
  way_touches (Way.releases_victim x0 x1 x2) = Touch.stays (ap is_retiring x1) (still_lock _ _ x2)
  way_touches (Way.strike_ends x0 x1 x2 x3) = Touch.hands_over x0 x2 (still_lock _ _ x3)
  way_touches (Way.first_missing x0 x1 x2 x3) = Touch.stays (ap is_retiring x2) (still_same x3)
  way_touches (Way.first_on_next x0 x1 x2 x3) = Touch.stays (ap is_retiring x2) (still_same x3)
  way_touches (Way.first_marked x0 x1 x2 x3) = Touch.stays (ap is_retiring x2) (still_same x3)
  way_touches (Way.first_found x0 x1 x2 x3 x4 x5) = Touch.stays (ap is_retiring x4) (still_same x5)
