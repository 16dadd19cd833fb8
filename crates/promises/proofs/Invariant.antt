-- What holds of a book between any two calls, as it is seen. Assumes nothing.
use Rattle.std.proofs.Common.{◌≡◌, ℕ, ◌≤◌, Bool, true, false, cond, not, ◌&&◌, ◌||◌, eqb, leb, ◌⊎◌, List, [], ◌∷◌, get_or, Some, None, Option, Ordering}
use Rattle.guides.specs.Meaning.{low, high, has}
use Rattle.records.specs.declared.record.Phase.{Phase}
use Rattle.records.specs.declared.record.Phase.TheVariants.{Enter, Down, Check, Back, On, Seek, Lock, Valid, Take, Link, LinkBack, Attach, ReleaseNew, PutEnd, TakeVictim, Mark, UnlinkBack, Unlink, Detach, ReleaseVictim, StrikeEnd, First, FirstNext}
use Rattle.records.specs.declared.record.Status.{Status}
use Rattle.records.specs.declared.record.Status.TheVariants.{Free, InHand, Chained, Retired}
use Rattle.records.specs.declared.record.Task.{Task}
use Rattle.records.specs.declared.record.Work.{Work}
use Rattle.records.specs.declared.record.Work.TheVariants.{Put, Strike, Look, First as FirstWork, After}
use Rattle.engine.specs.Calling.{locked_by}
use Rattle.engine.specs.Settling.{anyone}
use Rattle.promises.specs.Promised.{is_chained}
use Rattle.promises.proofs.Laws.{Bound, bottom, exact, top, before}
use Rattle.promises.proofs.Sights.{Sight}

-- The phases that hold a lock, numbered so that those which share a fact stand together. The others hold none.
abbrev pub rung : Phase → ℕ
rung Enter = 0
rung Down = 0
rung Check = 0
rung Back = 0
rung On = 0
rung Seek = 0
rung Lock = 0
rung Valid = 1
rung Take = 4
rung Link = 5
rung LinkBack = 6
rung Attach = 7
rung ReleaseNew = 8
rung PutEnd = 2
rung TakeVictim = 3
rung Mark = 9
rung UnlinkBack = 10
rung Unlink = 11
rung Detach = 12
rung ReleaseVictim = 13
rung StrikeEnd = 14
rung First = 0
rung FirstNext = 0

-- The phases by the works that come to them: all but first, looks and afters, first, puts and strikes, puts, strikes.
abbrev pub group : Phase → ℕ
group Enter = 0
group Down = 0
group Check = 0
group Back = 0
group On = 1
group Seek = 3
group Lock = 3
group Valid = 3
group Take = 4
group Link = 4
group LinkBack = 4
group Attach = 4
group ReleaseNew = 4
group PutEnd = 4
group TakeVictim = 5
group Mark = 5
group UnlinkBack = 5
group Unlink = 5
group Detach = 5
group ReleaseVictim = 5
group StrikeEnd = 5
group First = 2
group FirstNext = 2

abbrev pub fits : Work → ℕ → Bool
fits Put g = eqb g 0 || (eqb g 3 || eqb g 4)
fits Strike g = eqb g 0 || (eqb g 3 || eqb g 5)
fits Look g = eqb g 0 || eqb g 1
fits FirstWork g = eqb g 2
fits After g = eqb g 0 || eqb g 1

-- Which rungs hold the lock of at, and that of the other place.
abbrev pub holds_at : ℕ → Bool
holds_at r = leb 1 r

abbrev pub holds_other : ℕ → Bool
holds_other r = leb 5 r && leb r 13

-- From TAKE and TAKE-VICTIM on.
abbrev pub is_placed : ℕ → Bool
is_placed r = leb 2 r

-- The key stands between at and its successor.
abbrev pub is_between : ℕ → Bool
is_between r = (eqb r 4 || eqb r 5) || leb 12 r

-- The other place follows at.
abbrev pub is_joined : ℕ → Bool
is_joined r = leb 6 r && leb r 11

-- The other place has the key.
abbrev pub is_keyed : ℕ → Bool
is_keyed r = leb 5 r

-- The other place is marked, or is not.
abbrev pub is_marked : ℕ → Bool
is_marked r = leb 10 r

abbrev pub is_spared : ℕ → Bool
is_spared r = leb 5 r && leb r 9

-- The other place is in hand.
abbrev pub is_handing : ℕ → Bool
is_handing r = eqb r 5 || leb 12 r

-- The predecessor of the other place's successor lags behind.
abbrev pub is_lagging : ℕ → Bool
is_lagging r = eqb r 6 || eqb r 11

-- The other place is chained and not in the guide yet; is in the guide and not chained; is chained and marked.
abbrev pub is_hiding : ℕ → Bool
is_hiding r = eqb r 6 || eqb r 7

abbrev pub is_detaching : ℕ → Bool
is_detaching r = eqb r 12

abbrev pub is_striking : ℕ → Bool
is_striking r = eqb r 10 || eqb r 11

-- A place waits for the work of station i, struck and not yet free.
abbrev pub waits_for : ℕ → Status → Bool
waits_for i Free = false
waits_for i InHand = true
waits_for i Chained = false
waits_for i (Retired waits) = get_or waits i false

module _ {K : Type 0} where
  -- The work holds the lock of p; p is its other place, in such a rung; some place was retired while it was under way.
  abbrev pub holds : Option (Task K) → ℕ → Bool
  holds None p = false
  holds (Some t) p = (holds_at (rung t.phase) && eqb t.at p) || (holds_other (rung t.phase) && eqb t.other p)

  abbrev pub other_in : (ℕ → Bool) → Option (Task K) → ℕ → Bool
  other_in f None p = false
  other_in f (Some t) p = f (rung t.phase) && eqb t.other p

  abbrev pub is_awaited : Option (Task K) → Bool
  is_awaited None = false
  is_awaited (Some t) = t.awaited

  -- The holder of this lock has p as its other place, in such a rung.
  abbrev pub holder_in : (ℕ → Bool) → (ℕ → Option (Task K)) → Option ℕ → ℕ → Bool
  holder_in f task None p = false
  holder_in f task (Some i) p = other_in f (task i) p

  abbrev pub chained : Sight K → ℕ → Bool
  chained s p = is_chained (s.status p)

  -- p is on the chain, or was struck while the work of station i is under way.
  abbrev pub seen_by : Sight K → ℕ → ℕ → Bool
  seen_by s i p = chained s p || (s.marked p && waits_for i (s.status p))

  -- p is in the guide.
  abbrev pub shown : Sight K → ℕ → Bool
  shown s p = (chained s p && not (holder_in is_hiding s.task (s.lock p) p)) || holder_in is_detaching s.task (s.lock p) p

  module _ (rank : K → K → Ordering) where
    -- A sequence of places whose keys rise from one to the next.
    abbrev pub Rising : (ℕ → Bound K) → List ℕ → Type 0
    Rising spot [] = Unit {0}
    Rising spot (x ∷ xs) = ((y : ℕ) → has y xs ≡ true → before rank (spot x) (spot y) ≡ true) × Rising spot xs

    -- How the places of a work stand, by its rung.
    pub record Stands (spot : ℕ → Bound K) (next prev : ℕ → ℕ) (marked : ℕ → Bool) (status : ℕ → Status) (t : Task K) : Type 0 where
      pub at_chained : is_placed (rung t.phase) ≡ true → is_chained (status t.at) ≡ true
      pub at_unmarked : is_placed (rung t.phase) ≡ true → marked t.at ≡ false
      -- from SEEK on
      pub at_below : leb 3 (group t.phase) ≡ true → before rank (spot t.at) (exact t.key) ≡ true
      pub next_above : is_between (rung t.phase) ≡ true → before rank (exact t.key) (spot (next t.at)) ≡ true
      pub next_keyed : eqb (rung t.phase) 3 ≡ true → spot (next t.at) ≡ exact t.key
      pub joined : is_joined (rung t.phase) ≡ true → next t.at ≡ t.other
      pub keyed : is_keyed (rung t.phase) ≡ true → spot t.other ≡ exact t.key
      pub other_marked : is_marked (rung t.phase) ≡ true → marked t.other ≡ true
      pub spared : is_spared (rung t.phase) ≡ true → marked t.other ≡ false
      pub in_hand : is_handing (rung t.phase) ≡ true → status t.other ≡ InHand
      pub in_hand_next : is_handing (rung t.phase) ≡ true → next t.other ≡ next t.at
      pub in_hand_prev : is_handing (rung t.phase) ≡ true → prev t.other ≡ t.at

    pub record Inv (s : Sight K) : Type 0 where
      pub two : 2 ≤ s.size
      pub beyond : (p : ℕ) → s.size ≤ p → s.status p ≡ Free
      pub guide_size : s.guide.places ≡ s.size
      pub low_spot : s.spot low ≡ bottom
      pub high_spot : s.spot high ≡ top
      pub low_chained : s.status low ≡ Chained
      pub high_chained : s.status high ≡ Chained
      pub low_unmarked : s.marked low ≡ false
      pub high_unmarked : s.marked high ≡ false
      -- the chain: successors are chained, rise, and leave no chained place out
      pub leads : (p : ℕ) → chained s p ≡ true → (p ≡ high → ⊥) → chained s (s.next p) ≡ true
      pub rises : (p : ℕ) → chained s p ≡ true → (p ≡ high → ⊥) → before rank (s.spot p) (s.spot (s.next p)) ≡ true
      pub gap : (p q : ℕ) → chained s p ≡ true → chained s q ≡ true → before rank (s.spot p) (s.spot q) ≡ true
          → (s.next p ≡ q) ⊎ (before rank (s.spot (s.next p)) (s.spot q) ≡ true)
      pub apart : (p q : ℕ) → chained s p ≡ true → chained s q ≡ true
          → (p ≡ q) ⊎ ((before rank (s.spot p) (s.spot q) ≡ true) ⊎ (before rank (s.spot q) (s.spot p) ≡ true))
      pub follows : (p : ℕ) → chained s p ≡ true → (p ≡ low → ⊥) → (q : ℕ) × (chained s q ≡ true) × (q ≡ high → ⊥) × (s.next q ≡ p)
      pub backs : (p : ℕ) → chained s p ≡ true → (p ≡ high → ⊥) → s.prev (s.next p) ≡ cond (holder_in is_lagging s.task (s.lock p) p) (s.prev p) p
      -- locks and works
      pub locks : (i p : ℕ) → locked_by i (s.lock p) ≡ holds (s.task i) p
      pub fit : (i : ℕ) (t : Task K) → s.task i ≡ Some t → fits t.work (group t.phase) ≡ true
      pub seen : (i : ℕ) (t : Task K) → s.task i ≡ Some t → seen_by s i t.at ≡ true
      pub stands : (i : ℕ) (t : Task K) → s.task i ≡ Some t → Stands s.spot s.next s.prev s.marked s.status t
      -- marked places of the chain and places in hand are of one work
      pub marks : (p : ℕ) → chained s p ≡ true → s.marked p ≡ true → (i : ℕ) × (other_in is_striking (s.task i) p ≡ true)
      pub hands : (p : ℕ) → s.status p ≡ InHand → (i : ℕ) × (other_in is_handing (s.task i) p ≡ true)
      pub hands_apart : (i j p : ℕ) → other_in is_handing (s.task i) p ≡ true → other_in is_handing (s.task j) p ≡ true → i ≡ j
      -- retired places
      pub rests : (p : ℕ) (w : List Bool) → s.status p ≡ Retired w → (s.marked p ≡ true) × (anyone w ≡ true)
      pub awaits : (p : ℕ) (w : List Bool) → s.status p ≡ Retired w → (i : ℕ) → get_or w i false ≡ true → is_awaited (s.task i) ≡ true
      pub next_seen : (p : ℕ) (w : List Bool) → s.status p ≡ Retired w → (i : ℕ) → get_or w i false ≡ true → seen_by s i (s.next p) ≡ true
      pub prev_seen : (p : ℕ) (w : List Bool) → s.status p ≡ Retired w → (i : ℕ) → get_or w i false ≡ true → seen_by s i (s.prev p) ≡ true
      -- the guide
      pub guide_rises : Rising s.spot s.guide.sequence
      pub guide_shows : (p : ℕ) → has p s.guide.sequence ≡ shown s p
