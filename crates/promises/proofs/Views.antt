-- The ways a step can go: one for each way of each rule, with what it found and what it changes. Assumes nothing.
use Rattle.std.proofs.Common.{◌≡◌, ℕ, ◌+◌, ◌<◌, ◌≤◌, true, false, ◌⊎◌, Some, None, Ordering, Less, Equal, Greater}
use Rattle.guides.specs.Meaning.{low, high, has, neighbours}
use Rattle.guides.proofs.Sequences.{attached, detached}
use Rattle.records.specs.declared.answer.Answer.TheVariants.{Yes, No, Found, Missing, NoRoom}
use Rattle.records.specs.declared.outcome.Outcome.{Outcome}
use Rattle.records.specs.declared.outcome.Outcome.TheVariants.{Goes, Waits, Ends, Retires}
use Rattle.records.specs.declared.record.Phase.{Phase}
use Rattle.records.specs.declared.record.Phase.TheVariants.{Enter, Down, Check, Back, On, Seek, Lock, Valid, Take, Link, LinkBack, Attach, ReleaseNew, PutEnd, TakeVictim, Mark, UnlinkBack, Unlink, Detach, ReleaseVictim, StrikeEnd, First, FirstNext}
use Rattle.records.specs.declared.record.Status.TheVariants.{Free, InHand, Chained}
use Rattle.records.specs.declared.record.Task.{Task}
use Rattle.records.specs.declared.record.Work.{Work}
use Rattle.records.specs.declared.record.Work.TheVariants.{Put, Strike, Look, First as FirstWork, After}
use Rattle.records.specs.Records.{into, moved_to, with_downs, with_other, held_by_other, start_over}
use Rattle.rules.specs.Finding.{most_downs}
use Rattle.rules.specs.Putting.{most_places}
use Rattle.promises.proofs.Laws.{compared, exact}
use Rattle.promises.proofs.Sights.{Sight, next_put, prev_put, mark_put, lock_put, status_put, guide_put, filled}

-- Puts and strikes.
pub data Changes : Work → Type 0 where
  puts : Changes Put
  strikes : Changes Strike

-- A work for which the phase has no rule.
pub data Strays : Work → Phase → Type 0 where
  first_back : Strays FirstWork Back
  put_on : Strays Put On
  strike_on : Strays Strike On
  first_on : Strays FirstWork On
  look_valid : Strays Look Valid
  first_valid : Strays FirstWork Valid
  after_valid : Strays After Valid

module _ {K : Type 0} (rank : K → K → Ordering) (s : Sight K) (me : ℕ) (t : Task K) where
  -- How place p stands to the key of the work.
  abbrev pub stands : ℕ → Ordering
  stands p = compared rank (s.spot p) t.key

  -- The rule of the task's phase came to this outcome and made s into s'; the stations are settled after it.
  pub data Way (o : Outcome K) (s' : Sight K) : Type 0 where
    strays : Strays t.work t.phase → o ≡ start_over t → s' ≡ s → Way o s'
    enters : t.phase ≡ Enter → (p : ℕ) → has p s.guide.sequence ≡ true → o ≡ Goes (into Down (with_downs 0 (moved_to p t))) → s' ≡ s → Way o s'
    -- DOWN
    down_here : t.phase ≡ Down → t.at < s.size → o ≡ Goes (into Check t) → s' ≡ s → Way o s'
    down_lost : t.phase ≡ Down → t.at < s.size → o ≡ Goes (into Check (moved_to low t)) → s' ≡ s → Way o s'
    down_last : t.phase ≡ Down → t.at < s.size → (p : ℕ) → has p s.guide.sequence ≡ true → most_downs ≤ t.downs + 1 → o ≡ Goes (into Check (moved_to p t)) → s' ≡ s → Way o s'
    down_on : t.phase ≡ Down → t.at < s.size → (p : ℕ) → has p s.guide.sequence ≡ true → t.downs + 1 < most_downs → o ≡ Goes (with_downs (t.downs + 1) (moved_to p t)) → s' ≡ s → Way o s'
    -- CHECK
    check_marked : t.phase ≡ Check → s.marked t.at ≡ true → o ≡ Goes (into Back (moved_to low t)) → s' ≡ s → Way o s'
    check_unmarked : t.phase ≡ Check → s.marked t.at ≡ false → o ≡ Goes (into Back t) → s' ≡ s → Way o s'
    -- BACK
    back_look_yes : t.phase ≡ Back → t.work ≡ Look → stands t.at ≡ Equal → s.marked t.at ≡ false → o ≡ Ends Yes → s' ≡ s → Way o s'
    back_look_marked : t.phase ≡ Back → t.work ≡ Look → stands t.at ≡ Equal → s.marked t.at ≡ true → o ≡ Goes (moved_to (s.prev t.at) t) → s' ≡ s → Way o s'
    back_look_above : t.phase ≡ Back → t.work ≡ Look → stands t.at ≡ Greater → o ≡ Goes (moved_to (s.prev t.at) t) → s' ≡ s → Way o s'
    back_look_on : t.phase ≡ Back → t.work ≡ Look → stands t.at ≡ Less → o ≡ Goes (into On t) → s' ≡ s → Way o s'
    back_after_above : t.phase ≡ Back → t.work ≡ After → stands t.at ≡ Greater → o ≡ Goes (moved_to (s.prev t.at) t) → s' ≡ s → Way o s'
    back_after_on : t.phase ≡ Back → t.work ≡ After → (stands t.at ≡ Less) ⊎ (stands t.at ≡ Equal) → o ≡ Goes (into On t) → s' ≡ s → Way o s'
    back_change_above : t.phase ≡ Back → Changes t.work → (stands t.at ≡ Equal) ⊎ (stands t.at ≡ Greater) → o ≡ Goes (moved_to (s.prev t.at) t) → s' ≡ s → Way o s'
    back_change_seek : t.phase ≡ Back → Changes t.work → stands t.at ≡ Less → o ≡ Goes (into Seek t) → s' ≡ s → Way o s'
    -- ON
    on_look_next : t.phase ≡ On → t.work ≡ Look → stands t.at ≡ Less → o ≡ Goes (moved_to (s.next t.at) t) → s' ≡ s → Way o s'
    on_look_marked : t.phase ≡ On → t.work ≡ Look → stands t.at ≡ Equal → s.marked t.at ≡ true → o ≡ Ends No → s' ≡ s → Way o s'
    on_look_yes : t.phase ≡ On → t.work ≡ Look → stands t.at ≡ Equal → s.marked t.at ≡ false → o ≡ Ends Yes → s' ≡ s → Way o s'
    on_look_no : t.phase ≡ On → t.work ≡ Look → stands t.at ≡ Greater → o ≡ Ends No → s' ≡ s → Way o s'
    on_after_next : t.phase ≡ On → t.work ≡ After → (stands t.at ≡ Less) ⊎ (stands t.at ≡ Equal) → o ≡ Goes (moved_to (s.next t.at) t) → s' ≡ s → Way o s'
    on_after_missing : t.phase ≡ On → t.work ≡ After → t.at ≡ high → o ≡ Ends Missing → s' ≡ s → Way o s'
    on_after_marked : t.phase ≡ On → t.work ≡ After → stands t.at ≡ Greater → s.marked t.at ≡ true → o ≡ Goes (into Enter t) → s' ≡ s → Way o s'
    on_after_found : t.phase ≡ On → t.work ≡ After → stands t.at ≡ Greater → s.marked t.at ≡ false → (a : K) → s.spot t.at ≡ exact a → o ≡ Ends (Found a) → s' ≡ s → Way o s'
    -- SEEK
    seek_next : t.phase ≡ Seek → t.at < s.size → stands (s.next t.at) ≡ Less → o ≡ Goes (moved_to (s.next t.at) t) → s' ≡ s → Way o s'
    seek_lock : t.phase ≡ Seek → t.at < s.size → (stands (s.next t.at) ≡ Equal) ⊎ (stands (s.next t.at) ≡ Greater) → o ≡ Goes (into Lock t) → s' ≡ s → Way o s'
    -- LOCK
    lock_waits : t.phase ≡ Lock → held_by_other me (s.lock t.at) ≡ true → o ≡ Waits → s' ≡ s → Way o s'
    lock_taken : t.phase ≡ Lock → t.at < s.size → held_by_other me (s.lock t.at) ≡ false → o ≡ Goes (into Valid t) → s' ≡ lock_put t.at (Some me) s → Way o s'
    -- VALID
    valid_again : t.phase ≡ Valid → Changes t.work → (s.marked t.at ≡ true) ⊎ (stands (s.next t.at) ≡ Less) → o ≡ Goes (into Enter t) → s' ≡ lock_put t.at None s → Way o s'
    valid_put_no : t.phase ≡ Valid → t.work ≡ Put → s.marked t.at ≡ false → stands (s.next t.at) ≡ Equal → o ≡ Ends No → s' ≡ lock_put t.at None s → Way o s'
    valid_take : t.phase ≡ Valid → t.work ≡ Put → s.marked t.at ≡ false → stands (s.next t.at) ≡ Greater → o ≡ Goes (into Take t) → s' ≡ s → Way o s'
    valid_strike_no : t.phase ≡ Valid → t.work ≡ Strike → s.marked t.at ≡ false → stands (s.next t.at) ≡ Greater → o ≡ Ends No → s' ≡ lock_put t.at None s → Way o s'
    valid_victim : t.phase ≡ Valid → t.work ≡ Strike → s.marked t.at ≡ false → stands (s.next t.at) ≡ Equal → o ≡ Goes (into TakeVictim t) → s' ≡ s → Way o s'
    -- TAKE and what follows
    take_none : t.phase ≡ Take → ((p : ℕ) → 2 ≤ p → p < s.size → p < most_places → s.status p ≡ Free → ⊥) → o ≡ Ends NoRoom → s' ≡ lock_put t.at None s → Way o s'
    take_some : t.phase ≡ Take → (p : ℕ) → 2 ≤ p → p < s.size → s.status p ≡ Free → o ≡ Goes (into Link (with_other p t))
        → s' ≡ filled p (record { key = t.key; next = s.next t.at; prev = t.at; marked = false; lock = Some me; status = InHand }) s → Way o s'
    links : t.phase ≡ Link → o ≡ Goes (into LinkBack t) → s' ≡ status_put t.other Chained (next_put t.at t.other s) → Way o s'
    links_back : t.phase ≡ LinkBack → s.next t.other < s.size → o ≡ Goes (into Attach t) → s' ≡ prev_put (s.next t.other) t.other s → Way o s'
    attaches : t.phase ≡ Attach → has t.other s.guide.sequence ≡ false → t.other < s.guide.places → neighbours t.at (s.next t.other) s.guide.sequence ≡ true
        → o ≡ Goes (into ReleaseNew t) → s' ≡ guide_put (attached t.at t.other s.guide) s → Way o s'
    releases_new : t.phase ≡ ReleaseNew → o ≡ Goes (into PutEnd t) → s' ≡ lock_put t.other None s → Way o s'
    put_ends : t.phase ≡ PutEnd → o ≡ Ends Yes → s' ≡ lock_put t.at None s → Way o s'
    -- the victim and what follows
    victim_waits : t.phase ≡ TakeVictim → held_by_other me (s.lock (s.next t.at)) ≡ true → o ≡ Waits → s' ≡ s → Way o s'
    victim_taken : t.phase ≡ TakeVictim → s.next t.at < s.size → held_by_other me (s.lock (s.next t.at)) ≡ false → o ≡ Goes (into Mark (with_other (s.next t.at) t))
        → s' ≡ lock_put (s.next t.at) (Some me) s → Way o s'
    marks : t.phase ≡ Mark → o ≡ Goes (into UnlinkBack t) → s' ≡ mark_put t.other s → Way o s'
    unlinks_back : t.phase ≡ UnlinkBack → s.next t.other < s.size → o ≡ Goes (into Unlink t) → s' ≡ prev_put (s.next t.other) t.at s → Way o s'
    unlinks : t.phase ≡ Unlink → o ≡ Goes (into Detach t) → s' ≡ status_put t.other InHand (next_put t.at (s.next t.other) s) → Way o s'
    detaches : t.phase ≡ Detach → high < t.other → has t.other s.guide.sequence ≡ true → o ≡ Goes (into ReleaseVictim t) → s' ≡ guide_put (detached t.other s.guide) s → Way o s'
    releases_victim : t.phase ≡ ReleaseVictim → o ≡ Goes (into StrikeEnd t) → s' ≡ lock_put t.other None s → Way o s'
    strike_ends : t.phase ≡ StrikeEnd → t.other < s.size → o ≡ Retires t.other → s' ≡ lock_put t.at None s → Way o s'
    -- FIRST
    first_missing : t.phase ≡ First → s.next low ≡ high → o ≡ Ends Missing → s' ≡ s → Way o s'
    first_on_next : t.phase ≡ First → (s.next low ≡ high → ⊥) → o ≡ Goes (into FirstNext (moved_to (s.next low) t)) → s' ≡ s → Way o s'
    first_marked : t.phase ≡ FirstNext → s.marked t.at ≡ true → o ≡ Goes (into First t) → s' ≡ s → Way o s'
    first_found : t.phase ≡ FirstNext → s.marked t.at ≡ false → (a : K) → (2 ≤ t.at → s.spot t.at ≡ exact a) → o ≡ Ends (Found a) → s' ≡ s → Way o s'
