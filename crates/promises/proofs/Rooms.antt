-- What a step makes of the free places: they stay until TAKE takes one. Assumes nothing.
use Rattle.std.proofs.Common.{◌≡◌, ℕ, zero, suc, ◌<◌, ◌≤◌, Bool, true, false, not, ◌&&◌, eqb, ◌⊎◌, List, [], ◌∷◌, length, Ordering, sym, refl, ap, ◌∙◌, inl, inr, arith}
use Rattle.std.proofs.lemmas.Bool.{true≢false, or_left, or_right, or_cases}
use Rattle.std.specs.List.{slice_get}
use Rattle.records.specs.declared.outcome.Outcome.{Outcome}
use Rattle.records.specs.declared.outcome.Outcome.TheVariants.{Goes}
use Rattle.records.specs.declared.record.Phase.{Phase}
use Rattle.records.specs.declared.record.Phase.TheVariants.{Enter, Down, Check, Back, On, Seek, Lock, Valid, Take, Link, LinkBack, Attach, ReleaseNew, PutEnd, TakeVictim, Mark, UnlinkBack, Unlink, Detach, ReleaseVictim, StrikeEnd, First, FirstNext}
use Rattle.records.specs.declared.record.Place.{Place}
use Rattle.records.specs.declared.record.Status.{Status}
use Rattle.records.specs.declared.record.Status.TheVariants.{Free}
use Rattle.records.specs.declared.record.Task.{Task}
use Rattle.records.specs.declared.record.Work.{Work}
use Rattle.records.specs.declared.record.Work.TheVariants.{Put, Strike, Look, First as FirstWork, After}
use Rattle.records.specs.Records.{first_phase}
use Rattle.rules.specs.Putting.{is_free}
use Rattle.engine.specs.Contents.{field_of}
use Rattle.promises.specs.Alone.{any_free, room_in}
use Rattle.promises.proofs.Small.{only_free}
use Rattle.promises.proofs.Sights.{Sight}
use Rattle.promises.proofs.Views.{Way, Strays}
use Rattle.promises.proofs.Invariant.{rung, group, fits}
use Rattle.promises.proofs.Aims.{goes_not}
use Rattle.promises.proofs.Doing.{done_of}

-- A put past TAKE: it has taken a place.
abbrev pub is_taken : Phase → Bool
is_taken f = eqb (group f) 4 && not (eqb (rung f) 4)

stray_untaken : {w : Work} {f : Phase} → Strays w f → (is_taken f ≡ false) × (is_taken (first_phase w) ≡ false)
stray_untaken Strays.first_back = (refl, refl)
stray_untaken Strays.put_on = (refl, refl)
stray_untaken Strays.strike_on = (refl, refl)
stray_untaken Strays.first_on = (refl, refl)
stray_untaken Strays.look_valid = (refl, refl)
stray_untaken Strays.first_valid = (refl, refl)
stray_untaken Strays.after_valid = (refl, refl)

pub begins_untaken : (w : Work) → is_taken (first_phase w) ≡ false
begins_untaken Put = refl
begins_untaken Strike = refl
begins_untaken Look = refl
begins_untaken FirstWork = refl
begins_untaken After = refl

-- A put that has changed the keys has taken a place.
pub done_taken : (f : Phase) → fits Put (group f) ≡ true → done_of f ≡ 1 → is_taken f ≡ true
done_taken Enter h d = absurd (omega arith)
done_taken Down h d = absurd (omega arith)
done_taken Check h d = absurd (omega arith)
done_taken Back h d = absurd (omega arith)
done_taken On h d = absurd (omega arith)
done_taken Seek h d = absurd (omega arith)
done_taken Lock h d = absurd (omega arith)
done_taken Valid h d = absurd (omega arith)
done_taken Take h d = absurd (omega arith)
done_taken Link h d = absurd (omega arith)
done_taken LinkBack h d = refl
done_taken Attach h d = refl
done_taken ReleaseNew h d = refl
done_taken PutEnd h d = refl
done_taken TakeVictim h d = absurd (omega arith)
done_taken Mark h d = absurd (omega arith)
done_taken UnlinkBack h d = absurd (true≢false (sym h))
done_taken Unlink h d = absurd (true≢false (sym h))
done_taken Detach h d = absurd (true≢false (sym h))
done_taken ReleaseVictim h d = absurd (true≢false (sym h))
done_taken StrikeEnd h d = absurd (true≢false (sym h))
done_taken First h d = absurd (omega arith)
done_taken FirstNext h d = absurd (omega arith)

module _ {K : Type 0} where
  -- ---- free places of a list

  abbrev pub status_at : List (Place K) → ℕ → Status
  status_at ps p = field_of Free (λ x. x.status) (slice_get ps p)

  any_free_from : (ps : List (Place K)) (q : ℕ) → q < length ps → status_at ps q ≡ Free → any_free ps ≡ true
  any_free_from [] q h e = absurd (omega arith)
  any_free_from (x ∷ ps) zero h e = or_left (is_free x.status) (any_free ps) (ap is_free e)
  any_free_from (x ∷ ps) (suc q) h e = or_right (is_free x.status) (any_free ps) (any_free_from ps q (omega arith) e)

  any_free_at : (ps : List (Place K)) → any_free ps ≡ true → (q : ℕ) × (q < length ps) × (status_at ps q ≡ Free)
  any_free_at [] h = absurd (true≢false (sym h))
  any_free_at (x ∷ ps) h = by (any_free_at ps) (or_cases (is_free x.status) (any_free ps) h)
    where
      by : (any_free ps ≡ true → (q : ℕ) × (q < length ps) × (status_at ps q ≡ Free)) → (is_free x.status ≡ true) ⊎ (any_free ps ≡ true)
          → (q : ℕ) × (q < length (x ∷ ps)) × (status_at (x ∷ ps) q ≡ Free)
      by rest (inl e) = (0, omega arith, only_free x.status e)
      by rest (inr e) = let more = rest e in let less : more.0 < length ps = more.1 in (suc more.0, omega arith, more.2)

  -- A place from 2 on is free.
  pub record Room (ps : List (Place K)) : Type 0 where
    pub place : ℕ
    pub counts : 2 ≤ place
    pub within : place < length ps
    pub free : status_at ps place ≡ Free

  pub room_found : (ps : List (Place K)) → room_in ps ≡ true → Room ps
  room_found [] h = absurd (true≢false (sym h))
  room_found (x ∷ []) h = absurd (true≢false (sym h))
  room_found (x ∷ (y ∷ ps)) h = let at = any_free_at ps h in let less : at.0 < length ps = at.1 in record { place = suc (suc at.0); counts = omega arith; within = omega arith; free = at.2 }

  pub room_by : (ps : List (Place K)) (p : ℕ) → 2 ≤ p → p < length ps → status_at ps p ≡ Free → room_in ps ≡ true
  room_by [] p c w e = absurd (omega arith)
  room_by (x ∷ []) p c w e = absurd (omega arith)
  room_by (x ∷ (y ∷ ps)) zero c w e = absurd (omega arith)
  room_by (x ∷ (y ∷ ps)) (suc zero) c w e = absurd (omega arith)
  room_by (x ∷ (y ∷ ps)) (suc (suc p)) c w e = any_free_from ps p (omega arith) e

  -- ---- what a step makes of the free places

  pub data Rooms (s : Sight K) (t u : Task K) (s' : Sight K) : Type 0 where
    keeps : is_taken t.phase ≡ false → is_taken u.phase ≡ false → s'.status ≡ s.status → Rooms s t u s'
    takes : is_taken t.phase ≡ false → is_taken u.phase ≡ true → (p : ℕ) → 2 ≤ p → p < s.size → s.status p ≡ Free → Rooms s t u s'
    has : is_taken t.phase ≡ true → is_taken u.phase ≡ true → Rooms s t u s'
    strikes : group t.phase ≡ 5 → Rooms s t u s'

  kept : {s : Sight K} {t u v : Task K} {o : Outcome K} {s' : Sight K} → is_taken t.phase ≡ false → is_taken v.phase ≡ false → o ≡ Goes v → o ≡ Goes u → s'.status ≡ s.status → Rooms s t u s'
  kept {s} {t} {u} {v} {o} {s'} h k e g st = let same : v ≡ u = cc in Rooms.keeps h (ap (λ x. is_taken x.phase) (sym same) ∙ k) st

  stays : {s : Sight K} {t u v : Task K} {o : Outcome K} {s' : Sight K} (f : Phase) → t.phase ≡ f → is_taken f ≡ false → is_taken v.phase ≡ is_taken f → o ≡ Goes v → o ≡ Goes u → s'.status ≡ s.status → Rooms s t u s'
  stays f ph h k e g st = kept (ap is_taken ph ∙ h) (k ∙ h) e g st

  holds : {s : Sight K} {t u v : Task K} {o : Outcome K} {s' : Sight K} (f : Phase) → t.phase ≡ f → is_taken f ≡ true → is_taken v.phase ≡ true → o ≡ Goes v → o ≡ Goes u → Rooms s t u s'
  holds {s} {t} {u} {v} {o} {s'} f ph h k e g = let same : v ≡ u = cc in Rooms.has (ap is_taken ph ∙ h) (ap (λ x. is_taken x.phase) (sym same) ∙ k)

  taken : {s : Sight K} {t u v : Task K} {o : Outcome K} {s' : Sight K} → t.phase ≡ Take → is_taken v.phase ≡ true → o ≡ Goes v → o ≡ Goes u → (p : ℕ) → 2 ≤ p → p < s.size → s.status p ≡ Free → Rooms s t u s'
  taken {s} {t} {u} {v} {o} {s'} ph k e g p c w f = let same : v ≡ u = cc in Rooms.takes (ap is_taken ph) (ap (λ x. is_taken x.phase) (sym same) ∙ k) p c w f

module _ {K : Type 0} {rank : K → K → Ordering} {s : Sight K} {me : ℕ} {t : Task K} {o : Outcome K} {s' : Sight K} where
  pub way_rooms : Way rank s me t o s' → (u : Task K) → o ≡ Goes u → Rooms s t u s'
  way_rooms (Way.strays x0 x1 x2) u g = kept (stray_untaken x0).0 (stray_untaken x0).1 x1 g (ap (λ x. x.status) x2)
  way_rooms (Way.enters x0 x1 x2 x3 x4) u g = stays Enter x0 refl refl x3 g (ap (λ x. x.status) x4)
  way_rooms (Way.down_here x0 x1 x2 x3) u g = stays Down x0 refl refl x2 g (ap (λ x. x.status) x3)
  way_rooms (Way.down_lost x0 x1 x2 x3) u g = stays Down x0 refl refl x2 g (ap (λ x. x.status) x3)
  way_rooms (Way.down_last x0 x1 x2 x3 x4 x5 x6) u g = stays Down x0 refl refl x5 g (ap (λ x. x.status) x6)
  way_rooms (Way.down_on x0 x1 x2 x3 x4 x5 x6) u g = stays Down x0 refl (ap is_taken x0) x5 g (ap (λ x. x.status) x6)
  way_rooms (Way.check_marked x0 x1 x2 x3) u g = stays Check x0 refl refl x2 g (ap (λ x. x.status) x3)
  way_rooms (Way.check_unmarked x0 x1 x2 x3) u g = stays Check x0 refl refl x2 g (ap (λ x. x.status) x3)
  way_rooms (Way.back_look_yes x0 x1 x2 x3 x4 x5) u g = goes_not x4 refl g
  way_rooms (Way.back_look_marked x0 x1 x2 x3 x4 x5) u g = stays Back x0 refl (ap is_taken x0) x4 g (ap (λ x. x.status) x5)
  way_rooms (Way.back_look_above x0 x1 x2 x3 x4) u g = stays Back x0 refl (ap is_taken x0) x3 g (ap (λ x. x.status) x4)
  way_rooms (Way.back_look_on x0 x1 x2 x3 x4) u g = stays Back x0 refl refl x3 g (ap (λ x. x.status) x4)
  way_rooms (Way.back_after_above x0 x1 x2 x3 x4) u g = stays Back x0 refl (ap is_taken x0) x3 g (ap (λ x. x.status) x4)
  way_rooms (Way.back_after_on x0 x1 x2 x3 x4) u g = stays Back x0 refl refl x3 g (ap (λ x. x.status) x4)
  way_rooms (Way.back_change_above x0 x1 x2 x3 x4) u g = stays Back x0 refl (ap is_taken x0) x3 g (ap (λ x. x.status) x4)
  way_rooms (Way.back_change_seek x0 x1 x2 x3 x4) u g = stays Back x0 refl refl x3 g (ap (λ x. x.status) x4)
  way_rooms (Way.on_look_next x0 x1 x2 x3 x4) u g = stays On x0 refl (ap is_taken x0) x3 g (ap (λ x. x.status) x4)
  way_rooms (Way.on_look_marked x0 x1 x2 x3 x4 x5) u g = goes_not x4 refl g
  way_rooms (Way.on_look_yes x0 x1 x2 x3 x4 x5) u g = goes_not x4 refl g
  way_rooms (Way.on_look_no x0 x1 x2 x3 x4) u g = goes_not x3 refl g
  way_rooms (Way.on_after_next x0 x1 x2 x3 x4) u g = stays On x0 refl (ap is_taken x0) x3 g (ap (λ x. x.status) x4)
  way_rooms (Way.on_after_missing x0 x1 x2 x3 x4) u g = goes_not x3 refl g
  way_rooms (Way.on_after_marked x0 x1 x2 x3 x4 x5) u g = stays On x0 refl refl x4 g (ap (λ x. x.status) x5)
  way_rooms (Way.on_after_found x0 x1 x2 x3 x4 x5 x6 x7) u g = goes_not x6 refl g
  way_rooms (Way.seek_next x0 x1 x2 x3 x4) u g = stays Seek x0 refl (ap is_taken x0) x3 g (ap (λ x. x.status) x4)
  way_rooms (Way.seek_lock x0 x1 x2 x3 x4) u g = stays Seek x0 refl refl x3 g (ap (λ x. x.status) x4)
  way_rooms (Way.lock_waits x0 x1 x2 x3) u g = goes_not x2 refl g
  way_rooms (Way.lock_taken x0 x1 x2 x3 x4) u g = stays Lock x0 refl refl x3 g (ap (λ x. x.status) x4)
  way_rooms (Way.valid_again x0 x1 x2 x3 x4) u g = stays Valid x0 refl refl x3 g (ap (λ x. x.status) x4)
  way_rooms (Way.valid_put_no x0 x1 x2 x3 x4 x5) u g = goes_not x4 refl g
  way_rooms (Way.valid_take x0 x1 x2 x3 x4 x5) u g = stays Valid x0 refl refl x4 g (ap (λ x. x.status) x5)
  way_rooms (Way.valid_strike_no x0 x1 x2 x3 x4 x5) u g = goes_not x4 refl g
  way_rooms (Way.valid_victim x0 x1 x2 x3 x4 x5) u g = stays Valid x0 refl refl x4 g (ap (λ x. x.status) x5)
  way_rooms (Way.take_none x0 x1 x2 x3) u g = goes_not x2 refl g
  way_rooms (Way.take_some x0 x1 x2 x3 x4 x5 x6) u g = taken x0 refl x5 g x1 x2 x3 x4
  way_rooms (Way.links x0 x1 x2) u g = holds Link x0 refl refl x1 g
  way_rooms (Way.links_back x0 x1 x2 x3) u g = holds LinkBack x0 refl refl x2 g
  way_rooms (Way.attaches x0 x1 x2 x3 x4 x5) u g = holds Attach x0 refl refl x4 g
  way_rooms (Way.releases_new x0 x1 x2) u g = holds ReleaseNew x0 refl refl x1 g
  way_rooms (Way.put_ends x0 x1 x2) u g = goes_not x1 refl g
  way_rooms (Way.victim_waits x0 x1 x2 x3) u g = goes_not x2 refl g
  way_rooms (Way.victim_taken x0 x1 x2 x3 x4) u g = Rooms.strikes (ap group x0)
  way_rooms (Way.marks x0 x1 x2) u g = Rooms.strikes (ap group x0)
  way_rooms (Way.unlinks_back x0 x1 x2 x3) u g = Rooms.strikes (ap group x0)
  way_rooms (Way.unlinks x0 x1 x2) u g = Rooms.strikes (ap group x0)
  way_rooms (Way.detaches x0 x1 x2 x3 x4) u g = Rooms.strikes (ap group x0)
  way_rooms (Way.releases_victim x0 x1 x2) u g = Rooms.strikes (ap group x0)
  way_rooms (Way.strike_ends x0 x1 x2 x3) u g = goes_not x2 refl g
  way_rooms (Way.first_missing x0 x1 x2 x3) u g = goes_not x2 refl g
  way_rooms (Way.first_on_next x0 x1 x2 x3) u g = stays First x0 refl refl x2 g (ap (λ x. x.status) x3)
  way_rooms (Way.first_marked x0 x1 x2 x3) u g = stays FirstNext x0 refl refl x2 g (ap (λ x. x.status) x3)
  way_rooms (Way.first_found x0 x1 x2 x3 x4 x5) u g = goes_not x4 refl g
