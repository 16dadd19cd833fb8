-- That every place has the status that is true of it. Assumes the laws of the order, and what holds between calls.
use Rattle.std.proofs.Common.{◌≡◌, ℕ, ◌≤◌, Bool, true, false, ◌⊎◌, ◌↔◌, List, Some, Ordering, sym, refl, ap, ◌∙◌, inl, inr, arith}
use Rattle.std.proofs.lemmas.Bool.{true≢false, false≢true}
use Rattle.std.specs.List.{slice_get}
use Rattle.guides.specs.Meaning.{has}
use Rattle.records.specs.declared.record.Phase.{Phase}
use Rattle.records.specs.declared.record.Phase.TheVariants.{Enter, Down, Check, Back, On, Seek, Lock, Valid, Take, Link, LinkBack, Attach, ReleaseNew, PutEnd, TakeVictim, Mark, UnlinkBack, Unlink, Detach, ReleaseVictim, StrikeEnd, First, FirstNext}
use Rattle.records.specs.declared.record.Place.{Place}
use Rattle.records.specs.declared.record.Status.{Status}
use Rattle.records.specs.declared.record.Status.TheVariants.{Free, InHand, Chained, Retired}
use Rattle.records.specs.declared.record.Task.{Task}
use Rattle.rules.specs.Putting.{is_free}
use Rattle.engine.specs.Contents.{field_of, chain}
use Rattle.engine.specs.Counting.{is_in_hand, is_chained, is_retired}
use Rattle.promises.specs.Books.{Book, work_at}
use Rattle.promises.specs.Statuses.{InHands, IsInHand, IsRetired, StatusIsExact}
use Rattle.promises.specs.Runs.{Run, retired_during}
use Rattle.promises.proofs.Small.{only_free, awaited_works}
use Rattle.promises.proofs.Laws.{Laws}
use Rattle.promises.proofs.Sights.{Sight, sight_of}
use Rattle.promises.proofs.Invariant.{Inv, rung, group, is_joined, is_handing, chained}
use Rattle.promises.proofs.Chains.{chain_has}
use Rattle.promises.proofs.Tidy.{late_changes, holding_is_late, handing_holds, other_found, anyone_found}
use Rattle.promises.proofs.Seats.{at_leads, joined_chained}
use Rattle.promises.proofs.Resting.{awaits_in, awaits_known}
use Rattle.promises.proofs.InHands.{is_early, is_put_end, end_is_placed, other_known}

-- A work that has taken its other place and not released it has it on the chain or in its hands.
holds_or_hands : (f : Phase) → is_early f ≡ false → is_put_end f ≡ false → (is_joined (rung f) ≡ true) ⊎ (is_handing (rung f) ≡ true)
holds_or_hands Enter late kept = absurd (true≢false late)
holds_or_hands Down late kept = absurd (true≢false late)
holds_or_hands Check late kept = absurd (true≢false late)
holds_or_hands Back late kept = absurd (true≢false late)
holds_or_hands On late kept = absurd (true≢false late)
holds_or_hands Seek late kept = absurd (true≢false late)
holds_or_hands Lock late kept = absurd (true≢false late)
holds_or_hands Valid late kept = absurd (true≢false late)
holds_or_hands Take late kept = absurd (true≢false late)
holds_or_hands Link late kept = inr refl
holds_or_hands LinkBack late kept = inl refl
holds_or_hands Attach late kept = inl refl
holds_or_hands ReleaseNew late kept = inl refl
holds_or_hands PutEnd late kept = absurd (true≢false kept)
holds_or_hands TakeVictim late kept = absurd (true≢false late)
holds_or_hands Mark late kept = inl refl
holds_or_hands UnlinkBack late kept = inl refl
holds_or_hands Unlink late kept = inl refl
holds_or_hands Detach late kept = inr refl
holds_or_hands ReleaseVictim late kept = inr refl
holds_or_hands StrikeEnd late kept = inr refl
holds_or_hands First late kept = absurd (true≢false late)
holds_or_hands FirstNext late kept = absurd (true≢false late)

hand_only : (x : Status) → is_in_hand x ≡ true → x ≡ InHand
hand_only Free h = absurd (false≢true h)
hand_only InHand h = refl
hand_only Chained h = absurd (false≢true h)
hand_only (Retired w) h = absurd (false≢true h)

retired_only : (x : Status) → is_retired x ≡ true → (w : List Bool) × (x ≡ Retired w)
retired_only Free h = absurd (false≢true h)
retired_only InHand h = absurd (false≢true h)
retired_only Chained h = absurd (false≢true h)
retired_only (Retired w) h = (w, refl)

awaiting_is_retired : (i : ℕ) (x : Status) → awaits_in i x ≡ true → is_retired x ≡ true
awaiting_is_retired i Free h = h
awaiting_is_retired i InHand h = h
awaiting_is_retired i Chained h = h
awaiting_is_retired i (Retired w) h = refl

module _ {K : Type 0} (rank : K → K → Ordering) (laws : Laws rank) (inv : (b : Book K) → Run rank b → Inv rank (sight_of b)) {b : Book K} (r : Run rank b)
    (p : ℕ) (two : 2 ≤ p) (x : Place K) (is : slice_get b.places p ≡ Some x) where
  abbrev s : Sight K
  s = sight_of b

  seen : s.status p ≡ x.status
  seen = ap (field_of Free (λ y. y.status)) is

  on_chain : has p (chain b.places) ≡ chained s p
  on_chain = chain_has rank laws b.places b.stations b.guide (inv b r) p two

  known : (i : ℕ) → awaits_in i x.status ≡ retired_during rank r p i
  known i = ap (awaits_in i) (sym seen) ∙ awaits_known rank laws inv r p i

  in_hand_is_held : is_in_hand x.status ≡ true → IsInHand rank b p
  in_hand_is_held h =
      let e = hand_only x.status h in
      let hand = (inv b r).hands p (seen ∙ e) in
      let found = other_found is_handing (work_at b hand.0) p hand.1 in (
        hand.0,
        found.0,
        record {
          under_way = found.1;
          changes = late_changes found.0.work (group found.0.phase) ((inv b r).fit hand.0 found.0 found.1)
              (holding_is_late found.0.phase (handing_holds (rung found.0.phase) found.2));
          other = found.3;
          off_chain = on_chain ∙ ap is_chained (seen ∙ e);
        },
      )

  module _ (i : ℕ) (t : Task K) (held : InHands rank b p i t) where
    not_chained : (q : ℕ) → q ≡ p → chained s q ≡ true → is_in_hand x.status ≡ true
    not_chained q e on = absurd (true≢false (sym on ∙ ap (chained s) e ∙ sym on_chain ∙ held.off_chain))

    by_end : is_put_end t.phase ≡ true → is_in_hand x.status ≡ true
    by_end ended =
        not_chained t.other held.other (ap (chained s) (sym ((other_known rank laws inv r i t held.under_way).joined ended))
        ∙ at_leads rank laws s (inv b r) i t held.under_way (end_is_placed t.phase ended))

    by_rung : (is_joined (rung t.phase) ≡ true) ⊎ (is_handing (rung t.phase) ≡ true) → is_in_hand x.status ≡ true
    by_rung (inl joined) = not_chained t.other held.other (joined_chained rank laws s (inv b r) i t held.under_way joined)
    by_rung (inr handing) = ap is_in_hand (sym seen ∙ ap s.status (sym held.other) ∙ ((inv b r).stands i t held.under_way).in_hand handing)

    held_is_in_hand : is_in_hand x.status ≡ true
    held_is_in_hand = go (is_early t.phase) (is_put_end t.phase) refl refl
      where
        go : (y z : Bool) → is_early t.phase ≡ y → is_put_end t.phase ≡ z → is_in_hand x.status ≡ true
        go true z early e = let none = sym held.other ∙ (other_known rank laws inv r i t held.under_way).none_yet early in absurd (omega arith)
        go false true late e = by_end e
        go false false late e = by_rung (holds_or_hands t.phase late e)

  retired_was_retired : is_retired x.status ≡ true → IsRetired rank r p
  retired_was_retired h =
      let w = retired_only x.status h in
      let found = anyone_found w.0 ((inv b r).rests p w.0 (seen ∙ w.1)).1 in
      (found.0, sym (known found.0) ∙ ap (awaits_in found.0) w.1 ∙ found.2)

  in_hands : (is_in_hand x.status ≡ true) ↔ IsInHand rank b p
  in_hands = (in_hand_is_held, λ h. held_is_in_hand h.0 h.1 h.2)

  retires : (is_retired x.status ≡ true) ↔ IsRetired rank r p
  retires = (retired_was_retired, λ h. awaiting_is_retired h.0 x.status (known h.0 ∙ h.1))

  none_is_free : has p (chain b.places) ≡ false → (IsInHand rank b p → ⊥) → (IsRetired rank r p → ⊥) → is_free x.status ≡ true
  none_is_free off unheld unretired = go x.status refl
    where
      go : (y : Status) → x.status ≡ y → is_free y ≡ true
      go Free e = refl
      go InHand e = absurd (unheld (in_hands.0 (ap is_in_hand e)))
      go Chained e = absurd (true≢false (sym (ap is_chained (seen ∙ e)) ∙ sym on_chain ∙ off))
      go (Retired w) e = absurd (unretired (retires.0 (ap is_retired e)))

  pub status_is_exact : StatusIsExact rank r p x
  status_is_exact = record {
    chained = sym (ap is_chained seen) ∙ sym on_chain;
    in_hand = in_hands;
    retired = retires;
    free = (
      λ h. let e = only_free x.status h in (
        on_chain ∙ ap is_chained (seen ∙ e),
        λ held. true≢false (sym (in_hands.1 held) ∙ ap is_in_hand e),
        λ was. true≢false (sym (retires.1 was) ∙ ap is_retired e),
      ),
      λ h. none_is_free h.0 h.1 h.2,
    );
    waits_exactly = λ waits e i. sym (ap (awaits_in i) e) ∙ known i;
    waits_for_workers = λ waits e.
        let found = anyone_found waits ((inv b r).rests p waits (seen ∙ e)).1 in
        (found.0, found.1, awaited_works (work_at b found.0) ((inv b r).awaits p waits (seen ∙ e) found.0 found.2));
  }
