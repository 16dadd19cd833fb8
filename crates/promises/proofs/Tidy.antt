-- That every place has the status that is true of it, and that a book with no work under way is tidy. Assumes the laws of
-- the order and what holds between calls.
use Rattle.std.proofs.Common.{◌≡◌, ℕ, suc, ◌≤◌, Bool, true, false, not, ◌&&◌, ◌||◌, eqb, leb, List, [], ◌∷◌, ◌++◌, get_or, is_some, Some, None, Option, Ordering, sym, refl, ap, ◌∙◌, arith}
use Rattle.std.proofs.lemmas.Bool.{true≢false, false≢true, eqb-true, eq-eqb, and_parts}
use Rattle.std.proofs.lemmas.Bool.Decides.{nat_tests}
use Rattle.std.specs.List.{slice_get}
use Rattle.guides.specs.Meaning.{low, high}
use Rattle.records.specs.declared.record.Phase.{Phase}
use Rattle.records.specs.declared.record.Phase.TheVariants.{Enter, Down, Check, Back, On, Seek, Lock, Valid, Take, Link, LinkBack, Attach, ReleaseNew, PutEnd, TakeVictim, Mark, UnlinkBack, Unlink, Detach, ReleaseVictim, StrikeEnd, First, FirstNext}
use Rattle.records.specs.declared.record.Place.{Place}
use Rattle.records.specs.declared.record.Status.{Status}
use Rattle.records.specs.declared.record.Status.TheVariants.{Free, InHand, Chained, Retired}
use Rattle.records.specs.declared.record.Task.{Task}
use Rattle.records.specs.declared.record.Work.{Work}
use Rattle.records.specs.declared.record.Work.TheVariants.{Put, Strike, Look, First as FirstWork, After}
use Rattle.engine.specs.Calling.{locked_by}
use Rattle.engine.specs.Contents.{field_of, next_of, chain}
use Rattle.engine.specs.Settling.{anyone}
use Rattle.promises.specs.Books.{Book, work_at}
use Rattle.promises.specs.Promised.{is_change, is_retired, is_chained, IsTidy, StatusIsTrue}
use Rattle.promises.specs.Runs.{works_in}
use Rattle.promises.proofs.Small.{awaited_works}
use Rattle.promises.proofs.Laws.{Laws}
use Rattle.promises.proofs.Sights.{Sight, sight_of}
use Rattle.promises.proofs.Invariant.{Inv, rung, group, fits, is_handing, is_hiding, is_detaching, holds, other_in, holder_in, is_awaited, chained, shown}
use Rattle.promises.proofs.Chains.{Walks, chain_walks, chain_has, rising_same, whole_rises, whole_has}

-- ---- which works come to which phases

-- A phase from SEEK on is of a put or a strike.
pub late_changes : (work : Work) (g : ℕ) → fits work g ≡ true → leb 3 g ≡ true → is_change work ≡ true
late_changes Put g f l = refl
late_changes Strike g f l = refl
late_changes Look g f l = grind (arith, nat_tests)
late_changes FirstWork g f l = grind (arith, nat_tests)
late_changes After g f l = grind (arith, nat_tests)

-- A phase that holds a lock is such a phase.
pub holding_is_late : (phase : Phase) → leb 1 (rung phase) ≡ true → leb 3 (group phase) ≡ true
holding_is_late Enter h = h
holding_is_late Down h = h
holding_is_late Check h = h
holding_is_late Back h = h
holding_is_late On h = h
holding_is_late Seek h = refl
holding_is_late Lock h = refl
holding_is_late Valid h = refl
holding_is_late Take h = refl
holding_is_late Link h = refl
holding_is_late LinkBack h = refl
holding_is_late Attach h = refl
holding_is_late ReleaseNew h = refl
holding_is_late PutEnd h = refl
holding_is_late TakeVictim h = refl
holding_is_late Mark h = refl
holding_is_late UnlinkBack h = refl
holding_is_late Unlink h = refl
holding_is_late Detach h = refl
holding_is_late ReleaseVictim h = refl
holding_is_late StrikeEnd h = refl
holding_is_late First h = h
holding_is_late FirstNext h = h

pub handing_holds : (r : ℕ) → is_handing r ≡ true → leb 1 r ≡ true
handing_holds r h = grind (arith, nat_tests)

-- A work that has p as its other place, in such a rung.
pub other_found : {K : Type 0} (f : ℕ → Bool) (o : Option (Task K)) (p : ℕ) → other_in f o p ≡ true
    → (t : Task K) × (o ≡ Some t) × (f (rung t.phase) ≡ true) × (t.other ≡ p)
other_found f None p h = absurd (false≢true h)
other_found f (Some t) p h =
    let both = and_parts (f (rung t.phase)) (eqb t.other p) h in
    (t, refl, both.0, eqb-true t.other p both.1)

pub anyone_found : (w : List Bool) → anyone w ≡ true → (i : ℕ) × (slice_get w i ≡ Some true) × (get_or w i false ≡ true)
anyone_found [] h = absurd (false≢true h)
anyone_found (true ∷ w) h = (0, refl, refl)
anyone_found (false ∷ w) h = let rest = anyone_found w h in (suc rest.0, rest.1, rest.2)

module _ {K : Type 0} (rank : K → K → Ordering) (laws : Laws rank) (b : Book K) (inv : Inv rank (sight_of b)) where
  pub status_is_true : (p : ℕ) (x : Place K) → 2 ≤ p → slice_get b.places p ≡ Some x → StatusIsTrue rank b p x
  status_is_true p x two is = record {
    chained = sym (ap is_chained seen) ∙ sym (chain_has rank laws b.places b.stations b.guide inv p two);
    waits_for_workers = λ waits e.
        let r = inv.rests p waits (seen ∙ e) in
        let found = anyone_found waits r.1 in
        (found.0, found.1, awaited_works (work_at b found.0) (inv.awaits p waits (seen ∙ e) found.0 found.2));
    in_hand = λ e.
        let h = inv.hands p (seen ∙ e) in
        let found = other_found is_handing (work_at b h.0) p h.1 in (
          h.0,
          found.0,
          found.1,
          found.3,
          late_changes found.0.work (group found.0.phase) (inv.fit h.0 found.0 found.1)
              (holding_is_late found.0.phase (handing_holds (rung found.0.phase) found.2)),
        );
  }
    where
      seen : (sight_of b).status p ≡ x.status
      seen = ap (field_of Free (λ y. y.status)) is

-- ---- nobody works

module _ {K : Type 0} (rank : K → K → Ordering) (s : Sight K) (inv : Inv rank s) (idle : (i : ℕ) → s.task i ≡ None) where
  idle_unlocked : (p : ℕ) → s.lock p ≡ None
  idle_unlocked p = go (s.lock p) refl
    where
      go : (o : Option ℕ) → s.lock p ≡ o → o ≡ None
      go None e = refl
      go (Some j) e =
          absurd (true≢false (sym (eq-eqb j j refl) ∙ sym (ap (locked_by j) e) ∙ inv.locks j p ∙ ap (λ o. holds o p) (idle j)))

  idle_none_retired : (p : ℕ) → is_retired (s.status p) ≡ false
  idle_none_retired p = go (s.status p) refl
    where
      go : (x : Status) → s.status p ≡ x → is_retired x ≡ false
      go Free e = refl
      go InHand e = refl
      go Chained e = refl
      go (Retired w) e =
          let found = anyone_found w (inv.rests p w e).1 in
          absurd (true≢false (sym (inv.awaits p w e found.0 found.2) ∙ ap is_awaited (idle found.0)))

  idle_shown : (p : ℕ) → shown s p ≡ chained s p
  idle_shown p =
      ap (λ o. (chained s p && not (holder_in is_hiding s.task o p)) || holder_in is_detaching s.task o p) (idle_unlocked p) ∙ same (chained s p)
    where
      same : (c : Bool) → ((c && true) || false) ≡ c
      same true = refl
      same false = refl

none_works : {K : Type 0} (o : Option (Task K)) → is_some o ≡ false → o ≡ None
none_works None h = refl
none_works (Some t) h = cc

module _ {K : Type 0} (rank : K → K → Ordering) (laws : Laws rank) (b : Book K) (inv : Inv rank (sight_of b)) where
  pub idle_is_tidy : ((i : ℕ) → works_in rank b i ≡ false) → IsTidy rank b
  idle_is_tidy quiet = record {
    no_lock = λ p x is. sym (ap (field_of None (λ y. y.lock)) is) ∙ idle_unlocked rank (sight_of b) inv none p;
    none_retired = λ p x is. sym (ap (λ o. is_retired (field_of Free (λ y. y.status) o)) is) ∙ idle_none_retired rank (sight_of b) inv none p;
    guide_is_the_chain = rising_same rank laws (sight_of b).spot b.guide.sequence (low ∷ (chain b.places ++ high ∷ [])) inv.guide_rises
        (whole_rises rank laws (sight_of b) inv (chain b.places) walks)
        (λ p. inv.guide_shows p ∙ idle_shown rank (sight_of b) inv none p ∙ sym (whole_has rank laws (sight_of b) inv (chain b.places) walks p));
  }
    where
      none : (i : ℕ) → work_at b i ≡ None
      none i = none_works (work_at b i) (quiet i)

      walks : Walks (sight_of b) (next_of b.places low) (chain b.places)
      walks = chain_walks rank laws b.places b.stations b.guide inv
