-- Which place a work has in its hands: none before it takes one; and the place that a put has added stays where it was put
-- until that put ends. Assumes the laws of the order, and what holds between calls.
use Rattle.std.proofs.Common.{◌≡◌, ℕ, Bool, true, false, eqb, ◌⊎◌, Some, Ordering, sym, refl, ap, ◌∙◌, subst, inl, inr}
use Rattle.std.proofs.lemmas.Bool.{true≢false, and_from, eq-eqb}
use Rattle.guides.specs.Meaning.{low}
use Rattle.records.specs.declared.answer.Stepped.{Stepped}
use Rattle.records.specs.declared.outcome.Outcome.{Outcome}
use Rattle.records.specs.declared.outcome.Outcome.TheVariants.{Goes}
use Rattle.records.specs.declared.record.Phase.{Phase}
use Rattle.records.specs.declared.record.Phase.TheVariants.{Enter, Down, Check, Back, On, Seek, Lock, Valid, Take, Link, LinkBack, Attach, ReleaseNew, PutEnd, TakeVictim, Mark, UnlinkBack, Unlink, Detach, ReleaseVictim, StrikeEnd, First, FirstNext}
use Rattle.records.specs.declared.record.Status.TheVariants.{Free}
use Rattle.records.specs.declared.record.Task.{Task}
use Rattle.records.specs.declared.record.Work.{Work}
use Rattle.records.specs.declared.record.Work.TheVariants.{Put, Strike, Look, First as FirstWork, After}
use Rattle.records.specs.Records.{first_phase}
use Rattle.engine.specs.Settling.{with_await}
use Rattle.promises.specs.Books.{Book, work_at}
use Rattle.promises.specs.Promised.{is_chained}
use Rattle.promises.specs.Runs.{Call, Reply, Run, opened, next, step, is_step_of}
use Rattle.promises.proofs.Rungs.{placed_holds}
use Rattle.promises.proofs.Laws.{Laws}
use Rattle.promises.proofs.Sights.{Sight, sight_of}
use Rattle.promises.proofs.Views.{Way, Strays}
use Rattle.promises.proofs.Settles.{Settling}
use Rattle.promises.proofs.Accepted.{Made}
use Rattle.promises.proofs.Invariant.{Inv, rung, holds_at, is_placed, is_joined, holds, chained}
use Rattle.promises.proofs.Touches.{Touch, way_touches}
use Rattle.promises.proofs.Keeps.{at_other}
use Rattle.promises.proofs.Seats.{one_holder, holds_its_at}
use Rattle.promises.proofs.Waiting.{IsHeldUp, way_waits}
use Rattle.promises.proofs.Calls.{Did, call_did}
use Rattle.promises.proofs.Doing.{goes_same, not_goes, waits_not_goes, retires_not_goes}
use Rattle.promises.proofs.Hindsight.{none_works_opened}
use Rattle.promises.proofs.Works.{Comes, call_comes, none_not_some}

-- The phases before a put or a strike has taken its other place.
abbrev pub is_early : Phase → Bool
is_early Enter = true
is_early Down = true
is_early Check = true
is_early Back = true
is_early On = true
is_early Seek = true
is_early Lock = true
is_early Valid = true
is_early Take = true
is_early Link = false
is_early LinkBack = false
is_early Attach = false
is_early ReleaseNew = false
is_early PutEnd = false
is_early TakeVictim = true
is_early Mark = false
is_early UnlinkBack = false
is_early Unlink = false
is_early Detach = false
is_early ReleaseVictim = false
is_early StrikeEnd = false
is_early First = true
is_early FirstNext = true

abbrev pub is_put_end : Phase → Bool
is_put_end Enter = false
is_put_end Down = false
is_put_end Check = false
is_put_end Back = false
is_put_end On = false
is_put_end Seek = false
is_put_end Lock = false
is_put_end Valid = false
is_put_end Take = false
is_put_end Link = false
is_put_end LinkBack = false
is_put_end Attach = false
is_put_end ReleaseNew = false
is_put_end PutEnd = true
is_put_end TakeVictim = false
is_put_end Mark = false
is_put_end UnlinkBack = false
is_put_end Unlink = false
is_put_end Detach = false
is_put_end ReleaseVictim = false
is_put_end StrikeEnd = false
is_put_end First = false
is_put_end FirstNext = false

early_not_end : (f : Phase) → is_early f ≡ true → is_put_end f ≡ false
early_not_end Enter h = refl
early_not_end Down h = refl
early_not_end Check h = refl
early_not_end Back h = refl
early_not_end On h = refl
early_not_end Seek h = refl
early_not_end Lock h = refl
early_not_end Valid h = refl
early_not_end Take h = refl
early_not_end Link h = refl
early_not_end LinkBack h = refl
early_not_end Attach h = refl
early_not_end ReleaseNew h = refl
early_not_end PutEnd h = sym h
early_not_end TakeVictim h = refl
early_not_end Mark h = refl
early_not_end UnlinkBack h = refl
early_not_end Unlink h = refl
early_not_end Detach h = refl
early_not_end ReleaseVictim h = refl
early_not_end StrikeEnd h = refl
early_not_end First h = refl
early_not_end FirstNext h = refl

starts_early : (w : Work) → is_early (first_phase w) ≡ true
starts_early Put = refl
starts_early Strike = refl
starts_early Look = refl
starts_early FirstWork = refl
starts_early After = refl

stray_early : {w : Work} {f : Phase} → Strays w f → is_early f ≡ true
stray_early Strays.first_back = refl
stray_early Strays.put_on = refl
stray_early Strays.strike_on = refl
stray_early Strays.first_on = refl
stray_early Strays.look_valid = refl
stray_early Strays.first_valid = refl
stray_early Strays.after_valid = refl

-- How a work t that goes on as u comes by its other place.
data Handing {K : Type 0} (t u : Task K) : Type 0 where
  -- it has none yet
  early : is_early t.phase ≡ true → is_early u.phase ≡ true → u.other ≡ t.other → Handing t u
  -- it has one and holds its lock
  taken : is_early u.phase ≡ false → is_put_end u.phase ≡ false → Handing t u
  -- it has released the one that it added
  placed : t.phase ≡ ReleaseNew → is_early u.phase ≡ false → u.at ≡ t.at → u.other ≡ t.other → Handing t u

module _ {K : Type 0} {rank : K → K → Ordering} {s : Sight K} {me : ℕ} {t : Task K} {o : Outcome K} {s' : Sight K} where
  hands_on : Way rank s me t o s' → (u : Task K) → o ≡ Goes u → Handing t u
  hands_on (Way.strays x0 x1 x2) u g = Handing.early (stray_early x0) (ap (λ v. is_early v.phase) (goes_same x1 g) ∙ starts_early t.work) (ap (λ v. v.other) (goes_same x1 g))
  hands_on (Way.enters x0 x1 x2 x3 x4) u g = Handing.early (ap is_early x0) (ap (λ v. is_early v.phase) (goes_same x3 g)) (ap (λ v. v.other) (goes_same x3 g))
  hands_on (Way.down_here x0 x1 x2 x3) u g = Handing.early (ap is_early x0) (ap (λ v. is_early v.phase) (goes_same x2 g)) (ap (λ v. v.other) (goes_same x2 g))
  hands_on (Way.down_lost x0 x1 x2 x3) u g = Handing.early (ap is_early x0) (ap (λ v. is_early v.phase) (goes_same x2 g)) (ap (λ v. v.other) (goes_same x2 g))
  hands_on (Way.down_last x0 x1 x2 x3 x4 x5 x6) u g = Handing.early (ap is_early x0) (ap (λ v. is_early v.phase) (goes_same x5 g)) (ap (λ v. v.other) (goes_same x5 g))
  hands_on (Way.down_on x0 x1 x2 x3 x4 x5 x6) u g = Handing.early (ap is_early x0) (ap (λ v. is_early v.phase) (goes_same x5 g) ∙ ap is_early x0) (ap (λ v. v.other) (goes_same x5 g))
  hands_on (Way.check_marked x0 x1 x2 x3) u g = Handing.early (ap is_early x0) (ap (λ v. is_early v.phase) (goes_same x2 g)) (ap (λ v. v.other) (goes_same x2 g))
  hands_on (Way.check_unmarked x0 x1 x2 x3) u g = Handing.early (ap is_early x0) (ap (λ v. is_early v.phase) (goes_same x2 g)) (ap (λ v. v.other) (goes_same x2 g))
  hands_on (Way.back_look_yes x0 x1 x2 x3 x4 x5) u g = not_goes _ x4 g
  hands_on (Way.back_look_marked x0 x1 x2 x3 x4 x5) u g = Handing.early (ap is_early x0) (ap (λ v. is_early v.phase) (goes_same x4 g) ∙ ap is_early x0) (ap (λ v. v.other) (goes_same x4 g))
  hands_on (Way.back_look_above x0 x1 x2 x3 x4) u g = Handing.early (ap is_early x0) (ap (λ v. is_early v.phase) (goes_same x3 g) ∙ ap is_early x0) (ap (λ v. v.other) (goes_same x3 g))
  hands_on (Way.back_look_on x0 x1 x2 x3 x4) u g = Handing.early (ap is_early x0) (ap (λ v. is_early v.phase) (goes_same x3 g)) (ap (λ v. v.other) (goes_same x3 g))
  hands_on (Way.back_after_above x0 x1 x2 x3 x4) u g = Handing.early (ap is_early x0) (ap (λ v. is_early v.phase) (goes_same x3 g) ∙ ap is_early x0) (ap (λ v. v.other) (goes_same x3 g))
  hands_on (Way.back_after_on x0 x1 x2 x3 x4) u g = Handing.early (ap is_early x0) (ap (λ v. is_early v.phase) (goes_same x3 g)) (ap (λ v. v.other) (goes_same x3 g))
  hands_on (Way.back_change_above x0 x1 x2 x3 x4) u g = Handing.early (ap is_early x0) (ap (λ v. is_early v.phase) (goes_same x3 g) ∙ ap is_early x0) (ap (λ v. v.other) (goes_same x3 g))
  hands_on (Way.back_change_seek x0 x1 x2 x3 x4) u g = Handing.early (ap is_early x0) (ap (λ v. is_early v.phase) (goes_same x3 g)) (ap (λ v. v.other) (goes_same x3 g))
  hands_on (Way.on_look_next x0 x1 x2 x3 x4) u g = Handing.early (ap is_early x0) (ap (λ v. is_early v.phase) (goes_same x3 g) ∙ ap is_early x0) (ap (λ v. v.other) (goes_same x3 g))
  hands_on (Way.on_look_marked x0 x1 x2 x3 x4 x5) u g = not_goes _ x4 g
  hands_on (Way.on_look_yes x0 x1 x2 x3 x4 x5) u g = not_goes _ x4 g
  hands_on (Way.on_look_no x0 x1 x2 x3 x4) u g = not_goes _ x3 g
  hands_on (Way.on_after_next x0 x1 x2 x3 x4) u g = Handing.early (ap is_early x0) (ap (λ v. is_early v.phase) (goes_same x3 g) ∙ ap is_early x0) (ap (λ v. v.other) (goes_same x3 g))
  hands_on (Way.on_after_missing x0 x1 x2 x3 x4) u g = not_goes _ x3 g
  hands_on (Way.on_after_marked x0 x1 x2 x3 x4 x5) u g = Handing.early (ap is_early x0) (ap (λ v. is_early v.phase) (goes_same x4 g)) (ap (λ v. v.other) (goes_same x4 g))
  hands_on (Way.on_after_found x0 x1 x2 x3 x4 x5 x6 x7) u g = not_goes _ x6 g
  hands_on (Way.seek_next x0 x1 x2 x3 x4) u g = Handing.early (ap is_early x0) (ap (λ v. is_early v.phase) (goes_same x3 g) ∙ ap is_early x0) (ap (λ v. v.other) (goes_same x3 g))
  hands_on (Way.seek_lock x0 x1 x2 x3 x4) u g = Handing.early (ap is_early x0) (ap (λ v. is_early v.phase) (goes_same x3 g)) (ap (λ v. v.other) (goes_same x3 g))
  hands_on (Way.lock_waits x0 x1 x2 x3) u g = waits_not_goes x2 g
  hands_on (Way.lock_taken x0 x1 x2 x3 x4) u g = Handing.early (ap is_early x0) (ap (λ v. is_early v.phase) (goes_same x3 g)) (ap (λ v. v.other) (goes_same x3 g))
  hands_on (Way.valid_again x0 x1 x2 x3 x4) u g = Handing.early (ap is_early x0) (ap (λ v. is_early v.phase) (goes_same x3 g)) (ap (λ v. v.other) (goes_same x3 g))
  hands_on (Way.valid_put_no x0 x1 x2 x3 x4 x5) u g = not_goes _ x4 g
  hands_on (Way.valid_take x0 x1 x2 x3 x4 x5) u g = Handing.early (ap is_early x0) (ap (λ v. is_early v.phase) (goes_same x4 g)) (ap (λ v. v.other) (goes_same x4 g))
  hands_on (Way.valid_strike_no x0 x1 x2 x3 x4 x5) u g = not_goes _ x4 g
  hands_on (Way.valid_victim x0 x1 x2 x3 x4 x5) u g = Handing.early (ap is_early x0) (ap (λ v. is_early v.phase) (goes_same x4 g)) (ap (λ v. v.other) (goes_same x4 g))
  hands_on (Way.take_none x0 x1 x2 x3) u g = not_goes _ x2 g
  hands_on (Way.take_some x0 x1 x2 x3 x4 x5 x6) u g = Handing.taken (ap (λ v. is_early v.phase) (goes_same x5 g)) (ap (λ v. is_put_end v.phase) (goes_same x5 g))
  hands_on (Way.links x0 x1 x2) u g = Handing.taken (ap (λ v. is_early v.phase) (goes_same x1 g)) (ap (λ v. is_put_end v.phase) (goes_same x1 g))
  hands_on (Way.links_back x0 x1 x2 x3) u g = Handing.taken (ap (λ v. is_early v.phase) (goes_same x2 g)) (ap (λ v. is_put_end v.phase) (goes_same x2 g))
  hands_on (Way.attaches x0 x1 x2 x3 x4 x5) u g = Handing.taken (ap (λ v. is_early v.phase) (goes_same x4 g)) (ap (λ v. is_put_end v.phase) (goes_same x4 g))
  hands_on (Way.releases_new x0 x1 x2) u g = Handing.placed x0 (ap (λ v. is_early v.phase) (goes_same x1 g)) (ap (λ v. v.at) (goes_same x1 g)) (ap (λ v. v.other) (goes_same x1 g))
  hands_on (Way.put_ends x0 x1 x2) u g = not_goes _ x1 g
  hands_on (Way.victim_waits x0 x1 x2 x3) u g = waits_not_goes x2 g
  hands_on (Way.victim_taken x0 x1 x2 x3 x4) u g = Handing.taken (ap (λ v. is_early v.phase) (goes_same x3 g)) (ap (λ v. is_put_end v.phase) (goes_same x3 g))
  hands_on (Way.marks x0 x1 x2) u g = Handing.taken (ap (λ v. is_early v.phase) (goes_same x1 g)) (ap (λ v. is_put_end v.phase) (goes_same x1 g))
  hands_on (Way.unlinks_back x0 x1 x2 x3) u g = Handing.taken (ap (λ v. is_early v.phase) (goes_same x2 g)) (ap (λ v. is_put_end v.phase) (goes_same x2 g))
  hands_on (Way.unlinks x0 x1 x2) u g = Handing.taken (ap (λ v. is_early v.phase) (goes_same x1 g)) (ap (λ v. is_put_end v.phase) (goes_same x1 g))
  hands_on (Way.detaches x0 x1 x2 x3 x4) u g = Handing.taken (ap (λ v. is_early v.phase) (goes_same x3 g)) (ap (λ v. is_put_end v.phase) (goes_same x3 g))
  hands_on (Way.releases_victim x0 x1 x2) u g = Handing.taken (ap (λ v. is_early v.phase) (goes_same x1 g)) (ap (λ v. is_put_end v.phase) (goes_same x1 g))
  hands_on (Way.strike_ends x0 x1 x2 x3) u g = retires_not_goes x2 g
  hands_on (Way.first_missing x0 x1 x2 x3) u g = not_goes _ x2 g
  hands_on (Way.first_on_next x0 x1 x2 x3) u g = Handing.early (ap is_early x0) (ap (λ v. is_early v.phase) (goes_same x2 g)) (ap (λ v. v.other) (goes_same x2 g))
  hands_on (Way.first_marked x0 x1 x2 x3) u g = Handing.early (ap is_early x0) (ap (λ v. is_early v.phase) (goes_same x2 g)) (ap (λ v. v.other) (goes_same x2 g))
  hands_on (Way.first_found x0 x1 x2 x3 x4 x5) u g = not_goes _ x4 g

-- What is known of the other place of the work t.
pub record KnownOther {K : Type 0} (s : Sight K) (t : Task K) : Type 0 where
  pub none_yet : is_early t.phase ≡ true → t.other ≡ low
  -- the place before it is still locked
  pub joined : is_put_end t.phase ≡ true → s.next t.at ≡ t.other

-- ---- the successor of a place that a work has locked

pub end_is_placed : (f : Phase) → is_put_end f ≡ true → is_placed (rung f) ≡ true
end_is_placed Enter h = absurd (true≢false (sym h))
end_is_placed Down h = absurd (true≢false (sym h))
end_is_placed Check h = absurd (true≢false (sym h))
end_is_placed Back h = absurd (true≢false (sym h))
end_is_placed On h = absurd (true≢false (sym h))
end_is_placed Seek h = absurd (true≢false (sym h))
end_is_placed Lock h = absurd (true≢false (sym h))
end_is_placed Valid h = absurd (true≢false (sym h))
end_is_placed Take h = absurd (true≢false (sym h))
end_is_placed Link h = absurd (true≢false (sym h))
end_is_placed LinkBack h = absurd (true≢false (sym h))
end_is_placed Attach h = absurd (true≢false (sym h))
end_is_placed ReleaseNew h = absurd (true≢false (sym h))
end_is_placed PutEnd h = refl
end_is_placed TakeVictim h = absurd (true≢false (sym h))
end_is_placed Mark h = absurd (true≢false (sym h))
end_is_placed UnlinkBack h = absurd (true≢false (sym h))
end_is_placed Unlink h = absurd (true≢false (sym h))
end_is_placed Detach h = absurd (true≢false (sym h))
end_is_placed ReleaseVictim h = absurd (true≢false (sym h))
end_is_placed StrikeEnd h = absurd (true≢false (sym h))
end_is_placed First h = absurd (true≢false (sym h))
end_is_placed FirstNext h = absurd (true≢false (sym h))

settling_next : {K : Type 0} {m : Sight K} {j : ℕ} {t : Task K} {o : Outcome K} {a : Stepped K} {s' : Sight K} → Settling m j t o a s' → s'.next ≡ m.next
settling_next (Settling.goes u oc ac e) = ap (λ z. z.next) e
settling_next (Settling.waits oc ac e) = ap (λ z. z.next) e
settling_next (Settling.ends x oc ac e) = ap (λ z. z.next) e
settling_next (Settling.retires q oc ac w others e) = ap (λ z. z.next) e

module _ {K : Type 0} (rank : K → K → Ordering) (laws : Laws rank) (s : Sight K) (inv : Inv rank s) (i : ℕ) (t : Task K) (is : s.task i ≡ Some t)
    (firm : is_placed (rung t.phase) ≡ true) where
  not_free : (q : ℕ) → s.status q ≡ Free → q ≡ t.at → ⊥
  not_free q free e = true≢false (sym ((inv.stands i t is).at_chained firm) ∙ ap (chained s) (sym e) ∙ ap is_chained free)

  held_apart : (j : ℕ) (u : Task K) → s.task j ≡ Some u → (j ≡ i → ⊥) → holds_at (rung u.phase) ≡ true → u.at ≡ t.at → ⊥
  held_apart j u js apart holding same =
      apart (one_holder rank laws s inv j i t.at (subst (λ q. holds (s.task j) q ≡ true) same (holds_its_at rank laws s inv j u js holding))
      (holds_its_at rank laws s inv i t is (placed_holds (rung t.phase) firm)))

  -- Another work writes no successor of a place that this one has locked.
  others_leave_next : (j : ℕ) (u : Task K) → s.task j ≡ Some u → (j ≡ i → ⊥) → {o : Outcome K} {m : Sight K} → Touch s u o m → m.next t.at ≡ s.next t.at
  others_leave_next j u js apart (Touch.stays calm same) = ap (λ f. f t.at) same.next
  others_leave_next j u js apart (Touch.fills calm q free x hand e) = ap (λ z. z.next t.at) e ∙ at_other s.next q _ t.at (not_free q free)
  others_leave_next j u js apart (Touch.joins calm f e) = ap (λ z. z.next t.at) e ∙ at_other s.next u.at _ t.at (held_apart j u js apart (ap (λ x. holds_at (rung x)) f))
  others_leave_next j u js apart (Touch.backs calm f q e) = ap (λ z. z.next t.at) e
  others_leave_next j u js apart (Touch.marks calm f e) = ap (λ z. z.next t.at) e
  others_leave_next j u js apart (Touch.cuts calm f e) = ap (λ z. z.next t.at) e ∙ at_other s.next u.at _ t.at (held_apart j u js apart (ap (λ x. holds_at (rung x)) f))
  others_leave_next j u js apart (Touch.hands_over f oc same) = ap (λ g. g t.at) same.next

  -- Nor does the release of the place that was added.
  release_leaves_next : t.phase ≡ ReleaseNew → {o : Outcome K} {m : Sight K} → Touch s t o m → m.next t.at ≡ s.next t.at
  release_leaves_next was (Touch.stays calm same) = ap (λ f. f t.at) same.next
  release_leaves_next was (Touch.fills calm q free x hand e) = ap (λ z. z.next t.at) e ∙ at_other s.next q _ t.at (not_free q free)
  release_leaves_next was (Touch.joins calm f e) = absurd (true≢false (ap (λ x. eqb (rung x) 8) (sym was ∙ f)))
  release_leaves_next was (Touch.backs calm f q e) = ap (λ z. z.next t.at) e
  release_leaves_next was (Touch.marks calm f e) = ap (λ z. z.next t.at) e
  release_leaves_next was (Touch.cuts calm f e) = absurd (true≢false (ap (λ x. eqb (rung x) 8) (sym was ∙ f)))
  release_leaves_next was (Touch.hands_over f oc same) = ap (λ g. g t.at) same.next

-- ---- one call

module _ {K : Type 0} (rank : K → K → Ordering) (laws : Laws rank) (b : Book K) (inv : Inv rank (sight_of b)) (c : Call K) (a : Reply K) (b' : Book K) (i : ℕ) where
  call_leaves_next : (u : Task K) → work_at b i ≡ Some u → is_placed (rung u.phase) ≡ true → is_step_of rank i c a ≡ false → Did rank b c a b'
      → (sight_of b').next u.at ≡ (sight_of b).next u.at
  call_leaves_next u is firm own (Did.nothing stepless e) = ap (λ z. (sight_of z).next u.at) e
  call_leaves_next u is firm own (Did.begins j work key ce rested ps e) = ap (λ z. z.next u.at) e
  call_leaves_next u is firm own (Did.makes j x ce ae made) =
      ap (λ f. f u.at) (settling_next made.settling)
      ∙ others_leave_next rank laws (sight_of b) inv i u is firm j made.task made.under_way
      (λ same. true≢false (sym (ap (λ z. is_step_of rank i z a) ce ∙ ap (is_step_of rank i (step j)) ae ∙ and_from (eqb j i) true (eq-eqb j i same) refl) ∙ own)) (way_touches made.way)
  call_leaves_next u is firm own (Did.leaves j t ce busy ps e) = ap (λ z. z.next u.at) e

  handed_known : (x : Stepped K) (made : Made rank (sight_of b) i x (sight_of b')) → KnownOther (sight_of b) made.task
      → (u v : Task K) → v.phase ≡ u.phase → v.at ≡ u.at → v.other ≡ u.other → Handing made.task u → KnownOther (sight_of b') v
  handed_known x made known u v fe ae oe (Handing.early was now same) = record {
    none_yet = λ h. oe ∙ same ∙ known.none_yet was;
    joined = λ h. absurd (true≢false (sym h ∙ ap is_put_end fe ∙ early_not_end u.phase now));
  }
  handed_known x made known u v fe ae oe (Handing.taken late holding) = record {
    none_yet = λ h. absurd (true≢false (sym h ∙ ap is_early fe ∙ late));
    joined = λ h. absurd (true≢false (sym h ∙ ap is_put_end fe ∙ holding));
  }
  handed_known x made known u v fe ae oe (Handing.placed was late same_at same) = record {
    none_yet = λ h. absurd (true≢false (sym h ∙ ap is_early fe ∙ late));
    joined = λ h.
        ap (sight_of b').next (ae ∙ same_at) ∙ ap (λ f. f made.task.at) (settling_next made.settling)
        ∙ release_leaves_next rank laws (sight_of b) inv i made.task made.under_way (ap (λ y. is_placed (rung y)) was) was (way_touches made.way)
        ∙ (inv.stands i made.task made.under_way).joined (ap (λ y. is_joined (rung y)) was) ∙ sym (oe ∙ same);
  }

  -- A work that waits has taken no place.
  held_up_early : (s : Sight K) (t : Task K) → IsHeldUp s i t → is_early t.phase ≡ true
  held_up_early s t (inl h) = ap is_early h.0
  held_up_early s t (inr h) = ap is_early h.0

  comes_known : (t : Task K) → Did rank b c a b' → ((u : Task K) → work_at b i ≡ Some u → KnownOther (sight_of b) u) → Comes rank b c a b' i t → KnownOther (sight_of b') t
  comes_known t did before (Comes.is_begun rested work key e) = record {
    none_yet = λ h. ap (λ u. u.other) e;
    joined = λ h. absurd (true≢false (sym h ∙ ap (λ u. is_put_end u.phase) e ∙ early_not_end (first_phase work) (starts_early work)));
  }
  comes_known t did before (Comes.stood u was own alike) =
      let known = before u was in
      record {
        none_yet = λ h. same (λ v. v.other) (λ v. refl) alike ∙ known.none_yet (sym (same (λ v. is_early v.phase) (λ v. refl) alike) ∙ h);
        joined = λ h.
            let ended = sym (same (λ v. is_put_end v.phase) (λ v. refl) alike) ∙ h in
            ap (sight_of b').next (same (λ v. v.at) (λ v. refl) alike) ∙ call_leaves_next u was (end_is_placed u.phase ended) own did ∙ known.joined ended
            ∙ sym (same (λ v. v.other) (λ v. refl) alike);
      }
    where
      same : {A : Type 0} (field : Task K → A) → ((v : Task K) → field (with_await v) ≡ field v) → (t ≡ u) ⊎ (t ≡ with_await u) → field t ≡ field u
      same field kept (inl e) = ap field e
      same field kept (inr e) = ap field e ∙ kept u
  comes_known t did before (Comes.went x made own u (inl goes) e) =
      handed_known x made (before made.task made.under_way) u t (ap (λ v. v.phase) e) (ap (λ v. v.at) e) (ap (λ v. v.other) e) (hands_on made.way u goes)
  comes_known t did before (Comes.went x made own u (inr waits) e) =
      let early = held_up_early (sight_of b) made.task (way_waits made.way waits.0) in
      record {
        none_yet = λ h. ap (λ v. v.other) e ∙ ap (λ v. v.other) waits.1 ∙ (before made.task made.under_way).none_yet early;
        joined = λ h. absurd (true≢false (sym h ∙ ap (λ v. is_put_end v.phase) e ∙ ap (λ v. is_put_end v.phase) waits.1 ∙ early_not_end made.task.phase early));
      }

module _ {K : Type 0} (rank : K → K → Ordering) (laws : Laws rank) (inv : (b : Book K) → Run rank b → Inv rank (sight_of b)) where
  -- In every run this is known of every work under way.
  pub other_known : {b : Book K} (r : Run rank b) (i : ℕ) (t : Task K) → work_at b i ≡ Some t → KnownOther (sight_of b) t
  other_known (opened most ps ss o e) i t is = none_not_some (none_works_opened most ps ss o e i) is
  other_known (next {b} c a b' r d) i t is =
      comes_known rank laws b (inv b r) c a b' i t (call_did rank b c a b' d) (λ u was. other_known r i u was) (call_comes rank b c a b' i t is d)
