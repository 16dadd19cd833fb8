-- That a station may take another task, or none, where the places show no difference. Assumes nothing.
use Rattle.std.proofs.Common.{◌≡◌, ℕ, Bool, true, false, cond, not, ◌&&◌, ◌||◌, eqb, leb, List, get_or, Some, None, Option, Ordering, sym, refl, ap, ◌∙◌, subst, arith}
use Rattle.std.proofs.lemmas.Bool.{eqb-true, eqb-false}
use Rattle.records.specs.declared.record.Status.TheVariants.{Retired}
use Rattle.records.specs.declared.record.Task.{Task}
use Rattle.promises.specs.Promised.{is_chained}
use Rattle.promises.proofs.Laws.{exact, before}
use Rattle.promises.proofs.Sights.{Sight, at_with, task_put}
use Rattle.promises.proofs.Invariant.{rung, group, fits, is_lagging, is_hiding, is_detaching, is_striking, is_handing, holds, other_in, is_awaited, holder_in, seen_by, Stands, Inv}

-- What holds of the value written and of every other.
pub at_with_both : {A : Type 0} (f : ℕ → A) (p q : ℕ) (a : A) (P : A → Type 0) → (p ≡ q → P a) → ((p ≡ q → ⊥) → P (f q)) → P (at_with f p a q)
at_with_both f p q a P here there = go (eqb p q) refl
  where
    go : (b : Bool) → eqb p q ≡ b → P (cond b a (f q))
    go true e = here (eqb-true p q e)
    go false e = there (eqb-false p q e)

-- What the places can show of a work is alike.
pub record Like {K : Type 0} (a b : Option (Task K)) : Type 0 where
  pub holding : (p : ℕ) → holds b p ≡ holds a p
  pub lagging : (p : ℕ) → other_in is_lagging b p ≡ other_in is_lagging a p
  pub hiding : (p : ℕ) → other_in is_hiding b p ≡ other_in is_hiding a p
  pub detaching : (p : ℕ) → other_in is_detaching b p ≡ other_in is_detaching a p
  pub striking : (p : ℕ) → other_in is_striking b p ≡ other_in is_striking a p
  pub handing : (p : ℕ) → other_in is_handing b p ≡ other_in is_handing a p

-- What a task must be for the invariant.
pub record Sound {K : Type 0} (rank : K → K → Ordering) (s : Sight K) (i : ℕ) (t : Task K) : Type 0 where
  pub fit : fits t.work (group t.phase) ≡ true
  pub seen : seen_by s i t.at ≡ true
  pub stands : Stands rank s.spot s.next s.prev s.marked s.status t

module _ {K : Type 0} (task : ℕ → Option (Task K)) (me : ℕ) (b : Option (Task K)) (f : ℕ → Bool) (same : (p : ℕ) → other_in f b p ≡ other_in f (task me) p) where
  pub other_in_same : (i p : ℕ) → other_in f (at_with task me b i) p ≡ other_in f (task i) p
  other_in_same i p =
      at_with_both task me i b (λ x. other_in f x p ≡ other_in f (task i) p) (λ e. same p ∙ ap (λ j. other_in f (task j) p) e) (λ _. refl)

  pub holder_same : (l : Option ℕ) (p : ℕ) → holder_in f (at_with task me b) l p ≡ holder_in f task l p
  holder_same None p = refl
  holder_same (Some i) p = other_in_same i p

module _ {K : Type 0} (rank : K → K → Ordering) (s : Sight K) (me : ℕ) (b : Option (Task K)) where
  pub retask : Inv rank s → Like (s.task me) b
      → ((p : ℕ) (w : List Bool) → s.status p ≡ Retired w → get_or w me false ≡ true → is_awaited b ≡ true)
      → ((t : Task K) → b ≡ Some t → Sound rank s me t) → Inv rank (task_put me b s)
  retask inv like awaited sound = record {
    two = inv.two;
    beyond = inv.beyond;
    guide_size = inv.guide_size;
    low_spot = inv.low_spot;
    high_spot = inv.high_spot;
    low_chained = inv.low_chained;
    high_chained = inv.high_chained;
    low_unmarked = inv.low_unmarked;
    high_unmarked = inv.high_unmarked;
    leads = inv.leads;
    rises = inv.rises;
    gap = inv.gap;
    apart = inv.apart;
    follows = inv.follows;
    backs = λ p c h. inv.backs p c h ∙ ap (λ x. cond x (s.prev p) p) (sym (holder_same s.task me b is_lagging like.lagging (s.lock p) p));
    locks = λ i p. inv.locks i p
        ∙ sym (at_with_both s.task me i b (λ x. holds x p ≡ holds (s.task i) p) (λ e. like.holding p ∙ ap (λ j. holds (s.task j) p) e) (λ _. refl));
    fit = λ i t. at_with_both s.task me i b (λ x. x ≡ Some t → fits t.work (group t.phase) ≡ true) (λ _ e. (sound t e).fit) (λ _. inv.fit i t);
    seen = λ i t. at_with_both s.task me i b (λ x. x ≡ Some t → seen_by s i t.at ≡ true)
        (λ same e. subst (λ j. seen_by s j t.at ≡ true) same (sound t e).seen) (λ _. inv.seen i t);
    stands = λ i t. at_with_both s.task me i b (λ x. x ≡ Some t → Stands rank s.spot s.next s.prev s.marked s.status t)
        (λ _ e. (sound t e).stands) (λ _. inv.stands i t);
    marks = λ p c m. let has = inv.marks p c m in (has.0, other_in_same s.task me b is_striking like.striking has.0 p ∙ has.1);
    hands = λ p h. let has = inv.hands p h in (has.0, other_in_same s.task me b is_handing like.handing has.0 p ∙ has.1);
    hands_apart = λ i j p x y. inv.hands_apart i j p (sym (other_in_same s.task me b is_handing like.handing i p) ∙ x) (sym (other_in_same s.task me b is_handing like.handing j p) ∙ y);
    rests = inv.rests;
    awaits = λ p w r i h. at_with_both s.task me i b (λ x. is_awaited x ≡ true)
        (λ same. awaited p w r (subst (λ j. get_or w j false ≡ true) (sym same) h)) (λ _. inv.awaits p w r i h);
    next_seen = inv.next_seen;
    prev_seen = inv.prev_seen;
    guide_rises = inv.guide_rises;
    guide_shows = λ p. inv.guide_shows p
        ∙ ap (λ x. (is_chained (s.status p) && not x) || holder_in is_detaching s.task (s.lock p) p) (sym (holder_same s.task me b is_hiding like.hiding (s.lock p) p))
        ∙ ap (λ x. (is_chained (s.status p) && not (holder_in is_hiding (at_with s.task me b) (s.lock p) p)) || x) (sym (holder_same s.task me b is_detaching like.detaching (s.lock p) p));
  }

-- A work that holds no lock shows nothing.
pub record Loose {K : Type 0} (a : Option (Task K)) : Type 0 where
  pub holding : (p : ℕ) → holds a p ≡ false
  pub other : (f : ℕ → Bool) → f 0 ≡ false → (p : ℕ) → other_in f a p ≡ false

pub none_loose : {K : Type 0} → Loose {K = K} None
none_loose = record { holding = λ p. refl; other = λ f h p. refl }

pub task_loose : {K : Type 0} (t : Task K) → rung t.phase ≡ 0 → Loose (Some t)
task_loose t e = record {
  holding = λ p. ap (λ r. (leb 1 r && eqb t.at p) || ((leb 5 r && leb r 13) && eqb t.other p)) e;
  other = λ f h p. ap (λ r. f r && eqb t.other p) e ∙ ap (λ x. x && eqb t.other p) h;
}

pub loose_like : {K : Type 0} (a b : Option (Task K)) → Loose a → Loose b → Like a b
loose_like a b x y = record {
  holding = λ p. y.holding p ∙ sym (x.holding p);
  lagging = λ p. y.other is_lagging refl p ∙ sym (x.other is_lagging refl p);
  hiding = λ p. y.other is_hiding refl p ∙ sym (x.other is_hiding refl p);
  detaching = λ p. y.other is_detaching refl p ∙ sym (x.other is_detaching refl p);
  striking = λ p. y.other is_striking refl p ∙ sym (x.other is_striking refl p);
  handing = λ p. y.other is_handing refl p ∙ sym (x.other is_handing refl p);
}

-- A work that holds no lock and is not past LOCK has nothing to keep but where it stands.
pub loose_stands : {K : Type 0} (rank : K → K → Ordering) (s : Sight K) (t : Task K) → rung t.phase ≡ 0
    → (leb 3 (group t.phase) ≡ true → before rank (s.spot t.at) (exact t.key) ≡ true)
    → Stands rank s.spot s.next s.prev s.marked s.status t
loose_stands rank s t e below = record {
  at_chained = λ h. never (sym h ∙ ap (leb 2) e);
  at_unmarked = λ h. never (sym h ∙ ap (leb 2) e);
  at_below = below;
  next_above = λ h. never (sym h ∙ ap (λ r. (eqb r 4 || eqb r 5) || leb 12 r) e);
  next_keyed = λ h. never (sym h ∙ ap (λ r. eqb r 3) e);
  joined = λ h. never (sym h ∙ ap (λ r. leb 6 r && leb r 11) e);
  keyed = λ h. never (sym h ∙ ap (leb 5) e);
  other_marked = λ h. never (sym h ∙ ap (leb 10) e);
  spared = λ h. never (sym h ∙ ap (λ r. leb 5 r && leb r 9) e);
  in_hand = λ h. never (sym h ∙ ap (λ r. eqb r 5 || leb 12 r) e);
  in_hand_next = λ h. never (sym h ∙ ap (λ r. eqb r 5 || leb 12 r) e);
  in_hand_prev = λ h. never (sym h ∙ ap (λ r. eqb r 5 || leb 12 r) e);
}
  where
    never : {P : Type 0} → true ≡ false → P
    never e = let z : ◌≡◌ {A = ℕ} 0 1 = cc in absurd (omega arith)
