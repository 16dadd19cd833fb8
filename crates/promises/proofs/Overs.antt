-- That the end of a work which holds no lock keeps the invariant. Assumes nothing.
use Rattle.std.proofs.Common.{◌≡◌, ℕ, zero, suc, Bool, true, false, cond, not, ◌&&◌, ◌||◌, eqb, List, [], ◌∷◌, get_or, set, Some, None, Ordering, sym, refl, ap, ◌∙◌, subst, arith}
use Rattle.records.specs.declared.record.Status.{Status}
use Rattle.records.specs.declared.record.Status.TheVariants.{Free, InHand, Chained, Retired}
use Rattle.records.specs.declared.record.Task.{Task}
use Rattle.promises.specs.Promised.{is_chained}
use Rattle.std.proofs.lemmas.List.{get_or-set_other}
use Rattle.engine.specs.Settling.{anyone, without_station}
use Rattle.promises.proofs.Sights.{Sight, at_with, task_put}
use Rattle.promises.proofs.Writes.{alike}
use Rattle.promises.proofs.Settles.{work_over}
use Rattle.promises.proofs.Invariant.{rung, is_lagging, is_hiding, is_detaching, is_striking, is_handing, waits_for, holds, is_awaited, holder_in, chained, seen_by, Inv}
use Rattle.promises.proofs.Retasks.{at_with_both, other_in_same, holder_same, Like, Loose, none_loose, task_loose, loose_like, retask}
use Rattle.promises.proofs.Sees.{never}

pub nobody : (w : List Bool) (j : ℕ) → anyone w ≡ false → get_or w j false ≡ false
nobody [] j h = refl
nobody (true ∷ w) j h = never h
nobody (false ∷ w) zero h = refl
nobody (false ∷ w) (suc j) h = nobody w j h

pub cleared : (w : List Bool) (i : ℕ) → get_or (set w i false) i false ≡ false
cleared [] i = refl
cleared (b ∷ w) zero = refl
cleared (b ∷ w) (suc i) = cleared w i

-- ---- the status of a place once the work of station i is over

pub chained_still : (i : ℕ) (x : Status) → is_chained (without_station i x) ≡ is_chained x
chained_still i Free = refl
chained_still i InHand = refl
chained_still i Chained = refl
chained_still i (Retired w) = go (anyone (set w i false))
  where
    go : (b : Bool) → is_chained (cond b (Retired (set w i false)) Free) ≡ false
    go true = refl
    go false = refl

pub in_hand_before : (i : ℕ) (x : Status) → without_station i x ≡ InHand → x ≡ InHand
in_hand_before i Free h = h
in_hand_before i InHand h = refl
in_hand_before i Chained h = h
in_hand_before i (Retired w) h = go (anyone (set w i false)) h
  where
    go : (b : Bool) → cond b (Retired (set w i false)) Free ≡ InHand → Retired w ≡ InHand
    go true h = cc
    go false h = cc

pub record WasRetired (i : ℕ) (x : Status) (w : List Bool) : Type 0 where
  pub waits : List Bool
  pub was : x ≡ Retired waits
  pub left : w ≡ set waits i false
  pub some : anyone w ≡ true

pub retired_before : (i : ℕ) (x : Status) (w : List Bool) → without_station i x ≡ Retired w → WasRetired i x w
retired_before i Free w h = let z : ◌≡◌ {A = ℕ} 0 1 = cc in absurd (omega arith)
retired_before i InHand w h = let z : ◌≡◌ {A = ℕ} 0 1 = cc in absurd (omega arith)
retired_before i Chained w h = let z : ◌≡◌ {A = ℕ} 0 1 = cc in absurd (omega arith)
retired_before i (Retired v) w h = go (anyone (set v i false)) refl h
  where
    go : (b : Bool) → anyone (set v i false) ≡ b → cond b (Retired (set v i false)) Free ≡ Retired w → WasRetired i (Retired v) w
    go true e h = let same : w ≡ set v i false = cc in record { waits = v; was = refl; left = same; some = ap anyone same ∙ e }
    go false e h = let z : ◌≡◌ {A = ℕ} 0 1 = cc in absurd (omega arith)

pub waits_still : (i j : ℕ) (x : Status) → (j ≡ i → ⊥) → waits_for j (without_station i x) ≡ waits_for j x
waits_still i j Free h = refl
waits_still i j InHand h = refl
waits_still i j Chained h = refl
waits_still i j (Retired w) h = go (anyone (set w i false)) refl
  where
    go : (b : Bool) → anyone (set w i false) ≡ b → waits_for j (cond b (Retired (set w i false)) Free) ≡ get_or w j false
    go true e = get_or-set_other w i j false false h
    go false e = sym (nobody (set w i false) j e) ∙ get_or-set_other w i j false false h

module _ {K : Type 0} (rank : K → K → Ordering) (s : Sight K) (inv : Inv rank s) (me : ℕ) (loose : Loose (s.task me)) where
  abbrev over : Sight K
  over = work_over me true s

  like : Like (s.task me) None
  like = loose_like (s.task me) None loose none_loose

  same_chain : (p : ℕ) → chained over p ≡ chained s p
  same_chain p = chained_still me (s.status p)

  seen_still : (i p : ℕ) → (i ≡ me → ⊥) → seen_by s i p ≡ true → seen_by over i p ≡ true
  seen_still i p differ h =
      ap (λ b. b || (s.marked p && waits_for i (without_station me (s.status p)))) (same_chain p)
      ∙ ap (λ b. chained s p || (s.marked p && b)) (waits_still me i (s.status p) differ) ∙ h

  not_me : (i : ℕ) (t : Task K) → at_with s.task me None i ≡ Some t → (me ≡ i → ⊥) × (s.task i ≡ Some t)
  not_me i t =
      at_with_both s.task me i None (λ x. x ≡ Some t → (me ≡ i → ⊥) × (s.task i ≡ Some t))
      (λ same e. let z : ◌≡◌ {A = ℕ} 0 1 = cc in absurd (omega arith)) (λ differ e. (differ, e))

  -- A station for which a retired place still waits.
  still : (p : ℕ) (w : List Bool) → over.status p ≡ Retired w → (i : ℕ) → get_or w i false ≡ true
      → (i ≡ me → ⊥) × ((v : List Bool) × (s.status p ≡ Retired v) × (get_or v i false ≡ true))
  still p w r i g =
      let was = retired_before me (s.status p) w r in
      let differ : i ≡ me → ⊥ = λ e. never (sym (sym (cleared was.waits me) ∙ ap (λ v. get_or v me false) (sym was.left) ∙ ap (λ j. get_or w j false) (sym e) ∙ g)) in
      (differ, (was.waits, was.was, sym (get_or-set_other was.waits me i false false differ) ∙ ap (λ v. get_or v i false) (sym was.left) ∙ g))

  awaited_over : Inv rank over
  awaited_over = record {
    two = inv.two;
    beyond = λ p h. ap (without_station me) (inv.beyond p h);
    guide_size = inv.guide_size;
    low_spot = inv.low_spot;
    high_spot = inv.high_spot;
    low_chained = ap (without_station me) inv.low_chained;
    high_chained = ap (without_station me) inv.high_chained;
    low_unmarked = inv.low_unmarked;
    high_unmarked = inv.high_unmarked;
    leads = λ p c h. same_chain (s.next p) ∙ inv.leads p (sym (same_chain p) ∙ c) h;
    rises = λ p c h. inv.rises p (sym (same_chain p) ∙ c) h;
    gap = λ p q c d h. inv.gap p q (sym (same_chain p) ∙ c) (sym (same_chain q) ∙ d) h;
    apart = λ p q c d. inv.apart p q (sym (same_chain p) ∙ c) (sym (same_chain q) ∙ d);
    follows = λ p c h. let f = inv.follows p (sym (same_chain p) ∙ c) h in (f.0, same_chain f.0 ∙ f.1, f.2, f.3);
    backs = λ p c h. inv.backs p (sym (same_chain p) ∙ c) h
        ∙ ap (λ x. cond x (s.prev p) p) (sym (holder_same s.task me None is_lagging like.lagging (s.lock p) p));
    locks = λ i p. inv.locks i p
        ∙ sym (at_with_both s.task me i None (λ x. holds x p ≡ holds (s.task i) p) (λ e. like.holding p ∙ ap (λ j. holds (s.task j) p) e) (λ _. refl));
    fit = λ i t e. inv.fit i t (not_me i t e).1;
    seen = λ i t e. seen_still i t.at (λ same. (not_me i t e).0 (sym same)) (inv.seen i t (not_me i t e).1);
    stands = λ i t e. let st = inv.stands i t (not_me i t e).1 in record {
      at_chained = λ h. same_chain t.at ∙ st.at_chained h;
      at_unmarked = st.at_unmarked;
      at_below = st.at_below;
      next_above = st.next_above;
      next_keyed = st.next_keyed;
      joined = st.joined;
      keyed = st.keyed;
      other_marked = st.other_marked;
      spared = st.spared;
      in_hand = λ h. ap (without_station me) (st.in_hand h);
      in_hand_next = st.in_hand_next;
      in_hand_prev = st.in_hand_prev;
    };
    marks = λ p c m. let has = inv.marks p (sym (same_chain p) ∙ c) m in (has.0, other_in_same s.task me None is_striking like.striking has.0 p ∙ has.1);
    hands = λ p h. let has = inv.hands p (in_hand_before me (s.status p) h) in (has.0, other_in_same s.task me None is_handing like.handing has.0 p ∙ has.1);
    hands_apart = λ i j p x y. inv.hands_apart i j p (sym (other_in_same s.task me None is_handing like.handing i p) ∙ x) (sym (other_in_same s.task me None is_handing like.handing j p) ∙ y);
    rests = λ p w r. let was = retired_before me (s.status p) w r in ((inv.rests p was.waits was.was).0, was.some);
    awaits = λ p w r i g. let k = still p w r i g in
        at_with_both s.task me i None (λ x. is_awaited x ≡ true) (λ same. absurd (k.0 (sym same))) (λ _. inv.awaits p k.1.0 k.1.1 i k.1.2);
    next_seen = λ p w r i g. let k = still p w r i g in seen_still i (s.next p) k.0 (inv.next_seen p k.1.0 k.1.1 i k.1.2);
    prev_seen = λ p w r i g. let k = still p w r i g in seen_still i (s.prev p) k.0 (inv.prev_seen p k.1.0 k.1.1 i k.1.2);
    guide_rises = inv.guide_rises;
    guide_shows = λ p. inv.guide_shows p
        ∙ ap (λ c. (c && not (holder_in is_hiding s.task (s.lock p) p)) || holder_in is_detaching s.task (s.lock p) p) (sym (same_chain p))
        ∙ ap (λ x. (chained over p && not x) || holder_in is_detaching s.task (s.lock p) p) (sym (holder_same s.task me None is_hiding like.hiding (s.lock p) p))
        ∙ ap (λ x. (chained over p && not (holder_in is_hiding (at_with s.task me None) (s.lock p) p)) || x) (sym (holder_same s.task me None is_detaching like.detaching (s.lock p) p));
  }

  -- Once no place waits for a work its end is not seen.
  pub work_over_keeps : (awaited : Bool) → is_awaited (s.task me) ≡ awaited → Inv rank (work_over me awaited s)
  work_over_keeps true e = awaited_over
  work_over_keeps false e =
      retask rank s me None inv like (λ p w r g. never (sym (inv.awaits p w r me g) ∙ e)) (λ t h. let z : ◌≡◌ {A = ℕ} 0 1 = cc in absurd (omega arith))

-- A work that ended is as good as one that had gone on and then ended.
pub over_after_task : {K : Type 0} (rank : K → K → Ordering) (s : Sight K) (me : ℕ) (v : Task K) → Inv rank (task_put me (Some v) s) → rung v.phase ≡ 0
    → Inv rank (work_over me v.awaited s)
over_after_task rank s me v inv free =
    subst (Inv rank) same (work_over_keeps rank (task_put me (Some v) s) inv me (subst Loose (sym own) (task_loose v free)) v.awaited (ap is_awaited own))
  where
    own : at_with s.task me (Some v) me ≡ Some v
    own = at_with_both s.task me me (Some v) (λ x. x ≡ Some v) (λ _. refl) (λ h. absurd (h refl))

    same : work_over me v.awaited (task_put me (Some v) s) ≡ work_over me v.awaited s
    same = alike _ _ record {
      size = refl;
      spot = λ p. refl;
      next = λ p. refl;
      prev = λ p. refl;
      marked = λ p. refl;
      lock = λ p. refl;
      status = λ p. refl;
      guide = refl;
      task = λ i. go i (eqb me i);
    }
      where
        go : (i : ℕ) (b : Bool) → cond b None (cond b (Some v) (s.task i)) ≡ cond b None (s.task i)
        go i true = refl
        go i false = refl
