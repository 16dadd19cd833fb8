-- That a work which is alone leaves the keys of a sorted set and answers as a set does, once it is known when there is room.
-- Assumes the laws of the order, the invariant of every book of a run, and the promises.
use Rattle.std.proofs.Common.{◌≡◌, ℕ, ◌+◌, ◌≤◌, Bool, true, false, cond, not, ◌&&◌, ◌⊎◌, List, [], ◌∷◌, Some, Ok, Ordering, sym, refl, ap, ◌∙◌, subst, inl, inr, arith}
use Rattle.std.proofs.lemmas.Bool.{true≢false, eq-eqb}
use Rattle.records.specs.declared.answer.Answer.{Answer}
use Rattle.records.specs.declared.answer.Answer.TheVariants.{Yes, No, Found, Missing, NoRoom}
use Rattle.records.specs.declared.answer.Stepped.{Stepped}
use Rattle.records.specs.declared.answer.Stepped.TheVariants.{Ended}
use Rattle.records.specs.declared.outcome.Outcome.TheVariants.{Goes}
use Rattle.records.specs.declared.record.Task.{Task}
use Rattle.records.specs.declared.record.Work.{Work}
use Rattle.records.specs.declared.record.Work.TheVariants.{Put, Strike, Look, First, After}
use Rattle.engine.specs.Settling.{counted, with_steps}
use Rattle.promises.specs.Books.{Book, keys, work_at}
use Rattle.promises.specs.Truths.{Holds, Adds, TakesAway, Rises, TrueOf}
use Rattle.promises.specs.Runs.{Does, Run, next, since, same_keys, changes_now, changed_times, step, stepped}
use Rattle.promises.specs.Promised.{is_change, IsChangeDone, Promises, ChangesItsKey, EndsWith, AtSome}
use Rattle.promises.specs.Alone.{has_room, AloneIn, WorksAlone, began_in, set_answer, set_after, with_key_in, AsASet}
use Rattle.promises.proofs.Laws.{Laws}
use Rattle.promises.proofs.Sights.{sight_of}
use Rattle.promises.proofs.Accepted.{Made}
use Rattle.promises.proofs.Invariant.{Inv}
use Rattle.promises.proofs.Aims.{step_keeps_aim}
use Rattle.promises.proofs.Doing.{done_of, begins_undone}
use Rattle.promises.proofs.Once.{same_as_itself, more_differs, step_counts}
use Rattle.promises.proofs.ChangesOnce.{at_most_one}
use Rattle.promises.proofs.Hindsight.{Among}
use Rattle.promises.proofs.Works.{some_injects}
use Rattle.promises.proofs.Sets.{held_is_in, absent_not_in, added_is_put, taken_is_struck, true_is_said, true_keeps}
use Rattle.promises.proofs.Solo.{alone_holds}

abbrev says_yes : {K : Type 0} → Answer K → Bool
says_yes Yes = true
says_yes No = false
says_yes (Found k) = false
says_yes Missing = false
says_yes NoRoom = false

yes_only : {K : Type 0} (a : Answer K) → says_yes a ≡ true → a ≡ Yes
yes_only Yes h = refl
yes_only No h = cc
yes_only (Found k) h = cc
yes_only Missing h = cc
yes_only NoRoom h = cc

abbrev pub lacks_room : {K : Type 0} → Answer K → Bool
lacks_room Yes = false
lacks_room No = false
lacks_room (Found k) = false
lacks_room Missing = false
lacks_room NoRoom = true

no_room_only : {K : Type 0} (a : Answer K) → lacks_room a ≡ true → a ≡ NoRoom
no_room_only Yes h = cc
no_room_only No h = cc
no_room_only (Found k) h = cc
no_room_only Missing h = cc
no_room_only NoRoom h = refl

-- Only a put finds no room.
no_room_puts : {K : Type 0} (rank : K → K → Ordering) (w : Work) (k : K) (xs : List K) → TrueOf rank w k NoRoom xs → w ≡ Put
no_room_puts rank Put k xs h = refl
no_room_puts rank Strike k xs h = absurd h
no_room_puts rank Look k xs h = absurd h
no_room_puts rank First k xs h = absurd h
no_room_puts rank After k xs h = absurd h

one_more_only : (n m : ℕ) → n ≡ 1 → m ≡ 1 → n + m ≤ 1 → ⊥
one_more_only n m e h few = omega arith

module _ {K : Type 0} (rank : K → K → Ordering) where
  -- What one step of work t made of the keys; m is one if it changed them.
  data Now (b b' : Book K) (t : Task K) (m : ℕ) : Type 0 where
    stayed : m ≡ 0 → keys b' ≡ keys b → Now b b' t m
    added : m ≡ 1 → t.work ≡ Put → Adds t.key (keys b) (keys b') → Now b b' t m
    took : m ≡ 1 → t.work ≡ Strike → TakesAway t.key (keys b) (keys b') → Now b b' t m

  -- What work t has made of the keys of the book o in which it began; bs are the books since, b the last of them.
  data SoFar (bs : List (Book K)) (o b : Book K) (t : Task K) (n : ℕ) : Type 0 where
    not_yet : n ≡ 0 → ((σ : Book K) → Among σ bs → keys σ ≡ keys o) → keys b ≡ keys o → SoFar bs o b t n
    put_in : n ≡ 1 → t.work ≡ Put → Adds t.key (keys o) (keys b) → SoFar bs o b t n
    struck : n ≡ 1 → t.work ≡ Strike → TakesAway t.key (keys o) (keys b) → SoFar bs o b t n

  all_same : (bs : List (Book K)) (o b : Book K) → ((σ : Book K) → Among σ bs → keys σ ≡ keys o) → keys b ≡ keys o → (σ : Book K) → Among σ (b ∷ bs) → keys σ ≡ keys o
  all_same bs o b same e σ (inl is) = ap keys (sym is) ∙ e
  all_same bs o b same e σ (inr m) = same σ m

  longer : (bs : List (Book K)) (o b : Book K) (t : Task K) (n : ℕ) → SoFar bs o b t n → SoFar (b ∷ bs) o b t n
  longer bs o b t n (SoFar.not_yet e same now) = SoFar.not_yet e (all_same bs o b same now) now
  longer bs o b t n (SoFar.put_in e w adds) = SoFar.put_in e w adds
  longer bs o b t n (SoFar.struck e w takes) = SoFar.struck e w takes

  -- One step more.
  more : (bs : List (Book K)) (o b b' : Book K) (t : Task K) (n m : ℕ) → SoFar bs o b t n → Now b b' t m → n + m ≤ 1 → SoFar (b' ∷ bs) o b' t (n + m)
  more bs o b b' t n m (SoFar.not_yet e same now) (Now.stayed z k) few = SoFar.not_yet (omega arith) (all_same bs o b' same (k ∙ now)) (k ∙ now)
  more bs o b b' t n m (SoFar.not_yet e same now) (Now.added z w adds) few = SoFar.put_in (omega arith) w (subst (λ xs. Adds t.key xs (keys b')) now adds)
  more bs o b b' t n m (SoFar.not_yet e same now) (Now.took z w takes) few = SoFar.struck (omega arith) w (subst (λ xs. TakesAway t.key xs (keys b')) now takes)
  more bs o b b' t n m (SoFar.put_in e w adds) (Now.stayed z k) few = SoFar.put_in (omega arith) w (subst (Adds t.key (keys o)) (sym k) adds)
  more bs o b b' t n m (SoFar.put_in e w adds) (Now.added z v again) few = absurd (one_more_only n m e z few)
  more bs o b b' t n m (SoFar.put_in e w adds) (Now.took z v takes) few = absurd (one_more_only n m e z few)
  more bs o b b' t n m (SoFar.struck e w takes) (Now.stayed z k) few = SoFar.struck (omega arith) w (subst (TakesAway t.key (keys o)) (sym k) takes)
  more bs o b b' t n m (SoFar.struck e w takes) (Now.added z v adds) few = absurd (one_more_only n m e z few)
  more bs o b b' t n m (SoFar.struck e w takes) (Now.took z v again) few = absurd (one_more_only n m e z few)

  renamed : (bs : List (Book K)) (o b : Book K) (t u : Task K) (n : ℕ) → u.work ≡ t.work → u.key ≡ t.key → SoFar bs o b t n → SoFar bs o b u n
  renamed bs o b t u n we ke (SoFar.not_yet e same now) = SoFar.not_yet e same now
  renamed bs o b t u n we ke (SoFar.put_in e w adds) = SoFar.put_in e (we ∙ w) (subst (λ k. Adds k (keys o) (keys b)) (sym ke) adds)
  renamed bs o b t u n we ke (SoFar.struck e w takes) = SoFar.struck e (we ∙ w) (subst (λ k. TakesAway k (keys o) (keys b)) (sym ke) takes)

  module _ (laws : Laws rank) (inv : (b : Book K) → Run rank b → Inv rank (sight_of b)) (promised : Promises rank) (i : ℕ) where
    changes_by : (x : Stepped K) (b b' : Book K) (same : Bool) → same_keys rank (keys b) (keys b') ≡ same → changes_now rank i b (step i) (stepped (Ok x)) b' ≡ cond (not same) 1 0
    changes_by x b b' same e =
        ap (λ z. cond ((z && true) && not (same_keys rank (keys b) (keys b'))) 1 0) (eq-eqb i i refl) ∙ ap (λ z. cond (not z) 1 0) e

    module _ (b : Book K) (r : Run rank b) (t : Task K) (is : work_at b i ≡ Some t) (x : Stepped K) (b' : Book K) (d : Does rank b (step i) (stepped (Ok x)) b') where
      changed_by : (u : Task K) → u ≡ t → ((u.work ≡ Put) × Adds u.key (keys b) (keys b')) ⊎ ((u.work ≡ Strike) × TakesAway u.key (keys b) (keys b'))
          → Now b b' t (changes_now rank i b (step i) (stepped (Ok x)) b')
      changed_by u same (inl h) =
          Now.added (changes_by x b b' false (more_differs rank laws u.key (keys b) (keys b') h.1).0) (ap (λ v. v.work) (sym same) ∙ h.0) (subst (λ v. Adds v.key (keys b) (keys b')) same h.1)
      changed_by u same (inr h) =
          Now.took (changes_by x b b' false (more_differs rank laws u.key (keys b') (keys b) h.1).1) (ap (λ v. v.work) (sym same) ∙ h.0) (subst (λ v. TakesAway v.key (keys b) (keys b')) same h.1)

      step_same : (j : ℕ) → ◌≡◌ {A = Rattle.promises.specs.Runs.Call K} (step i) (step j) → i ≡ j
      step_same j e = cc

      now_of : (keys b' ≡ keys b) ⊎ ((j : ℕ) × (u : Task K) × ChangesItsKey rank b (step i) (stepped (Ok x)) b' j u) → Now b b' t (changes_now rank i b (step i) (stepped (Ok x)) b')
      now_of (inl same) = Now.stayed (changes_by x b b' true (ap (same_keys rank (keys b)) same ∙ same_as_itself rank laws (keys b))) same
      now_of (inr h) = changed_by h.1 (some_injects h.2.under_way (ap (work_at b) (sym (step_same h.0 h.2.call)) ∙ is)) h.2.change

      now : Now b b' t (changes_now rank i b (step i) (stepped (Ok x)) b')
      now = now_of (promised.only_own_keys_change b r (step i) (stepped (Ok x)) b' d)

    -- ---- over the run

    abbrev Told : List (Book K) → Book K → Book K → Task K → ℕ → ℕ → Type 0
    Told bs o b t g n = SoFar bs o b t n × (n ≡ done_of t.phase)

    told_move : (bs : List (Book K)) (o b : Book K) (g n : ℕ) (r : Run rank b) → AloneIn rank i b → (x : Stepped K) (b' : Book K) (d : Does rank b (step i) (stepped (Ok x)) b')
        (made : Made rank (sight_of b) i x (sight_of b')) → Told bs o b made.task g n → (u : Task K) → made.outcome ≡ Goes u
        → work_at b' i ≡ Some (with_steps (counted made.task.steps) u) → AloneIn rank i b'
        → Told (b' ∷ bs) o b' (with_steps (counted made.task.steps) u) (g + 1) (n + changes_now rank i b (step i) (stepped (Ok x)) b')
    told_move bs o b g n r alone x b' d made told u goes is alone' =
        let counts = ap (λ z. n + z) (changes_by x b b' (same_keys rank (keys b) (keys b')) refl) ∙ ap (λ z. z + cond (not (same_keys rank (keys b) (keys b'))) 1 0) told.1
        ∙ step_counts rank laws b (inv b r) b' (inv b' (next (step i) (stepped (Ok x)) b' r d)) i x made u (inl goes) in
        let aim = step_keeps_aim made.way u goes in (
          renamed (b' ∷ bs) o b' made.task (with_steps (counted made.task.steps) u) _ aim.work aim.key
              (more bs o b b' made.task n _ told.0 (now b r made.task made.under_way x b' d) (few counts (at_most_one u.phase))),
          counts,
        )
      where
        few : {p q : ℕ} → p ≡ q → q ≤ 1 → p ≤ 1
        few e h = omega arith

    so_far : {b : Book K} (r : Run rank b) (t : Task K) → work_at b i ≡ Some t → WorksAlone rank r i → SoFar (since rank r i) (began_in rank r i) b t (changed_times rank r i)
    so_far r t is alone =
        (alone_holds rank i inv promised Told
        (λ b s h w k was. (SoFar.not_yet refl (λ σ m. all_same [] b b (λ τ l. absurd l) refl σ m) refl, sym (begins_undone w)))
        (λ bs o b u g n h. (longer bs o b u n h.0, h.1)) told_move r t is alone).0

    -- ---- the end

    module _ (b : Book K) (r : Run rank b) (t : Task K) (is : work_at b i ≡ Some t) (alone : WorksAlone rank r i) (a : Answer K) (n : ℕ) (b' : Book K) (ended : EndsWith rank b i t a n b')
        (o : Book K) (from : Run rank o) (begin_is : began_in rank r i ≡ o)
        (yes_has_room : t.work ≡ Put → a ≡ Yes → has_room o ≡ true) (none_has_no_room : t.work ≡ Put → a ≡ NoRoom → (has_room o ≡ false) × (Holds t.key (keys b) → ⊥)) where
      abbrev total : ℕ
      total = changed_times rank r i + changes_now rank i b (step i) (stepped (Ok (Ended a n))) b'

      before_end : SoFar (since rank r i) o b t (changed_times rank r i)
      before_end = subst (λ z. SoFar (since rank r i) z b t (changed_times rank r i)) begin_is (so_far r t is alone)

      at_end : total ≤ 1 → SoFar (b' ∷ since rank r i) o b' t total
      at_end few = more (since rank r i) o b b' t (changed_times rank r i) _ before_end (now b r t is (Ended a n) b' ended.1) few

      rises_before : Rises rank (keys o)
      rises_before = promised.nothing_is_damaged.keys_rise o from

      rises_after : Rises rank (keys b')
      rises_after = promised.nothing_is_damaged.keys_rise b' (next (step i) (stepped (Ok (Ended a n))) b' r ended.1)

      AsSet : Work → Type 0
      AsSet w = (a ≡ set_answer rank w t.key (keys o) (has_room o)) × (keys b' ≡ set_after rank w t.key (keys o) (has_room o))

      put_so : t.work ≡ Put → a ≡ Yes → Adds t.key (keys o) (keys b') → AsSet Put
      unfolding AsSet
      put_so w said adds =
          let out = absent_not_in rank laws t.key (keys o) adds.absent in
          let room = yes_has_room w said in (
            said ∙ sym (ap (λ z. cond z No (cond (has_room o) Yes NoRoom)) out ∙ ap (λ z. cond z Yes NoRoom) room),
            added_is_put rank laws t.key (keys o) (keys b') rises_before rises_after adds
                ∙ sym (ap (λ z. cond z (keys o) (cond (has_room o) (with_key_in rank t.key (keys o)) (keys o))) out ∙ ap (λ z. cond z (with_key_in rank t.key (keys o)) (keys o)) room),
          )

      struck_so : a ≡ Yes → TakesAway t.key (keys o) (keys b') → AsSet Strike
      unfolding AsSet
      struck_so said takes = (
        said ∙ sym (ap (λ z. cond z Yes No) (held_is_in rank laws t.key (keys o) takes.present)),
        taken_is_struck rank laws t.key (keys o) (keys b') rises_before rises_after takes,
      )

      pub ends_so : AsASet rank o t a b'
      unfolding AsSet
      ends_so = go (is_change t.work) refl (says_yes a) refl
        where
          wrap : (w : Work) → t.work ≡ w → AsSet w → AsASet rank o t a b'
          wrap w e h = record { answers = h.0 ∙ ap (λ z. set_answer rank z t.key (keys o) (has_room o)) (sym e); leaves = h.1 ∙ ap (λ z. set_after rank z t.key (keys o) (has_room o)) (sym e) }

          le_one : {m : ℕ} → m ≡ 1 → m ≤ 1
          le_one e = omega arith

          le_none : {m : ℕ} → m ≡ 0 → m ≤ 1
          le_none e = omega arith

          not_both : {P : Type 0} {m : ℕ} → m ≡ 0 → m ≡ 1 → P
          not_both e h = absurd (omega arith)

          by_yes : a ≡ Yes → total ≡ 1 → SoFar (b' ∷ since rank r i) o b' t total → AsASet rank o t a b'
          by_yes said one (SoFar.not_yet z same k) = not_both z one
          by_yes said one (SoFar.put_in z w adds) = wrap Put w (put_so w said adds)
          by_yes said one (SoFar.struck z w takes) = wrap Strike w (struck_so said takes)

          true_there : (bs : List (Book K)) → ((σ : Book K) → Among σ bs → keys σ ≡ keys o) → AtSome rank (TrueOf rank t.work t.key a) bs → TrueOf rank t.work t.key a (keys o)
          true_there [] same m = absurd m
          true_there (σ ∷ bs) same (inl h) = subst (TrueOf rank t.work t.key a) (same σ (inl refl)) h
          true_there (σ ∷ bs) same (inr m) = true_there bs (λ τ l. same τ (inr l)) m

          absent_before : (Holds t.key (keys b) → ⊥) → total ≡ 0 → SoFar (since rank r i) o b t (changed_times rank r i) → Holds t.key (keys o) → ⊥
          absent_before absent none (SoFar.not_yet z same k) h = absent (subst (Holds t.key) (sym k) h)
          absent_before absent none (SoFar.put_in z w adds) h = omega arith
          absent_before absent none (SoFar.struck z w takes) h = omega arith

          no_room_so : t.work ≡ Put → a ≡ NoRoom → total ≡ 0 → keys b' ≡ keys o → AsSet Put
          no_room_so w said none k =
              let full = none_has_no_room w said in
              let out = absent_not_in rank laws t.key (keys o) (absent_before full.1 none before_end) in (
                said ∙ sym (ap (λ z. cond z No (cond (has_room o) Yes NoRoom)) out ∙ ap (λ z. cond z Yes NoRoom) full.0),
                k ∙ sym (ap (λ z. cond z (keys o) (cond (has_room o) (with_key_in rank t.key (keys o)) (keys o))) out ∙ ap (λ z. cond z (with_key_in rank t.key (keys o)) (keys o)) full.0),
              )

          by_truth : total ≡ 0 → keys b' ≡ keys o → TrueOf rank t.work t.key a (keys o) → (c : Bool) → lacks_room a ≡ c → AsASet rank o t a b'
          by_truth none k h true e =
              let said = no_room_only a e in
              let w = no_room_puts rank t.work t.key (keys o) (subst (λ z. TrueOf rank t.work t.key z (keys o)) said h) in
              wrap Put w (no_room_so w said none k)
          by_truth none k h false e =
              let roomy = (λ (said : a ≡ NoRoom). true≢false (sym (ap lacks_room said) ∙ e)) in
              record { answers = true_is_said rank laws t.key (keys o) (has_room o) t.work a rises_before h roomy; leaves = k ∙ true_keeps rank laws t.key (keys o) (has_room o) t.work a h roomy }

          by_other : total ≡ 0 → AtSome rank (TrueOf rank t.work t.key a) (b' ∷ since rank r i) → SoFar (b' ∷ since rank r i) o b' t total → AsASet rank o t a b'
          by_other none m (SoFar.not_yet z same k) = by_truth none k (true_there (b' ∷ since rank r i) same m) (lacks_room a) refl
          by_other none m (SoFar.put_in z w adds) = not_both none z
          by_other none m (SoFar.struck z w takes) = not_both none z

          other : (IsChangeDone t.work a → ⊥) → AsASet rank o t a b'
          other undone =
              let none = promised.changes_once.others_never b r i t a n b' ended undone in
              by_other none (promised.answers_are_true b r i t a n b' ended undone) (at_end (le_none none))

          go : (c : Bool) → is_change t.work ≡ c → (y : Bool) → says_yes a ≡ y → AsASet rank o t a b'
          go true e true f =
              let said = yes_only a f in
              let one = subst (λ z. changed_times rank r i + changes_now rank i b (step i) (stepped (Ok (Ended z n))) b' ≡ 1) (sym said)
              (promised.changes_once.yes_once b r i t n b' (subst (λ z. EndsWith rank b i t z n b') said ended) e) in
              by_yes said one (at_end (le_one one))
          go true e false f = other (λ h. true≢false (sym (ap says_yes h.1) ∙ f))
          go false e y f = other (λ h. true≢false (sym h.0 ∙ e))
