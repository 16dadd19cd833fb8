-- When a put that is alone finds room: its yes tells that a place was free as it began, and NO ROOM that none was. Assumes the
-- laws of the order, the invariant of every book of a run, and the promises.
use Rattle.std.proofs.Common.{◌≡◌, ℕ, ◌<◌, ◌≤◌, Bool, true, false, leb, length, Some, Ok, Ordering, sym, refl, ap, ◌∙◌, subst, arith}
use Rattle.std.proofs.lemmas.Bool.{true≢false}
use Rattle.records.specs.declared.answer.Answer.{Answer}
use Rattle.records.specs.declared.answer.Answer.TheVariants.{Yes, NoRoom}
use Rattle.records.specs.declared.answer.Stepped.{Stepped}
use Rattle.records.specs.declared.answer.Stepped.TheVariants.{Ended}
use Rattle.records.specs.declared.outcome.Outcome.{Outcome}
use Rattle.records.specs.declared.outcome.Outcome.TheVariants.{Goes, Waits, Ends, Retires}
use Rattle.records.specs.declared.record.Phase.TheVariants.{Take}
use Rattle.records.specs.declared.record.Status.TheVariants.{Free}
use Rattle.records.specs.declared.record.Task.{Task}
use Rattle.records.specs.declared.record.Work.{Work}
use Rattle.records.specs.declared.record.Work.TheVariants.{Put}
use Rattle.rules.specs.Putting.{most_places}
use Rattle.engine.specs.Settling.{counted, with_steps}
use Rattle.promises.specs.Books.{Book, keys, work_at}
use Rattle.promises.specs.Truths.{Holds}
use Rattle.promises.specs.Runs.{Does, Run, step, stepped}
use Rattle.promises.specs.Promised.{is_change, Promises, EndsWith}
use Rattle.promises.specs.Alone.{has_room, WorksAlone, began_in}
use Rattle.promises.proofs.Small.{true_and_false}
use Rattle.promises.proofs.Laws.{Laws}
use Rattle.promises.proofs.Sights.{Sight, sight_of}
use Rattle.promises.proofs.Views.{Way}
use Rattle.promises.proofs.Settles.{Settling}
use Rattle.promises.proofs.Accepted.{Made, accepted_step_made}
use Rattle.promises.proofs.Invariant.{Inv, rung, group, fits, is_placed, is_between}
use Rattle.promises.proofs.Aims.{step_keeps_aim}
use Rattle.promises.proofs.ChangesOnce.{EndedBy, ended_by}
use Rattle.promises.proofs.Moments.{ShowsKeys, absent_next}
use Rattle.promises.proofs.Works.{some_injects}
use Rattle.promises.proofs.Sizes.{call_keeps_size, run_few_places}
use Rattle.promises.proofs.Solo.{alone_holds, goes_settles}
use Rattle.promises.proofs.SoloKeys.{lacks_room}
use Rattle.promises.proofs.Rooms.{is_taken, begins_untaken, done_taken, Room, room_found, room_by, Rooms, way_rooms}

put_strikes_not : {P : Type 0} {w : Work} → w ≡ Put → fits w 5 ≡ true → P
put_strikes_not e h = absurd (true≢false (sym h ∙ ap (λ v. fits v 5) e))

module _ {K : Type 0} where
  abbrev ends_full : Outcome K → Bool
  ends_full (Goes u) = false
  ends_full Waits = false
  ends_full (Ends a) = lacks_room a
  ends_full (Retires p) = false

  ends_other : {P : Type 0} {o x : Outcome K} → o ≡ x → ends_full x ≡ false → o ≡ Ends NoRoom → P
  ends_other e calm h = true_and_false (ap ends_full h) (ap ends_full e ∙ calm)

module _ {K : Type 0} {rank : K → K → Ordering} {s : Sight K} {me : ℕ} {t : Task K} {o : Outcome K} {s' : Sight K} where
  -- Only TAKE ends with NO ROOM, and then no place is free.
  no_room_so : Way rank s me t o s' → o ≡ Ends NoRoom → (t.phase ≡ Take) × ((p : ℕ) → 2 ≤ p → p < s.size → p < most_places → s.status p ≡ Free → ⊥)
  no_room_so (Way.strays x0 x1 x2) e = ends_other x1 refl e
  no_room_so (Way.enters x0 x1 x2 x3 x4) e = ends_other x3 refl e
  no_room_so (Way.down_here x0 x1 x2 x3) e = ends_other x2 refl e
  no_room_so (Way.down_lost x0 x1 x2 x3) e = ends_other x2 refl e
  no_room_so (Way.down_last x0 x1 x2 x3 x4 x5 x6) e = ends_other x5 refl e
  no_room_so (Way.down_on x0 x1 x2 x3 x4 x5 x6) e = ends_other x5 refl e
  no_room_so (Way.check_marked x0 x1 x2 x3) e = ends_other x2 refl e
  no_room_so (Way.check_unmarked x0 x1 x2 x3) e = ends_other x2 refl e
  no_room_so (Way.back_look_yes x0 x1 x2 x3 x4 x5) e = ends_other x4 refl e
  no_room_so (Way.back_look_marked x0 x1 x2 x3 x4 x5) e = ends_other x4 refl e
  no_room_so (Way.back_look_above x0 x1 x2 x3 x4) e = ends_other x3 refl e
  no_room_so (Way.back_look_on x0 x1 x2 x3 x4) e = ends_other x3 refl e
  no_room_so (Way.back_after_above x0 x1 x2 x3 x4) e = ends_other x3 refl e
  no_room_so (Way.back_after_on x0 x1 x2 x3 x4) e = ends_other x3 refl e
  no_room_so (Way.back_change_above x0 x1 x2 x3 x4) e = ends_other x3 refl e
  no_room_so (Way.back_change_seek x0 x1 x2 x3 x4) e = ends_other x3 refl e
  no_room_so (Way.on_look_next x0 x1 x2 x3 x4) e = ends_other x3 refl e
  no_room_so (Way.on_look_marked x0 x1 x2 x3 x4 x5) e = ends_other x4 refl e
  no_room_so (Way.on_look_yes x0 x1 x2 x3 x4 x5) e = ends_other x4 refl e
  no_room_so (Way.on_look_no x0 x1 x2 x3 x4) e = ends_other x3 refl e
  no_room_so (Way.on_after_next x0 x1 x2 x3 x4) e = ends_other x3 refl e
  no_room_so (Way.on_after_missing x0 x1 x2 x3 x4) e = ends_other x3 refl e
  no_room_so (Way.on_after_marked x0 x1 x2 x3 x4 x5) e = ends_other x4 refl e
  no_room_so (Way.on_after_found x0 x1 x2 x3 x4 x5 x6 x7) e = ends_other x6 refl e
  no_room_so (Way.seek_next x0 x1 x2 x3 x4) e = ends_other x3 refl e
  no_room_so (Way.seek_lock x0 x1 x2 x3 x4) e = ends_other x3 refl e
  no_room_so (Way.lock_waits x0 x1 x2 x3) e = ends_other x2 refl e
  no_room_so (Way.lock_taken x0 x1 x2 x3 x4) e = ends_other x3 refl e
  no_room_so (Way.valid_again x0 x1 x2 x3 x4) e = ends_other x3 refl e
  no_room_so (Way.valid_put_no x0 x1 x2 x3 x4 x5) e = ends_other x4 refl e
  no_room_so (Way.valid_take x0 x1 x2 x3 x4 x5) e = ends_other x4 refl e
  no_room_so (Way.valid_strike_no x0 x1 x2 x3 x4 x5) e = ends_other x4 refl e
  no_room_so (Way.valid_victim x0 x1 x2 x3 x4 x5) e = ends_other x4 refl e
  no_room_so (Way.take_none x0 x1 x2 x3) e = (x0, x1)
  no_room_so (Way.take_some x0 x1 x2 x3 x4 x5 x6) e = ends_other x5 refl e
  no_room_so (Way.links x0 x1 x2) e = ends_other x1 refl e
  no_room_so (Way.links_back x0 x1 x2 x3) e = ends_other x2 refl e
  no_room_so (Way.attaches x0 x1 x2 x3 x4 x5) e = ends_other x4 refl e
  no_room_so (Way.releases_new x0 x1 x2) e = ends_other x1 refl e
  no_room_so (Way.put_ends x0 x1 x2) e = ends_other x1 refl e
  no_room_so (Way.victim_waits x0 x1 x2 x3) e = ends_other x2 refl e
  no_room_so (Way.victim_taken x0 x1 x2 x3 x4) e = ends_other x3 refl e
  no_room_so (Way.marks x0 x1 x2) e = ends_other x1 refl e
  no_room_so (Way.unlinks_back x0 x1 x2 x3) e = ends_other x2 refl e
  no_room_so (Way.unlinks x0 x1 x2) e = ends_other x1 refl e
  no_room_so (Way.detaches x0 x1 x2 x3 x4) e = ends_other x3 refl e
  no_room_so (Way.releases_victim x0 x1 x2) e = ends_other x1 refl e
  no_room_so (Way.strike_ends x0 x1 x2 x3) e = ends_other x2 refl e
  no_room_so (Way.first_missing x0 x1 x2 x3) e = ends_other x2 refl e
  no_room_so (Way.first_on_next x0 x1 x2 x3) e = ends_other x2 refl e
  no_room_so (Way.first_marked x0 x1 x2 x3) e = ends_other x2 refl e
  no_room_so (Way.first_found x0 x1 x2 x3 x4 x5) e = ends_other x4 refl e

module _ {K : Type 0} (rank : K → K → Ordering) (laws : Laws rank) (inv : (b : Book K) → Run rank b → Inv rank (sight_of b)) (promised : Promises rank) (i : ℕ) where
  -- The places are as many as in book o, in which the put began, and as free until it takes one, which was free there.
  record Roomy (o b : Book K) (t : Task K) : Type 0 where
    size : length b.places ≡ length o.places
    untaken : t.work ≡ Put → is_taken t.phase ≡ false → (sight_of b).status ≡ (sight_of o).status
    taken : t.work ≡ Put → is_taken t.phase ≡ true → Room o.places

  module _ (o b : Book K) (r : Run rank b) (x : Stepped K) (b' : Book K) (d : Does rank b (step i) (stepped (Ok x)) b') (made : Made rank (sight_of b) i x (sight_of b')) (roomy : Roomy o b made.task)
      (u : Task K) (goes : made.outcome ≡ Goes u) where
    size_still : length b'.places ≡ length o.places
    size_still = call_keeps_size rank b (step i) (stepped (Ok x)) b' d ∙ roomy.size

    same_work : u.work ≡ Put → made.task.work ≡ Put
    same_work w = sym (step_keeps_aim made.way u goes).work ∙ w

    room_there : made.task.work ≡ Put → is_taken made.task.phase ≡ false → (p : ℕ) → 2 ≤ p → p < length b.places → (sight_of b).status p ≡ Free → Room o.places
    room_there w h p c within f = record { place = p; counts = c; within = subst (λ n. p < n) roomy.size within; free = sym (ap (λ g. g p) (roomy.untaken w h)) ∙ f }

    rooms_by : Rooms (sight_of b) made.task u made.mid → Roomy o b' (with_steps (counted made.task.steps) u)
    rooms_by (Rooms.keeps h k st) = record {
      size = size_still;
      untaken = λ w _. ap (λ z. z.status) (goes_settles made.settling u goes).1 ∙ st ∙ roomy.untaken (same_work w) h;
      taken = λ w e. true_and_false e k;
    }
    rooms_by (Rooms.takes h k p c within f) = record { size = size_still; untaken = λ w e. true_and_false k e; taken = λ w _. room_there (same_work w) h p c within f }
    rooms_by (Rooms.has h k) = record { size = size_still; untaken = λ w e. true_and_false k e; taken = λ w _. roomy.taken (same_work w) h }
    rooms_by (Rooms.strikes g) =
        let not_put = (λ (w : u.work ≡ Put). put_strikes_not {P = ⊥} (same_work w) (sym (ap (fits made.task.work) g) ∙ (inv b r).fit i made.task made.under_way)) in
        record { size = size_still; untaken = λ w _. absurd (not_put w); taken = λ w _. absurd (not_put w) }

  alone_roomy : {b : Book K} (r : Run rank b) (t : Task K) → work_at b i ≡ Some t → WorksAlone rank r i → Roomy (began_in rank r i) b t
  alone_roomy r t is alone =
      alone_holds rank i inv promised (λ bs o b u g n. Roomy o b u)
      (λ b s h w k was. record { size = refl; untaken = λ _ _. refl; taken = λ _ e. true_and_false e (begins_untaken w) })
      (λ bs o b u g n h. h)
      (λ bs o b g n s h x b' d made roomy u goes is' h'. rooms_by o b s x b' d made roomy u goes (way_rooms made.way u goes))
      r t is alone

  module _ (shows : (b : Book K) → Run rank b → ShowsKeys b) (b : Book K) (r : Run rank b) (t : Task K) (is : work_at b i ≡ Some t) (alone : WorksAlone rank r i) (puts : t.work ≡ Put)
      (a : Answer K) (n : ℕ) (b' : Book K) (ended : EndsWith rank b i t a n b') where
    made : Made rank (sight_of b) i (Ended a n) (sight_of b')
    made = accepted_step_made rank i b.places b.stations b.guide (Ended a n) b'.places b'.stations b'.guide ended.1

    its_task : made.task ≡ t
    its_task = some_injects made.under_way is

    puts_too : made.task.work ≡ Put
    puts_too = ap (λ u. u.work) its_task ∙ puts

    roomy : Roomy (began_in rank r i) b made.task
    roomy = alone_roomy r made.task made.under_way alone

    -- A put that answers yes had room.
    pub yes_had_room : a ≡ Yes → has_room (began_in rank r i) ≡ true
    yes_had_room said = by (ended_by rank (sight_of b) (inv b r) i a n (sight_of b') made made.outcome refl made.settling)
      where
        fit : fits Put (group made.task.phase) ≡ true
        fit = ap (λ w. fits w (group made.task.phase)) (sym puts_too) ∙ (inv b r).fit i made.task made.under_way

        by : EndedBy made.task a → has_room (began_in rank r i) ≡ true
        by (EndedBy.by_yes done still change ok) =
            let room = roomy.taken puts_too (done_taken made.task.phase fit done) in
            room_by (began_in rank r i).places room.place room.counts room.within room.free
        by (EndedBy.by_other done still reads) = true_and_false (ap is_change puts_too) (reads said)

    module _ (said : a ≡ NoRoom) where
      ended_so : (o : Outcome K) → made.outcome ≡ o → Settling made.mid i made.task o (Ended a n) (sight_of b') → made.outcome ≡ Ends NoRoom
      ended_so o oc (Settling.goes u e ac se) = let z : ◌≡◌ {A = ℕ} 0 1 = cc ac in absurd (omega arith)
      ended_so o oc (Settling.waits e ac se) = let z : ◌≡◌ {A = ℕ} 0 1 = cc ac in absurd (omega arith)
      ended_so o oc (Settling.ends y e ac se) = let same : a ≡ y = cc ac in oc ∙ e ∙ ap Ends (sym same ∙ said)
      ended_so o oc (Settling.retires q e ac w others se) = let same : a ≡ Yes = cc ac in let z : ◌≡◌ {A = ℕ} 0 1 = cc (same, said) in absurd (omega arith)

      at_take : (made.task.phase ≡ Take) × ((p : ℕ) → 2 ≤ p → p < length b.places → p < most_places → (sight_of b).status p ≡ Free → ⊥)
      at_take = no_room_so made.way (ended_so made.outcome refl made.settling)

      not_room : Room (began_in rank r i).places → ⊥
      not_room room =
          let few = run_few_places rank r in
          let size = roomy.size in
          let within = room.within in
          at_take.1 room.place room.counts (omega arith) (omega arith) (ap (λ f. f room.place) (roomy.untaken puts_too (ap is_taken at_take.0)) ∙ room.free)

      -- A put that answers NO ROOM had none, and its key is absent.
      pub none_had_room : (has_room (began_in rank r i) ≡ false) × (Holds t.key (keys b) → ⊥)
      none_had_room = (go (has_room (began_in rank r i)) refl, subst (λ u. Holds u.key (keys b) → ⊥) its_task absent)
        where
          go : (c : Bool) → has_room (began_in rank r i) ≡ c → c ≡ false
          go true e = absurd (not_room (room_found (began_in rank r i).places e))
          go false e = refl

          absent : Holds made.task.key (keys b) → ⊥
          absent =
              let work = (inv b r).stands i made.task made.under_way in
              absent_next rank laws b (inv b r) (shows b r) made.task.at made.task.key (work.at_chained (ap (λ f. is_placed (rung f)) at_take.0))
              (work.at_below (ap (λ f. leb 3 (group f)) at_take.0)) (work.next_above (ap (λ f. is_between (rung f)) at_take.0))
