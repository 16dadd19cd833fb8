-- That a book keeps its number of places, at most 1,024. Assumes nothing.
use Rattle.std.proofs.Common.{◌≡◌, ℕ, suc, ◌≤◌, Bool, true, false, cond, ◌||◌, ltb, List, [], ◌∷◌, length, Ok, Err, Result, Ordering, sym, refl, ap, ◌∙◌, arith}
use Rattle.std.proofs.lemmas.List.{length-map}
use Rattle.std.proofs.lemmas.Bool.{ltb-false, or_parts}
use Rattle.guides.specs.declared.answer.GuideRefusal.{GuideRefusal}
use Rattle.guides.specs.Meaning.{Meaning}
use Rattle.guides.specs.Rules.{clearing}
use Rattle.records.specs.declared.answer.Refusal.TheVariants.{BadCount, Guide}
use Rattle.records.specs.declared.answer.Stepped.{Stepped}
use Rattle.records.specs.declared.outcome.Outcome.{Outcome}
use Rattle.records.specs.declared.record.Place.{Place}
use Rattle.records.specs.declared.record.Station.{Station}
use Rattle.records.specs.declared.record.Task.{Task}
use Rattle.rules.specs.Putting.{most_places}
use Rattle.engine.specs.Calling.{Opened, opening, opening_by, bad_count, opened_places, vacated}
use Rattle.engine.specs.Settling.{most_stations}
use Rattle.promises.specs.Books.{Book}
use Rattle.promises.specs.Runs.{Call, Reply, Does, Run, opened, next}
use Rattle.promises.proofs.Sights.{Sight}
use Rattle.promises.proofs.Views.{Way}
use Rattle.promises.proofs.Finds.{never_ok, same_ok}
use Rattle.promises.proofs.Settles.{Settling}
use Rattle.promises.proofs.Calls.{Did, call_did}

module _ {K : Type 0} {rank : K → K → Ordering} {s : Sight K} {me : ℕ} {t : Task K} {o : Outcome K} {s' : Sight K} where
  way_size : Way rank s me t o s' → s'.size ≡ s.size
  way_size (Way.strays x0 x1 x2) = ap (λ x. x.size) x2
  way_size (Way.enters x0 x1 x2 x3 x4) = ap (λ x. x.size) x4
  way_size (Way.down_here x0 x1 x2 x3) = ap (λ x. x.size) x3
  way_size (Way.down_lost x0 x1 x2 x3) = ap (λ x. x.size) x3
  way_size (Way.down_last x0 x1 x2 x3 x4 x5 x6) = ap (λ x. x.size) x6
  way_size (Way.down_on x0 x1 x2 x3 x4 x5 x6) = ap (λ x. x.size) x6
  way_size (Way.check_marked x0 x1 x2 x3) = ap (λ x. x.size) x3
  way_size (Way.check_unmarked x0 x1 x2 x3) = ap (λ x. x.size) x3
  way_size (Way.back_look_yes x0 x1 x2 x3 x4 x5) = ap (λ x. x.size) x5
  way_size (Way.back_look_marked x0 x1 x2 x3 x4 x5) = ap (λ x. x.size) x5
  way_size (Way.back_look_above x0 x1 x2 x3 x4) = ap (λ x. x.size) x4
  way_size (Way.back_look_on x0 x1 x2 x3 x4) = ap (λ x. x.size) x4
  way_size (Way.back_after_above x0 x1 x2 x3 x4) = ap (λ x. x.size) x4
  way_size (Way.back_after_on x0 x1 x2 x3 x4) = ap (λ x. x.size) x4
  way_size (Way.back_change_above x0 x1 x2 x3 x4) = ap (λ x. x.size) x4
  way_size (Way.back_change_seek x0 x1 x2 x3 x4) = ap (λ x. x.size) x4
  way_size (Way.on_look_next x0 x1 x2 x3 x4) = ap (λ x. x.size) x4
  way_size (Way.on_look_marked x0 x1 x2 x3 x4 x5) = ap (λ x. x.size) x5
  way_size (Way.on_look_yes x0 x1 x2 x3 x4 x5) = ap (λ x. x.size) x5
  way_size (Way.on_look_no x0 x1 x2 x3 x4) = ap (λ x. x.size) x4
  way_size (Way.on_after_next x0 x1 x2 x3 x4) = ap (λ x. x.size) x4
  way_size (Way.on_after_missing x0 x1 x2 x3 x4) = ap (λ x. x.size) x4
  way_size (Way.on_after_marked x0 x1 x2 x3 x4 x5) = ap (λ x. x.size) x5
  way_size (Way.on_after_found x0 x1 x2 x3 x4 x5 x6 x7) = ap (λ x. x.size) x7
  way_size (Way.seek_next x0 x1 x2 x3 x4) = ap (λ x. x.size) x4
  way_size (Way.seek_lock x0 x1 x2 x3 x4) = ap (λ x. x.size) x4
  way_size (Way.lock_waits x0 x1 x2 x3) = ap (λ x. x.size) x3
  way_size (Way.lock_taken x0 x1 x2 x3 x4) = ap (λ x. x.size) x4
  way_size (Way.valid_again x0 x1 x2 x3 x4) = ap (λ x. x.size) x4
  way_size (Way.valid_put_no x0 x1 x2 x3 x4 x5) = ap (λ x. x.size) x5
  way_size (Way.valid_take x0 x1 x2 x3 x4 x5) = ap (λ x. x.size) x5
  way_size (Way.valid_strike_no x0 x1 x2 x3 x4 x5) = ap (λ x. x.size) x5
  way_size (Way.valid_victim x0 x1 x2 x3 x4 x5) = ap (λ x. x.size) x5
  way_size (Way.take_none x0 x1 x2 x3) = ap (λ x. x.size) x3
  way_size (Way.take_some x0 x1 x2 x3 x4 x5 x6) = ap (λ x. x.size) x6
  way_size (Way.links x0 x1 x2) = ap (λ x. x.size) x2
  way_size (Way.links_back x0 x1 x2 x3) = ap (λ x. x.size) x3
  way_size (Way.attaches x0 x1 x2 x3 x4 x5) = ap (λ x. x.size) x5
  way_size (Way.releases_new x0 x1 x2) = ap (λ x. x.size) x2
  way_size (Way.put_ends x0 x1 x2) = ap (λ x. x.size) x2
  way_size (Way.victim_waits x0 x1 x2 x3) = ap (λ x. x.size) x3
  way_size (Way.victim_taken x0 x1 x2 x3 x4) = ap (λ x. x.size) x4
  way_size (Way.marks x0 x1 x2) = ap (λ x. x.size) x2
  way_size (Way.unlinks_back x0 x1 x2 x3) = ap (λ x. x.size) x3
  way_size (Way.unlinks x0 x1 x2) = ap (λ x. x.size) x2
  way_size (Way.detaches x0 x1 x2 x3 x4) = ap (λ x. x.size) x4
  way_size (Way.releases_victim x0 x1 x2) = ap (λ x. x.size) x2
  way_size (Way.strike_ends x0 x1 x2 x3) = ap (λ x. x.size) x3
  way_size (Way.first_missing x0 x1 x2 x3) = ap (λ x. x.size) x3
  way_size (Way.first_on_next x0 x1 x2 x3) = ap (λ x. x.size) x3
  way_size (Way.first_marked x0 x1 x2 x3) = ap (λ x. x.size) x3
  way_size (Way.first_found x0 x1 x2 x3 x4 x5) = ap (λ x. x.size) x5

module _ {K : Type 0} where
  settling_size : {m : Sight K} {i : ℕ} {t : Task K} {o : Outcome K} {x : Stepped K} {s' : Sight K} → Settling m i t o x s' → s'.size ≡ m.size
  settling_size (Settling.goes u oc ac se) = ap (λ x. x.size) se
  settling_size (Settling.waits oc ac se) = ap (λ x. x.size) se
  settling_size (Settling.ends x oc ac se) = ap (λ x. x.size) se
  settling_size (Settling.retires q oc ac w others se) = ap (λ x. x.size) se

  -- ---- what an open leaves

  opened_length : (ps : List (Place K)) → length (opened_places ps) ≡ length ps
  opened_length [] = refl
  opened_length (only ∷ []) = refl
  opened_length (at_low ∷ (at_high ∷ rest)) = ap (λ n. suc (suc n)) (length-map rest vacated)

  opened_by : (m : Result Meaning GuideRefusal) (ps : List (Place K)) (ss : List (Station K)) (o : Opened K) → opening_by m ps ss ≡ Ok o → length o.places ≡ length ps
  opened_by (Ok m) ps ss o e = sym (ap (λ x. length x.places) (same_ok _ _ e)) ∙ opened_length ps
  opened_by (Err r) ps ss o e = never_ok (Guide r) o e

  opened_few : (most : ℕ) (ps : List (Place K)) (ss : List (Station K)) (o : Opened K) → opening most ps ss ≡ Ok o → length o.places ≤ most_places
  opened_few most ps ss o e = go (bad_count (length ps) (length ss)) refl e
    where
      go : (x : Bool) → bad_count (length ps) (length ss) ≡ x → cond x (Err BadCount) (opening_by (clearing most (length ps)) ps ss) ≡ Ok o → length o.places ≤ most_places
      go true bad e = never_ok BadCount o e
      go false bad e =
          let same = opened_by (clearing most (length ps)) ps ss o e in
          let few = ltb-false most_places (length ps)
          (or_parts (ltb most_places (length ps)) (ltb (length ss) 1 || ltb most_stations (length ss)) (or_parts (ltb (length ps) 2) (ltb most_places (length ps) || (ltb (length ss) 1 || ltb most_stations (length ss))) bad).1).0 in
          omega arith

  module _ (rank : K → K → Ordering) where
    did_size : (b : Book K) (c : Call K) (a : Reply K) (b' : Book K) → Did rank b c a b' → length b'.places ≡ length b.places
    did_size b c a b' (Did.nothing stepless e) = ap (λ x. length x.places) e
    did_size b c a b' (Did.begins j work key ce rested ps e) = ap length ps
    did_size b c a b' (Did.makes j x ce ae made) = settling_size made.settling ∙ way_size made.way
    did_size b c a b' (Did.leaves j t ce busy ps e) = ap (λ x. x.size) e

    pub call_keeps_size : (b : Book K) (c : Call K) (a : Reply K) (b' : Book K) → Does rank b c a b' → length b'.places ≡ length b.places
    call_keeps_size b c a b' d = did_size b c a b' (call_did rank b c a b' d)

    pub run_few_places : {b : Book K} → Run rank b → length b.places ≤ most_places
    run_few_places (opened most ps ss o e) = opened_few most ps ss o e
    run_few_places (next {b} c a b' r d) = let same = call_keeps_size b c a b' d in let few = run_few_places r in omega arith
