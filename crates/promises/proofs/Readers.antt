-- That the rules that only read go one of the ways. Assumes nothing.
use Rattle.std.proofs.Common.{◌≡◌, ℕ, ◌+◌, ◌<◌, Bool, true, false, cond, eqb, leb, List, length, Ok, Ordering, Less, Equal, Greater, sym, refl, ap, ◌∙◌, subst, inl, inr, arith}
use Rattle.std.proofs.lemmas.Bool.{leb-true, leb-false, eqb-true, eqb-false}
use Rattle.std.proofs.lemmas.Bool.Decides.{nat_tests}
use Rattle.guides.specs.declared.answer.Beside.{Beside}
use Rattle.guides.specs.declared.answer.Beside.TheVariants.{Absent, End, Stands}
use Rattle.guides.specs.Meaning.{Meaning, low, high, has}
use Rattle.guides.specs.Rules.{AnswersBeside}
use Rattle.records.specs.declared.answer.Answer.TheVariants.{Yes, No, Found, Missing}
use Rattle.records.specs.declared.outcome.Outcome.{Outcome}
use Rattle.records.specs.declared.outcome.Outcome.TheVariants.{Goes, Ends}
use Rattle.records.specs.declared.record.Phase.TheVariants.{Enter, Down, Check, Back, On, Seek, First, FirstNext}
use Rattle.records.specs.declared.record.Place.{Place}
use Rattle.records.specs.declared.record.Station.{Station}
use Rattle.records.specs.declared.record.Task.{Task}
use Rattle.records.specs.declared.record.Work.{Work}
use Rattle.records.specs.declared.record.Work.TheVariants.{Put, Strike, Look, First as FirstWork, After}
use Rattle.records.specs.Records.{place, needing, standing_at, into, moved_to, with_downs, start_over}
use Rattle.rules.specs.Finding.{most_downs, lead, down_by, down, side_of, check_by, check, back_look_by, back_after_by, back_change_by, seek_by, back_change, seek}
use Rattle.rules.specs.Reading.{on_look_by, on_after_by, first_by, first_next_by, first, first_next}
use Rattle.rules.specs.Stepping.{back, on}
use Rattle.promises.proofs.Laws.{compared, exact, top}
use Rattle.promises.proofs.Sights.{Sight, sight, field_read}
use Rattle.promises.proofs.Finds.{needed, same_ok, precedes_has, precedes_has_last, stands_seen, next_seen, prev_seen, marked_seen}
use Rattle.promises.proofs.Views.{Changes, puts, strikes, Strays, first_back, put_on, strike_on, first_on, stands, Way}

module _ {K : Type 0} (rank : K → K → Ordering) (me : ℕ) (ps : List (Place K)) (ss : List (Station K)) (m : Meaning) (t : Task K) (o : Outcome K) (s' : Sight K)
    (keeps : s' ≡ sight ps ss m) where
  abbrev It : Type 0
  It = Way rank (sight ps ss m) me t o s'

  abbrev here : Place K
  here = place t.key ps t.at

  -- A value that is computed, with the equation.
  with_value : {A : Type 0} {P : Type 0} (a : A) → ((b : A) → a ≡ b → P) → P
  with_value a f = f a refl

  -- ---- DOWN

  module _ (is : t.phase ≡ Down) (within : t.at < length ps) where
    leads : (ord : Ordering) (beside : Beside) → AnswersBeside m.sequence t.at (side_of ord) beside → lead beside t ≡ o → It
    leads ord Absent may e = Way.down_lost is within (sym e) keeps
    leads ord End may e = Way.down_here is within (sym e) keeps
    leads ord (Stands p) may e = go (leb most_downs (t.downs + 1)) refl e
      where
        there : (ord : Ordering) → AnswersBeside m.sequence t.at (side_of ord) (Stands p) → has p m.sequence ≡ true
        there Less may = precedes_has_last t.at p m.sequence may
        there Equal may = precedes_has p t.at m.sequence may
        there Greater may = precedes_has p t.at m.sequence may

        go : (b : Bool) → leb most_downs (t.downs + 1) ≡ b → cond b (Goes (into Check (moved_to p t))) (Goes (with_downs (t.downs + 1) (moved_to p t))) ≡ o → It
        go true b e = Way.down_last is within p (there ord may) (leb-true most_downs (t.downs + 1) b) (sym e) keeps
        go false b e = Way.down_on is within p (there ord may) (leb-false most_downs (t.downs + 1) b) (sym e) keeps

    downs_by : (ord : Ordering) (beside : Beside) → AnswersBeside m.sequence t.at (side_of ord) beside → down_by ord beside t ≡ o → It
    downs_by Less beside may e = leads Less beside may e
    downs_by Equal beside may e = Way.down_here is within (sym e) keeps
    downs_by Greater beside may e = leads Greater beside may e

  pub downs : t.phase ≡ Down → (beside : Beside) → AnswersBeside m.sequence t.at (side_of (standing_at rank ps t.at t.key)) beside
      → down rank ps t beside ≡ Ok o → It
  downs is beside may e =
      let n = needed t.key ps t.at (λ at. Ok (down_by (standing_at rank ps t.at t.key) beside t)) o e in
      downs_by is n.0 (standing_at rank ps t.at t.key) beside may (same_ok _ _ n.1)

  -- ---- CHECK

  pub checks : t.phase ≡ Check → check ps t ≡ Ok o → It
  checks is e =
      let n = needed t.key ps t.at (λ at. Ok (check_by at t)) o e in
      let sees = marked_seen ps ss m t.key t.at n.0 in
      with_value {P = It} here.marked (elim [
        | true ↦ λ b. Way.check_marked is (sym sees ∙ b) (sym (same_ok _ _ n.1) ∙ ap (λ x. cond x (Goes (into Back (moved_to low t))) (Goes (into Back t))) b) keeps
        | false ↦ λ b. Way.check_unmarked is (sym sees ∙ b) (sym (same_ok _ _ n.1) ∙ ap (λ x. cond x (Goes (into Back (moved_to low t))) (Goes (into Back t))) b) keeps
      ])

  -- ---- BACK

  module _ (is : t.phase ≡ Back) (within : t.at < length ps) where
    to_prev : o ≡ Goes (moved_to here.prev t) → o ≡ Goes (moved_to ((sight ps ss m).prev t.at) t)
    to_prev e = e ∙ ap (λ p. Goes (moved_to p t)) (prev_seen ps ss m t.key t.at within)

    looks_back : (work : t.work ≡ Look) (ord : Ordering) → stands rank (sight ps ss m) me t t.at ≡ ord → back_look_by ord here t ≡ o → It
    looks_back work Less st e = Way.back_look_on is work st (sym e) keeps
    looks_back work Equal st e =
        with_value {P = It} here.marked (elim [
          | true ↦ λ b. Way.back_look_marked is work st (sym (marked_seen ps ss m t.key t.at within) ∙ b)
              (to_prev (sym e ∙ ap (λ x. cond x (Goes (moved_to here.prev t)) (Ends Yes)) b)) keeps
          | false ↦ λ b. Way.back_look_yes is work st (sym (marked_seen ps ss m t.key t.at within) ∙ b)
              (sym e ∙ ap (λ x. cond x (Goes (moved_to here.prev t)) (Ends Yes)) b) keeps
        ])
    looks_back work Greater st e = Way.back_look_above is work st (to_prev (sym e)) keeps

    after_back : (work : t.work ≡ After) (ord : Ordering) → stands rank (sight ps ss m) me t t.at ≡ ord → back_after_by ord here t ≡ o → It
    after_back work Less st e = Way.back_after_on is work (inl st) (sym e) keeps
    after_back work Equal st e = Way.back_after_on is work (inr st) (sym e) keeps
    after_back work Greater st e = Way.back_after_above is work st (to_prev (sym e)) keeps

    change_back : (work : Changes t.work) (ord : Ordering) → stands rank (sight ps ss m) me t t.at ≡ ord → back_change_by ord here t ≡ o → It
    change_back work Less st e = Way.back_change_seek is work st (sym e) keeps
    change_back work Equal st e = Way.back_change_above is work (inl st) (to_prev (sym e)) keeps
    change_back work Greater st e = Way.back_change_above is work (inr st) (to_prev (sym e)) keeps

  -- By work, with what the rule needed.
  backs_change : t.phase ≡ Back → Changes t.work → back_change rank ps t ≡ Ok o → It
  backs_change is work e =
      let n = needed t.key ps t.at (λ at. Ok (back_change_by (standing_at rank ps t.at t.key) at t)) o e in
      change_back is n.0 work (standing_at rank ps t.at t.key) (sym (stands_seen ps ss m rank t.key t.at n.0)) (same_ok _ _ n.1)

  pub backs : t.phase ≡ Back → (work : Work) → t.work ≡ work → back rank me ps m t work ≡ Ok o → It
  backs is Put w e = backs_change is (subst Changes (sym w) puts) e
  backs is Strike w e = backs_change is (subst Changes (sym w) strikes) e
  backs is Look w e =
      let n = needed t.key ps t.at (λ at. Ok (back_look_by (standing_at rank ps t.at t.key) at t)) o e in
      looks_back is n.0 w (standing_at rank ps t.at t.key) (sym (stands_seen ps ss m rank t.key t.at n.0)) (same_ok _ _ n.1)
  backs is FirstWork w e =
      Way.strays (subst (λ x. Strays x t.phase) (sym w) (subst (Strays FirstWork) (sym is) first_back)) (sym (same_ok _ _ e)) keeps
  backs is After w e =
      let n = needed t.key ps t.at (λ at. Ok (back_after_by (standing_at rank ps t.at t.key) at t)) o e in
      after_back is n.0 w (standing_at rank ps t.at t.key) (sym (stands_seen ps ss m rank t.key t.at n.0)) (same_ok _ _ n.1)

  -- ---- ON

  -- The key of a place other than Low and High.
  key_seen : (p : ℕ) → p < length ps → eqb p low ≡ false → eqb p high ≡ false → (sight ps ss m).spot p ≡ exact (place t.key ps p).key
  key_seen p h l r =
      let whole = field_read top (λ x. exact x.key) t.key ps p h in
      grind (arith, nat_tests)

  module _ (is : t.phase ≡ On) (within : t.at < length ps) where
    to_next : o ≡ Goes (moved_to here.next t) → o ≡ Goes (moved_to ((sight ps ss m).next t.at) t)
    to_next e = e ∙ ap (λ p. Goes (moved_to p t)) (next_seen ps ss m t.key t.at within)

    looks_on : (work : t.work ≡ Look) (ord : Ordering) → stands rank (sight ps ss m) me t t.at ≡ ord → on_look_by ord here t ≡ o → It
    looks_on work Less st e = Way.on_look_next is work st (to_next (sym e)) keeps
    looks_on work Equal st e =
        with_value {P = It} here.marked (elim [
          | true ↦ λ b. Way.on_look_marked is work st (sym (marked_seen ps ss m t.key t.at within) ∙ b) (sym e ∙ ap (λ x. cond x (Ends No) (Ends Yes)) b) keeps
          | false ↦ λ b. Way.on_look_yes is work st (sym (marked_seen ps ss m t.key t.at within) ∙ b) (sym e ∙ ap (λ x. cond x (Ends No) (Ends Yes)) b) keeps
        ])
    looks_on work Greater st e = Way.on_look_no is work st (sym e) keeps

    not_low : stands rank (sight ps ss m) me t t.at ≡ Greater → eqb t.at low ≡ false
    not_low st = go (eqb t.at low) refl
      where
        go : (b : Bool) → eqb t.at low ≡ b → b ≡ false
        go false e = refl
        go true e =
            let at_low : t.at ≡ low = eqb-true t.at low e in
            let no : Less ≡ Greater = sym (ap (λ p. compared rank ((sight ps ss m).spot p) t.key) at_low) ∙ st in
            cc

    after_on : (work : t.work ≡ After) (ord : Ordering) → stands rank (sight ps ss m) me t t.at ≡ ord → on_after_by ord here t ≡ o → It
    after_on work Less st e = Way.on_after_next is work (inl st) (to_next (sym e)) keeps
    after_on work Equal st e = Way.on_after_next is work (inr st) (to_next (sym e)) keeps
    after_on work Greater st e = go (eqb t.at high) refl here.marked refl e
      where
        go : (r : Bool) → eqb t.at high ≡ r → (b : Bool) → here.marked ≡ b → cond r (Ends Missing) (cond b (Goes (into Enter t)) (Ends (Found here.key))) ≡ o → It
        go true r b x e = Way.on_after_missing is work (eqb-true t.at high r) (sym e) keeps
        go false r true x e = Way.on_after_marked is work st (sym (marked_seen ps ss m t.key t.at within) ∙ x) (sym e) keeps
        go false r false x e =
            Way.on_after_found is work st (sym (marked_seen ps ss m t.key t.at within) ∙ x) here.key (key_seen t.at within (not_low st) r) (sym e) keeps

  ons_stray : t.phase ≡ On → (work : Work) → t.work ≡ work → Strays work On → start_over t ≡ o → It
  ons_stray is work w stray e =
      Way.strays (subst (λ x. Strays x t.phase) (sym w) (subst (Strays work) (sym is) stray)) (sym e) keeps

  pub ons : t.phase ≡ On → (work : Work) → t.work ≡ work → on rank me ps m t work ≡ Ok o → It
  ons is Put w e = ons_stray is Put w put_on (same_ok _ _ e)
  ons is Strike w e = ons_stray is Strike w strike_on (same_ok _ _ e)
  ons is Look w e =
      let n = needed t.key ps t.at (λ at. Ok (on_look_by (standing_at rank ps t.at t.key) at t)) o e in
      looks_on is n.0 w (standing_at rank ps t.at t.key) (sym (stands_seen ps ss m rank t.key t.at n.0)) (same_ok _ _ n.1)
  ons is FirstWork w e = ons_stray is FirstWork w first_on (same_ok _ _ e)
  ons is After w e =
      let n = needed t.key ps t.at (λ at. Ok (on_after_by (standing_at rank ps t.at t.key) at t)) o e in
      after_on is n.0 w (standing_at rank ps t.at t.key) (sym (stands_seen ps ss m rank t.key t.at n.0)) (same_ok _ _ n.1)

  -- ---- SEEK

  module _ (is : t.phase ≡ Seek) (within : t.at < length ps) where
    seeks_by : (ord : Ordering) → stands rank (sight ps ss m) me t ((sight ps ss m).next t.at) ≡ ord → seek_by ord here t ≡ o → It
    seeks_by Less st e = Way.seek_next is within st (sym e ∙ ap (λ p. Goes (moved_to p t)) (next_seen ps ss m t.key t.at within)) keeps
    seeks_by Equal st e = Way.seek_lock is within (inl st) (sym e) keeps
    seeks_by Greater st e = Way.seek_lock is within (inr st) (sym e) keeps

  pub seeks : t.phase ≡ Seek → seek rank ps t ≡ Ok o → It
  seeks is e =
      let n = needed t.key ps t.at (λ at. needing t.key ps at.next (λ next. Ok (seek_by (standing_at rank ps at.next t.key) at t))) o e in
      let l = needed t.key ps here.next (λ next. Ok (seek_by (standing_at rank ps here.next t.key) here t)) o n.1 in
      let sees = next_seen ps ss m t.key t.at n.0 in
      seeks_by is n.0 (standing_at rank ps here.next t.key)
      (sym (stands_seen ps ss m rank t.key here.next l.0 ∙ ap (λ p. compared rank ((sight ps ss m).spot p) t.key) sees)) (same_ok _ _ l.1)

  -- ---- FIRST

  pub firsts : t.phase ≡ First → first ps t ≡ Ok o → It
  firsts is e =
      let n = needed t.key ps low (λ at. Ok (first_by at t)) o e in
      let sees = next_seen ps ss m t.key low n.0 in
      let told : first_by (place t.key ps low) t ≡ o = same_ok _ _ n.1 in
      go (place t.key ps low).next sees (eqb (place t.key ps low).next high) refl told
    where
      go : (q : ℕ) → q ≡ (sight ps ss m).next low → (b : Bool) → eqb q high ≡ b → cond b (Ends Missing) (Goes (into FirstNext (moved_to q t))) ≡ o → It
      go q sees true b e = Way.first_missing is (sym sees ∙ eqb-true q high b) (sym e) keeps
      go q sees false b e = Way.first_on_next is (λ no. eqb-false q high b (sees ∙ no)) (sym e ∙ ap (λ p. Goes (into FirstNext (moved_to p t))) sees) keeps

  pub firsts_next : t.phase ≡ FirstNext → first_next ps t ≡ Ok o → It
  firsts_next is e =
      let n = needed t.key ps t.at (λ at. Ok (first_next_by at t)) o e in
      let sees = marked_seen ps ss m t.key t.at n.0 in
      let told : first_next_by here t ≡ o = same_ok _ _ n.1 in
      with_value {P = It} here.marked (elim [
        | true ↦ λ b. Way.first_marked is (sym sees ∙ b) (sym told ∙ ap (λ x. cond x (Goes (into First t)) (Ends (Found here.key))) b) keeps
        | false ↦ λ b. Way.first_found is (sym sees ∙ b) here.key (λ two. key_seen t.at n.0 (grind (arith, nat_tests)) (grind (arith, nat_tests)))
            (sym told ∙ ap (λ x. cond x (Goes (into First t)) (Ends (Found here.key))) b) keeps
      ])
