-- The counts of places by status, place by place. Assumes nothing.
use Rattle.std.proofs.Common.{◌≡◌, ℕ, ◌+◌, ◌-◌, ◌<◌, ◌≤◌, Bool, true, false, cond, List, length, get_or, drop, take, sym, subst, arith}
use Rattle.std.proofs.lemmas.List.{at_drop_more, at_drop_all, take_all, length-drop}
use Rattle.records.specs.declared.record.Place.{Place}
use Rattle.records.specs.declared.record.Status.{Status}
use Rattle.rules.specs.Putting.{is_free}
use Rattle.engine.specs.declared.tally.Counts.{Counts}
use Rattle.engine.specs.Counting.{is_in_hand, is_chained, is_retired, count_of, inner}

at_most_one : (b : Bool) → cond b 1 0 ≤ 1
at_most_one true = omega arith
at_most_one false = omega arith

module _ {K : Type 0} (ps : List (Place K)) where
  -- Of the places before i so many have such a status, and the places from i on make up the rest.
  pub record Counted (is : Status → Bool) (i n : ℕ) : Type 0 where
    pub ahead : n + count_of is (drop i ps) ≡ count_of is ps
    pub few : n ≤ i

  none_counted : (is : Status → Bool) → Counted is 0 0
  none_counted is = record { ahead = omega arith; few = omega arith }

  pub all_counted : (is : Status → Bool) (i n : ℕ) → Counted is i n → length ps ≤ i → n ≡ count_of is ps
  all_counted is i n counted over =
      let ahead = counted.ahead in
      let none : count_of is (drop i ps) ≡ 0 = at_drop_all (count_of is) ps i over in
      omega arith

  one_counted : (is : Status → Bool) (i n : ℕ) → Counted is i n → i < length ps → (x : Place K) → Counted is (i + 1) (n + cond (is (get_or ps i x).status) 1 0)
  one_counted is i n counted within x =
      let ahead = counted.ahead in
      let few = counted.few in
      let here : count_of is (drop i ps) ≡ cond (is (get_or ps i x).status) 1 0 + count_of is (drop (i + 1) ps) = at_drop_more (count_of is) ps i x within in
      let one = at_most_one (is (get_or ps i x).status) in
      record { ahead = omega arith; few = omega arith }

  -- The places before i are counted, by each status.
  pub record Tallied (i : ℕ) (counts : Counts) : Type 0 where
    pub free : Counted is_free i counts.free
    pub in_hand : Counted is_in_hand i counts.in_hand
    pub chained : Counted is_chained i counts.chained
    pub retired : Counted is_retired i counts.retired

  pub none_tallied : Tallied 0 (record { free = 0; in_hand = 0; chained = 0; retired = 0 })
  none_tallied = record { free = none_counted is_free; in_hand = none_counted is_in_hand; chained = none_counted is_chained; retired = none_counted is_retired }

  pub one_tallied : (i : ℕ) (counts more : Counts) → Tallied i counts → i < length ps → (x : Place K) → more.free ≡ counts.free + cond (is_free (get_or ps i x).status) 1 0
      → more.in_hand ≡ counts.in_hand + cond (is_in_hand (get_or ps i x).status) 1 0 → more.chained ≡ counts.chained + cond (is_chained (get_or ps i x).status) 1 0
      → more.retired ≡ counts.retired + cond (is_retired (get_or ps i x).status) 1 0 → Tallied (i + 1) more
  one_tallied i counts more tallied within x f h c r = record {
    free = subst (Counted is_free (i + 1)) (sym f) (one_counted is_free i counts.free tallied.free within x);
    in_hand = subst (Counted is_in_hand (i + 1)) (sym h) (one_counted is_in_hand i counts.in_hand tallied.in_hand within x);
    chained = subst (Counted is_chained (i + 1)) (sym c) (one_counted is_chained i counts.chained tallied.chained within x);
    retired = subst (Counted is_retired (i + 1)) (sym r) (one_counted is_retired i counts.retired tallied.retired within x);
  }

  -- The places that a pattern finds behind Low and High are those that count.
  pub found_inner : take (length ps - 2) (drop 2 ps) ≡ inner ps
  found_inner = let rest = length-drop 2 ps in take_all (length ps - 2) (drop 2 ps) (omega arith)
