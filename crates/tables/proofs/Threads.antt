-- The thread through the sequence: a place put in, a place taken out. Assumes that no place stands twice.
use Rattle.std.proofs.Common.{◌≡◌, ℕ, true, ◌&&◌, eqb, List, [], ◌∷◌, ◌++◌, sym, refl, ap, ◌∙◌, subst, inl, inr, arith}
use Rattle.std.proofs.lemmas.Bool.{cases_eq, cases_Bool, and_parts, and_from, eqb-true, eq-eqb, or_left, or_right, or_cases, both_ways}
use Rattle.std.proofs.lemmas.Bool.Decides.{nat_tests}
use Rattle.guides.specs.Meaning.{has, distinct, neighbours, begins_with, ends_with}
use Rattle.guides.proofs.Sequences.{has_append, distinct_back, distinct_apart, distinct_at_before, distinct_at_after}
use Rattle.tables.specs.declared.entry.Entry.{Entry}
use Rattle.tables.specs.Shapes.{threaded}

-- ---- where neighbours stand

pub record Cut (p q : ℕ) (xs : List ℕ) : Type 0 where
  pub front : List ℕ
  pub back : List ℕ
  pub is : xs ≡ front ++ p ∷ q ∷ back

pub cut_at : (p q : ℕ) (xs : List ℕ) → neighbours p q xs ≡ true → Cut p q xs
cut_at p q [] h = record { front = []; back = []; is = grind (arith, nat_tests) }
cut_at p q (x ∷ []) h = record { front = []; back = []; is = grind (arith, nat_tests) }
cut_at p q (x ∷ (y ∷ xs)) h =
    elim (cases_Bool (eqb x p && eqb y q)) [
      | inl e ↦
          let both = and_parts (eqb x p) (eqb y q) e in
          record {
            front = [];
            back = xs;
            is = ap (λ z. z ∷ y ∷ xs) (eqb-true x p both.0) ∙ ap (λ z. p ∷ z ∷ xs) (eqb-true y q both.1);
          }
      | inr e ↦
          let rest = cut_at p q (y ∷ xs) (grind (arith, nat_tests)) in
          record { front = x ∷ rest.front; back = rest.back; is = ap (λ zs. x ∷ zs) rest.is }
    ]

-- ---- the thread

abbrev pub Thread : (ℕ → Entry) → List ℕ → Type 0
Thread f [] = Unit {0}
Thread f (x ∷ []) = Unit {0}
Thread f (x ∷ (y ∷ xs)) = ((f x).after ≡ y) × ((f y).before ≡ x) × Thread f (y ∷ xs)

pub thread_parts : (f : ℕ → Entry) (xs : List ℕ) → threaded f xs ≡ true → Thread f xs
thread_parts f [] h = tt
thread_parts f (x ∷ []) h = tt
thread_parts f (x ∷ (y ∷ xs)) h =
    let one = and_parts (eqb (f x).after y) (eqb (f y).before x && threaded f (y ∷ xs)) h in
    let two = and_parts (eqb (f y).before x) (threaded f (y ∷ xs)) one.1 in
    (eqb-true _ _ one.0, eqb-true _ _ two.0, thread_parts f (y ∷ xs) two.1)

pub thread_end : (f : ℕ → Entry) (z : ℕ) (xs : List ℕ) → threaded f xs ≡ true → ends_with z xs ≡ true → (f z).after ≡ 0
thread_end f z [] h e = grind (arith, nat_tests)
thread_end f z (x ∷ []) h e = grind (arith, nat_tests)
thread_end f z (x ∷ (y ∷ xs)) h e =
    let one = and_parts (eqb (f x).after y) (eqb (f y).before x && threaded f (y ∷ xs)) h in
    let two = and_parts (eqb (f y).before x) (threaded f (y ∷ xs)) one.1 in
    thread_end f z (y ∷ xs) two.1 e

pub threaded_from_parts : (f : ℕ → Entry) (z : ℕ) (xs : List ℕ) → Thread f xs → ends_with z xs ≡ true → (f z).after ≡ 0
    → threaded f xs ≡ true
threaded_from_parts f z [] t e end = refl
threaded_from_parts f z (x ∷ []) t e end = eq-eqb _ _ (ap (λ i. (f i).after) (eqb-true x z e) ∙ end)
threaded_from_parts f z (x ∷ (y ∷ xs)) t e end =
    and_from _ _ (eq-eqb _ _ t.0)
    (and_from _ _ (eq-eqb _ _ t.1) (threaded_from_parts f z (y ∷ xs) t.2 e end))

pub thread_split : (f : ℕ → Entry) (xs : List ℕ) (a : ℕ) (ys : List ℕ) → Thread f (xs ++ a ∷ ys)
    → (Thread f (xs ++ a ∷ [])) × (Thread f (a ∷ ys))
thread_split f [] a ys t = (tt, t)
thread_split f (x ∷ []) a ys t = ((t.0, t.1, tt), t.2)
thread_split f (x ∷ (y ∷ xs)) a ys t =
    let rest = thread_split f (y ∷ xs) a ys t.2 in
    ((t.0, t.1, rest.0), rest.1)

pub thread_join : (f : ℕ → Entry) (xs : List ℕ) (a : ℕ) (ys : List ℕ) → Thread f (xs ++ a ∷ []) → Thread f (a ∷ ys)
    → Thread f (xs ++ a ∷ ys)
thread_join f [] a ys s t = t
thread_join f (x ∷ []) a ys s t = (s.0, s.1, t)
thread_join f (x ∷ (y ∷ xs)) a ys s t = (s.0, s.1, thread_join f (y ∷ xs) a ys s.2 t)

-- Neighbours know each other.
pub neighbours_know : (f : ℕ → Entry) (p q : ℕ) (xs : List ℕ) → Thread f xs → neighbours p q xs ≡ true
    → ((f p).after ≡ q) × ((f q).before ≡ p)
neighbours_know f p q xs t h =
    let at = cut_at p q xs h in
    let here = (thread_split f at.front p (q ∷ at.back) (subst (λ (ys : List ℕ). Thread f ys) at.is t)).1 in
    (here.0, here.1)

frame_front : (f h : ℕ → Entry) (xs : List ℕ) (a : ℕ)
    → ((y : ℕ) → has y xs ≡ true → (h y).after ≡ (f y).after)
    → ((y : ℕ) → has y (xs ++ a ∷ []) ≡ true → (h y).before ≡ (f y).before)
    → Thread f (xs ++ a ∷ []) → Thread h (xs ++ a ∷ [])
frame_front f h [] a after before t = tt
frame_front f h (x ∷ []) a after before t = (
  after x (grind (arith, nat_tests)) ∙ t.0,
  before a (grind (arith, nat_tests)) ∙ t.1,
  tt,
)
frame_front f h (x ∷ (y ∷ xs)) a after before t = (
  after x (grind (arith, nat_tests)) ∙ t.0,
  before y (grind (arith, nat_tests)) ∙ t.1,
  frame_front f h (y ∷ xs) a (λ z e. after z (or_right (eqb x z) (has z (y ∷ xs)) e))
      (λ z e. before z (or_right (eqb x z) (has z (y ∷ xs ++ a ∷ [])) e)) t.2,
)

pub frame_back : (f h : ℕ → Entry) (a : ℕ) (ys : List ℕ)
    → ((y : ℕ) → has y (a ∷ ys) ≡ true → (h y).after ≡ (f y).after)
    → ((y : ℕ) → has y ys ≡ true → (h y).before ≡ (f y).before)
    → Thread f (a ∷ ys) → Thread h (a ∷ ys)
frame_back f h a [] after before t = tt
frame_back f h a (y ∷ ys) after before t = (
  after a (grind (arith, nat_tests)) ∙ t.0,
  before y (grind (arith, nat_tests)) ∙ t.1,
  frame_back f h y ys (λ z e. after z (or_right (eqb a z) (has z (y ∷ ys)) e))
      (λ z e. before z (or_right (eqb y z) (has z ys) e)) t.2,
)

pub has_left : (y : ℕ) (xs ys : List ℕ) → has y xs ≡ true → has y (xs ++ ys) ≡ true
has_left y xs ys e = has_append y xs ys ∙ or_left (has y xs) (has y ys) e

pub has_right : (y : ℕ) (xs ys : List ℕ) → has y ys ≡ true → has y (xs ++ ys) ≡ true
has_right y xs ys e = has_append y xs ys ∙ or_right (has y xs) (has y ys) e

pub has_first : (p : ℕ) (xs : List ℕ) → has p (p ∷ xs) ≡ true
has_first p xs = or_left (eqb p p) (has p xs) (eq-eqb p p refl)

pub only_first : (p y : ℕ) → has y (p ∷ []) ≡ true → p ≡ y
only_first p y e = grind (arith, nat_tests)

pub distinct_tail : (p : ℕ) (xs : List ℕ) → distinct (p ∷ xs) ≡ true → distinct xs ≡ true
distinct_tail p xs h = grind (arith, nat_tests)

front_part : (y : ℕ) (front : List ℕ) (p : ℕ) (rest : List ℕ) → has y (front ++ p ∷ []) ≡ true
    → has y (front ++ p ∷ rest) ≡ true
front_part y front p rest e =
    elim (or_cases (has y front) (has y (p ∷ [])) (sym (has_append y front (p ∷ [])) ∙ e)) [
      | inl here ↦ has_left y front (p ∷ rest) here
      | inr here ↦
          has_right y front (p ∷ rest) (or_left (eqb p y) (has y rest) (eq-eqb p y (only_first p y here)))
    ]

-- All that two tables tell of neighbours is the same, but after p and before q.
pub record Alike (f h : ℕ → Entry) (xs : List ℕ) (p q : ℕ) : Type 0 where
  pub after : (y : ℕ) → has y xs ≡ true → (y ≡ p → ⊥) → (h y).after ≡ (f y).after
  pub before : (y : ℕ) → has y xs ≡ true → (y ≡ q → ⊥) → (h y).before ≡ (f y).before

-- The thread from p on, and up to q, is as it was.
pub thread_ends : (f h : ℕ → Entry) (front : List ℕ) (p : ℕ) (mid : List ℕ) (q : ℕ) (back : List ℕ)
    → distinct (front ++ p ∷ (mid ++ q ∷ back)) ≡ true
    → Thread f (front ++ p ∷ (mid ++ q ∷ back)) → Alike f h (front ++ p ∷ (mid ++ q ∷ back)) p q
    → (Thread h (front ++ p ∷ [])) × (Thread h (q ∷ back))
thread_ends f h front p mid q back once t alike =
    let rest = mid ++ q ∷ back in
    let split = thread_split f front p rest t in
    let tail = distinct_back front (p ∷ rest) once in
    let p_rest = distinct_at_after p front rest once in
    let q_rest : has q rest ≡ true = has_right q mid (q ∷ back) (has_first q back) in
    let q_back = distinct_at_after q mid back (distinct_tail p rest tail) in
    let in_rest : (y : ℕ) → has y (q ∷ back) ≡ true → has y rest ≡ true = λ y e. has_right y mid (q ∷ back) e in
    let in_all : (y : ℕ) → has y rest ≡ true → has y (front ++ p ∷ rest) ≡ true =
    λ y e. has_right y front (p ∷ rest) (or_right (eqb p y) (has y rest) e) in
    let not_q : (y : ℕ) → has y (front ++ p ∷ []) ≡ true → y ≡ q → ⊥ =
    λ y e i.
    elim (or_cases (has y front) (has y (p ∷ [])) (sym (has_append y front (p ∷ [])) ∙ e)) [
      | inl here ↦
          both_ways _ (distinct_apart y front (p ∷ rest) once here)
          (or_right (eqb p y) (has y rest) (ap (λ z. has z rest) i ∙ q_rest))
      | inr here ↦
          let same : p ≡ y = only_first p y here in
          both_ways _ p_rest (ap (λ z. has z rest) (same ∙ i) ∙ q_rest)
    ] in (
      frame_front f h front p
          (λ y e.
          alike.after y (has_left y front (p ∷ rest) e)
          (λ i. both_ways _ (distinct_at_before p front rest once) (ap (λ z. has z front) (sym i) ∙ e)))
          (λ y e. alike.before y (front_part y front p rest e) (not_q y e))
          split.0,
      frame_back f h q back
          (λ y e.
          alike.after y (in_all y (in_rest y e))
          (λ i. both_ways _ p_rest (ap (λ z. has z rest) (sym i) ∙ in_rest y e)))
          (λ y e.
          alike.before y (in_all y (in_rest y (or_right (eqb q y) (has y back) e)))
          (λ i. both_ways _ q_back (ap (λ z. has z back) (sym i) ∙ e)))
          (thread_split f (p ∷ mid) q back split.1).1,
    )

-- A place x is put between p and q.
pub thread_inserted : (f h : ℕ → Entry) (front : List ℕ) (p x q : ℕ) (back : List ℕ)
    → distinct (front ++ p ∷ q ∷ back) ≡ true
    → Thread f (front ++ p ∷ q ∷ back) → Alike f h (front ++ p ∷ q ∷ back) p q
    → (h p).after ≡ x → (h x).before ≡ p → (h x).after ≡ q → (h q).before ≡ x
    → Thread h (front ++ p ∷ x ∷ q ∷ back)
thread_inserted f h front p x q back once t alike a b c d =
    let ends = thread_ends f h front p [] q back once t alike in
    thread_join h front p (x ∷ q ∷ back) ends.0 (a, b, (c, d, ends.1))

-- A place x is taken out between p and q.
pub thread_removed : (f h : ℕ → Entry) (front : List ℕ) (p x q : ℕ) (back : List ℕ)
    → distinct (front ++ p ∷ x ∷ q ∷ back) ≡ true
    → Thread f (front ++ p ∷ x ∷ q ∷ back) → Alike f h (front ++ p ∷ x ∷ q ∷ back) p q
    → (h p).after ≡ q → (h q).before ≡ p
    → Thread h (front ++ p ∷ q ∷ back)
thread_removed f h front p x q back once t alike a b =
    let ends = thread_ends f h front p (x ∷ []) q back once t alike in
    thread_join h front p (q ∷ back) ends.0 (a, b, ends.1)

-- Every place but the last has one after it.
pub some_after : (p z : ℕ) (xs : List ℕ) → has p xs ≡ true → ends_with z xs ≡ true → (p ≡ z → ⊥)
    → (q : ℕ) × (neighbours p q xs ≡ true)
some_after p z [] h e other = (0, grind (arith, nat_tests))
some_after p z (x ∷ []) h e other = (0, grind (arith, nat_tests))
some_after p z (x ∷ (y ∷ xs)) h e other =
    elim (cases_eq x p) [
      | inl i ↦ (y, grind (arith, nat_tests))
      | inr i ↦
          let rest = some_after p z (y ∷ xs) (grind (arith, nat_tests)) e other in
          let found = rest.1 in
          (rest.0, grind (arith, nat_tests))
    ]

-- Every place but the first has one before it.
pub some_before : (p z : ℕ) (xs : List ℕ) → has p xs ≡ true → begins_with z xs ≡ true → (p ≡ z → ⊥)
    → (q : ℕ) × (neighbours q p xs ≡ true)
some_before p z [] h e other = (0, grind (arith, nat_tests))
some_before p z (x ∷ []) h e other = (0, grind (arith, nat_tests))
some_before p z (x ∷ (y ∷ xs)) h e other =
    elim (cases_eq y p) [
      | inl i ↦ (x, grind (arith, nat_tests))
      | inr i ↦
          let rest = some_before p y (y ∷ xs) (grind (arith, nat_tests)) (grind (arith, nat_tests)) (λ j. i (sym j)) in
          let found = rest.1 in
          (rest.0, grind (arith, nat_tests))
    ]

-- Neighbours stand in the sequence.
pub neighbours_stand : (p q : ℕ) (xs : List ℕ) → neighbours p q xs ≡ true → (has p xs ≡ true) × (has q xs ≡ true)
neighbours_stand p q xs h =
    let at = cut_at p q xs h in
    let one = has_right p at.front (p ∷ q ∷ at.back) (has_first p (q ∷ at.back)) in
    let two =
    has_right q at.front (p ∷ q ∷ at.back) (or_right (eqb p q) (has q (q ∷ at.back)) (has_first q at.back)) in
    (ap (has p) at.is ∙ one, ap (has q) at.is ∙ two)

pub neighbours_cut : (p q : ℕ) (front back : List ℕ) → neighbours p q (front ++ p ∷ q ∷ back) ≡ true
neighbours_cut p q [] back = grind (arith, nat_tests)
neighbours_cut p q (x ∷ front) back = let rest = neighbours_cut p q front back in or_right _ _ rest
