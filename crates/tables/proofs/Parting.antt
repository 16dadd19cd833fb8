-- A table that keeps the rule keeps it when a place is taken out. Assumes nothing.
use Rattle.std.proofs.Common.{◌≡◌, ℕ, ◌<◌, ◌≤◌, true, false, ◌||◌, List, [], ◌∷◌, ◌++◌, length, sym, refl, ap, ◌∙◌, subst, inl, inr, append_assoc, arith}
use Rattle.std.proofs.lemmas.Bool.{cases_eq}
use Rattle.std.proofs.lemmas.Bool.Decides.{nat_tests}
use Rattle.guides.specs.Meaning.{has, distinct, neighbours, lawful, without}
use Rattle.guides.proofs.Sequences.{detached_is_lawful, without_at, has_append, distinct_at_before, distinct_at_after}
use Rattle.tables.specs.declared.entry.Entry.{Entry}
use Rattle.tables.specs.Changes.{parting, parted, unlinked, taken_out}
use Rattle.tables.specs.Entries.{blank, with_after, with_before}
use Rattle.tables.specs.Revisions.{at}
use Rattle.tables.specs.Shapes.{Shape, order}
use Rattle.tables.proofs.Hanging.{differs}
use Rattle.tables.proofs.Holding.{Holds, meant, parts_of, below_of, later}
use Rattle.tables.proofs.Spots.{Shows, has_order, frame_shows}
use Rattle.tables.proofs.Orders.{cut_once}
use Rattle.tables.proofs.Threads.{Thread, Alike, cut_at, thread_removed, neighbours_stand, neighbours_know, has_right}
use Rattle.tables.proofs.Threads.{some_after, some_before, frame_back}
use Rattle.tables.proofs.Unlinking.{Unlinked}
use Rattle.tables.proofs.Writes.{Within, touched, at_revised, length_revised, touched_away, touch_hit, field_kept}
use Rattle.tables.proofs.Yielding.{unlink_unlinks, length_unlinked}

-- y stands nowhere once p is gone: it is p, or stood nowhere before.
absent_before : (p y : ℕ) (front back : List ℕ) → has y (front ++ back) ≡ false → (y ≡ p → ⊥)
    → has y (front ++ p ∷ back) ≡ false
absent_before p y front back h other =
    let one = has_append y front back in
    let two = has_append y front (p ∷ back) in
    grind (arith, nat_tests)

-- The table holds a tree without the place.
pub record TakenOut (d : ℕ → Entry) (n p : ℕ) (t : Shape) : Type 0 where
  pub tree : Shape
  pub holds : Holds d n tree
  pub shrinks : 0 ∷ order tree ≡ without p (0 ∷ order t)

module _ (es : List Entry) (n : ℕ) (t : Shape) (h : Holds (at es) n t) (sized : length es ≡ 1024) (room : n ≤ 1024)
    (p : ℕ) (inner : 1 < p) (hangs : has p (0 ∷ order t) ≡ true) where
  abbrev f : ℕ → Entry
  f = at es

  abbrev es1 : List Entry
  es1 = unlinked p es

  abbrev g : ℕ → Entry
  g = at es1

  un : Unlinked f g p t
  un = unlink_unlinks es n t h sized room p (λ i. omega arith) (sym (has_order p t) ∙ later p (order t) inner hangs)

  abbrev u : Shape
  u = un.tree

  before_p : (a : ℕ) × (neighbours a p (0 ∷ order t) ≡ true)
  before_p = some_before p 0 (0 ∷ order t) hangs (parts_of f n t h).first (λ i. omega arith)

  after_p : (b : ℕ) × (neighbours p b (0 ∷ order t) ≡ true)
  after_p = some_after p 1 (0 ∷ order t) hangs (parts_of f n t h).last (λ i. omega arith)

  abbrev a : ℕ
  a = before_p.0

  abbrev b : ℕ
  b = after_p.0

  once : distinct (un.front ++ p ∷ un.back) ≡ true
  once = ap distinct (sym un.was) ∙ (parts_of f n t h).once

  abbrev fr : List ℕ
  fr = (cut_at a p (0 ∷ order t) before_p.1).front

  abbrev bk : List ℕ
  bk = (cut_at p b (0 ∷ order t) after_p.1).back

  front_is : un.front ≡ fr ++ a ∷ []
  front_is =
      let cut = cut_at a p (0 ∷ order t) before_p.1 in
      (cut_once p un.front un.back (fr ++ a ∷ []) cut.back once
      (sym un.was ∙ cut.is ∙ sym (append_assoc fr (a ∷ []) (p ∷ cut.back)))).0

  back_is : un.back ≡ b ∷ bk
  back_is =
      let cut = cut_at p b (0 ∷ order t) after_p.1 in
      (cut_once p un.front un.back cut.front (b ∷ bk) once (sym un.was ∙ cut.is)).1

  was : 0 ∷ order t ≡ fr ++ a ∷ p ∷ b ∷ bk
  was =
      un.was
      ∙ ap (λ xs. xs ++ p ∷ un.back) front_is
      ∙ ap (λ ys. (fr ++ a ∷ []) ++ p ∷ ys) back_is
      ∙ append_assoc fr (a ∷ []) (p ∷ b ∷ bk)

  is : 0 ∷ order u ≡ fr ++ a ∷ b ∷ bk
  is =
      un.is
      ∙ ap (λ xs. xs ++ un.back) front_is
      ∙ ap (λ ys. (fr ++ a ∷ []) ++ ys) back_is
      ∙ append_assoc fr (a ∷ []) (b ∷ bk)

  out_shrinks : 0 ∷ order u ≡ without p (0 ∷ order t)
  out_shrinks =
      un.is
      ∙ sym (without_at p un.front un.back (distinct_at_before p un.front un.back once))
      ∙ ap (without p) (sym un.was)

  a_stands : has a (0 ∷ order t) ≡ true
  a_stands = (neighbours_stand a p (0 ∷ order t) before_p.1).0

  b_stands : has b (0 ∷ order t) ≡ true
  b_stands = (neighbours_stand p b (0 ∷ order t) after_p.1).1

  a_is : (g p).before ≡ a
  a_is = un.before_same p ∙ (neighbours_know f a p (0 ∷ order t) h.thread before_p.1).1

  b_is : (g p).after ≡ b
  b_is = un.after_same p ∙ (neighbours_know f p b (0 ∷ order t) h.thread after_p.1).0

  abbrev writes : List (ℕ × (Entry → Entry))
  writes = (a, with_after b) ∷ (b, with_before a) ∷ (p, λ _. blank) ∷ []

  abbrev d : ℕ → Entry
  d = at (taken_out p es)

  reads : (y : ℕ) → d y ≡ touched writes y (g y)
  unfolding taken_out parted
  reads y =
      let x0 = below_of f n t h a a_stands in
      let x1 = below_of f n t h b b_stands in
      let x2 = below_of f n t h p hangs in
      let within : Within 1024 (parting p (g p)) = (omega (arith, a_is), (omega (arith, b_is), (omega arith, tt))) in
      at_revised (parting p (g p)) es1 1024 (length_unlinked p es ∙ sized) within y
      ∙ ap (λ i. touched ((i, with_after (g p).after) ∷ ((g p).after, with_before i) ∷ (p, λ _. blank) ∷ []) y (g y)) a_is
      ∙ ap (λ i. touched ((a, with_after i) ∷ (i, with_before a) ∷ (p, λ _. blank) ∷ []) y (g y)) b_is

  -- The thread's two writes, with the place still there.
  abbrev m : ℕ → Entry
  m y = touched ((a, with_after b) ∷ (b, with_before a) ∷ []) y (g y)

  p_gone : has p (0 ∷ order u) ≡ false
  p_gone =
      ap (has p) un.is
      ∙ has_append p un.front un.back
      ∙ ap (λ c. c || has p un.back) (distinct_at_before p un.front un.back once)
      ∙ distinct_at_after p un.front un.back once

  not_p : (y : ℕ) → has y (0 ∷ order u) ≡ true → y ≡ p → ⊥
  not_p y e i = differs p y (0 ∷ order u) p_gone e (sym i)

  same_m : (y : ℕ) → has y (0 ∷ order u) ≡ true → d y ≡ m y
  same_m y e = reads y ∙ touched_away ((p, λ _. blank) ∷ []) y (m y) (not_p y e, tt)

  shown : Shows d 0 u
  shown =
      frame_shows g d 0 u
      (λ y e.
      let other = not_p y (has_right y (0 ∷ []) (order u) (has_order y u ∙ e)) in (
        ap (λ (x : Entry). x.children.left) (reads y)
            ∙ field_kept (λ x. x.children.left) writes y (g y) (inr (λ x. refl), (inr (λ x. refl), (inl other, tt))),
        ap (λ (x : Entry). x.children.right) (reads y)
            ∙ field_kept (λ x. x.children.right) writes y (g y) (inr (λ x. refl), (inr (λ x. refl), (inl other, tt))),
        ap (λ (x : Entry). x.parent) (reads y)
            ∙ field_kept (λ x. x.parent) writes y (g y) (inr (λ x. refl), (inr (λ x. refl), (inl other, tt))),
      ))
      un.shown

  m_after : (y : ℕ) → (y ≡ a → ⊥) → (m y).after ≡ (f y).after
  m_after y other =
      field_kept (λ x. x.after) ((a, with_after b) ∷ (b, with_before a) ∷ []) y (g y) (inl other, (inr (λ x. refl), tt))
      ∙ un.after_same y

  m_before : (y : ℕ) → (y ≡ b → ⊥) → (m y).before ≡ (f y).before
  m_before y other =
      field_kept (λ x. x.before) ((a, with_after b) ∷ (b, with_before a) ∷ []) y (g y) (inr (λ x. refl), (inl other, tt))
      ∙ un.before_same y

  threads : Thread d (0 ∷ order u)
  threads =
      let alike : Alike f m (fr ++ a ∷ p ∷ b ∷ bk) a b =
      record { after = λ y _ other. m_after y other; before = λ y _ other. m_before y other } in
      let with_m : Thread m (0 ∷ order u) =
      subst (λ (xs : List ℕ). Thread m xs) (sym is)
      (thread_removed f m fr a p b bk (ap distinct (sym was) ∙ (parts_of f n t h).once)
      (subst (λ (xs : List ℕ). Thread f xs) was h.thread) alike
      (ap (λ (x : Entry). x.after) (touch_hit (a, with_after b) ((b, with_before a) ∷ []) a (g a) refl)
      ∙ field_kept (λ x. x.after) ((b, with_before a) ∷ []) a (with_after b (g a)) (inr (λ x. refl), tt))
      (ap (λ (x : Entry). x.before) (touch_hit (b, with_before a) [] b _ refl))) in
      frame_back m d 0 (order u)
      (λ y e. ap (λ (x : Entry). x.after) (same_m y e))
      (λ y e. ap (λ (x : Entry). x.before) (same_m y (has_right y (0 ∷ []) (order u) e)))
      with_m

  high_a : 1 ≡ a → ⊥
  high_a i =
      let known = (neighbours_know f a p (0 ∷ order t) h.thread before_p.1).0 in
      let none : p ≡ 0 = sym known ∙ ap (λ z. (f z).after) (sym i) ∙ h.last_is in
      omega arith

  out_holds : Holds d n u
  out_holds =
      record {
        top_is = un.top_same ∙ h.top_is;
        law =
            ap (λ xs. lawful (record { sequence = xs; places = n })) out_shrinks
            ∙ detached_is_lawful p (meant n t) h.law inner;
        shown = shown;
        thread = threads;
        last_is =
            ap (λ (x : Entry). x.after)
            (reads 1 ∙ touched_away ((p, λ _. blank) ∷ []) 1 (m 1) ((λ i. omega arith), tt))
            ∙ m_after 1 high_a ∙ h.last_is;
        rest = λ y e.
            elim (cases_eq y p) [
              | inl i ↦
                  let gone : d y ≡ blank = ap d i ∙ reads p ∙ touch_hit (p, λ _. blank) [] p (m p) refl in
                  (ap (λ (x : Entry). x.parent) gone, ap (λ (x : Entry). x.after) gone)
              | inr i ↦
                  let out : has y (0 ∷ order t) ≡ false =
                  ap (has y) un.was ∙ absent_before p y un.front un.back (ap (has y) (sym un.is) ∙ e) i in
                  let same : d y ≡ f y =
                  reads y
                  ∙ touched_away writes y (g y)
                  (differs y a (0 ∷ order t) out a_stands, (differs y b (0 ∷ order t) out b_stands, (i, tt)))
                  ∙ un.outside y out in
                  let idle = h.rest y out in
                  (ap (λ (x : Entry). x.parent) same ∙ idle.0, ap (λ (x : Entry). x.after) same ∙ idle.1)
            ];
      }

  pub takes_out : TakenOut (at (taken_out p es)) n p t
  takes_out = record { tree = u; holds = out_holds; shrinks = out_shrinks }

pub length_parted : (p : ℕ) (es : List Entry) → length (parted p es) ≡ length es
unfolding parted
length_parted p es = length_revised (parting p (at es p)) es

pub length_taken_out : (p : ℕ) (es : List Entry) → length (taken_out p es) ≡ length es
unfolding taken_out
length_taken_out p es = length_parted p (unlinked p es) ∙ length_unlinked p es
