-- A table in which only High stands keeps the rule. Assumes nothing.
use Rattle.std.proofs.Common.{◌≡◌, ℕ, zero, suc, ◌≤◌, false, [], ◌∷◌, length, get_or, replicate, refl, ap, ◌∙◌, arith, length-set}
use lib.ListN.{length-replicate}
use Rattle.std.proofs.lemmas.Bool.Decides.{nat_tests}
use Rattle.guides.specs.Meaning.{has}
use Rattle.guides.proofs.Sequences.{cleared_is_lawful}
use Rattle.tables.specs.declared.entry.Entry.{Entry}
use Rattle.tables.specs.Entries.{blank, with_after}
use Rattle.tables.specs.Revisions.{at, opened}
use Rattle.tables.specs.Shapes.{bare, node}
use Rattle.tables.proofs.Holding.{Holds}
use Rattle.tables.proofs.Writes.{touched, at_revised, touch_hit, touch_skip}

blank_everywhere : (m y : ℕ) → get_or (replicate m blank) y blank ≡ blank
blank_everywhere zero y = refl
blank_everywhere (suc m) zero = refl
blank_everywhere (suc m) (suc y) = blank_everywhere m y

pub length_opened : length opened ≡ 1024
unfolding opened
length_opened =
    length-set (replicate 1024 blank) 0 (with_after 1 (at (replicate 1024 blank) 0)) ∙ length-replicate 1024 blank

reads : (y : ℕ) → at opened y ≡ touched ((0, with_after 1) ∷ []) y blank
unfolding opened
reads y =
    at_revised ((0, with_after 1) ∷ []) (replicate 1024 blank) 1024 (length-replicate 1024 blank) (omega arith, tt) y
    ∙ ap (touched ((0, with_after 1) ∷ []) y) (blank_everywhere 1024 y)

low_is : at opened 0 ≡ with_after 1 blank
low_is = reads 0 ∙ touch_hit (0, with_after 1) [] 0 blank refl

else_is : (y : ℕ) → (y ≡ 0 → ⊥) → at opened y ≡ blank
else_is y other = reads y ∙ touch_skip (0, with_after 1) [] y blank other

other_place : (y : ℕ) → has y (0 ∷ 1 ∷ []) ≡ false → y ≡ 0 → ⊥
other_place y h i = grind (arith, nat_tests)

pub opened_holds : (n : ℕ) → 2 ≤ n → Holds (at opened) n (node bare 1 bare)
opened_holds n two =
    let one = else_is 1 (λ i. omega arith) in
    record {
      top_is = refl;
      law = cleared_is_lawful n two;
      shown = (
        ap (λ (e : Entry). e.children.left) one,
        ap (λ (e : Entry). e.children.right) one,
        ap (λ (e : Entry). e.parent) one,
        tt,
        tt,
      );
      thread = (ap (λ (e : Entry). e.after) low_is, ap (λ (e : Entry). e.before) one, tt);
      last_is = ap (λ (e : Entry). e.after) one;
      rest = λ y e.
          let none = else_is y (other_place y e) in
          (ap (λ (e : Entry). e.parent) none, ap (λ (e : Entry). e.after) none);
    }
