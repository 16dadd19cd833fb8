-- What the straight guide's table says of its meaning, and what one place more and one place less make of it.
-- Assumes nothing.
use Rattle.std.proofs.Common.{◌≡◌, ℕ, ◌+◌, ◌<◌, true, false, ◌&&◌, eqb, ltb, length, get_or, sym, ap, ◌∙◌}
use Rattle.std.specs.List.{insert, remove}
use Rattle.guides.specs.Lines.{line_meaning}
use Rattle.guides.specs.Meaning.{has, neighbours, distinct}
use Rattle.guides.specs.Straight.{straight, Holds}
use Rattle.guides.specs.declared.line.Line.{Line}
use Rattle.guides.proofs.Pigeonhole.{lawful_room}
use Rattle.guides.proofs.Positions.{begins_with_drop, neighbours_by_position}
use Rattle.guides.proofs.Positions.{with_after_by_position, without_by_position}
use Rattle.guides.proofs.Sequences.{attached, detached, lawful_parts}

module _ (line : Line) where
  line_once : distinct line.order.items ≡ true
  line_once = (lawful_parts (straight line) line.kept).once

  -- The table is never full while a place is missing.
  pub line_room : (p : ℕ) → has p line.order.items ≡ false → p < line.places → length line.order.items < line.places
  line_room p fresh inside = lawful_room p (straight line) line.kept fresh inside

  module _ (p at : ℕ) (holds : Holds line p at) where
    -- Only what stands next to a place is its neighbour.
    pub line_beside : (q : ℕ)
        → neighbours p q line.order.items ≡ (ltb (at + 1) (length line.order.items) && eqb (get_or line.order.items (at + 1) 0) q)
    line_beside q =
        neighbours_by_position p line.order.items at holds.0 holds.1 line_once q ∙ begins_with_drop q line.order.items (at + 1)

    pub line_attached : (x : ℕ) → line_meaning (insert line.order.items (at + 1) x) line.places ≡ attached p x (straight line)
    line_attached x =
        ap (λ xs. line_meaning xs line.places)
        (sym (with_after_by_position p line.order.items at holds.0 holds.1 line_once x))

    pub line_detached : line_meaning (remove line.order.items at) line.places ≡ detached p (straight line)
    line_detached =
        ap (λ xs. line_meaning xs line.places)
        (sym (without_by_position p line.order.items at holds.0 holds.1 line_once))
