-- The tree does it, and the heights follow.
use Rattle.std.proofs.Common.{cond, not, ◌&&◌, eqb, set, refl, ap, ◌∙◌}
use Rattle.guides.specs.declared.answer.Side.TheVariants.{Lower, Higher}
use Rattle.guides.specs.Rules.{attaching}
use Rattle.tables.specs.declared.entry.Entry.{Entry}
use Rattle.even.specs.Evened.{evened, heights_of}
use Rattle.even.specs.Marks.{marked_attached}
use Rattle.even.specs.Recorded.{with_side}
use Rattle.even.specs.Sides.{flat}
use Rattle.even.proofs.Carrying.{carries_ok}
use Rattle.even.proofs.balanced.guiding.EvenGuide.attach.Goals as goal

pub returns : goal.returns
unfolding marked_attached
returns c =
    let e = c.args.self.now in
    let lower = c.args.lower in
    let place = c.args.place in
    let upper = c.args.upper in
    let own = c.in_ok-attach.ensures in
    let marks = c.mark_attached.ensures in
    record {
      does = carries_ok (attaching lower place upper (evened e)) e.tree c.attach.new.self e _ refl own.does;
      entries = λ _. own.entries refl;
      heights = λ _.
          marks
          ∙ ap
          (λ (x : Entry).
          cond (not (eqb lower 0) && eqb x.children.right 0)
          (with_side lower Higher 1 (set (heights_of e) place flat))
          (with_side upper Lower 1 (set (heights_of e) place flat)))
          c.entry-right.ensures;
    }
