-- The tree does it, and the heights follow.
use Rattle.std.proofs.Common.{◌≡◌, cond, ◌||◌, eqb, set, Err, Result, sym, refl, ap, ◌∙◌, subst}
use Rattle.std.proofs.lemmas.Result.{err_from_is_err_and}
use Rattle.guides.specs.declared.answer.GuideRefusal.{GuideRefusal}
use Rattle.guides.specs.Rules.{Does, detaching}
use Rattle.tables.specs.declared.entry.Entry.{Entry}
use Rattle.even.specs.Evened.{evened, heights_of}
use Rattle.even.specs.Marks.{marked_detached}
use Rattle.even.specs.Recorded.{sides_at}
use Rattle.even.proofs.Carrying.{carries_ok, carries_err, ok_not_err}
use Rattle.even.proofs.balanced.guiding.EvenGuide.detach.Goals as goal

pub returns-in_err-detach : goal.returns-in_err-detach
returns-in_err-detach c =
    let e = c.args.self.now in
    let exits = err_from_is_err_and c.from_residual.result c.from_residual.ensures.1 in
    let is : c.from_residual.result ≡ Err c.in_err-detach.field-0.0 = exits.1 ∙ ap Err exits.2 in
    record {
      does = subst
          (λ (r : Result (Unit {0}) GuideRefusal).
          Does evened (detaching c.args.place (evened e)) e r (record { tree = c.detach.new.self; heights = e.heights }))
          (sym is)
          (carries_err (detaching c.args.place (evened e)) e.tree c.detach.new.self e.heights c.in_err-detach.field-0.0
          c.in_err-detach.ensures.does);
      entries = λ h. absurd (ok_not_err tt c.in_err-detach.field-0.0 (sym h ∙ is));
      heights = λ h. absurd (ok_not_err tt c.in_err-detach.field-0.0 (sym h ∙ is));
    }

pub returns : goal.returns
unfolding marked_detached
returns c =
    let e = c.args.self.now in
    let place = c.args.place in
    let own = c.in_ok-detach.ensures in
    let marks = c.mark_detached.ensures in
    record {
      does = carries_ok (detaching place (evened e)) e.tree c.detach.new.self e _ refl own.does;
      entries = λ _. own.entries refl;
      heights = λ _.
          marks
          ∙ ap
          (λ (x : Entry).
          cond (eqb x.children.left 0 || eqb x.children.right 0) (heights_of e) (set (heights_of e) x.after (sides_at (heights_of e) place)))
          c.entry-entry.ensures;
    }
