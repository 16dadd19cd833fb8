-- The call on the open book, or its refusal.
use Rattle.std.proofs.Common.{rules}
use Rattle.std.proofs.lemmas.Result.{err_from_is_err_and}
use Rattle.guides.specs.Straight.{straight}
use Rattle.play.specs.Booked.{RunsIn}
use Rattle.play.specs.Playing.{said_ran}
use Rattle.play.proofs.Calling.{called, refused}
use Rattle.play.proofs.player.Player.run.Goals as goal

pub returns-in_err-run : goal.returns-in_err-run
returns-in_err-run c =
    let e = err_from_is_err_and c.from_residual-in_err-run.result c.from_residual-in_err-run.ensures.1 in
    refused _ _ _ _ _ e.1 e.2 (called (RunsIn straight c.args.station) said_ran c.args.self.now c.in_ok-book.book.now c.run.new.self _ (search rules) c.in_err-run.ensures)

pub returns : goal.returns
returns c = called (RunsIn straight c.args.station) said_ran c.args.self.now c.in_ok-book.book.now c.run.new.self _ (search rules) c.in_ok-run.ensures
