-- The call on the open book, or its refusal.
use Rattle.std.proofs.Common.{rules}
use Rattle.std.proofs.lemmas.Result.{err_from_is_err_and}
use Rattle.play.specs.Booked.{LeavesIn}
use Rattle.play.specs.Playing.{said_left}
use Rattle.play.proofs.Calling.{called, refused}
use Rattle.play.proofs.player.Player.leave.Goals as goal

pub returns-in_err-leave : goal.returns-in_err-leave
returns-in_err-leave c =
    let e = err_from_is_err_and c.from_residual-in_err-leave.result c.from_residual-in_err-leave.ensures.1 in
    refused _ _ _ _ _ e.1 e.2 (called (LeavesIn c.args.station) said_left c.args.self.now c.in_ok-book.book.now c.leave.new.self _ (search rules) c.in_err-leave.ensures)

pub returns : goal.returns
returns c = called (LeavesIn c.args.station) said_left c.args.self.now c.in_ok-book.book.now c.leave.new.self _ (search rules) c.in_ok-leave.ensures
