-- The call on the open book, or its refusal.
use Rattle.std.proofs.Common.{rules}
use Rattle.std.proofs.lemmas.Result.{err_from_is_err_and}
use Rattle.play.specs.Booked.{BeginsIn}
use Rattle.play.specs.Playing.{said_begun}
use Rattle.play.proofs.Calling.{called, refused}
use Rattle.play.proofs.player.Player.begin.Goals as goal

pub returns-in_err-begin : goal.returns-in_err-begin
returns-in_err-begin c =
    let e = err_from_is_err_and c.from_residual-in_err-begin.result c.from_residual-in_err-begin.ensures.1 in
    refused _ _ _ _ _ e.1 e.2 (called (BeginsIn c.args.station c.args.work c.args.key) said_begun c.args.self.now c.in_ok-book.book.now c.begin.new.self _ (search rules) c.in_err-begin.ensures)

pub returns : goal.returns
returns c = called (BeginsIn c.args.station c.args.work c.args.key) said_begun c.args.self.now c.in_ok-book.book.now c.begin.new.self _ (search rules) c.in_ok-begin.ensures
