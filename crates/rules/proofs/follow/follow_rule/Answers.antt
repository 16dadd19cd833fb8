-- Each arm follows the step list, by what its rule's function ensures.
use Rattle.std.proofs.Common.{None, Ok, refl, ap}
use Rattle.guides.specs.declared.answer.Beside.TheVariants.{End}
use Rattle.records.specs.declared.record.Phase.TheVariants.{Enter, Down, Check, Back, On, Seek, Lock, Valid, Take, Link, LinkBack, Attach, ReleaseNew, PutEnd, TakeVictim, Mark, UnlinkBack, Unlink, Detach, ReleaseVictim, StrikeEnd, First, FirstNext}
use Rattle.rules.specs.Stepping.{none_open}
use Rattle.rules.proofs.Turning.{follows_reading, follows_writing, follows_guiding}
use Rattle.rules.proofs.follow.follow_rule.Goals as goal

pub returns-in-Enter : goal.returns-in-Enter
returns-in-Enter g c = follows_reading Enter (record { start = c.start.result; beside = End; free = None }) _ c.in-Enter.is c.start.ensures refl (ap Ok c.enter.ensures)

pub returns-in-Down : goal.returns-in-Down
returns-in-Down g c = let asked = c.down.ensures in follows_reading Down (record { start = 0; beside = asked.0; free = None }) _ c.in-Down.is asked.1 refl asked.2

pub returns-in-Check : goal.returns-in-Check
returns-in-Check g c = follows_reading Check none_open _ c.in-Check.is tt refl c.check.ensures

pub returns-in-Seek : goal.returns-in-Seek
returns-in-Seek g c = follows_reading Seek none_open _ c.in-Seek.is tt refl c.seek.ensures

pub returns-in-First : goal.returns-in-First
returns-in-First g c = follows_reading First none_open _ c.in-First.is tt refl c.first.ensures

pub returns-in-FirstNext : goal.returns-in-FirstNext
returns-in-FirstNext g c = follows_reading FirstNext none_open _ c.in-FirstNext.is tt refl c.first_next.ensures

pub returns-in-Back : goal.returns-in-Back
returns-in-Back g c = follows_reading Back none_open _ c.in-Back.is tt refl (c.back.ensures c.args.me (g.G.Guide.meaning c.args.guide.now))

pub returns-in-On : goal.returns-in-On
returns-in-On g c = follows_reading On none_open _ c.in-On.is tt refl (c.on.ensures c.args.me (g.G.Guide.meaning c.args.guide.now))

pub returns-in-Lock : goal.returns-in-Lock
returns-in-Lock g c = follows_writing Lock none_open _ c.in-Lock.is tt refl c.lock.ensures

pub returns-in-Valid : goal.returns-in-Valid
returns-in-Valid g c = follows_writing Valid none_open _ c.in-Valid.is tt refl c.valid.ensures

pub returns-in-Link : goal.returns-in-Link
returns-in-Link g c = follows_writing Link none_open _ c.in-Link.is tt refl c.link.ensures

pub returns-in-LinkBack : goal.returns-in-LinkBack
returns-in-LinkBack g c = follows_writing LinkBack none_open _ c.in-LinkBack.is tt refl c.link_back.ensures

pub returns-in-ReleaseNew : goal.returns-in-ReleaseNew
returns-in-ReleaseNew g c = follows_writing ReleaseNew none_open _ c.in-ReleaseNew.is tt refl c.release_new.ensures

pub returns-in-PutEnd : goal.returns-in-PutEnd
returns-in-PutEnd g c = follows_writing PutEnd none_open _ c.in-PutEnd.is tt refl c.put_end.ensures

pub returns-in-TakeVictim : goal.returns-in-TakeVictim
returns-in-TakeVictim g c = follows_writing TakeVictim none_open _ c.in-TakeVictim.is tt refl c.take_victim.ensures

pub returns-in-Mark : goal.returns-in-Mark
returns-in-Mark g c = follows_writing Mark none_open _ c.in-Mark.is tt refl c.mark.ensures

pub returns-in-UnlinkBack : goal.returns-in-UnlinkBack
returns-in-UnlinkBack g c = follows_writing UnlinkBack none_open _ c.in-UnlinkBack.is tt refl c.unlink_back.ensures

pub returns-in-Unlink : goal.returns-in-Unlink
returns-in-Unlink g c = follows_writing Unlink none_open _ c.in-Unlink.is tt refl c.unlink.ensures

pub returns-in-ReleaseVictim : goal.returns-in-ReleaseVictim
returns-in-ReleaseVictim g c = follows_writing ReleaseVictim none_open _ c.in-ReleaseVictim.is tt refl c.release_victim.ensures

pub returns-in-StrikeEnd : goal.returns-in-StrikeEnd
returns-in-StrikeEnd g c = follows_writing StrikeEnd none_open _ c.in-StrikeEnd.is tt refl c.strike_end.ensures

pub returns-in-Take : goal.returns-in-Take
returns-in-Take g c = let taken = c.take.ensures in follows_writing Take (record { start = 0; beside = End; free = taken.0 }) _ c.in-Take.is taken.1 refl taken.2

pub returns-in-Attach : goal.returns-in-Attach
returns-in-Attach g c = follows_guiding Attach none_open _ _ c.in-Attach.is tt refl refl c.attach.ensures

pub returns-in-Detach : goal.returns-in-Detach
returns-in-Detach g c = follows_guiding Detach none_open _ _ c.in-Detach.is tt refl refl c.detach.ensures
