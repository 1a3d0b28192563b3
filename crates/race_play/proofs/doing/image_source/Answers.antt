use Rattle.std.proofs.Common.{subst, inl, inr, ◌∙◌}
use Rattle.race_io.specs.Counts.{Rose}
use Rattle.race_play.specs.Outcomes.{TellsNoPicture, WritesPicture, WritesPictureInPart}
use Rattle.race_play.proofs.Pictures.{log-geometry, log-legal, picture-front, picture-written, picture-in-part, no-picture, picture-status, picture-not}
use Rattle.race_play.proofs.doing.image_source.Goals as goal

pub picture-requires-clause-geometry : goal.picture-requires-clause-geometry
picture-requires-clause-geometry g c = log-geometry c.in-Ok.script _ _ _ c.in-Ok-replay_log.ensures

pub picture-requires-clause-legal : goal.picture-requires-clause-legal
picture-requires-clause-legal g c = log-legal c.in-Ok.script _ _ _ c.in-Ok-replay_log.ensures

pub returns-in-Ok-replay_log-clause-front : goal.returns-in-Ok-replay_log-clause-front
returns-in-Ok-replay_log-clause-front g c = picture-front c.in-Ok.script _ _ _ c.in-Ok-replay_log.ensures (g.S.Source.left c.args.source.now) (g.S.Source.left c.take_script.new.source) (g.K.Sink.taken c.args.sink.now) (g.K.Sink.taken c.picture.new.sink) (g.K.Sink.faults c.args.sink.now) (g.K.Sink.faults c.picture.new.sink) c.picture.result.front c.picture.result.status
    c.in-Ok.ensures.read c.picture.ensures.front c.picture.ensures.statuses

pub returns-in-Ok-replay_log-clause-played : goal.returns-in-Ok-replay_log-clause-played
returns-in-Ok-replay_log-clause-played g c status = subst (λ k. WritesPicture (g.S.Source.left c.args.source.now) (g.S.Source.left c.take_script.new.source) (g.K.Sink.taken k) (g.K.Sink.taken c.picture.new.sink) c.picture.result.front) c.in-Ok.ensures.unwritten
    (picture-written c.in-Ok.script _ _ _ c.in-Ok-replay_log.ensures (g.S.Source.left c.args.source.now) (g.S.Source.left c.take_script.new.source) (g.K.Sink.taken c.take_script.new.sink) (g.K.Sink.taken c.picture.new.sink) (g.K.Sink.faults c.take_script.new.sink) (g.K.Sink.faults c.picture.new.sink) c.picture.result.front c.picture.result.status
    c.in-Ok.ensures.read c.picture.ensures.front status (c.picture.ensures.whole status))

pub returns-in-Ok-replay_log-clause-in_part : goal.returns-in-Ok-replay_log-clause-in_part
returns-in-Ok-replay_log-clause-in_part g c status = subst (λ k. WritesPictureInPart (g.S.Source.left c.args.source.now) (g.S.Source.left c.take_script.new.source) (g.K.Sink.taken k) (g.K.Sink.taken c.picture.new.sink) c.picture.result.front) c.in-Ok.ensures.unwritten
    (picture-in-part c.in-Ok.script _ _ _ c.in-Ok-replay_log.ensures (g.S.Source.left c.args.source.now) (g.S.Source.left c.take_script.new.source) (g.K.Sink.taken c.take_script.new.sink) (g.K.Sink.taken c.picture.new.sink) (g.K.Sink.faults c.take_script.new.sink) (g.K.Sink.faults c.picture.new.sink) c.picture.result.front c.picture.result.status
    c.in-Ok.ensures.read c.picture.ensures.front status (c.picture.ensures.part status))

pub returns-in-Ok-replay_log-clause-none : goal.returns-in-Ok-replay_log-clause-none
returns-in-Ok-replay_log-clause-none g c status = subst (λ k. TellsNoPicture (g.S.Source.left c.args.source.now) (g.S.Source.left c.take_script.new.source) (g.K.Sink.taken k) (g.K.Sink.taken c.picture.new.sink) (g.K.Sink.faults k) (g.K.Sink.faults c.picture.new.sink) c.picture.result.front) c.in-Ok.ensures.unwritten
    (no-picture c.in-Ok.script _ _ _ c.in-Ok-replay_log.ensures (g.S.Source.left c.args.source.now) (g.S.Source.left c.take_script.new.source) (g.K.Sink.taken c.take_script.new.sink) (g.K.Sink.taken c.picture.new.sink) (g.K.Sink.faults c.take_script.new.sink) (g.K.Sink.faults c.picture.new.sink) c.picture.result.front c.picture.result.status
    c.in-Ok.ensures.read c.picture.ensures.front status (c.picture.ensures.none status))

pub returns-in-Ok-replay_log-clause-statuses : goal.returns-in-Ok-replay_log-clause-statuses
returns-in-Ok-replay_log-clause-statuses g c = picture-status c.picture.result.status c.picture.ensures.statuses

pub returns-in-Ok-replay_log-clause-refused : goal.returns-in-Ok-replay_log-clause-refused
returns-in-Ok-replay_log-clause-refused g c e = picture-not c.picture.result.status c.picture.ensures.statuses (inl e)

pub returns-in-Ok-replay_log-clause-failed : goal.returns-in-Ok-replay_log-clause-failed
returns-in-Ok-replay_log-clause-failed g c e = picture-not c.picture.result.status c.picture.ensures.statuses (inr e)

pub returns-in-Ok-replay_log-clause-failed_unwritten : goal.returns-in-Ok-replay_log-clause-failed_unwritten
returns-in-Ok-replay_log-clause-failed_unwritten g c e = picture-not c.picture.result.status c.picture.ensures.statuses (inr e)

pub returns-in-Ok-replay_log-clause-wanting : goal.returns-in-Ok-replay_log-clause-wanting
returns-in-Ok-replay_log-clause-wanting g c e = c.picture.ensures.wanting e ∙ c.in-Ok.ensures.unwritten

pub returns-in-Ok-replay_log-clause-cut_off : goal.returns-in-Ok-replay_log-clause-cut_off
returns-in-Ok-replay_log-clause-cut_off g c e = subst (λ k. Rose (g.K.Sink.faults k) (g.K.Sink.faults c.picture.new.sink)) c.in-Ok.ensures.unwritten (c.picture.ensures.rose e)
