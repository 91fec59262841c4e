use Rattle.std.proofs.Common.{◌∙◌}
use Rattle.irig_timed.proofs.StretchPairs.{last-pair, next-pair}
use Rattle.irig_timed.proofs.stretch.frames_around.Goals as goal

pub returns-clause-last : goal.returns-clause-last
returns-clause-last c = c.frame_before.ensures.frame
    ∙ last-pair c.args.frames.now c.args.number c.frames_up_to-many.result c.frames_up_to-many.ensures.parted c.frames_up_to-many.ensures.within

pub returns-clause-next : goal.returns-clause-next
returns-clause-next c = c.frame_at.ensures.frame
    ∙ next-pair c.args.frames.now c.args.number c.frames_up_to-many.result c.frames_up_to-many.ensures.parted c.frames_up_to-many.ensures.within
