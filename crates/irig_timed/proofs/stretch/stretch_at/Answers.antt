use Rattle.std.proofs.Common.{◌∙◌}
use Rattle.irig_timed.specs.Stretches.{both}
use Rattle.irig_timed.proofs.stretch.stretch_at.Goals as goal

pub returns-clause-stretch : goal.returns-clause-stretch
returns-clause-stretch c = c.both.ensures.both ∙ (λ i. both (c.frames_around-around.ensures.last i) (c.frames_around-around.ensures.next i))
