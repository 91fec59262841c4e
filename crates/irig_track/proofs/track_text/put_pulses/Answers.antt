use Rattle.std.proofs.Common.{◌∙◌}
use Rattle.irig_track.proofs.Texts.{more_put}
use Rattle.irig_track.proofs.track_text.put_pulses.Goals as goal

pub loop-next-preserved : goal.loop-next-preserved
loop-next-preserved c =
    more_put c.loop-next.next c.args.track.now.micros c.loop-next.writer.last c.put_pulse.new.self.last c.pulse-pulse.result c.args.track.now.pulses
    c.loop-next.text.items c.put_pulse.new.text.items
    c.pulse-pulse.ensures.value c.in_ok-put_pulse.ensures.text c.in_ok-put_pulse.ensures.last
    ∙ c.loop-next.invariant
