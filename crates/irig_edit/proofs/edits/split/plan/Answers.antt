use Rattle.std.proofs.Common.{rules, arith, ap, length, ◌∙◌}
use Rattle.irig_edit.proofs.EditLemmas.ChangedPulses.{split_up}
use Rattle.irig_edit.proofs.edits.split.plan.Goals as goal

pub returns : goal.returns
returns c =
    let len = ap length c.track-track.ensures.pulses in
    let both = split_up c.args.present.now.state c.args.i c.args.a c.args.b c.pulse-pulse.result c.track-track.ensures.state
    (omega (arith, c.if-i-eq0.false)) (omega (arith, c.if-i-len.false, (c.len.ensures.len ∙ len))) c.if-a-b.false c.if-pulse-a.false c.if-b-pulse.false
    (omega (arith, c.room.ensures, len, c.if-room-eq0.false)) c.pulse-pulse.ensures.there in
    record {
      allowed = search rules;
      there = omega (arith, c.if-i-eq0.false);
      can = both.0;
      becomes = both.1;
      change = search rules;
    }
