use Rattle.std.proofs.Common.{rules, arith, ap, length, ◌∙◌}
use Rattle.irig_edit.proofs.EditLemmas.ChangedPulses.{joined}
use Rattle.irig_edit.proofs.edits.join.plan.Goals as goal

pub returns-clause-plan : goal.returns-clause-plan
returns-clause-plan c =
    let both = joined c.args.present.now.state c.args.i c.args.j c.pulse-first.result c.pulse-last.result c.track.ensures.state
    (omega (arith, c.if-i-eq0.false)) c.if-i-j.false (omega (arith, c.if-j-len.false, (c.len.ensures.len ∙ ap length c.track.ensures.pulses)))
    c.pulse-first.ensures.there c.pulse-last.ensures.there in
    record {
      allowed = search rules;
      there = omega (arith, c.if-i-eq0.false);
      can = both.0;
      becomes = both.1;
      change = search rules;
    }
