use Rattle.std.proofs.Common.{rules, arith, ap, ◌∙◌, ◌-◌, ◌+◌, min, length}
use Rattle.irig_edit.proofs.EditLemmas.Deletions.{deleted}
use Rattle.irig_edit.proofs.edits.delete.plan.Goals as goal

pub returns-clause-plan : goal.returns-clause-plan
returns-clause-plan c =
    let len = c.len-len.ensures.len ∙ ap length c.track.ensures.pulses in
    let both = deleted c.args.present.now.state c.args.i c.args.j c.min.result c.track.ensures.state (omega (arith, c.if-i-eq0.false)) c.if-i-j.false
    (omega (arith, c.if-j-len.false, len)) (c.min.ensures ∙ ap (λ n. min c.args.i (n - (c.args.j - c.args.i + 1))) len) in
    record {
      allowed = search rules;
      there = omega (arith, c.if-i-eq0.false);
      can = both.0;
      becomes = both.1;
      change = search rules;
    }
