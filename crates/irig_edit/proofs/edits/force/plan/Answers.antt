use Rattle.std.proofs.Common.{rules, arith, ◌+◌, ap, sym, ◌∙◌, length}
use Rattle.irig_codes.specs.{Format.FormatView, Width.nominal_of}
use Rattle.irig_edit.proofs.EditLemmas.ChangedPulses.{forced, next_free}
use Rattle.irig_edit.proofs.edits.force.plan.Goals as goal
use Rattle.irig_codes.proofs.WidthLemmas.{nominal_of-within}

pub returns : goal.returns
returns c =
    let s = c.args.present.now.state in
    let fall = c.pulse-rise.result.rise + c.nominal.result in
    let width = c.nominal.ensures.value ∙ ap (λ (f : FormatView). nominal_of f c.args.element) c.format.ensures in
    let both = forced s c.args.i c.args.element c.pulse-rise.result fall c.track-track.ensures.state
    (omega (arith, c.if-i-eq0.false)) (omega (arith, c.if-i-len.false, (c.len.ensures.len ∙ ap length c.track-track.ensures.pulses))) c.pulse-rise.ensures.there
    (ap (λ n. c.pulse-rise.result.rise + n) width) (omega (arith, width, (nominal_of-within s.format c.args.element).0))
    (omega (arith, c.if-fall-length.false, (c.length.ensures.length ∙ c.track-track.ensures.micros)))
    (next_free c.args.i fall s (sym c.meets_next.ensures ∙ c.if-meets_next.false)) in
    record {
      allowed = search rules;
      there = search rules;
      can = both.0;
      becomes = both.1;
      change = search rules;
    }
