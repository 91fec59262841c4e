use Rattle.std.proofs.Common.{◌≡◌, ◌+◌, ◌-◌, ◌++◌, drop, ap, ◌∙◌, arith}
use Rattle.irig_script.specs.Print.Listings.{list_text}
use Rattle.irig_print.specs.PulseLine.{pulse_line}
use Rattle.irig_script.proofs.PrintLemmas.Pieces.{listing_before}
use Rattle.irig_script.proofs.print.pulse_lines.write_pulses.Goals as goal

pub loop-back-preserved : goal.loop-back-preserved
loop-back-preserved c =
    let s = c.args.session.now.state in
    let k = c.loop-back.back in
    let n = c.args.last - k in
    let m = c.args.last - (k + 1) in
    let p = c.pulse.result in
    let next : n ≡ m + 1 = omega (arith, c.loop-back-test.true, c.requires.there.0) in
    let behind = drop c.loop-back.start c.loop-back.bytes in (
      omega (arith, c.write_pulse-start.ensures.start.0, c.loop-back.invariant.0, c.loop-back-test.true),
      omega (arith, c.write_pulse-start.ensures.start.1, c.write_pulse-start.ensures.long),
      c.write_pulse-start.ensures.long ∙ c.loop-back.invariant.2,
      c.write_pulse-start.ensures.written ∙ ap (λ f. pulse_line f n p ++ behind) c.current_format-format.ensures
          ∙ ap (λ l. pulse_line s.format n p ++ l) c.loop-back.invariant.3 ∙ listing_before s n m k p next c.pulse.ensures,
    )

pub returns-clause-written : goal.returns-clause-written
returns-clause-written c =
    let all : c.loop-back.back ≡ c.args.count = omega (arith, c.loop-back.auto.back-end, c.loop-back-test.false) in
    c.loop-back.invariant.3 ∙ ap (λ k. list_text (c.args.last - k) k c.args.session.now.state) all
