use Rattle.std.proofs.Common.{◌≡◌, ◌+◌, false, arith, sym, ◌∙◌}
use Rattle.irig_timed.specs.{Held.held, Moments.frames_by}
use Rattle.irig_agreement.specs.Agreement.{is_within, off}
use Rattle.irig_agreement.proofs.NearTimes.{within-more}
use Rattle.irig_agreement.proofs.judging.is_alike.Goals as goal

pub returns-then-is_within-clause-alike : goal.returns-then-is_within-clause-alike
returns-then-is_within-clause-alike c =
    let f = c.args.kept.now.format in
    let century = c.args.kept.now.century in
    let old = c.args.before.now.track.pulses in
    let new = c.args.after.now.track.pulses in
    let x = c.args.one.now in
    let y = c.args.other.now in
    sym (within-more century 4 (off f century old x + off f century new y) (omega arith) x.time y.time (sym c.is_within.ensures ∙ c.if-is_within.true))

pub returns-clause-alike : goal.returns-clause-alike
returns-clause-alike c =
    let f = c.args.kept.now.format in
    let century = c.args.kept.now.century in
    let old = c.args.before.now.track.pulses in
    let new = c.args.after.now.track.pulses in
    let x = c.args.one.now in
    let y = c.args.other.now in
    let first = c.off_of-first.ensures.off century (frames_by f false century old) (held f false century old) c.requires.kept.known in
    let second = c.off_of-second.ensures.off century (frames_by f false century new) (held f false century new) c.requires.known in
    c.is_within-2.ensures ∙ (λ i. is_within century (first i + second i) x.time y.time)
