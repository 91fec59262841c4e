use Rattle.std.proofs.lemmas.Option.{slice_get-get_or}
use Rattle.irig_guarding.proofs.bars.bar_between.Goals as goal

pub loop-at-preserved : goal.loop-at-preserved
loop-at-preserved c = λ recorded f lines led are.
    let i = c.loop-at.at-index in
    let one = led i _ (slice_get-get_or c.args.kept.now i _ c.loop-at-test.true) in
    c.in_ok-bar_if.ensures recorded f lines one.0 one.1 one.2 (c.loop-at.invariant recorded f lines led are)
