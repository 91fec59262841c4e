use Rattle.std.proofs.Common.{false, None, replicate, arith, ◌∙◌, sym}
use Rattle.irig_edit.proofs.StateLemmas.MovedMarks.{made_first-more, told_all, stands_now}
use Rattle.irig_edit.proofs.state.marks.letters_from.Goals as goal

pub loop-letter-preserved : goal.loop-letter-preserved
loop-letter-preserved c =
    made_first-more (stands_now c.args.low c.args.high) c.loop-letter.letter c.args.marks.now c.loop-letter.letters (replicate 26 false) None false
    c.stands.result
    c.loop-letter.invariant (omega (arith, c.told-marks, c.loop-letter-test.true)) c.loop-letter-test.true c.stands.ensures

pub returns : goal.returns
returns c =
    c.loop-letter.invariant
    ∙ told_all c.args.low c.args.high c.loop-letter.letter c.args.marks.now (replicate 26 false) (omega (arith, c.told-marks, c.loop-letter-test.false))
    (sym c.told-marks)
