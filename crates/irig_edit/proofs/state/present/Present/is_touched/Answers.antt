use Rattle.std.proofs.Common.{sym}
use Rattle.irig_edit.proofs.StateLemmas.TouchedStretches.{is_touched-last, is_touched-none}
use Rattle.irig_edit.proofs.state.present.Present.is_touched.Goals as goal

pub returns-then-risen-gt0 : goal.returns-then-risen-gt0
returns-then-risen-gt0 c =
    sym (is_touched-last c.args.a c.args.b c.find-risen.result c.args.self.now.state c.pulse.result c.requires c.find-risen.ensures.state
    c.find-risen.ensures.count c.if-risen-gt0.true c.pulse.ensures.there)

pub returns-else-risen-gt0 : goal.returns-else-risen-gt0
returns-else-risen-gt0 c =
    sym (is_touched-none c.args.a c.args.b c.find-risen.result c.args.self.now.state c.requires c.find-risen.ensures.state c.find-risen.ensures.count
    c.if-risen-gt0.false)
