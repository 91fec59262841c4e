use Rattle.std.proofs.Common.{refl}
use Rattle.irig_guarding.proofs.{DropLemmas.stops_here, RepairLemmas.beyond_beyond, RepairLemmas.obeyed_more}
use Rattle.irig_guarding.proofs.obeying.obey_inner_lines.Goals as goal

pub returns-in-Err-clause-stops : goal.returns-in-Err-clause-stops
returns-in-Err-clause-stops c =
    stops_here c.args.lines.now _ _ c.args.session.now c.loop-line.session _ c.loop-line-test.true c.line-item.is c.loop-line.invariant.0 c.in-Err.ensures.stops

pub returns-in-Err-clause-beyond : goal.returns-in-Err-clause-beyond
returns-in-Err-clause-beyond c = beyond_beyond _ _ _ c.loop-line.invariant.1 c.obey_inner_line.ensures.beyond

pub loop-line-preserved : goal.loop-line-preserved
loop-line-preserved c = (
  obeyed_more (λ line. line.bytes.now) c.args.lines.now _ _ _ _ _ _ c.loop-line-test.true c.line-item.is refl c.loop-line.invariant.0
      c.in_default.ensures.made,
  beyond_beyond _ _ _ c.loop-line.invariant.1 c.obey_inner_line.ensures.beyond,
  λ o known. c.in_default.ensures.known o (c.loop-line.invariant.2 o known),
)
