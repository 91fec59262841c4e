use Rattle.std.proofs.Common.{arith}
use Rattle.irig_track.proofs.PulsesBetween.{stand_here, stand_next}
use Rattle.irig_track.proofs.stands.stands.Goals.{then-pulse-low-via-then-pulse-low, then-pulse-low-via-else-pulse-low+then-pulse}
use Rattle.irig_track.proofs.stands.stands.Goals.{then-pulse-low-via-else-pulse-low+else-pulse+then-pulse-high}
use Rattle.irig_track.proofs.stands.stands.Goals as goal

pub returns-then-pulse-low : goal.returns-then-pulse-low
returns-then-pulse-low c = (
  λ e. absurd (cc (e)),
  λ h.
      let k = stand_here c.loop-index.low c.args.high c.loop-index.index c.get-pulse.result c.args.put.now.items c.get-pulse.ensures
      (c.loop-index.invariant.1 h) in
      elim c.then-pulse-low.branch [
        | then-pulse-low-via-then-pulse-low w ↦ absurd (omega (arith, k.0, w.if-pulse-low.true))
        | then-pulse-low-via-else-pulse-low+then-pulse w ↦ absurd (omega (arith, k.1, w.if-pulse.true))
        | then-pulse-low-via-else-pulse-low+else-pulse+then-pulse-high w ↦ absurd (omega (arith, k.2, w.if-pulse-high.true))
      ],
)

pub loop-index-preserved : goal.loop-index-preserved
loop-index-preserved c = (
  omega arith,
  λ h. (stand_here c.loop-index.low c.args.high c.loop-index.index c.get-pulse.result c.args.put.now.items c.get-pulse.ensures (c.loop-index.invariant.1 h)).3,
  λ h. c.loop-index.invariant.2 (stand_next c.loop-index.low c.args.high c.loop-index.index c.get-pulse.result c.args.put.now.items c.get-pulse.ensures
      (omega arith) (omega arith) h),
)
