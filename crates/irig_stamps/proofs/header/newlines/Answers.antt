use Rattle.std.proofs.Common.{arith}
use Rattle.irig_stamps.proofs.Places.{newlines-next}
use Rattle.irig_stamps.proofs.header.newlines.Goals as goal

pub loop-byte-preserved : goal.loop-byte-preserved
loop-byte-preserved c =
    let i = c.loop-byte.byte-index in
    let next = newlines-next c.args.bytes.now i (omega (arith, c.loop-byte-test.true)) in
    record {
      count = omega (arith, next, c.newline-count.ensures.value, c.loop-byte.invariant.count);
      bound = omega (arith, c.newline-count.ensures.bound, c.loop-byte.invariant.bound);
    }
