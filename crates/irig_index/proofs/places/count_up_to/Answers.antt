use Rattle.std.proofs.Common.{◌≡◌, ◌+◌, ◌-◌, ◌/◌, slice_get, ap, ◌∙◌, arith}
use Rattle.irig_index.specs.Sides.{shown}
use Rattle.irig_index.proofs.{ShownLemmas.begins_at, SideLemmas.ends_up_to}
use Rattle.irig_index.proofs.places.count_up_to.Goals as goal

pub loop-low-preserved-then-marker-last : goal.loop-low-preserved-then-marker-last
loop-low-preserved-then-marker-last c =
    let before = c.loop-low.invariant in
    let middle = c.loop-low.low + (c.loop-low.high - c.loop-low.low) / 2 in
    let all = shown c.args.pulses c.args.records.now in
    let place : middle + 1 - 1 ≡ middle = omega arith in
    record {
      order = omega arith;
      within = before.within;
      before = ends_up_to c.args.last all (middle + 1) c.record_at.result (omega arith) (ap (slice_get all) place ∙ c.record_at.ensures) (omega arith);
      after = before.after;
    }

pub loop-low-preserved : goal.loop-low-preserved
loop-low-preserved c =
    let before = c.loop-low.invariant in
    let middle = c.loop-low.low + (c.loop-low.high - c.loop-low.low) / 2 in
    record {
      order = omega arith;
      within = omega (arith, before.within);
      before = before.before;
      after = begins_at c.args.last (shown c.args.pulses c.args.records.now) middle c.record_at.result c.record_at.ensures (omega arith);
    }
