use Rattle.std.proofs.Common.{◌≤◌, ◌+◌, ◌^◌, ◌<◌, [], length, arith}
use Rattle.std.proofs.KnownBytes.{Consumes-nil, Consumes-trans}
use Rattle.irig_script.proofs.{ObeyLemmas.Lines.obeyed_none, ObeyLemmas.Reading.reads_to}
use Rattle.irig_script.proofs.obey.engine.run.Goals as goal

pub loop-reads-init : goal.loop-reads-init
loop-reads-init g c = record {
  since = g.met.S.Shelf.since_now _;
  so_far = record { bytes = []; read = Consumes-nil _; many = omega arith; most = omega arith; obeyed = obeyed_none _ _ [] _ _ c.new-line.ensures };
}

pub returns-in-Err : goal.returns-in-Err
returns-in-Err g c =
    let few : c.loop-reads.reads < 2 ^ 32 = omega arith in
    let e = c.in-Err.ensures.goes_on c.loop-reads.reads _ _ _ few c.loop-reads.invariant.so_far in
    record {
      ends = e.ends;
      reads = e.reads;
      label = e.label;
      since = g.met.S.Shelf.since_then _ _ _ c.loop-reads.invariant.since c.in-Err.ensures.since;
    }

pub returns-in-Ok-true : goal.returns-in-Ok-true
returns-in-Ok-true g c =
    let few : c.loop-reads.reads < 2 ^ 32 = omega arith in
    let e = (rw c.in-Ok-true.field-0-test at c.in-Ok-true.ensures.goes_on) c.loop-reads.reads _ _ _ few c.loop-reads.invariant.so_far in
    record {
      ends = e.ends;
      reads = e.reads;
      label = e.label;
      since = g.met.S.Shelf.since_then _ _ _ c.loop-reads.invariant.since c.in-Ok-true.ensures.since;
    }

pub loop-reads-preserved : goal.loop-reads-preserved
loop-reads-preserved g c = record {
  since = g.met.S.Shelf.since_then _ _ _ c.loop-reads.invariant.since c.in-Ok-false.ensures.since;
  so_far = let few : c.loop-reads.reads < 2 ^ 32 = omega arith in
      (rw c.in-Ok-false.field-0-test at c.in-Ok-false.ensures.goes_on) c.loop-reads.reads _ _ _ few c.loop-reads.invariant.so_far;
}

pub returns-clause-reads : goal.returns-clause-reads
returns-clause-reads g c =
    let i = c.loop-reads.invariant.so_far in
    let most : length i.bytes + 0 ≤ 2 ^ 44 = omega (arith, i.most, c.loop-reads.auto.reads-end) in
    reads_to _ _ _ _ _ _ _ _ i.bytes [] c.loop-reads.line (Consumes-trans _ _ _ i.bytes [] i.read (Consumes-nil _)) (omega arith) most i.obeyed
