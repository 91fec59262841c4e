use Rattle.std.proofs.Common.{◌+◌, arith}
use Rattle.irig_telling.proofs.Sures.{told_more}
use Rattle.irig_telling.proofs.told.told_by.Goals as goal

pub loop-bit-preserved : goal.loop-bit-preserved
loop-bit-preserved c = record {
  all = omega (arith, c.in_ok-push.ensures.len, c.loop-bit.invariant.all);
  each = told_more c.args.dated.now (c.args.choice.now.cost + c.args.margin) c.loop-bit.bit c.loop-bit.told.items c.push.new.self.items c.told_at.result
      c.loop-bit.invariant.all c.in_ok-push.ensures.items c.loop-bit.invariant.each c.told_at.ensures;
}

pub returns : goal.returns
returns c = record {
  least = c.args.choice.now.cost;
  is_least = record {
    low = c.requires.least;
    cheapest = c.args.choice.now.candidates.items;
    possible = c.requires.possible;
    exact = c.requires.exact;
  };
  all = omega (arith, c.loop-bit.invariant.all);
  each = c.loop-bit.invariant.each;
}
