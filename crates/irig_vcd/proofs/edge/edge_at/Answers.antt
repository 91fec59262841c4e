use Rattle.std.proofs.Common.{◌≡◌, ◌∙◌, cond, rules, arith}
use Rattle.irig_vcd.proofs.PulseSteps.{edge_taken}
use Rattle.irig_vcd.proofs.edge.edge_at.Goals as goal

pub returns : goal.returns
returns c =
    let e = c.lanes_end-end.ensures in
    let line = c.is_line.ensures c.if-not-is_line.false in
    let is : c.if-high.value ≡ cond c.args.high 49 48 = search rules in
    edge_taken c.args.source.now c.args.at c.lanes_end-end.result.0 c.lanes_end-end.result.1 c.args.code c.args.unit _ _ c.args.high
    (omega (arith, e.few, c.requires.room)) (omega (arith, e.few)) c.if-source-at-ne35.false (omega (arith, e.after, c.if-end-at.false)) c.requires.dark
    e.words e.front e.digits e.value c.digits_below.ensures.value c.cut-whole.ensures.whole c.cut-whole.ensures.rest line.0 (line.1 ∙ is) line.2 line.3
