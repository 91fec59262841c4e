use Rattle.std.proofs.Common.{◌∙◌, ap, arith}
use Rattle.irig_vcd.specs.Code.Lanes.{pairs_joined}
use Rattle.irig_vcd.proofs.Doubling.{below_100, below_10000, value_of}
use Rattle.irig_vcd.proofs.lanes.sixteen.Goals as goal

pub fours-requires-clause-digits : goal.fours-requires-clause-digits
fours-requires-clause-digits c = rw c.twos.ensures (below_100 c.args.digits c.requires.digits)

pub eights-parts-requires-clause-digits : goal.eights-parts-requires-clause-digits
eights-parts-requires-clause-digits c = rw (c.fours.ensures ∙ ap (pairs_joined 100) c.twos.ensures)
    (below_10000 (pairs_joined 10 c.args.digits) (below_100 c.args.digits c.requires.digits))

pub overflow_add-result : goal.overflow_add-result
overflow_add-result c =
    let is = c.eights-parts.ensures ∙ ap (pairs_joined 10000) (c.fours.ensures ∙ ap (pairs_joined 100) c.twos.ensures) in
    rw is (record { fits = omega (arith, (value_of c.args.digits c.requires.long c.requires.digits).1) })

pub returns : goal.returns
returns c =
    let is = c.eights-parts.ensures ∙ ap (pairs_joined 10000) (c.fours.ensures ∙ ap (pairs_joined 100) c.twos.ensures) in
    rw is (value_of c.args.digits c.requires.long c.requires.digits).0
