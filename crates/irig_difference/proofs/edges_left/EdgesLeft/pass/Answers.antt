use Rattle.std.proofs.Common.{◌≡◌, ◌<◌, ◌∙◌, true, false, ap, arith, drop, length, sym}
use Rattle.std.proofs.Math.Seq.{drop-drop}
use Rattle.irig_difference.specs.EdgesLeft.{edges_left}
use Rattle.irig_difference.proofs.Passed.{passed_fall}
use Rattle.irig_difference.proofs.edges_left.EdgesLeft.pass.Goals as goal

pub returns-then-self : goal.returns-then-self
returns-then-self c =
    let ps = c.self.inside.pulses.now.items in let i = c.self.inside.past in let qs = drop i ps in
    let up : edges_left qs true ≡ c.args.self.now = ap (edges_left qs) (sym c.if-self.true) ∙ c.self.view_is in
    let some : 0 < length (edges_left qs true) = omega (arith, ap length up, c.requires) in
    ap (λ l. edges_left l false) (sym (drop-drop 1 i ps)) ∙ passed_fall qs some ∙ ap (drop 1) up
