use Rattle.std.proofs.Common.{None, get_or, ap, ◌∙◌}
use Rattle.irig_candidates.specs.Rows.{carried_at}
use Rattle.irig_candidates.proofs.RowLemmas.{get-rows, past-rows}
use Rattle.irig_candidates.proofs.code.Code.row.Goals as goal

pub returns-then-element-lt100 : goal.returns-then-element-lt100
returns-then-element-lt100 c =
    ap (λ rs. get_or rs c.args.element None) c.self.invariant ∙ get-rows c.self.inside.format c.args.element c.if-element-lt100.true
    ∙ ap (λ f. carried_at f c.args.element) c.self.view_is

pub returns-else-element-lt100 : goal.returns-else-element-lt100
returns-else-element-lt100 c = past-rows c.args.self.now c.args.element c.if-element-lt100.false
