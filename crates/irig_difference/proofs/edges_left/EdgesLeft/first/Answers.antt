use Rattle.std.proofs.Common.{◌+◌, ◌∷◌, ◌∙◌, ap, drop, slice_get, sym}
use Rattle.irig_recording.proofs.Items.{drop-item}
use Rattle.irig_difference.specs.EdgesLeft.{edges_left}
use Rattle.irig_difference.proofs.edges_left.EdgesLeft.first.Goals as goal

pub returns-then-self : goal.returns-then-self
returns-then-self c =
    let ps = c.self.inside.pulses.now.items in let i = c.self.inside.past in let p = c.get_left-next.result in
    ap (λ es. slice_get es 0) (ap (edges_left (p ∷ drop (i + 1) ps)) (sym c.if-self.true)
    ∙ ap (λ qs. edges_left qs c.self.inside.is_high) (sym (drop-item ps i p c.get_left-next.ensures)) ∙ c.self.view_is)

pub returns-else-self : goal.returns-else-self
returns-else-self c =
    let ps = c.self.inside.pulses.now.items in let i = c.self.inside.past in let p = c.get_left-next.result in
    ap (λ es. slice_get es 0) (ap (edges_left (p ∷ drop (i + 1) ps)) (sym c.if-self.false)
    ∙ ap (λ qs. edges_left qs c.self.inside.is_high) (sym (drop-item ps i p c.get_left-next.ensures)) ∙ c.self.view_is)
