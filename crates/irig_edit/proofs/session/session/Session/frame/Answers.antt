use Rattle.std.proofs.Common.{List, ◌-◌, ◌∙◌, ap, arith, slice_get, sym}
use Rattle.irig_index.specs.declared.record.Record.{Record}
use Rattle.irig_edit.proofs.EditLemmas.Markers.{marker_within}
use Rattle.irig_edit.proofs.session.session.Session.frame.Goals as goal

pub overflow_add-result : goal.overflow_add-result
overflow_add-result c =
    let there = ap (λ (rs : List Record). slice_get rs (c.args.number - 1)) (sym c.index.ensures) ∙ c.record-record.ensures in
    omega (arith, marker_within c.self.inside.present.state (c.args.number - 1) c.record-record.result c.self.invariant.0.state there)
