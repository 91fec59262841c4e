use Rattle.std.proofs.Common.{length, ap, sym, ◌∙◌, arith}
use Rattle.irig_journal.specs.Journal.{future_of}
use Rattle.irig_journal.proofs.SideLemmas.{length-told}
use Rattle.irig_journal.proofs.journal.Journal.steps_forward.Goals as goal

pub returns : goal.returns
returns g c =
    let d = g.R.Reversible.delta in
    let future = c.self.inside.future in
    omega (arith, c.len.ensures, ap (λ j. length (future_of d j)) (sym c.self.view_is) ∙ length-told d future.changes.items future.entries.items)
