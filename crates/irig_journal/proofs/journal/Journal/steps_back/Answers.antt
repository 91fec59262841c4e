use Rattle.std.proofs.Common.{length, ap, sym, ◌∙◌, arith}
use Rattle.irig_journal.specs.Journal.{past_of}
use Rattle.irig_journal.proofs.SideLemmas.{length-told}
use Rattle.irig_journal.proofs.journal.Journal.steps_back.Goals as goal

pub returns : goal.returns
returns g c =
    let d = g.R.Reversible.delta in
    let past = c.self.inside.past in
    omega (arith, c.len.ensures, ap (λ j. length (past_of d j)) (sym c.self.view_is) ∙ length-told d past.changes.items past.entries.items)
