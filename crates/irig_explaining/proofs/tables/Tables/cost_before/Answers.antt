use Rattle.irig_explaining.proofs.tables.Tables.cost_before.Goals as goal

pub cost_of-requires-clause-table : goal.cost_of-requires-clause-table
cost_of-requires-clause-table g c = rw c.as_slice-before.ensures.value c.requires.full.before_least
