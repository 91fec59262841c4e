use Rattle.irig_explaining.proofs.tables.Tables.explain.Goals as goal

pub cheapest_of-requires-clause-table : goal.cheapest_of-requires-clause-table
cheapest_of-requires-clause-table g c = rw c.as_slice.ensures.value c.requires.full.before_least
