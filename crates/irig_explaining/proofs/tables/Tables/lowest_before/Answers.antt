use Rattle.irig_explaining.proofs.tables.Tables.lowest_before.Goals as goal

pub lowest_node-requires-clause-sorted : goal.lowest_node-requires-clause-sorted
lowest_node-requires-clause-sorted g c = rw c.as_slice.ensures.value c.requires.full.before_least.sorted

pub returns-clause-low : goal.returns-clause-low
returns-clause-low g c = rw c.as_slice.ensures.value at c.lowest_node.ensures.low
