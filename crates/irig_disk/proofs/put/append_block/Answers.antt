use Rattle.irig_disk.proofs.put.append_block.Goals as goal

pub returns-clause-err : goal.returns-clause-err
returns-clause-err g c told = record {
  still = λ target mode start text w. let some = (c.in-Err.ensures.err told).still target mode start text w in (_, some.1);
}
