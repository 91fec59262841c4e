use Rattle.std.proofs.Common.{take}
use Rattle.irig_disk.proofs.{Results.on_err, Steps.wrote}
use Rattle.irig_disk.proofs.new_text.NewText.append.Goals as goal

pub returns-clause-ok : goal.returns-clause-ok
returns-clause-ok g c told = record {
  still = λ target mode start text w. wrote _ _ _ _ _ _ _ text c.args.part.now w (c.in_ok-appended.ensures.ok told) (c.append.ensures.time told);
}

pub returns-in_err-appended-clause-err : goal.returns-in_err-appended-clause-err
returns-in_err-appended-clause-err g c told =
    let did = c.in_err-appended.ensures.err told in
    on_err c.from_residual.result (record {
      still = λ target mode start text w. (did.0, wrote _ _ _ _ _ _ _ text (take did.0 c.args.part.now) w did.1 (c.append.ensures.time told));
    })
