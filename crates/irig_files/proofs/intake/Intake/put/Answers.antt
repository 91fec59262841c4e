use Rattle.std.proofs.Common.{rules, arith, ◌++◌, ◌∙◌, Result, length-append, subst, sym}
use Rattle.irig_vcd.specs.{declared.fault.VcdFault.VcdFault, declared.progress.Progress.Progress}
use Rattle.irig_files.specs.Reads.{AreRead}
use Rattle.irig_files.proofs.{Intakes.still_faulty, intake.Intake.put.Goals.in-Ok+in_ok-dump-in-Ok, intake.Intake.put.Goals.in-Err}
use Rattle.irig_files.proofs.intake.Intake.put.Goals as goal

pub returns-clause-taken : goal.returns-clause-taken
returns-clause-taken c = λ wire bytes h.
    let read = subst (λ (d : Result Progress VcdFault). AreRead c.args.self.now.extent wire bytes d) (sym c.replace.ensures.value) h.dump in
    let bytes_now = bytes ++ c.args.part.now in
    record {
      dump = elim c.match-replace.branch [
        | in-Ok+in_ok-dump-in-Ok w ↦ search (rules, read)
        | in-Err w ↦
            let fault = subst (λ (d : Result Progress VcdFault). AreRead c.args.self.now.extent wire bytes d) w.in-Err.is read in
            subst (λ (d : Result Progress VcdFault). AreRead c.args.self.now.extent wire bytes_now d) (sym (c.replace-2.ensures.after ∙ w.dump-is))
            (still_faulty c.args.self.now.extent wire bytes c.args.part.now _ fault)
      ];
      left = omega (arith, h.left, length-append bytes c.args.part.now, c.requires.wanted);
    }
