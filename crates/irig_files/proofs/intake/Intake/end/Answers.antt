use Rattle.std.proofs.Common.{◌≡◌, None, Result, ap, subst, sym}
use Rattle.std.specs.Prelude.{Ok, Err, IfOk}
use Rattle.irig_vcd.specs.{Code.DumpReader.HasRead, declared.fault.VcdFault.VcdFault, declared.progress.Progress.Progress}
use Rattle.irig_files.specs.Reads.{AreRead}
use Rattle.irig_files.proofs.Intakes.{fault_at_end, fault_of_heading, handed_on}
use Rattle.irig_files.proofs.intake.Intake.end.Goals as goal

pub returns-in-Err-clause-read : goal.returns-in-Err-clause-read
returns-in-Err-clause-read c = λ wire bytes h. fault_at_end c.args.self.extent wire bytes c.args.self.dump c.in-Err.fault c.in-Err.is h.dump

pub returns-in-Ok-clause-heading : goal.returns-in-Ok-clause-heading
returns-in-Ok-clause-heading c = λ wire bytes e taken new more other is.
    let reader = sym c.in-Ok.reader-is in
    let read = subst (λ (d : Progress). HasRead wire bytes d) reader
    ((subst (λ (d : Result Progress VcdFault). AreRead c.args.self.extent wire bytes d) c.in-Ok.is taken.dump).1) in
    let none = subst (λ (d : Progress). d.unit ≡ None) reader
    (subst (λ (d : Result Progress VcdFault). IfOk d (λ r. r.unit ≡ None)) c.in-Ok.is new) in
    let told = c.end.ensures.heading wire bytes e read none is in
    handed_on c.end.result e c.unless_short.result c.unless_short.ensures.same c.unless_short.ensures.only told other

pub returns-in-Err-clause-heading : goal.returns-in-Err-clause-heading
returns-in-Err-clause-heading c = λ wire bytes e taken new more other is.
    ap (λ fault. Ok (Err fault)) (fault_of_heading c.args.self.extent wire bytes c.args.self.dump c.in-Err.fault e c.in-Err.is taken.dump is)
