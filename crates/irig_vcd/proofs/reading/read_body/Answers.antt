use Rattle.std.proofs.Common.{◌≡◌, ◌∙◌, None, ap, sym, subst}
use Rattle.std.proofs.lemmas.Result.{IfOk-weaker}
use Rattle.irig_vcd.specs.declared.fault.VcdFault.TheVariants.{OutOfMemory}
use Rattle.irig_vcd.specs.{Code.Scanned.Stops, Code.Journals.Holds, Code.Trace.KeepsEdges, Extent.short, Level.HasEdge, Scan.scan_ended, Scan.scan_words, Scan.start}
use Rattle.irig_vcd.proofs.ScanSteps.{stopped_so}
use Rattle.irig_vcd.proofs.reading.read_body.Goals as goal

pub read-requires : goal.read-requires
read-requires c = record { time = c.new-reading.ensures.time c.args.unit }

pub returns-in-Ok : goal.returns-in-Ok
returns-in-Ok c =
    let r = c.in-Ok.ensures.scans start (c.new-reading.ensures.start c.args.unit) in
    let f = c.finish.ensures in
    let end = sym r.1 in
    record {
      exact = subst (λ x. KeepsEdges (short None) c.finish.result (scan_ended c.args.unit x)) end (subst (λ w. KeepsEdges w c.finish.result
          (scan_ended c.args.unit (r.0, None))) (c.read.ensures.extent ∙ (c.new-reading.ensures.extent ∙ c.short.ensures)) (f.exact r.0 r.2));
      journals = IfOk-weaker c.finish.result _ _ (λ x holds. subst (λ y. Holds y.0.journals x.journals) end (holds r.0 r.2)) f.journals;
      whole = IfOk-weaker c.finish.result _ _ (λ x short. ap (λ y. y.1) r.1) f.short;
      short = f.short;
      memory = λ memory. subst (λ x. HasEdge x.0.changes) end (f.memory memory r.0 r.2);
    }

pub returns-in-Err : goal.returns-in-Err
returns-in-Err c =
    let end = scan_words c.args.code.now c.args.unit start c.args.tokens.now in
    let stops = c.in-Err.ensures.scans start (c.new-reading.ensures.start c.args.unit) in
    record {
      exact = stopped_so end c.args.unit c.in-Err.fault stops;
      journals = tt;
      whole = tt;
      short = tt;
      memory = λ memory.
          let is : c.in-Err.fault ≡ OutOfMemory = cc memory in
          let e = subst (λ f. Stops c.args.unit end f) is stops in
          (e.at, e.high);
    }
