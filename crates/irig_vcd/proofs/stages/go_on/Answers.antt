use Rattle.std.proofs.Common.{List, false, subst}
use Rattle.irig_vcd.specs.{Code.Scanned.HasScanned, Code.Scanned.StandsAt, Scan.Scan, Words.Word, Words.words_from}
use Rattle.irig_vcd.proofs.PartSteps.{goes_on, goes_wrong}
use Rattle.irig_vcd.proofs.stages.go_on.Goals as goal

pub returns : goal.returns
returns c =
    let ws = words_from c.args.gone false c.args.part.now in
    let scans : (s : Scan) → StandsAt c.args.unit s c.args.reading.now → HasScanned c.args.code.now c.args.unit s ws c.read.result c.read.new.self =
    λ s at. subst (λ (l : List Word). HasScanned c.args.code.now c.args.unit s l c.read.result c.read.new.self) c.after-tokens.ensures
    (c.read.ensures.scans s at) in
    record {
      extent = c.read.ensures.extent;
      time = c.read.ensures.time;
      read = goes_on c.read.result c.args.unit c.args.code.now ws c.args.reading.now c.read.new.self scans;
      fault = goes_wrong c.read.result c.args.unit c.args.code.now ws c.args.reading.now c.read.new.self scans;
    }
