use Rattle.std.proofs.Common.{◌+◌, sym, subst, arith}
use Rattle.std.specs.Prelude.{Err}
use Rattle.irig_stamps.specs.{Named.IsPlace, Named.has_name, declared.fault.RunFault.RunFault}
use Rattle.irig_stamps.proofs.Places.{later-column, named-at, two-of-more}
use Rattle.irig_stamps.proofs.finding.named_column.Goals as goal

pub returns-in-Err : goal.returns-in-Err
returns-in-Err c =
    let has = has_name c.args.comma c.args.name.now c.args.line.now in
    let i = c.loop-place.invariant in
    let named = named-at c.args.comma c.loop-place.place c.args.name.now c.args.line.now c.loop-place.left.now c.column.result.now
    c.is_named-named.result c.is_named-named.ensures c.column.ensures i.left in
    let next = c.in-Err.ensures has named i.found in
    subst (λ (f : RunFault). IsPlace has 65536 (Err f)) (sym next.0)
    (two-of-more has (c.loop-place.place + 1) 65536 (omega (arith, c.loop-place-test.true)) next.1)

pub loop-place-preserved : goal.loop-place-preserved
loop-place-preserved c =
    let has = has_name c.args.comma c.args.name.now c.args.line.now in
    let i = c.loop-place.invariant in
    let named = named-at c.args.comma c.loop-place.place c.args.name.now c.args.line.now c.loop-place.left.now c.column.result.now
    c.is_named-named.result c.is_named-named.ensures c.column.ensures i.left in
    record {
      left = later-column c.args.comma c.loop-place.place c.args.line.now c.loop-place.left.now c.after_first-left.result.now c.after_first-left.ensures i.left;
      found = c.in-Ok.ensures has named i.found;
    }
