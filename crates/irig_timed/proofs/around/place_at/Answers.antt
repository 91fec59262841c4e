use Rattle.std.proofs.Common.{Some, arith, ap, sym, ◌∙◌}
use Rattle.std.specs.Prelude.{option_map}
use Rattle.std.proofs.lemmas.Option.{slice_get-get_or, slice_get_past}
use Rattle.irig_timed.specs.Runs.{first_of}
use Rattle.irig_timed.proofs.RunPlaces.{none-run}
use Rattle.irig_timed.proofs.around.place_at.Goals as goal

pub nth_of-requires : goal.nth_of-requires
nth_of-requires c =
    let here = slice_get-get_or c.args.runs.now c.args.place none-run (omega (arith, c.if-place-runs.true)) in
    let run = c.requires.2.each c.args.place _ here in
    let some = run.some in let low = run.low in let few = run.few in
    (omega (arith, some, low), omega (arith, few))

pub returns-then-place-runs : goal.returns-then-place-runs
returns-then-place-runs c =
    let here = slice_get-get_or c.args.runs.now c.args.place none-run (omega (arith, c.if-place-runs.true)) in
    ap Some c.nth_of.ensures ∙ sym (ap (option_map first_of) here)

pub returns-else-place-runs : goal.returns-else-place-runs
returns-else-place-runs c =
    sym (ap (option_map first_of) (slice_get_past c.args.runs.now c.args.place (omega (arith, c.if-place-runs.false))))
