use Rattle.std.proofs.Common.{◌≡◌, ◌-◌, Some, suc, arith, ap, sym, ◌∙◌}
use Rattle.std.specs.Prelude.{option_map}
use Rattle.std.proofs.lemmas.Option.{slice_get-get_or, slice_get_past}
use Rattle.irig_timed.specs.Runs.{last_of, place_before}
use Rattle.irig_timed.proofs.RunPlaces.{none-run}
use Rattle.irig_timed.proofs.around.place_before.Goals as goal

pub returns-then-place-eq0 : goal.returns-then-place-eq0
returns-then-place-eq0 c = sym (ap (place_before c.args.runs.now) c.if-place-eq0.true)

pub returns-then-runs-place : goal.returns-then-runs-place
returns-then-runs-place c =
    let is : c.args.place ≡ suc (c.args.place - 1) = omega (arith, c.if-place-eq0.false) in
    sym (ap (place_before c.args.runs.now) is
    ∙ ap (option_map last_of) (slice_get_past c.args.runs.now (c.args.place - 1) (omega (arith, c.if-runs-place.true))))

pub nth_of-requires : goal.nth_of-requires
nth_of-requires c =
    let here = slice_get-get_or c.args.runs.now (c.args.place - 1) none-run (omega (arith, c.if-place-eq0.false, c.if-runs-place.false)) in
    let run = c.requires.2.each (c.args.place - 1) _ here in
    let some = run.some in let low = run.low in let few = run.few in
    (omega (arith, some, low), omega (arith, some, few))

pub returns : goal.returns
returns c =
    let is : c.args.place ≡ suc (c.args.place - 1) = omega (arith, c.if-place-eq0.false) in
    let here = slice_get-get_or c.args.runs.now (c.args.place - 1) none-run (omega (arith, c.if-place-eq0.false, c.if-runs-place.false)) in
    ap Some c.nth_of.ensures ∙ sym (ap (place_before c.args.runs.now) is ∙ ap (option_map last_of) here)
