use Rattle.std.proofs.Common.{◌≡◌, ◌≤◌, ◌+◌, ◌-◌, ℕ, suc, slice_get, Some, arith, refl, sym, ap, ◌∙◌}
use Rattle.std.proofs.lemmas.Option.{same_Some, slice_get-get_or, slice_get_within}
use Rattle.irig_timed.specs.declared.run.Run.{Run}
use Rattle.irig_timed.proofs.AroundRuns.{between-is, inside-is}
use Rattle.irig_timed.proofs.RunPlaces.{none-run}
use Rattle.irig_timed.proofs.around.Around.of.Goals as goal
use Rattle.irig_timed.proofs.around.Around.of.Goals.{then-place-gt0+else-over-run, else-place-gt0}

pub overflow_sub-over : goal.overflow_sub-over
overflow_sub-over c =
    let p = c.runs_before-place.result - 1 in
    let here = slice_get-get_or c.args.runs.now p none-run (omega (arith, c.if-place-gt0.true, c.runs_before-place.ensures.within)) in
    let low = c.runs_before-place.ensures.parted.before p _ here (omega (arith, c.if-place-gt0.true)) in
    omega (arith, low)

pub overflow_sub-over-then-over-run : goal.overflow_sub-over-then-over-run
overflow_sub-over-then-over-run c =
    let p = c.runs_before-place.result - 1 in
    let here = slice_get-get_or c.args.runs.now p none-run (omega (arith, c.if-place-gt0.true, c.runs_before-place.ensures.within)) in
    let low = c.runs_before-place.ensures.parted.before p _ here (omega (arith, c.if-place-gt0.true)) in
    omega (arith, low)

pub nth_of-requires : goal.nth_of-requires
nth_of-requires c =
    let p = c.runs_before-place.result - 1 in
    let here = slice_get-get_or c.args.runs.now p none-run (omega (arith, c.if-place-gt0.true, c.runs_before-place.ensures.within)) in
    let run = c.requires.known.5.are_runs.each p _ here in
    let low = run.low in let few = run.few in
    (omega (arith, low, c.if-over-run.true), omega (arith, few, c.if-over-run.true))

pub nth_of-requires-then-over-run : goal.nth_of-requires-then-over-run
nth_of-requires-then-over-run c =
    let p = c.runs_before-place.result - 1 in
    let here = slice_get-get_or c.args.runs.now p none-run (omega (arith, c.if-place-gt0.true, c.runs_before-place.ensures.within)) in
    let run = c.requires.known.5.are_runs.each p _ here in
    let low = run.low in let few = run.few in
    (omega (arith, low, c.if-over-run.true), omega (arith, few, c.if-over-run.true))

pub returns-then-over-run : goal.returns-then-over-run
returns-then-over-run c = record {
  around = λ f century ps believed held known.
      let p = c.runs_before-place.result - 1 in
      let here = slice_get-get_or c.args.runs.now p none-run (omega (arith, c.if-place-gt0.true, c.runs_before-place.ensures.within)) in
      let low = c.runs_before-place.ensures.parted.before p _ here (omega (arith, c.if-place-gt0.true)) in
      inside-is f century ps believed held c.args.runs.now c.args.gaps.now known c.args.risen p _ _ here low refl c.if-over-run.true
      c.nth_of.result c.nth_of-then-over-run.result c.nth_of.ensures c.nth_of-then-over-run.ensures;
}

pub bounds-gaps-place : goal.bounds-gaps-place
bounds-gaps-place c =
    let known = c.requires.known.5 in
    slice_get_within c.args.gaps.now c.runs_before-place.result _ (known.are_gaps c.runs_before-place.result c.runs_before-place.ensures.within)

pub returns : goal.returns
returns c = record {
  around = λ f century ps believed held known.
      let place = c.runs_before-place.result in
      let within = c.runs_before-place.ensures.within in
      let parted = c.runs_before-place.ensures.parted in
      let inside = slice_get_within c.args.gaps.now place _ (known.are_gaps place within) in
      let ended : (p : ℕ) (r : Run) → slice_get c.args.runs.now p ≡ Some r → suc p ≡ place → r.number + r.count ≤ c.args.risen = λ p r at last.
      elim c.if-place-gt0.branch [
        | then-place-gt0+else-over-run w ↦
            let here = slice_get-get_or c.args.runs.now (place - 1) none-run (omega (arith, within, last)) in
            let same_at : p ≡ place - 1 = omega (arith, last) in
            let same = same_Some r _ (sym at ∙ (ap (λ (j : ℕ). slice_get c.args.runs.now j) same_at ∙ here)) in
            let numbers = ap (λ (z : Run). z.number) same in
            let counts = ap (λ (z : Run). z.count) same in
            let low = parted.before (place - 1) _ here (omega (arith, last)) in
            omega (arith, numbers, counts, low, w.if-over-run.false)
        | else-place-gt0 w ↦ absurd (omega (arith, w.if-place-gt0.false, last))
      ] in
      between-is f century ps believed held c.args.runs.now c.args.gaps.now known c.args.risen place within parted ended
      c.place_before.result c.place_at.result _ c.place_before.ensures c.place_at.ensures (slice_get-get_or c.args.gaps.now place _ inside);
}
