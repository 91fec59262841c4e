use Rattle.std.proofs.Common.{arith, ap, ◌∙◌, length, inr}
use Rattle.irig_gap.proofs.GapLemmas.{shows, anywhere_step, run_right, down_step}
use Rattle.irig_gap.proofs.gap.Gap.leap_right.Goals as goal

pub invariant_of-self : goal.invariant_of-self
invariant_of-self g c =
    let s = shows _ _ _ _ c.self.view_is c.self.invariant.0 in (
      (anywhere_step _ _ _ _ c.self.view_is c.self.invariant.0 c.args.place (omega (arith, c.if-free-eq0.true)) c.requires.1).0,
      c.self.invariant.1,
      c.self.invariant.2,
      c.self.invariant.3,
    )

pub returns-then-free-eq0-clause-view : goal.returns-then-free-eq0-clause-view
returns-then-free-eq0-clause-view g c =
    let s = shows _ _ _ _ c.self.view_is c.self.invariant.0 in
    (anywhere_step _ _ _ _ c.self.view_is c.self.invariant.0 c.args.place (omega (arith, c.if-free-eq0.true)) c.requires.1).1

pub move_run-requires-clause-inside : goal.move_run-requires-clause-inside
move_run-requires-clause-inside g c = let s = shows _ _ _ _ c.self.view_is c.self.invariant.0 in
    (omega (arith, c.min-count.ensures, c.requires.1), omega (arith, c.min-count.ensures, c.requires.1))

pub move_run-requires-clause-apart : goal.move_run-requires-clause-apart
move_run-requires-clause-apart g c = inr (omega (arith, c.min-count.ensures))

pub move_run-requires-clause-full : goal.move_run-requires-clause-full
move_run-requires-clause-full g c = run_right _ _ _ _ c.self.view_is c.self.invariant.0 c.min-count.result

pub overflow_add-self-2 : goal.overflow_add-self-2
overflow_add-self-2 g c = let s = shows _ _ _ _ c.self.view_is c.self.invariant.0 in
    omega (arith, c.min-count.ensures, c.requires.1, c.self.invariant.1, c.self.invariant.2)

pub invariant_of-self-2 : goal.invariant_of-self-2
invariant_of-self-2 g c =
    let s = shows _ _ _ _ c.self.view_is c.self.invariant.0 in
    let held = down_step _ _ _ _ c.self.view_is c.self.invariant.0 c.min-count.result (omega (arith, c.min-count.ensures))
    (omega (arith, c.min-count.ensures, c.requires.1)) in (
      rw c.move_run.ensures.slots held.1.0,
      ap length c.move_run.ensures.slots ∙ held.0 ∙ c.self.invariant.1,
      c.self.invariant.2,
      rw c.move_run.ensures.start c.self.invariant.3,
    )

pub returns-clause-view : goal.returns-clause-view
returns-clause-view g c =
    let s = shows _ _ _ _ c.self.view_is c.self.invariant.0 in
    let held = down_step _ _ _ _ c.self.view_is c.self.invariant.0 c.min-count.result (omega (arith, c.min-count.ensures))
    (omega (arith, c.min-count.ensures, c.requires.1)) in
    rw c.move_run.ensures.slots held.1.1
