use Rattle.std.proofs.Common.{◌∙◌, arith, refl}
use Rattle.irig_guarding.proofs.BarLemmas.{bar_so, kept_none, kept_step, repair_here}
use Rattle.irig_guarding.proofs.GuardLemmas.{safe_at_first, safe_then, stands_head, stands_tried}
use Rattle.irig_guarding.proofs.TrialLemmas.{known_first, tried_all, tried_none, tried_step}
use Rattle.irig_guarding.specs.Repair.{texts}
use Rattle.irig_guarding.proofs.guarding.guard_lines.Goals as goal

pub loop-at-init : goal.loop-at-init
loop-at-init c = (
  λ first undone. stands_head first c.args.session.now c.args.opened.now.frames _ undone c.requires.head,
  safe_at_first c.args.session.now.state _ c.requires.opened,
  refl,
  c.requires.closed,
  omega arith,
  c.requires.known,
  λ first undone. tried_none first c.args.session.now c.args.opened.now _ _ undone c.requires.opened c.requires.head,
  c.requires.lists,
  λ first undone. kept_none first c.args.session.now (texts c.args.lines.now) c.args.kept.now.items c.requires.kept,
)

pub guard_repair-requires-clause-barred : goal.guard_repair-requires-clause-barred
guard_repair-requires-clause-barred c =
    bar_so c.args.opened.now.pulses c.args.session.now.state.format c.loop-at.session.state.format (texts c.args.lines.now) _ c.args.bars.now c.loop-at.at _
    c.bar_at.ensures c.requires.bars
    (repair_here c.args.lines.now c.loop-at.at _ c.repair_end-end.ensures.more c.repair_end-end.ensures.cut) c.loop-at.invariant.2

pub loop-at-preserved : goal.loop-at-preserved
loop-at-preserved c =
    let s = c.loop-at.invariant in (
      λ first undone. stands_tried first c.args.opened.now _ _ _ _ _ _ c.in_ok-dropped.ensures.tried c.in_ok-dropped.ensures.printed (s.0 first undone),
      c.guard_repair.ensures.safe,
      c.guard_repair.ensures.format ∙ s.2,
      c.guard_repair.ensures.closed,
      c.repair_end-end.ensures.within,
      c.guard_repair.ensures.known,
      λ first undone. tried_step first c.args.opened.now c.args.lines.now _ _ _ _ _ _ _ _ _
          (known_first first c.args.session.now c.args.opened.now undone c.requires.opened) c.repair_end-end.ensures.more (s.6 first undone)
          c.repair_end-end.ensures.cut
          c.in_ok-dropped.ensures.tried c.in_ok-dropped.ensures.printed c.status_with-status.ensures,
      c.guard_repair.ensures.lists,
      λ first undone. kept_step c.args.opened.now first _ _ _ (texts c.args.lines.now) _ _ c.loop-at.kept.items _ c.loop-at.at c.in_ok-dropped.ensures.tried
          (s.0 first undone)
          (repair_here c.args.lines.now c.loop-at.at _ c.repair_end-end.ensures.more c.repair_end-end.ensures.cut) c.in_ok-add_kept.ensures.kept
          (s.8 first undone),
    )

pub returns-clause-stands : goal.returns-clause-stands
returns-clause-stands c = c.loop-at.invariant.0

pub returns-clause-closed : goal.returns-clause-closed
returns-clause-closed c = c.loop-at.invariant.3

pub returns-clause-lists : goal.returns-clause-lists
returns-clause-lists c = c.loop-at.invariant.7

pub returns-clause-kept : goal.returns-clause-kept
returns-clause-kept c = c.loop-at.invariant.8

pub returns-clause-safe : goal.returns-clause-safe
returns-clause-safe c =
    let s = c.loop-at.invariant in safe_then c.args.session.now.state _ c.args.opened.now c.requires.opened s.2 s.1

pub returns-clause-tried : goal.returns-clause-tried
returns-clause-tried c = λ first undone.
    tried_all c.args.opened.now.terms first c.args.lines.now _ _ _ _ c.loop-at-test.false (c.loop-at.invariant.6 first undone)
