use Rattle.std.proofs.Common.{◌∙◌, List, Option, ap, arith, refl, slice_get, subst, sym}
use Rattle.irig_edit.specs.State.State.{State}
use Rattle.irig_agreement.specs.declared.fault.Fault.{Fault}
use Rattle.irig_safety.specs.Original.{OriginalView}
use Rattle.irig_guarding.specs.{Bars.AreBars, Guarded.IsSafeAfter, Judged.is_judged_by, Reading.original_of, Repair.texts}
use Rattle.irig_guarding.proofs.{BackLemmas.reached_back, BarLemmas.agree_so, BarLemmas.bars_here, BarLemmas.bars_none, BarLemmas.empty_of, BarLemmas.have_led_to}
use Rattle.irig_guarding.proofs.UndoneLemmas.{undone_work}
use Rattle.irig_guarding.proofs.rounds.guard_until_agreed.Goals as goal

pub loop-round-init : goal.loop-round-init
loop-round-init c = (
  undone_work c.args.session.now c.args.session.now refl,
  subst (λ (l : List (Option Fault)). AreBars c.args.opened.now.pulses c.args.session.now.state.format (texts c.args.lines.now) l)
      (sym c.new-bars.ensures.items)
      (bars_none c.args.opened.now.pulses c.args.session.now.state.format (texts c.args.lines.now)),
)

pub guard_once-requires-clause-closed : goal.guard_once-requires-clause-closed
guard_once-requires-clause-closed c = c.loop-round.invariant.0.same.floor ∙ c.requires.closed

pub guard_once-requires-clause-opened : goal.guard_once-requires-clause-opened
guard_once-requires-clause-opened c = c.requires.opened ∙ ap (original_of c.args.opened.now.terms) (sym c.loop-round.invariant.0.same.state)

pub guard_once-requires-clause-bars : goal.guard_once-requires-clause-bars
guard_once-requires-clause-bars c =
    bars_here c.args.opened.now.pulses c.args.session.now.state.format c.loop-round.session.state.format _ c.loop-round.bars.items _
    (ap (λ (s : State). s.format) c.loop-round.invariant.0.same.state) c.deref.ensures.value c.loop-round.invariant.1

pub returns-then-is_empty-clause-reaches : goal.returns-then-is_empty-clause-reaches
returns-then-is_empty-clause-reaches c = c.in_ok-done.ensures.reaches c.args.session.now c.loop-round.invariant.0

pub returns-then-is_empty-clause-safe : goal.returns-then-is_empty-clause-safe
returns-then-is_empty-clause-safe c =
    subst (λ (s : State). IsSafeAfter c.args.opened.now.terms s c.guard_once.new.session.state) c.loop-round.invariant.0.same.state
    c.in_ok-done.ensures.safe

pub returns-then-is_empty-clause-tried : goal.returns-then-is_empty-clause-tried
returns-then-is_empty-clause-tried c = c.in_ok-done.ensures.tried c.args.session.now c.loop-round.invariant.0

pub returns-then-is_empty-clause-judged : goal.returns-then-is_empty-clause-judged
returns-then-is_empty-clause-judged c =
    c.in_ok-done.ensures.judged ∙ ap (λ (s : State). is_judged_by s c.guard_once.new.session.state) c.loop-round.invariant.0.same.state

pub returns-then-is_empty-clause-agrees : goal.returns-then-is_empty-clause-agrees
returns-then-is_empty-clause-agrees c = λ unmoved.
    agree_so c.args.session.now.state c.args.recorded.now c.guard_once.new.session.state.pulses c.requires.recorded
    (c.in_ok-faults.ensures.agree (empty_of c.in_ok-faults.faults.items c.in_ok-faults.faults.len _ (omega (arith, c.in_ok-faults.faults.ok.0))
    c.is_empty.ensures c.if-is_empty.true) unmoved)

pub loop-round-preserved : goal.loop-round-preserved
loop-round-preserved c =
    let first = c.args.session.now in
    let reached = c.in_ok-done.ensures.reaches first c.loop-round.invariant.0 in
    let kept = c.in_ok-done.ensures.kept first c.loop-round.invariant.0 in (
      c.undo_to.ensures first c.requires.closed c.steps_back-steps.ensures (reached_back first _ _ c.requires.closed reached),
      c.in_ok-bar_near.ensures c.args.opened.now.pulses first.state.format (texts c.args.lines.now)
          (λ i why e. have_led_to first _ _ c.args.recorded.now _ _ _ why c.deref-in-loop-round.ensures.value
          (ap (λ (o : OriginalView). o.pulses) c.requires.opened) c.requires.recorded kept
          (c.in_ok-faults.ensures.faults i why (ap (λ (l : List Fault). slice_get l i) (sym c.deref-in-loop-round-2.ensures.value) ∙ e)))
          c.loop-round.invariant.1,
    )
