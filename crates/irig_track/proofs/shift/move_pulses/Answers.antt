use Rattle.std.proofs.Common.{arith, ◌≡◌, ◌∙◌, ◌+◌, ◌-◌, ◌^◌, ap, sym, slice_get, slice_set, Some}
use Rattle.irig_gap.specs.Items.{GapView, gap_view}
use Rattle.irig_recording.specs.declared.pulse.Pulse.{Pulse}
use Rattle.irig_track.specs.Edges.{pulse}
use Rattle.irig_track.proofs.MovedPulses.{next_unmoved, more_moved}
use Rattle.irig_track.proofs.{Places.rise_within, Places.pulse_within, shift.move_pulses.Goals.After-get-pulse}
use Rattle.irig_track.proofs.shift.move_pulses.Goals as goal

-- the pulse that is read is the next one to be moved
is_next : (c : After-get-pulse) → slice_get c.args.pulses.now.items (c.args.at + c.loop-moved.moved) ≡ Some c.get-pulse.result
is_next c =
    let k = c.args.at + c.loop-moved.moved in
    sym (next_unmoved c.args.on c.args.off c.args.at c.loop-moved.moved c.args.pulses.now.items (omega arith))
    ∙ sym (ap (λ (w : GapView Pulse). slice_get w.items k) c.loop-moved.invariant.1) ∙ c.get-pulse.ensures

pub overflow_add-pulse : goal.overflow_add-pulse
overflow_add-pulse c =
    let is = is_next (goal.at.overflow_add-pulse c).After-get-pulse in
    omega (arith, rise_within (2 ^ 40) (c.args.at + c.loop-moved.moved) c.get-pulse.result c.args.pulses.now.items c.requires.short is)

pub overflow_add-pulse-in-loop-moved : goal.overflow_add-pulse-in-loop-moved
overflow_add-pulse-in-loop-moved c =
    let is = is_next (goal.at.overflow_add-pulse-in-loop-moved c).After-get-pulse in
    omega (arith, pulse_within (2 ^ 40) (c.args.at + c.loop-moved.moved) c.get-pulse.result c.args.pulses.now.items c.requires.short is)

pub loop-moved-preserved : goal.loop-moved-preserved
loop-moved-preserved c =
    let i = c.loop-moved.invariant in let ps = c.args.pulses.now.items in let k = c.args.at + c.loop-moved.moved in
    let is = is_next (goal.at.loop-moved-preserved c).After-get-pulse in
    let rise : c.saturating_sub-rise.result ≡ c.get-pulse.result.rise + c.args.on - c.args.off = c.saturating_sub-rise.ensures in
    let fall : c.saturating_sub-fall.result ≡ c.get-pulse.result.fall + c.args.on - c.args.off = c.saturating_sub-fall.ensures in (
      omega arith,
      c.set.ensures
          ∙ (λ t. gap_view (slice_set (i.1 t).items k (pulse (rise t) (fall t))) (i.1 t).place (i.1 t).capacity)
          ∙ ap (λ qs. gap_view qs c.args.pulses.now.place c.args.pulses.now.capacity)
          (more_moved c.args.on c.args.off c.args.at c.loop-moved.moved c.get-pulse.result ps is),
    )
