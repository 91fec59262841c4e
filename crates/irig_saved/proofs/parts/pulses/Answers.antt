use Rattle.std.proofs.Common.{◌≡◌, ℕ, arith, subst}
use Rattle.irig_saved.specs.{Ranges.IsPulse, Ranges.ArePulses, SavedText.pulse_line, SavedText.pulse_lines, Reading.Reads}
use Rattle.irig_saved.proofs.PulseParts.{pulse_family, pulse_stops, no_pulse_stops}
use Rattle.irig_saved.proofs.{Repeats.row_begins, Repeats.row_next, Repeats.row_stops, Sequences.line_reads, Rows.one_line}
use Rattle.irig_saved.proofs.parts.pulses.Goals as goal

pub loop-init : goal.loop-init
loop-init c = rw c.new-pulses.ensures (row_begins IsPulse one_line pulse_lines pulse_family c.args.text.now)

pub loop-preserved : goal.loop-preserved
loop-preserved c =
    let one = line_reads IsPulse pulse_line c.loop.rest.now c.in-Some.line.now c.in-Some.next.now c.in-Some-pulse.pulse c.in-Some.ensures.0
    c.in-Some-pulse.ensures.0 c.in-Some-pulse.ensures.1 in
    rw c.in-Ok.ensures.pushed (row_next IsPulse one_line pulse_lines pulse_family c.loop.counter c.args.text.now c.loop.pulses c.loop.rest.now
    c.in-Some-pulse.pulse c.in-Some.next.now c.loop.invariant one)

pub returns-in_default : goal.returns-in_default
returns-in_default c =
    row_stops IsPulse one_line pulse_lines pulse_family c.loop.counter c.args.count c.args.text.now c.loop.pulses c.loop.rest.now c.loop.rest.now (omega arith)
    c.loop.invariant
    (no_pulse_stops c.loop.rest.now c.in_default.ensures)

pub returns-in_default-pulse : goal.returns-in_default-pulse
returns-in_default-pulse c =
    row_stops IsPulse one_line pulse_lines pulse_family c.loop.counter c.args.count c.args.text.now c.loop.pulses c.loop.rest.now c.loop.rest.now (omega arith)
    c.loop.invariant
    (pulse_stops c.loop.rest.now c.in-Some.line.now c.in-Some.next.now c.in-Some.ensures.0 c.in-Some.ensures.1 c.in_default-pulse.ensures)

pub returns : goal.returns
returns c =
    let end : c.loop.counter ≡ c.args.count = omega arith in
    let P : ℕ → Type 0 = λ n. Reads (ArePulses n) pulse_lines c.args.text.now c.loop.pulses c.loop.rest.now in
    subst P end c.loop.invariant
