use Rattle.std.proofs.Common.{◌≡◌, ◌-◌, ◌*◌, ◌≤◌, length, drop}
use Rattle.irig_script.specs.Print.Listings.{list_text}
use Rattle.irig_script.proofs.print.pulse_lines.write_pulses.Given as goal

abbrev pub invariant-loop-back : goal.invariant-loop-back
invariant-loop-back l =
    (72 * (l.count - l.back) ≤ l.start) × (l.start ≤ length l.bytes) × (length l.bytes ≡ length l.fn.bytes)
    × (drop l.start l.bytes ≡ list_text (l.last - l.back) l.back l.session.state)
