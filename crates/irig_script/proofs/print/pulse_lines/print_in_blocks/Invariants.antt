use Rattle.std.proofs.Common.{◌≡◌, ◌-◌, ◌≤◌, length}
use Rattle.std.specs.Io.KnownBytes.{Appends}
use Rattle.irig_script.specs.Print.Listings.{list_text}
use Rattle.irig_script.proofs.print.pulse_lines.print_in_blocks.Given as goal

abbrev pub invariant-loop-done : goal.invariant-loop-done
invariant-loop-done g l = (l.done ≤ l.there) × (length l.block ≡ length l.fn.block)
    × Appends (g.W.Write.contents l.fn.out) (g.W.Write.contents l.out) (list_text l.before l.done l.session.state)

abbrev pub decreases-loop-done : goal.decreases-loop-done
decreases-loop-done g l = l.there - l.done
