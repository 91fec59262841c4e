use Rattle.std.proofs.Common.{◌≡◌, ◌++◌, ◌-◌, drop}
use Rattle.irig_track.specs.Texts.{lines_after}
use Rattle.irig_track.proofs.track_text.put_pulses.Given as goal

-- the text so far, with the lines that are still to come
abbrev pub invariant-loop-next : goal.invariant-loop-next
invariant-loop-next l =
    l.text.items ++ lines_after l.writer.last (drop l.next l.track.pulses) l.track.micros
    ≡ l.fn.text.items ++ lines_after l.fn.writer.last (drop l.first l.track.pulses) l.track.micros

abbrev pub decreases-loop-next : goal.decreases-loop-next
decreases-loop-next l = l.count - l.next
