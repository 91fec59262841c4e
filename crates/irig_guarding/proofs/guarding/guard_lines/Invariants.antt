use Rattle.std.proofs.Common.{◌≡◌, ◌-◌, ◌≤◌, None, drop, length, take}
use Rattle.irig_script.specs.{Obey.Machine.Machine}
use Rattle.irig_guarding.specs.{Bars.AreKept, SafeBy.IsSafeBy, Guarded.Reaches, Known.AreKnown, Reading.Lists, Repair.texts, Trials.IsTriedBefore, Undone.IsUndone}
use Rattle.irig_guarding.proofs.guarding.guard_lines.Given as goal

abbrev pub decreases-loop-at : goal.decreases-loop-at
decreases-loop-at l = length l.lines - l.at

abbrev pub invariant-loop-at : goal.invariant-loop-at
invariant-loop-at l = ((first : Machine) → IsUndone first l.fn.session → Reaches first l.out.items l.session)
    × IsSafeBy l.opened l.session.state
    × (l.session.state.format ≡ l.fn.session.state.format)
    × (l.session.floor ≡ None)
    × (l.at ≤ length l.lines)
    × AreKnown l.opened l.session.state.pulses l.known_markers.items
    × ((first : Machine) → IsUndone first l.fn.session
    → IsTriedBefore l.opened.terms first (texts (take l.at l.lines)) (texts (drop l.at l.lines)) l.out.items l.status l.session)
    × Lists l.session.state l.last
    × ((first : Machine) → IsUndone first l.fn.session → AreKept first (texts l.lines) l.kept.items l.session)
