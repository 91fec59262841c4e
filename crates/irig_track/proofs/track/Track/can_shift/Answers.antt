use Rattle.std.proofs.Common.{arith, ◌≡◌, ◌+◌, ◌<◌, ◌≤◌, ◌∙◌, ap, length, w64, drop, refl}
use Rattle.std.proofs.lemmas.{Bool.leb-true, Bool.lt-ltb, Bool.ltb-true, Int.to_z-of_z}
use Rattle.irig_track.specs.{Edges.edges_of, Free.first_or, Shifts.ahead, Shifts.back}
use Rattle.irig_track.proofs.{Allowed.shift_stands, Allowed.stands_shift, track.Track.can_shift.Goals.After-back_of-back}
use Rattle.irig_track.proofs.track.Track.can_shift.Goals as goal

-- how far the pulses move
distances : (c : After-back_of-back)
    → (c.ahead_of.result ≡ ahead c.args.by) × (c.ahead_of-2.result ≡ ahead c.args.by) × (c.back_of-back.result ≡ back c.args.by)
distances c =
    let same = to_z-of_z w64 c.args.by c.ranges.by in
    (c.ahead_of.ensures.distance ∙ ap ahead same, c.ahead_of-2.ensures.distance ∙ ap ahead same, c.back_of-back.ensures.distance ∙ ap back same)

pub returns-then-free_from-back : goal.returns-then-free_from-back
returns-then-free_from-back c =
    let by = distances (goal.at.returns-then-free_from-back c).After-back_of-back in
    let ps = c.args.self.now.pulses in let micros = c.args.self.now.micros in
    let order : c.args.i ≤ c.args.j = omega arith in let there : c.args.j < length ps = omega arith in (
      λ e. let late = ltb-true _ _ e in
          stands_shift c.args.i c.args.j c.pulse.result c.pulse-2.result ps order c.pulse.ensures.value c.pulse-2.ensures.value micros c.free_from.result
          c.free_to.result c.args.by there c.len.ensures.track
          c.free_from.ensures.time c.free_to.ensures.time (omega arith) (omega arith),
      λ can. let both = shift_stands c.args.i c.args.j c.pulse.result c.pulse-2.result ps order c.pulse.ensures.value c.pulse-2.ensures.value micros
          c.free_from.result c.free_to.result c.args.by there c.len.ensures.track
          c.free_from.ensures.time c.free_to.ensures.time can in
          lt-ltb _ _ (omega arith),
    )

pub returns-else-free_from-back : goal.returns-else-free_from-back
returns-else-free_from-back c =
    let by = distances (goal.at.returns-else-free_from-back c).After-back_of-back in
    let ps = c.args.self.now.pulses in let micros = c.args.self.now.micros in
    let order : c.args.i ≤ c.args.j = omega arith in let there : c.args.j < length ps = omega arith in (
      λ e. absurd (omega (arith, leb-true _ _ e)),
      λ can. let both = shift_stands c.args.i c.args.j c.pulse.result c.pulse-2.result ps order c.pulse.ensures.value c.pulse-2.ensures.value micros
          c.free_from.result
          (first_or (micros + 1) (edges_of (drop (c.args.j + 1) ps))) c.args.by there c.len.ensures.track c.free_from.ensures.time refl can in
          absurd (omega (arith, both.0)),
    )
