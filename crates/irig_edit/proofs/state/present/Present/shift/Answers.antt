use Rattle.std.proofs.Common.{rules, ◌≡◌, List, ap, length, sym, subst, ◌∙◌, arith, ℤ, pos, ◌-ℤ◌, neg_ℤ, to_z, of_z, w64}
use Rattle.std.proofs.lemmas.Int.{to_z-of_z}
use Rattle.irig_index.specs.Frames.{frames}
use Rattle.irig_track.specs.{Looks.LensView, Shifts.CanShift, Shifts.shifted}
use Rattle.irig_recording.specs.declared.pulse.Pulse.{Pulse}
use Rattle.irig_edit.specs.State.Present.{PresentView, state_in}
use Rattle.irig_edit.specs.{State.Marks.marks_moved, State.Places.HoldsState, State.Places.places_in, State.State.State, State.State.state}
use Rattle.irig_track.proofs.Inverses.{shift_within}
use Rattle.irig_edit.proofs.{ChangeLemmas.Turned.shift_turned, StateLemmas.Distances.opposite_fits, StateLemmas.Distances.opposite_is}
use Rattle.irig_edit.proofs.state.present.Present.shift.Goals as goal

pub invariant_of-self : goal.invariant_of-self
invariant_of-self c =
    let p = c.self.inside in
    let i = c.args.i in
    let j = c.args.j in
    let by = c.args.by in
    let letters = c.args.letters.now in
    let new = c.turn_shift-span.new in
    let passed = to_z-of_z w64 by c.ranges.by in
    let long : length letters ≡ 26 = search rules in (
      shift_turned (state p.track.micros p.track.pulses p.format p.marks) c.args.self.now.state i j by letters
          new.track.micros new.track.pulses new.marks (ap state_in c.self.view_is) c.self.invariant.0 (c.requires.can, c.requires.marks, long)
          c.turn_shift-span.ensures.track.0
          (subst (λ (e : ℤ). new.track.pulses ≡ shifted i j e p.track.pulses) passed c.turn_shift-span.ensures.track.1)
          (subst (λ (e : ℤ). new.marks ≡ marks_moved e letters p.marks) passed c.turn_shift-span.ensures.marks),
      c.repair.ensures.frames ∙ ap (λ (l : LensView). frames p.format l.track.pulses) c.lens.ensures,
    )

pub repair-requires-clause-room : goal.repair-requires-clause-room
repair-requires-clause-room c =
    let p = c.self.inside in
    let i = c.args.i in
    let j = c.args.j in
    let by = c.args.by in
    let letters = c.args.letters.now in
    let holds = subst (λ (v : PresentView). HoldsState (places_in v) 0
    (state v.state.micros (shifted i j by v.state.pulses) v.state.format (marks_moved by letters v.state.marks))) (sym c.self.view_is)
    c.requires.holds in
    let told = ap (λ (l : LensView). length (frames p.format l.track.pulses)) c.lens.ensures in
    let made = ap (λ (ps : List Pulse). length (frames p.format ps))
    (subst (λ (e : ℤ). c.turn_shift-span.new.track.pulses ≡ shifted i j e p.track.pulses) (to_z-of_z w64 by c.ranges.by) c.turn_shift-span.ensures.track.1) in
    omega (arith, told, made, holds.records, ap length c.self.invariant.1)

pub returns-clause-back : goal.returns-clause-back
returns-clause-back c =
    let p = c.self.inside in
    let d = c.args.by in
    let can = subst (λ (s : State). CanShift s.micros c.args.i c.args.j d s.pulses) (sym (ap state_in c.self.view_is)) c.requires.can in
    let track = c.self.invariant.0.track in
    let within = shift_within p.track.micros c.args.i c.args.j d p.track.pulses track can in
    let short = track.short in
    let fits = opposite_fits d (omega arith) (omega arith) in
    let opposite : c.turn_shift-span.new.by ≡ pos 0 -ℤ d =
    c.turn_shift-span.ensures.back ∙ (ap neg_ℤ (to_z-of_z w64 d c.ranges.by) ∙ sym (opposite_is d)) in
    ap (λ (e : ℤ). to_z w64 (of_z w64 e)) opposite ∙ (to_z-of_z w64 (pos 0 -ℤ d) fits ∙ opposite_is d)
