use Rattle.std.proofs.Common.{◌≡◌, List, ap, length, sym, subst, ◌∙◌, arith}
use Rattle.irig_index.specs.Frames.{frames}
use Rattle.irig_track.specs.{Edges.edges_of, Looks.LensView, Toggles.toggled}
use Rattle.irig_recording.specs.declared.pulse.Pulse.{Pulse}
use Rattle.irig_edit.specs.{Changes.Laws.Edges.pulses_of-edges_of, State.Places.HoldsState, State.Places.places_in, State.Present.PresentView}
use Rattle.irig_edit.specs.{State.Present.state_in, Changes.Single.pulses_of, State.State.state, State.State.with_pulses}
use Rattle.irig_edit.proofs.ChangeLemmas.Turned.{toggle_turned}
use Rattle.irig_edit.proofs.state.present.Present.toggle.Goals as goal

pub invariant_of-self : goal.invariant_of-self
invariant_of-self c =
    let p = c.self.inside in
    let turned = toggle_turned (state p.track.micros p.track.pulses p.format p.marks) c.args.self.now.state c.args.a c.args.b
    c.turn_toggle-span.new.track.micros c.turn_toggle-span.new.track.pulses (ap state_in c.self.view_is) c.self.invariant.0 c.requires.can
    c.turn_toggle-span.ensures.micros c.turn_toggle-span.ensures.pulses in
    (turned.0, c.repair.ensures.frames ∙ ap (λ (l : LensView). frames p.format l.track.pulses) c.lens.ensures)

pub returns-clause-state : goal.returns-clause-state
returns-clause-state c =
    let p = c.self.inside in
    (toggle_turned (state p.track.micros p.track.pulses p.format p.marks) c.args.self.now.state c.args.a c.args.b
    c.turn_toggle-span.new.track.micros c.turn_toggle-span.new.track.pulses (ap state_in c.self.view_is) c.self.invariant.0 c.requires.can
    c.turn_toggle-span.ensures.micros c.turn_toggle-span.ensures.pulses).1

pub turn_toggle-span-requires-clause-spare : goal.turn_toggle-span-requires-clause-spare
turn_toggle-span-requires-clause-spare c =
    let before = subst (λ (v : PresentView). HoldsState (places_in v) 1 v.state) (sym c.self.view_is) c.requires.before in
    omega (arith, before.pulses)

pub repair-requires-clause-room : goal.repair-requires-clause-room
repair-requires-clause-room c =
    let p = c.self.inside in
    let a = c.args.a in
    let b = c.args.b in
    let new = c.turn_toggle-span.new.track.pulses in
    let holds = subst (λ (v : PresentView). HoldsState (places_in v) 1 (with_pulses (pulses_of (toggled a b (edges_of v.state.pulses))) v.state))
    (sym c.self.view_is) c.requires.holds in
    let told = ap (λ (l : LensView). length (frames p.format l.track.pulses)) c.lens.ensures in
    let pulses : new ≡ pulses_of (toggled a b (edges_of p.track.pulses)) = sym (pulses_of-edges_of new) ∙ ap pulses_of c.turn_toggle-span.ensures.pulses in
    omega (arith, told, ap (λ (ps : List Pulse). length (frames p.format ps)) pulses, holds.records, ap length c.self.invariant.1)
