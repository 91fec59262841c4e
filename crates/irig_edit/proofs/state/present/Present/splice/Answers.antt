use Rattle.std.proofs.Common.{List, ap, length, sym, subst, arith}
use Rattle.irig_index.specs.Frames.{frames}
use Rattle.irig_track.specs.{Looks.LensView, Splices.CanSplice, Splices.spliced}
use Rattle.irig_recording.specs.declared.pulse.Pulse.{Pulse}
use Rattle.irig_track.proofs.Carried.{length-spliced}
use Rattle.irig_edit.specs.{State.Places.HoldsState, State.Places.places_in, State.Present.PresentView, State.State.with_pulses}
use Rattle.irig_edit.proofs.state.present.Present.splice.Goals as goal

pub exchange-span-requires-clause-spare : goal.exchange-span-requires-clause-spare
exchange-span-requires-clause-spare c =
    let p = c.self.inside in
    let at = c.args.at in
    let count = c.args.count.now in
    let put = c.args.put.now in
    let can = subst (λ (v : PresentView). CanSplice v.state.micros at count put v.state.pulses) (sym c.self.view_is) c.requires.can in
    let holds = subst (λ (v : PresentView). HoldsState (places_in v) 0 (with_pulses (spliced at count put v.state.pulses) v.state))
    (sym c.self.view_is) c.requires.holds in
    omega (arith, length-spliced p.track.pulses put at count can.there, holds.pulses, can.there)

pub repair-requires-clause-room : goal.repair-requires-clause-room
repair-requires-clause-room c =
    let p = c.self.inside in
    let at = c.args.at in
    let count = c.args.count.now in
    let put = c.args.put.now in
    let holds = subst (λ (v : PresentView). HoldsState (places_in v) 0 (with_pulses (spliced at count put v.state.pulses) v.state))
    (sym c.self.view_is) c.requires.holds in
    let told = ap (λ (l : LensView). length (frames p.format l.track.pulses)) c.lens.ensures in
    let made = ap (λ (ps : List Pulse). length (frames p.format ps)) c.exchange-span.ensures.track.1 in
    omega (arith, told, made, holds.records, ap length c.self.invariant.1)
