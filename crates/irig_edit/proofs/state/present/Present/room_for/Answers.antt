use Rattle.std.proofs.Common.{◌≡◌, ap, ap₂, sym, subst, ◌∙◌, arith}
use Rattle.irig_edit.specs.{Changes.Ample.PutsIn, Changes.Ample.records_for, Changes.Held.single_of, State.Places.places_in, State.Present.PresentView}
use Rattle.irig_edit.specs.{State.Present.present_view, State.Present.state_in, Changes.Single.FitsSingle, State.State.State, State.State.state}
use Rattle.irig_saved.specs.declared.single.Single.{Single}
use Rattle.irig_edit.proofs.ChangeLemmas.Rooms.{ample_enough, on_ok, puts_wider}
use Rattle.irig_edit.proofs.state.present.Present.room_for.Goals as goal

pub returns-clause-room : goal.returns-clause-room
returns-clause-room c =
    let p = c.self.inside in
    let s = state p.track.micros p.track.pulses p.format p.marks in
    let x = c.reserve_taken.new.self in
    let was = present_view s p.track.spare p.index in
    let now = present_view s p.track.spare c.reserve.new.self in
    let one : single_of x ≡ single_of c.args.turn.now = c.in_ok-reserve_taken.ensures.same in
    let same : s ≡ c.args.self.now.state = ap state_in c.self.view_is ∙ c.in_ok-reserve_put.ensures.state in
    let fits : FitsSingle s (single_of x) =
    subst (λ (t : State). FitsSingle t (single_of x)) (sym same)
    (subst (λ (d : Single). FitsSingle c.args.self.now.state d) (sym one) c.requires.fits) in
    let put : PutsIn (places_in was) s (single_of x) =
    subst (λ (v : PresentView). PutsIn (places_in v) v.state (single_of x)) (sym c.self.view_is)
    (subst (λ (d : Single). PutsIn (places_in c.reserve_put.new.self) c.reserve_put.new.self.state d) (sym one) c.in_ok-reserve_put.ensures.puts) in
    let few : records_for s (single_of x) ≡ c.records_for-records.result =
    ap₂ (λ (t : State) (d : Single). records_for t d) same one ∙ sym c.records_for-records.ensures.records in
    on_ok c.reserve.result
    (λ more. ample_enough (places_in now) s x c.self.invariant.0 fits (omega arith) (record {
      takes = c.in_ok-reserve_taken.ensures.takes;
      puts = puts_wider (places_in was) (places_in now) s (single_of x) (omega arith) put;
      records = omega (arith, few, more);
    })) c.reserve.ensures.room
