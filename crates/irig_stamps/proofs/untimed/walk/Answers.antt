use Rattle.std.proofs.Common.{◌≡◌, ◌≤◌, ◌^◌, Some, ap, sym, ◌∙◌, subst, arith}
use Rattle.std.specs.Prelude.{slice_get}
use Rattle.irig_track.specs.{Looks.LensView, Splices.risen_by, Track.TrackView}
use Rattle.irig_track.proofs.Searches.{risen_by-le}
use Rattle.irig_timed.specs.Reasons.{HasNoTime}
use Rattle.irig_stamps.specs.{HoleTexts.IsUpTo, Holes.IsBetween}
use Rattle.irig_stamps.proofs.HoleMoments.{begin-next, between-next, order-next}
use Rattle.irig_stamps.proofs.untimed.walk.Goals as goal

pub add_between-requires-clause-between : goal.add_between-requires-clause-between
add_between-requires-clause-between c =
    let l = c.loop-place in
    let t = c.args.pulses.now.track in
    let p = c.pulse-end.result in
    let now : c.pulse-end.new.self.track ≡ t = ap (λ (v : LensView). v.track) c.pulse-end.ensures.counted ∙ l.invariant.same in
    let is : slice_get t.pulses l.place ≡ Some p =
    subst (λ (v : TrackView). slice_get v.pulses l.place ≡ Some p) l.invariant.same c.pulse-end.ensures.value in (
      l.place,
      subst (λ (v : TrackView). IsBetween v.pulses l.place l.begin p.rise) (sym now)
          (between-next (2 ^ 26) t.micros t.pulses c.len-place-end.ensures.track l.place l.begin p is l.invariant.begun),
    )

pub add_between-requires-clause-order : goal.add_between-requires-clause-order
add_between-requires-clause-order c =
    let l = c.loop-place in
    let t = c.args.pulses.now.track in
    let p = c.pulse-end.result in
    let is : slice_get t.pulses l.place ≡ Some p = subst (λ (v : TrackView). slice_get v.pulses l.place ≡ Some p) l.invariant.same c.pulse-end.ensures.value in
    order-next (2 ^ 26) t.micros t.pulses c.len-place-end.ensures.track l.place l.begin p is l.invariant.begun

pub loop-place-preserved : goal.loop-place-preserved
loop-place-preserved c =
    let l = c.loop-place in
    let s = c.args.settings.now in
    let t = c.args.pulses.now.track in
    let p = c.pulse-end.result in
    let now : c.pulse-end.new.self.track ≡ t = ap (λ (v : LensView). v.track) c.pulse-end.ensures.counted ∙ l.invariant.same in
    let is : slice_get t.pulses l.place ≡ Some p = subst (λ (v : TrackView). slice_get v.pulses l.place ≡ Some p) l.invariant.same c.pulse-end.ensures.value in
    let fits : p.fall ≤ t.micros = subst (λ (v : TrackView). p.fall ≤ v.micros) l.invariant.same c.pulse-end.ensures.order.1 in
    let before = subst (λ (v : TrackView). IsUpTo (HasNoTime c.args.format s.alone s.century v.pulses) c.args.json s.comma l.begin l.pending)
    (sym now) l.invariant.up in
    record {
      same = c.in_ok-add_between.ensures.pulses ∙ now;
      begun = begin-next (2 ^ 26) t.micros t.pulses c.len-place-end.ensures.track l.place p is;
      within = omega (arith, c.pulse-end.ensures.order.0, fits);
      up = subst (λ (v : TrackView). IsUpTo (HasNoTime c.args.format s.alone s.century v.pulses) c.args.json s.comma p.rise
          c.add_between.new.pending) now (c.in_ok-add_between.ensures.grown before);
    }

pub add_last-requires-clause-between : goal.add_last-requires-clause-between
add_last-requires-clause-between c =
    let l = c.loop-place in
    let t = c.args.pulses.now.track in (
      l.place,
      λ m le lt. subst (λ (v : TrackView). risen_by m v.pulses ≡ l.place) (sym l.invariant.same)
          (omega (arith, l.invariant.begun.after m le, risen_by-le m t.pulses, c.loop-place-test.false, c.len-place-end.ensures.len)),
    )
