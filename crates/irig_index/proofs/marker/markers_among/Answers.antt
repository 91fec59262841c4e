use Rattle.std.proofs.Common.{◌≡◌, ◌-◌, ℕ, cond, false, length, ap, sym, ◌∙◌, arith}
use Rattle.irig_codes.specs.Width.{class_in}
use Rattle.irig_index.specs.{Frames.records_in, Marker.class_at, Marker.is_marker, Marker.is_position}
use Rattle.irig_index.proofs.marker.markers_among.Goals.{then-is_marker, else-is_marker}
use Rattle.irig_index.proofs.{FewFrames.length-next, FrameLemmas.records_in-none, PlaceLemmas.two_passed, PlaceLemmas.window_none}
use Rattle.irig_index.proofs.marker.markers_among.Goals as goal

pub loop-place-init : goal.loop-place-init
loop-place-init c = record {
  within = omega arith;
  few = omega arith;
  count = ap length (sym (records_in-none c.args.format c.args.pulses.now.items 0));
}

pub loop-place-preserved-then-not-is_position : goal.loop-place-preserved-then-not-is_position
loop-place-preserved-then-not-is_position c =
    let f = c.args.format in
    let ps = c.args.pulses.now.items in
    let place = c.loop-place.place in
    let next = c.min-place.result in
    let p = c.get-pulse.result in
    let so_far = c.loop-place.invariant in
    let other : is_position (class_at f p) ≡ false =
    ap (λ n. is_position (class_in n (p.fall - p.rise))) (sym c.interval-interval.ensures.value)
    ∙ (ap (λ w. is_position (class_in c.interval-interval.result w)) (sym c.saturating_sub.ensures)
    ∙ (sym c.is_position.ensures ∙ c.if-not-is_position.true)) in
    let same = window_none f ps 0 place next (omega arith) (omega arith) (two_passed f ps place next p c.get-pulse.ensures other (omega arith)) in
    let before : place - 0 ≡ place = omega arith in
    let after : next - 0 ≡ next = omega arith in
    let records = λ (n : ℕ). length (records_in f ps 0 n) in
    record {
      within = omega arith;
      few = omega (arith, so_far.few);
      count = so_far.count ∙ (ap records (sym before) ∙ (ap length (sym same) ∙ ap records after));
    }

pub loop-place-preserved : goal.loop-place-preserved
loop-place-preserved c =
    let f = c.args.format in
    let ps = c.args.pulses.now.items in
    let so_far = c.loop-place.invariant in
    let next = length-next f ps c.loop-place.place c.get.result c.get-pulse.result c.get.ensures c.get-pulse.ensures in
    let marks : is_marker f c.get.result c.get-pulse.result ≡ c.is_marker.result =
    sym (c.is_marker.ensures f (sym c.interval-interval.ensures.value)) in
    elim c.if-is_marker.branch [
      | then-is_marker w ↦ (let one = ap {B = ℕ} (λ b. cond b 1 0) (marks ∙ w.if-is_marker.true) in record {
        within = omega arith;
        few = omega (arith, w.count-is, so_far.few);
        count = omega (arith, w.count-is, so_far.count, next, one);
      })
      | else-is_marker w ↦ (let none = ap {B = ℕ} (λ b. cond b 1 0) (marks ∙ w.if-is_marker.false) in record {
        within = omega arith;
        few = omega (arith, w.count-is, so_far.few);
        count = omega (arith, w.count-is, so_far.count, next, none);
      })
    ]

pub returns-clause-count : goal.returns-clause-count
returns-clause-count c =
    let all : c.loop-place.place ≡ length c.args.pulses.now.items - 1 = omega arith in
    c.loop-place.invariant.count ∙ ap (λ n. length (records_in c.args.format c.args.pulses.now.items 0 n)) all
