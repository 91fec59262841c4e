use Rattle.std.proofs.Common.{◌≡◌, ℕ, arith, ap, ◌∙◌}
use Rattle.irig_timed.specs.{Reasons.gap_with, Runs.place_at, Runs.place_before, declared.gap.Gap.Gap}
use Rattle.irig_law.proofs.Each.{each-more, one-longer}
use Rattle.irig_timed.proofs.known.gaps_of.Goals as goal

pub loop-place-preserved : goal.loop-place-preserved
loop-place-preserved c =
    let inv = c.loop-place.invariant in
    let place = c.loop-place.place in
    let old = c.loop-place.list.items in
    let runs = c.args.runs.now in
    let gap = λ (k : ℕ). gap_with c.args.format c.args.century c.args.pulses.now.track.pulses c.args.believed.now c.args.held.now
    (place_before runs k) (place_at runs k) in
    let is : c.gap_before-gap.result ≡ gap place = c.gap_before-gap.ensures.gap
    ∙ ap (λ t. gap_with c.args.format c.args.century t.pulses c.args.believed.now c.args.held.now (place_before runs place) (place_at runs place)) inv.track in
    let many = one-longer Gap old c.push.new.self.items c.gap_before-gap.result c.in_ok-push.ensures.items in
    record {
      track = c.gap_before-gap.ensures.pulses ∙ inv.track;
      same = c.gap_before-gap.ensures.same ∙ inv.same;
      many = omega (arith, many, inv.many);
      each = each-more Gap old c.push.new.self.items c.gap_before-gap.result gap place c.in_ok-push.ensures.items inv.many inv.each is;
    }
