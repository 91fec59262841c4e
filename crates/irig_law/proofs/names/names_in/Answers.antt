use Rattle.std.proofs.Common.{◌≡◌, ◌+◌, ◌*◌, ◌^◌, ◌≤◌, ℕ, arith, refl, ap, ◌∙◌}
use Rattle.irig_law.specs.{Names.seen, Names.seen_at, Rows.rise_in, Rows.runs_in}
use Rattle.irig_law.specs.declared.names.Seen.{Seen}
use Rattle.irig_law.specs.declared.names.Seen.TheVariants.{Named}
use Rattle.irig_law.proofs.{Each.all-more, Each.each-more, Each.one-longer}
use Rattle.irig_law.proofs.Walked.{moved-element, moved-last, seen-next, walk-next}
use Rattle.irig_law.proofs.names.names_in.Goals as goal

pub loop-place-preserved : goal.loop-place-preserved
loop-place-preserved c =
    let f = c.args.format in
    let row = c.args.row.now in
    let clock = c.args.clock.now in
    let rise = rise_in c.args.pulses.now.track.pulses row in
    let runs = runs_in f c.args.pulses.now.track.pulses row in
    let k = c.loop-place.place in
    let w = c.loop-place.walk in
    let before = c.loop-place.invariant in
    let s = c.seen_at-seen.result in
    let track = before.pulses in
    let is : s ≡ seen_at clock rise runs k w =
    c.seen_at-seen.ensures.seen ∙ (λ i. seen_at clock (rise_in (track i).pulses row) (runs_in f (track i).pulses row) k w) in
    let named : s ≡ seen clock rise runs k = is ∙ seen-next clock rise runs k w before.some before.walk in
    let next = c.moved-walk.ensures in
    let xs = c.loop-place.list.items in
    let pushed = c.in_ok-push-2.ensures.items in
    let few = c.loop-place-test.true in
    let high = c.requires.many.1 in
    let element = before.element in
    let low : (e : ℕ) → s ≡ Named e → e ≤ 2 ^ 36 * (k + 1) = λ e at. let less = c.seen_at-seen.ensures.low e at in omega (arith, less, element) in
    let many = one-longer Seen xs c.push-in-loop-place.new.self.items s pushed in
    record {
      some = omega arith;
      pulses = c.seen_at-seen.ensures.pulses ∙ track;
      last = let less = moved-last w k s before.last in let same = ap (λ v. v.last) next in omega (arith, less, same);
      element = let less = moved-element w k (2 ^ 36 * (k + 1)) s (omega (arith, element)) low in
          let same = ap (λ v. v.element) next in omega (arith, less, same);
      many = omega (arith, many, before.many);
      walk = next ∙ walk-next clock rise runs k w s before.some before.walk is;
      names = each-more Seen xs c.push-in-loop-place.new.self.items s (seen clock rise runs) k pushed before.many before.names named;
      low = all-more Seen xs c.push-in-loop-place.new.self.items s (λ y. (e : ℕ) → y ≡ Named e → e ≤ 2 ^ 36 * (k + 1)) pushed
          (λ i y at e same. let less = before.low i y at e same in omega (arith, less)) low;
    }

pub returns-clause-low : goal.returns-clause-low
returns-clause-low c k e is =
    let less = c.loop-place.invariant.low k (Named e) is e refl in
    let high = c.requires.many.1 in
    omega (arith, less, high)
