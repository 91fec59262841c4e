use Rattle.std.proofs.Common.{◌≡◌, ◌+◌, Bool, List, ℕ, arith, sym, ap, ◌∙◌, subst}
use Rattle.irig_recording.specs.declared.pulse.Pulse.{Pulse}
use Rattle.irig_law.specs.{Clocks.slack_of, Denials.denies_first, Seens.SeenAfter, Stretches.stretch}
use Rattle.irig_law.proofs.{Denied.denials-are, Each.at-more, Each.one-longer}
use Rattle.irig_law.proofs.happened.first_denials.Goals as goal

pub loop-place-preserved : goal.loop-place-preserved
loop-place-preserved c =
    let f = c.args.format in
    let ps = c.args.pulses.now.track.pulses in
    let a = c.args.from.now in
    let p = c.args.from.now in
    let slack = slack_of ps a c.args.to.now in
    let before = c.loop-place.invariant in
    let n = c.loop-place.place in
    let x = c.denies_first-denies.result in
    let xs = c.loop-place.list.items in
    let same : c.loop-place.pulses.track.pulses ≡ ps = ap (λ t. t.pulses) before.track in
    let seen = subst (λ (q : List Pulse). SeenAfter f q p slack c.args.after.now) (sym same) c.requires.after in
    let is : x ≡ denies_first f ps p slack (a.marker + n) = c.denies_first-denies.ensures.denies slack seen
    ∙ ap (λ (q : List Pulse). denies_first f q p slack (a.marker + n)) same in
    let pushed = c.in_ok-push.ensures.items in
    let longer = one-longer Bool xs c.push.new.self.items x pushed in
    record {
      track = c.denies_first-denies.ensures.pulses ∙ before.track;
      kept = c.denies_first-denies.ensures.kept;
      many = omega (arith, longer, before.many);
      each = at-more Bool xs c.push.new.self.items x (λ (i : ℕ) (y : Bool). y ≡ denies_first f ps p slack (a.marker + i)) pushed before.each
          (subst (λ m. x ≡ denies_first f ps p slack (a.marker + m)) (sym before.many) is);
    }

pub returns-clause-denials : goal.returns-clause-denials
returns-clause-denials c =
    let ps = c.args.pulses.now.track.pulses in
    let a = c.args.from.now in
    let p = c.args.from.now in
    let end = c.loop-place.invariant in
    let past : c.loop-place.place ≡ c.stretch-place-end.result = omega (arith, c.loop-place.auto.place-end, c.loop-place-test.false) in
    denials-are (denies_first c.args.format ps p (slack_of ps a c.args.to.now)) a.marker (stretch c.args.format a c.args.to.now)
    c.loop-place.list.items (end.many ∙ (past ∙ c.stretch-place-end.ensures.many)) end.each
