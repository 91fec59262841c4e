use Rattle.std.proofs.Common.{◌≡◌, Bool, List, length, ap, sym, ◌∙◌, subst}
use Rattle.irig_recording.specs.declared.pulse.Pulse.{Pulse}
use Rattle.irig_law.specs.{Clocks.slack_of, Denials.denies_first, Denials.denies_second, Happened.AreSides}
use Rattle.irig_law.specs.Stretches.{first_denials, second_denials, stretch}
use Rattle.irig_law.proofs.Denied.{length-denials}
use Rattle.irig_law.proofs.happened.what_happened.Goals as goal

pub sides_of-requires : goal.sides_of-requires
sides_of-requires c =
    let f = c.args.format in
    let a = c.args.from.now in
    let b = c.args.to.now in
    let one = ap (λ (l : List Bool). length l) (c.deref.ensures.value ∙ c.in_ok-first.ensures.denials) in
    let other = ap (λ (l : List Bool). length l) (c.deref-2.ensures.value ∙ c.in_ok-second.ensures.denials) in
    let ps = c.fits.new.pulses.track.pulses in
    let qs = c.first_denials.new.pulses.track.pulses in
    one
    ∙ (length-denials (denies_first f ps a (slack_of ps a b)) a.marker (stretch f a b)
    ∙ sym (other ∙ length-denials (denies_second f qs b (slack_of qs a b)) a.marker (stretch f a b)))

pub returns-clause-happened : goal.returns-clause-happened
returns-clause-happened c =
    let f = c.args.format in
    let ps = c.args.pulses.now.track.pulses in
    let a = c.args.from.now in
    let b = c.args.to.now in
    let sides = c.sides_of.result in
    let track = ap (λ t. t.pulses) c.fits.ensures.pulses in
    let track2 = ap (λ t. t.pulses) (c.in_ok-first.ensures.pulses ∙ c.fits.ensures.pulses) in
    let one : c.deref.result.now ≡ first_denials f ps a b =
    c.deref.ensures.value ∙ (c.in_ok-first.ensures.denials ∙ ap (λ (q : List Pulse). first_denials f q a b) track) in
    let other : c.deref-2.result.now ≡ second_denials f ps a b =
    c.deref-2.ensures.value ∙ (c.in_ok-second.ensures.denials ∙ ap (λ (q : List Pulse). second_denials f q a b) track2) in
    let raw : AreSides c.deref.result.now c.deref-2.result.now sides = record { before = c.sides_of.ensures.before; after = c.sides_of.ensures.after } in (
      c.in_default.ensures.fits,
      subst (λ (l : List Bool). AreSides l (second_denials f ps a b) sides) one
          (subst (λ (l : List Bool). AreSides c.deref.result.now l sides) other raw),
    )
