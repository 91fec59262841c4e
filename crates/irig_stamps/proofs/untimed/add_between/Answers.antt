use Rattle.std.proofs.Common.{◌/◌, ◌<◌, arith}
use Rattle.irig_track.specs.Splices.{risen_by}
use Rattle.irig_timed.specs.Reasons.{HasNoTime}
use Rattle.irig_timed.proofs.OneReason.{one_why}
use Rattle.irig_stamps.proofs.{HoleMoments.all-timed, HoleMoments.all-untimed, HoleSteps.all-ok, HoleSteps.up-to-more, HoleSteps.up-to-timed}
use Rattle.irig_stamps.proofs.untimed.add_between.Goals as goal

pub returns-in-None-clause-grown : goal.returns-in-None-clause-grown
returns-in-None-clause-grown c =
    let s = c.args.settings.now in
    let t = c.args.pulses.now.track in
    let some : c.args.begin < c.args.end = omega (arith, c.requires.order, c.if-begin-end.false) in
    let timed = c.why_untimed.ensures.timed c.in-None.is in
    let has_none = HasNoTime c.args.format s.alone s.century t.pulses in
    up-to-timed has_none c.args.json s.comma c.args.begin c.args.end c.args.pending.now c.args.pending.now c.requires.order
    (all-timed c.args.format s.alone s.century t.pulses c.requires.between.0 c.args.begin c.args.end c.requires.between.1 some timed.0 timed.1)

pub returns-in-Some-clause-grown : goal.returns-in-Some-clause-grown
returns-in-Some-clause-grown c =
    let s = c.args.settings.now in
    let t = c.args.pulses.now.track in
    let some : c.args.begin < c.args.end = omega (arith, c.requires.order, c.if-begin-end.false) in
    let has_none = HasNoTime c.args.format s.alone s.century t.pulses in
    let none = all-untimed c.args.format s.alone s.century t.pulses c.requires.between.0 c.args.begin c.args.end c.requires.between.1 some
    c.in-Some.why c.in-Some.ensures.why in
    all-ok c.add.result _ _ _ _ c.add.ensures.shown c.add.ensures.untimed c.add.ensures.count
    (λ shown untimed count. up-to-more has_none c.args.json s.comma c.args.begin c.args.end c.args.pending.now c.add.new.self c.in-Some.why some none
    (λ d n v w h k. one_why c.args.format s.century t.pulses _ _ c.args.known.now (risen_by (n / d) t.pulses) v w c.requires.known h.is k.is)
    shown untimed count)
