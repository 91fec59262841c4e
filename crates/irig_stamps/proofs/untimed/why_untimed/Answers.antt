use Rattle.std.proofs.Common.{◌≡◌, ◌*◌, ◌/◌, ◌∙◌, sym, subst}
use Rattle.std.proofs.lemmas.Option.{none-some}
use Rattle.irig_track.specs.{Splices.risen_by, Track.TrackView}
use Rattle.irig_timed.specs.{Knowns.IsKnown, Reasons.IsWhy}
use Rattle.irig_stamps.proofs.Words.{timed-none, timed-there}
use Rattle.irig_stamps.proofs.untimed.why_untimed.Goals as goal

pub returns-in-Some-clause-timed : goal.returns-in-Some-clause-timed
returns-in-Some-clause-timed c = λ none.
    let s = c.args.settings.now in
    timed-there c.args.format s.alone s.century c.args.pulses.now.track.pulses 1000000 (1000000 * c.args.at) c.time_at.result
    (c.time_at.ensures.exact _ _ c.requires.known) (λ missing. none-some _ (sym missing ∙ c.in-Some.is))

pub returns-in-None-clause-why : goal.returns-in-None-clause-why
returns-in-None-clause-why c =
    let s = c.args.settings.now in
    let ps = c.args.pulses.now.track.pulses in
    let at = 1000000 * c.args.at in
    let same : c.time_at.new.pulses.track ≡ c.args.pulses.now.track = c.time_at.ensures.pulses in
    let known = subst (λ (t : TrackView). IsKnown c.args.format s.alone s.century t.pulses c.args.known.now) (sym same) c.requires.known in
    let why = c.why_at.ensures.why s.century _ _ known in
    let none = timed-none c.args.format s.alone s.century ps 1000000 at c.time_at.result (c.time_at.ensures.exact _ _ c.requires.known) c.in-None.is in
    record {
      none = none;
      is = subst (λ (t : TrackView). IsWhy c.args.format s.alone s.century t.pulses (risen_by (at / 1000000) t.pulses) c.why_at.result) same why;
    }
