use Rattle.std.proofs.Common.{arith, sym, ◌≡◌, ◌∙◌, subst, ap, ◌-◌, ◌<◌, slice_get, Some}
use Rattle.irig_recording.specs.declared.pulse.Pulse.{Pulse}
use Rattle.irig_track.proofs.Searches.{ended_at_last, ended_all}
use Rattle.irig_track.proofs.track.Track.first_reaching.Goals.{else-risen-gt0-via-then-risen-gt0+else-pulse-time, else-risen-gt0-via-else-risen-gt0}
use Rattle.irig_track.proofs.track.Track.first_reaching.Goals as goal

pub returns-then-pulse-time : goal.returns-then-pulse-time
returns-then-pulse-time c = sym (ended_at_last c.args.time 0 (c.find-risen.result - 1) c.pulse.result c.args.self.now.pulses c.find-risen.ensures.track.rises
    (omega arith) c.pulse.ensures.value c.if-pulse-time.true)

pub returns-else-risen-gt0 : goal.returns-else-risen-gt0
returns-else-risen-gt0 c = c.find-risen.ensures.count ∙ sym
    (ended_all c.args.time 0 c.args.self.now.pulses c.find-risen.ensures.track.rises (λ n p e is. elim c.else-risen-gt0.branch [
      | else-risen-gt0-via-then-risen-gt0+else-pulse-time w ↦ (
          let at : n ≡ c.find-risen.result - 1 = omega arith in
          let both : Some p ≡ Some w.pulse.result = sym is ∙ ap (slice_get c.args.self.now.pulses) at ∙ w.pulse.ensures.value in
          let same : w.pulse.result ≡ p = cc in
          subst (λ (q : Pulse). q.fall < c.args.time) same w.if-pulse-time.false)
      | else-risen-gt0-via-else-risen-gt0 w ↦ absurd (omega (arith, w.if-risen-gt0.false, e))
    ]))
