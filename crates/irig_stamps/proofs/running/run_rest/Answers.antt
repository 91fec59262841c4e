use Rattle.std.proofs.Common.{[], refl, sym, subst}
use Rattle.std.specs.Prelude.{Ok}
use Rattle.std.proofs.KnownBytes.{Consumes-nil}
use Rattle.irig_track.specs.Track.{TrackView}
use Rattle.irig_stamps.specs.{Runs.Ran, Steps.GoesOn, Steps.Underway, declared.fault.RunFault.TheVariants.TooManyReads}
use Rattle.irig_stamps.proofs.RunSteps.{stopped}
use Rattle.irig_stamps.proofs.running.run_rest.Goals as goal

pub returns-in-Ok-true : goal.returns-in-Ok-true
returns-in-Ok-true g c start from h =
    let i = c.loop-reads.invariant in
    let f = c.args.format in
    let s = c.args.settings.now in
    let before = subst (λ (t : TrackView). Underway f t.pulses s start (g.R.Read.remaining c.loop-reads.lines) from (g.W.Write.contents c.loop-reads.out)
    c.loop-reads.state.line.items c.loop-reads.state.count c.loop-reads.state.tally) (sym i.track) (i.underway start from h) in
    let after = c.in-Ok-true.ensures.step start from before in
    let done = subst (λ b. GoesOn f c.loop-reads.pulses.track.pulses s start (g.R.Read.remaining c.run_one_read.new.lines) from
    (g.W.Write.contents c.run_one_read.new.out) c.run_one_read.new.state (Ok b)) c.in-Ok-true.field-0-test after in
    subst (λ (t : TrackView). Ran f t.pulses s start (g.R.Read.remaining c.run_one_read.new.lines) from (g.W.Write.contents c.run_one_read.new.out)
    c.run_one_read.new.state.tally) i.track done

pub returns : goal.returns
returns g c start from h = stopped _ _ _ _ _ _ _ _ _ [] _ _ TooManyReads (c.loop-reads.invariant.underway start from h) (Consumes-nil _) (refl, refl)
