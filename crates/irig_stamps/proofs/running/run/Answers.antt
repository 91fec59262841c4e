use Rattle.std.proofs.Common.{sym, subst}
use Rattle.std.specs.Prelude.{Ok}
use Rattle.irig_track.specs.Track.{TrackView}
use Rattle.irig_stamps.specs.{Runs.Ends, Steps.GoesOn, Steps.Underway}
use Rattle.irig_stamps.proofs.RunSteps.{begun-with}
use Rattle.irig_stamps.proofs.running.run.Goals as goal

pub returns-in-Ok : goal.returns-in-Ok
returns-in-Ok g c start read =
    let f = c.args.format in
    let ps = c.args.pulses.now.track.pulses in
    let s = c.args.settings.now in
    let from = g.W.Write.contents c.args.out.now in
    let mid = g.W.Write.contents c.put_part.new.out in
    let is = c.put_part.new.state in
    let begin = begun-with f ps s start from _ _ _ c.new-state.ensures.line c.new-state.ensures.count c.new-state.ensures.tally in
    let went = c.in-Ok.ensures.step start start (g.R.Read.remaining c.args.lines.now) from begin read in
    let on = subst (λ b. GoesOn f ps s start (g.R.Read.remaining c.args.lines.now) from mid is (Ok b)) c.in-Ok.ensures.more went in
    let ended = c.run_rest.ensures start from (subst (λ (t : TrackView). Underway f t.pulses s start (g.R.Read.remaining c.args.lines.now) from mid
    is.line.items is.count is.tally) (sym c.in-Ok.ensures.pulses) on) in
    subst (λ (t : TrackView). Ends f t.pulses s start (g.R.Read.remaining c.run_rest.new.lines) from (g.W.Write.contents c.run_rest.new.out)
    c.run_rest.result) c.in-Ok.ensures.pulses ended

pub returns : goal.returns
returns g c start read =
    let from = g.W.Write.contents c.args.out.now in
    let begin = begun-with c.args.format c.args.pulses.now.track.pulses c.args.settings.now start from _ _ _ c.new-state.ensures.line
    c.new-state.ensures.count c.new-state.ensures.tally in
    c.in-Err.ensures.step start start (g.R.Read.remaining c.args.lines.now) from begin read
