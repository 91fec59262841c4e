use Rattle.std.proofs.Common.{◌∙◌, ap, arith, length, subst, sym}
use Rattle.irig_comments.specs.Framed.{FramedView, FramesRise, framed_view, shown_frames}
use Rattle.irig_comments.proofs.FramedViews.{few_records, frames_rise, length-shown_frames}
use Rattle.irig_comments.proofs.framed.Framed.len.Goals as goal

pub returns-clause-count : goal.returns-clause-count
returns-clause-count c =
    let x = framed_view c.self.inside.recording c.self.inside.track.pulses c.self.inside.format c.self.inside.index.records in
    c.len.ensures ∙ sym (length-shown_frames x) ∙ ap (λ (z : FramedView). length (shown_frames z)) c.self.view_is

pub returns-clause-few : goal.returns-clause-few
returns-clause-few c =
    let x = framed_view c.self.inside.recording c.self.inside.track.pulses c.self.inside.format c.self.inside.index.records in
    omega (arith, c.len.ensures, few_records x c.self.invariant)

pub returns-clause-order : goal.returns-clause-order
returns-clause-order c =
    let x = framed_view c.self.inside.recording c.self.inside.track.pulses c.self.inside.format c.self.inside.index.records in
    subst (λ (z : FramedView). FramesRise 0 (shown_frames z)) c.self.view_is (frames_rise x c.self.invariant)
