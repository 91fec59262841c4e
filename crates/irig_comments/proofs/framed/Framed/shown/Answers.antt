use Rattle.std.proofs.Common.{◌∙◌, ◌+◌, ap, arith, length, refl, slice_get, sym}
use Rattle.irig_comments.specs.Framed.{FramedView, framed_view, shown_frames}
use Rattle.irig_comments.proofs.FramedViews.{length-shown_frames, marker-within, shown-is}
use Rattle.irig_comments.proofs.framed.Framed.shown.Goals as goal

pub record-record-requires : goal.record-record-requires
record-record-requires c =
    let x = framed_view c.self.inside.recording c.self.inside.track.pulses c.self.inside.format c.self.inside.index.records in
    let count = c.len.ensures.count ∙ sym (ap (λ (z : FramedView). length (shown_frames z)) c.self.view_is) ∙ length-shown_frames x in
    omega (arith, c.if-place-len.false, count)

pub pulse-rise-requires : goal.pulse-rise-requires
pulse-rise-requires c =
    let x = framed_view c.self.inside.recording c.self.inside.track.pulses c.self.inside.format c.self.inside.index.records in
    marker-within x c.args.place c.record-record.result c.self.invariant c.record-record.ensures

pub returns-clause-value : goal.returns-clause-value
returns-clause-value c =
    let x = framed_view c.self.inside.recording c.self.inside.track.pulses c.self.inside.format c.self.inside.index.records in
    shown-is x c.args.place (c.args.place + 1) c.record-record.result c.pulse-rise.result refl c.record-record.ensures c.pulse-rise.ensures.value
    ∙ ap (λ (z : FramedView). slice_get (shown_frames z) c.args.place) c.self.view_is
