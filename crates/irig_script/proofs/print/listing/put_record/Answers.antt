use Rattle.std.proofs.Common.{◌≡◌, ◌+◌, ◌-◌, Some, get_or, slice_get, arith, sym, ap, ◌∙◌}
use Rattle.std.proofs.lemmas.Option.{get_or_from_slice_get, slice_get-get_or}
use Rattle.irig_track.specs.Edges.{pulse}
use Rattle.irig_edit.specs.State.State.{frames_of}
use Rattle.irig_print.specs.FrameLine.{frame_line}
use Rattle.irig_script.proofs.PrintLemmas.FrameLines.{marker_within, no_record}
use Rattle.irig_script.proofs.print.listing.put_record.Goals as goal

pub pulse-rise-requires : goal.pulse-rise-requires
pulse-rise-requires c =
    let s = c.args.session.now.state in
    let n = c.args.number in
    let rs = frames_of s in
    let here : slice_get rs (n - 1) ≡ Some (get_or rs (n - 1) no_record) = slice_get-get_or rs (n - 1) no_record (omega (arith, c.requires.0, c.requires.1)) in
    let told = rw here at c.frame-record.ensures in
    let below = marker_within s (n - 1) (get_or rs (n - 1) no_record) here in
    (omega (arith, told.0), omega (arith, told.0, below))

pub returns : goal.returns
returns c = λ r here.
    let s = c.args.session.now.state in
    let told = rw here at c.frame-record.ensures in
    let place : c.frame-record.result.marker - 1 ≡ r.marker = omega (arith, told.0) in
    let there = get_or_from_slice_get s.pulses (c.frame-record.result.marker - 1) c.pulse-rise.result (pulse 0 0) c.pulse-rise.ensures in
    let rise : c.pulse-rise.result.rise ≡ (get_or s.pulses r.marker (pulse 0 0)).rise = ap (λ p. p.rise) (sym there)
    ∙ ap (λ k. (get_or s.pulses k (pulse 0 0)).rise) place in
    c.put_frame.ensures.line
    ∙ (ap (λ m. frame_line c.args.number m c.pulse-rise.result.rise c.frame-record.result.verdict) told.0
    ∙ (ap (λ t. frame_line c.args.number (r.marker + 1) t c.frame-record.result.verdict) rise
    ∙ ap (λ v. frame_line c.args.number (r.marker + 1) (get_or s.pulses r.marker (pulse 0 0)).rise v) told.1))
