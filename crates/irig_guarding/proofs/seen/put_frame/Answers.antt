use Rattle.std.proofs.Common.{◌≡◌, ◌-◌, ◌++◌, Some, get_or, slice_get, arith, sym, ap, ◌∙◌, subst}
use Rattle.std.specs.Prelude.{OnOk}
use Rattle.std.proofs.lemmas.Option.{get_or_from_slice_get, slice_get-get_or}
use Rattle.irig_track.specs.Edges.{pulse}
use Rattle.irig_edit.specs.State.State.{frames_of}
use Rattle.irig_script.proofs.PrintLemmas.FrameLines.{marker_within, no_record}
use Rattle.irig_guarding.specs.Reading.{seen_at, seen_by}
use Rattle.irig_guarding.proofs.seen.put_frame.Goals as goal

pub pulse-rise-requires : goal.pulse-rise-requires
pulse-rise-requires c =
    let s = c.args.session.now.state in
    let n = c.args.number in
    let rs = frames_of s in
    let here : slice_get rs (n - 1) ≡ Some (get_or rs (n - 1) no_record) = slice_get-get_or rs (n - 1) no_record (omega (arith, c.requires.0, c.requires.1)) in
    let told = rw here at c.frame-frame.ensures in
    let below = marker_within s (n - 1) (get_or rs (n - 1) no_record) here in
    (omega (arith, told.0), omega (arith, told.0, below))

pub returns : goal.returns
returns c = λ r here.
    let s = c.args.session.now.state in
    let told = rw here at c.frame-frame.ensures in
    let place : c.frame-frame.result.marker - 1 ≡ r.marker = omega (arith, told.0) in
    let there = get_or_from_slice_get s.pulses (c.frame-frame.result.marker - 1) c.pulse-rise.result (pulse 0 0) c.pulse-rise.ensures in
    let rise : c.pulse-rise.result.rise ≡ (get_or s.pulses r.marker (pulse 0 0)).rise = ap (λ p. p.rise) (sym there)
    ∙ ap (λ k. (get_or s.pulses k (pulse 0 0)).rise) place in
    let same : seen_at c.pulse-rise.result.rise (c.frame-frame.result.marker - 1) c.frame-frame.result.verdict ≡ seen_by s.pulses r =
    (λ i. seen_at (rise i) (place i) (told.1 i)) in
    subst (λ l. OnOk c.put_verdict.result (c.put_verdict.new.seen.items ≡ c.args.seen.now.items ++ l)) same c.put_verdict.ensures
