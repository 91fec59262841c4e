use Rattle.std.proofs.Common.{◌≡◌, ◌∙◌, Option, ap, subst}
use Rattle.std.specs.Prelude.{IfSome}
use Rattle.irig_recording.specs.Recording.{RecordingView, recording_view}
use Rattle.irig_guarding.proofs.copying.recording_of.Goals as goal

pub returns-in-Some : goal.returns-in-Some
returns-in-Some c =
    let view = subst (λ (o : Option RecordingView). IfSome o (λ made. made ≡ recording_view c.length.result c.as_slice.result.now)) c.in-Some.is
    c.in_ok-recording.ensures.view in
    ap (λ (r : RecordingView). r.edges) view ∙ (c.as_slice.ensures.value ∙ c.in_ok-edges.ensures)
