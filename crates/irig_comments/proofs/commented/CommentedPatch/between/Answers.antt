use Rattle.std.proofs.Common.{◌≡◌, ◌∙◌, [], List, ap, false, subst, sym, ℕ}
use Rattle.std.specs.Prelude.{◌↔◌}
use Rattle.irig_recording.specs.Recording.{IsRecording, RecordingView}
use Rattle.irig_comments.specs.Left.{text_left}
use Rattle.irig_comments.proofs.LeftSteps.{text_is}
use Rattle.irig_comments.proofs.PartTexts.{commented-same, comments-commented_parts, comments_are, lines-commented_parts}
use Rattle.irig_comments.proofs.commented.CommentedPatch.between.Goals as goal

pub returns-clause-text : goal.returns-clause-text
returns-clause-text c =
    let before = c.length.ensures.exact ∙ ap (λ (r : RecordingView). r.micros) c.recording.ensures in
    let after = c.length-2.ensures.exact ∙ ap (λ (r : RecordingView). r.micros) c.recording-2.ensures in
    (λ j. text_left false (before j) (after j) (c.between.ensures j)) ∙ text_is c.args.before.now c.args.after.now

pub returns-clause-plain : goal.returns-clause-plain
returns-clause-plain c = lines-commented_parts c.args.before.now c.args.after.now

pub returns-clause-frames : goal.returns-clause-frames
returns-clause-frames c = comments-commented_parts c.args.before.now c.args.after.now

pub returns-clause-comments : goal.returns-clause-comments
returns-clause-comments c = comments_are c.args.before.now c.args.after.now c.len.ensures.framed c.len-2.ensures.framed

pub returns-clause-same : goal.returns-clause-same
returns-clause-same c =
    let b = c.args.before.now in
    let a = c.args.after.now in
    let before = c.length.ensures.exact ∙ ap (λ (r : RecordingView). r.micros) c.recording.ensures in
    let after = c.length-2.ensures.exact ∙ ap (λ (r : RecordingView). r.micros) c.recording-2.ensures in
    let text = (λ j. text_left false (before j) (after j) (c.between.ensures j)) ∙ text_is b a in
    let one = subst (λ (r : RecordingView). IsRecording r.micros r.edges) c.recording.ensures c.length.ensures.lawful in
    let other = subst (λ (r : RecordingView). IsRecording r.micros r.edges) c.recording-2.ensures c.length-2.ensures.lawful in
    subst (λ (t : List ℕ). t ≡ [] ↔ b.recording ≡ a.recording) (sym text) (commented-same b a c.len.ensures.framed c.len-2.ensures.framed c.requires one other)
