use Rattle.std.proofs.Common.{◌∙◌, ◌*◌, ◌^◌, ◌≤◌, length, Ok, ap, arith, sym, subst}
use Rattle.irig_recording.specs.Recording.{IsLongRecording, RecordingView, recording_view}
use Rattle.irig_recording.proofs.RecordingLemmas.{not_full}
use Rattle.irig_vcd.proofs.WholeDump.{few_edges, few_enough, is_lawful}
use Rattle.irig_vcd.proofs.reader.recording_of.Goals as goal

pub into_pulses-requires : goal.into_pulses-requires
into_pulses-requires c =
    let most = c.args.most in
    let few = not_full most (length c.args.edges) c.is_full.result c.is_full.ensures.1 c.if-is_full.false in
    let kept = c.requires.kept in
    (is_lawful (2 * most) kept.0 c.args.end c.args.edges (few_edges most kept.0 c.args.end c.args.edges kept.1 few) c.requires.short few).even

pub from_parts-requires : goal.from_parts-requires
from_parts-requires c =
    let most = c.args.most in
    let few = not_full most (length c.args.edges) c.is_full.result c.is_full.ensures.1 c.if-is_full.false in
    let kept = c.requires.kept in
    record {
      place = c.into_pulses.ensures.place;
      room = c.into_pulses.ensures.room;
      lawful = subst (IsLongRecording c.args.end) (sym c.into_pulses.ensures.edges)
          (is_lawful (2 ^ 27) kept.0 c.args.end c.args.edges (few_edges most kept.0 c.args.end c.args.edges kept.1 few) c.requires.short
          (omega (arith, few, c.requires.limit)));
    }

pub returns-clause-exact : goal.returns-clause-exact
returns-clause-exact c = λ changes is.
    let most = c.args.most in
    let few = not_full most (length c.args.edges) c.is_full.result c.is_full.ensures.1 c.if-is_full.false in
    few_enough most changes c.args.end c.args.edges (few_edges most changes c.args.end c.args.edges is few) few
    ∙ ap Ok (ap (recording_view c.args.end) (sym c.into_pulses.ensures.edges) ∙ sym c.from_parts.ensures)

pub returns-clause-few : goal.returns-clause-few
returns-clause-few c =
    let few = not_full c.args.most (length c.args.edges) c.is_full.result c.is_full.ensures.1 c.if-is_full.false in
    subst (λ (r : RecordingView). length r.edges ≤ 2 * c.args.most)
    (ap (recording_view c.args.end) (sym c.into_pulses.ensures.edges) ∙ sym c.from_parts.ensures) few
