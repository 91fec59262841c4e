use Rattle.std.proofs.Common.{Bool, List, ap, ◌∙◌, subst}
use Rattle.std.specs.Prelude.{◌↔◌}
use Rattle.irig_recording.specs.declared.pulse.Pulse.{Pulse}
use Rattle.irig_law.specs.{Points.AreFrames, declared.frame.Frame.Frame}
use Rattle.irig_timed.specs.{Held.held, Held.held_in, Knowns.AreGaps, Moments.IsElement, Moments.frames_by, Runs.AreRuns, Runs.IsIn}
use Rattle.irig_timed.specs.declared.run.Run.{Run}
use Rattle.irig_timed.proofs.known.Known.of.Goals as goal

pub returns-clause-known : goal.returns-clause-known
returns-clause-known c =
    let f = c.args.format in
    let century = c.args.century in
    let ps = c.args.pulses.now.track.pulses in
    let believed = frames_by f c.args.alone century ps in
    let all = held f c.args.alone century ps in
    let runs = c.in_ok-runs.runs.items in
    let gaps = c.in_ok-gaps.gaps.items in
    let first = ap (λ t. t.pulses) c.in_ok-frames.ensures.pulses in
    let second = ap (λ t. t.pulses) c.in_ok-runs.ensures.pulses ∙ first in
    let frames-one = c.deref.ensures.value ∙ c.in_ok-frames.ensures.believed in
    let frames-two = c.deref-2.ensures.value ∙ c.in_ok-frames.ensures.believed in
    let frames-four = c.deref-4.ensures.value ∙ c.in_ok-frames.ensures.believed in
    let records = c.in_ok-frames.ensures.same ∙ c.requires.frames in
    let is-held = c.in_ok-held.ensures.held ∙ (λ i. held_in (frames-two i) (records i)) in
    let held-three = c.deref-3.ensures.value ∙ is-held in (
      record {
        are_runs = subst (λ (q : List Pulse). AreRuns f q runs) first c.in_ok-runs.ensures.runs;
        points = λ k x. subst (λ (l : List Frame). IsIn runs k x ↔ IsElement f century ps l k x) frames-one
            (subst (λ (q : List Pulse). IsIn runs k x ↔ IsElement f century q c.deref.result.now k x) first (c.in_ok-runs.ensures.points k x));
        are_gaps = subst (λ (l : List Run). AreGaps f century ps believed all l gaps) c.deref-5.ensures.value
            (subst (λ (l : List Bool). AreGaps f century ps believed l c.deref-5.result.now gaps) held-three
            (subst (λ (l : List Frame). AreGaps f century ps l c.deref-3.result.now c.deref-5.result.now gaps) frames-four
            (subst (λ (q : List Pulse). AreGaps f century q c.deref-4.result.now c.deref-3.result.now c.deref-5.result.now gaps) second
            c.in_ok-gaps.ensures.gaps)));
      },
      is-held,
      c.in_ok-frames.ensures.believed,
      subst (λ (l : List Frame). AreFrames ps l) c.in_ok-frames.ensures.believed c.in_ok-frames.ensures.frames,
    )
