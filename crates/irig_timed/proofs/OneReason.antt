-- A moment without a time has one reason, as a pulse of a track is one element at most.
use Rattle.std.proofs.Common.{◌≡◌, ℕ, Bool, List, sym, ◌∙◌}
use Rattle.irig_codes.specs.Format.{FormatView}
use Rattle.irig_recording.specs.declared.pulse.Pulse.{Pulse}
use Rattle.irig_times.specs.declared.why.Why.{Why}
use Rattle.irig_law.specs.declared.frame.Frame.{Frame}
use Rattle.irig_timed.specs.{Knowns.IsKnownBy, Moments.IsElement, Reasons.IsWhyBy, Reasons.gap_with, Reasons.reason_in, declared.known.Known.Known}
use Rattle.irig_timed.proofs.{MomentFacts.element-once, Surround.first-once, Surround.last-once}

pub one_why : (f : FormatView) (century : ℕ) (ps : List Pulse) (believed : List Frame) (held : List Bool) (known : Known) (risen : ℕ) (v w : Why)
    → IsKnownBy f century ps believed held known → IsWhyBy f century ps believed held risen v → IsWhyBy f century ps believed held risen w → v ≡ w
one_why f century ps believed held known risen v w k a b =
    let P = IsElement f century ps believed in
    let once = element-once f century ps believed held known.runs.items known.gaps.items k.0 in
    let from = last-once P once risen a.from b.from a.around.last b.around.last in
    let to = first-once P once risen a.to b.to a.around.next b.around.next in
    a.is ∙ ((λ i. reason_in (gap_with f century ps believed held (from i) (to i))) ∙ sym b.is)
