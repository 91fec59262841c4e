-- A single change is reversed by the one that it leaves. This project's own.
use Rattle.std.proofs.Common.{suc, ◌≡◌, ◌<◌, ◌≤◌, ℕ, neg_ℤ, List, length, refl, ap, ◌∙◌, arith}
use Rattle.std.proofs.Math.IntN.{neg_ℤ-neg_ℤ}
use Rattle.irig_track.specs.{Edges.edges_of, Splices.piece, Toggles.toggled}
use Rattle.irig_track.proofs.Inverses.{piece-spliced, spliced-spliced, can_splice_back}
use Rattle.irig_track.proofs.Inverses.{toggled-toggled, can_toggle_back, Opposite-neg}
use Rattle.irig_track.proofs.Inverses.{shifted-shifted, can_shift_back}
use Rattle.irig_track.proofs.Carried.{length-piece}
use Rattle.irig_edit.specs.State.State.{State, IsState, state, with_pulses}
use Rattle.irig_edit.specs.Changes.Laws.Edges.{edges_of-toggled, pulses_of-edges_of}
use Rattle.irig_edit.specs.Changes.Laws.Marks.{marks_back, may_move_back}
use Rattle.irig_edit.specs.Changes.Laws.SetMarks.{mark_back, mark_read, mark_within}
use Rattle.irig_edit.specs.Changes.Single.{FitsSingle, turned_single, pulses_of}
use Rattle.irig_saved.specs.declared.single.Single.{Single}
use Rattle.irig_saved.specs.declared.single.Single.TheVariants.{Splice, Toggle, Shift, SetFormat}
use Rattle.irig_saved.specs.declared.single.Single.TheVariants.{SetMark}

-- the change that leads back can be made
pub FitsSingle-turned : (s : State) (d : Single) → IsState s → FitsSingle s d
    → FitsSingle (turned_single s d).0 (turned_single s d).1
FitsSingle-turned s (Splice (suc at) count put) is can =
    can_splice_back s.micros at count put s.pulses is.track can.there
FitsSingle-turned s (Toggle a b) is can =
    can_toggle_back s.micros a b s.pulses (pulses_of (toggled a b (edges_of s.pulses))) is.track can
    (edges_of-toggled s.micros a b s.pulses can)
FitsSingle-turned s (Shift (suc i) (suc j) d named) is can = (
  can_shift_back s.micros i j d (neg_ℤ d) s.pulses (Opposite-neg d) can.0 is.track,
  may_move_back s.micros d (neg_ℤ d) named s.marks (Opposite-neg d) is.marks can.1,
  can.2,
)
FitsSingle-turned s (SetFormat kind expression) is can = is.permitted
FitsSingle-turned s (SetMark letter time) is can =
    (can.0, mark_within s.micros letter s.marks (omega (arith, is.letters, can.0)) is.marks)
FitsSingle-turned s _ is can = absurd can

-- and gives back the state and the change
pub turned_single-turned : (s : State) (d : Single) → IsState s → FitsSingle s d
    → turned_single (turned_single s d).0 (turned_single s d).1 ≡ (s, d)
turned_single-turned s (Splice (suc at) count put) is can =
    let there = can.there in
    let start : at ≤ length s.pulses = omega arith in
    let state_is = spliced-spliced at count put s.pulses start in
    let long : length (piece at count s.pulses) ≡ count = length-piece s.pulses at count there in
    let put_is = piece-spliced at count put s.pulses start in
    (λ k. (with_pulses (state_is k) s, Splice (suc at) (long k) (put_is k)))
turned_single-turned s (Toggle a b) is can =
    let edges = edges_of-toggled s.micros a b s.pulses can in
    let pulses : pulses_of (toggled a b (edges_of (pulses_of (toggled a b (edges_of s.pulses)))))
    ≡ s.pulses =
    ap (λ (es : List ℕ). pulses_of (toggled a b es)) edges
    ∙ (ap pulses_of (toggled-toggled a b (edges_of s.pulses) can.order is.track.rises)
    ∙ pulses_of-edges_of s.pulses) in
    (λ k. (with_pulses (pulses k) s, Toggle a b))
turned_single-turned s (Shift (suc i) (suc j) d named) is can =
    let opposite = Opposite-neg d in
    let pulses = shifted-shifted s.micros i j d (neg_ℤ d) s.pulses opposite can.0 in
    let marks = marks_back s.micros d (neg_ℤ d) named s.marks opposite can.1 in
    let distance = neg_ℤ-neg_ℤ d in
    (λ k. (state s.micros (pulses k) s.format (marks k), Shift (suc i) (suc j) (distance k) named))
turned_single-turned s (SetFormat kind expression) is can = refl
turned_single-turned s (SetMark letter time) is can =
    let there : letter < length s.marks = omega (arith, is.letters, can.0) in
    let marks = mark_back letter time s.marks there in
    let read = mark_read letter time s.marks there in
    (λ k. (state s.micros s.pulses s.format (marks k), SetMark letter (read k)))
turned_single-turned s _ is can = absurd can
