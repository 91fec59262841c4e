-- Pulses that are removed.
use Rattle.std.proofs.Common.{◌≡◌, ◌≤◌, ◌+◌, ◌-◌, ℕ, [], length, refl, ap, ◌∙◌, arith, min}
use Rattle.irig_track.specs.{Edges.edges_of, Splices.spliced, Splices.piece, Splices.CanSplice}
use Rattle.irig_track.proofs.{Laws.is_edge-deleted, Carried.length-spliced, RisingLists.rises_right}
use Rattle.irig_edit.specs.{State.State.State, State.State.IsState, State.State.with_pulses, Edits.Becoming.Becomes, Session.Calls.Edit.Delete}
use Rattle.irig_edit.proofs.EditLemmas.Replacements.{IsTrack-replaced}

pub deleted : (s : State) (i j cursor : ℕ) → IsState s → 1 ≤ i → i ≤ j → j ≤ length s.pulses
    → cursor ≡ min i (length s.pulses - (j - i + 1))
    → CanSplice s.micros (i - 1) (j + 1 - i) [] s.pulses × Becomes (Delete i j) s (with_pulses (spliced (i - 1) (j + 1 - i) [] s.pulses) s) cursor
deleted s i j cursor lawful first order last is =
    let there : (i - 1) + (j + 1 - i) ≤ length s.pulses = omega arith in
    let track = IsTrack-replaced s.micros (i - 1) (j + 1 - i) [] s.pulses lawful.track there (omega (arith, lawful.track.few))
    (λ k rises. rises_right k (edges_of (piece (i - 1) (j + 1 - i) s.pulses)) _ rises) tt in
    let left : length s.pulses - (j - i + 1) ≡ length (spliced (i - 1) (j + 1 - i) [] s.pulses) =
    omega (arith, length-spliced s.pulses [] (i - 1) (j + 1 - i) there) in
    let place : cursor ≡ min i (length (spliced (i - 1) (j + 1 - i) [] s.pulses)) = is ∙ ap (min i) left in (
      record { there = there; track = track },
      record {
        after = record {
          length = refl;
          track = track;
          edges = λ t. is_edge-deleted t (i - 1) (j + 1 - i) s.pulses lawful.track.rises;
          format = refl;
          marks = refl;
        };
        cursor = λ _. place;
        there = omega (arith, place);
      },
    )
