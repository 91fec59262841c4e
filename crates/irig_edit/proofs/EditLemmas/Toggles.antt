-- When the level can be inverted, and what comes of it.
use Rattle.std.proofs.Common.{◌≡◌, ◌≤◌, ◌<◌, ◌+◌, ◌-◌, ◌^◌, ℕ, Bool, true, false, length, refl, ap, ◌∙◌, arith}
use Rattle.std.proofs.lemmas.Bool.Decides.{nat_tests}
use Rattle.irig_track.specs.{Edges.edges_of, Edges.has, Edges.is_edge, Splices.risen_by, Toggles.CanToggle, Toggles.flipped}
use Rattle.irig_track.proofs.Laws.{has-toggled}
use Rattle.irig_track.proofs.Recordings.{can_toggle_room, can_toggle_first, can_toggle_second, cannot_toggle, length-flipped_most}
use Rattle.irig_recording.proofs.PulseEdges.{length-edges_of}
use Rattle.irig_edit.specs.{Edits.Becoming.Becomes, Session.Calls.Edit.Invert, Changes.Single.turned_single, Changes.Laws.State.IsState-turned_single}
use Rattle.irig_edit.specs.{Changes.Laws.Edges.edges_of-toggled, State.State.State, State.State.IsState, Edits.Conditions.is_overfull, Edits.Conditions.is_full}
use Rattle.irig_saved.specs.declared.single.Single.TheVariants.{Toggle}

-- what can be inverted is not overfull
pub overfull_not : (a b : ℕ) (s : State) → IsState s → CanToggle s.micros a b s.pulses → is_overfull a b s ≡ false
overfull_not a b s lawful can = by_case (is_full s) refl (is_edge a s.pulses) refl (is_edge b s.pulses) refl where
  by_case : (full : Bool) → is_full s ≡ full → (first : Bool) → is_edge a s.pulses ≡ first → (second : Bool) → is_edge b s.pulses ≡ second
      → is_overfull a b s ≡ false
  by_case false is first f second g = rw is refl
  by_case true is true f second g = rw is (rw f refl)
  by_case true is false f true g = rw is (rw f (rw g refl))
  by_case true is false f false g =
      let all : 2 ^ 22 ≤ length s.pulses = grind (arith, nat_tests) in
      absurd (cannot_toggle a b s.micros (2 ^ 22 - length s.pulses) s.pulses (omega (arith, lawful.track.few)) (omega arith) f g can)

-- what can't be is
pub overfull : (a b : ℕ) (s : State) → IsState s → a < b → b ≤ s.micros → (CanToggle s.micros a b s.pulses → ⊥) → is_overfull a b s ≡ true
overfull a b s lawful order within cannot = by_case (is_full s) refl (is_edge a s.pulses) refl (is_edge b s.pulses) refl where
  by_case : (full : Bool) → is_full s ≡ full → (first : Bool) → is_edge a s.pulses ≡ first → (second : Bool) → is_edge b s.pulses ≡ second
      → is_overfull a b s ≡ true
  by_case false is first f second g =
      let some : length s.pulses < 2 ^ 22 = grind (arith, nat_tests) in
      absurd (cannot (can_toggle_room a b s.micros (2 ^ 22 - length s.pulses) s.pulses order within lawful.track (omega arith) (omega arith)))
  by_case true is true f second g = absurd (cannot (can_toggle_first a b s.micros s.pulses order within lawful.track f))
  by_case true is false f true g = absurd (cannot (can_toggle_second a b s.micros s.pulses order within lawful.track g))
  by_case true is false f false g = rw is (rw f (rw g refl))

-- the state after a toggle is that after an inversion
pub toggled_becomes : (a b place : ℕ) (s : State) → IsState s → CanToggle s.micros a b s.pulses → place ≡ risen_by b (turned_single s (Toggle a b)).0.pulses
    → place ≤ length (turned_single s (Toggle a b)).0.pulses → Becomes (Invert a b) s (turned_single s (Toggle a b)).0 place
toggled_becomes a b place s is can count within =
    let edges = edges_of-toggled s.micros a b s.pulses can in
    record {
      after = record {
        length = refl;
        track = (IsState-turned_single s (Toggle a b) is can).track;
        edges = λ t. ap (has t) edges ∙ has-toggled t a b (edges_of s.pulses) can.order is.track.rises;
        format = refl;
        marks = refl;
      };
      cursor = λ _. count;
      there = within;
    }

-- at most one more pulse
pub length-toggled : (s : State) (a b : ℕ) → CanToggle s.micros a b s.pulses → length (turned_single s (Toggle a b)).0.pulses ≤ length s.pulses + 1
length-toggled s a b can =
    let edges = edges_of-toggled s.micros a b s.pulses can in
    let first = length-flipped_most a (edges_of s.pulses) in
    let both = length-flipped_most b (flipped a (edges_of s.pulses)) in
    let long = ap length edges in
    omega (arith, length-edges_of s.pulses, length-edges_of (turned_single s (Toggle a b)).0.pulses)
