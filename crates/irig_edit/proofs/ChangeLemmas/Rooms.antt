-- The room of changes: what an edit asks for is enough, and a turn leaves room for its way back.
use Rattle.std.proofs.Common.{suc, ◌≡◌, ◌≤◌, ◌+◌, ◌-◌, ℕ, List, Result, Ok, Err, OnOk, length, take, drop, refl, ap, sym, subst, ◌∙◌, arith}
use Rattle.irig_index.specs.{Frames.frames, Index.WereFrames}
use Rattle.irig_index.proofs.FewFrames.{frames_few, frames_few_after, frames_moved}
use Rattle.irig_recording.specs.declared.pulse.Pulse.{Pulse}
use Rattle.irig_track.specs.{Shifts.count_to, Shifts.moved, Splices.IsSpan, Splices.ended_before, Splices.piece, Splices.risen_by, Splices.spliced}
use Rattle.irig_track.proofs.{Carried.length-spliced, Laws.parts, Recordings.long_track, ToggleSpans.span_of_toggle}
use Rattle.irig_edit.specs.{Changes.Ample.IsAmpleFor, Changes.Ample.PutsIn, Changes.Ample.records_for, State.Places.HoldsState, State.Places.IsWithin}
use Rattle.irig_edit.specs.{State.Places.KeepsPlaces, State.Places.Places, State.Places.places_in, Changes.Held.single_of, Changes.Laws.Edges.edges_of-toggled}
use Rattle.irig_edit.specs.{Changes.Laws.Room.holds_wider, Changes.Laws.Single.turned_single-turned, Changes.Laws.State.IsState-turned_single}
use Rattle.irig_edit.specs.{State.Present.PresentView, Changes.Room.HasRoomFor, Changes.Room.TakesIn, Changes.Room.passing, Changes.Single.FitsSingle}
use Rattle.irig_edit.specs.{Changes.Single.turned_single, State.State.State, State.State.IsState, State.State.frames_of, declared.changes.turn.Turn.Turn}
use Rattle.irig_saved.specs.declared.single.Single as saved
use Rattle.irig_saved.specs.declared.single.Single.TheVariants.{Splice, Toggle, Shift}
use Rattle.irig_edit.proofs.ChangeLemmas.Windows.{length-spanned, risen_few, toggled_few}
use Rattle.irig_edit.proofs.{EditLemmas.ShiftedStates.length-shifted, EditLemmas.Toggles.length-toggled}

-- an edit at one place brings no more records than pulses came, and two
spanned_few : (s : State) (at gone come : ℕ) (ps : List Pulse) → IsState s → IsSpan at gone come s.pulses ps
    → length (frames s.format ps) ≤ length (frames_of s) + (come + 2)
spanned_few s at gone come ps is span =
    let were : WereFrames s.format at gone come (frames_of s) s.micros ps =
    record { former = s.pulses; track = long_track s.micros s.pulses is.track; frames = refl; span = span } in
    frames_few_after s.format at gone come s.micros (frames_of s) ps were

-- other pulses instead of some bring at most two records more than those of both, as if they stood alone
parted_few : (s : State) (at count : ℕ) (put : List Pulse) → length (frames s.format (spliced at count put s.pulses))
    + length (frames s.format (piece at count s.pulses)) ≤ length (frames_of s) + length (frames s.format put) + 2
parted_few s at count put =
    let a = take at s.pulses in
    let x = piece at count s.pulses in
    let b = drop (at + count) s.pulses in
    omega (arith, frames_few s.format a x put b, ap (λ qs. length (frames s.format qs)) (sym (parts at count s.pulses)))

-- a turn brings no more records than it may
pub frames_after : (s : State) (d : saved.Single) → IsState s → FitsSingle s d
    → length (frames_of (turned_single s d).0) ≤ length (frames_of s) + records_for s d
frames_after s (Splice (suc at) count put) is can = omega (arith, parted_few s at count put)
frames_after s (Toggle a b) is can =
    let new = (turned_single s (Toggle a b)).0.pulses in
    let edges = edges_of-toggled s.micros a b s.pulses can in
    let after = (IsState-turned_single s (Toggle a b) is can).track in
    let at = ended_before a s.pulses in
    let gone = risen_by b s.pulses - at in
    let come = risen_by b new - at in
    let span : IsSpan at gone come s.pulses new = span_of_toggle a b s.pulses new can.order is.track.rises after.rises edges in
    omega (
      arith,
      spanned_few s at gone come new is span,
      toggled_few a b s.pulses new edges,
      length-spanned at gone come s.pulses new span,
      risen_few a 0 s.pulses is.track.rises,
      span.came,
    )
frames_after s (Shift (suc i) (suc j) d named) is can =
    let part = piece i (count_to i j) s.pulses in
    omega (arith, parted_few s i (count_to i j) (moved d part), frames_moved s.format d part can.0.from_zero)
frames_after s _ is can = omega arith

-- places for what a change inserts are among more
pub puts_wider : (p q : Places) (s : State) (d : saved.Single) → p.pulses ≤ q.pulses → PutsIn p s d → PutsIn q s d
puts_wider p q s (Splice at count put) more puts = omega (arith, more, puts)
puts_wider p q s (Toggle a b) more puts = omega (arith, more, puts)
puts_wider p q s _ more puts = tt

-- what a single change asks for is enough
pub ample_enough : (p : Places) (s : State) (x : Turn) → IsState s → FitsSingle s (single_of x) → length s.pulses ≤ p.pulses
    → IsAmpleFor p s x → HasRoomFor p s x
ample_enough p s x is can held ample =
    let few = frames_after s (single_of x) is can in
    let both = by_kind (single_of x) can ample.puts in
    record {
      takes = ample.takes;
      before = record { pulses = both.0; records = omega (arith, ample.records) };
      after = record { pulses = both.1; records = omega (arith, ample.records, few) };
    } where
      by_kind : (d : saved.Single) → FitsSingle s d → PutsIn p s d
          → (length s.pulses + passing d ≤ p.pulses) × (length (turned_single s d).0.pulses + passing d ≤ p.pulses)
      by_kind (Splice (suc at) count put) can puts =
          (omega (arith, held), omega (arith, puts, length-spliced s.pulses put at count can.there))
      by_kind (Toggle a b) can puts = (omega (arith, puts), omega (arith, puts, length-toggled s a b can))
      by_kind (Shift (suc i) (suc j) d named) can puts =
          (omega (arith, held), omega (arith, held, length-shifted i j d s.pulses can.0.order can.0.there))
      by_kind _ can puts = (omega (arith, held), omega (arith, held))

-- places that are kept are within each other
pub kept_within : (p q : PresentView) → KeepsPlaces p q → IsWithin (places_in p) (places_in q)
kept_within p q keeps = record { pulses = omega (arith, keeps.pulses); records = omega (arith, keeps.records) }

-- the way back passes as many pulses
passing-turned : (s : State) (d : saved.Single) → passing (turned_single s d).1 ≡ passing d
passing-turned s (Toggle a b) = refl
passing-turned s (Splice (suc at) count put) = refl
passing-turned s (Shift (suc i) (suc j) d named) = refl
passing-turned s _ = refl

-- the way back leads to the state before
pub back_there : (s t : State) (d e : saved.Single) → IsState s → FitsSingle s d → (t, e) ≡ turned_single s d
    → (turned_single t e).0 ≡ s
back_there s t d e is can turn =
    ap (λ (p : State × saved.Single). (turned_single p.0 p.1).0) turn
    ∙ ap (λ (p : State × saved.Single). p.0) (turned_single-turned s d is can)

-- a turn that keeps the places leaves its way back with room
pub room_back : (p q : PresentView) (x y : Turn) → IsState p.state → FitsSingle p.state (single_of x)
    → HasRoomFor (places_in p) p.state x → (q.state, single_of y) ≡ turned_single p.state (single_of x)
    → KeepsPlaces p q → TakesIn y → HasRoomFor (places_in q) q.state y
room_back p q x y is can room turn keeps takes =
    let within = kept_within p q keeps in
    let there : (turned_single p.state (single_of x)).0 ≡ q.state = ap (λ (r : State × saved.Single). r.0) (sym turn) in
    let first : p.state ≡ (turned_single q.state (single_of y)).0 = sym (back_there p.state q.state (single_of x) (single_of y) is can turn) in
    let as_many : passing (single_of x) ≡ passing (single_of y) =
    sym (ap (λ (r : State × saved.Single). passing r.1) turn ∙ passing-turned p.state (single_of x)) in
    let n = passing (single_of x) in
    let before = holds_wider (places_in p) (places_in q) n (turned_single p.state (single_of x)).0 within room.after in
    let after = holds_wider (places_in p) (places_in q) n p.state within room.before in
    record {
      takes = takes;
      before = subst (λ (k : ℕ). HoldsState (places_in q) k q.state) as_many (subst (λ (s : State). HoldsState (places_in q) n s) there before);
      after = subst (λ (k : ℕ). HoldsState (places_in q) k (turned_single q.state (single_of y)).0) as_many
          (subst (λ (s : State). HoldsState (places_in q) n s) first after);
    }

-- a fact of a value leads to another
pub on_ok : {A B P Q : Type 0} (r : Result A B) → (P → Q) → OnOk r P → OnOk r Q
on_ok (Ok x) f h = f h
on_ok (Err e) f h = tt
