-- What a saved journal says above its steps.
use Rattle.std.proofs.Common.{◌≡◌, ◌≤◌, ◌+◌, ℕ, Bool, true, false, List, [], ◌∷◌, Option, Some, None, IsTrue, length, nat_lt, not, if◌then◌else◌, refl, ap, sym}
use Rattle.std.proofs.Common.{◌∙◌, arith}
use Rattle.std.proofs.lemmas.Bool.Decides.{nat_tests}
use Rattle.std.specs.List.{AllByRecursion}
use Rattle.irig_codes.specs.Format.{is_permitted}
use Rattle.irig_saved.specs.declared.saved.Saved.{Saved}
use Rattle.irig_recording.specs.{Recording.RecordingView, declared.pulse.Pulse.Pulse}
use Rattle.irig_track.specs.Edges.{edges_of}
use Rattle.irig_edit.specs.{Changes.Laws.Edges.pulses_of-edges_of, Opened.Opened.head_fault, Opened.Opened.mark_beyond, Opened.Opened.state_of}
use Rattle.irig_edit.specs.{Changes.Single.pulses_of, State.State.IsMark, State.State.State, State.State.recording_of, State.State.state}

-- the state of a recording with a format and marks
pub opened_state : (s : State) (r : RecordingView) (saved : Saved) → recording_of s ≡ r
    → s.format ≡ record { kind = saved.kind; expression = saved.expression }
    → state s.micros s.pulses s.format saved.marks ≡ state_of r saved
opened_state s r saved is format =
    let micros : s.micros ≡ r.micros = ap (λ (x : RecordingView). x.micros) is in
    let pulses = sym (pulses_of-edges_of s.pulses) ∙ ap (λ (x : RecordingView). pulses_of x.edges) is in
    (λ k. state (micros k) (pulses k) (format k) saved.marks)

unless_is : {X : Type 0} (b : Bool) (x y : X) → IsTrue b → (if not b then x else y) ≡ y
unless_is true x y is = refl
unless_is false x y is = let bad : false ≡ true = is in cc

lt_no : {X : Type 0} (m n : ℕ) (x y : X) → n ≤ m → (if nat_lt m n then x else y) ≡ y
lt_no m n x y more = let past : nat_lt m n ≡ false = grind (arith, nat_tests) in rw past refl

-- as many pulses as their edges make
pub pulses_count : (ps : List Pulse) (edges : List ℕ) → edges_of ps ≡ edges → length ps ≡ length (pulses_of edges)
pulses_count ps edges is = ap length (sym (pulses_of-edges_of ps)) ∙ ap (λ (xs : List ℕ). length (pulses_of xs)) is

-- marks of a head that is right
pub head_within : (s : State) (saved : Saved) → head_fault s saved ≡ None → mark_beyond s.micros 4 saved.marks ≡ None
head_within s saved none =
    by (is_permitted saved.kind saved.expression) (nat_lt (length s.pulses) saved.cursor) (mark_beyond s.micros 4 saved.marks) none where
      by : (permitted past : Bool) (m : Option ℕ) → (if not permitted then Some 2 else if past then Some 3 else m) ≡ None → m ≡ None
      by false past m none = absurd (cc)
      by true true m none = absurd (cc)
      by true false m none = none

-- and then the marks
pub head_marks : (s : State) (saved : Saved) → IsTrue (is_permitted saved.kind saved.expression) → saved.cursor ≤ length s.pulses
    → head_fault s saved ≡ mark_beyond s.micros 4 saved.marks
head_marks s saved is within =
    unless_is (is_permitted saved.kind saved.expression) _ _ is ∙ lt_no (length s.pulses) saved.cursor _ _ within

-- marks, none of them beyond
pub marks_within : (micros line : ℕ) (marks : List (Option ℕ)) → mark_beyond micros line marks ≡ None → AllByRecursion (IsMark micros) marks
marks_within micros line [] none = tt
marks_within micros line (None ∷ marks) none = (tt, marks_within micros line marks none)
marks_within micros line (Some t ∷ marks) none = by_test (nat_lt micros t) refl none (λ rest. marks_within micros (line + 1) marks rest) where
  by_test : (b : Bool) → nat_lt micros t ≡ b → (if b then Some line else mark_beyond micros (line + 1) marks) ≡ None
      → (mark_beyond micros (line + 1) marks ≡ None → AllByRecursion (IsMark micros) marks)
      → (t ≤ micros) × AllByRecursion (IsMark micros) marks
  by_test true is none rest = absurd (cc)
  by_test false is none rest = let within : t ≤ micros = grind (arith, nat_tests) in (within, rest none)
