-- A long recording has the levels of its dump, and a recording that is not long is the same.
use Rattle.std.proofs.Common.{◌≡◌, ◌≤◌, ◌*◌, ◌∙◌, ℕ, List, Option, None, Result, Ok, Err, length, nat_lt, refl, ap, arith, inl, inr}
use Rattle.std.proofs.lemmas.{Bool.cases_lt, Bool.le-ltb, Bool.lt-ltb}
use Rattle.irig_vcd.specs.Dump.{TellsLevels, changes_of, recorded_up_to}
use Rattle.irig_vcd.specs.Extent.{long, short}
use Rattle.irig_vcd.specs.Level.{Change, edges_up_to}
use Rattle.irig_vcd.specs.Window.{extent_dump, moved, within}
use Rattle.irig_vcd.specs.{Answer.◌>>=◌, declared.fault.VcdFault.VcdFault, declared.window.Window.Window}
use Rattle.irig_recording.specs.Recording.{RecordingView}
use Rattle.irig_vcd.proofs.LevelLaw.{few_level}

-- what few pulses make, many may make
more_recorded : (few many : ℕ) (cs : List Change) (end : ℕ) (r : RecordingView) → few ≤ many → recorded_up_to few cs end ≡ Ok r
    → recorded_up_to many cs end ≡ Ok r
more_recorded few many cs end r le h = elim (cases_lt (2 * few) (length (edges_up_to cs end))) [
  | inl more ↦ absurd (let bad = rw (lt-ltb (2 * few) (length (edges_up_to cs end)) more) at h in cc)
  | inr fits ↦
      rw (le-ltb (2 * many) (length (edges_up_to cs end)) (omega (arith, le, fits)))
      (rw (le-ltb (2 * few) (length (edges_up_to cs end)) fits) at h)
]

same_recorded : (window : Option Window) (read : Result (List Change × ℕ) VcdFault) (r : RecordingView)
    → (read >>= λ x. recorded_up_to 4194304 (within window x.0) (moved window x.1)) ≡ Ok r
    → (read >>= λ x. recorded_up_to 67108864 (within window x.0) (moved window x.1)) ≡ Ok r
same_recorded window (Err e) r h = absurd (cc h)
same_recorded window (Ok x) r h = more_recorded 4194304 67108864 (within window x.0) (moved window x.1) r (omega arith) h

pub same_long : (window : Option Window) (wire : Option (List ℕ)) (bytes : List ℕ) (r : RecordingView) → extent_dump (short window) wire bytes ≡ Ok r
    → extent_dump (long window) wire bytes ≡ Ok r
unfolding extent_dump
same_long window wire bytes r h = same_recorded window (changes_of wire bytes) r h

long_levels : (wire : Option (List ℕ)) (bytes : List ℕ) (r : RecordingView) (read : Result (List Change × ℕ) VcdFault) → changes_of wire bytes ≡ read
    → (read >>= λ x. recorded_up_to 67108864 x.0 x.1) ≡ Ok r → TellsLevels wire bytes r
long_levels wire bytes r (Err e) is h = absurd (cc h)
long_levels wire bytes r (Ok x) is h =
    let k = few_level (nat_lt (2 * 67108864) (length (edges_up_to x.0 x.1))) x.0 x.1 r h in
    (x.0, is ∙ ap (λ n. Ok (x.0, n)) k.0, k.1)

pub long_told : (wire : Option (List ℕ)) (bytes : List ℕ) (r : RecordingView) → extent_dump (long None) wire bytes ≡ Ok r → TellsLevels wire bytes r
unfolding extent_dump
long_told wire bytes r h = long_levels wire bytes r (changes_of wire bytes) refl h
