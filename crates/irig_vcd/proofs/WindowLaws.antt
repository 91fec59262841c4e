-- Laws of the recordings of windows.
use Rattle.std.proofs.Common.{◌≡◌, ◌<◌, ◌≤◌, ◌+◌, ◌-◌, ◌*◌, ℕ, List, Option, Some, Result, Ok, Err, length, nat_lt, min, refl, ap, sym, ◌∙◌, arith}
use Rattle.irig_vcd.specs.Level.{Change, level_by_changes, edges_up_to}
use Rattle.irig_vcd.specs.Window.{AreJoined, TellsWindow, extent_dump, moved, recorded_in, window_of}
use Rattle.irig_vcd.specs.{Answer.◌>>=◌, Dump.changes_of, Dump.dump, Dump.if_few, Dump.recorded, declared.fault.VcdFault.VcdFault}
use Rattle.irig_vcd.specs.{Extent.short, declared.window.Window.Window}
use Rattle.irig_recording.specs.Recording.{RecordingView, level_by_edges}
use Rattle.irig_vcd.proofs.{LevelLaw.few_level, Windows.window_told, Windows.window_whole}

-- a window of all changes gives their recording
all_recorded : (w : Window) (read : Result (List Change × ℕ) VcdFault) (r : RecordingView) → w.from ≡ 0 → r.micros ≤ w.to
    → (read >>= λ x. recorded x.0 x.1) ≡ Ok r → (read >>= λ x. recorded_in (short (Some w)) x.0 x.1) ≡ Ok r
all_recorded w (Err e) r low high h = absurd (cc h)
all_recorded w (Ok x) r low high h =
    let k = few_level (nat_lt (2 * 4194304) (length (edges_up_to x.0 x.1))) x.0 x.1 r h in
    let end : x.1 ≤ w.to = omega (arith, k.0, high) in
    let all : moved (Some w) x.1 ≡ x.1 = omega (arith, low, end) in
    ap (if_few 4194304 (moved (Some w) x.1)) (window_whole w x.0 x.1 low end) ∙ (ap (λ (n : ℕ). if_few 4194304 n (edges_up_to x.0 x.1)) all ∙ h)

pub window_of_all : (w : Window) (wire : Option (List ℕ)) (bytes : List ℕ) (r : RecordingView) → w.from ≡ 0 → r.micros ≤ w.to
    → dump wire bytes ≡ Ok r → extent_dump (short (Some w)) wire bytes ≡ Ok r
unfolding dump extent_dump
window_of_all w wire bytes r low high h = all_recorded w (changes_of wire bytes) r low high h

-- levels and lengths of windows that meet
levels_joined : (cs : List Change) (last from middle to : ℕ) (first second both : RecordingView) → from ≤ middle → middle ≤ to
    → first.micros ≡ min last middle - from → second.micros ≡ min last to - middle → both.micros ≡ min last to - from
    → ((u : ℕ) → u < first.micros → level_by_edges u first.edges ≡ level_by_changes cs (from + u))
    → ((u : ℕ) → u < second.micros → level_by_edges u second.edges ≡ level_by_changes cs (middle + u))
    → ((u : ℕ) → u < both.micros → level_by_edges u both.edges ≡ level_by_changes cs (from + u))
    → AreJoined first second both
levels_joined cs last from middle to first second both le also one two three of_first of_second of_both = (
  omega (arith, le, also, one, two, three),
  λ u lt. of_first u lt ∙ sym (of_both u (omega (arith, le, also, one, three, lt))),
  λ u lt. (let at : middle + u ≡ from + (first.micros + u) = omega (arith, le, also, one, two, lt) in
      of_second u lt ∙ (ap (level_by_changes cs) at ∙ sym (of_both (first.micros + u) (omega (arith, le, also, one, two, three, lt))))),
)

abbrev made : List Change × ℕ → Result (List Change × ℕ) VcdFault
made x = Ok x

same_pair : (x y : List Change × ℕ) → made x ≡ made y → x ≡ y
same_pair x y h = cc h

told_joined : (wire : Option (List ℕ)) (bytes : List ℕ) (from middle to : ℕ) (first second both : RecordingView) → from ≤ middle → middle ≤ to
    → TellsWindow (window_of from middle) wire bytes first → TellsWindow (window_of middle to) wire bytes second
    → TellsWindow (window_of from to) wire bytes both → AreJoined first second both
told_joined wire bytes from middle to first second both le also one two three =
    let same-one : made (one.0, one.1) ≡ made (three.0, three.1) = sym one.2 ∙ three.2 in
    let same-two : made (two.0, two.1) ≡ made (three.0, three.1) = sym two.2 ∙ three.2 in
    let cs-one : one.0 ≡ three.0 = ap (λ (x : List Change × ℕ). x.0) (same_pair _ _ same-one) in
    let cs-two : two.0 ≡ three.0 = ap (λ (x : List Change × ℕ). x.0) (same_pair _ _ same-two) in
    let last-one : one.1 ≡ three.1 = ap (λ (x : List Change × ℕ). x.1) (same_pair _ _ same-one) in
    let last-two : two.1 ≡ three.1 = ap (λ (x : List Change × ℕ). x.1) (same_pair _ _ same-two) in
    levels_joined three.0 three.1 from middle to first second both le also
    (one.3 ∙ ap (λ (n : ℕ). min n middle - from) last-one)
    (two.3 ∙ ap (λ (n : ℕ). min n to - middle) last-two)
    three.3
    (λ u lt. one.4 u lt ∙ ap (λ (cs : List Change). level_by_changes cs (from + u)) cs-one)
    (λ u lt. two.4 u lt ∙ ap (λ (cs : List Change). level_by_changes cs (middle + u)) cs-two)
    three.4

-- recordings of windows that meet
pub windows_joined : (wire : Option (List ℕ)) (bytes : List ℕ) (from middle to : ℕ) (first second both : RecordingView) → from ≤ middle → middle ≤ to
    → extent_dump (short (Some (window_of from middle))) wire bytes ≡ Ok first → extent_dump (short (Some (window_of middle to))) wire bytes ≡ Ok second
    → extent_dump (short (Some (window_of from to))) wire bytes ≡ Ok both → AreJoined first second both
windows_joined wire bytes from middle to first second both le also one two three =
    told_joined wire bytes from middle to first second both le also
    (window_told (short (Some (window_of from middle))) (window_of from middle) wire bytes first refl one)
    (window_told (short (Some (window_of middle to))) (window_of middle to) wire bytes second refl two)
    (window_told (short (Some (window_of from to))) (window_of from to) wire bytes both refl three)
