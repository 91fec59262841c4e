-- When a pulse of a frame is where a recording has it: it is an anchor, or on the line between what
-- holds it from before and from after. This project's own.
use Rattle.std.specs.Prelude.{◌≡◌, ◌<◌, ◌-◌, ◌||◌, ℕ, Bool, true, List}
use Rattle.std.specs.Prelude.{Option, Some, None}
use Rattle.irig_codes.specs.Format.{FormatView}
use Rattle.irig_recording.specs.declared.pulse.Pulse.{Pulse}
use Rattle.irig_safety.specs.Lines.{is_on_line, marker_after, marker_before}
use Rattle.irig_safety.specs.{Rises.rise_in, declared.lines.Anchor.Anchor}
use Rattle.irig_safety.specs.{declared.shown.Shown.Shown, declared.witnesses.Witnesses.Witnesses}
use Rattle.irig_safety.specs.Anchors.{is_anchored, last_anchor, next_anchor}

-- what holds an element from before: the last anchor of its frame, or the marker of the frame
-- before
abbrev pub held_before : FormatView → List Pulse → ℕ → Witnesses → Shown → ℕ → Option ℕ
    → Option Anchor
held_before f pulses marker w y j None = marker_before f w y j
held_before f pulses marker w y j (Some i) =
    Some (record { steps = j - i; rise = rise_in pulses marker i })

-- what holds it from after it: the first anchor after it, or the marker of the frame after
abbrev pub held_after : FormatView → List Pulse → ℕ → Witnesses → Shown → ℕ → Option ℕ
    → Option Anchor
held_after f pulses marker w y j None = marker_after f w y j
held_after f pulses marker w y j (Some k) =
    Some (record { steps = k - j; rise = rise_in pulses marker k })

-- the element is on the line between those that hold it
abbrev pub is_held : FormatView → List Pulse → ℕ → Witnesses → Shown → ℕ → Option ℕ → Option ℕ
    → Bool
is_held f pulses marker w y j last next =
    is_on_line f w (held_before f pulses marker w y j last) (rise_in pulses marker j)
    (held_after f pulses marker w y j next)

-- it is an anchor, or held
abbrev pub is_placed : FormatView → List Pulse → List Pulse → ℕ → Witnesses → Shown → ℕ → Bool
is_placed f recorded pulses marker w y j =
    is_anchored recorded pulses marker j
    || is_held f pulses marker w y j (last_anchor recorded pulses marker j)
    (next_anchor recorded pulses marker (100 - j) j)

-- all pulses of a frame are
abbrev pub ArePlaced : FormatView → List Pulse → List Pulse → ℕ → Witnesses → Shown → Type 0
ArePlaced f recorded pulses marker w y = (j : ℕ) → j < 100
    → is_placed f recorded pulses marker w y j ≡ true
