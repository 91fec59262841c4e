-- The level of a window is that of the dump, and windows that meet make the whole.
use Rattle.std.proofs.Common.{◌≡◌, ◌<◌, ◌≤◌, ◌+◌, ◌-◌, ◌*◌, ℕ, zero, suc, true, false, List, [], ◌∷◌, ◌++◌, Option, Some, None, Result, Ok, Err, length, nat_le, nat_lt, min}
use Rattle.std.proofs.Common.{refl, ap, subst, sym, ◌∙◌, arith, inl, inr}
use Rattle.std.specs.List.{AllByRecursion, filter}
use Rattle.std.proofs.lemmas.{Bool.cases_lt, Bool.Decides.nat_tests}
use Rattle.irig_vcd.specs.Level.{Change, change, last_level, level_by_changes, level_before, edges_below, edges_up_to}
use Rattle.irig_vcd.specs.Window.{moved, within, extent_dump, extent_parts, TellsWindow}
use Rattle.irig_vcd.specs.Extent.{most_pulses, short}
use Rattle.irig_vcd.specs.{Answer.◌>>=◌, Dump.changes_of, declared.fault.VcdFault.VcdFault}
use Rattle.irig_vcd.specs.{Code.Trace.EdgeBefore, Dump.dump, Dump.recorded_up_to, declared.extent.Extent.Extent, Parts.dump_parts, declared.window.Window.Window}
use Rattle.irig_recording.specs.Recording.{RecordingView, level_by_edges}
use Rattle.irig_vcd.proofs.LevelLaw.{few_level, level_up_to}

-- without a window it is the dump
pub no_window : (wire : Option (List ℕ)) (bytes : List ℕ) → extent_dump (short None) wire bytes ≡ dump wire bytes
unfolding extent_dump dump
no_window wire bytes = refl

-- a change at its microsecond of a window
abbrev pub moved_change : Option Window → Change → Change
moved_change w c = change (moved w c.time) c.high

pub within-push : (w : Option Window) (cs : List Change) (c : Change) → within w (cs ++ c ∷ []) ≡ within w cs ++ moved_change w c ∷ []
within-push None cs c = refl
within-push (Some w) [] c = refl
within-push (Some w) (d ∷ cs) c = ap (λ (l : List Change). moved_change (Some w) d ∷ l) (within-push (Some w) cs c)

pub within-nil : (w : Option Window) → within w [] ≡ []
within-nil None = refl
within-nil (Some w) = refl

pub moved-start : (w : Option Window) → moved w 0 ≡ 0
moved-start None = refl
moved-start (Some w) = omega arith

pub moved_up : (w : Option Window) (s t : ℕ) → s ≤ t → moved w s ≤ moved w t
moved_up None s t h = h
moved_up (Some w) s t h = omega (arith, h)

pub moved_low : (w : Option Window) (t : ℕ) → moved w t ≤ t
moved_low None t = omega arith
moved_low (Some w) t = omega arith

pub all_within : (w : Option Window) (cs : List Change) (t : ℕ) → AllByRecursion (λ c. c.time ≤ t) cs → AllByRecursion (λ c. c.time ≤ moved w t) (within w cs)
all_within None cs t h = h
all_within (Some w) [] t h = h
all_within (Some w) (c ∷ cs) t h = (moved_up (Some w) c.time t h.0, all_within (Some w) cs t h.1)

-- levels of changes that are moved
last-moved : (w : Window) (cs : List Change) → last_level (within (Some w) cs) ≡ last_level cs
last-moved w [] = refl
last-moved w (c ∷ []) = refl
last-moved w (c ∷ d ∷ cs) = last-moved w (d ∷ cs)

filter-moved : (w : Window) (cs : List Change) (u : ℕ) → u < w.to - w.from
    → filter (λ (c : Change). nat_le c.time u) (within (Some w) cs) ≡ within (Some w) (filter (λ (c : Change). nat_le c.time (w.from + u)) cs)
filter-moved w [] u h = refl
filter-moved w (c ∷ cs) u h = elim (cases_lt (w.from + u) c.time) [
  | inl later ↦
      let no : nat_le c.time (w.from + u) ≡ false = grind (arith, nat_tests) in
      let also : nat_le (min c.time w.to - w.from) u ≡ false = grind (arith, nat_tests) in
      rw (no, also) (filter-moved w cs u h)
  | inr here ↦
      let yes : nat_le c.time (w.from + u) ≡ true = grind (arith, nat_tests) in
      let also : nat_le (min c.time w.to - w.from) u ≡ true = grind (arith, nat_tests) in
      rw (yes, also) (ap (λ (l : List Change). moved_change (Some w) c ∷ l) (filter-moved w cs u h))
]

-- the level at each microsecond of a window is that of the dump
pub level_within : (w : Window) (cs : List Change) (u : ℕ) → u < w.to - w.from → level_by_changes (within (Some w) cs) u ≡ level_by_changes cs (w.from + u)
level_within w cs u h = ap last_level (filter-moved w cs u h) ∙ last-moved w (filter (λ (c : Change). nat_le c.time (w.from + u)) cs)

-- and so is that of the edges of its recording, which is as long as the window or the dump
pub level_told : (w : Window) (cs : List Change) (end u : ℕ) → u < moved (Some w) end
    → level_by_edges u (edges_up_to (within (Some w) cs) (moved (Some w) end)) ≡ level_by_changes cs (w.from + u)
level_told w cs end u h = level_up_to (within (Some w) cs) (moved (Some w) end) u h ∙ level_within w cs u (omega (arith, h))

-- the same levels have the same edges
same_edges : (cs ds : List Change) (n : ℕ) → ((u : ℕ) → u < n → level_by_changes cs u ≡ level_by_changes ds u) → edges_below cs n ≡ edges_below ds n
same_edges cs ds zero h = refl
same_edges cs ds (suc zero) h = rw (h 0 (omega arith)) refl
same_edges cs ds (suc (suc n)) h = rw (same_edges cs ds (suc n) (λ u lt. h u (omega (arith, lt))), h (suc n) (omega arith), h n (omega arith)) refl

same_before : (cs ds : List Change) (n : ℕ) → ((u : ℕ) → u < n → level_by_changes cs u ≡ level_by_changes ds u) → level_before cs n ≡ level_before ds n
same_before cs ds zero h = refl
same_before cs ds (suc n) h = h n (omega arith)

-- the window of the whole is the recording
pub window_whole : (w : Window) (cs : List Change) (end : ℕ) → w.from ≡ 0 → end ≤ w.to
    → edges_up_to (within (Some w) cs) (moved (Some w) end) ≡ edges_up_to cs end
window_whole w cs end low high =
    let all : moved (Some w) end ≡ end = omega (arith, low, high) in
    let same : (u : ℕ) → u < end → level_by_changes (within (Some w) cs) u ≡ level_by_changes cs u =
    λ u lt. level_within w cs u (omega (arith, low, high, lt)) ∙ ap (level_by_changes cs) (let k : w.from + u ≡ u = omega (arith, low) in k) in
    rw (all, same_edges (within (Some w) cs) cs end same, same_before (within (Some w) cs) cs end same) refl

-- an edge that memory runs out for in a window is one of the dump
pub edge_within : (w : Option Window) (time : ℕ) (cs : List Change) → EdgeBefore (moved w time) (within w cs) → EdgeBefore time cs
edge_within None time cs e = e
edge_within (Some w) time cs e = record {
  at = w.from + e.at;
  before = omega (arith, e.before);
  high = sym (level_within w cs e.at (omega (arith, e.before))) ∙ e.high;
}

pub no_window_parts : (wire : Option (List ℕ)) (bytes : List ℕ) → extent_parts (short None) wire bytes ≡ dump_parts wire bytes
unfolding extent_parts dump_parts extent_dump dump
no_window_parts wire bytes = refl

-- two windows that meet at a time, one after the other, have the level of the whole recording
pub windows_meet : (a end t : ℕ) (cs : List Change) → a ≤ end → t < end
    → (t < a → level_by_edges t (edges_up_to (within (Some (record { from = 0; to = a })) cs) a) ≡ level_by_edges t (edges_up_to cs end))
    × (a ≤ t → level_by_edges (t - a) (edges_up_to (within (Some (record { from = a; to = end })) cs) (end - a)) ≡ level_by_edges t (edges_up_to cs end))
windows_meet a end t cs le lt = (
  λ low. level_up_to (within (Some (record { from = 0; to = a })) cs) a t low ∙ (level_within (record { from = 0; to = a }) cs t (omega (arith, low))
      ∙ (ap (level_by_changes cs) (let k : 0 + t ≡ t = omega arith in k) ∙ sym (level_up_to cs end t lt))),
  λ high. (let same : a + (t - a) ≡ t = omega (arith, high) in
      level_up_to (within (Some (record { from = a; to = end })) cs) (end - a) (t - a) (omega (arith, high, lt))
      ∙ (level_within (record { from = a; to = end }) cs (t - a) (omega (arith, high, lt)) ∙ (ap (level_by_changes cs) same ∙ sym (level_up_to cs end t lt)))),
)

-- the law of the level of a window
window_levels : (most : ℕ) (w : Window) (wire : Option (List ℕ)) (bytes : List ℕ) (r : RecordingView) (read : Result (List Change × ℕ) VcdFault)
    → changes_of wire bytes ≡ read → (read >>= λ x. recorded_up_to most (within (Some w) x.0) (moved (Some w) x.1)) ≡ Ok r → TellsWindow w wire bytes r
window_levels most w wire bytes r (Err e) is h = absurd (cc h)
window_levels most w wire bytes r (Ok x) is h =
    let end = moved (Some w) x.1 in
    let cs = within (Some w) x.0 in
    let k = few_level (nat_lt (2 * most) (length (edges_up_to cs end))) cs end r h in
    (x.0, x.1, is, sym k.0, λ u lt. k.1 u lt ∙ level_within w x.0 u (omega (arith, lt, k.0)))

pub window_told : (extent : Extent) (w : Window) (wire : Option (List ℕ)) (bytes : List ℕ) (r : RecordingView) → extent.window ≡ Some w
    → extent_dump extent wire bytes ≡ Ok r → TellsWindow w wire bytes r
unfolding extent_dump
window_told extent w wire bytes r is h =
    window_levels (most_pulses extent) w wire bytes r (changes_of wire bytes) refl
    (subst (λ (v : Option Window). (changes_of wire bytes >>= λ x. recorded_up_to (most_pulses extent) (within v x.0) (moved v x.1)) ≡ Ok r) is h)
