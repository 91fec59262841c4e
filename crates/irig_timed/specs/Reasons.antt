-- Which moments have no time, and why. This project's own.
use Rattle.std.specs.Prelude.{◌≡◌, ℕ, ◌/◌, ◌&&◌, ◌||◌, nat_lt, not, is_some, Bool, true, false}
use Rattle.std.specs.Prelude.{List, ◌∷◌, Option, Some, None}
use Rattle.irig_codes.specs.Format.{FormatView}
use Rattle.irig_index.specs.{Frames.frames, declared.record.Record.Record}
use Rattle.irig_recording.specs.declared.pulse.Pulse.{Pulse}
use Rattle.irig_track.specs.Splices.{risen_by}
use Rattle.irig_times.specs.{Times.timed, declared.time.Time.Time, declared.why.Why.Why}
use Rattle.irig_times.specs.declared.why.Why.TheVariants.{Hole, Unbelieved}
use Rattle.irig_law.specs.declared.frame.Frame.{Frame}
use Rattle.irig_timed.specs.{Around.AreAround, Gaps.gap_at, Held.held, Moments.IsElement}
use Rattle.irig_timed.specs.{Moments.IsTimed, Moments.frames_by, declared.gap.Gap.Gap}
use Rattle.irig_timed.specs.declared.gap.Gap.TheVariants.{Line, Untimed}
use Rattle.irig_timed.specs.declared.run.Place.{Place}

-- a pulse is after one place and before another, as far as they are there
abbrev pub is_after : Option Place → ℕ → Bool
is_after None k = true
is_after (Some p) k = nat_lt p.number k

abbrev pub is_before : Option Place → ℕ → Bool
is_before None k = true
is_before (Some q) k = nat_lt k q.number

-- a frame that has a time and is not believed begins between two places; of each record, `held`
-- says whether its frame is believed
abbrev pub is_doubtful : FormatView → Option Place → Option Place → Record → Bool → Bool
is_doubtful f from to r held =
    not held && (is_some (timed f r.verdict) && (is_after from r.marker && is_before to r.marker))

abbrev pub has_doubtful : FormatView → Option Place → Option Place → List Record → List Bool
    → Bool
has_doubtful f from to (r ∷ rs) (h ∷ held) =
    is_doubtful f from to r h || has_doubtful f from to rs held
has_doubtful f from to rs held = false

-- then that is why nothing there has a time
abbrev pub with_doubt : Bool → Gap → Gap
with_doubt doubt (Line bound) = Line bound
with_doubt true (Untimed why) = Untimed Unbelieved
with_doubt false (Untimed why) = Untimed why

-- what is between two pulses, with that
abbrev pub gap_with : FormatView → ℕ → List Pulse → List Frame → List Bool → Option Place
    → Option Place → Gap
gap_with f century ps believed held from to =
    with_doubt (has_doubtful f from to (frames f ps) held) (gap_at f century ps believed from to)

-- on a line there is a time, so nobody asks
abbrev pub reason_in : Gap → Why
reason_in (Line bound) = Hole
reason_in (Untimed why) = why

-- why a moment has no time when that many pulses have risen
pub record IsWhyBy (f : FormatView) (century : ℕ) (ps : List Pulse) (believed : List Frame)
    (held : List Bool) (risen : ℕ) (why : Why) : Type 0 where
  pub from : Option Place
  pub to : Option Place
  pub around : AreAround (IsElement f century ps believed) risen from to
  pub is : why ≡ reason_in (gap_with f century ps believed held from to)

abbrev pub IsWhy : FormatView → Bool → ℕ → List Pulse → ℕ → Why → Type 0
IsWhy f alone century ps risen why =
    IsWhyBy f century ps (frames_by f alone century ps) (held f alone century ps) risen why

-- n / d microseconds after the start of a track there is no time, and this is why
pub record HasNoTime (f : FormatView) (alone : Bool) (century : ℕ) (ps : List Pulse) (d n : ℕ)
    (why : Why) : Type 0 where
  pub none : (x : Time) → IsTimed f alone century ps d n x → ⊥
  pub is : IsWhy f alone century ps (risen_by (n / d) ps) why
