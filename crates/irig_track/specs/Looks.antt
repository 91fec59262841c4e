-- A track as seen through a lens, with a count of the looks at its pulses. This project's own.
use Rattle.std.specs.Prelude.{◌≡◌, ℕ, zero, suc, ◌+◌, ◌-◌, ◌≤◌, ◌^◌, min}
use Rattle.irig_track.specs.Track.{TrackView}

-- what a contract sees: the track, and how often a pulse was looked at
pub record LensView : Type 0 where
  pub track : TrackView
  pub looks : ℕ

-- the two parts put together
abbrev pub lens_view : TrackView → ℕ → LensView
lens_view t n = record { track = t; looks = n }

-- a count n with k more, which stays at 2^64 - 1
abbrev pub counted : ℕ → ℕ → ℕ
counted n k = min (n + k) (2 ^ 64 - 1)

-- a count n after this many looks more, which stays at 2^64 - 1
abbrev pub after_looks : ℕ → ℕ → ℕ
after_looks n zero = n
after_looks n (suc made) = counted n (made + 1)

-- at most this many looks were made, and the lens has counted them
pub record LookedThrough (old new : LensView) (most : ℕ) : Type 0 where
  pub made : ℕ
  pub few : made ≤ most
  pub lens : new ≡ lens_view old.track (after_looks old.looks made)
