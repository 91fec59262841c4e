-- What a splice makes of a list of pulses, and where an edit takes place. This project's own.
use Rattle.std.specs.Prelude.{◌≡◌, ℕ, ◌+◌, ◌≤◌, List, [], ◌∷◌, ◌++◌, length, take, drop, nat_le}
use Rattle.std.specs.Prelude.{nat_lt, cond}
use Rattle.irig_recording.specs.declared.pulse.Pulse.{Pulse}
use Rattle.irig_track.specs.Track.{IsTrack}

-- the pulses with the count from at on replaced
abbrev pub spliced : ℕ → ℕ → List Pulse → List Pulse → List Pulse
spliced at count put ps = take at ps ++ (put ++ drop (at + count) ps)

-- the count pulses from at on
abbrev pub piece : ℕ → ℕ → List Pulse → List Pulse
piece at count ps = take count (drop at ps)

-- the pulses that go are there, and the splice leaves a track
pub record CanSplice (micros at count : ℕ) (put ps : List Pulse) : Type 0 where
  pub there : at + count ≤ length ps
  pub track : IsTrack micros (spliced at count put ps)

-- from at, gone pulses became come, and all others stay
pub record IsSpan (at gone come : ℕ) (old new : List Pulse) : Type 0 where
  pub there : at + gone ≤ length old
  pub came : at + come ≤ length new
  pub before : take at new ≡ take at old
  pub after : drop (at + come) new ≡ drop (at + gone) old

-- how many pulses rise at or before a time
abbrev pub risen_by : ℕ → List Pulse → ℕ
risen_by t [] = 0
risen_by t (p ∷ ps) = cond (nat_le p.rise t) 1 0 + risen_by t ps

-- how many pulses end before a time
abbrev pub ended_before : ℕ → List Pulse → ℕ
ended_before t [] = 0
ended_before t (p ∷ ps) = cond (nat_lt p.fall t) 1 0 + ended_before t ps
