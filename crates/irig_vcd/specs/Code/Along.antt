-- The state of reading between two tokens.
use Rattle.std.specs.Prelude.{◌≡◌, ◌≤◌, ◌<◌, ◌+◌, ◌-◌, ◌^◌, ◌∷◌, [], ℕ, List, Bool, true, false}
use Rattle.std.specs.Prelude.{drop, if◌then◌else◌}
use Rattle.irig_vcd.specs.Words.{Word, words_from, rest_of, hash, scalar}
use Rattle.irig_vcd.specs.{Digits.is_number, Digits.number_from, declared.trace.Trace.Trace}
use Rattle.irig_vcd.specs.{Code.Time.units_of, declared.edge.Edge.Edge, declared.time.Clock.Clock}
use Rattle.irig_vcd.specs.{Extent.most_pulses, Window.moved, declared.stretch.Stretch.Stretch}
use Rattle.irig_recording.specs.Recording.{is_even_long}

-- a time in whole microseconds
abbrev pub at_micros : ℕ → Clock
at_micros n = record { whole = n; rest = 0 }

-- the level was high before the last change; the rise is kept
pub record HasRisen (t : Trace) : Type 0 where
  pub before : t.before ≡ true
  pub risen : is_even_long t.edges ≡ false

-- the level is low; up to the limit of a stretch its edges are kept, each at its time less that of
-- the begin of the window, while there are no more than of the most pulses; or no microsecond of
-- the window is there
pub record LiesOn (s : Stretch) (t : Trace) : Type 0 where
  pub low : t.now ≡ false
  pub short : s.limit ≤ 2 ^ 40
  pub most : s.most ≡ most_pulses t.extent
  pub kept : s.is_kept ≡ true → HasRisen t × (s.from ≤ t.time)
      × ((u : ℕ) → t.time ≤ u → u ≤ s.limit → moved t.extent.window u ≡ u - s.from)
  pub apart : s.is_kept ≡ false
      → (u : ℕ) → t.time ≤ u → u ≤ s.limit → moved t.extent.window u ≡ moved t.extent.window t.time

-- the next words are a time and a value on a code of one byte
pub record TakesEdge (s : List ℕ) (at : ℕ) (high : Bool) (code unit : ℕ) (e : Edge) : Type 0 where
  pub sign : Word
  pub level : Word
  pub left : words_from at false (drop at s) ≡ sign ∷ level ∷ words_from e.end false (drop e.end s)
  pub is_hash : sign.kind ≡ hash
  pub digits : is_number (rest_of sign.bytes) ≡ true
  pub value : number_from 0 (rest_of sign.bytes) ≡ units_of unit e.time
  pub rest : e.time.rest < 10 ^ (9 - unit)
  pub is_scalar : level.kind ≡ scalar
  pub bytes : level.bytes ≡ (if high then 49 else 48) ∷ code ∷ []
  pub after : at < e.end
  pub near : e.end ≤ at + 32
