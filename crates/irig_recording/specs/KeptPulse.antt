-- What a buffer keeps of a pulse's lines.
use Rattle.std.specs.Prelude.{◌≡◌, ◌≤◌, ◌<◌, ◌+◌, ◌/◌, ◌%◌, ◌++◌, ◌∷◌, [], ℕ, List, decimal, length}
use Rattle.irig_recording.specs.declared.kept_pulse.KeptPulse.{KeptPulse}

-- the four digits of a number below 10,000
abbrev pub last_four : ℕ → List ℕ
last_four n =
    (48 + n / 100 / 10) ∷ (48 + n / 100 % 10)
    ∷ (48 + n % 100 / 10) ∷ (48 + n % 100 % 10) ∷ []

-- a number sign and digits
abbrev pub front : ℕ → List ℕ
front k = 35 ∷ decimal k

-- both edges' lines, with four digits each after those in front, and what is after them
abbrev pub pulse_parts : ℕ → List ℕ → List ℕ → List ℕ → List ℕ
pulse_parts k rise fall pad =
    front k ++ (rise ++ (10 ∷ 49 ∷ 33 ∷ 10 ∷ (front k ++ (fall ++ (10 ∷ 48 ∷ 33 ∷ 10 ∷ pad)))))

-- a buffer begins with the lines of a pulse whose times have the base's digits but the last four
pub record HoldsPulse (p : KeptPulse) : Type 0 where
  pub rise : List ℕ
  pub fall : List ℕ
  pub pad : List ℕ
  pub is : p.bytes ≡ pulse_parts (p.base / 10000) rise fall pad
  pub of_rise : length rise ≡ 4
  pub of_fall : length fall ≡ 4
  pub fits : length (front (p.base / 10000)) + 8 ≡ p.long
  pub short : p.long ≤ 24
  pub whole : p.base % 10000 ≡ 0
  pub some : 10000 ≤ p.base

-- a time has the base's digits but the last four
pub record IsNear (p : KeptPulse) (time : ℕ) : Type 0 where
  pub from : p.base ≤ time
  pub below : time < p.base + 10000
