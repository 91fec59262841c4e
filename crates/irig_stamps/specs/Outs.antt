-- What comes out for a line: the line, with its time before it. This project's own.
use Rattle.std.specs.Prelude.{◌≡◌, ◌==◌, ◌+◌, ◌++◌, ℕ, Bool, nat_lt, List, [], ◌∷◌, Option, Some}
use Rattle.std.specs.Prelude.{None, unwrap_or, if◌then◌else◌}
use Rattle.irig_codes.specs.Format.{FormatView}
use Rattle.irig_recording.specs.declared.pulse.Pulse.{Pulse}
use Rattle.irig_stamps.specs.{Offs.header_cell, Stamps.IsWord, Stamps.picos_in}
use Rattle.irig_stamps.specs.{TrueLines.PrintsTrueTime, declared.settings.Settings.Settings}

-- what comes out for a line of no header: its words, the separator, and the line as it was. A time
-- that is printed is true, as near as it can be off.
pub record IsStamped (f : FormatView) (ps : List Pulse) (s : Settings) (line out : List ℕ)
    : Type 0 where
  pub word : List ℕ
  pub is_word : IsWord f ps s (picos_in s line) word
  pub is_true : PrintsTrueTime f ps s (picos_in s line) word
  pub whole : out ≡ word ++ (unwrap_or s.comma 9 ∷ line ++ 10 ∷ [])

-- whether a line is one of the header, if n lines are before it
abbrev pub is_header : Settings → ℕ → Bool
is_header s n = nat_lt n s.header

-- the words before such a line, if it is one of the header: the names of the new columns in the
-- last one, else hyphens
abbrev pub header_name : Settings → ℕ → List ℕ
header_name s n = if n + 1 == s.header then s.name.now else 45 ∷ []

abbrev pub header_word : Settings → ℕ → Option (List ℕ)
header_word s n =
    if is_header s n then Some (header_name s n ++ header_cell s n) else None

-- what comes out for a line: its word, the separator, and the line as it was
abbrev pub IsOut : FormatView → List Pulse → Settings → Option (List ℕ) → List ℕ → List ℕ → Type 0
IsOut f ps s (Some word) line out = out ≡ word ++ (unwrap_or s.comma 9 ∷ line ++ 10 ∷ [])
IsOut f ps s None line out = IsStamped f ps s line out
