-- What comes out for whole lines, and how many they are. This project's own.
use Rattle.std.specs.Prelude.{◌≡◌, ◌==◌, ◌^◌, ◌-◌, ℕ, suc, Bool, true, not}
use Rattle.std.specs.Prelude.{List, [], ◌∷◌, ◌++◌, length, min}
use Rattle.std.specs.List.{list_all, flat_map}
use Rattle.irig_codes.specs.Format.{FormatView}
use Rattle.irig_recording.specs.declared.pulse.Pulse.{Pulse}
use Rattle.irig_stamps.specs.{Looks.looks, Outs.IsOut, Outs.header_word, Tallies.IsTally}
use Rattle.irig_stamps.specs.declared.settings.Settings.{Settings}
use Rattle.irig_stamps.specs.declared.tally.Tally.{Tally}

-- the text has no newline in it
abbrev pub is_plain : List ℕ → Bool
is_plain text = list_all (λ b. not (b == 10)) text

-- each line has its own text, in order, and there are as many lines as texts; n lines are before
abbrev pub AreOut : FormatView → List Pulse → Settings → ℕ → List (List ℕ) → List (List ℕ) → Type 0
AreOut f ps s n [] [] = Unit {0}
AreOut f ps s n (line ∷ lines) (out ∷ outs) =
    (is_plain line ≡ true)
    × (IsOut f ps s (header_word s n) line out × AreOut f ps s (suc n) lines outs)
AreOut f ps s n [] (out ∷ outs) = ⊥
AreOut f ps s n (line ∷ lines) [] = ⊥

-- lines with the newlines that end them
abbrev pub unlines : List (List ℕ) → List ℕ
unlines lines = flat_map (λ line. line ++ 10 ∷ []) lines

-- these bytes are whole lines and a rest, and the text is what comes out for just those lines.
-- `count` is their number, up to 2^64 - 1, and `tally` what is counted of those after the header
pub record Stamped (f : FormatView) (ps : List Pulse) (s : Settings) (bytes text rest : List ℕ)
    (count : ℕ) (tally : Tally) : Type 0 where
  pub lines : List (List ℕ)
  pub outs : List (List ℕ)
  pub cut : bytes ≡ unlines lines ++ rest
  pub begun : is_plain rest ≡ true
  pub each : AreOut f ps s 0 lines outs
  pub whole : text ≡ flat_map (λ out. out) outs
  pub counts : count ≡ min (length lines) (2 ^ 64 - 1)
  pub tallied : IsTally (looks s 0 lines outs) tally
