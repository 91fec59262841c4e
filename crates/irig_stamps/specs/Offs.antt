-- How far the time of a line can be off, as it is printed. This project's own.
use Rattle.std.specs.Prelude.{ℕ, Bool, true, false, ◌==◌, ◌+◌, ◌++◌, nat_lt, List, [], ◌∷◌, Option}
use Rattle.std.specs.Prelude.{Some, None, codes, decimal, unwrap_or, if◌then◌else◌}
use Rattle.irig_codes.specs.Format.{FormatView}
use Rattle.irig_recording.specs.declared.pulse.Pulse.{Pulse}
use Rattle.irig_timed.specs.{Bends.off_over, Moments.frames_by, declared.moment.Moment.Moment}
use Rattle.irig_stamps.specs.{Texts.word_of, declared.settings.Settings.Settings}

-- by how many microseconds the time of a moment can be off
abbrev pub off_at : FormatView → List Pulse → Settings → Moment → ℕ
off_at f ps s x = off_over f ps (frames_by f s.alone s.century ps) x.from x.to x.bound

-- whether that is too much, if a most is given
abbrev pub is_wide : Option ℕ → ℕ → Bool
is_wide None off = false
is_wide (Some most) off = nat_lt most off

-- a word in a column of its own, if that column is asked for
abbrev pub cell_in : Bool → Option ℕ → List ℕ → List ℕ
cell_in false comma word = []
cell_in true comma word = unwrap_or comma 9 ∷ word

abbrev pub cell : Settings → List ℕ → List ℕ
cell s word = cell_in s.bound s.comma word

-- its name in the last line of the header
abbrev pub header_cell : Settings → ℕ → List ℕ
header_cell s n = cell s (if n + 1 == s.header then codes "bound_us" else 45 ∷ [])

-- the word of a time that can be off too far
abbrev pub wide_word : Bool → List ℕ
wide_word why = if why then codes "wide" else 45 ∷ []

-- the words before the line of a moment
abbrev pub word_off : Settings → Moment → ℕ → List ℕ
word_off s x off =
    if is_wide s.within off then wide_word s.why ++ cell s (45 ∷ [])
    else word_of s (Some x.time) ++ cell s (decimal off)

abbrev pub timed_word : FormatView → List Pulse → Settings → Moment → List ℕ
timed_word f ps s x = word_off s x (off_at f ps s x)
