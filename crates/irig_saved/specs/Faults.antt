-- Where a text goes wrong: the first line with which it begins no text of the form.
use Rattle.std.specs.Prelude.{◌≡◌, ◌+◌, ◌-◌, ◌<◌, ◌≤◌, ℕ, List, ◌++◌, take, length}
use Rattle.irig_saved.specs.SavedText.{mark_lines, saved_lines, journal_text}
use Rattle.irig_saved.specs.declared.reader.Fault.{Fault}
use Rattle.irig_saved.specs.declared.reader.Fault.TheVariants.{Line, Memory}
use Rattle.irig_saved.specs.{Lines.text_of, declared.saved.Saved.Saved, Ranges.IsSaved}

-- the bytes begin with the first n of some lines, each with its newline
pub record Begins (n : ℕ) (lines : List (List ℕ)) (bytes : List ℕ) : Type 0 where
  pub there : n ≤ length lines
  pub rest : List ℕ
  pub same : bytes ≡ text_of (take n lines) ++ rest

-- line n, from 1, is at fault: the bytes are the text of no saved journal; the lines before it
-- begin one; with it they begin none
pub record IsFault (n : ℕ) (bytes : List ℕ) : Type 0 where
  pub refused : (s : Saved) → IsSaved s → bytes ≡ journal_text s → ⊥
  pub first : 1 ≤ n
  pub before : (s : Saved) × IsSaved s × Begins (n - 1) (saved_lines s) bytes
  pub wrong : (s : Saved) → IsSaved s → Begins n (saved_lines s) bytes → ⊥

-- the bytes begin a journal that has a step: its head, its marks, how many steps back there are,
-- and one line more
pub record ReachesSteps (bytes : List ℕ) : Type 0 where
  pub saved : Saved
  pub lawful : IsSaved saved
  pub some : 0 < length saved.past + length saved.future
  pub begins : Begins (5 + length (mark_lines 97 saved.marks)) (saved_lines saved) bytes

-- a line is at fault; or memory is out, which it is only after the first lines of a journal with a
-- step
abbrev pub IsRefused : List ℕ → Fault → Type 0
IsRefused bytes (Line n) = IsFault n bytes
IsRefused bytes Memory = ReachesSteps bytes
