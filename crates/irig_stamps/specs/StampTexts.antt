-- The text of a stamp, which is before a line. This project's own.
use Rattle.std.specs.Prelude.{ℕ, ◌++◌, List, [], ◌∷◌, Some, decimal}
use Rattle.irig_stamps.specs.declared.settings.Settings.{Settings}
use Rattle.irig_stamps.specs.declared.stamp.Stamp.TheVariants.{Time, Word}
use Rattle.irig_stamps.specs.{declared.stamp.Stamp.Stamp, Offs.cell, Texts.word_of}

-- a time in its form, or a word; and how far the time can be off, if that is asked for
abbrev pub stamp_text : Settings → Stamp → List ℕ
stamp_text s (Time x off) = word_of s (Some x) ++ cell s (decimal off)
stamp_text s (Word word) = word.now ++ cell s (45 ∷ [])
