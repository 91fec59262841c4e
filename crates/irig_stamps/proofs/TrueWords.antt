-- A time that is printed before a line is true, since it is that of a moment.
use Rattle.std.proofs.Common.{◌-◌, ◌++◌, ◌∷◌, [], ℕ, cond, List, Option, Some, None, arith, ap, ◌∙◌}
use Rattle.std.specs.Prelude.{decimal}
use Rattle.irig_codes.specs.Format.{FormatView}
use Rattle.irig_recording.specs.declared.pulse.Pulse.{Pulse}
use Rattle.irig_timed.specs.TrueMoments.{MomentsAreNear}
use Rattle.irig_stamps.specs.{Offs.cell, Offs.off_at, Offs.wide_word, Texts.word_of}
use Rattle.irig_stamps.specs.{Stamps.IsWord, Stamps.added, Stamps.taken, TrueLines.PrintsTrueTime}
use Rattle.irig_stamps.specs.{declared.picos.Picos.Picos, declared.settings.Settings.Settings}

pub prints-true : MomentsAreNear → (f : FormatView) (ps : List Pulse) (s : Settings) (number : Option Picos) (word : List ℕ)
    → IsWord f ps s number word → PrintsTrueTime f ps s number word
prints-true near f ps s None word is = tt
prints-true near f ps s (Some v) word is = λ x at narrow. (
  is.0 x at ∙ ap (λ b. cond b (wide_word s.why ++ cell s (45 ∷ [])) (word_of s (Some x.time) ++ cell s (decimal (off_at f ps s x)))) narrow,
  near f s.alone s.century ps 1000000 (added s v - taken s v) (omega arith) x,
)
