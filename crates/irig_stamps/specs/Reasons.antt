-- Why lines have no time: the words, and what is known of a track. This project's own.
use Rattle.std.specs.Prelude.{ℕ, List, codes}
use Rattle.irig_codes.specs.Format.{FormatView}
use Rattle.irig_recording.specs.declared.pulse.Pulse.{Pulse}
use Rattle.irig_times.specs.declared.why.Why.TheVariants.{After, Before, Hole, Step, Unbelieved}
use Rattle.irig_times.specs.declared.why.Why.{Why}
use Rattle.irig_timed.specs.{Knowns.IsKnown, declared.known.Known.Known}
use Rattle.irig_stamps.specs.declared.settings.Settings.{Settings}

-- the word of a reason
abbrev pub why_text : Why → List ℕ
why_text Before = codes "before"
why_text After = codes "after"
why_text Hole = codes "hole"
why_text Step = codes "step"
why_text Unbelieved = codes "unbelieved"

-- what is known of the times of a track
abbrev pub IsKnownOf : FormatView → Settings → List Pulse → Known → Type 0
IsKnownOf f s ps known = IsKnown f s.alone s.century ps known
