-- Which frames are fine. This project's own.
use Rattle.std.specs.Prelude.{Bool, true, false, not}
use Rattle.std.specs.List.{list_all}
use Rattle.irig_codes.specs.declared.note.Note.TheVariants.{Fine}
use Rattle.irig_index.specs.declared.record.Verdict.{Verdict}
use Rattle.irig_index.specs.declared.record.Verdict.TheVariants.{Read}
use Rattle.irig_edit.specs.State.State.{State, frames_of}

-- the frame is read, and nothing is noted of it but that it is fine
abbrev pub is_fine : Verdict → Bool
is_fine (Read fields Fine) = true
is_fine _ = false

-- the state has no frame that is fine, as if it has none
abbrev pub is_none_fine : State → Bool
is_none_fine s = list_all (λ r. not (is_fine r.verdict)) (frames_of s)
