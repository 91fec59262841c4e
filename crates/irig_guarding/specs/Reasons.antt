-- The comments that a run under guard prints of its own. This project's own.
use Rattle.std.specs.Prelude.{ℕ, ◌-◌, ◌++◌, List, [], ◌∷◌, codes, decimal, drop, length, take}
use Rattle.irig_edit.specs.declared.session.refusal.Refusal.{Refusal}
use Rattle.irig_script.specs.Print.Printed.{refusal_text}
use Rattle.irig_print.specs.FrameLine.{time_text}
use Rattle.irig_guarding.specs.declared.reason.Reason.{Reason}
use Rattle.irig_guarding.specs.declared.reason.Reason.TheVariants.{Disagrees, NoRepair, NotSafe}
use Rattle.irig_guarding.specs.declared.reason.Reason.TheVariants.{OutOfMemory, Refused}
use Rattle.irig_agreement.specs.declared.fault.Change.{Change}
use Rattle.irig_agreement.specs.declared.fault.Change.TheVariants as change
use Rattle.irig_agreement.specs.declared.fault.Fault.{Fault as Disagreement}
use Rattle.irig_safety.specs.declared.fault.Fault.{Fault}
use Rattle.irig_safety.specs.declared.fault.Fault.TheVariants.{Alone, Changed, Lost, Misplaced, Moved}
use Rattle.irig_safety.specs.declared.fault.Fault.TheVariants.{Removed, Unjudged, Unrecorded, Unsupported}
use Rattle.irig_safety.specs.declared.shown.Shown.{Shown}

-- number and name of a refusal: what the editor answers, without the mark before them and the
-- newline
abbrev pub refusal_name : Refusal → List ℕ
refusal_name why = drop 2 (take (length (refusal_text why) - 1) (refusal_text why))

-- a frame: its time as the editor prints it, and the rise of its marker in microseconds
abbrev pub frame_text : Shown → List ℕ
frame_text x = codes "frame " ++ time_text x.fields ++ codes " at " ++ decimal x.rise

-- why frames would not be safe
abbrev pub fault_text : Fault → List ℕ
fault_text (Lost x) = frame_text x ++ codes " would be lost"
fault_text (Changed x) = frame_text x ++ codes " would change"
fault_text (Unsupported x) = frame_text x ++ codes " would have a time that is not supported"
fault_text (Unrecorded x) =
    frame_text x ++ codes " would have control functions that are not supported"
fault_text (Moved x) = frame_text x ++ codes ": its pulses would move"
fault_text (Misplaced x) =
    frame_text x ++ codes ": its pulses would rise where nothing supports it"
fault_text Alone = codes "fine frames would not support each other"
fault_text (Removed t) =
    codes "the pulse at " ++ decimal t ++ codes " is in step, and would be gone"
fault_text Unjudged = codes "no frame would be fine to go by"

-- how the time of a moment would not be as it was
abbrev pub change_text : Change → List ℕ
change_text change.Lost = codes " would have no time"
change_text change.Other = codes " would have another time"
change_text change.Doubted = codes " would have a time, and a pulse next to it is doubted"

-- why recording and result would not agree: a moment, in microseconds
abbrev pub moment_text : Disagreement → List ℕ
moment_text x = codes "the moment " ++ decimal x.moment ++ change_text x.what

-- why a repair is not kept
abbrev pub reason_text : Reason → List ℕ
reason_text NoRepair = codes "not a repair"
reason_text (Refused why) = codes "refused: " ++ refusal_name why
reason_text OutOfMemory = codes "memory ran out"
reason_text (NotSafe fault) = fault_text fault
reason_text (Disagrees fault) = moment_text fault

-- the comment before the lines of a repair that is not kept
abbrev pub reason_line : Reason → List ℕ
reason_line reason = codes "# not kept: " ++ reason_text reason

-- the comment at the head, if no frame of the recording reads well
abbrev pub head_lines : List Shown → List (List ℕ)
head_lines [] = codes "# nothing to go by: no frame of the recording is fine" ∷ []
head_lines (x ∷ opened) = []
