-- That a script runs on a session that was saved as it does on the session itself. This project's
-- own.
use Rattle.std.specs.Prelude.{◌≡◌, ℕ, List, None}
use Rattle.irig_codes.specs.Format.{FormatView}
use Rattle.irig_edit.specs.Saved.SavedSession.{saved_text}
use Rattle.irig_edit.specs.{Session.Session.work_in, Session.Work.with_floor}
use Rattle.irig_script.specs.Obey.Machine.{Machine}
use Rattle.irig_script.specs.Obey.OneDumpRun.{DumpRunOf, run_in}
use Rattle.irig_script.specs.Obey.OneRun.{EndTheSame, MeetTheSame, RunOf}
use Rattle.irig_script.specs.declared.obey.status.Status.TheVariants.{AllAccepted}

-- a run begins at this machine with no group open
abbrev pub BeginsAt : {script : List ℕ} → Machine → RunOf script → Type 0
BeginsAt m one = (one.before ≡ AllAccepted) × (work_in one.old ≡ with_floor None (work_in m))

-- if one script runs on the session and on its saved text, in any format, with the same known
-- output and shelf, and runs out of memory and fails to write at the same lines, both runs end
-- with the same
abbrev pub RunsOn : Machine → Type 0
RunsOn m = (script : List ℕ) (chosen : FormatView) (one : RunOf script)
    (other : DumpRunOf None chosen (saved_text (work_in m)) script)
    → BeginsAt m one
    → one.from.out ≡ other.from.out → one.from.shelf.texts ≡ other.from.shelf.texts
    → MeetTheSame one.ran.answers (run_in other).ran.answers
    → EndTheSame one (run_in other)
