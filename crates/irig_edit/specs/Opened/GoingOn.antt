-- A session that was saved, and continues when it is opened again. This project's own.
use Rattle.std.specs.Prelude.{◌≡◌, ◌≤◌, ◌^◌, None, length}
use Rattle.irig_codes.specs.Format.{FormatView}
use Rattle.irig_vcd.specs.declared.fault.VcdFault.{VcdFault}
use Rattle.irig_vcd.specs.declared.fault.VcdFault.TheVariants.{OutOfMemory}
use Rattle.irig_edit.specs.Opened.Openings.{IsOpened, IsUnopened}
use Rattle.irig_edit.specs.Session.Session.{SessionView, work_in}
use Rattle.irig_edit.specs.{Saved.SavedSession.saved_text, Session.Work.with_floor}

-- what a session is saved as is short enough to be opened
abbrev pub IsShort : SessionView → Type 0
IsShort v = length (saved_text (work_in v)) ≤ 2 ^ 28

-- opened again without a wire's name, in whatever format, it is the same, and no group is open
abbrev pub GoesOn : SessionView → Type 0
GoesOn v = (format : FormatView) (w : SessionView)
    → IsOpened None (saved_text (work_in v)) format w
    → work_in w ≡ with_floor None (work_in v)

-- it is refused only if memory runs out
abbrev pub IsAlwaysOpened : SessionView → Type 0
IsAlwaysOpened v = (fault : VcdFault)
    → IsUnopened None (saved_text (work_in v)) fault
    → fault ≡ OutOfMemory
