-- What a run under guard makes of each repair of a proposed script: it is kept, or dropped for a
-- reason. This project's own.
use Rattle.std.specs.Prelude.{◌≡◌, ◌++◌, ℕ, List, [], ◌∷◌, is_none}
use Rattle.std.specs.Prelude.{if◌then◌else◌}
use Rattle.irig_lines.specs.{Lines.lines_of}
use Rattle.irig_script.specs.Obey.Run.{unlines}
use Rattle.irig_script.specs.declared.obey.status.Status.{Status}
use Rattle.irig_script.specs.declared.obey.status.Status.TheVariants.{AllAccepted, SomeRefused}
use Rattle.irig_script.specs.{Obey.Machine.Machine}
use Rattle.irig_guarding.specs.Reading.{fine_frames, original_of}
use Rattle.irig_guarding.specs.Reasons.{head_lines}
use Rattle.irig_safety.specs.{Terms.TermsView}
use Rattle.irig_guarding.specs.Cutting.{IsCut}
use Rattle.irig_guarding.specs.Printed.{PrintsAll}
use Rattle.irig_guarding.specs.Trial.{Trial, TriesAll, proposed}
use Rattle.irig_guarding.specs.Undone.{IsUndone}

-- the status: whether each repair was kept
abbrev pub status_of : List Trial → Status
status_of [] = AllAccepted
status_of (t ∷ trials) = if is_none t.dropped then status_of trials else SomeRefused

-- lines of a script were cut into repairs before a rest of it, each was tried from the opened
-- session on, in which what could be redone can be gone, and this was printed after the head
pub record IsTriedBefore (terms : TermsView) (opened : Machine) (lines rest : List (List ℕ))
    (script : List ℕ)
    (reported : Status) (now : Machine) : Type 0 where
  pub trials : List Trial
  pub whole : proposed trials ≡ lines
  pub cut : IsCut trials rest
  pub start : Machine
  pub begun : IsUndone opened start
  pub tried : TriesAll (original_of terms opened.state) start trials now
  pub printed : List (List ℕ)
  pub shown : PrintsAll trials printed
  pub text : script ≡ unlines (head_lines (fine_frames opened.state) ++ printed)
  pub status : reported ≡ status_of trials

-- a proposed script was cut into repairs, each was tried, and this was printed
abbrev pub IsTried : TermsView → Machine → List ℕ → List ℕ → Status → Machine → Type 0
IsTried terms opened proposal script status now =
    IsTriedBefore terms opened (lines_of proposal) [] script status now
