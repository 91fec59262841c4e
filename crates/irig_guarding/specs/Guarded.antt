-- What a guarded run prints and leaves. This project's own.
use Rattle.std.specs.Prelude.{◌≡◌, ℕ, false, List, [], map}
use Rattle.std.specs.List.{AllByRecursion}
use Rattle.irig_script.specs.Obey.OneRun.{RunOf, tells_failed_put, wants_memory}
use Rattle.irig_script.specs.Obey.Run.{IsPlain, Runs, unlines}
use Rattle.irig_script.specs.declared.print.reply.Reply.TheVariants.{Silent}
use Rattle.irig_script.specs.{Obey.Machine.Machine, Print.Printed.Answer}
use Rattle.irig_lines.specs.Lines.{script_lines}
use Rattle.irig_lines.specs.declared.command.Command.TheVariants as command
use Rattle.irig_edit.specs.{Session.Session.work_in, State.State.State}
use Rattle.irig_safety.specs.Terms.{TermsView}
use Rattle.irig_guarding.specs.{SafeBy.IsSafeBy, Reading.original_of}
use Rattle.irig_guarding.specs.Repair.{Agrees, Asks, ObeyedAll}
use Rattle.irig_guarding.specs.Undone.{IsSameOrMade, RedoesNoMore}

-- the line is accepted, and prints nothing
abbrev pub silence : List ℕ → Answer
silence line = record { reply = Silent; text = [] }

-- the second state is safe by the first: the same format, and in it the frames that read well, with
-- their control functions. They may have moved or not
pub record IsSafeAfter (terms : TermsView) (old new : State) : Type 0 where
  pub format : new.format ≡ old.format
  pub safe : IsSafeBy (original_of terms old) new

-- a script was printed. From the session as it was opened each of its lines is accepted in silence,
-- and what they lead to is what the session is now, but for what can be redone; and that is safe by
-- what it was. If they made no step, they leave to redo what there was, and else nothing
pub record IsGuarded (terms : TermsView) (opened : Machine) (script : List ℕ) (now : Machine)
    : Type 0
  where
    pub left : Machine
    pub runs : Runs opened (script_lines script) (map silence (script_lines script)) [] left
    pub same : Agrees left now
    pub redo : RedoesNoMore left now
    pub made : IsSameOrMade opened left
    pub safe : IsSafeAfter terms opened.state now.state

-- a comment, or a blank line
pub record IsRemark (line : List ℕ) : Type 0 where
  pub plain : IsPlain line
  pub asks : Asks command.Nothing line

-- lines were printed that lead from the session as it was opened to what it is now. What they
-- leave to redo can be redone now, or nothing can
pub record Reaches (opened : Machine) (script : List ℕ) (now : Machine) : Type 0 where
  pub lines : List (List ℕ)
  pub plain : AllByRecursion IsPlain lines
  pub cut : script ≡ unlines lines
  pub left : Machine
  pub obeyed : ObeyedAll opened lines left
  pub same : Agrees left now
  pub redo : RedoesNoMore left now

-- in this run memory did not run out, and no write failed
abbrev pub MeetsNothing : List Answer → Type 0
MeetsNothing answers = AllByRecursion
    (λ a. (wants_memory a.reply ≡ false) × (tells_failed_put a.reply ≡ false)) answers

-- each run of the script that was printed, from the session as it was opened, accepts every line in
-- silence and leads to what the guarded run left, also of what can be redone, unless memory runs
-- out
abbrev pub PrintedIsObeyed : Type 0
PrintedIsObeyed = (terms : TermsView) (opened : Machine) (script : List ℕ) (now : Machine)
    → (guarded : IsGuarded terms opened script now)
    → (run : RunOf script) → work_in run.old ≡ work_in opened
    → MeetsNothing run.ran.answers
    → (run.ran.answers ≡ map silence (script_lines script))
    × Agrees run.new now × (work_in run.new ≡ work_in guarded.left)
