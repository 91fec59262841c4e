-- That a script has one run, but for the lines that run out of memory or fail to write. This
-- project's own.
use Rattle.std.specs.Prelude.{◌≡◌, ℕ, Bool, true, false, List, map, IsSome}
use Rattle.irig_edit.specs.Session.Session.{work_in}
use Rattle.irig_edit.specs.declared.session.refusal.Refusal.TheVariants.{OutOfMemory}
use Rattle.irig_script.specs.declared.obey.status.Status.{Status}
use Rattle.irig_script.specs.declared.print.reply.Reply.TheVariants.{Refused, WriteFailed}
use Rattle.irig_script.specs.{Obey.Machine.Machine, Obey.Desk.Desk, Obey.Run.Ran}
use Rattle.irig_script.specs.{Print.Printed.Answer, declared.print.reply.Reply.Reply}

-- the reply reports that memory ran out
abbrev pub wants_memory : Reply → Bool
wants_memory (Refused OutOfMemory) = true
wants_memory _ = false

-- the reply reports that the shelf failed
abbrev pub tells_failed_put : Reply → Bool
tells_failed_put WriteFailed = true
tells_failed_put _ = false

-- memory ran out, and the shelf failed, at the same lines
pub record MeetTheSame (one other : List Answer) : Type 0 where
  pub memory : map (λ a. wants_memory a.reply) one ≡ map (λ a. wants_memory a.reply) other
  pub puts : map (λ a. tells_failed_put a.reply) one ≡ map (λ a. tells_failed_put a.reply) other

-- a run of a whole script, with what it began with and what it left
pub record RunOf (script : List ℕ) : Type 0 where
  pub from : Desk
  pub to : Desk
  pub before : Status
  pub after : Status
  pub old : Machine
  pub new : Machine
  pub ran : Ran from to before after old new script

-- two runs begin with the same status and the same machine, and with the same known output and
-- shelf
pub record BeginTheSame {script : List ℕ} (one other : RunOf script) : Type 0 where
  pub status : one.before ≡ other.before
  pub machine : work_in one.old ≡ work_in other.old
  pub printed : one.from.out ≡ other.from.out
  pub put : one.from.shelf.texts ≡ other.from.shelf.texts

-- two runs give the same answers and write the same texts, end with the same status and leave the
-- same machine, and, if they are known, the same output and shelf
pub record EndTheSame {script : List ℕ} (one other : RunOf script) : Type 0 where
  pub answers : one.ran.answers ≡ other.ran.answers
  pub texts : one.ran.texts ≡ other.ran.texts
  pub status : one.after ≡ other.after
  pub machine : work_in one.new ≡ work_in other.new
  pub printed : IsSome one.from.out → one.to.out ≡ other.to.out
  pub put : IsSome one.from.shelf.texts → one.to.shelf.texts ≡ other.to.shelf.texts

-- two runs of one script that begin with the same, and run out of memory and fail to write at the
-- same lines, end with the same
abbrev pub OneRun : Type 0
OneRun = (script : List ℕ) (one other : RunOf script) → BeginTheSame one other
    → MeetTheSame one.ran.answers other.ran.answers → EndTheSame one other
