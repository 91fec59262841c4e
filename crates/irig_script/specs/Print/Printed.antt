-- What answers print. This project's own.
use Rattle.std.specs.Prelude.{ℕ, List, [], ◌∷◌, ◌++◌, ◌+◌, codes, decimal, get_or}
use Rattle.std.specs.List.{flat_map}
use Rattle.irig_track.specs.Edges.{pulse}
use Rattle.irig_index.specs.declared.record.Record.{Record}
use Rattle.irig_edit.specs.State.State.{State, frames_of}
use Rattle.irig_edit.specs.declared.session.refusal.Refusal.{Refusal}
use Rattle.irig_edit.specs.declared.session.refusal.Refusal.TheVariants as refusal
use Rattle.irig_script.specs.Print.Listings.{list_text, marks_text, info_text}
use Rattle.irig_script.specs.declared.print.reply.Reply.TheVariants.{Silent, Written, Listed}
use Rattle.irig_script.specs.declared.print.reply.Reply.TheVariants.{Frames, Marks, Info, Refused}
use Rattle.irig_script.specs.declared.print.reply.Reply.TheVariants.{BadLine, LineTooLong}
use Rattle.irig_script.specs.declared.print.reply.Reply.TheVariants.{WriteFailed}
use Rattle.irig_script.specs.Obey.Machine.{Machine}
use Rattle.irig_print.specs.FrameLine.{frame_line}
use Rattle.irig_script.specs.declared.print.reply.Reply.{Reply}
use Rattle.irig_print.specs.Numbered.{numbered}

-- why a command is refused, as a line
abbrev pub refusal_text : Refusal → List ℕ
refusal_text refusal.OutOfRange = codes "? E1 OutOfRange\n"
refusal_text refusal.NoPulse = codes "? E2 NoPulse\n"
refusal_text refusal.Touching = codes "? E3 Touching\n"
refusal_text refusal.NotInside = codes "? E4 NotInside\n"
refusal_text refusal.TooMany = codes "? E5 TooMany\n"
refusal_text refusal.BadExpression = codes "? E6 BadExpression\n"
refusal_text refusal.BadTime = codes "? E7 BadTime\n"
refusal_text refusal.BadControl = codes "? E8 BadControl\n"
refusal_text refusal.NothingToUndo = codes "? E9 NothingToUndo\n"
refusal_text refusal.NothingToRedo = codes "? E10 NothingToRedo\n"
refusal_text refusal.OutOfMemory = codes "? E11 OutOfMemory\n"
refusal_text refusal.GroupOpen = codes "? E12 GroupOpen\n"
refusal_text refusal.NoGroup = codes "? E13 NoGroup\n"
refusal_text refusal.GroupFloor = codes "? E14 GroupFloor\n"

-- the line of a frame with this number: its marker's pulse counts from 1
abbrev pub record_line : State → ℕ → Record → List ℕ
record_line s number r =
    frame_line number (r.marker + 1) (get_or s.pulses r.marker (pulse 0 0)).rise r.verdict

-- a line for each frame of a state, numbered from 1
abbrev pub frames_text : State → List ℕ
frames_text s = numbered (record_line s) 1 (frames_of s)

-- what a reply prints, as the machine is with which it is given
abbrev pub reply_text : Machine → Reply → List ℕ
reply_text m Silent = []
reply_text m (Written count) = decimal count ++ 10 ∷ []
reply_text m (Listed before count) = list_text before count m.state
reply_text m Frames = frames_text m.state
reply_text m Marks = marks_text m.state
reply_text m Info = info_text m
reply_text m (Refused why) = refusal_text why
reply_text m BadLine = codes "? S1 BadLine\n"
reply_text m LineTooLong = codes "? S2 LineTooLong\n"
reply_text m WriteFailed = codes "? S3 WriteFailed\n"

-- an answer: a reply, and what it prints
pub record Answer : Type 0 where
  pub reply : Reply
  pub text : List ℕ

-- the answer with a reply, as the machine is
abbrev pub answer_with : Machine → Reply → Answer
answer_with m reply = record { reply = reply; text = reply_text m reply }

-- what some answers print, one after another
abbrev pub printed : List Answer → List ℕ
printed answers = flat_map (λ answer. answer.text) answers
