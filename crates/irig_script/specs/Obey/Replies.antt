-- What the session replies to a call, a listing and a write: memory may run out, and the shelf may
-- fail. This project's own.
use Rattle.std.specs.Prelude.{◌≡◌, ◌+◌, ◌-◌, ℕ, List, [], length, Result, Ok, Err, if◌then◌else◌}
use Rattle.irig_recording.specs.FileText.{file_text}
use Rattle.irig_codes.specs.{Format.FormatView, declared.format.Kind.Kind}
use Rattle.irig_edit.specs.State.State.{State, recording_of}
use Rattle.irig_edit.specs.{Session.Calls.Call, Session.Calls.Edit, Edits.Conditions.are_pulses}
use Rattle.irig_edit.specs.{Session.Session.Steps, declared.session.refusal.Refusal.Refusal}
use Rattle.irig_edit.specs.declared.session.refusal.Refusal.TheVariants as refusal
use Rattle.irig_script.specs.declared.print.reply.Reply.TheVariants.{Silent, Written, Listed}
use Rattle.irig_script.specs.declared.print.reply.Reply.TheVariants.{Refused, WriteFailed}
use Rattle.irig_script.specs.{Obey.Machine.Machine, declared.print.reply.Reply.Reply}

-- a call of the session was accepted in silence, or refused
abbrev pub Calls : Call → Machine → Reply → Machine → Type 0
Calls call old Silent new = Steps call old (Ok tt) new
Calls call old (Refused why) new = Steps call old (Err why) new
Calls call old _ new = ⊥

-- an edit was made or refused
abbrev pub Makes : Edit → Machine → Reply → Machine → Type 0
Makes edit old reply new = Calls (Call.Make edit) old reply new

-- the dump of the present state
abbrev pub dump_text : Machine → List ℕ
dump_text m = file_text (recording_of m.state)

-- the text was written and its bytes are reported, or the shelf failed
abbrev pub Writes : List ℕ → Reply → Type 0
Writes text (Written count) = count ≡ length text
Writes text WriteFailed = Unit {0}
Writes text _ = ⊥

-- those of the texts that were written, by the reply: all of them, or none
abbrev pub texts_put : List (List ℕ) → Reply → List (List ℕ)
texts_put texts (Written count) = texts
texts_put texts _ = []

-- the reply to an edit
abbrev pub reply_to : Result (Unit {0}) Refusal → Reply
reply_to (Ok done) = Silent
reply_to (Err why) = Refused why

-- the reply to a listing: pulses i to j, if they are there
abbrev pub listed : ℕ → ℕ → State → Reply
listed i j s =
    if are_pulses i j s then Listed (i - 1) (j + 1 - i) else Refused refusal.NoPulse

-- the cursor goes to pulse i, which is listed, or there is no such pulse
abbrev pub Shows : ℕ → Machine → Reply → Machine → Type 0
Shows i old (Listed before count) new =
    Steps (Call.Go i) old (Ok tt) new × (before ≡ i - 1) × (count ≡ 1)
Shows i old (Refused why) new = Steps (Call.Go i) old (Err why) new
Shows i old _ new = ⊥

-- a kind with an expression, permitted or not
abbrev pub format : Kind → ℕ → FormatView
format kind n = record { kind = kind; expression = n }
