-- How far a part of a script has been obeyed, and what a line buffer holds of it. This project's
-- own.
use Rattle.std.specs.Prelude.{◌≡◌, ◌≢◌, ℕ, Bool, true, false, List, [], ◌∷◌, ◌++◌, length, take}
use Rattle.std.specs.Prelude.{min, nat_lt, Option, Some, None}
use Rattle.irig_script.specs.Print.Printed.{Answer, printed}
use Rattle.irig_script.specs.Obey.Desk.{Desk, Tells, failures_of, status_after}
use Rattle.irig_script.specs.{Obey.Machine.Machine, Obey.Answer.Step, Obey.Run.Goes}
use Rattle.irig_script.specs.Obey.Seen.{numbers_of}
use Rattle.irig_script.specs.{Obey.Run.IsPlain, declared.print.reply.Reply.Reply}
use Rattle.irig_script.specs.{declared.obey.status.Status.Status, declared.obey.line.Line.Line}
use Rattle.irig_lines.specs.Lines.{is_quit}
use Rattle.irig_text.specs.Shelved.{Shelved, Puts}

-- the line buffer holds the text, as far as it has room
pub record Holds (text : List ℕ) (line : Line) : Type 0 where
  pub plain : IsPlain text
  pub long : line.long ≡ nat_lt 1000 (length text)
  pub len : line.len ≡ min 1000 (length text)
  pub kept : take line.len line.bytes ≡ take line.len text

-- the bytes were obeyed to a line that ends the script, or up to the front of a line, which the
-- buffer holds
abbrev pub Ends : Bool → List ℕ → Machine → List Answer → List (List ℕ) → Machine → Line → Type 0
Ends true bytes old answers texts new line =
    (quit : List ℕ) × (after : List ℕ) × IsPlain quit × (is_quit quit ≡ true)
    × Goes bytes old answers texts new (quit ++ 10 ∷ after)
Ends false bytes old answers texts new line =
    (left : List ℕ) × Goes bytes old answers texts new left × Holds left line

-- the answers to them were printed
pub record Obeyed (ended : Bool) (from to : Desk) (before after : Status) (old new : Machine)
    (bytes : List ℕ) (line : Line) : Type 0 where
  pub answers : List Answer
  pub texts : List (List ℕ)
  pub status : after ≡ status_after before answers
  pub told : Tells from to (printed answers) answers texts
  pub ends : Ends ended bytes old answers texts new line

-- the last answer was not printed whole
pub record BrokeIn (from to : Desk) (old new : Machine) (bytes : List ℕ) : Type 0 where
  pub answers : List Answer
  pub last : Answer
  pub front : List ℕ
  pub back : List ℕ
  pub rest : List ℕ
  pub texts : List (List ℕ)
  pub part : last.text ≡ front ++ back
  pub missing : back ≢ []
  pub told : Tells from to (printed answers ++ front) (answers ++ last ∷ []) texts
  pub goes : Goes bytes old (answers ++ last ∷ []) texts new rest

-- a line was answered and its texts were written, or it ends the script and nothing has changed
abbrev pub Answers : Option Reply → Shelved → Shelved → Machine → Machine → Line → Type 0
Answers None from to old new line =
    ((text : List ℕ) → Holds text line → is_quit text ≡ true) × (new ≡ old) × (to ≡ from)
Answers (Some reply) from to old new line = (texts : List (List ℕ))
    × ((text : List ℕ) → Holds text line → (is_quit text ≡ false) × Step old text reply texts new)
    × Puts from to texts (failures_of reply) × (length texts ≡ numbers_of reply)
