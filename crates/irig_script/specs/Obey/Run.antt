-- The run of a script: its lines are steps of the machine of whole states. And what a run leaves
-- that a failed read or write has ended. This project's own.
use Rattle.std.specs.Prelude.{◌≡◌, ◌≢◌, ◌==◌, ◌≤◌, ℕ, true, false, not, List, [], ◌∷◌, ◌++◌, Option}
use Rattle.std.specs.Prelude.{length}
use Rattle.std.specs.{List.list_all, List.flat_map, List.AllByRecursion, Io.KnownBytes.Consumes}
use Rattle.irig_script.specs.Obey.Desk.{Desk, Tells, status_after}
use Rattle.irig_script.specs.{Obey.Machine.Machine, Obey.Answer.Answered, Print.Printed.Answer}
use Rattle.irig_script.specs.{Print.Printed.printed, declared.obey.status.Status.Status}
use Rattle.irig_lines.specs.Lines.{is_quit, script_lines}

-- the session may give these answers to these lines and write these texts
abbrev pub Runs : Machine → List (List ℕ) → List Answer → List (List ℕ) → Machine → Type 0
Runs old [] [] texts new = (texts ≡ []) × (new ≡ old)
Runs old (line ∷ lines) (answer ∷ answers) texts new =
    (mid : Machine) × (put : List (List ℕ)) × Answered old line answer put mid
    × ((others : List (List ℕ)) × (texts ≡ put ++ others) × Runs mid lines answers others new)
Runs old [] (answer ∷ answers) texts new = ⊥
Runs old (line ∷ lines) [] texts new = ⊥

-- the whole script was obeyed, all its answers were printed, and its texts were written
pub record Ran (from to : Desk) (before after : Status) (old new : Machine) (script : List ℕ)
    : Type 0 where
  pub answers : List Answer
  pub texts : List (List ℕ)
  pub status : after ≡ status_after before answers
  pub told : Tells from to (printed answers) answers texts
  pub runs : Runs old (script_lines script) answers texts new

-- some lines of the script were obeyed; the last answer was printed only in part
pub record Broke (from to : Desk) (old new : Machine) (script : List ℕ) : Type 0 where
  pub lines : List (List ℕ)
  pub others : List (List ℕ)
  pub answers : List Answer
  pub last : Answer
  pub front : List ℕ
  pub back : List ℕ
  pub texts : List (List ℕ)
  pub cut : script_lines script ≡ lines ++ others
  pub part : last.text ≡ front ++ back
  pub missing : back ≢ []
  pub told : Tells from to (printed answers ++ front) (answers ++ last ∷ []) texts
  pub runs : Runs old lines (answers ++ last ∷ []) texts new

-- the text has no newline in it
abbrev pub IsPlain : List ℕ → Type 0
IsPlain text = list_all (λ b. not (b == 10)) text ≡ true

-- the line has no newline in it, and does not end the script
abbrev pub IsObeyed : List ℕ → Type 0
IsObeyed line = IsPlain line × (is_quit line ≡ false)

-- lines with the newlines that end them
abbrev pub unlines : List (List ℕ) → List ℕ
unlines lines = flat_map (λ line. line ++ 10 ∷ []) lines

-- these bytes are whole lines and a rest, and just the lines were obeyed
pub record Goes (bytes : List ℕ) (old : Machine) (answers : List Answer) (texts : List (List ℕ))
    (new : Machine) (rest : List ℕ) : Type 0 where
  pub lines : List (List ℕ)
  pub each : AllByRecursion IsObeyed lines
  pub cut : bytes ≡ unlines lines ++ rest
  pub runs : Runs old lines answers texts new

-- just the whole lines that were read were obeyed, and all their output was printed
pub record Stopped (from to : Desk) (script script_left : Option (List ℕ)) (old new : Machine)
    (least : ℕ) : Type 0 where
  pub bytes : List ℕ
  pub read : Consumes script script_left bytes
  pub many : least ≤ length bytes
  pub answers : List Answer
  pub texts : List (List ℕ)
  pub rest : List ℕ
  pub begun : IsPlain rest
  pub told : Tells from to (printed answers) answers texts
  pub goes : Goes bytes old answers texts new rest
