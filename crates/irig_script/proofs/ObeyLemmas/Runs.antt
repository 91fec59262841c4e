-- A script from its start to what ends its run.
use Rattle.std.proofs.Common.{◌≡◌, ◌++◌, ◌∷◌, [], ℕ, Option, Some, None, true, false, List, ap, sym, ◌∙◌, subst, append_assoc}
use Rattle.std.specs.Prelude.{IfSome}
use Rattle.std.specs.Io.KnownBytes.{Consumes, IsAtEnd}
use Rattle.std.proofs.lemmas.List.{append-nil}
use Rattle.irig_script.specs.Obey.Progress.{Holds, Obeyed, BrokeIn}
use Rattle.irig_script.specs.{Obey.Machine.Machine, Print.Printed.Answer, Obey.Desk.Desk, Obey.Desk.status_after, Obey.Run.Runs, Obey.Run.Ran, Obey.Run.Broke}
use Rattle.irig_script.specs.{Obey.Run.unlines, declared.obey.status.Status.Status, declared.obey.line.Line.Line}
use Rattle.irig_lines.specs.Lines.{until_quit, script_lines, lines_of}
use Rattle.irig_script.proofs.ObeyLemmas.Desks.{tells-answers, tells-part, status_after-append}
use Rattle.irig_script.proofs.ObeyLemmas.Lines.{first_line, lines_and, until_ended, runs-runs}

-- a script that was read to its end
pub run_ended : (from to : Option (List ℕ)) (a b c : Desk) (st su sv : Status) (s t u : Machine) (read : List ℕ) (line : Line) → Consumes from to read
    → IsAtEnd to → Obeyed false a b st su s t read line
    → ((text : List ℕ) → Holds text line → Ran b c su sv t u text) → IfSome from (Ran a c st sv s u)
run_ended None to a b c st su sv s t u read line p e h f = tt
run_ended (Some input) None a b c st su sv s t u read line p e h f = absurd p
run_ended (Some input) (Some ys) a b c st su sv s t u read line p e h f =
    let left = h.ends.0 in
    let goes = h.ends.1 in
    let last = f left h.ends.2 in
    let whole : input ≡ unlines goes.lines ++ left = p ∙ (ap (λ l. read ++ l) e ∙ (append-nil read ∙ goes.cut)) in
    let cut : script_lines input ≡ goes.lines ++ script_lines left = ap script_lines whole ∙ lines_and goes.lines left goes.each in
    record {
      answers = h.answers ++ last.answers;
      texts = h.texts ++ last.texts;
      status = last.status ∙ ap (λ x. status_after x last.answers) h.status ∙ sym (status_after-append st h.answers last.answers);
      told = tells-answers a b c h.answers last.answers h.texts last.texts h.told last.told;
      runs = rw cut (runs-runs s t u goes.lines (script_lines left) h.answers last.answers h.texts last.texts goes.runs last.runs);
    }

-- a script that ended itself
pub run_quit : (from to : Option (List ℕ)) (a b : Desk) (st su : Status) (s t : Machine) (read : List ℕ) (line : Line) → Consumes from to read
    → Obeyed true a b st su s t read line → IfSome from (Ran a b st su s t)
run_quit None to a b st su s t read line p h = tt
run_quit (Some input) None a b st su s t read line p h = absurd p
run_quit (Some input) (Some ys) a b st su s t read line p h =
    let q = h.ends in
    let goes = q.4 in
    let whole : input ≡ unlines goes.lines ++ (q.0 ++ 10 ∷ (q.1 ++ ys)) =
    p ∙ (ap (λ l. l ++ ys) goes.cut ∙ (append_assoc (unlines goes.lines) (q.0 ++ 10 ∷ q.1) ys
    ∙ ap (λ l. unlines goes.lines ++ l) (append_assoc q.0 (10 ∷ q.1) ys))) in
    let none : script_lines (q.0 ++ 10 ∷ (q.1 ++ ys)) ≡ [] = ap until_quit (first_line q.0 (q.1 ++ ys) q.2) ∙ until_ended q.0 (lines_of (q.1 ++ ys)) q.3 in
    let cut : script_lines input ≡ goes.lines = ap script_lines whole ∙ lines_and goes.lines (q.0 ++ 10 ∷ (q.1 ++ ys)) goes.each
    ∙ ap (λ l. goes.lines ++ l) none ∙ append-nil goes.lines in
    record { answers = h.answers; texts = h.texts; status = h.status; told = h.told; runs = rw cut goes.runs }

-- a script whose printing failed
pub run_broke : (from to : Option (List ℕ)) (a b : Desk) (s t : Machine) (read : List ℕ) → Consumes from to read → BrokeIn a b s t read
    → IfSome from (Broke a b s t)
run_broke None to a b s t read p m = tt
run_broke (Some input) None a b s t read p m = absurd p
run_broke (Some input) (Some ys) a b s t read p m =
    let goes = m.goes in
    let whole : input ≡ unlines goes.lines ++ (m.rest ++ ys) = p ∙ (ap (λ l. l ++ ys) goes.cut ∙ append_assoc (unlines goes.lines) m.rest ys) in
    record {
      lines = goes.lines;
      others = script_lines (m.rest ++ ys);
      answers = m.answers;
      last = m.last;
      front = m.front;
      back = m.back;
      texts = m.texts;
      cut = ap script_lines whole ∙ lines_and goes.lines (m.rest ++ ys) goes.each;
      part = m.part;
      missing = m.missing;
      told = m.told;
      runs = goes.runs;
    }

-- a script whose last line's printing failed
pub run_broken : (from to : Option (List ℕ)) (a b c : Desk) (st su : Status) (s t u : Machine) (read : List ℕ) (line : Line) → Consumes from to read
    → IsAtEnd to → Obeyed false a b st su s t read line
    → ((text : List ℕ) → Holds text line → Broke b c t u text) → IfSome from (Broke a c s u)
run_broken None to a b c st su s t u read line p e h f = tt
run_broken (Some input) None a b c st su s t u read line p e h f = absurd p
run_broken (Some input) (Some ys) a b c st su s t u read line p e h f =
    let left = h.ends.0 in
    let goes = h.ends.1 in
    let m = f left h.ends.2 in
    let whole : input ≡ unlines goes.lines ++ left = p ∙ (ap (λ l. read ++ l) e ∙ (append-nil read ∙ goes.cut)) in
    let back = sym (append_assoc h.answers m.answers (m.last ∷ [])) in
    record {
      lines = goes.lines ++ m.lines;
      others = m.others;
      answers = h.answers ++ m.answers;
      last = m.last;
      front = m.front;
      back = m.back;
      texts = h.texts ++ m.texts;
      cut = ap script_lines whole ∙ (lines_and goes.lines left goes.each ∙ (ap (λ l. goes.lines ++ l) m.cut ∙ sym (append_assoc goes.lines m.lines m.others)));
      part = m.part;
      missing = m.missing;
      told = tells-part a b c h.answers m.answers m.last m.front h.texts m.texts h.told m.told;
      runs = subst (λ (l : List Answer). Runs s (goes.lines ++ m.lines) l (h.texts ++ m.texts) u) back
          (runs-runs s t u goes.lines m.lines h.answers (m.answers ++ m.last ∷ []) h.texts m.texts goes.runs m.runs);
    }
