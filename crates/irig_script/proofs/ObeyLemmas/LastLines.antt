-- The last line of a script, which is obeyed as if it ended with a newline.
use Rattle.std.proofs.Common.{◌≡◌, ◌++◌, ◌∷◌, [], ℕ, Bool, Some, true, false, List, refl, ap, sym, ◌∙◌, subst}
use Rattle.std.proofs.lemmas.List.{append-nil}
use Rattle.irig_script.specs.{Obey.Machine.Machine, Obey.Desk.Desk, Obey.Progress.Obeyed, Obey.Progress.BrokeIn, Obey.Reads.with_end, Obey.Run.Ran}
use Rattle.irig_script.specs.{Obey.Run.Broke, Obey.Run.IsPlain, declared.obey.status.Status.Status, declared.obey.line.Line.Line}
use Rattle.irig_lines.specs.Lines.{until_quit, script_lines}
use Rattle.irig_script.proofs.ObeyLemmas.Lines.{first_line, last_line, lines_and, plain_first}
use Rattle.irig_script.proofs.ObeyLemmas.Runs.{run_quit, run_broke}

-- the newline makes no other line
same_lines : (text : List ℕ) → IsPlain text → script_lines text ≡ script_lines (text ++ with_end text [])
same_lines [] h = refl
same_lines (b ∷ text) h = ap until_quit (last_line b text h ∙ sym (first_line (b ∷ text) [] h))

-- after the newline comes no front of a line
never_plain : (text : List ℕ) → IsPlain (text ++ 10 ∷ []) → ⊥
never_plain [] h = let bad : false ≡ true = h in cc
never_plain (b ∷ text) h = never_plain text (plain_first b (text ++ 10 ∷ []) h).1

no_front : (text lines front : List ℕ) → text ++ 10 ∷ [] ≡ lines ++ front → IsPlain front → front ≡ []
no_front text [] front e h = absurd (never_plain text (subst IsPlain (sym e) h))
no_front [] (b ∷ lines) [] e h = refl
no_front [] (b ∷ []) (c ∷ front) e h = absurd (cc)
no_front [] (b ∷ (d ∷ lines)) (c ∷ front) e h = absurd (cc)
no_front (a ∷ text) (b ∷ lines) front e h = let tail : text ++ 10 ∷ [] ≡ lines ++ front = cc in no_front text lines front tail h

last_front : (text lines front : List ℕ) → text ++ with_end text [] ≡ lines ++ front → IsPlain front → front ≡ []
last_front [] [] front e h = sym e
last_front [] (b ∷ lines) front e h = absurd (cc)
last_front (a ∷ text) lines front e h = no_front (a ∷ text) lines front e h

-- all of the bytes were obeyed
ran_all : (ended : Bool) (a b : Desk) (st su : Status) (s t : Machine) (text : List ℕ) (line : Line)
    → Obeyed ended a b st su s t (text ++ with_end text []) line → Ran a b st su s t (text ++ with_end text [])
ran_all true a b st su s t text line h =
    run_quit (Some (text ++ with_end text [])) (Some []) a b st su s t (text ++ with_end text []) line (sym (append-nil (text ++ with_end text []))) h
ran_all false a b st su s t text line h =
    let goes = h.ends.1 in
    let none = last_front text _ h.ends.0 goes.cut h.ends.2.plain in
    let cut : script_lines (text ++ with_end text []) ≡ goes.lines = ap script_lines goes.cut ∙ (lines_and goes.lines h.ends.0 goes.each
    ∙ (ap (λ l. goes.lines ++ script_lines l) none ∙ append-nil goes.lines)) in
    record { answers = h.answers; texts = h.texts; status = h.status; told = h.told; runs = rw cut goes.runs }

pub ran_last : (ended : Bool) (a b : Desk) (st su : Status) (s t : Machine) (text bytes : List ℕ) (line : Line) → IsPlain text → bytes ≡ with_end text []
    → Obeyed ended a b st su s t (text ++ bytes) line → Ran a b st su s t text
ran_last ended a b st su s t text bytes line plain e h =
    let ran = ran_all ended a b st su s t text line (subst (λ (l : List ℕ). Obeyed ended a b st su s t (text ++ l) line) e h) in
    record { answers = ran.answers; texts = ran.texts; status = ran.status; told = ran.told; runs = rw (same_lines text plain) ran.runs }

pub broke_last : (a b : Desk) (s t : Machine) (text bytes : List ℕ) → IsPlain text → bytes ≡ with_end text [] → BrokeIn a b s t (text ++ bytes)
    → Broke a b s t text
broke_last a b s t text bytes plain e h =
    let whole = text ++ with_end text [] in
    let broke = run_broke (Some whole) (Some []) a b s t whole (sym (append-nil whole)) (subst (λ (l : List ℕ). BrokeIn a b s t (text ++ l)) e h) in
    record {
      lines = broke.lines;
      others = broke.others;
      answers = broke.answers;
      last = broke.last;
      front = broke.front;
      back = broke.back;
      texts = broke.texts;
      cut = same_lines text plain ∙ broke.cut;
      part = broke.part;
      missing = broke.missing;
      told = broke.told;
      runs = broke.runs;
    }
