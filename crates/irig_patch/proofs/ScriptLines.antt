-- The lines of a patch as a script, and the answers to them.
use Rattle.std.proofs.Common.{◌≡◌, ◌==◌, Bool, true, false, ◌<◌, ◌≤◌, ◌^◌, ◌++◌, ◌∷◌, ◌∙◌, ℕ, List, [], codes, refl, sym, ap, subst, arith, append_assoc, inl}
use Rattle.std.proofs.Common.{inr, if◌then◌else◌}
use Rattle.std.specs.List.{AllByRecursion}
use Rattle.std.proofs.lemmas.List.{append-nil}
use Rattle.irig_recording.specs.{Recording.UpTo, declared.pulse.Pulse.Pulse}
use Rattle.irig_track.specs.Edges.{edges_of}
use Rattle.irig_edit.specs.Session.Calls.Edit.{Invert}
use Rattle.irig_lines.specs.{Grammar.Means, Lines.lines_of, Lines.script_lines, Lines.until_quit, declared.command.Command.Command}
use Rattle.irig_lines.specs.declared.command.Command.TheVariants as command
use Rattle.irig_lines.specs.declared.time.Time.TheVariants as time
use Rattle.irig_lines.proofs.LineOrders.{means_one}
use Rattle.irig_script.specs.declared.print.reply.Reply.TheVariants.{Silent, Written}
use Rattle.irig_script.specs.{Obey.Answer.Answered, Obey.Answer.texts_of, Obey.Machine.Machine, Obey.Obeying.Obeys, Obey.Replies.Makes, Obey.Replies.Writes}
use Rattle.irig_script.specs.{Obey.Replies.dump_text, Obey.Replies.texts_put, Obey.Run.Runs, Print.Printed.Answer, declared.print.reply.Reply.Reply}
use Rattle.irig_script.proofs.ObeyLemmas.Lines.{first_line, until_obeyed}
use Rattle.irig_difference.specs.PatchText.{line_of, length_note, script_of}
use Rattle.irig_patch.specs.Scripts.{IsGranted}
use Rattle.irig_patch.proofs.InvertLines.{note_line, note_means, note_goes_on, note_plain, note_short, invert_line, invert_means, invert_goes_on, invert_plain}
use Rattle.irig_patch.proofs.InvertLines.{invert_short}

-- the lines of stretches
abbrev pub invert_lines : List Pulse → List (List ℕ)
invert_lines [] = []
invert_lines (p ∷ ps) = invert_line p.rise p.fall ∷ invert_lines ps

pub script_lines-more : (ps : List Pulse) (rest : List ℕ) → UpTo (2 ^ 40) (edges_of ps)
    → script_lines (script_of ps ++ rest) ≡ invert_lines ps ++ script_lines rest
script_lines-more [] rest u = refl
script_lines-more (p ∷ ps) rest u =
    let line = invert_line p.rise p.fall in
    let a : p.rise < 2 ^ 64 = omega (arith, u.0) in let b : p.fall < 2 ^ 64 = omega (arith, u.1.0) in
    ap script_lines (append_assoc (line ++ 10 ∷ []) (script_of ps) rest ∙ append_assoc line (10 ∷ []) (script_of ps ++ rest))
    ∙ ap until_quit (first_line line (script_of ps ++ rest) (invert_plain p.rise p.fall a b))
    ∙ until_obeyed line (lines_of (script_of ps ++ rest)) (invert_goes_on p.rise p.fall a b) ∙ ap (λ ls. line ∷ ls) (script_lines-more ps rest u.1.1)

pub script_lines-script : (ps : List Pulse) → UpTo (2 ^ 40) (edges_of ps) → script_lines (script_of ps) ≡ invert_lines ps
script_lines-script ps u = ap script_lines (sym (append-nil (script_of ps))) ∙ script_lines-more ps [] u ∙ append-nil (invert_lines ps)

-- the lines of the comment that has two lengths
abbrev pub note_lines : ℕ → ℕ → List (List ℕ)
note_lines m n = if m == n then [] else note_line m n ∷ []

pub script_lines-note : (m n : ℕ) (rest : List ℕ) → m ≤ 2 ^ 40 → n ≤ 2 ^ 40 → script_lines (length_note m n ++ rest) ≡ note_lines m n ++ script_lines rest
script_lines-note m n rest h k =
    let line = note_line m n in
    let a : m < 2 ^ 64 = omega (arith, h) in let b : n < 2 ^ 64 = omega (arith, k) in
    elim (m == n) as (λ v. script_lines ((if v then [] else line_of (codes "# length") m n) ++ rest) ≡ (if v then [] else line ∷ []) ++ script_lines rest) [
      | true ↦ refl
      | false ↦ ap script_lines (append_assoc line (10 ∷ []) rest) ∙ ap until_quit (first_line line rest (note_plain m n a b))
          ∙ until_obeyed line (lines_of rest) (note_goes_on m n a b)
    ]

pub none_put : (reply : Reply) → texts_put [] reply ≡ []
none_put (Written count) = refl
none_put _ = refl

-- an answer to one line
pub answered : (a b : ℕ) (old new : Machine) (answer : Answer) (put : List (List ℕ)) → a ≤ 2 ^ 40 → b ≤ 2 ^ 40 → Answered old (invert_line a b) answer put new
    → Makes (Invert a b) old answer.reply new × (put ≡ [])
answered a b old new answer put h k is =
    let asked = command.Invert (time.At a) (time.At b) in
    let means = invert_means a b (omega (arith, h)) (omega (arith, k)) in
    elim is.0 [
      | inl long ↦ absurd (omega (arith, long.0, invert_short a b (omega (arith, h)) (omega (arith, k))))
      | inr rest ↦ elim rest [
        | inl bad ↦ absurd (bad.1 asked means)
        | inr obeyed ↦ (
            let same : obeyed.1.0 ≡ asked = means_one (invert_line a b) obeyed.1.0 asked obeyed.1.1 means in (
              subst (λ (c : Command). Obeys c old answer.reply new) same obeyed.1.2,
              obeyed.1.3 ∙ ap (λ (c : Command). texts_put (texts_of c old) answer.reply) same ∙ none_put answer.reply,
            ))
      ]
    ]

-- an answer to the comment
pub note_answered : (m n : ℕ) (old new : Machine) (answer : Answer) (put : List (List ℕ)) → m ≤ 2 ^ 40 → n ≤ 2 ^ 40
    → Answered old (note_line m n) answer put new
    → (answer.reply ≡ Silent) × (new ≡ old) × (put ≡ [])
note_answered m n old new answer put h k is = elim is.0 [
  | inl long ↦ absurd (omega (arith, long.0, note_short m n (omega (arith, h)) (omega (arith, k))))
  | inr rest ↦ elim rest [
    | inl bad ↦ absurd (bad.1 command.Nothing (note_means m n))
    | inr obeyed ↦ (
        let same : obeyed.1.0 ≡ command.Nothing = means_one (note_line m n) obeyed.1.0 command.Nothing obeyed.1.1 (note_means m n) in
        let did = subst (λ (c : Command). Obeys c old answer.reply new) same obeyed.1.2 in
        (did.0, did.1, obeyed.1.3 ∙ ap (λ (c : Command). texts_put (texts_of c old) answer.reply) same ∙ none_put answer.reply))
  ]
]

-- the run of the lines after the comment, if there is one
pub record AfterNote (P : Reply → Type 0) (old : Machine) (rest : List (List ℕ)) (all : List Answer) (texts : List (List ℕ)) (new : Machine) : Type 0 where
  pub answers : List Answer
  pub runs : Runs old rest answers texts new
  pub back : AllByRecursion (λ a. P a.reply) answers → AllByRecursion (λ a. P a.reply) all
  pub on : AllByRecursion (λ a. P a.reply) all → AllByRecursion (λ a. P a.reply) answers

pub after_note : (P : Reply → Type 0) → P Silent → (m n : ℕ) (rest : List (List ℕ)) (old new : Machine) (answers : List Answer) (texts : List (List ℕ))
    → m ≤ 2 ^ 40 → n ≤ 2 ^ 40
    → Runs old (note_lines m n ++ rest) answers texts new → AfterNote P old rest answers texts new
after_note P is_silent m n rest old new answers texts h k = by_test (m == n) answers
  where
    by_test : (v : Bool) (answers : List Answer) → Runs old ((if v then [] else note_line m n ∷ []) ++ rest) answers texts new
        → AfterNote P old rest answers texts new
    by_test true answers r = record { answers = answers; runs = r; back = λ p. p; on = λ p. p }
    by_test false [] r = absurd r
    by_test false (a ∷ answers) r =
        let told = note_answered m n old r.0 a r.1 h k r.2 in
        let same : r.3.0 ≡ texts = sym (r.3.1 ∙ ap (λ l. l ++ r.3.0) told.2) in
        record {
          answers = answers;
          runs = subst (λ (ts : List (List ℕ)). Runs old rest answers ts new) same (subst (λ (mid : Machine). Runs mid rest answers r.3.0 new) told.1 r.3.2);
          back = λ p. (subst P (sym told.0) is_silent, p);
          on = λ p. p.1;
        }

-- the line that writes
pub write_means : Means command.Write (codes "write")
write_means = (
  [],
  codes "write",
  refl,
  refl,
  inr (
    [],
    codes "write" ∷ [],
    record { blank = []; rest = codes "write"; whole = refl; between = refl; behind = ([], refl, record { some = λ e. absurd (cc); joined = refl }, refl) },
    (refl, refl, refl),
  ),
)

was_written : (text : List ℕ) (reply : Reply) → IsGranted reply → Writes text reply → texts_put (text ∷ []) reply ≡ text ∷ []
was_written text (Written count) g h = refl
was_written text Silent g h = absurd h
was_written text _ g h = absurd g

-- an answer to it
pub write_answered : (old new : Machine) (answer : Answer) (put : List (List ℕ)) → IsGranted answer.reply → Answered old (codes "write") answer put new
    → put ≡ dump_text old ∷ []
write_answered old new answer put g is = elim is.0 [
  | inl long ↦ absurd (omega (arith, long.0))
  | inr rest ↦ elim rest [
    | inl bad ↦ absurd (bad.1 command.Write write_means)
    | inr obeyed ↦ (
        let same : obeyed.1.0 ≡ command.Write = means_one (codes "write") obeyed.1.0 command.Write obeyed.1.1 write_means in
        let wrote = subst (λ (c : Command). Obeys c old answer.reply new) same obeyed.1.2 in
        obeyed.1.3 ∙ ap (λ (c : Command). texts_put (texts_of c old) answer.reply) same ∙ was_written (dump_text old) answer.reply g wrote.0)
  ]
]
