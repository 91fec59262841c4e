-- The run of a patch with comments, by the run of the one without them.
use Rattle.std.proofs.Common.{◌≡◌, ◌==◌, ◌<◌, ◌≤◌, ◌^◌, ◌++◌, ◌∷◌, ◌∙◌, ℕ, true, false, List, [], length, codes, refl, sym, ap, subst, arith, append_assoc}
use Rattle.std.proofs.Common.{inl, inr, if◌then◌else◌}
use Rattle.std.specs.Prelude.{◌⊎◌}
use Rattle.std.specs.List.{AllByRecursion}
use Rattle.std.proofs.lemmas.List.{append-nil}
use Rattle.irig_codes.specs.Format.{FormatView}
use Rattle.irig_recording.specs.Recording.{IsRecording, RecordingView, RisesFrom, UpTo}
use Rattle.irig_recording.specs.{declared.pulse.Pulse.Pulse}
use Rattle.irig_recording.proofs.PulseEdges.{length-edges_of}
use Rattle.irig_track.specs.Edges.{edges_of}
use Rattle.irig_lines.specs.{Lines.is_quit, Lines.lines_of, Lines.script_lines, Lines.until_quit, declared.command.Command.Command}
use Rattle.irig_lines.specs.Grammar.{Means}
use Rattle.irig_lines.specs.declared.command.Command.TheVariants as command
use Rattle.irig_lines.proofs.LineOrders.{means_one}
use Rattle.irig_script.specs.{Obey.Answer.Answered, Obey.Answer.texts_of, Obey.Machine.Machine, Obey.Obeying.Obeys, Obey.Replies.texts_put, Obey.Run.IsPlain}
use Rattle.irig_script.specs.{Obey.Run.Runs, Print.Printed.Answer, declared.print.reply.Reply.Reply, declared.print.reply.Reply.TheVariants.Silent}
use Rattle.irig_script.proofs.{ObeyLemmas.Lines.first_line, ObeyLemmas.Lines.until_obeyed, ObeyLemmas.Quits.other_goes_on}
use Rattle.irig_difference.specs.{PatchText.length_note, PatchText.line_of, PatchText.patch_text, Stretches.pairs, Stretches.stretches_between}
use Rattle.irig_difference.proofs.Patches.{edges_of-pairs}
use Rattle.irig_comments.specs.{Comments.IsComment, Framed.IsFramed, Framed.framed, Sides.changes, declared.sides.Sides.Sides}
use Rattle.irig_comments.specs.Commented.{commented_parts, last_text}
use Rattle.irig_comments.specs.Parts.{stretch_line, AreComments, Part, begun_by, comment_part, joined, line_part, lines, not_begun_by, notes, parts_of}
use Rattle.irig_comments.proofs.PartTexts.{comments_are, lines-commented_parts}
use Rattle.irig_patch.specs.Commented.{CommentsMake, CommentsStop, CommentsWrite, commented, commented_and_write}
use Rattle.irig_patch.specs.Scripts.{IsGranted, MayStop, RunOf, patch_and_write}
use Rattle.irig_patch.proofs.InvertLines.{invert_goes_on, invert_line, invert_plain, note_goes_on, note_line, note_plain}
use Rattle.irig_patch.proofs.{ScriptLines.AfterNote, ScriptLines.none_put, ScriptRuns.run_made, ScriptRuns.run_stops, ScriptRuns.run_writes, ScriptRuns.small}

-- nothing, or a line that does not end the script
abbrev IsLine : List ℕ → Type 0
IsLine text = (text ≡ []) ⊎ ((line : List ℕ) × IsPlain line × (is_quit line ≡ false) × (text ≡ line ++ 10 ∷ []))

abbrev AreLines : List Part → Type 0
AreLines parts = AllByRecursion (λ x. IsLine x.line) parts

line_and : (line rest : List ℕ) → IsPlain line → is_quit line ≡ false → script_lines ((line ++ 10 ∷ []) ++ rest) ≡ line ∷ script_lines rest
line_and line rest plain goes =
    ap script_lines (append_assoc line (10 ∷ []) rest) ∙ ap until_quit (first_line line rest plain) ∙ until_obeyed line (lines_of rest) goes

-- a comment asks for nothing
rests : (inside : List ℕ) → Means command.Nothing (35 ∷ inside)
rests inside = ([], 35 ∷ inside, refl, refl, inl (refl, refl))

goes_on : (inside : List ℕ) → is_quit (35 ∷ inside) ≡ false
goes_on inside = other_goes_on command.Nothing (35 ∷ inside) (rests inside) (λ e. absurd (cc))

silent : (inside : List ℕ) (old new : Machine) (answer : Answer) (put : List (List ℕ)) → length inside < 1000 → Answered old (35 ∷ inside) answer put new
    → (answer.reply ≡ Silent) × (new ≡ old) × (put ≡ [])
silent inside old new answer put few is = elim is.0 [
  | inl long ↦ absurd (omega (arith, long.0, few))
  | inr rest ↦ elim rest [
    | inl bad ↦ absurd (bad.1 command.Nothing (rests inside))
    | inr obeyed ↦ (
        let same : obeyed.1.0 ≡ command.Nothing = means_one (35 ∷ inside) obeyed.1.0 command.Nothing obeyed.1.1 (rests inside) in
        let did = subst (λ (c : Command). Obeys c old answer.reply new) same obeyed.1.2 in
        (did.0, did.1, obeyed.1.3 ∙ ap (λ (c : Command). texts_put (texts_of c old) answer.reply) same ∙ none_put answer.reply))
  ]
]

module _ (P : Reply → Type 0) (is_silent : P Silent) where
  -- the run of the lines after a comment
  after_comment : (text rest : List ℕ) (old new : Machine) (answers : List Answer) (texts : List (List ℕ)) → IsComment text
      → Runs old (script_lines (text ++ rest)) answers texts new → AfterNote P old (script_lines rest) answers texts new
  after_comment text rest old new answers texts (inl none) r =
      record {
        answers = answers;
        runs = subst (λ (t : List ℕ). Runs old (script_lines (t ++ rest)) answers texts new) none r;
        back = λ p. p;
        on = λ p. p;
      }
  after_comment text rest old new answers texts (inr h) r =
      let lines = ap (λ (t : List ℕ). script_lines (t ++ rest)) h.3 ∙ line_and (35 ∷ h.0) rest h.1 (goes_on h.0) in
      cut h.0 answers h.2 (subst (λ (ls : List (List ℕ)). Runs old ls answers texts new) lines r)
    where
      cut : (inside : List ℕ) (answers : List Answer) → length inside < 1000 → Runs old ((35 ∷ inside) ∷ script_lines rest) answers texts new
          → AfterNote P old (script_lines rest) answers texts new
      cut inside [] few r = absurd r
      cut inside (a ∷ answers) few r =
          let told = silent inside old r.0 a r.1 few r.2 in
          let same : r.3.0 ≡ texts = sym (r.3.1 ∙ ap (λ l. l ++ r.3.0) told.2) in
          record {
            answers = answers;
            runs = subst (λ (ts : List (List ℕ)). Runs old (script_lines rest) answers ts new) same
                (subst (λ (mid : Machine). Runs mid (script_lines rest) answers r.3.0 new) told.1 r.3.2);
            back = λ p. (subst P (sym told.0) is_silent, p);
            on = λ p. p.1;
          }

  -- one line, by what is known of the rest
  one_line : (line joint plain : List ℕ) (old new : Machine) (answers : List Answer) (texts : List (List ℕ))
      → ((mid : Machine) (others : List Answer) (later : List (List ℕ)) → Runs mid (script_lines joint) others later new
      → AfterNote P mid (script_lines plain) others later new)
      → Runs old (line ∷ script_lines joint) answers texts new → AfterNote P old (line ∷ script_lines plain) answers texts new
  one_line line joint plain old new [] texts rest r = absurd r
  one_line line joint plain old new (a ∷ answers) texts rest r =
      let its = rest r.0 answers r.3.0 r.3.2 in
      record {
        answers = a ∷ its.answers;
        runs = (r.0, r.1, r.2, (r.3.0, r.3.1, its.runs));
        back = λ p. (p.0, its.back p.1);
        on = λ p. (p.0, its.on p.1);
      }

  by_line : (text joint plain : List ℕ) (old new : Machine) (answers : List Answer) (texts : List (List ℕ)) → IsLine text
      → ((mid : Machine) (others : List Answer) (later : List (List ℕ)) → Runs mid (script_lines joint) others later new
      → AfterNote P mid (script_lines plain) others later new)
      → Runs old (script_lines (text ++ joint)) answers texts new → AfterNote P old (script_lines (text ++ plain)) answers texts new
  by_line text joint plain old new answers texts (inl none) rest r =
      let its = rest old answers texts (subst (λ (t : List ℕ). Runs old (script_lines (t ++ joint)) answers texts new) none r) in
      record {
        answers = its.answers;
        runs = subst (λ (t : List ℕ). Runs old (script_lines (t ++ plain)) its.answers texts new) (sym none) its.runs;
        back = its.back;
        on = its.on;
      }
  by_line text joint plain old new answers texts (inr l) rest r =
      let split = ap (λ (t : List ℕ). script_lines (t ++ joint)) l.3 ∙ line_and l.0 joint l.1 l.2 in
      let told = ap (λ (t : List ℕ). script_lines (t ++ plain)) l.3 ∙ line_and l.0 plain l.1 l.2 in
      let its = one_line l.0 joint plain old new answers texts rest (subst (λ (ls : List (List ℕ)). Runs old ls answers texts new) split r) in
      record {
        answers = its.answers;
        runs = subst (λ (ls : List (List ℕ)). Runs old ls its.answers texts new) (sym told) its.runs;
        back = its.back;
        on = its.on;
      }

  -- the run without the comments
  without : (parts : List Part) (rest : List ℕ) (old new : Machine) (answers : List Answer) (texts : List (List ℕ)) → AreComments parts → AreLines parts
      → Runs old (script_lines (joined parts ++ rest)) answers texts new → AfterNote P old (script_lines (lines parts ++ rest)) answers texts new
  without [] rest old new answers texts h k r = record { answers = answers; runs = r; back = λ p. p; on = λ p. p }
  without (x ∷ xs) rest old new answers texts h k r =
      let whole = append_assoc (x.comment ++ x.line) (joined xs) rest ∙ append_assoc x.comment x.line (joined xs ++ rest) in
      let first = after_comment x.comment (x.line ++ (joined xs ++ rest)) old new answers texts h.0
      (subst (λ (t : List ℕ). Runs old (script_lines t) answers texts new) whole r) in
      let second = by_line x.line (joined xs ++ rest) (lines xs ++ rest) old new first.answers texts k.0
      (λ mid others later run. without xs rest mid new others later h.1 k.1 run) first.runs in
      record {
        answers = second.answers;
        runs = subst (λ (t : List ℕ). Runs old (script_lines t) second.answers texts new) (sym (append_assoc x.line (lines xs) rest)) second.runs;
        back = λ p. first.back (second.back p);
        on = λ p. second.on (first.on p);
      }

-- the lines of a patch
notes_lines : (ss : List Sides) (rest : List Part) → AreLines rest → AreLines (notes ss ++ rest)
notes_lines [] rest h = h
notes_lines (s ∷ ss) rest h = (inl refl, notes_lines ss rest h)

parts_lines : (ss : List Sides) (ps : List Pulse) (rest : List Part) → UpTo (2 ^ 40) (edges_of ps) → AreLines rest → AreLines (parts_of ss ps ++ rest)
parts_lines ss [] rest u h = notes_lines ss rest h
parts_lines ss (p ∷ ps) rest u h =
    let later = parts_of (not_begun_by p.fall ss) ps in
    let line = line_part (stretch_line p) in
    let a : p.rise < 2 ^ 64 = omega (arith, u.0) in
    let b : p.fall < 2 ^ 64 = omega (arith, u.1.0) in
    subst AreLines (sym (append_assoc (notes (begun_by p.fall ss)) (line ∷ later) rest))
    (notes_lines (begun_by p.fall ss) (line ∷ (later ++ rest)) (
      inr (invert_line p.rise p.fall, invert_plain p.rise p.fall a b, invert_goes_on p.rise p.fall a b, refl),
      parts_lines
          (not_begun_by p.fall ss) ps rest u.1.1 h,
    ))

note_is : (m n : ℕ) → m ≤ 2 ^ 40 → n ≤ 2 ^ 40 → IsLine (length_note m n)
note_is m n h k =
    let a : m < 2 ^ 64 = omega (arith, h) in
    let b : n < 2 ^ 64 = omega (arith, k) in
    elim (m == n) as (λ v. IsLine (if v then [] else line_of (codes "# length") m n)) [
      | true ↦ inl refl
      | false ↦ inr (note_line m n, note_plain m n a b, note_goes_on m n a b, refl)
    ]

-- a recording with its frames is framed
framed_is : (f : FormatView) (r : RecordingView) → IsRecording r.micros r.edges → IsFramed (framed f r)
framed_is f r h =
    let same = edges_of-pairs r.edges h.even in
    record {
      track = record {
        short = h.short;
        few = omega (arith, h.few, ap length same, length-edges_of (pairs r.edges));
        rises = subst (RisesFrom 0) (sym same) h.rises;
        within = subst (UpTo r.micros) (sym same) h.within;
      };
      edges = sym same;
      are = refl;
    }

module _ {script : RecordingView → RecordingView → List ℕ} (f : FormatView) (run : RunOf script) where
  abbrev its_parts : List Part
  its_parts = commented_parts (framed f run.before) (framed f run.after)

  pub are_comments : AreComments its_parts
  are_comments = comments_are (framed f run.before) (framed f run.after) (framed_is f run.before run.is_before) (framed_is f run.after run.is_after)

  pub are_lines : AreLines its_parts
  are_lines = (
    note_is run.before.micros run.after.micros run.is_before.short run.is_after.short,
    parts_lines (changes (framed f run.before) (framed f run.after)) (stretches_between run.before run.after)
        (comment_part (last_text (framed f run.before) (framed f run.after)) ∷ []) (small run) (inl refl, tt),
  )

  pub is_patch : (rest : List ℕ) → script_lines (lines its_parts ++ rest) ≡ script_lines (patch_text run.before run.after ++ rest)
  is_patch rest = ap (λ (t : List ℕ). script_lines (t ++ rest)) (lines-commented_parts (framed f run.before) (framed f run.after))

-- the run of the patch in a run of the one with comments
module _ (P : Reply → Type 0) (is_silent : P Silent) (f : FormatView) where
  its_run : (run : RunOf (commented f)) → AfterNote P run.old (script_lines (patch_text run.before run.after)) run.answers run.texts run.new
  its_run run =
      let whole = ap script_lines (sym (append-nil (commented f run.before run.after))) in
      let runs = subst (λ (ls : List (List ℕ)). Runs run.old ls run.answers run.texts run.new) whole run.runs in
      let its = without P is_silent (its_parts f run) [] run.old run.new run.answers run.texts (are_comments f run) (are_lines f run) runs in
      let plain = is_patch f run [] ∙ ap script_lines (append-nil (patch_text run.before run.after)) in
      record {
        answers = its.answers;
        runs = subst
            (λ (ls : List (List ℕ)). Runs run.old ls its.answers run.texts run.new) plain its.runs;
        back = its.back;
        on = its.on;
      }

  pub its_write : (run : RunOf (commented_and_write f))
      → AfterNote P run.old (script_lines (patch_and_write run.before run.after)) run.answers run.texts run.new
  its_write run =
      let its = without P is_silent (its_parts f run) (codes "write\n") run.old run.new run.answers run.texts (are_comments f run) (are_lines f run) run.runs in
      record {
        answers = its.answers;
        runs = subst (λ (ls : List (List ℕ)). Runs run.old ls its.answers run.texts run.new) (is_patch f run (codes "write\n")) its.runs;
        back = its.back;
        on = its.on;
      }

-- the same run of the patch alone
abbrev plain_of : (f : FormatView) (run : RunOf (commented f)) (answers : List Answer)
    → Runs run.old (script_lines (patch_text run.before run.after)) answers run.texts run.new
    → RunOf patch_text
plain_of f run answers runs = record {
  before = run.before;
  after = run.after;
  is_before = run.is_before;
  is_after = run.is_after;
  covers = run.covers;
  old = run.old;
  new = run.new;
  opened = run.opened;
  answers = answers;
  texts = run.texts;
  runs = runs;
}

pub comments_make : CommentsMake
comments_make f run granted = (let its = its_run IsGranted tt f run in run_made (plain_of f run its.answers its.runs) (its.on granted))

pub comments_stop : CommentsStop
comments_stop f run = (let its = its_run MayStop tt f run in let stop = run_stops (plain_of f run its.answers its.runs) in (its.back stop.0, stop.1))

-- and with the line that writes
abbrev pub plain_write : (f : FormatView) (run : RunOf (commented_and_write f)) (answers : List Answer)
    → Runs run.old (script_lines (patch_and_write run.before run.after)) answers run.texts run.new → RunOf patch_and_write
plain_write f run answers runs = record {
  before = run.before;
  after = run.after;
  is_before = run.is_before;
  is_after = run.is_after;
  covers = run.covers;
  old = run.old;
  new = run.new;
  opened = run.opened;
  answers = answers;
  texts = run.texts;
  runs = runs;
}

pub comments_write : CommentsWrite
comments_write f run granted = (let its = its_write IsGranted tt f run in run_writes (plain_write f run its.answers its.runs) (its.on granted))
