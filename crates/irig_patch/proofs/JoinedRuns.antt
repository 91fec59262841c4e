-- A patch that was printed, and run with `write` after it.
use Rattle.std.proofs.Common.{◌≡◌, ◌^◌, ◌++◌, ◌∷◌, ◌∙◌, ℕ, Bool, true, false, List, [], Option, Some, None, Ok, Err, codes, refl, sym, ap, subst}
use Rattle.std.proofs.Common.{arith, inl, inr, Result, if◌then◌else◌}
use Rattle.std.specs.List.{AllByRecursion}
use Rattle.irig_text.specs.Shelved.{Puts}
use Rattle.irig_codes.specs.Format.{FormatView}
use Rattle.irig_saved.specs.declared.saved.Saved.{Saved}
use Rattle.irig_recording.specs.FileText.{file_text}
use Rattle.irig_recording.specs.{Recording.RecordingView, Recording.UpTo, Recording.is_even_long, Recording.recording_view, declared.pulse.Pulse.Pulse}
use Rattle.irig_track.specs.Edges.{edges_of}
use Rattle.irig_vcd.specs.{Parts.dump_parts, declared.fault.VcdFault.VcdFault}
use Rattle.irig_edit.specs.Changes.Laws.Edges.{edges_of-pulses_of}
use Rattle.irig_edit.specs.{Opened.Opened.state_of, Opened.Openings.IsOpened, Session.Calls.Edit.Invert, State.State.recording_of}
use Rattle.irig_lines.specs.{Lines.script_lines, declared.command.Command.Command}
use Rattle.irig_lines.specs.declared.command.Command.TheVariants as command
use Rattle.irig_lines.proofs.LineOrders.{means_one}
use Rattle.irig_script.specs.Obey.Desk.{failures_in, failures_of, is_refusal, status_after}
use Rattle.irig_script.specs.declared.obey.status.Status.TheVariants.{AllAccepted, SomeRefused}
use Rattle.irig_script.specs.declared.print.reply.Reply.TheVariants.{Silent, Refused, Written, WriteFailed}
use Rattle.irig_script.specs.{Obey.Answer.Answered, Obey.Machine.Machine, Obey.Obeying.Obeys, Obey.Replies.Makes, Obey.Replies.Writes, Obey.Replies.dump_text}
use Rattle.irig_script.specs.{Obey.Run.Runs, Print.Printed.Answer, declared.print.reply.Reply.Reply}
use Rattle.irig_difference.specs.Stretches.{stretches_between}
use Rattle.irig_patch.specs.Scripts.{AreGranted, IsGranted, RunOf, patch_and_write}
use Rattle.irig_patch.specs.{Commented.CommentsJoin, Joined.JoinedRun, Joined.PatchesJoin, Joined.WritesMade, Patched.made_of}
use Rattle.irig_patch.proofs.CommentedRuns.{its_write, plain_write}
use Rattle.irig_patch.proofs.ScriptLines.{answered, invert_lines, write_means}
use Rattle.irig_patch.proofs.ScriptRuns.{run_writes_by, small, write_its}

-- no answer is a refusal
abbrev AreAccepted : List Answer → Type 0
AreAccepted answers = AllByRecursion (λ a. is_refusal a.reply ≡ false) answers

refused_stays : (answers : List Answer) → status_after SomeRefused answers ≡ SomeRefused
refused_stays [] = refl
refused_stays (a ∷ answers) = elim (is_refusal a.reply) as (λ v. status_after (if v then SomeRefused else SomeRefused) answers ≡ SomeRefused) [
  | true ↦ refused_stays answers
  | false ↦ refused_stays answers
]

apart : AllAccepted ≡ SomeRefused → ⊥
apart h = cc

first_accepted : (v : Bool) (answers : List Answer) → status_after (if v then SomeRefused else AllAccepted) answers ≡ AllAccepted
    → (v ≡ false) × (status_after AllAccepted answers ≡ AllAccepted)
first_accepted false answers e = (refl, e)
first_accepted true answers e = absurd (apart (sym e ∙ refused_stays answers))

all_accepted : (answers : List Answer) → status_after AllAccepted answers ≡ AllAccepted → AreAccepted answers
all_accepted [] e = tt
all_accepted (a ∷ answers) e = (let it = first_accepted (is_refusal a.reply) answers e in (it.0, all_accepted answers it.1))

none_failed : (reply : Reply) → is_refusal reply ≡ false → failures_of reply ≡ 0
none_failed WriteFailed e = absurd (cc e)
none_failed _ e = refl

no_failures : (answers : List Answer) → AreAccepted answers → failures_in answers ≡ 0
no_failures [] h = refl
no_failures (a ∷ answers) h = omega (arith, none_failed a.reply h.0, no_failures answers h.1)

-- an edit that is not refused is silent
edit_granted : (a b : ℕ) (reply : Reply) (old new : Machine) → is_refusal reply ≡ false → Makes (Invert a b) old reply new → IsGranted reply
edit_granted a b Silent old new e h = tt
edit_granted a b (Refused why) old new e h = absurd (cc e)
edit_granted a b _ old new e h = absurd h

write_reply : (text : List ℕ) (reply : Reply) → is_refusal reply ≡ false → Writes text reply → IsGranted reply
write_reply text (Written count) e h = tt
write_reply text WriteFailed e h = absurd (cc e)
write_reply text _ e h = absurd h

-- the line that writes is granted, if it is not refused
write_granted : (old new : Machine) (answer : Answer) (put : List (List ℕ)) → is_refusal answer.reply ≡ false → Answered old (codes "write") answer put new
    → IsGranted answer.reply
write_granted old new answer put e is = elim is.0 [
  | inl long ↦ absurd (omega (arith, long.0))
  | inr rest ↦ elim rest [
    | inl bad ↦ absurd (bad.1 command.Write write_means)
    | inr obeyed ↦ (
        let same : obeyed.1.0 ≡ command.Write = means_one (codes "write") obeyed.1.0 command.Write obeyed.1.1 write_means in
        let wrote = subst (λ (c : Command). Obeys c old answer.reply new) same obeyed.1.2 in
        write_reply (dump_text old) answer.reply e wrote.0)
  ]
]

all_granted : (ps : List Pulse) (old new : Machine) (answers : List Answer) (texts : List (List ℕ)) → UpTo (2 ^ 40) (edges_of ps)
    → Runs old (invert_lines ps ++ (codes "write" ∷ [])) answers texts new → AreAccepted answers → AreGranted answers
all_granted [] old new [] texts u r s = absurd r
all_granted [] old new (a ∷ []) texts u r s = (write_granted old r.0 a r.1 s.0 r.2, tt)
all_granted [] old new (a ∷ b ∷ answers) texts u r s = absurd r.3.2
all_granted (p ∷ ps) old new [] texts u r s = absurd r
all_granted (p ∷ ps) old new (a ∷ answers) texts u r s =
    let step = answered p.rise p.fall old r.0 a r.1 u.0 u.1.0 r.2 in
    (edit_granted p.rise p.fall a.reply old r.0 s.0 step.0, all_granted ps r.0 new answers r.3.0 u.1.1 r.3.2 s.1)

-- what is written if no line is refused
writes_made : (run : RunOf patch_and_write) → AreAccepted run.answers → run.texts ≡ file_text (made_of run.before run.after) ∷ []
writes_made run accepted =
    let its = write_its (λ reply. is_refusal reply ≡ false) refl run in
    let all = stretches_between run.before run.after in
    run_writes_by run its.answers its.runs (all_granted all run.old run.new its.answers run.texts (small run) its.runs (its.on accepted))

-- the session that is opened is one of the recording, also if it has a journal
abbrev parts_or : Result (RecordingView × Option (List ℕ)) VcdFault → RecordingView × Option (List ℕ) → RecordingView × Option (List ℕ)
parts_or (Ok parts) other = parts
parts_or (Err fault) other = other

same_recording : (wire : Option (List ℕ)) (dump : List ℕ) (r before : RecordingView) (one other : Option (List ℕ)) → dump_parts wire dump ≡ Ok (r, one)
    → dump_parts wire dump ≡ Ok (before, other) → r ≡ before
same_recording wire dump r before one other it is = ap (λ x. (parts_or x (before, other)).0) (sym it ∙ is)

of_state : (r : RecordingView) (saved : Saved) → is_even_long r.edges ≡ true → recording_of (state_of r saved) ≡ r
of_state r saved even = ap (λ es. recording_view r.micros es) (edges_of-pulses_of r.edges even)

opened_before : (wire : Option (List ℕ)) (dump : List ℕ) (format : FormatView) (before : RecordingView) (journal : Option (List ℕ)) (m : Machine)
    → is_even_long before.edges ≡ true → dump_parts wire dump ≡ Ok (before, journal) → IsOpened wire dump format m → recording_of m.state ≡ before
opened_before wire dump format before journal m even is (inl h) = h.2.recording ∙ same_recording wire dump h.0 before None journal h.1 is
opened_before wire dump format before journal m even is (inr h) =
    let same = same_recording wire dump h.0 before (Some h.1.0) journal h.1.1.1 is in
    ap (λ (v : Machine). recording_of v.state) h.1.1.3.session
    ∙ of_state h.0 h.1.1.0 (subst (λ (r : RecordingView). is_even_long r.edges ≡ true) (sym same) even) ∙ same

-- a run on the file as one on its session
module _ {script : RecordingView → RecordingView → List ℕ} (run : JoinedRun script) where
  abbrev with_write : RecordingView → RecordingView → List ℕ
  with_write before after = script before after ++ codes "write\n"

  abbrev its_run : RunOf with_write
  its_run = record {
    before = run.before;
    after = run.after;
    is_before = run.is_before;
    is_after = run.is_after;
    covers = run.covers;
    old = run.ran.first;
    new = run.ran.last;
    opened = opened_before run.wire run.dump run.format run.before run.journal run.ran.first run.is_before.even run.of_dump run.ran.opened;
    answers = run.ran.ran.answers;
    texts = run.ran.ran.texts;
    runs = subst (λ t. Runs run.ran.first (script_lines t) run.ran.ran.answers run.ran.ran.texts run.ran.last)
        (ap (λ t. t ++ codes "write\n") run.printing) run.ran.ran.runs;
  }

  its_accepted : AreAccepted run.ran.ran.answers
  its_accepted = all_accepted run.ran.ran.answers (sym run.ran.ran.status)

  its_written : run.ran.ran.texts ≡ file_text (made_of run.before run.after) ∷ [] → WritesMade run
  its_written texts =
      subst (λ ts. Puts run.from.shelf run.to.shelf ts 0) texts
      (subst (λ n. Puts run.from.shelf run.to.shelf run.ran.ran.texts n) (no_failures run.ran.ran.answers its_accepted) run.ran.ran.told.put)

pub patches_join : PatchesJoin
patches_join run = its_written run (writes_made (its_run run) (its_accepted run))

pub comments_join : CommentsJoin
comments_join f run =
    let whole = its_run run in
    let its = its_write (λ reply. is_refusal reply ≡ false) refl f whole in
    its_written run (writes_made (plain_write f whole its.answers its.runs) (its.on (its_accepted run)))
