-- The run of a patch as a script, stretch by stretch.
use Rattle.std.proofs.Common.{◌≡◌, ◌+◌, ◌<◌, ◌≤◌, ◌^◌, ◌++◌, ◌∷◌, ◌∙◌, ℕ, List, [], Ok, Err, codes, sym, ap, subst, arith, append_assoc}
use Rattle.std.specs.List.{AllByRecursion}
use Rattle.std.proofs.lemmas.List.{append-nil}
use Rattle.irig_recording.specs.Recording.{RisesFrom, UpTo, IsRecording, recording_view, RecordingView}
use Rattle.irig_recording.specs.{FileText.file_text, declared.pulse.Pulse.Pulse}
use Rattle.irig_track.specs.Edges.{edges_of}
use Rattle.irig_edit.specs.{Session.Calls.Call.Make, Session.Calls.Edit.Invert, Session.Session.Steps, State.State.recording_of}
use Rattle.irig_edit.specs.{declared.session.refusal.Refusal.Refusal, declared.session.refusal.Refusal.TheVariants.OutOfMemory}
use Rattle.irig_lines.specs.Lines.{script_lines}
use Rattle.irig_script.specs.{Obey.Machine.Machine, Obey.Replies.Makes, Obey.Replies.dump_text, Obey.Run.Runs, Print.Printed.Answer}
use Rattle.irig_script.specs.{declared.print.reply.Reply.Reply, declared.print.reply.Reply.TheVariants.Silent, declared.print.reply.Reply.TheVariants.Refused}
use Rattle.irig_difference.specs.{Flips.patched, PatchText.length_note, PatchText.script_of, PatchText.patch_text, Stretches.stretches_between}
use Rattle.irig_difference.proofs.{FlipLists.UpTo-more, Patches.patched-stretches}
use Rattle.irig_patch.specs.Patched.{AreStretches, Patches, made_of}
use Rattle.irig_patch.specs.Scripts.{IsGranted, AreGranted, MayStop, RunOf, patch_and_write}
use Rattle.irig_patch.proofs.Inverts.{stretches_fit, Goes, none_made, one_made, all_made, refused_by}
use Rattle.irig_patch.proofs.ScriptLines.{AfterNote, after_note, answered, invert_lines, note_lines, script_lines-more, script_lines-note, script_lines-script}
use Rattle.irig_patch.proofs.ScriptLines.{write_answered}

-- what is known where some stretches are made and other lines are left
record GoesTo (all : List Pulse) (start : Machine) (rest : List (List ℕ)) (texts : List (List ℕ)) (new : Machine) : Type 0 where
  mid : Machine
  answers : List Answer
  made : Goes all [] start mid
  runs : Runs mid rest answers texts new
  granted : AreGranted answers

was_made : (a b : ℕ) (reply : Reply) (old new : Machine) → IsGranted reply → Makes (Invert a b) old reply new → Steps (Make (Invert a b)) old (Ok tt) new
was_made a b Silent old new g h = h
was_made a b (Refused why) old new g h = absurd g
was_made a b _ old new g h = absurd h

-- lines that are not refused make their stretches
runs_go : (all ps : List Pulse) (rest : List (List ℕ)) (start old new : Machine) (answers : List Answer) (texts : List (List ℕ)) → UpTo (2 ^ 40) (edges_of ps)
    → Runs old (invert_lines ps ++ rest) answers texts new → AreGranted answers → Goes all ps start old → GoesTo all start rest texts new
runs_go all [] rest start old new answers texts u r s g = record { mid = old; answers = answers; made = g; runs = r; granted = s }
runs_go all (p ∷ ps) rest start old new [] texts u r s g = absurd r
runs_go all (p ∷ ps) rest start old new (a ∷ answers) texts u r s g =
    let step = answered p.rise p.fall old r.0 a r.1 u.0 u.1.0 r.2 in
    let made = was_made p.rise p.fall a.reply old r.0 s.0 step.0 in
    let same : r.3.0 ≡ texts = sym (r.3.1 ∙ ap (λ l. l ++ r.3.0) step.1) in
    let runs = subst (λ (ts : List (List ℕ)). Runs r.0 (invert_lines ps ++ rest) answers ts new) same r.3.2 in
    runs_go all ps rest start r.0 new answers texts u.1.1 runs s.1 (one_made p all ps start old r.0 tt g made)

write_runs : (old new : Machine) (answers : List Answer) (texts : List (List ℕ)) → Runs old (codes "write" ∷ []) answers texts new → AreGranted answers
    → texts ≡ dump_text old ∷ []
write_runs old new [] texts r g = absurd r
write_runs old new (a ∷ []) texts r g =
    r.3.1 ∙ ap (λ l. r.1 ++ l) r.3.2.0 ∙ append-nil r.1 ∙ write_answered old r.0 a r.1 g.0 r.2
write_runs old new (a ∷ b ∷ answers) texts r g = absurd r.3.2

stays : (a b : ℕ) (e : Refusal) (old new : Machine) → Steps (Make (Invert a b)) old (Err e) new → new.state.micros ≡ old.state.micros
stays a b OutOfMemory old new h = ap (λ w. w.state.micros) h.1
stays a b _ old new h = ap (λ w. w.state.micros) h.1

-- why a line is refused, and that the length stays
may_stop : (a b : ℕ) (reply : Reply) (old new : Machine) → a < b → b ≤ old.state.micros → Makes (Invert a b) old reply new
    → MayStop reply × (new.state.micros ≡ old.state.micros)
may_stop a b Silent old new lt le h = (tt, h.1.after.length)
may_stop a b (Refused why) old new lt le h = (refused_by a b why old new lt le h, stays a b why old new h)
may_stop a b _ old new lt le h = absurd h

runs_stop : (ps : List Pulse) (low : ℕ) (old new : Machine) (answers : List Answer) (texts : List (List ℕ)) → old.state.micros ≤ 2 ^ 40
    → RisesFrom low (edges_of ps) → UpTo old.state.micros (edges_of ps) → Runs old (invert_lines ps) answers texts new
    → AllByRecursion (λ a. MayStop a.reply) answers × (texts ≡ [])
runs_stop [] low old new [] texts few h u r = (tt, r.0)
runs_stop [] low old new (a ∷ answers) texts few h u r = absurd r
runs_stop (p ∷ ps) low old new [] texts few h u r = absurd r
runs_stop (p ∷ ps) low old new (a ∷ answers) texts few h u r =
    let step = answered p.rise p.fall old r.0 a r.1 (omega (arith, u.0, few)) (omega (arith, u.1.0, few)) r.2 in
    let one = may_stop p.rise p.fall a.reply old r.0 (omega (arith, h.1.0)) u.1.0 step.0 in
    let rest = runs_stop ps (p.fall + 1) r.0 new answers r.3.0 (omega (arith, one.1, few)) h.1.1
    (subst (λ n. UpTo n (edges_of ps)) (sym one.1) u.1.1) r.3.2 in
    ((one.0, rest.0), r.3.1 ∙ ap (λ l. l ++ r.3.0) step.1 ∙ rest.1)

-- of a run of any script that two recordings give
length_is : {script : RecordingView → RecordingView → List ℕ} (run : RunOf script) → run.old.state.micros ≡ run.before.micros
length_is run = ap (λ r. r.micros) run.opened

are_stretches : {script : RecordingView → RecordingView → List ℕ} (run : RunOf script)
    → AreStretches run.old.state.micros (stretches_between run.before run.after)
are_stretches run =
    subst (λ n. AreStretches n (stretches_between run.before run.after)) (sym (length_is run))
    (stretches_fit run.before run.after run.is_before run.is_after run.covers)

short : {script : RecordingView → RecordingView → List ℕ} (run : RunOf script) → run.old.state.micros ≤ 2 ^ 40
short run = omega (arith, length_is run, run.is_before.short)

pub small : {script : RecordingView → RecordingView → List ℕ} (run : RunOf script) → UpTo (2 ^ 40) (edges_of (stretches_between run.before run.after))
small run = UpTo-more run.old.state.micros (2 ^ 40) (edges_of (stretches_between run.before run.after)) (short run) (are_stretches run).1

start_made : {script : RecordingView → RecordingView → List ℕ} (run : RunOf script)
    → Goes (stretches_between run.before run.after) (stretches_between run.before run.after) run.old run.old
start_made run =
    none_made (stretches_between run.before run.after) run.old (subst (RisesFrom 0) (sym (ap (λ r. r.edges) run.opened)) run.is_before.rises)
    (are_stretches run)

-- where all stretches are made, the session is one of the recording after
all_after : {script : RecordingView → RecordingView → List ℕ} (run : RunOf script) (mid : Machine)
    → Patches (stretches_between run.before run.after) run.old mid → recording_of mid.state ≡ made_of run.before run.after
all_after run mid done =
    let edges = done.state.edges ∙ ap (λ r. patched (stretches_between run.before run.after) r.edges) run.opened
    ∙ patched-stretches run.before.edges run.after.edges run.is_before.even run.is_after.even run.is_before.rises run.is_after.rises in
    let micros = done.state.micros ∙ length_is run in
    (λ j. recording_view (micros j) (edges j))

-- the run of the lines after the comment
its_run : (P : Reply → Type 0) → P Silent → (run : RunOf patch_text)
    → AfterNote P run.old (invert_lines (stretches_between run.before run.after)) run.answers run.texts run.new
its_run P is_silent run =
    let all = stretches_between run.before run.after in
    let m = run.before.micros in let n = run.after.micros in
    let lines = script_lines-note m n (script_of all) run.is_before.short run.is_after.short
    ∙ ap (λ (ls : List (List ℕ)). note_lines m n ++ ls) (script_lines-script all (small run)) in
    after_note P is_silent m n (invert_lines all) run.old run.new run.answers run.texts run.is_before.short run.is_after.short
    (subst (λ (ls : List (List ℕ)). Runs run.old ls run.answers run.texts run.new) lines run.runs)

nothing_left : (old new : Machine) (answers : List Answer) (texts : List (List ℕ)) → Runs old [] answers texts new → new ≡ old
nothing_left old new [] texts r = r.1
nothing_left old new (a ∷ answers) texts r = absurd r

pub run_made : (run : RunOf patch_text) → AreGranted run.answers
    → (recording_of run.new.state ≡ made_of run.before run.after) × Patches (stretches_between run.before run.after) run.old run.new
run_made run granted =
    let all = stretches_between run.before run.after in
    let its = its_run IsGranted tt run in
    let runs = subst (λ (ls : List (List ℕ)). Runs run.old ls its.answers run.texts run.new) (sym (append-nil (invert_lines all))) its.runs in
    let g = runs_go all all [] run.old run.old run.new its.answers run.texts (small run) runs (its.on granted) (start_made run) in
    let done = all_made all run.old run.new
    (subst (λ (m : Machine). Goes all [] run.old m) (sym (nothing_left g.mid run.new g.answers run.texts g.runs)) g.made) in
    (all_after run run.new done, done)

pub run_stops : (run : RunOf patch_text) → AllByRecursion (λ a. MayStop a.reply) run.answers × (run.texts ≡ [])
run_stops run =
    let its = its_run MayStop tt run in
    let stop = runs_stop (stretches_between run.before run.after) 0 run.old run.new its.answers run.texts (short run) (are_stretches run).0
    (are_stretches run).1 its.runs in
    (its.back stop.0, stop.1)

-- the run of the lines after the comment, with the line that writes
pub write_its : (P : Reply → Type 0) → P Silent → (run : RunOf patch_and_write)
    → AfterNote P run.old (invert_lines (stretches_between run.before run.after) ++ (codes "write" ∷ [])) run.answers run.texts run.new
write_its P is_silent run =
    let all = stretches_between run.before run.after in
    let m = run.before.micros in let n = run.after.micros in
    let lines = ap script_lines (append_assoc (length_note m n) (script_of all) (codes "write\n"))
    ∙ script_lines-note m n (script_of all ++ codes "write\n") run.is_before.short run.is_after.short
    ∙ ap (λ (ls : List (List ℕ)). note_lines m n ++ ls) (script_lines-more all (codes "write\n") (small run)) in
    after_note P is_silent m n (invert_lines all ++ (codes "write" ∷ [])) run.old run.new run.answers run.texts run.is_before.short run.is_after.short
    (subst (λ (ls : List (List ℕ)). Runs run.old ls run.answers run.texts run.new) lines run.runs)

-- if its lines are granted
pub run_writes_by : (run : RunOf patch_and_write) (answers : List Answer)
    → Runs run.old (invert_lines (stretches_between run.before run.after) ++ (codes "write" ∷ [])) answers run.texts run.new → AreGranted answers
    → run.texts ≡ file_text (made_of run.before run.after) ∷ []
run_writes_by run answers runs granted =
    let all = stretches_between run.before run.after in
    let g = runs_go all all (codes "write" ∷ []) run.old run.old run.new answers run.texts (small run) runs granted (start_made run) in
    write_runs g.mid run.new g.answers run.texts g.runs g.granted ∙ ap (λ r. file_text r ∷ []) (all_after run g.mid (all_made all run.old g.mid g.made))

pub run_writes : (run : RunOf patch_and_write) → AreGranted run.answers → run.texts ≡ file_text (made_of run.before run.after) ∷ []
run_writes run granted = (let its = write_its IsGranted tt run in run_writes_by run its.answers its.runs (its.on granted))

pub as_long : (before after : RecordingView) → IsRecording after.micros after.edges → before.micros ≡ after.micros
    → (made_of before after ≡ after) × UpTo before.micros after.edges
as_long before after is same = (ap (λ n. recording_view n after.edges) same, subst (λ n. UpTo n after.edges) (sym same) is.within)
