use Rattle.std.proofs.Common.{◌≡◌, ◌++◌, ℕ, List, [], ◌∷◌, codes, length, map, reverse, ap, ap₂, sym, ◌∙◌, append_assoc}
use Rattle.std.proofs.lemmas.List.{length-map, length-reverse}
use Rattle.irig_journal.specs.{History.Step, Journal.told}
use Rattle.irig_saved.specs.SavedText.{counted_lines, head_lines, steps_lines}
use Rattle.irig_saved.specs.{Lines.numbered, Lines.text_of, declared.step.SavedStep.SavedStep, declared.change.Change.Change}
use Rattle.irig_recording.specs.FileText.{file_text}
use Rattle.irig_edit.specs.{Changes.Held.delta_of, Changes.Held.deltas_of, Saved.Saved.saved_step, Saved.SavedSession.saved_text, Session.Session.SessionView}
use Rattle.irig_edit.specs.{Session.Session.work_in, Session.Work.work_at, State.State.recording_of}
use Rattle.irig_edit.proofs.{StateLemmas.Reversed.map-reverse, SavedLemmas.SavedSections.saved_text-parts, SavedLemmas.SavedSections.section}
use Rattle.irig_edit.proofs.session.session.Session.saved_parts.Goals as goal

pub returns : goal.returns
returns c =
    let s = c.self.inside in
    let t = s.present.state in
    let w = work_at t s.cursor s.journal in
    let body = file_text (recording_of t) in
    let head = head_lines t.format.kind t.format.expression s.cursor t.marks in
    let turned_over : deltas_of (reverse s.journal.past) ≡ reverse w.past = map-reverse (told delta_of) s.journal.past in
    let ps = map saved_step (deltas_of (reverse s.journal.past)) in
    let fs = map saved_step w.future in
    let past : ps ≡ reverse (map saved_step w.past) = ap (map saved_step) turned_over ∙ map-reverse saved_step w.past in
    let p : ℕ → List ℕ = λ n. numbered (codes "past") (n ∷ []) in
    let f : ℕ → List ℕ = λ n. numbered (codes "future") (n ∷ []) in
    let count : length w.past ≡ length ps =
    sym (ap (λ (l : List (Step Change)). length (map saved_step l)) turned_over ∙ length-map (reverse w.past) saved_step ∙ length-reverse w.past) in
    let number : length w.future ≡ length fs = sym (length-map w.future saved_step) in
    let joined = section body (codes "$comment\n") (codes "$end\n") (p (length w.past)) (f (length w.future)) head (steps_lines ps) (steps_lines fs) in
    let on = counted_lines (codes "future") fs in
    let whole : List (List ℕ) → List ℕ = λ ls. body ++ (codes "$comment\n" ++ (text_of ls ++ codes "$end\n")) in
    let counted = ap₂ (λ (n k : ℕ). whole (head ++ ((p n ∷ steps_lines ps) ++ (f k ∷ steps_lines fs)))) count number in
    let kept = ap (λ (xs : List SavedStep). whole (head ++ (counted_lines (codes "past") xs ++ on))) past in
    let order = append_assoc head (counted_lines (codes "past") (reverse (map saved_step w.past))) on in
    c.new.ensures ∙ (joined ∙ (counted ∙ (kept ∙ (ap whole (sym order) ∙ (sym (saved_text-parts w)
    ∙ ap (λ (v : SessionView). saved_text (work_in v)) c.self.view_is)))))
