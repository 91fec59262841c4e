-- What a run leaves, and what is written of it, if the text of the session was kept before it.
use Rattle.std.proofs.Common.{◌≡◌, ◌==◌, ◌≢◌, ◌≤◌, ℕ, Bool, true, false, List, [], ◌∷◌, Option, Some, None, length, refl, ap, sym, ◌∙◌, inl, inr, arith}
use Rattle.std.specs.Prelude.{IfSome, if◌then◌else◌}
use Rattle.std.proofs.lemmas.Bool.Decides.{nat_tests}
use Rattle.irig_recording.specs.FileText.{file_text}
use Rattle.irig_edit.specs.{Saved.SavedSession.saved_text, Session.Session.work_in, Session.Work.Work, State.State.State, State.State.recording_of}
use Rattle.irig_script.specs.{Obey.Machine.Machine, Obey.Replies.dump_text}
use Rattle.irig_guarding.specs.{GuardedRun.product_texts, KeptText.IsKept, KeptText.texts_or, Repair.Agrees, Undone.IsSameOrMade, Undone.RedoesNoMore}
use Rattle.irig_guarding.specs.declared.product.Product.{Product}
use Rattle.irig_guarding.specs.declared.product.Product.TheVariants as product
use Rattle.irig_guarding.specs.{Agreeing.AgreesAfter, Fillings.Fills, Guarded.IsGuarded, GuardedRun.Guards, Reading.original_of, ScriptLength.script_limit, Trials.IsTried}
use Rattle.irig_safety.specs.Terms.{TermsView}
use Rattle.irig_script.specs.declared.obey.status.Status.{Status}
use Rattle.irig_guarding.proofs.RedoLemmas.{same_work, unkept_same}

-- a run that came to its end
abbrev pub run_of : (terms : TermsView) (first last : Machine) (script : Option (List ℕ)) (proposal printed : List ℕ) (status : Status) (filled : ℕ)
    → IfSome script (λ all. proposal ≡ all) → length proposal ≤ script_limit → IsGuarded terms first printed last
    → IsTried terms first proposal printed status last
    → Fills (original_of terms first.state) last.state filled → AgreesAfter terms first.state last.state → Guards terms first script
run_of terms first last script proposal printed status filled whole short guarded tried fillings agrees = record {
  proposal = proposal;
  whole = whole;
  short = short;
  printed = printed;
  last = last;
  guarded = guarded;
  status = status;
  tried = tried;
  filled = filled;
  fillings = fillings;
  unkept = λ none.
      unkept_same (original_of terms first.state) first tried.start guarded.left last tried.trials tried.begun tried.tried guarded.same guarded.made none;
  agrees = agrees;
}

are_same : (m n : ℕ) → m ≡ n → (m == n) ≡ true
are_same m n e = grind (arith, nat_tests)

are_apart : (m n : ℕ) → m ≢ n → (m == n) ≡ false
are_apart m n e = grind (arith, nat_tests)

-- a text that was kept is written only instead of a session
nothing_or : (kept : Option (List ℕ)) (m : Machine) → texts_or kept product.Nothing m ≡ []
nothing_or None m = refl
nothing_or (Some text) m = refl

track_or : (kept : Option (List ℕ)) (m : Machine) → texts_or kept product.Track m ≡ dump_text m ∷ []
track_or None m = refl
track_or (Some text) m = refl

none_or : (b : Bool) (m : Machine) → texts_or (if b then None else None) product.Session m ≡ saved_text (work_in m) ∷ []
none_or true m = refl
none_or false m = refl

-- with nothing to redo
same_text : (left now : Machine) → Agrees left now → RedoesNoMore left now → left.future ≡ [] → saved_text (work_in now) ∷ [] ≡ saved_text (work_in left) ∷ []
same_text left now same redo none = ap (λ (w : Work). saved_text w ∷ []) (sym (same_work left now same (none ∙ sym (still redo))))
  where
    still : RedoesNoMore left now → now.future ≡ []
    still (inl e) = e ∙ none
    still (inr e) = e

-- what is written is what the printed script leaves
pub written : (asked : Product) (first left now : Machine) (kept : Option (List ℕ)) → IsKept asked first kept → Agrees left now → RedoesNoMore left now
    → IsSameOrMade first left → texts_or (if length now.past == length first.past then kept else None) asked now ≡ product_texts asked left
written product.Nothing first left now kept is same redo made = nothing_or (if length now.past == length first.past then kept else None) now
written product.Track first left now kept is same redo made =
    track_or (if length now.past == length first.past then kept else None) now ∙ ap (λ (s : State). file_text (recording_of s) ∷ []) (sym same.state)
written product.Session first left now kept is same redo (inr made) =
    let as_long : length left.past ≡ length now.past = ap length same.past in
    let more = made.0 in
    rw (are_apart (length now.past) (length first.past) (λ e. omega (arith, e, as_long, more))) (same_text left now same redo made.1)
written product.Session first left now None is same redo (inl e) =
    none_or (length now.past == length first.past) now ∙ same_text left now same redo (ap (λ (w : Work). w.future) e ∙ is)
written product.Session first left now (Some text) is same redo (inl e) =
    let as_long : length now.past ≡ length first.past = ap length (sym same.past ∙ ap (λ (w : Work). w.past) e) in
    rw (are_same (length now.past) (length first.past) as_long) (ap (λ t. t ∷ []) (is ∙ ap saved_text (sym e)))
