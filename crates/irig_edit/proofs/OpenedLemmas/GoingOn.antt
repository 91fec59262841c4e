-- What a session is saved as, opened again.
use Rattle.std.proofs.Common.{◌≡◌, ◌≤◌, ◌<◌, ◌+◌, ◌^◌, ◌++◌, ℕ, suc, zero, false, List, [], ◌∷◌, Option, Some, None, Result, Ok, length, map, take, reverse}
use Rattle.std.proofs.Common.{nat_lt, codes, inl, inr, refl, ap, sym, ◌∙◌, subst, arith}
use Rattle.std.specs.List.{AllByRecursion}
use Rattle.std.proofs.lemmas.{Bool.Decides.nat_tests, List.length-append, List.reverse-append, List.reverse-reverse, List.take-map}
use Rattle.irig_codes.specs.Format.{FormatView}
use Rattle.irig_journal.specs.History.{Step}
use Rattle.irig_saved.specs.{Faults.IsFault, Ranges.IsSaved, SavedText.journal_text, declared.saved.Saved.Saved, declared.step.SavedStep.SavedStep}
use Rattle.irig_saved.specs.{Numbers.NumbersOfStep, declared.change.Change.Change}
use Rattle.irig_saved.proofs.JournalTexts.{journal_is_text, section_is_comment}
use Rattle.irig_saved.proofs.{Counts.saved_of_parts, FaultFacts.journal_not_at_fault, Rows.all-append, Unique.same_journal}
use Rattle.irig_track.proofs.Recordings as track
use Rattle.irig_vcd.specs.{Answer.IsFaultOf, Parts.dump_parts, declared.fault.VcdFault.VcdFault}
use Rattle.irig_recording.specs.{FileText.file_text, Comments.comment_text, Recording.RecordingView}
use Rattle.irig_vcd.specs.declared.fault.VcdFault.TheVariants as fault
use Rattle.irig_vcd.proofs.WrittenJournal.{journal_back}
use Rattle.irig_edit.specs.Opened.Opened.{IsAccepted, IsLineAtFault, head_fault, mark_beyond, state_of}
use Rattle.irig_edit.specs.Opened.Openings.{IsBad, IsJournalFault, IsOpened, IsTextOf, IsUnopened}
use Rattle.irig_edit.specs.State.State.{IsMark, IsState, State, recording_of, state}
use Rattle.irig_edit.specs.{Changes.Delta.turned, Changes.Laws.Edges.pulses_of-edges_of, Session.Limits.IsWork, Saved.Saved.saved_step}
use Rattle.irig_edit.specs.{Saved.SavedSession.saved_of, Saved.SavedSession.saved_text, Session.Session.SessionView, Session.Session.work_in, Session.Work.Work}
use Rattle.irig_edit.specs.{Session.Work.with_floor, Opened.Taken.CanTakeAll, Opened.Taken.StopsAfter, Opened.Taken.steps_of, Changes.Laws.Delta.IsState-turned}
use Rattle.irig_edit.proofs.OpenedLemmas.Heads.{head_marks}
use Rattle.irig_edit.proofs.SavedLemmas.Numbers.{change_small, digit_permitted, times_small}

-- saved steps are the steps that were saved
steps_of-saved : (ds : List (Step Change)) → steps_of (map saved_step ds) ≡ ds
steps_of-saved [] = refl
steps_of-saved (d ∷ ds) = ap (λ (l : List (Step Change)). d ∷ l) (steps_of-saved ds)

-- what holds of each of a list holds of each in the opposite order
all-reverse : {X : Type 0} (P : X → Type 0) (xs : List X) → AllByRecursion P xs → AllByRecursion P (reverse xs)
all-reverse P [] all = tt
all-reverse P (x ∷ xs) all =
    subst (AllByRecursion P) (sym (reverse-append (x ∷ []) xs)) (all-append P (reverse xs) (x ∷ []) (all-reverse P xs all.1) (all.0, tt))

-- if steps can be taken, so can the first of them
first_taken : (s : State) (ds : List (Step Change)) (n : ℕ) → CanTakeAll s ds → CanTakeAll s (take n ds)
first_taken s [] zero can = tt
first_taken s [] (suc n) can = tt
first_taken s (d ∷ ds) zero can = tt
first_taken s (d ∷ ds) (suc n) can = (can.0, first_taken (turned s d.change).0 ds n can.1)

-- the numbers of steps that can be taken
steps_small : (s : State) (ds : List (Step Change)) → IsState s → CanTakeAll s ds → AllByRecursion NumbersOfStep (map saved_step ds)
steps_small s [] is can = tt
steps_small s (d ∷ ds) is can =
    let there = IsState-turned s d.change is can.0.fits in (
      (omega (arith, there.track.few, can.0.cursor), change_small s d.change is can.0.fits),
      steps_small (turned s d.change).0 ds there can.1,
    )

-- nowhere it stops
never_stops : (s : State) (ds : List (Step Change)) (saves : List SavedStep) (n : ℕ) → saves ≡ map saved_step ds → CanTakeAll s ds
    → StopsAfter s saves n → ⊥
never_stops s ds saves n named can stops =
    let these : steps_of (take (n + 1) saves) ≡ take (n + 1) ds =
    ap (λ (l : List SavedStep). steps_of (take (n + 1) l)) named
    ∙ (ap steps_of (take-map saved_step (n + 1) ds) ∙ steps_of-saved (take (n + 1) ds)) in
    stops.refused (subst (λ (l : List (Step Change)). CanTakeAll s l) (sym these) (first_taken s ds (n + 1) can))

-- no mark within a length is beyond it
none_beyond : (micros line : ℕ) (marks : List (Option ℕ)) → AllByRecursion (IsMark micros) marks → mark_beyond micros line marks ≡ None
none_beyond micros line [] all = refl
none_beyond micros line (None ∷ marks) all = none_beyond micros line marks all.1
none_beyond micros line (Some t ∷ marks) all =
    let past : nat_lt micros t ≡ false = grind (arith, nat_tests, all.0) in
    rw past (none_beyond micros (line + 1) marks all.1)

-- what was read has no fault, but memory may run out
only_memory : {Y : Type 0} (e : VcdFault) (read : Result Y VcdFault) (y : Y) → read ≡ Ok y → IsFaultOf e read → e ≡ fault.OutOfMemory
only_memory fault.OutOfMemory read y is told = refl
only_memory fault.Unclosed read y is told = absurd (cc)
only_memory fault.NoTimescale read y is told = absurd (cc)
only_memory fault.BadTimescale read y is told = absurd (cc)
only_memory fault.BadVar read y is told = absurd (cc)
only_memory fault.NoSuchWire read y is told = absurd (cc)
only_memory fault.ManyWires read y is told = absurd (cc)
only_memory fault.NotOneBit read y is told = absurd (cc)
only_memory fault.NoEndDefinitions read y is told = absurd (cc)
only_memory (fault.BadToken n) read y is told = absurd (cc)
only_memory (fault.Backward n) read y is told = absurd (cc)
only_memory (fault.TimeTooLarge n) read y is told = absurd (cc)
only_memory fault.TooManyPulses read y is told = absurd (cc)
only_memory (fault.BadJournal n) read y is told = absurd (cc)

-- nor has a journal without a line at fault
not_bad : (P : ℕ → Type 0) (e : VcdFault) → ((n : ℕ) → P n → ⊥) → IsBad P e → e ≡ fault.OutOfMemory
not_bad P fault.OutOfMemory none bad = refl
not_bad P (fault.BadJournal n) none bad = absurd (none n bad)
not_bad P e none bad = absurd bad

-- what was read determines its parts
same_parts : {R T E : Type 0} (read : Result (R × Option T) E) (r s : R) (t u : T)
    → read ≡ Ok (r, Some t) → read ≡ Ok (s, Some u) → (r ≡ s) × (t ≡ u)
same_parts {R} {T} read r s t u told other =
    let both : (r, Some t) ≡ (s, Some u) = cc in
    let journal : Some t ≡ Some u = ap (λ (p : R × Option T). p.1) both in
    let text : t ≡ u = cc in (ap (λ (p : R × Option T). p.0) both, text)

one_journal : {R T E : Type 0} (read : Result (R × Option T) E) (r s : R) (t : T)
    → read ≡ Ok (r, Some t) → read ≡ Ok (s, None) → ⊥
one_journal {R} {T} read r s t told none =
    let both : (r, Some t) ≡ (s, None) = cc in
    let bad : Some t ≡ None = ap (λ (p : R × Option T). p.1) both in cc

-- a session, whose text is short
module _ (w : Work) (is : IsWork w) (short : length (saved_text w) ≤ 2 ^ 28) where
  abbrev saved : Saved
  saved = saved_of w

  abbrev recorded : RecordingView
  recorded = recording_of w.state

  -- its parts
  text_parts : saved_text w ≡ file_text recorded ++ comment_text (journal_text saved)
  unfolding saved_text
  text_parts = ap (λ (l : List ℕ). file_text recorded ++ l) (section_is_comment saved)

  text_long : length (journal_text saved) < 2 ^ 64
  text_long = omega (
    arith,
    short,
    ap length text_parts,
    length-append (file_text recorded) (comment_text (journal_text saved)),
    length-append (codes "$comment\n") (journal_text saved ++ codes "$end\n"),
    length-append (journal_text saved) (codes "$end\n"),
  )

  -- its journal can be saved
  pub is_saved : IsSaved saved
  is_saved = saved_of_parts saved text_long
      (digit_permitted w.state.format.kind w.state.format.expression is.state.permitted)
      (omega (arith, is.cursor, is.state.track.few))
      is.state.letters
      (times_small w.state.micros w.state.marks is.state.track.short is.state.marks)
      (all-reverse NumbersOfStep (map saved_step w.past) (steps_small w.state w.past is.state is.past))
      (steps_small w.state w.future is.state is.future)

  -- and its text says both
  parts : dump_parts None (saved_text w) ≡ Ok (recorded, Some (journal_text saved))
  parts = ap (dump_parts None) text_parts
      ∙ journal_back recorded (journal_text saved) (track.recording_of w.state.micros w.state.pulses is.state.track) (journal_is_text saved is_saved)

  -- the state that they make
  state_is : state_of recorded saved ≡ w.state
  state_is = λ k. state w.state.micros (pulses_of-edges_of w.state.pulses k) w.state.format w.state.marks

  -- what is read of it
  text_is : (r : RecordingView) (text : List ℕ) → dump_parts None (saved_text w) ≡ Ok (r, Some text)
      → (r ≡ recorded) × (text ≡ journal_text saved)
  text_is r text read = same_parts (dump_parts None (saved_text w)) r recorded text (journal_text saved) read parts

  -- its journal
  journal_is : (text : List ℕ) (other : Saved) → text ≡ journal_text saved → IsTextOf text other → other ≡ saved
  journal_is text other same told = same_journal other saved told.ranges is_saved (sym told.same ∙ same)

  -- the session that it makes
  accepted : (v : SessionView) → IsAccepted (state_of recorded saved) saved v → work_in v ≡ with_floor None w
  accepted v made =
      let past : steps_of (reverse saved.past) ≡ w.past =
      ap steps_of (reverse-reverse (map saved_step w.past)) ∙ steps_of-saved w.past in
      let future : steps_of saved.future ≡ w.future = steps_of-saved w.future in
      ap work_in made.session
      ∙ (λ k. record { state = state_is k; cursor = w.cursor; past = past k; future = future k; floor = None })

  pub goes_on : (format : FormatView) (v : SessionView) → IsOpened None (saved_text w) format v → work_in v ≡ with_floor None w
  goes_on format v (inl (r, read, start)) = absurd (one_journal (dump_parts None (saved_text w)) recorded r (journal_text saved) parts read)
  goes_on format v (inr (r, (text, (other, read, told, made)))) =
      let same = text_is r text read in
      let journal = journal_is text other same.1 told in
      accepted v (subst (λ (x : Saved). IsAccepted (state_of recorded x) x v) journal
      (subst (λ (x : RecordingView). IsAccepted (state_of x other) other v) same.0 made))

  -- no line is at fault
  head_is : head_fault (state_of recorded saved) saved ≡ None
  head_is = head_marks (state_of recorded saved) saved is.state.permitted
      (subst (λ (x : State). w.cursor ≤ length x.pulses) (sym state_is) is.cursor)
      ∙ none_beyond w.state.micros 4 w.state.marks is.state.marks

  no_line : (n : ℕ) → IsLineAtFault (state_of recorded saved) saved n → ⊥
  no_line n (inl head) = let bad : None ≡ Some n = sym head_is ∙ head in cc
  no_line n (inr (head, inl (count, stops))) =
      never_stops (state_of recorded saved) w.past (reverse saved.past) count (reverse-reverse (map saved_step w.past))
      (subst (λ (x : State). CanTakeAll x w.past) (sym state_is) is.past) stops.0
  no_line n (inr (head, inr (taken, (count, stops)))) =
      never_stops (state_of recorded saved) w.future saved.future count refl
      (subst (λ (x : State). CanTakeAll x w.future) (sym state_is) is.future) stops.0

  no_fault : (r : RecordingView) (text : List ℕ) (n : ℕ) → r ≡ recorded → text ≡ journal_text saved → IsJournalFault r text n → ⊥
  no_fault r text n same_r same (inl form) = journal_not_at_fault saved is_saved n (subst (IsFault n) same form)
  no_fault r text n same_r same (inr (other, told, line)) =
      no_line n (subst (λ (x : Saved). IsLineAtFault (state_of recorded x) x n) (journal_is text other same told)
      (subst (λ (x : RecordingView). IsLineAtFault (state_of x other) other n) same_r line))

  pub always_opened : (e : VcdFault) → IsUnopened None (saved_text w) e → e ≡ fault.OutOfMemory
  always_opened e (inl told) = only_memory e (dump_parts None (saved_text w)) (recorded, Some (journal_text saved)) parts told
  always_opened e (inr (r, (text, told))) =
      let same = text_is r text told.0 in
      not_bad (IsJournalFault r text) e (λ n. no_fault r text n same.0 same.1) told.1
