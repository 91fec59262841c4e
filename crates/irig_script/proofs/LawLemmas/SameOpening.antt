-- A dump opens as one session, but for the looks that it has counted.
use Rattle.std.proofs.Common.{◌≡◌, ℕ, List, [], Option, Some, None, reverse, ◌++◌, inl, inr, sym, ap, ◌∙◌}
use Rattle.std.specs.Prelude.{Result, Ok}
use Rattle.irig_codes.specs.Format.{FormatView}
use Rattle.irig_saved.proofs.Unique.{same_saved}
use Rattle.irig_saved.specs.{SavedText.journal_text, declared.saved.Saved.Saved}
use Rattle.irig_track.proofs.Sets.{edges_of-inj}
use Rattle.irig_recording.specs.Recording.{RecordingView}
use Rattle.irig_vcd.specs.declared.fault.VcdFault.{VcdFault}
use Rattle.irig_edit.specs.Opened.Openings.{IsOpened, IsStart, IsTextOf}
use Rattle.irig_edit.specs.{Opened.Opened.IsAccepted, Opened.Opened.state_of, Session.Session.started_work, Session.Session.work_in, Session.Work.Work}
use Rattle.irig_edit.specs.{State.State.State, State.State.recording_of, State.State.state, Opened.Taken.steps_of}
use Rattle.irig_script.specs.Obey.Machine.{Machine}

-- the parts of a dump
abbrev Parts : Type 0
Parts = RecordingView × Option (List ℕ)

parts_one : (p q : Parts) (d : Result Parts VcdFault) → d ≡ Ok p → d ≡ Ok q → p ≡ q
parts_one p q d g h =
    let both : Ok p ≡ Ok q = sym g ∙ h in
    cc

recording_one : (r q : RecordingView) (j k : Option (List ℕ)) (d : Result Parts VcdFault) → d ≡ Ok (r, j) → d ≡ Ok (q, k) → r ≡ q
recording_one r q j k d g h = ap (λ (p : Parts). p.0) (parts_one (r, j) (q, k) d g h)

journal_one : (r q : RecordingView) (j k : Option (List ℕ)) (d : Result Parts VcdFault) → d ≡ Ok (r, j) → d ≡ Ok (q, k) → j ≡ k
journal_one r q j k d g h = ap (λ (p : Parts). p.1) (parts_one (r, j) (q, k) d g h)

text_one : (t u : List ℕ) → Some t ≡ Some u → t ≡ u
text_one t u e = cc

saved_one : (t u : List ℕ) (x y : Saved) → t ≡ u → IsTextOf t x → IsTextOf u y → x ≡ y
unfolding journal_text
saved_one t u x y e h k =
    let whole : journal_text x ≡ journal_text y = sym h.same ∙ e ∙ k.same in
    (same_saved x y [] [] h.ranges k.ranges (ap (λ (l : List ℕ). l ++ []) whole)).value

-- the session of a recording, and of a journal
start_one : (r q : RecordingView) (f : FormatView) (v w : Machine) → r ≡ q → IsStart r f v → IsStart q f w → work_in v ≡ work_in w
start_one r q f v w e h k =
    let same : recording_of v.state ≡ recording_of w.state = h.recording ∙ e ∙ sym k.recording in
    let micros : v.state.micros ≡ w.state.micros = ap (λ (x : RecordingView). x.micros) same in
    let pulses : v.state.pulses ≡ w.state.pulses =
    edges_of-inj v.state.pulses w.state.pulses (ap (λ (x : RecordingView). x.edges) same) in
    let format : v.state.format ≡ w.state.format = h.format ∙ sym k.format in
    let marks : v.state.marks ≡ w.state.marks = h.marks ∙ sym k.marks in
    let states : v.state ≡ w.state = λ i. state (micros i) (pulses i) (format i) (marks i) in
    ap work_in h.start ∙ ap started_work states ∙ sym (ap work_in k.start)

abbrev accepted : State → Saved → Work
accepted s saved = record {
  state = s;
  cursor = saved.cursor;
  past = steps_of (reverse saved.past);
  future = steps_of saved.future;
  floor = None;
}

accepted_one : (r q : RecordingView) (x y : Saved) (v w : Machine) → r ≡ q → x ≡ y → IsAccepted (state_of r x) x v → IsAccepted (state_of q y) y w
    → work_in v ≡ work_in w
accepted_one r q x y v w e f h k =
    let states : state_of r x ≡ state_of q y = λ i. state_of (e i) (f i) in
    ap work_in h.session ∙ (λ i. accepted (states i) (f i)) ∙ sym (ap work_in k.session)

pub opened_one : (wire : Option (List ℕ)) (source : List ℕ) (f : FormatView) (v w : Machine) → IsOpened wire source f v → IsOpened wire source f w
    → work_in v ≡ work_in w
opened_one wire source f v w (inl h) (inl k) =
    start_one h.0 k.0 f v w (recording_one h.0 k.0 None None _ h.1 k.1) h.2 k.2
opened_one wire source f v w (inl h) (inr k) =
    let none : None ≡ Some k.1.0 = journal_one h.0 k.0 None (Some k.1.0) _ h.1 k.1.1.1 in
    absurd (cc)
opened_one wire source f v w (inr h) (inl k) =
    let none : Some h.1.0 ≡ None = journal_one h.0 k.0 (Some h.1.0) None _ h.1.1.1 k.1 in
    absurd (cc)
opened_one wire source f v w (inr h) (inr k) =
    let recordings = recording_one h.0 k.0 _ _ _ h.1.1.1 k.1.1.1 in
    let texts = text_one h.1.0 k.1.0 (journal_one h.0 k.0 _ _ _ h.1.1.1 k.1.1.1) in
    let saves = saved_one h.1.0 k.1.0 h.1.1.0 k.1.1.0 texts h.1.1.2 k.1.1.2 in
    accepted_one h.0 k.0 h.1.1.0 k.1.1.0 v w recordings saves h.1.1.3 k.1.1.3
