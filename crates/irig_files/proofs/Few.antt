-- How many edges the recording of a dump has at most.
use Rattle.std.proofs.Common.{◌≡◌, ◌≤◌, ◌*◌, ℕ, List, Option, Result, Ok, Err, length, refl, inl, inr, subst}
use Rattle.std.specs.Global.{Vec}
use Rattle.std.specs.Prelude.{IfOk}
use Rattle.std.proofs.lemmas.{Bool.cases_lt, Bool.le-ltb, Bool.lt-ltb}
use Rattle.irig_vcd.specs.Dump.{changes_of, journals_of, recorded_up_to}
use Rattle.irig_vcd.specs.Extent.{most_pulses}
use Rattle.irig_vcd.specs.Level.{Change, edges_up_to}
use Rattle.irig_vcd.specs.Window.{extent_dump, extent_parts, moved, within}
use Rattle.irig_vcd.specs.{Answer.◌>>=◌, Parts.one_journal, declared.extent.Extent.Extent, declared.fault.VcdFault.VcdFault}
use Rattle.irig_recording.specs.Recording.{RecordingView, recording_view}
use Rattle.irig_files.specs.Reads.{IsReadBy, parts_of}

-- what two steps give, the first one gives before
first_of : {A B : Type 0} (read : Result A VcdFault) (next : A → Result B VcdFault) (y : B) → (read >>= next) ≡ Ok y
    → (x : A) × (read ≡ Ok x) × (next x ≡ Ok y)
first_of (Ok x) next y h = (x, refl, h)
first_of (Err e) next y h = absurd (cc h)

few_recorded : (most : ℕ) (cs : List Change) (end : ℕ) (r : RecordingView) → recorded_up_to most cs end ≡ Ok r → length r.edges ≤ 2 * most
few_recorded most cs end r h = elim (cases_lt (2 * most) (length (edges_up_to cs end))) [
  | inl more ↦ absurd (let bad = rw (lt-ltb (2 * most) (length (edges_up_to cs end)) more) at h in cc)
  | inr few ↦
      let made = rw (le-ltb (2 * most) (length (edges_up_to cs end)) few) at h in
      let is : recording_view end (edges_up_to cs end) ≡ r = cc made in
      subst (λ (x : RecordingView). length x.edges ≤ 2 * most) is few
]

few_kept : (extent : Extent) (wire : Option (List ℕ)) (bytes : List ℕ) (r : RecordingView) → extent_dump extent wire bytes ≡ Ok r
    → length r.edges ≤ 2 * most_pulses extent
unfolding extent_dump
few_kept extent wire bytes r h =
    let read = first_of (changes_of wire bytes) _ r h in
    few_recorded (most_pulses extent) (within extent.window read.0.0) (moved extent.window read.0.1) r read.2

few_parts : (extent : Extent) (wire : Option (List ℕ)) (bytes : List ℕ) (x : RecordingView × Option (List ℕ)) → extent_parts extent wire bytes ≡ Ok x
    → length x.0.edges ≤ 2 * most_pulses extent
unfolding extent_parts
few_parts extent wire bytes x h =
    let read = first_of (extent_dump extent wire bytes) _ x h in
    let journal = first_of (one_journal (journals_of wire bytes)) _ x read.2 in
    let is : (read.0, journal.0) ≡ x = let made = journal.2 in cc made in
    subst (λ (y : RecordingView × Option (List ℕ)). length y.0.edges ≤ 2 * most_pulses extent) is (few_kept extent wire bytes read.0 read.1)

-- what is read has few
pub few_read : (extent : Extent) (known wire : Option (List ℕ)) (read : Result (RecordingView × Option (Vec ℕ)) VcdFault) → IsReadBy extent known wire read
    → IfOk read (λ x. length x.0.edges ≤ 2 * most_pulses extent)
few_read extent known wire (Ok x) h = few_parts extent wire h.source (parts_of x) h.parts
few_read extent known wire (Err e) h = tt
