-- The records of frames.
use Rattle.std.proofs.Common.{◌≡◌, ◌+◌, ◌-◌, ◌<◌, ℕ, List, Some, length, get_or, slice_get, ap, ◌∙◌, subst, arith}
use Rattle.std.proofs.lemmas.{List.Elements.Contains-get_or, Option.get_or_from_slice_get, Option.slice_get-get_or, Option.slice_get_within}
use Rattle.irig_index.specs.{declared.record.Record.Record, declared.record.Cause.TheVariants.Ended, declared.record.Verdict.TheVariants.Broken}
use Rattle.irig_index.proofs.MarkerLaws.{frames_are_the_markers}
use Rattle.irig_edit.specs.State.State.{State, frames_of}
use Rattle.irig_script.specs.Print.Printed.{record_line}

-- the marker of a frame is a pulse of the track
pub marker_within : (s : State) (k : ℕ) (r : Record) → slice_get (frames_of s) k ≡ Some r → r.marker < length s.pulses
marker_within s k r e =
    let within = slice_get_within (frames_of s) k r e in
    let there = Contains-get_or (frames_of s) k r within in
    let same : get_or (frames_of s) k r ≡ r = get_or_from_slice_get (frames_of s) k r r e in
    let tells = (frames_are_the_markers s.format s.pulses (get_or (frames_of s) k r)).0 there in
    let below = slice_get_within s.pulses (get_or (frames_of s) k r).marker tells.marker tells.stands in
    subst (λ (q : Record). q.marker < length s.pulses) same below

-- some record, for places without one
abbrev pub no_record : Record
no_record = record { marker = 0; verdict = Broken 0 Ended }

-- the line of frame k + 1 is the next one
pub frame_listed : (s : State) (k : ℕ) (line row : List ℕ) → k < length (frames_of s) → line ≡ row
    → ((r : Record) → slice_get (frames_of s) (k + 1 - 1) ≡ Some r → row ≡ record_line s (k + 1) r)
    → line ≡ record_line s (1 + k) (get_or (frames_of s) k no_record)
frame_listed s k line row h same is =
    let r = get_or (frames_of s) k no_record in
    let place : k + 1 - 1 ≡ k = omega arith in
    let number : k + 1 ≡ 1 + k = omega arith in
    same ∙ is r (ap (slice_get (frames_of s)) place ∙ slice_get-get_or (frames_of s) k no_record h) ∙ ap (λ n. record_line s n r) number
