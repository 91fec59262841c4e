-- The frames that read well are in rising order.
use Rattle.std.proofs.Common.{◌≢◌, ◌+◌, ◌<◌, ◌++◌, ℕ, zero, suc, List, [], ◌∷◌, None, length, get_or, refl, subst, arith}
use Rattle.std.specs.Prelude.{AllPairs}
use Rattle.std.specs.List.{AllByRecursion, flat_map}
use Rattle.std.proofs.lemmas.Option.{slice_get-get_or}
use Rattle.irig_codes.specs.declared.note.Note.TheVariants.{Fine, Field, SbsDisagrees, Stray}
use Rattle.irig_codes.specs.Format.{FormatView}
use Rattle.irig_recording.specs.{Recording.RisesFrom, declared.pulse.Pulse.Pulse}
use Rattle.irig_track.specs.{Edges.edges_of, Edges.pulse, Track.IsTrack}
use Rattle.irig_index.specs.declared.record.Verdict.TheVariants.{Broken, Read}
use Rattle.irig_index.specs.{declared.record.Record.Record, declared.record.Verdict.Verdict}
use Rattle.irig_index.proofs.MarkerLaws.{markers_rise}
use Rattle.irig_edit.specs.State.State.{State, frames_of}
use Rattle.irig_script.proofs.PrintLemmas.FrameLines.{marker_within}
use Rattle.irig_safety.specs.{Safety.IsSafe, Safety.IsSafeFrom, Meaning.AreRising, declared.shown.Shown.Shown}
use Rattle.irig_safety.specs.{Moved.located, Original.others_of, Terms.OthersView}
use Rattle.irig_guarding.specs.{Meaning.IsKeptAt, Meaning.SafeStatesMean, Reading.fine_frames, Reading.original_of, Reading.shown_at, Reading.shown_by}
use Rattle.irig_guarding.proofs.RisingPulses.{at_least}
use Rattle.irig_safety.proofs.{MeaningLemmas.safe_means, MovedLemmas.located_fields, MovedLemmas.located_some}

-- pulses rise one after the other
ordered : (low : ℕ) (ps : List Pulse) (i j : ℕ) (d : Pulse) → RisesFrom low (edges_of ps) → i < j → j < length ps
    → (get_or ps i d).rise < (get_or ps j d).rise
ordered low [] i j d h less within = absurd (omega arith)
ordered low (p ∷ ps) i zero d h less within = absurd (omega arith)
ordered low (p ∷ ps) zero (suc j) d h less within =
    let more = at_least (p.fall + 1) ps j d h.1.1 (omega arith) in
    omega (arith, h.1.0, more.0)
ordered low (p ∷ ps) (suc i) (suc j) d h less within = ordered (p.fall + 1) ps i j d h.1.1 (omega arith) (omega arith)

all_at : {X : Type 0} (P : X → Type 0) (xs : List X) → ((k : ℕ) (d : X) → k < length xs → P (get_or xs k d)) → AllByRecursion P xs
all_at P [] f = tt
all_at P (x ∷ xs) f = (f 0 x (omega arith), all_at P xs (λ k d h. f (suc k) d (omega arith)))

module _ (ps : List Pulse) (low : ℕ) (rises : RisesFrom low (edges_of ps)) where
  abbrev rise_of : Record → ℕ
  rise_of r = (get_or ps r.marker (pulse 0 0)).rise

  one_after : (rise : ℕ) (v : Verdict) (rest : List Shown) (least : ℕ) → least < rise → AllByRecursion (λ y. least < y.rise) rest
      → AllByRecursion (λ y. least < y.rise) (shown_at rise v ++ rest)
  one_after rise (Read g Fine) rest least less all = (less, all)
  one_after rise (Read g (Field name)) rest least less all = all
  one_after rise (Read g SbsDisagrees) rest least less all = all
  one_after rise (Read g (Stray e)) rest least less all = all
  one_after rise (Broken k cause) rest least less all = all

  all_after : (r : Record) (rs : List Record) → AllByRecursion (λ q. r.marker < q.marker) rs → AllByRecursion (λ q. q.marker < length ps) rs
      → AllByRecursion (λ y. rise_of r < y.rise) (flat_map (shown_by ps) rs)
  all_after r [] later within = tt
  all_after r (q ∷ rs) later within =
      one_after (rise_of q) q.verdict (flat_map (shown_by ps) rs) (rise_of r)
      (ordered low ps r.marker q.marker (pulse 0 0) rises later.0 within.0) (all_after r rs later.1 within.1)

  one_rising : (rise : ℕ) (v : Verdict) (rest : List Shown) → AllByRecursion (λ y. rise < y.rise) rest → AreRising rest → AreRising (shown_at rise v ++ rest)
  one_rising rise (Read g Fine) rest all rising = (all, rising)
  one_rising rise (Read g (Field name)) rest all rising = rising
  one_rising rise (Read g SbsDisagrees) rest all rising = rising
  one_rising rise (Read g (Stray e)) rest all rising = rising
  one_rising rise (Broken k cause) rest all rising = rising

  shown_rising : (rs : List Record) → AllPairs (λ r s. r.marker < s.marker) rs → AllByRecursion (λ q. q.marker < length ps) rs
      → AreRising (flat_map (shown_by ps) rs)
  shown_rising [] pairs within = tt
  shown_rising (r ∷ rs) pairs within =
      let later : AllByRecursion (λ q. r.marker < q.marker) rs =
      all_at (λ q. r.marker < q.marker) rs (λ k d h. pairs 0 (suc k) d (omega arith) (omega arith)) in
      let rest : AllPairs (λ r s. r.marker < s.marker) rs = λ i j d less h. pairs (suc i) (suc j) d (omega arith) (omega arith) in
      one_rising (rise_of r) r.verdict (flat_map (shown_by ps) rs) (all_after r rs later within.1) (shown_rising rs rest within.1)

pub rising_frames : (s : State) → IsTrack s.micros s.pulses → AreRising (fine_frames s)
rising_frames s track =
    let within : AllByRecursion (λ q. q.marker < length s.pulses) (frames_of s) =
    all_at (λ q. q.marker < length s.pulses) (frames_of s) (λ k d h. marker_within s k (get_or (frames_of s) k d) (slice_get-get_or (frames_of s) k d h)) in
    shown_rising s.pulses 0 track.rises (frames_of s) (markers_rise s.format s.pulses) within

-- of frames that are safe by some
from_first : (f : FormatView) (others : OthersView) (old new : List Shown) → old ≢ [] → IsSafe f others old new → IsSafeFrom f others None None old new
from_first f others [] new some h = absurd (some refl)
from_first f others (o ∷ old) new some h = h

pub safe_states : SafeStatesMean
safe_states terms old new track some safe =
    let at = located terms.moved (fine_frames old) (fine_frames new) in
    let others = others_of (original_of terms old) in
    let first = from_first new.format others at (fine_frames new) (λ e. some (located_some terms.moved (fine_frames old) (fine_frames new) e)) safe.safe.0 in
    let means = safe_means new.format others at (fine_frames new) (rising_frames new track) first in
    subst (λ (f : FormatView). IsKeptAt f others (fine_frames old) at (fine_frames new)) safe.format (record {
      fields = located_fields terms.moved (fine_frames old) (fine_frames new);
      kept = means.0;
      told = means.1;
    })
