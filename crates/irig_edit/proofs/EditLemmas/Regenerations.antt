-- Frames instead of the pulses that rise in their time.
use Rattle.std.proofs.Common.{◌≡◌, ◌≤◌, ◌+◌, ◌*◌, ◌^◌, ℕ, suc, false, List, [], ◌∷◌, ◌++◌, length, take, drop, refl, ap, sym, ◌∙◌, subst, arith, length-take-le}
use Rattle.irig_recording.specs.{Recording.RisesFrom, Recording.UpTo, declared.pulse.Pulse.Pulse}
use Rattle.irig_moment.specs.Moment.{MomentView}
use Rattle.irig_track.specs.{Edges.edges_of, Edges.Under, Edges.replaced, Edges.is_edge, Splices.spliced, Splices.piece, Splices.CanSplice, Track.IsTrack}
use Rattle.irig_track.proofs.{Carried.length-spliced, Laws.edges_of-three, Laws.edges_of-parts, Laws.is_edge-spliced, RisingLists.rises_left}
use Rattle.irig_recording.proofs.PulseEdges.{edges_of-append}
use Rattle.irig_edit.specs.Edits.Regenerated.{frames_end, rising_before, rising_in, frame_elements, frames_pulses, index_point}
use Rattle.irig_edit.specs.State.State.{State, IsState, with_pulses}
use Rattle.irig_edit.specs.{Edits.Becoming.Becomes, Session.Calls.Edit.Regen, Edits.Conditions.is_met}
use Rattle.irig_edit.proofs.EditLemmas.GeneratedPulses.{rises_apart, UpTo-under, index_end, index_same, frames_rise, frames_under, frames_many}
use Rattle.irig_edit.proofs.EditLemmas.Replacements.{upto_left, upto_right, upto_joined}
use Rattle.irig_edit.proofs.StateLemmas.Risings.{before_yes, before_end, none_before, piece_in}
use Rattle.irig_edit.proofs.StateLemmas.PulsesAtTimes.{before_under, behind_rises}

-- pulses before a time, and then pulses from it on
pub before_parts : (t : ℕ) (xs ys : List Pulse) → Under t (edges_of xs) → RisesFrom t (edges_of ys)
    → length (rising_before t (xs ++ ys)) ≡ length xs
before_parts t [] ys under rises = ap (λ (qs : List Pulse). length qs) (none_before t t ys (omega arith) rises)
before_parts t (x ∷ xs) ys under rises = rw (before_yes t x (xs ++ ys) under.0) (ap suc (before_parts t xs ys under.1.1 rises))

-- frames instead of the pulses that rise in their time
pub regenerated : (s : State) (start frames : ℕ) (moment : MomentView) (control at count : ℕ) → IsState s
    → frames_end s.format start frames ≤ s.micros → is_met start s ≡ false
    → length s.pulses + 100 * frames ≤ 2 ^ 22 + count
    → at ≡ length (rising_before start s.pulses) → at + count ≡ length (rising_before (frames_end s.format start frames) s.pulses)
    → at + count ≤ length s.pulses
    → CanSplice s.micros at count (frames_pulses s.format start frames moment control) s.pulses
    × Becomes (Regen start frames moment control) s (with_pulses (spliced at count (frames_pulses s.format start frames moment control) s.pulses) s)
    (at + 100 * frames)
regenerated s start frames moment control at count lawful within free few is_at is_end there =
    let ps = s.pulses in
    let end = frames_end s.format start frames in
    let es : ℕ → List _ = frame_elements s.format moment control in
    let put = frames_pulses s.format start frames moment control in
    let before = edges_of (take at ps) in
    let gone = edges_of (piece at count ps) in
    let after = edges_of (drop (at + count) ps) in
    let order : start ≤ end = omega arith in
    let many : length put ≡ 100 * frames = frames_many s.format start es 0 frames in
    let Before : ℕ → Type 0 = λ n. Under start (edges_of (take n ps)) in
    let Behind : ℕ → Type 0 = λ n. RisesFrom end (edges_of (drop n ps)) in
    let under : Under start before = subst Before (sym is_at) (before_under start 0 ps lawful.track.rises free) in
    let over : RisesFrom end after = subst Behind (sym is_end) (behind_rises end 0 ps lawful.track.rises) in
    let first : start ≤ index_point s.format start 0 0 = omega arith in
    let last : index_point s.format start (0 + frames) 0 ≤ end =
    omega (arith, index_same s.format start (0 + frames) 0 frames 0 (omega arith), index_end s.format start frames) in
    let rises : RisesFrom start (edges_of put) = frames_rise s.format start es 0 frames start first in
    let below : Under end (edges_of put) = frames_under s.format start es 0 frames end last in
    let P : List ℕ → Type 0 = λ xs. RisesFrom 0 xs in
    let Q : List ℕ → Type 0 = λ xs. UpTo s.micros xs in
    let parts = edges_of-parts at count ps in
    let is = edges_of-three (take at ps) put (drop (at + count) ps) in
    let old = subst Q parts lawful.track.within in
    let come : RisesFrom start (edges_of put ++ after) = rises_apart start end (edges_of put) after order rises below over in
    let track : IsTrack s.micros (spliced at count put ps) = record {
      short = lawful.track.short;
      few = omega (arith, length-spliced ps put at count there, few, many);
      rises = subst P (sym is) (rises_apart 0 start before (edges_of put ++ after) (omega arith)
          (rises_left 0 before (gone ++ after) (subst P parts lawful.track.rises)) under come);
      within = subst Q (sym is) (upto_joined s.micros before (edges_of put ++ after) (upto_left s.micros before (gone ++ after) old)
          (upto_joined s.micros (edges_of put) after (UpTo-under end s.micros (edges_of put) within below)
          (upto_right s.micros gone after (upto_right s.micros before (gone ++ after) old))));
    } in
    let is_count : count ≡ length (rising_in start end ps) = omega (arith, before_end start end ps order, is_at, is_end) in
    let stretch : piece at count ps ≡ rising_in start end ps =
    (λ j. piece (is_at j) (is_count j) ps) ∙ piece_in start end 0 ps order lawful.track.rises in
    let Rises : List ℕ → Type 0 = λ xs. RisesFrom start xs in
    let behind : RisesFrom start (edges_of (put ++ drop (at + count) ps)) = subst Rises (sym (edges_of-append put (drop (at + count) ps))) come in
    let place : length (rising_before start (spliced at count put ps)) ≡ at =
    before_parts start (take at ps) (put ++ drop (at + count) ps) under behind ∙ length-take-le at ps (omega (arith, there)) in (
      record { there = there; track = track },
      record {
        after = record {
          length = refl;
          track = track;
          edges = λ t. is_edge-spliced t at count put ps lawful.track.rises
              ∙ ap (λ (xs : List Pulse). replaced (edges_of xs) (edges_of put) t (is_edge t ps)) stretch;
          format = refl;
          marks = refl;
        };
        cursor = λ _. ap (λ n. n + 100 * frames) (sym place);
        there = omega (arith, length-spliced ps put at count there, many, there);
      },
    )
