-- No dump with its journal has out of memory as its fault.
use Rattle.std.proofs.Common.{◌≡◌, ◌*◌, ◌∷◌, [], ℕ, Bool, true, false, List, Option, Some, None, Result, Ok, Err, IfErr, length, nat_lt, ◌∙◌, ap, if◌then◌else◌}
use Rattle.irig_recording.specs.Recording.{RecordingView}
use Rattle.irig_vcd.specs.Scan.{Open, closed, code_of, comment_of, Scan, left_open, scan_ended, scan_words, start, unless}
use Rattle.irig_vcd.specs.declared.fault.VcdFault.TheVariants.{OutOfMemory, TooManyPulses}
use Rattle.irig_vcd.specs.{Answer.◌>>=◌, Answer.pair_of, Declarations.declarations_of, Dump.changes_of, Dump.journals_of, Level.edges_up_to}
use Rattle.irig_vcd.specs.{Parts.dump_parts, Parts.one_journal, Words.Word, Words.words_of, declared.fault.VcdFault.VcdFault}
use Rattle.irig_vcd.specs.{Extent.most_pulses, Extent.short, Window.extent_dump, Window.moved, Window.extent_parts, Window.within, declared.extent.Extent.Extent}
use Rattle.irig_vcd.proofs.{Sound.chain_sound, Sound.heading_sound, Sound.never_memory, Windows.no_window_parts}

-- no fault is out of memory
abbrev IsSound : {X : Type 0} → Result X VcdFault → Type 0
IsSound r = IfErr r (λ e. e ≡ OutOfMemory → ⊥)

-- what a sound reading failed with
of_sound : {X : Type 0} (r : Result X VcdFault) (e : VcdFault) → r ≡ Err e → IsSound r → e ≡ OutOfMemory → ⊥
of_sound (Ok x) e is sound = absurd (cc is)
of_sound (Err f) e is sound = let same : f ≡ e = cc is in λ memory. sound (same ∙ memory)

open_sound : (now : Open) (unit : ℕ) (s : Scan) → IsSound (unless (left_open now) unit s)
open_sound closed unit s = tt
open_sound (code_of value) unit s = λ is. absurd (cc is)
open_sound (comment_of first) unit s = λ is. absurd (cc is)

ended_sound : (unit : ℕ) (x : Scan × Option VcdFault) → (x.1 ≡ Some OutOfMemory → ⊥) → IsSound (scan_ended unit x)
ended_sound unit (s, None) h = open_sound s.opened unit s
ended_sound unit (s, Some e) h = λ is. h (ap Some is)

changes_sound : (r : Result ((ℕ × List ℕ) × List Word) VcdFault) → IsSound r
    → IsSound ((r >>= λ b. pair_of b.0.0 (scan_words b.0.1 b.0.0 start b.1)) >>= λ x. scan_ended x.0 x.1)
changes_sound (Ok b) h = ended_sound b.0.0 (scan_words b.0.1 b.0.0 start b.1) (never_memory b.0.1 b.0.0 b.1 start)
changes_sound (Err e) h = h

few_sound : (many : Bool) (r : RecordingView) → IsSound (if many then Err TooManyPulses else Ok r)
few_sound true r = λ is. absurd (cc is)
few_sound false r = tt

journal_sound : (js : List (List ℕ)) → IsSound (one_journal js)
journal_sound [] = tt
journal_sound (j ∷ []) = tt
journal_sound (j ∷ k ∷ more) = λ is. absurd (cc is)

-- nor has a window of one
pub never_in : (extent : Extent) (wire : Option (List ℕ)) (bytes : List ℕ) (e : VcdFault) → extent_parts extent wire bytes ≡ Err e → e ≡ OutOfMemory → ⊥
unfolding extent_dump extent_parts
never_in extent wire bytes e h =
    let changes = changes_sound (declarations_of wire (words_of bytes)) (heading_sound wire (words_of bytes)) in
    let recording = chain_sound (changes_of wire bytes) _ changes
    (λ c. few_sound (nat_lt (2 * most_pulses extent) (length (edges_up_to (within extent.window c.0) (moved extent.window c.1)))) _) in
    of_sound (extent_parts extent wire bytes) e h (chain_sound (extent_dump extent wire bytes) _ recording
    (λ r. chain_sound (one_journal (journals_of wire bytes)) _ (journal_sound (journals_of wire bytes)) (λ j. tt)))

pub never_parts : (wire : Option (List ℕ)) (bytes : List ℕ) (e : VcdFault) → dump_parts wire bytes ≡ Err e → e ≡ OutOfMemory → ⊥
never_parts wire bytes e h = never_in (short None) wire bytes e (no_window_parts wire bytes ∙ h)
