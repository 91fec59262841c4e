-- Patches that have no byte.
use Rattle.std.proofs.Common.{◌≡◌, ℕ, List, [], ◌∷◌, ◌++◌, ◌∙◌, ap, sym, refl, inl, inr, if◌then◌else◌, codes}
use Rattle.std.proofs.lemmas.Bool.{cases_eq, ne_eqb, eq-eqb}
use Rattle.irig_recording.specs.{declared.pulse.Pulse.Pulse, Recording.RecordingView, Recording.recording_view, Recording.IsRecording}
use Rattle.irig_difference.specs.PatchText.{line_of, script_of, length_note, patch_text}
use Rattle.irig_difference.specs.Stretches.{pairs, stretches_between}
use Rattle.irig_difference.proofs.{FlipSets.flips-same, Patches.no_stretches}

no_line : (ps : List Pulse) → script_of ps ≡ [] → ps ≡ []
no_line [] e = refl
no_line (p ∷ ps) e = absurd (cc)

no_note : (m n : ℕ) (text : List ℕ) → length_note m n ++ text ≡ [] → (m ≡ n) × (text ≡ [])
no_note m n text e = elim (cases_eq m n) [
  | inl same ↦ (same, sym (ap (λ v. (if v then [] else line_of (codes "# length") m n) ++ text) (eq-eqb m n same)) ∙ e)
  | inr apart ↦ absurd (let bad = sym (ap (λ v. (if v then [] else line_of (codes "# length") m n) ++ text) (ne_eqb m n apart)) ∙ e in cc)
]

pub no_patch : (before after : RecordingView) → IsRecording before.micros before.edges → IsRecording after.micros after.edges
    → patch_text before after ≡ [] → before ≡ after
no_patch before after b a e =
    let h = no_note before.micros after.micros _ e in
    let same = no_stretches before.edges after.edges b.even a.even b.rises a.rises (no_line (stretches_between before after) h.1) in
    (λ j. recording_view (h.0 j) (same j))

pub patch-same : (before after : RecordingView) → IsRecording after.micros after.edges → before ≡ after → patch_text before after ≡ []
patch-same before after a e =
    ap (λ r. patch_text r after) e ∙ ap (λ v. (if v then [] else line_of (codes "# length") after.micros after.micros)
    ++ script_of (stretches_between after after))
    (eq-eqb after.micros after.micros refl) ∙ ap (λ es. script_of (pairs es)) (flips-same after.edges a.rises)
