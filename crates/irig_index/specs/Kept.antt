-- A verdict as an index keeps it: a part that the frame lacks is the greatest number of its type,
-- which no frame carries. This project's own.
use Rattle.std.specs.Prelude.{◌≡◌, ℕ, ◌-◌, ◌^◌, ◌==◌, if◌then◌else◌, cond, Option, Some, None}
use Rattle.std.specs.Prelude.{unwrap_or}
use Rattle.std.proofs.Common.{inl, inr, ap, sym, refl, ◌∙◌}
use Rattle.std.proofs.lemmas.Bool.Decides.{eqb_tells}
use Rattle.irig_codes.specs.Narrow.{AreNarrow}
use Rattle.irig_index.specs.declared.record.Verdict.TheVariants.{Broken, Read}
use Rattle.irig_index.specs.declared.stored.Kept.TheVariants.{Broken as Fails, Read as Carries}
use Rattle.irig_index.specs.{declared.record.Verdict.Verdict, declared.stored.Kept.Kept}

-- the part that a number means, if it is not the one that means none
abbrev pub part_of : ℕ → ℕ → Option ℕ
part_of none number = if number == none then None else Some number

-- the verdict that is kept
abbrev pub verdict_kept : Kept → Verdict
verdict_kept (Fails k cause) = Broken k cause
verdict_kept (Carries hundredths seconds minutes hours year days sbs note control) = Read (record {
  hundredths = part_of 255 hundredths;
  seconds = seconds;
  minutes = minutes;
  hours = hours;
  days = days;
  year = part_of 255 year;
  sbs = part_of (2 ^ 32 - 1) sbs;
  control = part_of (2 ^ 64 - 1) control;
}) note

-- what is kept of a verdict
abbrev pub kept_of : Verdict → Kept
kept_of (Broken k cause) = Fails k cause
kept_of (Read g note) = Carries (unwrap_or g.hundredths 255) g.seconds g.minutes g.hours
    (unwrap_or g.year 255) g.days (unwrap_or g.sbs (2 ^ 32 - 1)) note
    (unwrap_or g.control (2 ^ 64 - 1))

-- the verdict can be kept: its fields are those that a frame can carry
abbrev pub IsNarrow : Verdict → Type 0
IsNarrow (Broken k cause) = Unit {0}
IsNarrow (Read g note) = AreNarrow g

-- the number that means a part
unwrap_or-part_of : (none number : ℕ) → unwrap_or (part_of none number) none ≡ number
unwrap_or-part_of none number = elim (eqb_tells number none) [
  | inl is ↦ ap (λ b. unwrap_or (cond b None (Some number)) none) is.0 ∙ sym is.1
  | inr other ↦ ap (λ b. unwrap_or (cond b None (Some number)) none) other.0
]

-- what is kept of the verdict that is kept
pub kept_of-verdict_kept : (k : Kept) → kept_of (verdict_kept k) ≡ k
kept_of-verdict_kept (Fails k cause) = refl
kept_of-verdict_kept (Carries hundredths seconds minutes hours year days sbs note control) =
    λ i. Carries (unwrap_or-part_of 255 hundredths i) seconds minutes hours
    (unwrap_or-part_of 255 year i) days (unwrap_or-part_of (2 ^ 32 - 1) sbs i) note
    (unwrap_or-part_of (2 ^ 64 - 1) control i)
