-- The verdict on a frame can be kept in 24 bytes.
use Rattle.std.proofs.Common.{ℕ, List, Option, Some, None}
use Rattle.irig_codes.specs.Format.{FormatView}
use Rattle.irig_codes.proofs.NarrowFields.{narrow-fields_read}
use Rattle.irig_recording.specs.declared.pulse.Pulse.{Pulse}
use Rattle.irig_index.specs.{declared.record.Cause.Cause, Kept.IsNarrow, Verdict.elements_of, Verdict.first_fault, Verdict.judged, Verdict.verdict_of}

narrow-judged : (f : FormatView) (ps : List Pulse) (fault : Option (ℕ × Cause)) → IsNarrow (judged f ps fault)
narrow-judged f ps (Some fault) = tt
narrow-judged f ps None = narrow-fields_read f (elements_of f ps)

-- what a frame carries can be kept
pub narrow-verdict_of : (f : FormatView) (ps : List Pulse) → IsNarrow (verdict_of f ps)
narrow-verdict_of f ps = narrow-judged f ps (first_fault f ps 99 1)
