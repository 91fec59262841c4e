use Rattle.std.proofs.Common.{◌≡◌, ◌∙◌, List, ℕ, Err, Ok, None, ap, inl, subst, sym}
use Rattle.irig_edit.specs.Opened.Openings.{MayBeShort}
use Rattle.irig_files.proofs.Sound.{never_parts}
use Rattle.irig_files.specs.Reads.{parts_of}
use Rattle.irig_guarding.specs.Others.{IsUnadded}
use Rattle.irig_guarding.specs.declared.product.GuardFault.TheVariants.{Dump}
use Rattle.irig_vcd.specs.{Parts.dump_parts, declared.fault.VcdFault.TheVariants.OutOfMemory}
use Rattle.irig_vcd.proofs.WholeDump.{fails_now}
use Rattle.irig_guard.proofs.others.add_read.Goals as goal

pub returns-in-Err-clause-unusable : goal.returns-in-Err-clause-unusable
returns-in-Err-clause-unusable c = λ source is.
    let failed : dump_parts None source ≡ Err c.in-Err.fault = rw c.in-Err.is at is in
    (inl (fails_now c.in-Err.fault (dump_parts None source) failed), (λ memory. absurd (never_parts None source c.in-Err.fault failed memory)))

pub returns-in-Err-Dump-clause-unusable : goal.returns-in-Err-Dump-clause-unusable
returns-in-Err-Dump-clause-unusable c = λ source is.
    let read : dump_parts None source ≡ Ok (parts_of c.in-Ok.parts) = rw c.in-Ok.is at is in
    let memory : c.in-Err-Dump.fault ≡ OutOfMemory → MayBeShort (dump_parts None source) =
    λ same. subst MayBeShort (sym read) (c.add_frames.ensures.memory (c.in-Err-Dump.is ∙ ap Err (c.in-Err-Dump.field-0-is ∙ ap Dump same))) in
    (subst (IsUnadded None source) c.in-Err-Dump.field-0-is (c.in-Err-Dump.ensures.fault None source read), memory)
