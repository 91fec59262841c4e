use Rattle.std.proofs.Common.{⊎_elim}
use Rattle.irig_folders.proofs.KeptFiles.{made_spoils, append_spoils, mode_spoils, passes_make, passes_append, passes_mode, passes_sync, passes_names}
use Rattle.irig_folders.proofs.left.+is_kept.Goals.{in_default-call-via-in-Make+else-older-number, in_default-call-via-in-SyncFile+else-file-number}
use Rattle.irig_folders.proofs.left.+is_kept.Goals.{in_default-call-via-in_default-call, in_default-call-via-in-Append+else-file-number-2}
use Rattle.irig_folders.proofs.left.+is_kept.Goals as goal

pub returns-in-Make-clause-only : goal.returns-in-Make-clause-only
returns-in-Make-clause-only t c all = absurd (made_spoils _ _ _ _ _ _ c.in-Some.ensures.cases.0 c.in-Make.is c.if-older-number.true all)

pub returns-in-Append-clause-only : goal.returns-in-Append-clause-only
returns-in-Append-clause-only t c all = absurd (⊎_elim
    (λ is. append_spoils _ _ _ _ _ _ c.in-Some.ensures.cases.0 is.1 c.if-file-number-2.true all)
    (λ is. mode_spoils _ _ _ _ _ _ c.in-Some.ensures.cases.0 is.1 c.if-file-number-2.true all)
    c.in-Append.is)

pub returns-in_default-call-clause-only : goal.returns-in_default-call-clause-only
returns-in_default-call-clause-only t c all =
    let grown = c.in-Some.ensures.cases.0 in
    c.is_kept.ensures.only (elim c.in_default-call.branch [
      | in_default-call-via-in-Make+else-older-number w ↦ passes_make _ _ _ _ _ _ grown w.in-Make.is w.if-older-number.false all
      | in_default-call-via-in-SyncFile+else-file-number w ↦ passes_sync _ _ _ _ _ grown w.in-SyncFile.is w.if-file-number.false all
      | in_default-call-via-in_default-call w ↦ let not = w.in_default-call in
          passes_names _ _ _ _ grown not.not-Make not.not-Append not.not-TakeMode not.not-SyncFile all
      | in_default-call-via-in-Append+else-file-number-2 w ↦ ⊎_elim
          (λ is. passes_append _ _ _ _ _ _ grown is.1 w.if-file-number-2.false all)
          (λ is. passes_mode _ _ _ _ _ _ grown is.1 w.if-file-number-2.false all)
          w.in-Append.is
    ])
