-- A run on what was read of a dump, or of a window of it.
use Rattle.std.proofs.Common.{◌≡◌, ◌∙◌, ℕ, List, Option, Some, None, Result, Ok, Err, inl, refl, subst, sym}
use Rattle.std.specs.Prelude.{IsOk}
use Rattle.irig_codes.specs.Format.{FormatView}
use Rattle.irig_edit.specs.Opened.Openings.{MayBeShort}
use Rattle.irig_guard.specs.Windows.{GuardsIn, GuardsOnRead, MayRunShort, used_journal}
use Rattle.irig_guarding.specs.{GuardedRun.GuardsOnDump, declared.product.GuardFault.GuardFault, declared.product.GuardFault.TheVariants.Dump, declared.product.Kept.Kept}
use Rattle.irig_guarding.specs.declared.product.Product.{Product}
use Rattle.irig_recording.specs.{FileText.file_text, Recording.RecordingView}
use Rattle.irig_safety.specs.Terms.{TermsView}
use Rattle.irig_script.specs.Obey.Desk.{Desk}
use Rattle.irig_vcd.specs.{Parts.dump_parts, Window.parts_in, declared.fault.VcdFault.VcdFault, declared.window.Window.Window}
use Rattle.irig_vcd.proofs.{WholeDump.fails_now, Windows.no_window_parts}

module _ (wire : Option (List ℕ)) (f : FormatView) (terms : TermsView) (source : List ℕ) (asked : Product) (script left : Option (List ℕ))
    (from to : Desk) where
  -- a run on each dump that says what the session is opened with
  abbrev pub GuardsOnEach : RecordingView → Option (List ℕ) → Result Kept GuardFault → Type 0
  GuardsOnEach r journal result = (name : Option (List ℕ)) (bytes : List ℕ) → dump_parts name bytes ≡ Ok (r, journal)
      → GuardsOnDump name f terms bytes asked script left from to result

  pub guards_in : (window : Option Window) (r : RecordingView) (journal : Option (List ℕ)) (result : Result Kept GuardFault)
      → parts_in window wire source ≡ Ok (r, journal) → dump_parts None (file_text r) ≡ Ok (r, None) → GuardsOnEach r (used_journal window journal) result
      → GuardsIn window wire f terms source asked script left from to result
  guards_in None r journal result is plain ran = ran wire source (sym (no_window_parts wire source) ∙ is)
  guards_in (Some w) r journal result is plain ran =
      subst (λ read. GuardsOnRead read f terms asked script left from to result) (sym is) (ran None (file_text r) plain)

-- of a dump with a fault nothing was run
pub fails_in : (window : Option Window) (wire : Option (List ℕ)) (f : FormatView) (terms : TermsView) (source : List ℕ) (asked : Product)
    (script : Option (List ℕ)) (at : Desk) (fault : VcdFault) → parts_in window wire source ≡ Err fault
    → GuardsIn window wire f terms source asked script script at at (Err (Dump fault))
fails_in None wire f terms source asked script at fault is =
    (inl (fails_now fault (dump_parts wire source) (sym (no_window_parts wire source) ∙ is)), refl, refl)
fails_in (Some w) wire f terms source asked script at fault is =
    subst (λ read. GuardsOnRead read f terms asked script script at at (Err (Dump fault))) (sym is) (refl, refl, refl)

-- memory ran out for the session of what was read
pub runs_short : (window : Option Window) (wire : Option (List ℕ)) (source : List ℕ) (r : RecordingView) (journal : Option (List ℕ))
    → parts_in window wire source ≡ Ok (r, journal) → MayBeShort (Ok (r, used_journal window journal)) → MayRunShort window wire source
runs_short None wire source r journal is short = subst MayBeShort (sym (sym (no_window_parts wire source) ∙ is)) short
runs_short (Some w) wire source r journal is short = subst IsOk (sym is) refl
