-- A run on what was read of a dump, or of a window of it.
use Rattle.std.proofs.Common.{◌≡◌, ◌∙◌, ◌&&◌, ℕ, true, false, List, Option, Some, None, Result, Ok, Err, inl, length, refl, subst, sym, ◌≤◌, ◌^◌}
use Rattle.std.specs.Global.{Vec}
use Rattle.std.specs.Prelude.{IfSome, is_some}
use Rattle.irig_codes.specs.Format.{FormatView}
use Rattle.irig_editor.specs.Windows.{IsOfSession, RunsIn, RunsOnRead}
use Rattle.irig_files.proofs.Intakes.{tells_heading}
use Rattle.irig_files.specs.Reads.{most_bytes}
use Rattle.irig_recording.specs.{FileText.file_text, Recording.RecordingView}
use Rattle.irig_script.specs.{Obey.Desk.Desk, Obey.DumpRun.RunsOnDump, declared.obey.status.Status.Status}
use Rattle.irig_script.specs.{declared.obey.dump_run.DumpRunFault.DumpRunFault, declared.obey.dump_run.DumpRunFault.TheVariants.Dump}
use Rattle.irig_vcd.specs.{Answer.bytes_of, Extent.short, Parts.dump_parts, Window.parts_in, declared.fault.VcdFault.VcdFault, declared.window.Window.Window}
use Rattle.irig_vcd.proofs.{WholeDump.fails_now, Windows.no_window_parts}

module _ (wire : Option (List ℕ)) (f : FormatView) (source : List ℕ) (script left : Option (List ℕ)) (from to : Desk) where
  -- a run on each dump that says what the session is opened with
  abbrev pub RunsOnEach : RecordingView → Option (List ℕ) → Result Status DumpRunFault → Type 0
  RunsOnEach r journal result = (name : Option (List ℕ)) (bytes : List ℕ) → dump_parts name bytes ≡ Ok (r, journal)
      → RunsOnDump name f bytes script left from to result

  -- in a window there is no journal
  pub runs_in : (window : Option Window) (r : RecordingView) (journal : Option (Vec ℕ)) (result : Result Status DumpRunFault)
      → parts_in window wire source ≡ Ok (r, bytes_of journal) → dump_parts None (file_text r) ≡ Ok (r, None)
      → (is_some window && is_some journal) ≡ false → RunsOnEach r (bytes_of journal) result
      → RunsIn window wire f source script left from to result
  runs_in None r journal result is plain whole ran = ran wire source (sym (no_window_parts wire source) ∙ is)
  runs_in (Some w) r (Some text) result is plain whole ran = absurd (cc whole)
  runs_in (Some w) r None result is plain whole ran =
      subst (λ read. RunsOnRead read f script left from to result) (sym is) (refl, ran None (file_text r) plain)

-- of a dump with a fault nothing was run
pub fails_in : (window : Option Window) (wire : Option (List ℕ)) (f : FormatView) (source : List ℕ) (script : Option (List ℕ)) (at : Desk) (fault : VcdFault)
    → parts_in window wire source ≡ Err fault → RunsIn window wire f source script script at at (Err (Dump fault))
fails_in None wire f source script at fault is = (
  inl (fails_now fault (dump_parts wire source) (sym (no_window_parts wire source) ∙ is)),
  (λ e h. tells_heading (short None) wire source fault e is h),
  refl,
  refl,
)
fails_in (Some w) wire f source script at fault is =
    subst (λ read. RunsOnRead read f script script at at (Err (Dump fault))) (sym is) (refl, refl, refl)

-- what was read of a dump in a window, if it has a journal
pub of_session : (window : Option Window) (wire : Option (List ℕ)) (source : List ℕ) (r : RecordingView) (journal : Option (Vec ℕ))
    → (is_some window && is_some journal) ≡ true → parts_in window wire source ≡ Ok (r, bytes_of journal) → IsOfSession window wire source
of_session None wire source r journal both is = absurd (cc both)
of_session (Some w) wire source r None both is = absurd (cc both)
of_session (Some w) wire source r (Some text) both is = (refl, (r, text.items, is))

-- a journal that is heeded is that of a whole dump
pub few_of : (window : Option Window) (journal : Option (Vec ℕ)) → (is_some window && is_some journal) ≡ false
    → IfSome journal (λ text. length text.items ≤ most_bytes window) → IfSome journal (λ text. length text.items ≤ 2 ^ 28)
few_of None journal whole few = few
few_of (Some w) None whole few = tt
few_of (Some w) (Some text) whole few = absurd (cc whole)
