-- A run on the bytes of a dump, as the settings ask. This project's own.
use Rattle.std.specs.Prelude.{◌≡◌, ℕ, List, Result, Err}
use Rattle.irig_script.specs.Obey.Desk.{desk}
use Rattle.irig_guarding.specs.{declared.product.GuardFault.GuardFault, declared.product.Kept.Kept}
use Rattle.irig_guarding.specs.declared.product.GuardFault.TheVariants.{Dump}
use Rattle.irig_text.specs.Shelved.{shelved}
use Rattle.irig_files.specs.{Puts.texts_at, Tracks.name_in}
use Rattle.irig_guard.specs.declared.chosen.Settings.{Settings}
use Rattle.irig_guard.specs.Given.{Ends, Files, place_of, product_of}
use Rattle.irig_guard.specs.{Others.ShowsAll, Settings.paths}
use Rattle.irig_guard.specs.Windows.{GuardsIn, MayRunShort}
use Rattle.irig_safety.specs.Terms.{TermsView, without_others}
use Rattle.irig_vcd.specs.declared.fault.VcdFault.TheVariants.{OutOfMemory}

-- The script ran under guard on the bytes, by the wire, the window and the format of the settings
-- and by the frames of the other recordings, if its session was not out of memory; what was written
-- was written where their path to write leads, and is kept through a crash at any moment.
pub record RunsBy (given : Files) (chosen : Settings) (source : List ℕ) (old new : Ends)
    (result : Result Kept GuardFault) : Type 0 where
  pub terms : TermsView
  pub shown : ShowsAll given.held chosen.format (paths chosen.others.items)
      (without_others chosen.moved) terms
  pub label : List ℕ
  pub failures : ℕ
  pub ran : GuardsIn chosen.window (name_in chosen.wire) chosen.format
      terms source (product_of chosen) old.script new.script
      (desk old.out (shelved (texts_at (given.paths (place_of chosen)) old.writes) 0 label))
      (desk new.out (shelved (texts_at (given.paths (place_of chosen)) new.writes) failures label))
      result
  pub short : result ≡ Err (Dump OutOfMemory)
      → MayRunShort chosen.window (name_in chosen.wire) source
  pub kept : given.kept (place_of chosen)
