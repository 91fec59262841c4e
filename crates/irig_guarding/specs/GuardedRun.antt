-- A run under guard, from the bytes of a dump and of a proposed script on. This project's own.
use Rattle.std.specs.Prelude.{◌≡◌, ◌≤◌, ℕ, List, [], ◌∷◌, Option, Result, Ok, Err, IfSome}
use Rattle.std.specs.Prelude.{if◌then◌else◌, length}
use Rattle.std.specs.Io.KnownBytes.{Appends}
use Rattle.irig_codes.specs.Format.{FormatView}
use Rattle.irig_edit.specs.Opened.Openings.{IsOpened, IsUnopened}
use Rattle.irig_edit.specs.{Saved.SavedSession.saved_text, Session.Session.work_in}
use Rattle.irig_script.specs.{Obey.Desk.Desk, Obey.Machine.Machine, Obey.Replies.dump_text}
use Rattle.irig_script.specs.declared.obey.status.Status.{Status}
use Rattle.irig_print.specs.Front.{AppendsFront}
use Rattle.irig_text.specs.Shelved.{Puts}
use Rattle.irig_safety.specs.Terms.{TermsView}
use Rattle.irig_guarding.specs.declared.product.GuardFault.{GuardFault}
use Rattle.irig_guarding.specs.declared.product.GuardFault.TheVariants.{Dump, ReadFailed}
use Rattle.irig_guarding.specs.declared.product.GuardFault.TheVariants.{OutOfMemory, PrintFailed}
use Rattle.irig_guarding.specs.declared.product.GuardFault.TheVariants.{ScriptTooLong, WriteFailed}
use Rattle.irig_guarding.specs.{Agreeing.AgreesAfter, Fillings.Fills, Guarded.IsGuarded}
use Rattle.irig_guarding.specs.Reading.{original_of}
use Rattle.irig_guarding.specs.ScriptLength.{IsShort, IsTooLong, script_limit}
use Rattle.irig_guarding.specs.{Judged.is_judged_by, Trial.KeepsNone, Trials.IsTried}
use Rattle.irig_guarding.specs.declared.product.Kept.{Kept}
use Rattle.irig_guarding.specs.declared.product.Product.{Product}
use Rattle.irig_guarding.specs.declared.product.Product.TheVariants as product

-- the texts that are written of what a run leaves
abbrev pub product_texts : Product → Machine → List (List ℕ)
product_texts product.Nothing m = []
product_texts product.Track m = dump_text m ∷ []
product_texts product.Session m = saved_text (work_in m) ∷ []

-- the proposed script was run under guard, repair by repair: what it printed, what it left, its
-- status, and how many frames have a control function then that is not in the recording. If no
-- repair was kept, it left the session as it was opened, also what can be redone. What it left
-- agrees with the recording
pub record Guards (terms : TermsView) (first : Machine) (script : Option (List ℕ)) : Type 0 where
  pub proposal : List ℕ
  pub whole : IfSome script (λ all. proposal ≡ all)
  pub short : length proposal ≤ script_limit
  pub printed : List ℕ
  pub last : Machine
  pub guarded : IsGuarded terms first printed last
  pub status : Status
  pub tried : IsTried terms first proposal printed status last
  pub filled : ℕ
  pub fillings : Fills (original_of terms first.state) last.state filled
  pub unkept : KeepsNone tried.trials → work_in guarded.left ≡ work_in first
  pub agrees : AgreesAfter terms first.state last.state

-- it was run, its result was printed, what is asked for was written of what the printed script
-- leaves, if there was a frame to go by, and the status says whether all of it was kept; or memory
-- ran out, a read failed or it is too long, and nothing was printed or written; or the printing
-- failed, and nothing was written; or the writing failed
abbrev pub RunsUnderGuard : TermsView → Product → Machine → Option (List ℕ) → Desk → Desk
    → Result Kept GuardFault → Type 0
RunsUnderGuard terms asked first script from to (Ok kept) =
    (run : Guards terms first script) × (run.status ≡ kept.status) × (run.filled ≡ kept.filled)
    × (kept.judged ≡ is_judged_by first.state run.last.state)
    × Appends from.out to.out run.printed
    × Puts from.shelf to.shelf (if kept.judged then product_texts asked run.guarded.left else []) 0
RunsUnderGuard terms asked first script from to (Err PrintFailed) =
    (run : Guards terms first script) × AppendsFront from.out to.out run.printed
    × (to.shelf ≡ from.shelf)
RunsUnderGuard terms asked first script from to (Err WriteFailed) =
    (run : Guards terms first script) × Appends from.out to.out run.printed
    × Puts from.shelf to.shelf [] 1
RunsUnderGuard terms asked first script from to (Err ReadFailed) = to ≡ from
RunsUnderGuard terms asked first script from to (Err OutOfMemory) = IsShort script × (to ≡ from)
RunsUnderGuard terms asked first script from to (Err ScriptTooLong) =
    IsTooLong script × (to ≡ from)
RunsUnderGuard terms asked first script from to (Err (Dump fault)) = ⊥

-- the same on the session that is opened from a dump; or that was not opened, and nothing was done
abbrev pub GuardsOnDump : Option (List ℕ) → FormatView → TermsView → List ℕ → Product
    → Option (List ℕ) → Option (List ℕ) → Desk → Desk → Result Kept GuardFault → Type 0
GuardsOnDump wire chosen terms source asked script left from to (Err (Dump fault)) =
    IsUnopened wire source fault × (to ≡ from) × (left ≡ script)
GuardsOnDump wire chosen terms source asked script left from to result =
    (first : Machine) × IsOpened wire source chosen first
    × RunsUnderGuard terms asked first script from to result
