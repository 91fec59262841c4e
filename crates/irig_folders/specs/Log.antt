-- What a log of calls makes of an empty folder, the newest call first. This project's own.
use Rattle.std.specs.Prelude.{ℕ, nat_eq, List, [], ◌∷◌, ◌++◌, length, Option, Some, None, cond}
use Rattle.std.specs.Str.{bytes_eq}
use Rattle.irig_folders.specs.declared.call.Call.TheVariants.{Make, Append, TakeMode, SyncFile}
use Rattle.irig_folders.specs.declared.call.Call.TheVariants.{Rename, Remove, SyncNames}
use Rattle.irig_disk.specs.Held.{Held}
use Rattle.irig_folders.specs.declared.call.Call.{Call}

-- the file that a name leads to
abbrev pub leads_in : List Call → List ℕ → Option ℕ
leads_in [] n = None
leads_in (Make name mode ∷ calls) n =
    cond (bytes_eq name.items n) (Some (length calls)) (leads_in calls n)
leads_in (Rename «from» to ∷ calls) n =
    cond (bytes_eq to.items n) (leads_in calls «from».items)
    (cond (bytes_eq «from».items n) None (leads_in calls n))
leads_in (Remove name ∷ calls) n = cond (bytes_eq name.items n) None (leads_in calls n)
leads_in (Append file bytes ∷ calls) n = leads_in calls n
leads_in (TakeMode file mode ∷ calls) n = leads_in calls n
leads_in (SyncFile file ∷ calls) n = leads_in calls n
leads_in (SyncNames front ∷ calls) n = leads_in calls n

-- what a file holds
abbrev pub holds_in : List Call → ℕ → Held
holds_in [] i = record { bytes = []; mode = 0 }
holds_in (Make name mode ∷ calls) i =
    cond (nat_eq (length calls) i) (record { bytes = []; mode = mode }) (holds_in calls i)
holds_in (Append file bytes ∷ calls) i =
    cond (nat_eq file i) (record {
      bytes = (holds_in calls i).bytes ++ bytes.items;
      mode =
          (holds_in calls i).mode;
    }) (holds_in calls i)
holds_in (TakeMode file mode ∷ calls) i =
    cond (nat_eq file i) (record { bytes = (holds_in calls i).bytes; mode = mode })
    (holds_in calls i)
holds_in (Rename «from» to ∷ calls) i = holds_in calls i
holds_in (Remove name ∷ calls) i = holds_in calls i
holds_in (SyncFile file ∷ calls) i = holds_in calls i
holds_in (SyncNames front ∷ calls) i = holds_in calls i
