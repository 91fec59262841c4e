-- What a crash may leave after a log of calls, the newest call first. This project's own.
use Rattle.std.specs.Prelude.{◌≡◌, ◌≢◌, ◌⊎◌, ◌≤◌, ℕ, List, [], ◌∷◌, ◌++◌, length, Option, None}
use Rattle.std.specs.Prelude.{Some}
use Rattle.irig_folders.specs.declared.call.Call.TheVariants.{Make, Append, TakeMode, SyncFile}
use Rattle.irig_folders.specs.declared.call.Call.TheVariants.{Rename, Remove, SyncNames}
use Rattle.irig_disk.specs.{Disk.Left, Held.Held}
use Rattle.irig_folders.specs.{Log.leads_in, Log.holds_in, declared.call.Call.Call}

-- what a crash may leave a name to lead to: all that it led to since the last sync of it
abbrev pub may_lead_in : List Call → List ℕ → Option ℕ → Type 0
may_lead_in [] n x = x ≡ None
may_lead_in (Make name mode ∷ calls) n x =
    may_lead_in calls n x ⊎ ((name.items ≡ n) × (x ≡ Some (length calls)))
may_lead_in (Rename «from» to ∷ calls) n x =
    may_lead_in calls n x ⊎ ((to.items ≡ n) × (x ≡ leads_in calls «from».items))
    ⊎ ((«from».items ≡ n) × (n ≢ to.items) × (x ≡ None))
may_lead_in (Remove name ∷ calls) n x = may_lead_in calls n x ⊎ ((name.items ≡ n) × (x ≡ None))
may_lead_in (SyncNames front ∷ calls) n x =
    may_lead_in calls n x × ((rest : List ℕ) → n ≡ front.items ++ rest → x ≡ leads_in calls n)
may_lead_in (Append file bytes ∷ calls) n x = may_lead_in calls n x
may_lead_in (TakeMode file mode ∷ calls) n x = may_lead_in calls n x
may_lead_in (SyncFile file ∷ calls) n x = may_lead_in calls n x

-- what a crash may leave a file to hold: anything at all, if it was changed since its last sync
abbrev pub may_hold_in : List Call → ℕ → Held → Type 0
may_hold_in [] i h = h ≡ record { bytes = []; mode = 0 }
may_hold_in (Make name mode ∷ calls) i h = (i ≡ length calls) ⊎ may_hold_in calls i h
may_hold_in (Append file bytes ∷ calls) i h = (i ≡ file) ⊎ may_hold_in calls i h
may_hold_in (TakeMode file mode ∷ calls) i h = (i ≡ file) ⊎ may_hold_in calls i h
may_hold_in (SyncFile file ∷ calls) i h =
    (i ≡ file → h ≡ holds_in calls i) × (i ≢ file → may_hold_in calls i h)
may_hold_in (Rename «from» to ∷ calls) i h = may_hold_in calls i h
may_hold_in (Remove name ∷ calls) i h = may_hold_in calls i h
may_hold_in (SyncNames front ∷ calls) i h = may_hold_in calls i h

-- what a crash since the first t calls might have left
abbrev pub left_in : List Call → ℕ → List ℕ → Option Held → Type 0
left_in [] t n c = Left (may_lead_in []) (may_hold_in []) n c
left_in (call ∷ calls) t n c = Left (may_lead_in (call ∷ calls)) (may_hold_in (call ∷ calls)) n c
    ⊎ ((t ≤ length calls) × left_in calls t n c)
