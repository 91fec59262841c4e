-- The laws of time hold of each log.
use Rattle.std.specs.Prelude.{◌≤◌, ℕ, List, [], ◌∷◌, length, Option}
use Rattle.std.proofs.Common.{inl, inr, arith}
use Rattle.irig_folders.specs.{LogDisk.disk_of, LogLeft.left_in}
use Rattle.irig_disk.specs.{Disk.MayLeave, Held.Held}
use Rattle.irig_folders.specs.declared.call.Call.{Call}

pub log_counts_now : (calls : List Call) (t : ℕ) (n : List ℕ) (c : Option Held) → t ≤ length calls
    → MayLeave (disk_of calls) n c → left_in calls t n c
log_counts_now [] t n c le now = now
log_counts_now (call ∷ calls) t n c le now = inl now

pub log_only_now : (calls : List Call) (n : List ℕ) (c : Option Held)
    → left_in calls (length calls) n c → MayLeave (disk_of calls) n c
log_only_now [] n c now = now
log_only_now (call ∷ calls) n c (inl now) = now
log_only_now (call ∷ calls) n c (inr past) = let le = past.0 in absurd (omega arith)
