-- When a crash leaves nothing else of a file than what is seen.
use Rattle.std.proofs.Common.{◌≡◌, ◌∷◌, ◌∙◌, ◌++◌, ℕ, List, [], Vec, inl, inr, refl, sym, ap, subst, arith, length, cond}
use Rattle.std.specs.declared.alloc.Global.{Global}
use Rattle.irig_folders.specs.declared.call.Call.TheVariants.{Make, Append, TakeMode, SyncFile, Rename, Remove, SyncNames}
use Rattle.irig_disk.specs.Held.{Held}
use Rattle.irig_folders.specs.{Log.holds_in, LogLeft.may_hold_in, declared.call.Call.Call}
use Rattle.irig_folders.proofs.LogSteps.{other_file}

-- nothing but what is seen
abbrev pub LeavesSeen : List Call → ℕ → Type 0
LeavesSeen calls i = (h : Held) → may_hold_in calls i h → h ≡ holds_in calls i

-- what is seen is not all that there can be
not_all : (seen : Held) → ((h : Held) → h ≡ seen) → ⊥
not_all seen all =
    let longer : length (0 ∷ seen.bytes) ≡ length seen.bytes = ap (λ h. length h.bytes) (all (record { bytes = 0 ∷ seen.bytes; mode = seen.mode })) in
    omega (arith, longer)

newest : (calls older : List Call) (call of : Call) (i : ℕ) → calls ≡ call ∷ older → call ≡ of → LeavesSeen calls i → LeavesSeen (of ∷ older) i
newest calls older call of i grown is only = subst (λ log. LeavesSeen log i) (grown ∙ ap (λ c. c ∷ older) is) only

-- a file that was made or changed since its last sync
pub made_spoils : (calls older : List Call) (call : Call) (name : Vec ℕ Global) (mode i : ℕ) → calls ≡ call ∷ older → call ≡ Make name mode → length older ≡ i
    → LeavesSeen calls i → ⊥
made_spoils calls older call name mode i grown is at only = not_all _ (λ h. newest _ _ _ _ i grown is only h (inl (sym at)))

pub append_spoils : (calls older : List Call) (call : Call) (file : ℕ) (bytes : Vec ℕ Global) (i : ℕ) → calls ≡ call ∷ older → call ≡ Append file bytes
    → file ≡ i → LeavesSeen calls i → ⊥
append_spoils calls older call file bytes i grown is at only = not_all _ (λ h. newest _ _ _ _ i grown is only h (inl (sym at)))

pub mode_spoils : (calls older : List Call) (call : Call) (file mode i : ℕ) → calls ≡ call ∷ older → call ≡ TakeMode file mode
    → file ≡ i → LeavesSeen calls i → ⊥
mode_spoils calls older call file mode i grown is at only = not_all _ (λ h. newest _ _ _ _ i grown is only h (inl (sym at)))

-- a call that has nothing to do with the file
pub passes_make : (calls older : List Call) (call : Call) (name : Vec ℕ Global) (mode i : ℕ) → calls ≡ call ∷ older → call ≡ Make name mode
    → (length older ≡ i → ⊥) → LeavesSeen calls i → LeavesSeen older i
passes_make calls older call name mode i grown is ne only h may = newest _ _ _ _ i grown is only h (inr may)
    ∙ ap (λ b. cond b (record { bytes = []; mode = mode }) (holds_in older i)) (other_file (length older) i (λ at. ne (sym at)))

pub passes_append : (calls older : List Call) (call : Call) (file : ℕ) (bytes : Vec ℕ Global) (i : ℕ) → calls ≡ call ∷ older → call ≡ Append file bytes
    → (file ≡ i → ⊥) → LeavesSeen calls i → LeavesSeen older i
passes_append calls older call file bytes i grown is ne only h may = newest _ _ _ _ i grown is only h (inr may)
    ∙ ap (λ b. cond b (record { bytes = (holds_in older i).bytes ++ bytes.items; mode = (holds_in older i).mode }) (holds_in older i))
    (other_file file i (λ at. ne (sym at)))

pub passes_mode : (calls older : List Call) (call : Call) (file mode i : ℕ) → calls ≡ call ∷ older → call ≡ TakeMode file mode
    → (file ≡ i → ⊥) → LeavesSeen calls i → LeavesSeen older i
passes_mode calls older call file mode i grown is ne only h may = newest _ _ _ _ i grown is only h (inr may)
    ∙ ap (λ b. cond b (record { bytes = (holds_in older i).bytes; mode = mode }) (holds_in older i)) (other_file file i (λ at. ne (sym at)))

pub passes_sync : (calls older : List Call) (call : Call) (file i : ℕ) → calls ≡ call ∷ older → call ≡ SyncFile file
    → (file ≡ i → ⊥) → LeavesSeen calls i → LeavesSeen older i
passes_sync calls older call file i grown is ne only h may =
    newest _ _ _ _ i grown is only h (λ at. absurd (ne (sym at)), λ apart. may)

-- a call on names
names : (call : Call) (older : List Call) (i : ℕ) → ((name : Vec ℕ Global) (mode : ℕ) → call ≡ Make name mode → ⊥)
    → ((file : ℕ) (bytes : Vec ℕ Global) → call ≡ Append file bytes → ⊥) → ((file mode : ℕ) → call ≡ TakeMode file mode → ⊥)
    → ((file : ℕ) → call ≡ SyncFile file → ⊥) → LeavesSeen (call ∷ older) i → LeavesSeen older i
names (Make name mode) older i make append take sync only = absurd (make name mode refl)
names (Append file bytes) older i make append take sync only = absurd (append file bytes refl)
names (TakeMode file mode) older i make append take sync only = absurd (take file mode refl)
names (SyncFile file) older i make append take sync only = absurd (sync file refl)
names (Rename «from» to) older i make append take sync only = only
names (Remove name) older i make append take sync only = only
names (SyncNames front) older i make append take sync only = only

pub passes_names : (calls older : List Call) (call : Call) (i : ℕ) → calls ≡ call ∷ older → ((name : Vec ℕ Global) (mode : ℕ) → call ≡ Make name mode → ⊥)
    → ((file : ℕ) (bytes : Vec ℕ Global) → call ≡ Append file bytes → ⊥) → ((file mode : ℕ) → call ≡ TakeMode file mode → ⊥)
    → ((file : ℕ) → call ≡ SyncFile file → ⊥) → LeavesSeen calls i → LeavesSeen older i
passes_names calls older call i grown make append take sync only = names call older i make append take sync (subst (λ log. LeavesSeen log i) grown only)
