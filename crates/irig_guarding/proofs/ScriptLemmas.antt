-- A script is read to its end, or up to a byte more than it may have.
use Rattle.std.proofs.Common.{◌≡◌, ◌+◌, ◌<◌, ◌≤◌, ◌++◌, ℕ, List, [], Option, Some, None, Result, Ok, Err, length, take, refl, ap, ◌∙◌, subst, arith, length-take}
use Rattle.std.specs.Prelude.{◌↔◌, IfOk, IfSome, option_map}
use Rattle.std.proofs.lemmas.List.{take_all}
use Rattle.irig_script.specs.{Obey.Desk.Desk, Obey.Machine.Machine}
use Rattle.irig_safety.specs.Terms.{TermsView}
use Rattle.irig_guarding.specs.{GuardedRun.Guards, GuardedRun.RunsUnderGuard, ScriptLength.IsRefusedIfTooLong, ScriptLength.script_limit}
use Rattle.irig_guarding.specs.{declared.product.GuardFault.GuardFault, declared.product.Kept.Kept, declared.product.Product.Product}
use Rattle.irig_guarding.specs.declared.product.GuardFault.TheVariants as fault
use Rattle.irig_guarding.proofs.GuardLemmas.{read_whole}

-- what was read of the front of a script is all of it, if it is not longer than it may be
read_all : (limit : ℕ) (known : Option (List ℕ)) (old new : List ℕ) → old ≡ []
    → IfSome (option_map (take (limit + 1)) known) (λ xs. new ≡ old ++ xs) → length new ≤ limit → IfSome known (λ all. new ≡ all)
read_all limit None old new e h few = tt
read_all limit (Some all) old new e h few =
    let is : new ≡ take (limit + 1) all = read_whole (Some (take (limit + 1) all)) old new e h in
    let short : length all ≤ limit + 1 = by_length all is in
    is ∙ take_all (limit + 1) all short
  where
    by_length : (all : List ℕ) → new ≡ take (limit + 1) all → length all ≤ limit + 1
    by_length all is = omega (arith, ap length is, length-take (limit + 1) all, few)

-- so by what the reader of the front says of itself
pub all_read : (limit most : ℕ) (known given : Option (List ℕ)) (old new : List ℕ) → old ≡ [] → most ≡ limit + 1 → given ≡ known
    → IfSome (option_map (take most) given) (λ xs. new ≡ old ++ xs) → length new ≤ limit → IfSome known (λ all. new ≡ all)
all_read limit most known given old new e is same h few =
    read_all limit known old new e
    (subst (λ (n : ℕ). IfSome (option_map (take n) known) (λ xs. new ≡ old ++ xs)) is
    (subst (λ (k : Option (List ℕ)). IfSome (option_map (take most) k) (λ xs. new ≡ old ++ xs)) same h)) few

-- so of what is handed on of it, if it is short
pub kept_is_all : {T E : Type 0} (items : T → List ℕ) (limit : ℕ) (known : Option (List ℕ)) (read : List ℕ) (r : Result T E)
    → (length read ≤ limit → IfSome known (λ all. read ≡ all)) → IfOk r (λ x. items x ≡ read) → IfOk r (λ x. length (items x) ≤ limit)
    → IfOk r (λ x. IfSome known (λ all. items x ≡ all))
kept_is_all items limit known read (Err e) h same short = tt
kept_is_all items limit None read (Ok x) h same short = tt
kept_is_all items limit (Some all) read (Ok x) h same short = same ∙ h (omega (arith, ap length same, short))

-- and if it is, the script has more
pub read_more : (limit : ℕ) (known : Option (List ℕ)) (old new : List ℕ) → old ≡ []
    → IfSome (option_map (take (limit + 1)) known) (λ xs. new ≡ old ++ xs) → limit < length new → IfSome known (λ all. limit < length all)
read_more limit None old new e h more = tt
read_more limit (Some all) old new e h more =
    let is : new ≡ take (limit + 1) all = read_whole (Some (take (limit + 1) all)) old new e h in
    omega (arith, ap length is, length-take (limit + 1) all, more)

-- a script that is short, of a run that is not refused for its length
kept_short : (script : Option (List ℕ)) (result : Result Kept GuardFault) → (result ≡ Err fault.ScriptTooLong → ⊥)
    → IfSome script (λ all. length all ≤ script_limit) → IfSome script (λ all. (result ≡ Err fault.ScriptTooLong) ↔ (script_limit < length all))
kept_short None result other short = tt
kept_short (Some all) result other short = ((λ is. absurd (other is)), (λ more. absurd (omega (arith, more, short))))

by_proposal : (terms : TermsView) (first : Machine) (script : Option (List ℕ)) (run : Guards terms first script)
    → IfSome script (λ all. length all ≤ script_limit)
by_proposal terms first None run = tt
by_proposal terms first (Some all) run = omega (arith, run.short, ap length run.whole)

-- so a run says
pub refused_if_too_long : (terms : TermsView) (asked : Product) (first : Machine) (script : Option (List ℕ)) (from to : Desk)
    (result : Result Kept GuardFault) → RunsUnderGuard terms asked first script from to result → IsRefusedIfTooLong script result
refused_if_too_long terms asked first script from to (Ok kept) h = kept_short script (Ok kept) (λ e. cc) (by_proposal terms first script h.0)
refused_if_too_long terms asked first script from to (Err fault.PrintFailed) h =
    kept_short script (Err fault.PrintFailed) (λ e. cc) (by_proposal terms first script h.0)
refused_if_too_long terms asked first script from to (Err fault.WriteFailed) h =
    kept_short script (Err fault.WriteFailed) (λ e. cc) (by_proposal terms first script h.0)
refused_if_too_long terms asked first script from to (Err fault.OutOfMemory) h = kept_short script (Err fault.OutOfMemory) (λ e. cc) h.0
refused_if_too_long terms asked first None from to (Err fault.ScriptTooLong) h = tt
refused_if_too_long terms asked first (Some all) from to (Err fault.ScriptTooLong) h = ((λ e. h.0), (λ more. refl))
refused_if_too_long terms asked first script from to (Err fault.ReadFailed) h = tt
refused_if_too_long terms asked first script from to (Err (fault.Dump why)) h = tt
