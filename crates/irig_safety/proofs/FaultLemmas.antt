-- Frames that have a fault are not safe.
use Rattle.std.proofs.Common.{◌≡◌, ◌==◌, ◌∙◌, Bool, true, false, List, [], ◌∷◌, Option, Some, None, arith, inl, inr, length, sym}
use Rattle.std.specs.Prelude.{IfErr, OnErr, Result, Ok, Err}
use Rattle.irig_codes.specs.Format.{FormatView}
use Rattle.irig_safety.specs.Faults.{FaultFrom, IsSpoiledBy}
use Rattle.irig_safety.specs.Safety.{IsSafe, IsSafeFrom, NoneIsSpoiled}
use Rattle.irig_safety.specs.{Terms.OthersView, declared.fault.Fault.Fault, declared.shown.Shown.Shown}

fault_unsafe : (f : FormatView) (ws : OthersView) (a2 a : Option Shown) (old new : List Shown) (why : Fault) → FaultFrom f ws a2 a old new why
    → IsSafeFrom f ws a2 a old new → ⊥
fault_unsafe f ws a2 a [] [] why h s = h
fault_unsafe f ws a2 a (o ∷ old) [] why h s = s
fault_unsafe f ws a2 a [] (n ∷ new) why (inl h) s = h.0 s.0
fault_unsafe f ws a2 a [] (n ∷ new) why (inr h) s = fault_unsafe f ws a2 a [] new why h.1 s.1
fault_unsafe f ws a2 a (o ∷ old) (n ∷ new) why (inl (same, inl h)) (inl s) = h.0 s.1
fault_unsafe f ws a2 a (o ∷ old) (n ∷ new) why (inl (same, inr h)) (inl s) = fault_unsafe f ws a (Some o) old new why h.1 s.2
fault_unsafe f ws a2 a (o ∷ old) (n ∷ new) why (inl (same, h)) (inr s) = absurd (omega (arith, same, s.0))
fault_unsafe f ws a2 a (o ∷ old) (n ∷ new) why (inr (inl (less, h))) (inl s) = absurd (omega (arith, less, s.0))
fault_unsafe f ws a2 a (o ∷ old) (n ∷ new) why (inr (inl (less, inl h))) (inr s) = h.0 s.1
fault_unsafe f ws a2 a (o ∷ old) (n ∷ new) why (inr (inl (less, inr h))) (inr s) = fault_unsafe f ws a2 a (o ∷ old) new why h.1 s.2
fault_unsafe f ws a2 a (o ∷ old) (n ∷ new) why (inr (inr h)) (inl s) = absurd (omega (arith, h.0, s.0))
fault_unsafe f ws a2 a (o ∷ old) (n ∷ new) why (inr (inr h)) (inr s) = absurd (omega (arith, h.0, s.0))

pub spoiled_so : (last new : List Shown) (why : Fault) → IsSpoiledBy last new why → NoneIsSpoiled last new → ⊥
spoiled_so [] new why h s = h
spoiled_so (x ∷ last) [] why h s = s
spoiled_so (x ∷ last) (n ∷ new) why (inl h) (inl s) = spoiled_so last new why h.1 s.1
spoiled_so (x ∷ last) (n ∷ new) why (inl h) (inr s) = absurd (omega (arith, h.0, s.0))
spoiled_so (x ∷ last) (n ∷ new) why (inr (inl h)) (inl s) = absurd (omega (arith, h.0, s.0))
spoiled_so (x ∷ last) (n ∷ new) why (inr (inl h)) (inr s) = spoiled_so (x ∷ last) new why h.1 s.1
spoiled_so (x ∷ last) (n ∷ new) why (inr (inr h)) (inl s) = absurd (omega (arith, h.0, s.0))
spoiled_so (x ∷ last) (n ∷ new) why (inr (inr h)) (inr s) = absurd (omega (arith, h.0, s.0))

-- of a recording in which some frame reads well
no_list : (b : Bool) → b ≡ true → b ≡ false → ⊥
no_list b t f = let bad : true ≡ false = sym t ∙ f in cc

pub unsafe_result : (f : FormatView) (ws : OthersView) (old new : List Shown) (r : Bool) (found : Result Unit Fault) → r ≡ (length old == 0) → r ≡ false
    → IfErr found (FaultFrom f ws None None old new) → OnErr found (IsSafe f ws old new → ⊥)
unsafe_result f ws old new r (Ok u) is e h = tt
unsafe_result f ws [] new r (Err why) is e h = λ s. no_list r is e
unsafe_result f ws (o ∷ old) new r (Err why) is e h = λ s. fault_unsafe f ws None None (o ∷ old) new why h s
