-- Odd pulses, frame by frame.
use Rattle.std.proofs.Common.{◌≡◌, ◌∙◌, ◌+◌, ◌++◌, ◌==◌, ℕ, Bool, List, [], ◌∷◌, Some, ap, length, slice_get, sym, take}
use Rattle.std.specs.List.{flat_map}
use Rattle.std.proofs.lemmas.{List.append-nil, List.take_more, Grind.flat_map-append, Option.get_or_from_slice_get, Option.slice_get_within}
use Rattle.irig_codes.specs.Format.{FormatView}
use Rattle.irig_recording.specs.declared.pulse.Pulse.{Pulse}
use Rattle.irig_safety.specs.declared.{odd.Odd.Odd, shown.Shown.Shown}
use Rattle.irig_guarding.specs.Reading.{even_by, even_if, odd_by}
use Rattle.irig_guarding.specs.declared.seen.Seen.{Seen}

pub flat_more : {X Y : Type 0} (f : X → List Y) (xs : List X) (i : ℕ) (x : X) (old new : List Y) → slice_get xs i ≡ Some x
    → old ≡ flat_map f (take i xs) → new ≡ old ++ f x → new ≡ flat_map f (take (i + 1) xs)
flat_more f xs i x old new here h put =
    let on : take (i + 1) xs ≡ take i xs ++ x ∷ [] =
    take_more xs i x (slice_get_within xs i x here) ∙ ap (λ y. take i xs ++ y ∷ []) (get_or_from_slice_get xs i x x here) in
    put ∙ (ap (λ l. l ++ f x) h
    ∙ (ap (λ l. flat_map f (take i xs) ++ l) (sym (append-nil (f x)))
    ∙ (sym (flat_map-append f (take i xs) (x ∷ [])) ∙ ap (flat_map f) (sym on))))

pub even_more : (f : FormatView) (ps : List Pulse) (xs : List Seen) (i : ℕ) (y : Seen) (old new : List Shown) (r : Bool) (odd : List Odd)
    → slice_get xs i ≡ Some y → old ≡ flat_map (even_by f ps) (take i xs) → new ≡ old ++ even_if r y.shown → r ≡ (length odd == 0) → odd ≡ odd_by f ps y
    → new ≡ flat_map (even_by f ps) (take (i + 1) xs)
even_more f ps xs i y old new r odd here h put is all =
    flat_more (even_by f ps) xs i y old new here h (put ∙ (λ j. old ++ even_if ((is ∙ ap (λ l. length l == 0) all) j) y.shown))
