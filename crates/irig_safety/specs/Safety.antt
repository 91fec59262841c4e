-- When what frames show after an edit is safe, by what they showed when the recording was opened.
-- This project's own.
use Rattle.std.specs.Prelude.{◌≡◌, ◌≤◌, ◌<◌, ◌⊎◌, ℕ, zero, suc, true, List, [], ◌∷◌, Option, Some}
use Rattle.std.specs.Prelude.{None, length, slice_get}
use Rattle.irig_codes.specs.Format.{FormatView}
use Rattle.irig_safety.specs.{Bearing.leads, Mended.Mends, Terms.OthersView, Witnesses.is_borne}
use Rattle.irig_safety.specs.declared.shown.Shown.{Shown}

-- the frame before a place, if there is one
abbrev pub behind : ℕ → List Shown → Option Shown
behind zero frames = None
behind (suc n) frames = slice_get frames n

-- a frame that was there is as it was, or was wrong and is mended
abbrev pub Stays : FormatView → OthersView → Option Shown → Option Shown → Shown → List Shown
    → Shown → Type 0
Stays f others a2 a o old n =
    (o ≡ n) ⊎ Mends f others a2 a o (slice_get old 0) (slice_get old 1) n

-- a frame that was not there is borne out by those before it and after it
abbrev pub Comes : FormatView → Option Shown → Option Shown → List Shown → Shown → Type 0
Comes f a2 a old n = is_borne f a2 a (slice_get old 0) (slice_get old 1) n ≡ true

-- The frames that read well are those that did before, each where it was, and others between them.
-- The two frames that were before the first of the former are known.
abbrev pub IsSafeFrom : FormatView → OthersView → Option Shown → Option Shown → List Shown
    → List Shown → Type 0
IsSafeFrom f others a2 a [] [] = Unit {0}
IsSafeFrom f others a2 a (o ∷ old) [] = ⊥
IsSafeFrom f others a2 a [] (n ∷ new) = Comes f a2 a [] n × IsSafeFrom f others a2 a [] new
IsSafeFrom f others a2 a (o ∷ old) (n ∷ new) =
    ((o.rise ≡ n.rise) × Stays f others a2 a o old n × IsSafeFrom f others a (Some o) old new)
    ⊎ ((n.rise < o.rise) × Comes f a2 a (o ∷ old) n × IsSafeFrom f others a2 a (o ∷ old) new)

-- each frame leads to the next
abbrev pub LeadOn : FormatView → List Shown → Type 0
LeadOn f [] = Unit {0}
LeadOn f (x ∷ []) = Unit {0}
LeadOn f (x ∷ y ∷ frames) = (leads f x y ≡ true) × LeadOn f (y ∷ frames)

-- of a recording in which no frame reads well: none does now, or at least three do, each of which
-- leads to the next
abbrev pub AreOfThemselves : FormatView → List Shown → Type 0
AreOfThemselves f new = (length new ≡ 0) ⊎ ((3 ≤ length new) × LeadOn f new)

-- frames are safe by those of the recording, and frames of other recordings
abbrev pub IsSafe : FormatView → OthersView → List Shown → List Shown → Type 0
IsSafe f others [] new = AreOfThemselves f new
IsSafe f others (o ∷ old) new = IsSafeFrom f others None None (o ∷ old) new

-- each frame that read well still does, at its time
abbrev pub NoneIsSpoiled : List Shown → List Shown → Type 0
NoneIsSpoiled [] new = Unit {0}
NoneIsSpoiled (x ∷ last) [] = ⊥
NoneIsSpoiled (x ∷ last) (n ∷ new) =
    ((x.rise ≡ n.rise) × NoneIsSpoiled last new)
    ⊎ ((n.rise < x.rise) × NoneIsSpoiled (x ∷ last) new)
