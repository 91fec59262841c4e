-- Why frames are not safe by former ones: the first fault in the order of their rises. This
-- project's own.
use Rattle.std.specs.Prelude.{◌≡◌, ◌<◌, ◌⊎◌, ◌-◌, ℕ, List, [], ◌∷◌, Option, Some, None, drop}
use Rattle.irig_codes.specs.Format.{FormatView}
use Rattle.irig_safety.specs.Safety.{AreOfThemselves, Comes, IsSafeFrom, NoneIsSpoiled, Stays}
use Rattle.irig_safety.specs.{Safety.behind, Terms.OthersView}
use Rattle.irig_safety.specs.declared.fault.Fault.{Fault}
use Rattle.irig_safety.specs.declared.fault.Fault.TheVariants.{Alone, Changed, Lost, Unsupported}
use Rattle.irig_safety.specs.declared.shown.Shown.{Shown}

-- the next frame is at fault; or it is not, and a later one is
abbrev pub NextOrLater : Type 0 → Fault → Fault → Type 0 → Type 0
NextOrLater Sound next why Later = ((Sound → ⊥) × (why ≡ next)) ⊎ (Sound × Later)

-- the first fault. The two frames that were before the first of the former are known
abbrev pub FaultFrom : FormatView → OthersView → Option Shown → Option Shown → List Shown
    → List Shown → Fault → Type 0
FaultFrom f others a2 a [] [] why = ⊥
FaultFrom f others a2 a (o ∷ old) [] why = why ≡ Lost o
FaultFrom f others a2 a [] (n ∷ new) why =
    NextOrLater (Comes f a2 a [] n) (Unsupported n) why (FaultFrom f others a2 a [] new why)
FaultFrom f others a2 a (o ∷ old) (n ∷ new) why =
    ((o.rise ≡ n.rise) × NextOrLater (Stays f others a2 a o old n) (Changed o) why
    (FaultFrom f others a (Some o) old new why))
    ⊎ (((n.rise < o.rise) × NextOrLater (Comes f a2 a (o ∷ old) n) (Unsupported n) why
    (FaultFrom f others a2 a (o ∷ old) new why))
    ⊎ ((o.rise < n.rise) × (why ≡ Lost o)))

-- frames are safe, or have this fault
abbrev pub JudgedFrom : FormatView → OthersView → Option Shown → Option Shown → List Shown
    → List Shown → Option Fault → Type 0
JudgedFrom f others a2 a old new None = IsSafeFrom f others a2 a old new
JudgedFrom f others a2 a old new (Some why) = FaultFrom f others a2 a old new why

-- so from a place of the former on
abbrev pub JudgedAt : FormatView → OthersView → List Shown → ℕ → List Shown → Option Fault → Type 0
JudgedAt f others old k new found =
    JudgedFrom f others (behind (k - 1) old) (behind k old) (drop k old) new found

-- why frames are not safe by those of the recording, and frames of other recordings
abbrev pub IsFault : FormatView → OthersView → List Shown → List Shown → Fault → Type 0
IsFault f others [] new why = (AreOfThemselves f new → ⊥) × (why ≡ Alone)
IsFault f others (o ∷ old) new why = FaultFrom f others None None (o ∷ old) new why

-- the first frame that read well and does not now, at its time
abbrev pub IsSpoiledBy : List Shown → List Shown → Fault → Type 0
IsSpoiledBy [] new why = ⊥
IsSpoiledBy (x ∷ last) [] why = why ≡ Lost x
IsSpoiledBy (x ∷ last) (n ∷ new) why =
    ((x.rise ≡ n.rise) × IsSpoiledBy last new why)
    ⊎ (((n.rise < x.rise) × IsSpoiledBy (x ∷ last) new why)
    ⊎ ((x.rise < n.rise) × (why ≡ Lost x)))

-- none is spoiled, or this one is
abbrev pub Finds : List Shown → List Shown → Option Fault → Type 0
Finds last new None = NoneIsSpoiled last new
Finds last new (Some why) = IsSpoiledBy last new why
