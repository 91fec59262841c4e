-- What it means that frames are safe, frame by frame. This project's own.
use Rattle.std.specs.Prelude.{◌≡◌, ◌<◌, ◌++◌, ◌⊎◌, ◌-◌, true, List, [], ◌∷◌, None, length}
use Rattle.std.specs.Prelude.{slice_get}
use Rattle.std.specs.List.{AllByRecursion}
use Rattle.irig_codes.specs.Format.{FormatView}
use Rattle.irig_safety.specs.Safety.{IsSafeFrom, behind}
use Rattle.irig_safety.specs.{Mended.Mends, Terms.OthersView, Witnesses.is_borne}
use Rattle.irig_safety.specs.declared.shown.Shown.{Shown}

-- it is one of the frames
pub record IsOneOf (x : Shown) (frames : List Shown) : Type 0 where
  pub before : List Shown
  pub after : List Shown
  pub whole : frames ≡ before ++ x ∷ after

-- each frame begins before all later ones
abbrev pub AreRising : List Shown → Type 0
AreRising [] = Unit {0}
AreRising (x ∷ xs) = AllByRecursion (λ y. x.rise < y.rise) xs × AreRising xs

-- the former frames are those that begin before it and those that begin after it, and the last two
-- of the ones before it and the first two of the ones after it bear it out
pub record IsBorneOut (f : FormatView) (old : List Shown) (y : Shown) : Type 0 where
  pub before : List Shown
  pub after : List Shown
  pub whole : old ≡ before ++ after
  pub earlier : AllByRecursion (λ x. x.rise < y.rise) before
  pub later : AllByRecursion (λ x. y.rise < x.rise) after
  pub borne : is_borne f (behind (length before - 1) before) (behind (length before) before)
      (slice_get after 0) (slice_get after 1) y ≡ true

-- a former frame is another one at the same time: both next to it contradict it, and bear out the
-- other; or it is at an end, and other recordings speak for the other; or the other has other
-- control functions alone, all of which both next to it have; or which other recordings have, and
-- both next to it or the parity, or an odd pulse shows that they are right
pub record IsMended (f : FormatView) (others : OthersView) (old : List Shown) (o n : Shown)
    : Type 0 where
  pub before : List Shown
  pub after : List Shown
  pub whole : old ≡ before ++ o ∷ after
  pub rise : o.rise ≡ n.rise
  pub mended : Mends f others (behind (length before - 1) before) (behind (length before) before)
      o (slice_get after 0) (slice_get after 1) n

-- a former frame is kept, or one of the frames mends it
abbrev pub IsKept : FormatView → OthersView → List Shown → List Shown → Shown → Type 0
IsKept f others old new x =
    IsOneOf x new ⊎ ((n : Shown) × IsOneOf n new × IsMended f others old x n)

-- a frame was there, or mends one that was, or is borne out by those that were
abbrev pub IsTold : FormatView → OthersView → List Shown → Shown → Type 0
IsTold f others old y =
    IsOneOf y old ⊎ (((o : Shown) × IsMended f others old o y) ⊎ IsBorneOut f old y)

-- if frames are safe by former ones, each of the former is kept or mended, and each other one is
-- borne out by the former
abbrev pub SafeMeans : Type 0
SafeMeans = (f : FormatView) (others : OthersView) (old new : List Shown) → AreRising new
    → IsSafeFrom f others None None old new
    → AllByRecursion (IsKept f others old new) old × AllByRecursion (IsTold f others old) new
