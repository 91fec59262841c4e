-- What damage costs, in numbers. This project's own: COSTS.md has the reasons.
use Rattle.std.specs.Prelude.{◌≡◌, ◌∷◌, ◌^◌, []}
use Rattle.irig_explaining.specs.declared.table.TheConstants.{CANNOT, EXTRA, HALF, JUMP, LOGARITHMS}
use Rattle.irig_explaining.specs.declared.table.TheConstants.{MISSING, MORE, NOTHING, NO_FALL}
use Rattle.irig_explaining.specs.declared.table.TheConstants.{OFF_LINE, ONE, PART, SKIP, STEP}
use Rattle.irig_explaining.specs.declared.table.TheConstants.{TREMBLE, TURNED, WIDTH}
use Rattle.irig_explaining.specs.declared.table.TheConstants.{WIDTH_MORE, WIDTH_MOST, WINDOW}

-- The other definitions have the names of these numbers alone. Parts are those of a microsecond,
-- the window is in rises, half of the distances around a rise are on each side of it.
pub record DamageCosts : Type 0 where
  pub noise : (SKIP ≡ 128) × (EXTRA ≡ 32) × (MORE ≡ 8) × (NOTHING ≡ 112)
  pub wire : (TURNED ≡ 96) × (NO_FALL ≡ 96) × (ONE ≡ 10)
  pub width : (WIDTH ≡ 48) × (WIDTH_MORE ≡ 128) × (WIDTH_MOST ≡ 96)
  pub late : (OFF_LINE ≡ 80) × (TREMBLE ≡ 48)
  pub time : (MISSING ≡ 72) × (STEP ≡ 192) × (JUMP ≡ 256) × (CANNOT ≡ 2 ^ 24)
  pub clock : (HALF ≡ 15) × (PART ≡ 256) × (WINDOW ≡ 64)
  pub logarithms : LOGARITHMS ≡ 0 ∷ 0 ∷ 11 ∷ 18 ∷ 22 ∷ 26 ∷ 29 ∷ 31 ∷ 33 ∷ 35 ∷ 37 ∷ 38 ∷ 40 ∷ 41
      ∷ 42 ∷ 43 ∷ []
