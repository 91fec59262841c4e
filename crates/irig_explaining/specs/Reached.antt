-- The elements to which a step goes on from a claim, or from which it leads to one. This project's
-- own.
use Rattle.std.specs.Prelude.{ℕ, ◌≡◌, ◌+◌, ◌-◌, ◌*◌, ◌^◌, ◌≤◌, Bool, true, false, nat_le, nat_lt}
use Rattle.std.specs.Prelude.{if◌then◌else◌, ◌==◌, ◌||◌}
use Rattle.irig_explaining.specs.declared.reach.Reach.{Reach}

-- a number round a frame of some elements, once at most
abbrev pub round : ℕ → ℕ → ℕ
round size n = if nat_lt n size then n else n - size

-- how many elements a step goes on to an element, or from it
abbrev pub leads : Reach → ℕ → ℕ
leads r e = round r.size (if r.turned then r.origin - e else r.origin + e)

-- that is hardly more than the clock says, or hardly less, or one element; or the element is none
-- of a frame
abbrev pub is_on : Reach → ℕ → ℕ → Bool
is_on r a more =
    nat_le more r.spare || (nat_le r.size (more + r.spare) || (nat_le r.size 1 || a == 1))

abbrev pub reaches : Reach → ℕ → Bool
reaches r e = nat_le r.size e || is_on r (leads r e) (round r.size (leads r e + r.turn))

-- the same elements by numbers
abbrev pub count : Reach → ℕ → ℕ
count r states = 2 * r.spare + 2 + (states - r.size)

abbrev pub ahead_at : Reach → ℕ → ℕ
ahead_at r i = round r.size (round r.size (i + r.size - r.spare) + (r.size - r.turn))

abbrev pub led : Reach → ℕ → ℕ
led r a = round r.size (if r.turned then r.origin - a else a + (r.size - r.origin))

abbrev pub reached : Reach → ℕ → ℕ
reached r i =
    if nat_lt (2 * r.spare + 1) i then r.size + (i - (2 * r.spare + 1) - 1)
    else if i == 2 * r.spare + 1 then led r (if nat_le r.size 1 then 0 else 1)
    else led r (ahead_at r i)

-- what is said of a frame fits
pub record IsReach (r : Reach) : Type 0 where
  pub few : r.size ≤ 2 ^ 31
  pub origin : r.origin ≤ 2 * r.size - 1
  pub forth : r.turned ≡ false → r.origin ≤ r.size
  pub back : r.turned ≡ true → r.size ≤ r.origin
  pub turn : r.turn ≤ r.size
  pub spare : r.spare ≤ 5
