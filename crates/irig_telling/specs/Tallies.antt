-- What it costs that an element looks like the other class. This project's own.
use Rattle.std.specs.Prelude.{ℕ, ◌+◌, ◌*◌, ◌/◌, ◌&&◌, Bool, true, false, List, [], ◌∷◌, min, nat_lt}
use Rattle.std.specs.Prelude.{if◌then◌else◌}
use Rattle.std.specs.Int.{abs_diff}
use Rattle.irig_explaining.specs.declared.{claim.Claim.Claim, prices.Prices.Prices, role.Role.Role}
use Rattle.irig_explaining.specs.declared.role.Role.TheVariants.{Unused, Bit, Position}
use Rattle.irig_explaining.specs.{Missing.logarithm, Priced.role_at}
use Rattle.irig_telling.specs.declared.tallying.TheConstants.{CLEAR, CONTRADICTS, USUAL}
use Rattle.irig_telling.specs.declared.{look.Look.Look, tally.Tally.Tally}
use Rattle.irig_telling.specs.{Looking.has_look, Looking.look}

-- an unused element is a zero
abbrev pub is_unused_by : Role → Bool
is_unused_by Unused = true
is_unused_by Bit = false
is_unused_by Position = false

abbrev pub is_unused : Prices → Claim → Bool
is_unused p c = is_unused_by (role_at p c.element)

-- one class costs much more than the other
abbrev pub is_clear : Look → Bool
is_clear l = nat_lt CLEAR (abs_diff l.zero l.one)

-- one clear look more, that of a one if the other class costs more
abbrev pub counted_look : Tally → Look → Tally
counted_look t l =
    record { clear = t.clear + 1; wrong = t.wrong + (if nat_lt l.one l.zero then 1 else 0) }

abbrev pub with_look : Tally → Look → Tally
with_look t l = if is_clear l then counted_look t l else t

-- the clear looks of the unused elements of the claims from one on
abbrev pub with_claim : Prices → Tally → Claim → Claim → Tally
with_claim p t c d = if has_look c && is_unused p c then with_look t (look p c d) else t

abbrev pub tally_from : Prices → Tally → Claim → List Claim → Tally
tally_from p t c [] = t
tally_from p t c (d ∷ ds) = tally_from p (with_claim p t c d) d ds

abbrev pub tally_after : Prices → Claim → List Claim → Tally
tally_after p c ds = tally_from p (record { clear = 0; wrong = 0 }) c ds

abbrev pub tally : Prices → List Claim → Tally
tally p [] = record { clear = 0; wrong = 0 }
tally p (c ∷ cs) = tally_after p c cs

-- the logarithm of how many times as many elements look like their class as do not; before the
-- first one is looked at, as if some did, and a third did not
abbrev pub contradicts : Tally → ℕ
contradicts t = min (logarithm (3 * (t.clear + USUAL) / (3 * t.wrong + 1))) CONTRADICTS

abbrev pub most : Prices → List Claim → ℕ
most p cs = contradicts (tally p cs)
