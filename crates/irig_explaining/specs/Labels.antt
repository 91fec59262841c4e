-- The places that steps give in a recording: how far elements are ahead of a steady clock. This
-- project's own.
use Rattle.std.specs.Prelude.{ℕ, ◌+◌, ◌*◌, ◌/◌, length, max}
use Rattle.irig_explaining.specs.declared.{claim.Kind.Kind, prices.Prices.Prices}
use Rattle.irig_explaining.specs.declared.claim.Kind.TheVariants.{Next, Step, Jump}
use Rattle.irig_explaining.specs.declared.table.TheConstants.{PART}
use Rattle.irig_explaining.specs.Distances.{rise_at}
use Rattle.irig_explaining.specs.Priced.{ahead}

-- how far an element is ahead of the number that half the longest interval gives a rise
abbrev pub label : Prices → ℕ → ℕ → ℕ
label p r e = ahead (length p.roles.now) (2 * PART * rise_at p r / max 1 p.clock.now.longest) e

-- a step that goes on gives both labels, and a jump no element
abbrev pub place : Prices → ℕ → ℕ → ℕ → ℕ → Kind → ℕ
place p r e q f Next = label p r e * length p.roles.now + label p q f
place p r e q f Step = label p r e * length p.roles.now + label p q f
place p r e q f Jump = length p.roles.now * length p.roles.now
