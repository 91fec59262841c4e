-- How many elements a step goes over. This project's own.
use Rattle.std.specs.Prelude.{ℕ, ◌%◌, ◌==◌, ◌&&◌, Option, Some, None, length, nat_lt, if◌then◌else◌}
use Rattle.irig_explaining.specs.declared.{claim.Claim.Claim, claim.Kind.Kind, prices.Prices.Prices}
use Rattle.irig_explaining.specs.declared.claim.Kind.TheVariants.{Next, Step, Jump}
use Rattle.irig_explaining.specs.{Distances.gone, Priced.ahead, Priced.counted}

-- from a claim to one of a later rise; none, if the clock allows no such step
abbrev pub count_between : Prices → Claim → Claim → Option ℕ
count_between p c d =
    if nat_lt c.rise d.rise && nat_lt d.rise (length p.pulses.now)
    then counted (length p.roles.now) (ahead (length p.roles.now) c.element d.element)
    (gone p c.rise d.rise)
    else None

-- of each kind, by how far ahead the element is, and by how many elements the clock says: a step in
-- time goes over as many, or to the next element, and a jump says nothing
abbrev pub over_by : Kind → ℕ → ℕ → ℕ → Option ℕ
over_by Next size a n = counted size a n
over_by Step size a n = Some (if a == n % size then n else 1)
over_by Jump size a n = None

abbrev pub over : Prices → Claim → Claim → Option ℕ
over p c d =
    if nat_lt c.rise d.rise && nat_lt d.rise (length p.pulses.now)
    then over_by d.kind (length p.roles.now) (ahead (length p.roles.now) c.element d.element)
    (gone p c.rise d.rise)
    else None
