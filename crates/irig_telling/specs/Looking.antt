-- What the wire says of the class of an element. This project's own.
use Rattle.std.specs.Prelude.{ℕ, ◌==◌, ◌&&◌, Bool, true, false, min, nat_lt, unwrap_or}
use Rattle.std.specs.Prelude.{if◌then◌else◌}
use Rattle.irig_explaining.specs.declared.{claim.Claim.Claim, claim.Kind.Kind, prices.Prices.Prices}
use Rattle.irig_explaining.specs.declared.claim.Kind.TheVariants.{Next, Step, Jump}
use Rattle.irig_explaining.specs.{Between.over, Distances.rise_at, Wires.as_pulse, Wires.wire_end}
use Rattle.irig_telling.specs.declared.look.Look.{Look}

-- a recording can begin within a pulse, so the first one does not have the width of its class
abbrev pub has_look : Claim → Bool
has_look c = nat_lt 0 c.rise

-- the element number and the time go on
abbrev pub goes_on : Kind → Bool
goes_on Next = true
goes_on Step = false
goes_on Jump = false

-- a step leads to the next element
abbrev pub is_next : Prices → Claim → Claim → Bool
is_next p c d = goes_on d.kind && (unwrap_or (over p c d) 0 == 1)

-- the wire of an element ends at the rise of the next one, and no later than by the clock if that
-- is not claimed
abbrev pub end_of : Prices → Claim → Claim → ℕ
end_of p c d =
    if is_next p c d then rise_at p d.rise else min (rise_at p d.rise) (wire_end p c.rise)

-- what it costs as a pulse of two tenths and of five
abbrev pub look : Prices → Claim → Claim → Look
look p c d = record {
  zero = as_pulse p 2 c.rise (end_of p c d);
  one = as_pulse p 5 c.rise (end_of p c d);
}
