-- What the wire between two rises costs. This project's own.
use Rattle.std.specs.Prelude.{ℕ, ◌+◌, ◌-◌, ◌*◌, ◌/◌, ◌==◌, List, drop, length, max, min, nat_le}
use Rattle.std.specs.Prelude.{take, if◌then◌else◌}
use Rattle.std.specs.List.{count_by}
use Rattle.irig_explaining.specs.declared.{prices.Prices.Prices, pulse.Pulse.Pulse, role.Role.Role}
use Rattle.irig_explaining.specs.declared.stretch.Stretch.{Stretch}
use Rattle.irig_explaining.specs.declared.table.TheConstants.{PART, SKIP, NOTHING}
use Rattle.irig_explaining.specs.Distances.{rise_at, interval_at}
use Rattle.irig_explaining.specs.{Looks.extra, Looks.high, Looks.inside, Looks.look, Looks.role_look}
use Rattle.irig_explaining.specs.{Missing.missing}

-- the pulses from a rise on that an element can have, and where its wire ends if the next claim is
-- not about the element after it
abbrev pub near : Prices → ℕ → List Pulse
near p r = take 12 (drop r p.pulses.now)

abbrev pub wire_end : Prices → ℕ → ℕ
wire_end p r = rise_at p r + 15 * interval_at p r / (16 * PART)

-- the wire from a rise to a moment, and what it costs as a pulse of some tenths, and as an element
-- of a role
abbrev pub stretch : Prices → ℕ → ℕ → Stretch
stretch p r end = record {
  begin = rise_at p r;
  end = end;
  interval = interval_at p r;
  width_spread = p.clock.now.width_spread;
  extra = extra (length (inside end (near p r)));
  high = high end (inside end (near p r));
}

abbrev pub as_pulse : Prices → ℕ → ℕ → ℕ → ℕ
as_pulse p tenths r end = look (stretch p r end) tenths (near p r)

abbrev pub element : Prices → Role → ℕ → ℕ → ℕ
element p role r end = role_look (stretch p r end) role (near p r)

-- how many rises are passed over between the wire of an element and the next claimed rise
abbrev pub passed : Prices → ℕ → ℕ → ℕ
passed p r q =
    count_by (λ x. nat_le (wire_end p r) x.rise) (take (q - (r + 1)) (drop (r + 1) p.pulses.now))

-- what is passed over costs: elements without a rise, and rises that are no element
abbrev pub between : Prices → ℕ → ℕ → ℕ → ℕ
between p r q count = min (missing (count - 1) + SKIP * passed p r q) (NOTHING * max 1 (count - 1))

-- what the wire between two rises costs as an element of a role, and others without a rise
abbrev pub wire : Prices → Role → ℕ → ℕ → ℕ → ℕ
wire p role r q count =
    if count == 1 then element p role r (rise_at p q)
    else element p role r (wire_end p r) + between p r q count
