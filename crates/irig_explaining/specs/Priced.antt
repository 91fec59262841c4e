-- What a step costs in a recording, by its wire and its clock. This project's own.
use Rattle.std.specs.Prelude.{ℕ, ◌+◌, ◌-◌, ◌*◌, ◌%◌, ◌==◌, ◌&&◌, ◌||◌, Bool, Option, Some, None}
use Rattle.std.specs.Prelude.{length, max, min, nat_lt, slice_index_or, if◌then◌else◌}
use Rattle.irig_explaining.specs.declared.{claim.Kind.Kind, prices.Prices.Prices, role.Role.Role}
use Rattle.irig_explaining.specs.declared.claim.Kind.TheVariants.{Next, Step, Jump}
use Rattle.irig_explaining.specs.declared.role.Role.TheVariants.{Unused}
use Rattle.irig_explaining.specs.declared.table.TheConstants.{OFF_LINE, STEP, JUMP, CANNOT, TREMBLE}
use Rattle.irig_explaining.specs.Distances.{far, gone, interval, is_off, late}
use Rattle.irig_explaining.specs.{Wires.wire}

-- what any step costs at least: the wire as the clock counts it, and a little for a late rise
abbrev pub tremble : Prices → ℕ → ℕ → ℕ → ℕ
tremble p interval off count =
    if nat_lt (4 * interval) off then TREMBLE else min (late p off count) TREMBLE

abbrev pub least : Prices → Role → ℕ → ℕ → ℕ
least p role r q =
    wire p role r q (gone p r q) + tremble p (interval p r q) (far p r q (gone p r q)) (gone p r q)

-- what a step over that many elements costs
abbrev pub on : Prices → Role → ℕ → ℕ → ℕ → ℕ
on p role r q count =
    if is_off p (interval p r q) (far p r q count) count then CANNOT
    else max (wire p role r q count + min (late p (far p r q count) count) OFF_LINE)
    (least p role r q)

-- how many elements one is after another, of a frame of some elements
abbrev pub ahead : ℕ → ℕ → ℕ → ℕ
ahead size e f = (f % size + size - e % size) % size

-- how many elements more than a number lead as far ahead, and the number that does, if it is at
-- most five from the first one
abbrev pub more : ℕ → ℕ → ℕ → ℕ
more size a n = (a + size - n % size) % size

abbrev pub counted : ℕ → ℕ → ℕ → Option ℕ
counted size a n =
    if nat_lt (more size a n) 6 then Some (n + more size a n)
    else if nat_lt (size - more size a n) (min 6 n) then Some (n - (size - more size a n))
    else None

-- an element, and what a step from it costs that goes on
abbrev pub role_at : Prices → ℕ → Role
role_at p e = slice_index_or p.roles.now e Unused

abbrev pub on_by : Prices → Role → ℕ → ℕ → Option ℕ → ℕ
on_by p role r q None = CANNOT
on_by p role r q (Some count) = on p role r q count

-- the time steps to the next element, or to the one that the clock says
abbrev pub is_next : ℕ → ℕ → ℕ → Bool
is_next size a n = a == 1 % size || a == n % size

-- what a step of a kind costs more than what it passes over
abbrev pub more_by : Kind → ℕ
more_by Next = 0
more_by Step = STEP
more_by Jump = JUMP

-- what a step of a kind costs
abbrev pub price_by : Prices → ℕ → ℕ → ℕ → ℕ → Kind → ℕ
price_by p r e q f Next =
    on_by p (role_at p e) r q
    (counted (length p.roles.now) (ahead (length p.roles.now) e f) (gone p r q))
price_by p r e q f Step =
    if is_next (length p.roles.now) (ahead (length p.roles.now) e f) (gone p r q)
    then STEP + least p (role_at p e) r q else CANNOT
price_by p r e q f Jump = JUMP + least p (role_at p e) r q

-- what a step costs, at most what one costs that there is not; from a rise to one before it, or
-- past the last one, there is no step, and nothing to pay
abbrev pub price : Prices → ℕ → ℕ → ℕ → ℕ → Kind → ℕ
price p r e q f k =
    if nat_lt r q && nat_lt q (length p.pulses.now) then min CANNOT (price_by p r e q f k) else 0
