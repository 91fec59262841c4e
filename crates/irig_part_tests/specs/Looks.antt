-- Rises that look like elements: what a step costs, and the place it gives. This project's own.
use Rattle.std.specs.Prelude.{ℕ, ◌+◌, ◌-◌, ◌*◌, ◌%◌, List, Bool, true, false, min, nat_eq, slice_index_or}
use Rattle.irig_explaining.specs.declared.claim.Kind.{Kind}
use Rattle.irig_explaining.specs.declared.claim.Kind.TheVariants.{Next, Step, Jump}

-- a step to the next element, one in time, and a jump; each to the next element or to another
abbrev pub kind_price : Kind → Bool → ℕ
kind_price Next true = 0
kind_price Next false = 50
kind_price Step true = 12
kind_price Step false = 60
kind_price Jump is_next = 16

-- a claim that a rise is what it looks like, or not
abbrev pub seen_price : Bool → ℕ
seen_price true = 0
seen_price false = 20

-- a step: each rise that it passes over, nine at most, what its claim says of the rise, its kind
abbrev pub look_price : List ℕ → ℕ → ℕ → ℕ → ℕ → Kind → ℕ
look_price looks r e q f k = 8 * min (q - r - 1) 9
    + seen_price (nat_eq (slice_index_or looks q 100) f)
    + kind_price k (nat_eq ((e % 100 + 1) % 100) f)

-- how far the element is ahead of the number of the rise
abbrev pub look_place : ℕ → ℕ → ℕ
look_place q f = (f % 100 + 100 - q % 100) % 100
