-- What elements cost that have no rise. This project's own.
use Rattle.std.specs.Prelude.{ℕ, zero, suc, ◌+◌, ◌*◌, ◌/◌, nat_lt, if◌then◌else◌, slice_index_or}
use Rattle.irig_explaining.specs.declared.table.TheConstants.{LOGARITHMS, MISSING}

-- a number is halved until the table has its logarithm; it is at most halved as often as the first
-- number says
abbrev pub halved : ℕ → ℕ → ℕ
halved zero n = 0
halved (suc left) n =
    if nat_lt n 16 then slice_index_or LOGARITHMS n 0 else 11 + halved left (n / 2)

-- sixteen times the natural logarithm of a number from 1 on, about
abbrev pub logarithm : ℕ → ℕ
logarithm n = halved n n

-- one long hole is likelier than two: they cost more the more there are, but each the less
abbrev pub missing : ℕ → ℕ
missing zero = 0
missing (suc n) = MISSING + 6 * logarithm (suc n) / 5
