-- Which chains of frames are of one story, and which story is mixed with another one. The story of
-- a chain is it and all chains near it that agree with it. This project's own.
use Rattle.std.specs.Prelude.{ℕ, zero, suc, ◌+◌, ◌-◌, ◌*◌, ◌==◌, ◌&&◌, ◌||◌, nat_le, nat_lt, not}
use Rattle.std.specs.Prelude.{Bool, false, List, length, max, min, slice_get, Option, Some, None}
use Rattle.std.specs.Prelude.{if◌then◌else◌}
use Rattle.irig_codes.specs.Format.{FormatView}
use Rattle.irig_law.specs.{Chains.agree, declared.chain.Chain.Chain}

-- one of n places from one on; the sum over them
abbrev pub any_from : (ℕ → Bool) → ℕ → ℕ → Bool
any_from test k zero = false
any_from test k (suc n) = test k || any_from test (k + 1) n

abbrev pub sum_from : (ℕ → ℕ) → ℕ → ℕ → ℕ
sum_from count k zero = 0
sum_from count k (suc n) = count k + sum_from count (k + 1) n

-- the last frame of a chain agrees with the first one of a later chain
abbrev pub is_linked : FormatView → ℕ → Option Chain → Option Chain → Bool
is_linked f century (Some c) (Some d) = agree f century c.last d.first
is_linked f century c d = false

-- two chains are of one story: the same one; or near each other, up to 495 chains, and linked
abbrev pub of_one : FormatView → ℕ → List Chain → ℕ → ℕ → Bool
of_one f century cs i k =
    (i == k) || (nat_le (max i k - min i k) 495
    && is_linked f century (slice_get cs (min i k)) (slice_get cs (max i k)))

-- how many frames the story of a chain has
abbrev pub frames_in : Option Chain → ℕ
frames_in None = 0
frames_in (Some c) = c.many

abbrev pub share : FormatView → ℕ → List Chain → ℕ → ℕ → ℕ
share f century cs i k = if of_one f century cs i k then frames_in (slice_get cs k) else 0

abbrev pub size_of : FormatView → ℕ → List Chain → ℕ → ℕ
size_of f century cs i =
    sum_from (share f century cs i) (i - 495) (min (length cs) (i + 496) - (i - 495))

-- chain k is of the story of j and not of that of i, and one of the story of i is between j and k
abbrev pub is_beyond : FormatView → ℕ → List Chain → ℕ → ℕ → ℕ → Bool
is_beyond f century cs i j k =
    of_one f century cs j k && (not (of_one f century cs i k)
    && any_from (of_one f century cs i) (j + 1) (k - (j + 1)))

-- another story, that of j, has a chain before one of the story of i and one after it, and at least
-- half as many frames
abbrev pub surrounds : FormatView → ℕ → List Chain → ℕ → ℕ → Bool
surrounds f century cs i j =
    not (of_one f century cs i j)
    && (nat_le (size_of f century cs i) (2 * size_of f century cs j)
    && any_from (is_beyond f century cs i j) (j + 1) (min (length cs) (j + 496) - (j + 1)))

abbrev pub is_doubted : FormatView → ℕ → List Chain → ℕ → Bool
is_doubted f century cs i =
    any_from (surrounds f century cs i) (i - 990) (min (length cs) (i + 495) - (i - 990))

-- the frames of a chain are believed: its story has more than one, and is not doubted
abbrev pub is_right : FormatView → ℕ → List Chain → ℕ → Bool
is_right f century cs i =
    nat_lt i (length cs)
    && (nat_lt 1 (size_of f century cs i) && not (is_doubted f century cs i))
