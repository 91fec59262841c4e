-- Elements that carry a number, one by one and in runs: this project's own.
use Rattle.std.specs.Prelude.{ℕ, zero, suc, ◌+◌, ◌*◌, List, [], ◌∷◌, ◌++◌}

-- an element that carries a field, and how much it counts while it is One
pub record Row : Type 0 where
  pub element : ℕ
  pub weight : ℕ

-- n elements from e on; the first has the weight w, each further one twice the weight before it
abbrev pub doubling : ℕ → ℕ → ℕ → List Row
doubling e w zero = []
doubling e w (suc n) = record { element = e; weight = w } ∷ doubling (e + 1) (2 * w) n

-- a run of elements: the first, how much it counts, and how many there are. Each further one counts
-- twice as much as the one before it
pub record Run : Type 0 where
  pub first : ℕ
  pub weight : ℕ
  pub count : ℕ

-- the same by its three numbers
abbrev pub run : ℕ → ℕ → ℕ → Run
run e w n = record { first = e; weight = w; count = n }

-- the rows of runs
abbrev pub rows : List Run → List Row
rows [] = []
rows (r ∷ rs) = doubling r.first r.weight r.count ++ rows rs
