-- Stretches without a time are joined, and how long they are. This project's own.
use Rattle.std.specs.Prelude.{◌==◌, ◌&&◌, ◌+◌, ◌-◌, ℕ, Bool, List, [], ◌∷◌, if◌then◌else◌}
use Rattle.irig_times.specs.declared.why.Why.TheVariants.{After, Before, Hole, Step, Unbelieved}
use Rattle.irig_times.specs.{declared.why.Why.Why}
use Rattle.irig_stamps.specs.declared.stretch.Stretch.{Stretch}

-- a stretch, in microseconds
abbrev pub stretch : ℕ → ℕ → Why → Stretch
stretch begin end why = record { begin = begin; end = end; why = why }

-- the same reason: reasons by numbers
abbrev pub number_of : Why → ℕ
number_of Before = 0
number_of After = 1
number_of Hole = 2
number_of Step = 3
number_of Unbelieved = 4

-- some stretches, from the last to the first, with one more: joined to the last, if it touches it
-- and has its reason
abbrev pub touches : Stretch → Stretch → Bool
touches s t = (s.end == t.begin) && (number_of s.why == number_of t.why)

abbrev pub with_more : List Stretch → Stretch → List Stretch
with_more [] t = t ∷ []
with_more (s ∷ before) t =
    if touches s t then stretch s.begin t.end s.why ∷ before else t ∷ s ∷ before

-- how long they are together
abbrev pub total : List Stretch → ℕ
total [] = 0
total (s ∷ before) = (s.end - s.begin) + total before
