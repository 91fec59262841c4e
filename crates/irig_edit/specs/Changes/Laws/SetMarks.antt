-- A mark that is set, and set back. This project's own.
use Rattle.std.proofs.Common.{◌≡◌, ◌<◌, ℕ, suc, zero, List, [], ◌∷◌, Option, None, length, get_or}
use Rattle.std.proofs.Common.{slice_set, refl, ap, arith}
use Rattle.std.specs.List.{AllByRecursion}
use Rattle.irig_edit.specs.State.State.{IsMark}

-- a mark set, and set back
pub mark_back : (letter : ℕ) (time : Option ℕ) (marks : List (Option ℕ)) → letter < length marks
    → slice_set (slice_set marks letter time) letter (get_or marks letter None) ≡ marks
mark_back letter time [] there = absurd (omega (arith, there))
mark_back zero time (mark ∷ marks) there = refl
mark_back (suc letter) time (mark ∷ marks) there =
    ap (λ (ms : List (Option ℕ)). mark ∷ ms) (mark_back letter time marks (omega (arith, there)))

-- a mark set is read
pub mark_read : (letter : ℕ) (time : Option ℕ) (marks : List (Option ℕ)) → letter < length marks
    → get_or (slice_set marks letter time) letter None ≡ time
mark_read letter time [] there = absurd (omega (arith, there))
mark_read zero time (mark ∷ marks) there = refl
mark_read (suc letter) time (mark ∷ marks) there =
    mark_read letter time marks (omega (arith, there))

-- a mark among others is within the length
pub mark_within : (micros letter : ℕ) (marks : List (Option ℕ)) → letter < length marks
    → AllByRecursion (IsMark micros) marks
    → IsMark micros (get_or marks letter None)
mark_within micros letter [] there within = absurd (omega (arith, there))
mark_within micros zero (mark ∷ marks) there within = within.0
mark_within micros (suc letter) (mark ∷ marks) there within =
    mark_within micros letter marks (omega (arith, there)) within.1

-- a mark set leaves as many
pub length-set : (letter : ℕ) (time : Option ℕ) (marks : List (Option ℕ))
    → length (slice_set marks letter time) ≡ length marks
length-set letter time [] = refl
length-set zero time (mark ∷ marks) = refl
length-set (suc letter) time (mark ∷ marks) = ap suc (length-set letter time marks)

-- and within the length
pub all-set : (micros letter : ℕ) (time : Option ℕ) (marks : List (Option ℕ))
    → IsMark micros time → AllByRecursion (IsMark micros) marks
    → AllByRecursion (IsMark micros) (slice_set marks letter time)
all-set micros letter time [] new within = tt
all-set micros zero time (mark ∷ marks) new within = (new, within.1)
all-set micros (suc letter) time (mark ∷ marks) new within =
    (within.0, all-set micros letter time marks new within.1)
