-- Parts in a row: a text has the lines of each, one after another.
use Rattle.std.proofs.Common.{◌≡◌, ◌+◌, ◌++◌, ◌∷◌, [], ℕ, List, length, refl, ap, ◌∙◌, length-append}
use Rattle.std.specs.List.{AllByRecursion}
use Rattle.irig_saved.specs.SavedText.{pulse_line, pulse_lines, single_lines, singles_lines, step_lines, steps_lines}
use Rattle.irig_recording.specs.declared.pulse.Pulse.{Pulse}

-- the lines of one part, and those of a list of them
pub record Row {X : Type 0} (lines : X → List (List ℕ)) (all : List X → List (List ℕ)) : Type 0 where
  pub none : all [] ≡ []
  pub next : (x : X) (xs : List X) → all (x ∷ xs) ≡ lines x ++ all xs

-- the line of a pulse
abbrev pub one_line : Pulse → List (List ℕ)
one_line p = pulse_line p ∷ []

-- pulses, changes and steps are such rows
pub pulse_row : Row one_line pulse_lines
pulse_row = record { none = refl; next = λ p ps. refl }

pub single_row : Row single_lines singles_lines
single_row = record { none = refl; next = λ x xs. refl }

pub step_row : Row step_lines steps_lines
step_row = record { none = refl; next = λ x xs. refl }

-- the lines of one more are its own and those of the others
pub length_next : {X : Type 0} (lines : X → List (List ℕ)) (all : List X → List (List ℕ)) → Row lines all → (x : X) (xs : List X)
    → length (all (x ∷ xs)) ≡ length (lines x) + length (all xs)
length_next lines all row x xs = ap length (row.next x xs) ∙ length-append (lines x) (all xs)

-- what holds of each of two lists holds of each of both
pub all-append : {X : Type 0} (P : X → Type 0) (xs ys : List X) → AllByRecursion P xs → AllByRecursion P ys → AllByRecursion P (xs ++ ys)
all-append P [] ys one other = other
all-append P (x ∷ xs) ys one other = (one.0, all-append P xs ys one.1 other)
