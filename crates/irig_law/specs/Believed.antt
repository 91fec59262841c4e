-- WHICH FRAMES ARE BELIEVED: those whose story is not mixed with another one that is as long. This
-- project's own.
use Rattle.std.specs.Prelude.{ℕ, ◌+◌, ◌==◌, ◌||◌, Bool, false, List, [], ◌∷◌, if◌then◌else◌, Option}
use Rattle.std.specs.Prelude.{Some, None, length, map, slice_get}
use Rattle.irig_codes.specs.Format.{FormatView}
use Rattle.irig_recording.specs.declared.pulse.Pulse.{Pulse}
use Rattle.irig_law.specs.{Chains.agree, Chains.chains_of, Chains.fine_frames, OfOne.is_right}
use Rattle.irig_law.specs.{declared.fine.Fine.Fine, declared.frame.Frame.Frame}

-- whether a list has `true` at a place
abbrev pub is_true_in : Option Bool → Bool
is_true_in None = false
is_true_in (Some b) = b

abbrev pub is_true_at : List Bool → ℕ → Bool
is_true_at list i = is_true_in (slice_get list i)

-- one more frame before others, if its chain is right
abbrev pub with_frame : Bool → Fine → List Frame → List Frame
with_frame right x rest = if right then (x.frame ∷ rest) else rest

-- the number of the chain of a frame, if the frame before it is of the chain n
abbrev pub chain_after : FormatView → ℕ → ℕ → Fine → Fine → ℕ
chain_after f century n before x = if agree f century before x then n else n + 1

-- the frames of the chains that are right, after a frame of the chain n
abbrev pub kept_from : FormatView → ℕ → (ℕ → Bool) → ℕ → Fine → List Fine → List Frame
kept_from f century right n before [] = []
kept_from f century right n before (x ∷ xs) =
    with_frame (right (chain_after f century n before x)) x
    (kept_from f century right (chain_after f century n before x) x xs)

abbrev pub kept : FormatView → ℕ → (ℕ → Bool) → List Fine → List Frame
kept f century right [] = []
kept f century right (x ∷ xs) =
    with_frame (right 0) x (kept_from f century right 0 x xs)

-- those; or each frame that reads well, if each is to be believed alone, or if there is only one
abbrev pub believed_in : FormatView → Bool → ℕ → List Fine → List Frame
believed_in f alone century xs =
    if alone || (length xs == 1) then map (λ x. x.frame) xs
    else kept f century (is_right f century (chains_of f century xs)) xs

abbrev pub believed : FormatView → Bool → ℕ → List Pulse → List Frame
believed f alone century ps = believed_in f alone century (fine_frames f ps)
