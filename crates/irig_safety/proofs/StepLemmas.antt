-- Pulses in step, one by one.
use Rattle.std.proofs.Common.{◌≡◌, ◌∙◌, ◌+◌, ◌-◌, ◌++◌, ◌≤◌, ◌<◌, ℕ, zero, suc, Bool, List, [], ◌∷◌, Some, add-one, ap, append_assoc, arith, drop, drop-cons, length}
use Rattle.std.proofs.Common.{min, refl, slice_get, sym}
use Rattle.std.proofs.lemmas.{List.append-nil, List.drop_all, Option.get_or_from_slice_get, Option.slice_get_within}
use Rattle.irig_codes.specs.Format.{FormatView}
use Rattle.irig_recording.specs.declared.pulse.Pulse.{Pulse}
use Rattle.irig_safety.specs.InStep.{is_in_step, loose_from, rise_at, step_if, steps_among}

-- no pulse yet
pub steps_none : (f : FormatView) (ps : List Pulse) (from n : ℕ) (old : List ℕ) → n ≡ from → old ≡ old ++ steps_among f ps from (n - from)
steps_none f ps from n old at =
    let none : n - from ≡ 0 = omega (arith, at) in
    sym (ap (λ k. old ++ steps_among f ps from k) none ∙ append-nil old)

-- one more
pub steps_more : (f : FormatView) (ps : List Pulse) (from n t : ℕ) (so : Bool) (old mid new : List ℕ) → from ≤ n → so ≡ is_in_step f ps n → t ≡ rise_at ps n
    → mid ≡ old ++ steps_among f ps from (n - from) → new ≡ mid ++ step_if so t → new ≡ old ++ steps_among f ps from (n + 1 - from)
steps_more f ps from n t so old mid new past is at h put =
    let more : n + 1 - from ≡ suc (n - from) = omega arith in
    let here : from + (n - from) ≡ n = omega arith in
    let one : step_if so t ≡ step_if (is_in_step f ps (from + (n - from))) (rise_at ps (from + (n - from))) =
    (λ i. step_if (is i) (at i)) ∙ ap (λ k. step_if (is_in_step f ps k) (rise_at ps k)) (sym here) in
    put ∙ ((λ i. h i ++ one i) ∙ (append_assoc old (steps_among f ps from (n - from)) _ ∙ ap (λ k. old ++ steps_among f ps from k) (sym more)))

-- all
pub steps_all : (f : FormatView) (ps : List Pulse) (from n to : ℕ) (old new : List ℕ) → to ≤ n → n - from ≤ to - from
    → new ≡ old ++ steps_among f ps from (n - from) → new ≡ old ++ steps_among f ps from (to - from)
steps_all f ps from n to old new past most h =
    let same : n - from ≡ to - from = omega arith in h ∙ ap (λ k. old ++ steps_among f ps from k) same

drop_marker : (xs : List ℕ) (i x : ℕ) → slice_get xs i ≡ Some x → drop i xs ≡ x ∷ drop (i + 1) xs
drop_marker xs i x e = rw add-one
    (drop-cons xs i x (slice_get_within xs i x e) ∙ ap (λ y. y ∷ drop (suc i) xs) (get_or_from_slice_get xs i x x e))

-- with those after the frames from a place on, all loose pulses
abbrev pub IsLoose : FormatView → List Pulse → List ℕ → List ℕ → ℕ → ℕ → Type 0
IsLoose f ps markers loose from i = loose ++ loose_from f ps from (drop i markers) ≡ loose_from f ps 0 markers

pub loose_more : (f : FormatView) (ps : List Pulse) (markers : List ℕ) (i m from next : ℕ) (loose more : List ℕ) → slice_get markers i ≡ Some m
    → more ≡ loose ++ steps_among f ps from (m - from) → next ≡ min (m + 100) (length ps) → IsLoose f ps markers loose from i
    → IsLoose f ps markers more next (i + 1)
loose_more f ps markers i m from next loose more here put at h =
    let rest : List ℕ = drop (i + 1) markers in
    (λ j. put j ++ loose_from f ps (at j) rest)
    ∙ (append_assoc loose (steps_among f ps from (m - from)) (loose_from f ps (min (m + 100) (length ps)) rest)
    ∙ (ap (λ l. loose ++ loose_from f ps from l) (sym (drop_marker markers i m here)) ∙ h))

pub loose_all : (f : FormatView) (ps : List Pulse) (markers : List ℕ) (i from : ℕ) (loose all : List ℕ) → length markers ≤ i
    → all ≡ loose ++ steps_among f ps from (length ps - from) → IsLoose f ps markers loose from i → all ≡ loose_from f ps 0 markers
loose_all f ps markers i from loose all past put h =
    put ∙ (ap (λ l. loose ++ loose_from f ps from l) (sym (drop_all i markers past)) ∙ h)
