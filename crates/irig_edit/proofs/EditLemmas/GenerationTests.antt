-- What the tests of a generation of frames say.
use Rattle.std.proofs.Common.{◌≡◌, ◌≤◌, ◌<◌, ◌+◌, ◌-◌, ◌*◌, ◌^◌, ℕ, Bool, true, false, ◌&&◌, ◌⊎◌, inl, inr, nat_le, length, Some, None, ◌/◌, if◌then◌else◌}
use Rattle.std.proofs.Common.{refl, subst, arith}
use Rattle.std.proofs.lemmas.{Bool.and_parts, Bool.cases_lt, Bool.le-leb, Bool.lt-leb, Bool.Decides.nat_tests, Nat.pow_pos}
use Rattle.std.proofs.Math.Nat.{div-eq_of_lt, div-lt_iff_lt-mul}
use Rattle.irig_codes.specs.Format.{control_count_of}
use Rattle.irig_edit.specs.Edits.Regenerated.{frames_end, rising_before, rising_in}
use Rattle.irig_edit.specs.{Edits.Conditions.are_frames, Edits.Conditions.are_too_many, Edits.Conditions.is_wide, State.State.State}
use Rattle.irig_edit.proofs.StateLemmas.Risings.{before_end}

-- what an end says of the frames
pub end_said : (v : Bool) (n m : ℕ) → (if v then Some n else None) ≡ Some m → (v ≡ true) × (n ≡ m)
end_said true n m h = let same : n ≡ m = cc in (refl, same)
end_said false n m h = absurd (cc)

pub frames_said : (start frames : ℕ) (s : State) → are_frames start frames s ≡ true
    → (1 ≤ frames) × (frames ≤ 10000) × (frames_end s.format start frames ≤ s.micros)
frames_said start frames s h =
    let some = and_parts (nat_le 1 frames) (nat_le frames 10000 && nat_le (frames_end s.format start frames) s.micros) h in
    let few = and_parts (nat_le frames 10000) (nat_le (frames_end s.format start frames) s.micros) some.1 in
    let one : 1 ≤ frames = grind (arith, nat_tests) in
    let most : frames ≤ 10000 = grind (arith, nat_tests) in
    let within : frames_end s.format start frames ≤ s.micros = grind (arith, nat_tests) in
    (one, most, within)

-- how many pulses rise in the stretch, and whether too many come
pub too_many_yes : (start frames at end : ℕ) (s : State) → at ≡ length (rising_before start s.pulses)
    → end ≡ length (rising_before (frames_end s.format start frames) s.pulses)
    → 2 ^ 22 + (end - at) < length s.pulses + 100 * frames → are_too_many start frames s ≡ true
too_many_yes start frames at end s is_at is_end many =
    let sum = before_end start (frames_end s.format start frames) s.pulses (omega arith) in
    let more : 2 ^ 22 + length (rising_in start (frames_end s.format start frames) s.pulses) < length s.pulses + 100 * frames =
    omega (arith, sum, is_at, is_end, many) in
    grind (arith, nat_tests)

pub too_many_no : (start frames at end : ℕ) (s : State) → at ≡ length (rising_before start s.pulses)
    → end ≡ length (rising_before (frames_end s.format start frames) s.pulses)
    → length s.pulses + 100 * frames ≤ 2 ^ 22 + (end - at) → are_too_many start frames s ≡ false
too_many_no start frames at end s is_at is_end few =
    let sum = before_end start (frames_end s.format start frames) s.pulses (omega arith) in
    let less : length s.pulses + 100 * frames ≤ 2 ^ 22 + length (rising_in start (frames_end s.format start frames) s.pulses) =
    omega (arith, sum, is_at, is_end, few) in
    grind (arith, nat_tests)

-- a number that is shifted away
wide_yes : (v p : ℕ) → 0 < v / p → p ≤ v
wide_yes v p some = by_case (cases_lt v p) where
  by_case : (v < p) ⊎ (p ≤ v) → p ≤ v
  by_case (inl less) = absurd (let none : v / p ≡ 0 = div-eq_of_lt less in omega (arith, none, some))
  by_case (inr all) = all

wide_no : (v k : ℕ) → v / 2 ^ k ≤ 0 → v < 2 ^ k
wide_no v k none = let less = (div-lt_iff_lt-mul {k = 2 ^ k} {x = v} {y = 1} (pow_pos k)).0 (omega (arith, none)) in omega (arith, less)

pub is_wide_yes : (control k : ℕ) (s : State) → k ≡ control_count_of s.format → 0 < control / 2 ^ k → is_wide control s ≡ true
is_wide_yes control k s same some =
    let P : ℕ → Type 0 = λ n. 2 ^ n ≤ control in
    let wide : 2 ^ control_count_of s.format ≤ control = subst P same (wide_yes control (2 ^ k) some) in
    le-leb (2 ^ control_count_of s.format) control wide

pub narrow : (control k : ℕ) (s : State) → k ≡ control_count_of s.format → control / 2 ^ k ≤ 0 → control < 2 ^ control_count_of s.format
narrow control k s same none = let P : ℕ → Type 0 = λ n. control < 2 ^ n in subst P same (wide_no control k none)

pub is_wide_no : (control k : ℕ) (s : State) → k ≡ control_count_of s.format → control / 2 ^ k ≤ 0 → is_wide control s ≡ false
is_wide_no control k s same none = lt-leb (2 ^ control_count_of s.format) control (narrow control k s same none)
