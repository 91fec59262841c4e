-- The widths of a frame, one by one.
use Rattle.std.proofs.Common.{◌≡◌, ◌∙◌, ◌+◌, ◌/◌, ◌<◌, ◌≤◌, ◌==◌, ◌&&◌, ◌||◌, ℕ, zero, suc, Bool, true, false, List, ap, arith, if◌then◌else◌, refl, subst, sym}
use Rattle.std.proofs.lemmas.Bool.Decides.{nat_tests}
use Rattle.std.specs.Prelude.{nat_le, nat_lt}
use Rattle.irig_codes.specs.Format.{FormatView, interval_of}
use Rattle.irig_recording.specs.declared.pulse.Pulse.{Pulse}
use Rattle.irig_safety.specs.Widths.{is_other_of_class, is_odd, is_outside, margin_of, spread_of, width_in, with_width}
use Rattle.irig_safety.specs.declared.widths.Spread.{Spread}

-- the widths of all elements
pub spread_all : (f : FormatView) (ps : List Pulse) (m e n : ℕ) (s : Spread) → n ≡ 100 → s ≡ spread_of f ps m e n → s ≡ spread_of f ps m e 100
spread_all f ps m e n s end h = h ∙ ap (spread_of f ps m e) end

-- tests of numbers
is_less : (a b : ℕ) (r : Bool) → r ≡ nat_lt a b → r ≡ true → a < b
is_less a b r is t = grind (arith, nat_tests)

is_no_less : (a b : ℕ) (r : Bool) → r ≡ nat_lt a b → r ≡ false → b ≤ a
is_no_less a b r is t = grind (arith, nat_tests)

less_not : (a b : ℕ) (r : Bool) → r ≡ nat_lt a b → b ≤ a → r ≡ false
less_not a b true is h = (let less = is_less a b true is refl in absurd (omega (arith, less, h)))
less_not a b false is h = refl

is_it : (k n : ℕ) (b : Bool) → b ≡ (k == n) → b ≡ true → k ≡ n
is_it k n b is t = grind (arith, nat_tests)

is_below : (k n : ℕ) (b : Bool) → b ≡ (k == n) → b ≡ false → k < suc n → k < n
is_below k n b is t less = grind (arith, nat_tests)

-- one width more
least_new : (b c : Bool) (w l : ℕ) → c ≡ nat_lt w l → (if b || c then w else l) ≤ w
least_new true c w l e = omega arith
least_new false true w l e = omega arith
least_new false false w l e = is_no_less w l false e refl

least_on : (b c : Bool) (n w l : ℕ) → b ≡ (n == 0) → c ≡ nat_lt w l → 0 < n → (if b || c then w else l) ≤ l
least_on true c n w l none e some = let no = is_it n 0 true none refl in absurd (omega (arith, no, some))
least_on false true n w l none e some = let less = is_less w l true e refl in omega (arith, less)
least_on false false n w l none e some = omega arith

most_new : (c : Bool) (w m : ℕ) → c ≡ nat_lt m w → w ≤ (if c then w else m)
most_new true w m e = omega arith
most_new false w m e = is_no_less m w false e refl

most_on : (c : Bool) (w m : ℕ) → c ≡ nat_lt m w → m ≤ (if c then w else m)
most_on true w m e = let less = is_less m w true e refl in omega (arith, less)
most_on false w m e = omega arith

-- a width is in the range
abbrev Covers : Spread → ℕ → Type 0
Covers s w = (0 < s.many) × (s.least ≤ w) × (w ≤ s.most)

covers_new : (w : ℕ) (s : Spread) → Covers (with_width w s) w
covers_new w s = (omega arith, least_new (s.many == 0) (nat_lt w s.least) w s.least refl, most_new (nat_lt s.most w) w s.most refl)

covers_on : (v w : ℕ) (s : Spread) → Covers s w → Covers (with_width v s) w
covers_on v w s h =
    let some = h.0 in
    let low = least_on (s.many == 0) (nat_lt v s.least) s.many v s.least refl refl some in
    let high = most_on (nat_lt s.most v) v s.most refl in
    let from = h.1 in
    let to = h.2 in
    (omega arith, omega (arith, low, from), omega (arith, high, to))

module _ (f : FormatView) (ps : List Pulse) (m e : ℕ) where
  one_more : (n j : ℕ) (b : Bool) → b ≡ is_other_of_class f ps m e n → (c : Bool) → c ≡ (j == n) → j < suc n → is_other_of_class f ps m e j ≡ true
      → (j < n → Covers (spread_of f ps m e n) (width_in ps m j))
      → Covers (if b then with_width (width_in ps m n) (spread_of f ps m e n) else spread_of f ps m e n) (width_in ps m j)
  one_more n j true is true at less so h =
      let same : j ≡ n = is_it j n true at refl in
      subst (λ (k : ℕ). Covers (with_width (width_in ps m n) (spread_of f ps m e n)) (width_in ps m k)) (sym same)
      (covers_new (width_in ps m n) (spread_of f ps m e n))
  one_more n j true is false at less so h =
      covers_on (width_in ps m n) (width_in ps m j) (spread_of f ps m e n) (h (is_below j n false at refl less))
  one_more n j false is true at less so h =
      let same : j ≡ n = is_it j n true at refl in
      let bad : false ≡ true = is ∙ (ap (is_other_of_class f ps m e) (sym same) ∙ so) in
      absurd (cc)
  one_more n j false is false at less so h = h (is_below j n false at refl less)

  covers_each : (n j : ℕ) → j < n → is_other_of_class f ps m e j ≡ true → Covers (spread_of f ps m e n) (width_in ps m j)
  covers_each zero j less so = absurd (omega (arith, less))
  covers_each (suc n) j less so =
      one_more n j (is_other_of_class f ps m e n) refl (j == n) refl less so (λ below. covers_each n j below so)

no_other : (b : Bool) → (b && (false || false)) ≡ false
no_other true = refl
no_other false = refl

not_outside : (i w v : ℕ) (s : Spread) → Covers s v → w ≤ v + i / 100 → v ≤ w + i / 100 → is_outside i s w ≡ false
not_outside i w v s h below above =
    let from = h.1 in
    let to = h.2 in
    let low : nat_lt (w + margin_of i s) s.least ≡ false =
    less_not (w + margin_of i s) s.least (nat_lt (w + margin_of i s) s.least) refl (omega (arith, from, above)) in
    let high : nat_lt (s.most + margin_of i s) w ≡ false =
    less_not (s.most + margin_of i s) w (nat_lt (s.most + margin_of i s) w) refl (omega (arith, to, below)) in
    (λ k. nat_le 5 s.many && (low k || high k)) ∙ no_other (nat_le 5 s.many)

-- a pulse that is like another one of its frame is not odd
pub like_not_odd : (f : FormatView) (ps : List Pulse) (m e j : ℕ) → j < 100 → is_other_of_class f ps m e j ≡ true
    → width_in ps m e ≤ width_in ps m j + interval_of f.kind / 100 → width_in ps m j ≤ width_in ps m e + interval_of f.kind / 100
    → is_odd f ps m e ≡ false
like_not_odd f ps m e j less so below above =
    not_outside (interval_of f.kind) (width_in ps m e) (width_in ps m j) (spread_of f ps m e 100) (covers_each f ps m e 100 j less so) below above
