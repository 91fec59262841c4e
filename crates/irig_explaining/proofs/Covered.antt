-- The elements in reach have numbers.
use Rattle.std.proofs.Common.{◌≡◌, ◌+◌, ◌-◌, ◌*◌, ◌<◌, ◌≤◌, ◌==◌, ◌||◌, ◌∙◌, ℕ, Bool, true, false, if◌then◌else◌, nat_le, refl, ap, sym, subst, inl, inr, arith}
use Rattle.std.proofs.lemmas.Bool.{cases_lt, eq-eqb, eqb-true, le-leb, le-ltb, leb-true, lt-leb, lt-ltb, ne_eqb, or_cases}
use Rattle.irig_explaining.specs.declared.reach.Reach.{Reach}
use Rattle.irig_explaining.specs.Reached.{IsReach, ahead_at, count, is_on, leads, led, reached, reaches, round}

round_low : (size n : ℕ) → n < size → round size n ≡ n
round_low size n lt = rw (lt-ltb n size lt) refl

round_high : (size n : ℕ) → size ≤ n → round size n ≡ n - size
round_high size n le = rw (le-ltb n size le) refl

-- some further round a frame, and back
round_back : (size x t : ℕ) → x < size → t ≤ size → round size (round size (x + t) + (size - t)) ≡ x
round_back size x t lt le = elim (cases_lt (x + t) size) [
  | inl low ↦
      let back : x + t + (size - t) - size ≡ x = omega arith in
      ap (λ n. round size (n + (size - t))) (round_low size (x + t) low) ∙ (round_high size (x + t + (size - t)) (omega arith) ∙ back)
  | inr high ↦
      let back : x + t - size + (size - t) ≡ x = omega arith in
      ap (λ n. round size (n + (size - t))) (round_high size (x + t) high) ∙ (round_low size (x + t - size + (size - t)) (omega arith) ∙ back)
]

-- the same, from where some are counted back
round_turned : (size x from : ℕ) → x < size → size ≤ from → from ≤ 2 * size - 1 → round size (from - round size (from - x)) ≡ x
round_turned size x from lt le most = elim (cases_lt (from - x) size) [
  | inl low ↦
      let back : from - (from - x) ≡ x = omega arith in
      ap (λ n. round size (from - n)) (round_low size (from - x) low) ∙ (ap (round size) back ∙ round_low size x lt)
  | inr high ↦
      let back : from - (from - x - size) ≡ x + size = omega arith in
      let rest : x + size - size ≡ x = omega arith in
      ap (λ n. round size (from - n)) (round_high size (from - x) high) ∙ (ap (round size) back ∙ (round_high size (x + size) (omega arith) ∙ rest))
]

below : (size n : ℕ) → n < 2 * size → round size n < size
below size n lt = elim (cases_lt n size) [
  | inl low ↦ subst (λ m. m < size) (sym (round_low size n low)) low
  | inr high ↦ subst (λ m. m < size) (sym (round_high size n high)) (omega arith)
]

led_by : (turned : Bool) (size from e : ℕ) → e < size → from ≤ 2 * size - 1 → (turned ≡ false → from ≤ size) → (turned ≡ true → size ≤ from)
    → round size (if turned then from - round size (if turned then from - e else from + e)
    else round size (if turned then from - e else from + e) + (size - from)) ≡ e
led_by true size from e lt most forth back = round_turned size e from lt (back refl) most
led_by false size from e lt most forth back =
    let turn : from + e ≡ e + from = omega arith in
    ap (λ n. round size (round size n + (size - from))) turn ∙ round_back size e from lt (forth refl)

low_by : (turned : Bool) (size from e : ℕ) → e < size → from ≤ 2 * size - 1 → (turned ≡ false → from ≤ size)
    → round size (if turned then from - e else from + e) < size
low_by true size from e lt most forth = below size (from - e) (omega arith)
low_by false size from e lt most forth = let le = forth refl in below size (from + e) (omega arith)

led_leads : (r : Reach) (e : ℕ) → IsReach r → e < r.size → led r (leads r e) ≡ e
led_leads r e is lt = led_by r.turned r.size r.origin e lt is.origin is.forth is.back

-- a number of elements more than the clock says, by its own number
abbrev more_at : Reach → ℕ → ℕ
more_at r i = round r.size (i + r.size - r.spare)

near_low : (r : Reach) (m : ℕ) → m < r.size → more_at r (m + r.spare) ≡ m
near_low r m lt =
    let up : m + r.spare + r.size - r.spare ≡ m + r.size = omega arith in
    let back : m + r.size - r.size ≡ m = omega arith in
    ap (round r.size) up ∙ (round_high r.size (m + r.size) (omega arith) ∙ back)

near_high : (r : Reach) (m : ℕ) → m < r.size → r.size ≤ m + r.spare → more_at r (m + r.spare - r.size) ≡ m
near_high r m lt le =
    let up : m + r.spare - r.size + r.size - r.spare ≡ m = omega arith in
    ap (round r.size) up ∙ round_low r.size m lt

-- the element of a number near what the clock says
by_number : (r : Reach) (e i : ℕ) → IsReach r → e < r.size → i < 2 * r.spare + 1
    → more_at r i ≡ round r.size (leads r e + r.turn) → reached r i ≡ e
by_number r e i is lt low same =
    let a : leads r e < r.size = low_by r.turned r.size r.origin e lt is.origin is.forth in
    let back : ahead_at r i ≡ leads r e = ap (λ n. round r.size (n + (r.size - r.turn))) same ∙ round_back r.size (leads r e) r.turn a is.turn in
    rw (le-ltb (2 * r.spare + 1) i (omega arith), ne_eqb i (2 * r.spare + 1) (λ e. absurd (omega arith))) (ap (led r) back ∙ led_leads r e is lt)

-- and the one that is one further
one_of : (size a : ℕ) → a < size → (nat_le size 1 || a == 1) ≡ true → (if nat_le size 1 then 0 else 1) ≡ a
one_of size a lt is = elim (cases_lt 1 size) [
  | inl many ↦ elim (or_cases (nat_le size 1) (a == 1) is) [
    | inl few ↦ (let le = leb-true size 1 few in absurd (omega (arith, le)))
    | inr one ↦ rw (lt-leb size 1 many) (sym (eqb-true a 1 one))
  ]
  | inr few ↦ rw (le-leb size 1 few) (omega arith)
]

by_one : (r : Reach) (e : ℕ) → IsReach r → e < r.size → (nat_le r.size 1 || leads r e == 1) ≡ true → reached r (2 * r.spare + 1) ≡ e
by_one r e is lt one =
    let a : leads r e < r.size = low_by r.turned r.size r.origin e lt is.origin is.forth in
    let same : (2 * r.spare + 1 == 2 * r.spare + 1) ≡ true = eq-eqb (2 * r.spare + 1) (2 * r.spare + 1) refl in
    rw (le-ltb (2 * r.spare + 1) (2 * r.spare + 1) (omega arith), same) (ap (led r) (one_of r.size (leads r e) a one) ∙ led_leads r e is lt)

pub record IsNumbered (r : Reach) (states e : ℕ) : Type 0 where
  pub number : ℕ
  pub low : number < count r states
  pub is : reached r number ≡ e

pub numbered : (r : Reach) (states e : ℕ) → IsReach r → e < states → reaches r e ≡ true → IsNumbered r states e
numbered r states e is lt on = elim (cases_lt e r.size) [
  | inr past ↦
      let i = 2 * r.spare + 1 + 1 + (e - r.size) in
      record {
        number = i;
        low = omega arith;
        is = rw (lt-ltb (2 * r.spare + 1) i (omega arith)) (omega arith);
      }
  | inl within ↦
      let m = round r.size (leads r e + r.turn) in
      let a : leads r e < r.size = low_by r.turned r.size r.origin e within is.origin is.forth in
      let turn = is.turn in
      let small : m < r.size = below r.size (leads r e + r.turn) (omega arith) in
      elim (or_cases (nat_le r.size e) (is_on r (leads r e) m) on) [
        | inl past ↦ (let le = leb-true r.size e past in absurd (omega (arith, le)))
        | inr near ↦ elim (or_cases (nat_le m r.spare) (nat_le r.size (m + r.spare) || (nat_le r.size 1 || leads r e == 1)) near) [
          | inl low ↦
              let le = leb-true m r.spare low in
              record {
                number = m + r.spare;
                low = omega (arith, le);
                is = by_number r e (m + r.spare) is within (omega (arith, le)) (near_low r m small);
              }
          | inr rest ↦ elim (or_cases (nat_le r.size (m + r.spare)) (nat_le r.size 1 || leads r e == 1) rest) [
            | inl high ↦
                let le = leb-true r.size (m + r.spare) high in
                record {
                  number = m + r.spare - r.size;
                  low = omega (arith, le, small);
                  is = by_number r e (m + r.spare - r.size) is within (omega (arith, le, small)) (near_high r m small le);
                }
            | inr one ↦ record {
              number = 2 * r.spare + 1;
              low = omega arith;
              is = by_one r e is within one;
            }
          ]
        ]
      ]
]
