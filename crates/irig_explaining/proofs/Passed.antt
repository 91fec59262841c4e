-- How many rises come at a moment or after it, if they are in their order.
use Rattle.std.proofs.Common.{◌≡◌, ◌+◌, ◌-◌, ◌<◌, ◌≤◌, ℕ, zero, suc, List, length, get_or, take, nat_le, subst, inl, inr, arith}
use Rattle.std.specs.List.{count_by}
use Rattle.std.proofs.lemmas.Bool.{cases_lt, le-leb, lt-leb}
use Rattle.std.proofs.lemmas.List.{take_all}
use Rattle.std.proofs.lemmas.List.Sums.{count_by_more_no, count_by_more_yes}
use Rattle.irig_explaining.specs.declared.pulse.Pulse.{Pulse}

-- what is read past the end
abbrev pub no_pulse : Pulse
no_pulse = record { rise = 0; fall = 0 }

count_up_to : (m i n : ℕ) (ps : List Pulse) → ((j : ℕ) (d : Pulse) → j < i → j < length ps → (get_or ps j d).rise < m)
    → ((j : ℕ) (d : Pulse) → i ≤ j → j < length ps → m ≤ (get_or ps j d).rise) → n ≤ length ps
    → count_by (λ p. nat_le m p.rise) (take n ps) ≡ n - i
count_up_to m i zero ps low high le = omega arith
count_up_to m i (suc n) ps low high le =
    let rest : count_by (λ p. nat_le m p.rise) (take n ps) ≡ n - i = count_up_to m i n ps low high (omega arith) in
    let lt : n < length ps = omega arith in
    let one : n + 1 ≡ suc n = omega arith in
    let more : count_by (λ p. nat_le m p.rise) (take (n + 1) ps) ≡ suc n - i = elim (cases_lt n i) [
      | inl under ↦
          let e = count_by_more_no (λ p. nat_le m p.rise) ps n no_pulse lt (lt-leb m (get_or ps n no_pulse).rise (low n no_pulse under lt)) in
          omega (arith, e, rest)
      | inr over ↦
          let e = count_by_more_yes (λ p. nat_le m p.rise) ps n no_pulse lt (le-leb m (get_or ps n no_pulse).rise (high n no_pulse over lt)) in
          omega (arith, e, rest)
    ] in
    subst (λ k. count_by (λ p. nat_le m p.rise) (take k ps) ≡ suc n - i) one more

-- if the first ones come before it, and the others do not
pub count_from : (m i : ℕ) (ps : List Pulse) → ((j : ℕ) (d : Pulse) → j < i → j < length ps → (get_or ps j d).rise < m)
    → ((j : ℕ) (d : Pulse) → i ≤ j → j < length ps → m ≤ (get_or ps j d).rise) → count_by (λ p. nat_le m p.rise) ps ≡ length ps - i
count_from m i ps low high =
    subst (λ (xs : List Pulse). count_by (λ p. nat_le m p.rise) xs ≡ length ps - i) (take_all (length ps) ps (omega arith))
    (count_up_to m i (length ps) ps low high (omega arith))

-- if the last ones come at it or after it
last_up_to : (m i n : ℕ) (ps : List Pulse) → ((j : ℕ) (d : Pulse) → i ≤ j → j < length ps → m ≤ (get_or ps j d).rise) → n ≤ length ps
    → n - i ≤ count_by (λ p. nat_le m p.rise) (take n ps)
last_up_to m i zero ps high le = omega arith
last_up_to m i (suc n) ps high le = elim (cases_lt n i) [
  | inl under ↦ omega (arith, under)
  | inr over ↦
      let lt : n < length ps = omega arith in
      let one : n + 1 ≡ suc n = omega arith in
      let rest = last_up_to m i n ps high (omega arith) in
      let e = count_by_more_yes (λ p. nat_le m p.rise) ps n no_pulse lt (le-leb m (get_or ps n no_pulse).rise (high n no_pulse over lt)) in
      subst (λ k. suc n - i ≤ count_by (λ p. nat_le m p.rise) (take k ps)) one (omega (arith, e, rest, over))
]

pub count_last : (m i : ℕ) (ps : List Pulse) → ((j : ℕ) (d : Pulse) → i ≤ j → j < length ps → m ≤ (get_or ps j d).rise)
    → length ps - i ≤ count_by (λ p. nat_le m p.rise) ps
count_last m i ps high =
    subst (λ (xs : List Pulse). length ps - i ≤ count_by (λ p. nat_le m p.rise) xs) (take_all (length ps) ps (omega arith))
    (last_up_to m i (length ps) ps high (omega arith))
