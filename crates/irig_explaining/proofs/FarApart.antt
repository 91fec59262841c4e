-- What the wire costs between rises that are far apart.
use Rattle.std.proofs.Common.{◌≡◌, ◌+◌, ◌-◌, ◌*◌, ◌<◌, ◌≤◌, ℕ, List, length, get_or, take, drop, ap, refl, inl, inr, arith}
use Rattle.std.proofs.lemmas.Bool.{cases_lt}
use Rattle.std.proofs.lemmas.List.{get_or-drop, get_or-take, length-drop, length-take}
use Rattle.std.proofs.lemmas.List.Elements.{All-get_or}
use Rattle.std.proofs.lemmas.Option.{get_or_from_slice_get, slice_get-get_or}
use Rattle.irig_explaining.specs.declared.{prices.Prices.Prices, pulse.Pulse.Pulse, role.Role.Role, table.TheConstants.FAR}
use Rattle.irig_explaining.specs.{Distances.gone, Distances.interval_at, Distances.rise_at, Wires.passed, Wires.wire, Wires.wire_end}
use Rattle.irig_explaining.proofs.{Counted.far_wire, Passed.count_last, Passed.no_pulse}

-- no interval is longer than the longest one
steady : (p : Prices) (r : ℕ) → r < length p.pulses.now → (0 < interval_at p r) × (interval_at p r ≤ p.clock.now.longest)
steady p r lt =
    let at = p.clocked in
    All-get_or (λ i. (0 < i) × (i ≤ p.clock.now.longest)) p.clock.now.intervals.items r 0 (omega (arith, at)) p.clock.now.steady

-- within a list nothing depends on what is read past its end
any_pulse : (xs : List Pulse) (i : ℕ) (d e : Pulse) → i < length xs → get_or xs i d ≡ get_or xs i e
any_pulse xs i d e lt = get_or_from_slice_get xs i (get_or xs i e) d (slice_get-get_or xs i e lt)

-- five rises after the wire of an element are passed over
five : (p : Prices) (r n q : ℕ) → q < length p.pulses.now → r < n → n + 5 ≤ q → wire_end p r ≤ rise_at p n → 5 ≤ passed p r q
five p r n q there first last noise =
    let xs = p.pulses.now in let k = q - (r + 1) in
    let ps = take k (drop (r + 1) xs) in
    let all : length ps ≡ k = omega (arith, length-take k (drop (r + 1) xs), length-drop (r + 1) xs) in
    let many = count_last (wire_end p r) (n - (r + 1)) ps (λ j d le lt.
    let at : get_or ps j d ≡ get_or xs (r + 1 + j) d =
    rw (get_or-take k (drop (r + 1) xs) j d (omega (arith, all, lt)), get_or-drop (r + 1) xs j d) refl in
    let order = p.order n (r + 1 + j) d (omega (arith, le, first)) (omega (arith, all, lt, there)) in
    let same = ap (λ (x : Pulse). x.rise) (any_pulse xs n d no_pulse (omega (arith, last, there))) in
    rw at (omega (arith, order, noise, same))) in
    omega (arith, many, all)

pub remote_wire : (p : Prices) (role : Role) (r n q l : ℕ) → q < length p.pulses.now → r < n → n + 5 ≤ q → p.clock.now.longest ≤ 256 * l
    → rise_at p r + l ≤ rise_at p n → rise_at p r + 6 * l ≤ rise_at p q → FAR ≤ wire p role r q (gone p r q)
remote_wire p role r n q l there first last long noise far =
    let a = steady p r (omega arith) in let b = steady p q there in
    far_wire p role r q 5 (omega arith) (omega (arith, a.0, b.0)) (omega (arith, a.1, b.1, long, far))
    (five p r n q there first last (omega (arith, a.1, long, noise)))

-- what rises earlier comes earlier
pub earlier : (p : Prices) (r n : ℕ) → r < length p.pulses.now → rise_at p r < rise_at p n → r < n
earlier p r n there less = elim (cases_lt r n) [
  | inl lt ↦ lt
  | inr le ↦ (let order = p.order n r no_pulse le there in absurd (omega (arith, order, less)))
]
