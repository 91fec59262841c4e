-- What the wire between two rises costs, by how many elements that is.
use Rattle.std.proofs.Common.{◌≡◌, ◌+◌, ◌*◌, ◌/◌, ◌<◌, ◌≤◌, ℕ, zero, suc, length, max, refl, subst, sym, arith}
use Rattle.std.proofs.Math.Nat.{le-div_iff_mul-le}
use Rattle.std.proofs.lemmas.Bool.{ne_eqb}
use Rattle.std.proofs.lemmas.List.Elements.{All-get_or}
use Rattle.irig_explaining.specs.declared.{prices.Prices.Prices, role.Role.Role}
use Rattle.irig_explaining.specs.Distances.{apart, gone, interval, rise_at}
use Rattle.irig_explaining.specs.declared.table.TheConstants.{NOTHING}
use Rattle.irig_explaining.specs.Wires.{between, element, passed, wire, wire_end}

pub wire_one : (p : Prices) (role : Role) (r q count : ℕ) → count ≡ 1 → wire p role r q count ≡ element p role r (rise_at p q)
wire_one p role r q count e = subst (λ n. wire p role r q n ≡ element p role r (rise_at p q)) (sym e) refl

pub wire_more : (p : Prices) (role : Role) (r q count : ℕ) → 1 < count
    → wire p role r q count ≡ element p role r (wire_end p r) + between p r q count
wire_more p role r q count lt = rw (ne_eqb count 1 (λ e. absurd (omega arith))) refl

-- if the element costs little more in one role than in another, so does the wire
pub wire_most : (p : Prices) (this other : Role) (r q count d : ℕ) → element p this r (wire_end p r) ≤ element p other r (wire_end p r) + d
    → (count ≡ 1 → element p this r (rise_at p q) ≤ element p other r (rise_at p q) + d) → wire p this r q count ≤ wire p other r q count + d
wire_most p this other r q zero d whole each = omega (arith, whole)
wire_most p this other r q (suc zero) d whole each = each refl
wire_most p this other r q (suc (suc n)) d whole each =
    let many : 1 < suc (suc n) = omega arith in
    omega (arith, whole, wire_more p this r q (suc (suc n)) many, wire_more p other r q (suc (suc n)) many)

-- between rises that are far apart the clock says more than one element
many : (apart interval : ℕ) → 0 < interval → 3 * interval ≤ 2 * apart → 2 ≤ (2 * apart + interval) / (2 * interval)
many apart interval some far = (le-div_iff_mul-le {k = 2 * interval} {x = 2} {y = 2 * apart + interval} (omega arith)).1 (omega (arith, far))

two_at_least : (n : ℕ) → 2 ≤ n → max 1 n ≡ 1 → ⊥
two_at_least n le e = absurd (omega arith)

pub far_many : (p : Prices) (r later q : ℕ) → r < later → later ≤ q → q < length p.pulses.now → 3 * p.clock.now.longest ≤ 2 * apart p r later
    → gone p r q ≡ 1 → ⊥
far_many p r later q lt le there far one =
    let at = p.clocked in
    let a = All-get_or (λ i. (0 < i) × (i ≤ p.clock.now.longest)) p.clock.now.intervals.items r 0 (omega (arith, at)) p.clock.now.steady in
    let b = All-get_or (λ i. (0 < i) × (i ≤ p.clock.now.longest)) p.clock.now.intervals.items q 0 (omega (arith, at)) p.clock.now.steady in
    let order = p.order later q (record { rise = 0; fall = 0 }) le there in
    let i = interval p r q in
    two_at_least ((2 * apart p r q + i) / (2 * i)) (many (apart p r q) i (omega (arith, a.0, b.0)) (omega (arith, a.1, b.1, order, far))) one

-- between rises that are more than some elements apart, with that many rises between, that many elements look like nothing at least
more : (apart interval count : ℕ) → 0 < interval → (count + 1) * interval ≤ apart → count + 1 ≤ (2 * apart + interval) / (2 * interval)
more apart interval count some far =
    (le-div_iff_mul-le {k = 2 * interval} {x = count + 1} {y = 2 * apart + interval} (omega arith)).1 (omega (arith, far))

pub far_wire : (p : Prices) (role : Role) (r q count : ℕ) → 0 < count → 0 < interval p r q → (count + 1) * interval p r q ≤ apart p r q
    → count ≤ passed p r q → count * NOTHING ≤ wire p role r q (gone p r q)
far_wire p role r q count first some far noise =
    let n = more (apart p r q) (interval p r q) count some far in
    let many : count + 1 ≤ gone p r q = omega (arith, n) in
    omega (arith, many, noise, wire_more p role r q (gone p r q) (omega (arith, many, first)))
