-- How much more a jump costs than any other step.
use Rattle.std.proofs.Common.{◌≡◌, ◌+◌, ◌*◌, ◌<◌, ◌≤◌, ◌&&◌, ℕ, Bool, true, false, Option, Some, None, if◌then◌else◌, max, min, nat_lt, length, refl, subst, sym, arith}
use Rattle.std.proofs.Math.Nat.{min-le_left}
use Rattle.std.proofs.lemmas.Bool.{and_from, le-ltb, ltb-true, lt-ltb}
use Rattle.irig_explaining.specs.declared.{claim.Kind.Kind, prices.Prices.Prices, role.Role.Role}
use Rattle.irig_explaining.specs.declared.claim.Kind.TheVariants.{Next, Step, Jump}
use Rattle.irig_explaining.specs.declared.table.TheConstants.{CANNOT, JUMP, OFF_LINE, STEP}
use Rattle.irig_explaining.specs.Distances.{far, gone, interval, is_off, late}
use Rattle.irig_explaining.specs.Priced.{ahead, counted, is_next, least, more_by, on, on_by, price, price_by, role_at}
use Rattle.irig_explaining.specs.Wires.{wire}

either : (b : Bool) (c w x : ℕ) → min c w ≤ (if b then c else max x w)
either true c w x = min-le_left c w
either false c w x = omega arith

if_next : (b : Bool) (c s w : ℕ) → min c w ≤ (if b then s + w else c)
if_next true c s w = omega arith
if_next false c s w = min-le_left c w

on_least : (p : Prices) (role : Role) (r q : ℕ) (count : Option ℕ) → min CANNOT (least p role r q) ≤ on_by p role r q count
on_least p role r q None = min-le_left CANNOT (least p role r q)
on_least p role r q (Some n) =
    either (is_off p (interval p r q) (far p r q n) n) CANNOT (least p role r q)
    (wire p role r q n + min (late p (far p r q n) n) OFF_LINE)

-- each step costs what the wire costs at least, or what one costs that there is not
pub at_least : (p : Prices) (r e q f : ℕ) (k : Kind) → min CANNOT (least p (role_at p e) r q) ≤ price_by p r e q f k
at_least p r e q f Next =
    on_least p (role_at p e) r q (counted (length p.roles.now) (ahead (length p.roles.now) e f) (gone p r q))
at_least p r e q f Step =
    if_next (is_next (length p.roles.now) (ahead (length p.roles.now) e f) (gone p r q)) CANNOT STEP (least p (role_at p e) r q)
at_least p r e q f Jump = omega arith

if_step : (b : Bool) (c s w : ℕ) → w ≤ s → min c w ≤ (if b then s else c)
if_step true c s w le = omega arith
if_step false c s w le = min-le_left c w

-- if there is a step at all
guarded : (g : Bool) (a b d : ℕ) → (g ≡ true → a ≤ b + d) → (if g then a else 0) ≤ (if g then b else 0) + d
guarded true a b d h = h refl
guarded false a b d h = omega arith

both : (a b : Bool) → (a && b) ≡ true → (a ≡ true) × (b ≡ true)
both true true e = (refl, refl)
both true false e = absurd (cc)
both false b e = absurd (cc)

-- a jump from one element costs no more above any step from another than its wire does, and a jump
pub jump_most : (p : Prices) (r this other q f : ℕ) (k : Kind) (d : ℕ)
    → (r < q → q < length p.pulses.now → wire p (role_at p this) r q (gone p r q) ≤ wire p (role_at p other) r q (gone p r q) + d)
    → price p r this q f Jump ≤ price p r other q f k + (JUMP + d)
jump_most p r this other q f k d dearer =
    guarded (nat_lt r q && nat_lt q (length p.pulses.now)) (min CANNOT (JUMP + least p (role_at p this) r q)) (min CANNOT (price_by p r other q f k))
    (JUMP + d)
    (λ g. let there = both (nat_lt r q) (nat_lt q (length p.pulses.now)) g in
    let more = dearer (ltb-true r q there.0) (ltb-true q (length p.pulses.now) there.1) in
    omega (arith, at_least p r other q f k, more))

-- a jump does not depend on where it leads to
pub jump_to : (p : Prices) (r e q this other : ℕ) (k : Kind) → price p r e q this Jump ≤ price p r e q other k + JUMP
jump_to p r e q this other k = jump_most p r e e q other k 0 (λ _ _. omega arith)

-- what is passed over is a part of what each step costs
passed : (g : Bool) (a b : ℕ) → g ≡ true → a ≤ b → a ≤ (if g then b else 0)
passed true a b e h = h
passed false a b e h = absurd (cc)

pub passing_least : (p : Prices) (r e q f : ℕ) (k : Kind) (passing low : ℕ) → r < q → q < length p.pulses.now
    → passing ≤ wire p (role_at p e) r q (gone p r q) → low ≤ min passing CANNOT → low ≤ price p r e q f k
passing_least p r e q f k passing low lt there most le =
    passed (nat_lt r q && nat_lt q (length p.pulses.now)) low (min CANNOT (price_by p r e q f k))
    (and_from (nat_lt r q) (nat_lt q (length p.pulses.now)) (lt-ltb r q lt) (lt-ltb q (length p.pulses.now) there))
    (omega (arith, at_least p r e q f k, most, le))

-- what a jump costs, if it leads on
taken : (g : Bool) (a b : ℕ) → g ≡ true → a ≡ b → (if g then a else 0) ≡ b
taken true a b e h = h
taken false a b e h = absurd (cc)

pub price_jump : (p : Prices) (r e q f cost : ℕ) → r < q → q < length p.pulses.now → min CANNOT (JUMP + least p (role_at p e) r q) ≡ cost
    → price p r e q f Jump ≡ cost
price_jump p r e q f cost lt there is =
    taken (nat_lt r q && nat_lt q (length p.pulses.now)) (min CANNOT (JUMP + least p (role_at p e) r q)) cost
    (and_from (nat_lt r q) (nat_lt q (length p.pulses.now)) (lt-ltb r q lt) (lt-ltb q (length p.pulses.now) there)) is

-- and a step of a kind costs that much more
by_kind : (p : Prices) (r e q f : ℕ) (k : Kind) → min CANNOT (more_by k + wire p (role_at p e) r q (gone p r q)) ≤ price_by p r e q f k
by_kind p r e q f Next = omega (arith, at_least p r e q f Next)
by_kind p r e q f Step =
    if_step (is_next (length p.roles.now) (ahead (length p.roles.now) e f) (gone p r q)) CANNOT (STEP + least p (role_at p e) r q)
    (STEP + wire p (role_at p e) r q (gone p r q)) (omega arith)
by_kind p r e q f Jump = omega arith

pub kind_least : (p : Prices) (r e q f : ℕ) (k : Kind) (passing low : ℕ) → r < q → q < length p.pulses.now
    → passing ≤ wire p (role_at p e) r q (gone p r q) → low ≤ min (more_by k + passing) CANNOT → low ≤ price p r e q f k
kind_least p r e q f k passing low lt there most le =
    passed (nat_lt r q && nat_lt q (length p.pulses.now)) low (min CANNOT (price_by p r e q f k))
    (and_from (nat_lt r q) (nat_lt q (length p.pulses.now)) (lt-ltb r q lt) (lt-ltb q (length p.pulses.now) there))
    (omega (arith, by_kind p r e q f k, most, le))

-- what the wire costs over as many elements as the clock says is a part of what a step over them costs
pub on_alone : (p : Prices) (role : Role) (r q n : ℕ) → n ≡ gone p r q → is_off p (interval p r q) (far p r q n) n ≡ false
    → far p r q n ≤ 4 * interval p r q → on p role r q n ≡ wire p role r q n + min (late p (far p r q n) n) OFF_LINE
on_alone p role r q n same near short =
    let small : least p role r q ≤ wire p role r q n + min (late p (far p r q n) n) OFF_LINE =
    subst (λ m. least p role r q ≤ wire p role r q m + min (late p (far p r q m) m) OFF_LINE) (sym same)
    (rw (le-ltb (4 * interval p r q) (far p r q (gone p r q)) (subst (λ m. far p r q m ≤ 4 * interval p r q) same short)) (omega arith)) in
    rw near (omega (arith, small))
