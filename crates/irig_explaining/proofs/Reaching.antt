-- Which elements a step goes on to.
use Rattle.std.proofs.Common.{◌≡◌, ◌+◌, ◌-◌, ◌*◌, ◌%◌, ◌<◌, ◌≤◌, ◌==◌, ◌||◌, ◌&&◌, ◌∙◌, ℕ, Bool, true, false, Some, None, if◌then◌else◌, min, nat_le, nat_lt, ◌⊎◌, length, refl, ap, sym, subst, inl, inr, arith}
use Rattle.std.proofs.Math.Nat.{mod-eq_of_lt, mod-eq-sub-mod, mod-lt}
use Rattle.std.proofs.lemmas.Bool.{cases_lt, le-ltb, leb-false, lt-ltb, ne_eqb, or_from, or_parts}
use Rattle.irig_explaining.specs.declared.{claim.Kind.Kind, prices.Prices.Prices, reach.Reach.Reach, role.Role.Role}
use Rattle.irig_explaining.specs.declared.claim.Kind.TheVariants.{Next, Step, Jump}
use Rattle.irig_explaining.specs.declared.table.TheConstants.{CANNOT, JUMP, STEP}
use Rattle.irig_explaining.specs.Distances.{far, gone, interval, is_off}
use Rattle.irig_explaining.specs.Priced.{ahead, counted, is_next, least, more, on, on_by, price, price_by, role_at}
use Rattle.irig_explaining.specs.Reached.{is_on, leads, reaches, round}

-- a number below two frames
round_mod : (size n : ℕ) → n < 2 * size → n % size ≡ round size n
round_mod size n lt = elim (cases_lt n size) [
  | inl low ↦ rw (lt-ltb n size low) (mod-eq_of_lt low)
  | inr high ↦
      let rest : n - size < size = omega arith in
      rw (le-ltb n size high) (mod-eq-sub-mod high ∙ mod-eq_of_lt rest)
]

-- no number of elements is as near as the clock's, but some
abbrev pub Spare : Prices → ℕ → ℕ → ℕ → Type 0
Spare p r q spare = (n : ℕ) → 0 < n → (n ≡ gone p r q → ⊥) → n ≤ gone p r q + 5
    → (spare ≡ 5) ⊎ (is_off p (interval p r q) (far p r q n) n ≡ true)

-- what an element that is not reached says: no step goes on to it, nor is one in time
pub record Beyond (p : Prices) (r q a : ℕ) : Type 0 where
  pub count : (role : Role) → on_by p role r q (counted (length p.roles.now) a (gone p r q)) ≡ CANNOT
  pub next : is_next (length p.roles.now) a (gone p r q) ≡ false

cannot_on : (p : Prices) (role : Role) (r q n spare : ℕ) → Spare p r q spare → (spare ≡ 5 → ⊥) → 0 < n → (n ≡ gone p r q → ⊥)
    → n ≤ gone p r q + 5 → on p role r q n ≡ CANNOT
cannot_on p role r q n spare alone narrow first other few = elim (alone n first other few) [
  | inl five ↦ absurd (narrow five)
  | inr off ↦ rw off refl
]

-- the number of elements that leads there, if there is one, is too far off
none_from : (p : Prices) (role : Role) (size m a spare r q : ℕ) → Spare p r q spare → spare ≤ 5 → spare < m → m + spare < size
    → more size a (gone p r q) ≡ m → on_by p role r q (counted size a (gone p r q)) ≡ CANNOT
none_from p role size m a spare r q alone few high low same =
    let n = gone p r q in
    subst (λ x. on_by p role r q (if nat_lt x 6 then Some (n + x) else if nat_lt (size - x) (min 6 n) then Some (n - (size - x)) else None) ≡ CANNOT)
    (sym same)
    (elim (cases_lt m 6) [
      | inl near ↦ rw (lt-ltb m 6 near)
          (cannot_on p role r q (n + m) spare alone (λ e. absurd (omega arith)) (omega arith) (λ e. absurd (omega arith)) (omega arith))
      | inr far ↦ elim (cases_lt (size - m) (min 6 n)) [
        | inl fewer ↦ rw (le-ltb m 6 far, lt-ltb (size - m) (min 6 n) fewer)
            (cannot_on p role r q (n - (size - m)) spare alone (λ e. absurd (omega arith)) (omega arith) (λ e. absurd (omega arith)) (omega arith))
        | inr none ↦ rw (le-ltb m 6 far, le-ltb (size - m) (min 6 n) none) refl
      ]
    ])

beyond : (p : Prices) (r q a : ℕ) (reach : Reach) → reach.size ≡ length p.roles.now → a < length p.roles.now
    → reach.turn ≡ length p.roles.now - gone p r q % length p.roles.now → reach.spare ≤ 5 → Spare p r q reach.spare
    → is_on reach a (round (length p.roles.now) (a + reach.turn)) ≡ false → Beyond p r q a
beyond p r q a reach same lt turn few alone off =
    let size = length p.roles.now in let n = gone p r q in
    let m = round size (a + reach.turn) in
    let parts = or_parts (nat_le m reach.spare) (nat_le reach.size (m + reach.spare) || (nat_le reach.size 1 || a == 1)) off in
    let rest = or_parts (nat_le reach.size (m + reach.spare)) (nat_le reach.size 1 || a == 1) parts.1 in
    let last = or_parts (nat_le reach.size 1) (a == 1) rest.1 in
    let high : reach.spare < m = leb-false m reach.spare parts.0 in
    let low : m + reach.spare < size = omega (arith, leb-false reach.size (m + reach.spare) rest.0, same) in
    let many : 1 < size = omega (arith, leb-false reach.size 1 last.0, same) in
    let left : n % size < size = mod-lt n (omega (arith, many)) in
    let is : more size a n ≡ m =
    (let e : a + size - n % size ≡ a + reach.turn = omega (arith, turn) in
    ap (λ x. x % size) e ∙ round_mod size (a + reach.turn) (omega (arith, turn))) in
    let not : a ≡ n % size → ⊥ = λ e.
    let all : a + reach.turn ≡ size = omega (arith, turn, e) in
    let none : m ≡ 0 = ap (round size) all ∙ rw (le-ltb size size (omega arith)) (omega arith) in
    absurd (omega (arith, none, high)) in
    let one : 1 % size ≡ 1 = mod-eq_of_lt many in
    record {
      count = λ role. none_from p role size m a reach.spare r q alone few high low is;
      next = or_from (a == 1 % size) (a == n % size) (subst (λ s. (a == s) ≡ false) (sym one) last.1) (ne_eqb a (n % size) not);
    }

-- and of prices
same_guard : (g : Bool) (a b : ℕ) → a ≤ b → (if g then a else 0) ≤ (if g then b else 0)
same_guard true a b h = h
same_guard false a b h = omega arith

cannot_next : (p : Prices) (r e q f : ℕ)
    → on_by p (role_at p e) r q (counted (length p.roles.now) (ahead (length p.roles.now) e f) (gone p r q)) ≡ CANNOT → price_by p r e q f Next ≡ CANNOT
cannot_next p r e q f none = none

cannot_step : (p : Prices) (r e q f : ℕ) → is_next (length p.roles.now) (ahead (length p.roles.now) e f) (gone p r q) ≡ false
    → price_by p r e q f Step ≡ CANNOT
cannot_step p r e q f next = ap (λ b. if b then STEP + least p (role_at p e) r q else CANNOT) next

pub jump_least : (p : Prices) (r e q f : ℕ) (k : Kind) → Beyond p r q (ahead (length p.roles.now) e f)
    → price p r e q f Jump ≤ price p r e q f k
jump_least p r e q f Next b =
    same_guard (nat_lt r q && nat_lt q (length p.pulses.now)) (min CANNOT (JUMP + least p (role_at p e) r q)) (min CANNOT (price_by p r e q f Next))
    (omega (arith, cannot_next p r e q f (b.count (role_at p e))))
jump_least p r e q f Step b =
    same_guard (nat_lt r q && nat_lt q (length p.pulses.now)) (min CANNOT (JUMP + least p (role_at p e) r q)) (min CANNOT (price_by p r e q f Step))
    (omega (arith, cannot_step p r e q f b.next))
jump_least p r e q f Jump b = omega arith

-- an element that a claim does not reach
pub from_beyond : (p : Prices) (r e q f : ℕ) (reach : Reach) → reach.size ≡ length p.roles.now → reach.turned ≡ false
    → reach.origin ≡ length p.roles.now - e % length p.roles.now → reach.turn ≡ length p.roles.now - gone p r q % length p.roles.now
    → reach.spare ≤ 5 → Spare p r q reach.spare → reaches reach f ≡ false → Beyond p r q (ahead (length p.roles.now) e f)
from_beyond p r e q f reach same turned origin turn few alone off =
    let size = length p.roles.now in let some = p.sized.0 in
    let parts = or_parts (nat_le reach.size f) (is_on reach (leads reach f) (round reach.size (leads reach f + reach.turn))) off in
    let low : f < size = omega (arith, leb-false reach.size f parts.0, same) in
    let small : e % size < size = mod-lt e some in
    let is : ahead size e f ≡ leads reach f =
    (let a : f % size ≡ f = mod-eq_of_lt low in
    let b : f % size + size - e % size ≡ reach.origin + f = omega (arith, a, origin) in
    let here : leads reach f ≡ round size (reach.origin + f) = rw (turned, same) refl in
    ap (λ x. x % size) b ∙ (round_mod size (reach.origin + f) (omega (arith, origin)) ∙ sym here)) in
    let within : leads reach f < size = subst (λ x. x < size) is (mod-lt (f % size + size - e % size) some) in
    subst (λ x. Beyond p r q x) (sym is) (beyond p r q (leads reach f) reach same within turn few alone
    (subst (λ s. is_on reach (leads reach f) (round s (leads reach f + reach.turn)) ≡ false) same parts.1))

-- and one from which a step does not reach a claim
pub to_beyond : (p : Prices) (r e q f : ℕ) (reach : Reach) → reach.size ≡ length p.roles.now → reach.turned ≡ true
    → reach.origin ≡ length p.roles.now + f % length p.roles.now → reach.turn ≡ length p.roles.now - gone p r q % length p.roles.now
    → reach.spare ≤ 5 → Spare p r q reach.spare → reaches reach e ≡ false → Beyond p r q (ahead (length p.roles.now) e f)
to_beyond p r e q f reach same turned origin turn few alone off =
    let size = length p.roles.now in let some = p.sized.0 in
    let parts = or_parts (nat_le reach.size e) (is_on reach (leads reach e) (round reach.size (leads reach e + reach.turn))) off in
    let low : e < size = omega (arith, leb-false reach.size e parts.0, same) in
    let small : f % size < size = mod-lt f some in
    let is : ahead size e f ≡ leads reach e =
    (let a : e % size ≡ e = mod-eq_of_lt low in
    let b : f % size + size - e % size ≡ reach.origin - e = omega (arith, a, origin) in
    let here : leads reach e ≡ round size (reach.origin - e) = rw (turned, same) refl in
    ap (λ x. x % size) b ∙ (round_mod size (reach.origin - e) (omega (arith, origin)) ∙ sym here)) in
    let within : leads reach e < size = subst (λ x. x < size) is (mod-lt (f % size + size - e % size) some) in
    subst (λ x. Beyond p r q x) (sym is) (beyond p r q (leads reach e) reach same within turn few alone
    (subst (λ s. is_on reach (leads reach e) (round s (leads reach e + reach.turn)) ≡ false) same parts.1))
