-- A hop is as many elements as were sent.
use Rattle.std.proofs.Common.{◌≡◌, inl, inr, ◌<◌, ◌≤◌, ◌+◌, ◌-◌, ◌*◌, ℕ, suc, true, Some, None, arith, sym, ◌∙◌, subst}
use Rattle.std.specs.Prelude.{nat_le, nat_lt, ◌&&◌}
use Rattle.std.proofs.lemmas.Bool.{and_parts, cases_Bool, cases_lt, cond-false, cond-true, leb-true, ltb-true}
use Rattle.std.proofs.lemmas.Nat.{mul-le}
use Rattle.std.proofs.lemmas.Option.{none-some, same_Some}
use Rattle.irig_law.specs.Names.{hop, is_near, is_sure, nearest}
use Rattle.irig_law.specs.Truth.{HopsAreTrue}
use Rattle.irig_law.specs.declared.clock.Clock.{Clock}

-- a clock that is one interval or more further cannot be as near
spread : (n k s : ℕ) → (n + suc k) * s ≡ n * s + (s + k * s)
spread n k s = grind arith

too-far : (n k span slack tenth t : ℕ) → (n + suc k) * span ≤ t + (n + suc k) * slack → t ≤ n * span + (tenth + n * slack)
    → tenth + 2 * (n * slack) + slack < span → ⊥
too-far n k span slack tenth t one two three =
    let a = spread n k span in
    let b = spread n k slack in
    let less : slack ≤ span = omega (arith, three) in
    let c : k * slack ≤ k * span = mul-le k slack k span (omega arith) less in
    omega (arith, one, two, three, a, b, c)

too-near : (n k span slack tenth t : ℕ) → (n + suc k) * span ≤ t + (tenth + (n + suc k) * slack) → t ≤ n * span + n * slack
    → tenth + 2 * ((n + suc k) * slack) + slack < span → ⊥
too-near n k span slack tenth t one two three =
    let a = spread n k span in
    let b = spread n k slack in
    omega (arith, one, two, three, a, b)

same : (a n span slack tenth t : ℕ) → t ≤ a * span + a * slack → a * span ≤ t + a * slack
    → t ≤ n * span + (tenth + n * slack) → n * span ≤ t + (tenth + n * slack)
    → tenth + 2 * (n * slack) + slack < span → a ≡ n
same a n span slack tenth t one two three four sure = elim (cases_lt a n) [
  | inl less ↦
      let k = n - suc a in
      let is : n ≡ a + suc k = omega (arith, less) in
      absurd (too-near a k span slack tenth t (subst (λ n. n * span ≤ t + (tenth + n * slack)) is four) one
      (subst (λ n. tenth + 2 * (n * slack) + slack < span) is sure))
  | inr more ↦ elim (cases_lt n a) [
    | inl less ↦
        let k = a - suc n in
        let is : a ≡ n + suc k = omega (arith, less) in
        absurd (too-far n k span slack tenth t (subst (λ a. a * span ≤ t + a * slack) is two) three sure)
    | inr few ↦ omega (arith, more, few)
  ]
]

record Parts (c : Clock) (d n : ℕ) : Type 0 where
  most : 99 * d ≤ n * c.span + (c.tenth + n * c.slack)
  least : n * c.span ≤ 99 * d + (c.tenth + n * c.slack)
  sure : c.tenth + 2 * (n * c.slack) + c.slack < c.span

parts-of : (c : Clock) (d m : ℕ) → (nat_lt 0 m && (is_near c d m && is_sure c m)) ≡ true → Parts c d m
parts-of c d m on =
    let rest = (and_parts (nat_lt 0 m) (is_near c d m && is_sure c m) on).1 in
    let both = and_parts (is_near c d m) (is_sure c m) rest in
    let near = and_parts (nat_le (99 * d) (m * c.span + (c.tenth + m * c.slack))) (nat_le (m * c.span) (99 * d + (c.tenth + m * c.slack))) both.0 in
    record {
      most = leb-true (99 * d) (m * c.span + (c.tenth + m * c.slack)) near.0;
      least = leb-true (m * c.span) (99 * d + (c.tenth + m * c.slack)) near.1;
      sure = ltb-true (c.tenth + 2 * (m * c.slack) + c.slack) c.span
          (and_parts (nat_le 8192 c.span) (nat_lt (c.tenth + 2 * (m * c.slack) + c.slack) c.span) both.1).1;
    }

parts : (c : Clock) (d n : ℕ) → hop c d ≡ Some n → Parts c d n
parts c d n h = elim (cases_Bool (nat_lt 0 (nearest c d) && (is_near c d (nearest c d) && is_sure c (nearest c d)))) [
  | inl on ↦
      let is : nearest c d ≡ n = same_Some (nearest c d) n (sym (cond-true _ (Some (nearest c d)) None on) ∙ h) in
      subst (λ m. Parts c d m) is (parts-of c d (nearest c d) on)
  | inr off ↦ absurd (none-some n (sym (cond-false _ (Some (nearest c d)) None off) ∙ h))
]

pub hops_are_true : HopsAreTrue
hops_are_true c moment i k n lt runs h =
    let p = parts c (moment k - moment i) n h in
    let w = (runs i k (omega arith) (omega (arith, lt)) (omega arith)).1 in
    let is : k - i ≡ n = same (k - i) n c.span c.slack c.tenth (99 * (moment k - moment i)) w.0 w.1 p.most p.least p.sure in
    omega (arith, is, lt)
