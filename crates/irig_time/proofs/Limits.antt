-- Numbers within limits. The greatest ones are not kept.
use Rattle.std.proofs.Common.{◌≡◌, ◌&&◌, ◌^◌, ◌<◌, ℕ, Bool, Option, Some, None, min, ap, sym, ◌∙◌, inl, inr, arith, nat_le}
use Rattle.std.specs.Prelude.{option_map, if◌then◌else◌}
use Rattle.std.proofs.Math.Bool.{and-false}
use Rattle.std.proofs.lemmas.{Bool.cases_lt, Bool.lt-leb, Option.none-some, Option.same_Some}
use Rattle.irig_stamps.specs.{Numbers.capped as kept_of, declared.picos.Picos.Picos}
use Rattle.irig_time.specs.Values.{near, within}

past : (first last v : ℕ) → last < v → within first last (Some v) ≡ None
past first last v lt =
    ap (λ (b : Bool). if nat_le first v && b then Some v else None) (lt-leb v last lt)
    ∙ ap (λ (b : Bool). if b then Some v else None) (and-false (nat_le first v))

-- the greatest number is kept for all that are greater, and none of them is within
pub capped : (first last n : ℕ) (number : Option ℕ) → last < 2 ^ 120 → Some n ≡ option_map (λ v. min v (2 ^ 120)) number
    → within first last (Some n) ≡ within first last number
capped first last n None small e = absurd (none-some n (sym e))
capped first last n (Some v) small e =
    let is : n ≡ min v (2 ^ 120) = same_Some n (min v (2 ^ 120)) e in
    elim (cases_lt v (2 ^ 120)) [
      | inl low ↦ (let same : n ≡ v = omega (arith, is, low) in ap (λ (m : ℕ). within first last (Some m)) same)
      | inr high ↦
          let one : last < n = omega (arith, is, high, small) in
          let other : last < v = omega (arith, high, small) in
          past first last n one ∙ sym (past first last v other)
    ]

far : (p : Picos) → 2 ^ 119 < p.size → near (Some p) ≡ None
far p lt = ap (λ (b : Bool). if b then Some p else None) (lt-leb p.size (2 ^ 119) lt)

-- the same of a time with a sign
pub near-capped : (kept : Picos) (number : Option Picos) → Some kept ≡ option_map kept_of number → near (Some kept) ≡ near number
near-capped kept None e = absurd (none-some kept (sym e))
near-capped kept (Some p) e =
    let is : kept ≡ kept_of p = same_Some kept (kept_of p) e in
    ap (λ (k : Picos). near (Some k)) is
    ∙ elim (cases_lt p.size (2 ^ 120)) [
      | inl low ↦
          let same : min p.size (2 ^ 120) ≡ p.size = omega (arith, low) in
          ap (λ (n : ℕ). near (Some (record p { size = n }))) same
      | inr high ↦
          let one : 2 ^ 119 < min p.size (2 ^ 120) = omega (arith, high) in
          let other : 2 ^ 119 < p.size = omega (arith, high) in
          far (kept_of p) one ∙ sym (far p other)
    ]
