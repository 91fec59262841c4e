-- The cheapest choices that have another candidate.
use Rattle.std.proofs.Common.{◌≡◌, ◌+◌, ◌<◌, ◌≤◌, ℕ, List, min, Option, Some, None, MatchOption, arith, inl, inr, subst}
use Rattle.std.proofs.lemmas.Bool.{cases_eq, cases_lt}
use Rattle.irig_dating.specs.Choices.{Prices, IsChoice, cost}
use Rattle.irig_dating.specs.Sure.{AreOthers, Has, IsOther, IsWith, lesser_of}
use Rattle.irig_dating.proofs.Both.{has_some}

-- the candidate itself is none
pub others_same : (p : Prices) (bits t c next : ℕ) (least : Option ℕ) → AreOthers p bits t c next least → next ≡ c
    → AreOthers p bits t c (next + 1) least
others_same p bits t c next None h same = λ o lt. elim (cases_lt o next) [ inl less ↦ h o less | inr le ↦ omega arith ]
others_same p bits t c next (Some least) h same = record {
  low = λ o cs lt ne is has. elim (cases_lt o next) [ inl less ↦ h.low o cs less ne is has | inr le ↦ absurd (ne (omega arith)) ];
  origin = h.origin;
}

-- one more
pub others_more : (p : Prices) (bits t c next : ℕ) (first : Option ℕ) (x : ℕ) → AreOthers p bits t c next first → (next ≡ c → ⊥)
    → ((cs : List ℕ) → IsChoice p bits cs → Has t next cs → x ≤ cost p cs) → IsWith p bits t next x
    → AreOthers p bits t c (next + 1) (lesser_of first x)
others_more p bits t c next None x h other low with_it = record {
  low = λ o cs lt ne is has.
      elim (cases_lt o next) [
        | inl less ↦ absurd (ne (h o less))
        | inr le ↦ low cs is (subst (λ k. Has t k cs) (let e : o ≡ next = omega arith in e) has)
      ];
  origin = record { other = next; unlike = other; choice = with_it };
}
others_more p bits t c next (Some first) x h other low with_it = record {
  low = λ o cs lt ne is has.
      elim (cases_lt o next) [
        | inl less ↦ (let le = h.low o cs less ne is has in omega (arith, le))
        | inr end ↦ (let le = low cs is (subst (λ k. Has t k cs) (let e : o ≡ next = omega arith in e) has) in omega (arith, le))
      ];
  origin =
      elim (cases_lt first x) [
        | inl less ↦ subst (IsOther p bits t c) (let e : first ≡ min first x = omega arith in e) h.origin
        | inr le ↦ subst (IsOther p bits t c) (let e : x ≡ min first x = omega arith in e)
            (record { other = next; unlike = other; choice = with_it })
      ];
}

-- what costs less has the candidate
pub others_sure : (p : Prices) (bits t c next : ℕ) (least : Option ℕ) → AreOthers p bits t c next least → next ≡ p.last t + 1 → t < bits
    → (cs : List ℕ) → IsChoice p bits cs → MatchOption least (Has t c cs) (λ b. cost p cs < b → Has t c cs)
others_sure p bits t c next None h all lt cs is =
    let some = has_some p bits t cs lt is in
    let there = some.there in
    subst (λ k. Has t k cs) (h some.candidate (omega arith)) some.has
others_sure p bits t c next (Some least) h all lt cs is = λ less.
    let some = has_some p bits t cs lt is in
    let there = some.there in
    elim (cases_eq some.candidate c) [
      | inl same ↦ subst (λ k. Has t k cs) same some.has
      | inr ne ↦ (let le = h.low some.candidate cs (omega arith) ne is some.has in absurd (omega arith))
    ]

pub others_other : (p : Prices) (bits t c next : ℕ) (least : Option ℕ) → AreOthers p bits t c next least
    → MatchOption least (Unit {0}) (λ b. IsOther p bits t c b)
others_other p bits t c next None h = tt
others_other p bits t c next (Some least) h = h.origin
