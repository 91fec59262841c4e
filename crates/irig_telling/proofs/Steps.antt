-- Elements counted on.
use Rattle.std.proofs.Common.{◌≡◌, ◌+◌, ◌*◌, ◌^◌, ◌<◌, ◌≤◌, ◌++◌, ◌∷◌, [], ◌∙◌, ℕ, List, append_assoc, ap, arith, length, max}
use Rattle.std.proofs.lemmas.List.Elements.{All-get_or}
use Rattle.irig_explaining.specs.declared.{claim.Claim.Claim, prices.Prices.Prices}
use Rattle.irig_explaining.specs.{Distances.apart, Distances.rise_at, Explanation.AreClaims, Looks.IsTimely, Recorded.rises_of}
use Rattle.irig_telling.specs.Counting.{next, rest_of}
use Rattle.irig_telling.specs.declared.counted.Counted.{Counted}
use Rattle.irig_telling.proofs.Claims.{there}

-- one claim more
pub one_more : (p : Prices) (c d : Claim) (at new : Counted) (ds : List Claim) (so_far items all : List Counted) → items ≡ so_far ++ new ∷ []
    → new ≡ next p c at d → so_far ++ rest_of p c at (d ∷ ds) ≡ all → items ++ rest_of p d new ds ≡ all
one_more p c d at new ds so_far items all pushed same whole =
    ap (λ (xs : List Counted). xs ++ rest_of p d new ds) pushed ∙ (append_assoc so_far (new ∷ []) (rest_of p d new ds)
    ∙ (ap (λ (n : Counted). so_far ++ n ∷ rest_of p d n ds) same ∙ whole))

-- what rises later is later
pub later : (p : Prices) (r q : ℕ) → r < q → q < length p.pulses.now → rise_at p r ≤ rise_at p q
later p r q lt there = p.order r q (record { rise = 0; fall = 0 }) (omega arith) there

-- a distance, in parts of a microsecond
pub apart_from : (p : Prices) (r q : ℕ) → rise_at p r ≤ rise_at p q → apart p r q + 256 * rise_at p r ≡ 256 * rise_at p q
apart_from p r q le = omega (arith, le)

-- a rise is early
pub early : (p : Prices) (r : ℕ) → r < length p.pulses.now → rise_at p r ≤ 2 ^ 40
early p r lt = (All-get_or IsTimely p.pulses.now r (record { rise = 0; fall = 0 }) lt p.timely).rise

-- a stretch has no more elements than the distance of its rises has parts, and some for each claim
pub counted_more : (p : Prices) (c d : Claim) (ds : List Claim) (at new : Counted) (i : ℕ) → AreClaims (rises_of p) c (d ∷ ds)
    → new.element ≤ max (2 ^ 32) (at.element + apart p c.rise d.rise + 6) → at.element ≤ 2 ^ 32 + 6 * i + 256 * rise_at p c.rise
    → new.element ≤ 2 ^ 32 + 6 * (i + 1) + 256 * rise_at p d.rise
counted_more p c d ds at new i claims near so_far =
    let on : d.rise < length p.pulses.now = there (rises_of p) d ds claims.2 in
    let far = apart_from p c.rise d.rise (later p c.rise d.rise claims.1.0 on) in omega (arith, near, so_far, far)

pub few_at : (p : Prices) (c : Claim) (at : Counted) (i : ℕ) → c.rise < length p.pulses.now
    → at.element ≤ 2 ^ 32 + 6 * i + 256 * rise_at p c.rise → i ≤ 2 ^ 31 → at.element < 2 ^ 49
few_at p c at i lt le few = let last = early p c.rise lt in omega (arith, le, few, last)
