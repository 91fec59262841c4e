-- The margins of steps, one after the other.
use Rattle.std.proofs.Common.{◌≡◌, ◌+◌, ◌-◌, ◌<◌, ◌≤◌, ◌++◌, ◌∷◌, [], ℕ, zero, suc, Bool, true, false, List, drop, length, refl, sym, subst, append_assoc, arith}
use Rattle.irig_explaining.specs.declared.{claim.Claim.Claim, prices.Prices.Prices, rises.Rises.Rises}
use Rattle.irig_explaining.specs.{Explanation.AreClaims, Explanation.IsExplanation, Explanation.cost, Labels.place, Priced.price, Recorded.rises_of, Sure.Gives, Sure.IsOther}
use Rattle.irig_happenings.specs.{Happenings.is_plain, Margins.AreOwn, Margins.AreOwnBy, Margins.IsMargin, Margins.MarginsAfter, Margins.asked}

-- of one step more
pub one-more : (p : Prices) (least : ℕ) (first before d : Claim) (rest ds : List Claim) (so_far own : List ℕ) → AreOwn p least before d own
    → ((later : List ℕ) → MarginsAfter p least before (d ∷ ds) later → MarginsAfter p least first rest (so_far ++ later))
    → (later : List ℕ) → MarginsAfter p least d ds later → MarginsAfter p least first rest ((so_far ++ own) ++ later)
one-more p least first before d rest ds so_far own o k later h =
    subst (MarginsAfter p least first rest) (sym (append_assoc so_far own later)) (k (own ++ later) (own, later, refl, o, h))

-- the margin of one step
pub own-none : (p : Prices) (least : ℕ) (c d : Claim) → is_plain p c d ≡ true → AreOwn p least c d []
own-none p least c d e = subst (λ (b : Bool). AreOwnBy b p least c d []) (sym e) refl

pub own-one : (p : Prices) (least : ℕ) (c d : Claim) (margin : ℕ) → is_plain p c d ≡ false → IsMargin p least c d margin
    → AreOwn p least c d (margin ∷ [])
own-one p least c d margin e h = subst (λ (b : Bool). AreOwnBy b p least c d (margin ∷ [])) (sym e) (margin, refl, h)

-- by how much the cost exceeds the least one below which all say the same
pub is_margin : (p : Prices) (least bound : ℕ) (c d : Claim)
    → ((others : List Claim) → IsExplanation (rises_of p) others → cost (price p) (rises_of p) others < bound → Gives (place p) (asked p c d) others)
    → IsOther (price p) (place p) (rises_of p) (asked p c d) bound
    → ((others : List Claim) → IsExplanation (rises_of p) others → least ≤ cost (price p) (rises_of p) others) → IsMargin p least c d (bound - least)
is_margin p least bound c d sure other cheapest =
    let le : least ≤ bound = subst (λ (n : ℕ). least ≤ n) other.exact (cheapest other.claims other.possible) in
    let back : bound ≡ least + (bound - least) = omega (arith, le) in
    record {
      sure = subst (λ (n : ℕ). (others : List Claim) → IsExplanation (rises_of p) others → cost (price p) (rises_of p) others < n
          → Gives (place p) (asked p c d) others) back sure;
      exact = subst (IsOther (price p) (place p) (rises_of p) (asked p c d)) back other;
    }

-- a claim is about a rise that there is
pub there : (rises : Rises) (c : Claim) (ds : List Claim) → AreClaims rises c ds → c.rise < rises.count
there rises c [] h = h.0
there rises c (d ∷ ds) h = h.0.0

-- nothing follows the last claim
pub ended : (ds : List Claim) (i : ℕ) → length ds ≤ i → drop i ds ≡ []
ended [] zero le = refl
ended [] (suc i) le = refl
ended (d ∷ ds) zero le = absurd (omega (arith, le))
ended (d ∷ ds) (suc i) le = ended ds i (omega (arith, le))
