-- Claims one after another.
use Rattle.std.proofs.Common.{◌≡◌, ◌+◌, ◌<◌, ◌∷◌, ◌∙◌, [], ℕ, List, add-one, ap, drop, drop-cons, get_or, length, sym}
use Rattle.irig_explaining.specs.declared.{claim.Claim.Claim, rises.Rises.Rises}
use Rattle.irig_explaining.specs.{Explanation.AreClaims}

-- a claim is about a rise that there is
pub there : (rises : Rises) (c : Claim) (ds : List Claim) → AreClaims rises c ds → c.rise < rises.count
there rises c [] h = h.0
there rises c (d ∷ ds) h = h.0.0

-- and one of the elements
pub element_there : (rises : Rises) (c : Claim) (ds : List Claim) → AreClaims rises c ds → c.element < rises.states
element_there rises c [] h = h.1
element_there rises c (d ∷ ds) h = h.0.1

-- the next one, and those after it
pub next_claim : (ds : List Claim) (i : ℕ) (d : Claim) → i < length ds → drop i ds ≡ get_or ds i d ∷ drop (i + 1) ds
next_claim ds i d lt = drop-cons ds i d lt ∙ ap (λ (n : ℕ). get_or ds i d ∷ drop n ds) (sym (add-one i))
