-- The parts of an explanation by some prices are those of a recording.
use Rattle.std.proofs.Common.{◌≡◌, ◌≤◌, ◌*◌, ◌∙◌, ℕ, Bool, List}
use Rattle.irig_codes.specs.Format.{FormatView, interval_of}
use Rattle.irig_explaining.specs.declared.{claim.Claim.Claim, explanation.Explanation.Explanation, prices.Prices.Prices}
use Rattle.irig_explaining.specs.declared.{pulse.Pulse.Pulse, rises.Rises.Rises, role.Role.Role}
use Rattle.irig_explaining.specs.{Clocks.IsClock, Explanation.IsExplanation, Explanation.cost, Priced.price, Recorded.rises_of}
use Rattle.irig_happenings.specs.{Listings.ArePulsesOf, Listings.HasMargins, Listings.IsExplained, Listings.IsListing, Parts.parts_of, Roles.roles_of}
use Rattle.irig_happenings.specs.declared.part.Part.{Part}

pub is_explained : (p q : Prices) (rises : Rises) (x : Explanation) (quick : Bool) (margins : List ℕ) (parts : List Part) → q ≡ p → rises ≡ rises_of p
    → IsExplanation rises x.claims.items → cost (price q) rises x.claims.items ≡ x.cost
    → ((others : List Claim) → IsExplanation rises others → x.cost ≤ cost (price q) rises others) → HasMargins quick p x margins
    → parts ≡ parts_of p margins x.claims.items → IsExplained p quick parts
is_explained p q rises x quick margins parts same of possible exact least sure listed = record {
  explanation = x;
  possible = rw of at possible;
  exact = rw (same, of) at exact;
  least = rw (same, of) at least;
  margins = margins;
  sure = sure;
  listed = listed;
}

pub is_listing : (f : FormatView) (edges : List ℕ) (quick : Bool) (pulses : List Pulse) (roles : List Role) (p : Prices) → ArePulsesOf edges pulses
    → roles ≡ roles_of f → p.pulses.now ≡ pulses → p.roles.now ≡ roles → IsClock (256 * interval_of f.kind) pulses p.clock.now → (parts : List Part)
    → IsExplained p quick parts → IsListing f edges quick parts
is_listing f edges quick pulses roles p are of wire frame clock parts h = record {
  pulses = pulses;
  are = are;
  explanation = h.explanation;
  cheapest = record {
    prices = p;
    wire = wire;
    frame = frame ∙ of;
    clock = clock;
    possible = h.possible;
    exact = h.exact;
    least = h.least;
  };
  margins = h.margins;
  sure = h.sure;
  listed = h.listed;
}
