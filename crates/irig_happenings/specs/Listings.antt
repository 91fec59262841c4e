-- The listing of what happened in a recording: that of a cheapest explanation. This project's own.
use Rattle.std.specs.Prelude.{ℕ, ◌≡◌, ◌*◌, ◌≤◌, Bool, true, false, List, [], map}
use Rattle.irig_codes.specs.Format.{FormatView, interval_of}
use Rattle.irig_recording.specs.Pulses.{edges_of}
use Rattle.irig_recording.specs.declared.pulse.Pulse as recorded
use Rattle.irig_explaining.specs.declared.{claim.Claim.Claim, explanation.Explanation.Explanation}
use Rattle.irig_explaining.specs.declared.{prices.Prices.Prices, pulse.Pulse.Pulse}
use Rattle.irig_explaining.specs.{Explanation.IsExplanation, Explanation.cost, Priced.price}
use Rattle.irig_explaining.specs.Recorded.{IsCheapest, rises_of}
use Rattle.irig_happenings.specs.{Margins.AreMargins, Parts.parts_of, Roles.roles_of}
use Rattle.irig_happenings.specs.declared.part.Part.{Part}

-- the pulses with these edges
abbrev pub explained_pulse : recorded.Pulse → Pulse
explained_pulse p = record { rise = p.rise; fall = p.fall }

pub record ArePulsesOf (edges : List ℕ) (pulses : List Pulse) : Type 0 where
  pub held : List recorded.Pulse
  pub are : edges_of held ≡ edges
  pub same : pulses ≡ map explained_pulse held

-- each happening has its margin, if they are asked for
abbrev pub HasMargins : Bool → Prices → Explanation → List ℕ → Type 0
HasMargins true p x margins = margins ≡ []
HasMargins false p x margins = AreMargins p x.cost x.claims.items margins

-- the parts are those of an explanation of the pulses with these edges, of which none is cheaper
pub record IsListing (f : FormatView) (edges : List ℕ) (quick : Bool) (parts : List Part) : Type 0
  where
    pub pulses : List Pulse
    pub are : ArePulsesOf edges pulses
    pub explanation : Explanation
    pub cheapest : IsCheapest (256 * interval_of f.kind) pulses (roles_of f) explanation
    pub margins : List ℕ
    pub sure : HasMargins quick cheapest.prices explanation margins
    pub listed : parts ≡ parts_of cheapest.prices margins explanation.claims.items

-- the same by some prices
pub record IsExplained (p : Prices) (quick : Bool) (parts : List Part) : Type 0 where
  pub explanation : Explanation
  pub possible : IsExplanation (rises_of p) explanation.claims.items
  pub exact : cost (price p) (rises_of p) explanation.claims.items ≡ explanation.cost
  pub least : (others : List Claim) → IsExplanation (rises_of p) others
      → explanation.cost ≤ cost (price p) (rises_of p) others
  pub margins : List ℕ
  pub sure : HasMargins quick p explanation margins
  pub listed : parts ≡ parts_of p margins explanation.claims.items
