-- When the names of pulses are the elements that were sent: what the recorder did, and what follows
-- of it. This project's own.
use Rattle.std.specs.Prelude.{◌≡◌, ℕ, ◌+◌, ◌-◌, ◌*◌, ◌<◌, ◌≤◌, Bool, Some}
use Rattle.irig_law.specs.{Names.Within, Names.hop, Names.seen, declared.clock.Clock.Clock}
use Rattle.irig_law.specs.declared.names.Seen.TheVariants.{Named}

-- The elements from one to another rise at these moments of a recording that lost nothing between
-- them, and the clock ran so: each interval was that of the frame, to the slack.
abbrev pub Runs : Clock → ℕ → ℕ → (ℕ → ℕ) → Type 0
Runs c from to moment = (i k : ℕ) → from ≤ i → i ≤ k → k ≤ to
    → (moment i ≤ moment k)
    × Within ((k - i) * c.slack) (99 * (moment k - moment i)) ((k - i) * c.span)

-- a hop from one element to another is as many elements as are between them
abbrev pub HopsAreTrue : Type 0
HopsAreTrue = (c : Clock) (moment : ℕ → ℕ) (i k n : ℕ) → i < k → Runs c i k moment
    → hop c (moment k - moment i) ≡ Some n → i + n ≡ k

-- Each pulse of a row that has a name, up to a last pulse, was sent: it rose at the moment of its
-- element, and they were sent in order. Of pulses without a name, as noise, nothing is said. `name`
-- is the number of the element that was sent when each rose. Up to an element that is not before
-- any of these nothing was lost, and the clock ran.
pub record Sent (c : Clock) (rise : ℕ → ℕ) (runs : ℕ → Bool) (moment name : ℕ → ℕ) (last : ℕ)
    : Type 0 where
  pub top : ℕ
  pub clock : Runs c (name 0) top moment
  pub rises : (k e : ℕ) → k ≤ last → seen c rise runs k ≡ Named e
      → moment (name k) ≡ moment (name 0) + rise k
  pub inside : (k e : ℕ) → k ≤ last → seen c rise runs k ≡ Named e → name k ≤ top
  pub order : (j k e g : ℕ) → j < k → k ≤ last → seen c rise runs j ≡ Named e
      → seen c rise runs k ≡ Named g → name j < name k

-- the names by the clock are those that were sent
abbrev pub NamesAreSent : Type 0
NamesAreSent = (c : Clock) (rise : ℕ → ℕ) (runs : ℕ → Bool) (moment name : ℕ → ℕ) (last : ℕ)
    → Sent c rise runs moment name last
    → (k e : ℕ) → k ≤ last → seen c rise runs k ≡ Named e → name 0 + e ≡ name k
