-- What happened at a step of an explanation, from one claim to the next. This project's own.
use Rattle.std.specs.Prelude.{ℕ, ◌-◌, ◌==◌, ◌&&◌, Bool, true, false, Option, Some, None, nat_lt}
use Rattle.irig_explaining.specs.declared.{claim.Claim.Claim, claim.Kind.Kind}
use Rattle.irig_explaining.specs.declared.claim.Kind.TheVariants.{Next, Step, Jump}
use Rattle.irig_explaining.specs.declared.prices.Prices.{Prices}
use Rattle.irig_explaining.specs.{Between.count_between, Distances.rise_at, Priced.price}
use Rattle.irig_happenings.specs.declared.happened.TheConstants.{DAMAGED}
use Rattle.irig_happenings.specs.declared.happening.Happening.{Happening}

-- what the step costs
abbrev pub price_of : Prices → Claim → Claim → ℕ
price_of p c d = price p c.rise c.element d.rise d.element d.kind

-- how many elements without a rise are between the two, if the step goes on
abbrev pub missing_in : Kind → Option ℕ → ℕ
missing_in Next (Some n) = n - 1
missing_in Next None = 0
missing_in Step count = 0
missing_in Jump count = 0

abbrev pub missing_of : Prices → Claim → Claim → ℕ
missing_of p c d = missing_in d.kind (count_between p c d)

-- how many rises between the two are no element
abbrev pub noise_of : Claim → Claim → ℕ
noise_of c d = d.rise - c.rise - 1

-- nothing happened: the next rise is the next element, and both look like theirs
abbrev pub goes_on : Kind → Bool
goes_on Next = true
goes_on Step = false
goes_on Jump = false

abbrev pub is_plain : Prices → Claim → Claim → Bool
is_plain p c d =
    goes_on d.kind && (missing_of p c d == 0) && (d.rise - c.rise == 1)
    && nat_lt (price_of p c d) DAMAGED

-- what happened, and how much dearer the next best explanation is
abbrev pub happening : Prices → Claim → Claim → Option ℕ → Happening
happening p c d margin = record {
  begin = rise_at p c.rise;
  end = rise_at p d.rise;
  kind = d.kind;
  element = c.element;
  to = d.element;
  missing = missing_of p c d;
  noise = noise_of c d;
  cost = price_of p c d;
  margin = margin;
}
