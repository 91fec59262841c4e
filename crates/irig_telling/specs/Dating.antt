-- What a choice of a base for each bit costs. This project's own.
use Rattle.std.specs.Prelude.{ℕ, ◌+◌, ◌-◌, ◌*◌, ◌/◌, ◌%◌, ◌==◌, Bool, true, false, List, [], length}
use Rattle.std.specs.Prelude.{Option, Some, None, max, min, slice_get, if◌then◌else◌}
use Rattle.std.specs.Global.{Vec}
use Rattle.irig_codes.specs.Format.{FormatView}
use Rattle.irig_candidates.specs.{Bits.is_one, Bits.price, declared.bit.Bit.Bit}
use Rattle.irig_dating.specs.Choices.{Prices}
use Rattle.irig_telling.specs.declared.{dated.Dated.Dated, dating.TheConstants.SET}
use Rattle.irig_telling.specs.declared.dating.TheConstants.{UNKNOWN}
use Rattle.irig_telling.specs.Jumps.{begins, far_between, far_within, leap, leap_within, time_at}

-- a bit costs what its class costs by its time; a time that nobody knows says it with a half
abbrev pub pay_of : FormatView → Bit → Option ℕ → ℕ
pay_of f b None = min UNKNOWN (b.zero + b.one)
pay_of f b (Some base) = price b (is_one f (time_at f b base) b.element)

-- one bit has a base, and the next one another; a bit without bases says nothing
abbrev pub join_bases : Dated → Bit → Bit → ℕ → ℕ → ℕ
join_bases d b a x y =
    let f = d.code.now in
    if b.stretch == a.stretch
    then (if x == y then 0 else leap_within (begins f x y) (far_within f b a x y))
    else leap (begins f x y) (far_between f d.prices.now b a x y)

abbrev pub join_of : Dated → Bit → Bit → Option ℕ → Option ℕ → ℕ
join_of d b a None y = 0
join_of d b a (Some x) None = 0
join_of d b a (Some x) (Some y) = join_bases d b a x y

-- a bit has the time of its base, and the next one any other time, or the other way round
abbrev pub enter : Bool → Bool → ℕ
enter true true = 0
enter true false = SET
enter false true = SET
enter false false = 0

-- the bases that a bit can have
abbrev pub items_of : Option (Vec ℕ) → List ℕ
items_of None = []
items_of (Some v) = v.items

abbrev pub set_of : Dated → Option ℕ → List ℕ
set_of d None = []
set_of d (Some n) = items_of (slice_get d.sets.now n)

abbrev pub bases_at : Dated → ℕ → List ℕ
bases_at d t = set_of d (slice_get d.which.now t)

-- each base makes two candidates: the bit has that time, or any other one
abbrev pub is_said : ℕ → Bool
is_said c = c % 2 == 0

abbrev pub base_at : Dated → ℕ → ℕ → Option ℕ
base_at d t c = slice_get (bases_at d t) (c / 2)

abbrev pub said_at : Dated → ℕ → ℕ → Option ℕ
said_at d t c = if is_said c then base_at d t c else None

-- if there are such bits
abbrev pub pay_at : Dated → Option Bit → Option ℕ → ℕ
pay_at d None x = 0
pay_at d (Some b) x = pay_of d.code.now b x

abbrev pub join_at : Dated → Option Bit → Option Bit → Option ℕ → Option ℕ → ℕ
join_at d None a x y = 0
join_at d (Some b) None x y = 0
join_at d (Some b) (Some a) x y = join_of d b a x y

-- the costs of candidates
abbrev pub prices_of : Dated → Prices
prices_of d = record {
  last = λ t. 2 * length (bases_at d t) - 1;
  pay = λ t c. pay_at d (slice_get d.bits.now t) (said_at d t c);
  join = λ t c e. max (enter (is_said c) (is_said e))
      (join_at d (slice_get d.bits.now (t - 1)) (slice_get d.bits.now t)
      (base_at d (t - 1) c) (base_at d t e));
}
