-- Elements counted on from one jump to the next. This project's own.
use Rattle.std.specs.Prelude.{ℕ, ◌+◌, ◌^◌, ◌<◌, List, [], ◌∷◌, unwrap_or}
use Rattle.irig_explaining.specs.declared.{claim.Claim.Claim, claim.Kind.Kind, prices.Prices.Prices}
use Rattle.irig_explaining.specs.declared.claim.Kind.TheVariants.{Next, Step, Jump}
use Rattle.irig_explaining.specs.{Between.over}
use Rattle.irig_telling.specs.declared.counted.Counted.{Counted}

-- a stretch begins in its frame 0
abbrev pub begun : ℕ → Claim → Counted
begun stretch c = record { stretch = stretch; element = c.element }

-- a step that goes on adds as many elements as it goes over
abbrev pub longer : Prices → Claim → Counted → Claim → Counted
longer p c at d =
    record { stretch = at.stretch; element = at.element + unwrap_or (over p c d) 0 }

-- and a jump begins a new stretch
abbrev pub next_by : Kind → Prices → Claim → Counted → Claim → Counted
next_by Next p c at d = longer p c at d
next_by Step p c at d = longer p c at d
next_by Jump p c at d = begun (at.stretch + 1) d

abbrev pub next : Prices → Claim → Counted → Claim → Counted
next p c at d = next_by d.kind p c at d

-- the claims after one
abbrev pub rest_of : Prices → Claim → Counted → List Claim → List Counted
rest_of p c at [] = []
rest_of p c at (d ∷ ds) = next p c at d ∷ rest_of p d (next p c at d) ds

-- all claims
abbrev pub counted : Prices → List Claim → List Counted
counted p [] = []
counted p (c ∷ cs) = begun 0 c ∷ rest_of p c (begun 0 c) cs

-- a recording has no more elements
abbrev pub IsFew : Counted → Type 0
IsFew at = at.element < 2 ^ 49
