-- What reading a text gives. This project's own.
use Rattle.std.specs.Prelude.{Result, MatchResult}

-- the result is such a value; an error says that there is none
abbrev pub Finds : {X E : Type 0} → (X → Type 0) → Result X E → Type 0
Finds {X} Is result = MatchResult result Is (λ e. (x : X) → Is x → ⊥)
