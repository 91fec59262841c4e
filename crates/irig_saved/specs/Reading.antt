-- What reading a word, a line or a part gives. This project's own.
use Rattle.std.specs.Prelude.{◌≡◌, ◌+◌, ◌≤◌, ◌==◌, ℕ, Bool, true, not, List, ◌∷◌, ◌++◌, Option}
use Rattle.std.specs.Prelude.{Result, MatchOption, MatchResult, take, length, nat_lt}
use Rattle.std.specs.{List.list_all, Borrow.Bor}
use Rattle.irig_saved.specs.declared.stop.Stop.TheVariants.{At, Memory}
use Rattle.irig_saved.specs.{Lines.text_of, Ranges.IsSingle, declared.single.Single.Single}
use Rattle.irig_saved.specs.{declared.single.Single.TheVariants.Splice, declared.stop.Stop.Stop}

-- a byte does not occur
abbrev pub Lacks : ℕ → List ℕ → Type 0
Lacks b bytes = list_all (λ x. not (x == b)) bytes ≡ true

-- a text is cut at the first place of a byte, if it occurs
abbrev pub CutAt : ℕ → List ℕ → Option (Bor (List ℕ) × Bor (List ℕ)) → Type 0
CutAt b text r =
    MatchOption r (Lacks b text) (λ p. (text ≡ p.0.now ++ b ∷ p.1.now) × Lacks b p.0.now)

-- each byte is above the space
abbrev pub IsWordy : List ℕ → Type 0
IsWordy w = list_all (λ b. nat_lt 32 b) w ≡ true

-- any value
abbrev pub Any : {X : Type 0} → X → Type 0
Any x = Unit {0}

-- one for each of 26 letters
abbrev pub AreLetters : List Bool → Type 0
AreLetters marks = length marks ≡ 26

-- a reading gives the value that the bytes are written of, and none if there is none
abbrev pub Decodes : {X : Type 0} → (X → Type 0) → (X → List ℕ) → List ℕ → Option X → Type 0
Decodes {X} Is write bytes r =
    MatchOption r ((x : X) → Is x → bytes ≡ write x → ⊥) (λ x. Is x × (bytes ≡ write x))

-- a change of one line
abbrev pub IsShort : Single → Type 0
IsShort (Splice at count put) = ⊥
IsShort single = IsSingle single

-- the text begins with the lines of a part
pub record Reads {X : Type 0} (Is : X → Type 0) (lines : X → List (List ℕ))
    (text : List ℕ) (x : X) (rest : List ℕ) : Type 0 where
  pub lawful : Is x
  pub same : text ≡ text_of (lines x) ++ rest

-- some part has the lines of the text before the rest; none has those and the next; and the text
-- begins with the lines of none
pub record Stops {X : Type 0} (Is : X → Type 0) (lines : X → List (List ℕ))
    (text rest : List ℕ) : Type 0 where
  pub n : ℕ
  pub part : X
  pub lawful : Is part
  pub there : n ≤ length (lines part)
  pub same : text ≡ text_of (take n (lines part)) ++ rest
  pub wrong : (x : X) (more : List ℕ) → Is x → n + 1 ≤ length (lines x)
      → text ≡ text_of (take (n + 1) (lines x)) ++ more → ⊥
  pub refused : (x : X) (more : List ℕ) → Is x → text ≡ text_of (lines x) ++ more → ⊥

-- this holds of the rest at which a reading stops, and that if it is out of memory
abbrev pub IsStop : (List ℕ → Type 0) → Type 0 → Stop → Type 0
IsStop P M (At rest) = P rest.now
IsStop P M Memory = M

-- a part is read from the head of a text; if the reading is out of memory, this holds of the text
abbrev pub Parses : {X : Type 0} → (X → Type 0) → (X → List (List ℕ)) → (List ℕ → Type 0)
    → List ℕ → Result (X × Bor (List ℕ)) Stop → Type 0
Parses Is lines Out text r =
    MatchResult r (λ p. Reads Is lines text p.0 p.1.now)
    (λ e. IsStop (λ rest. Stops Is lines text rest) (Out text) e)
