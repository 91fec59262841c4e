-- What a text begins with: docs/FORMATS.md, "The saved journal". This project's own.
use Rattle.std.specs.Prelude.{◌≡◌, ◌+◌, ◌<◌, ℕ, List, [], ◌∷◌, ◌++◌, Option, Some, None}
use Rattle.std.specs.Prelude.{MatchOption, decimal, codes}
use Rattle.std.specs.Borrow.{Bor}
use Rattle.irig_saved.specs.Values.{AreThree, words_of_format, words_of_three}
use Rattle.irig_saved.specs.{Lines.line, Lines.numbered, Ranges.IsNumber}
use Rattle.irig_codes.specs.declared.format.Kind.{Kind}

-- the first line is read, with what is after it; else the text begins with no such line
abbrev pub FirstLine : {X : Type 0} → (X → Type 0) → (X → List ℕ) → List ℕ
    → Option (X × Bor (List ℕ)) → Type 0
FirstLine {X} Is write text r = MatchOption r
    ((x : X) (more : List ℕ) → Is x → text ≡ write x ++ 10 ∷ more → ⊥)
    (λ p. Is p.0 × (text ≡ write p.0 ++ 10 ∷ p.1.now))

-- the lines of the name, a format and a cursor, and what is after them
abbrev pub head_text : Kind × ℕ → ℕ → List ℕ → List ℕ
head_text f cursor rest =
    codes "irig-journal-1" ++ 10 ∷ (line (codes "format") (words_of_format f)
    ++ 10 ∷ (numbered (codes "cursor") (cursor ∷ []) ++ 10 ∷ rest))

-- mark x TIME, of a letter's byte x
abbrev pub mark_line : ℕ → ℕ → List ℕ
mark_line x t = line (codes "mark") ((x ∷ []) ∷ decimal t ∷ [])

-- the text begins with no line of this mark
abbrev pub LacksMark : ℕ → List ℕ → Type 0
LacksMark x text =
    (t : ℕ) (more : List ℕ) → IsNumber t → text ≡ mark_line x t ++ 10 ∷ more → ⊥

-- the marks from a letter on, each set if its line is next in the text, up to the rest
abbrev pub Leads : ℕ → List (Option ℕ) → List ℕ → List ℕ → Type 0
Leads x [] text rest = text ≡ rest
Leads x (None ∷ ms) text rest = LacksMark x text × Leads (x + 1) ms text rest
Leads x (Some t ∷ ms) text rest = IsNumber t
    × ((mid : List ℕ) × (text ≡ mark_line x t ++ 10 ∷ mid) × Leads (x + 1) ms mid rest)

-- the text begins with the first line of a splice, and it puts pulses
pub record BeginsSplice (text : List ℕ) : Type 0 where
  pub three : ℕ × ℕ × ℕ
  pub numbers : AreThree three
  pub some : 0 < three.2
  pub more : List ℕ
  pub same : text ≡ line (codes "splice") (words_of_three three) ++ 10 ∷ more

-- the text begins with the first line of a step
pub record BeginsStep (text : List ℕ) : Type 0 where
  pub cursor : ℕ
  pub number : IsNumber cursor
  pub more : List ℕ
  pub same : text ≡ numbered (codes "at") (cursor ∷ []) ++ 10 ∷ more

-- there is to be a step, and the text begins with its first line
abbrev pub BeginsSome : ℕ → List ℕ → Type 0
BeginsSome count text = 0 < count × BeginsStep text

-- the text begins with a word and how many steps there are, and with the first line of a step
pub record BeginsSteps (head text : List ℕ) : Type 0 where
  pub count : ℕ
  pub number : IsNumber count
  pub mid : List ℕ
  pub same : text ≡ numbered head (count ∷ []) ++ 10 ∷ mid
  pub some : BeginsSome count mid
