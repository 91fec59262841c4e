-- What the code keeps of the journals so far.
use Rattle.std.specs.Prelude.{◌≡◌, ◌≤◌, ◌-◌, ℕ, Bool, true, false, List, [], ◌∷◌, length, Option}
use Rattle.std.specs.Prelude.{Some, None, IfSome, take, drop}
use Rattle.irig_vcd.specs.declared.journals.Journals.{Journals}
use Rattle.irig_vcd.specs.{Journals.Comment, declared.journals.Place.Place}

-- a place, if there is one, as two numbers
abbrev pub place_view : Option Place → Option (ℕ × ℕ)
place_view None = None
place_view (Some p) = Some (p.start, p.end)

-- the place of the first comment's text, if there is one
abbrev pub first_place : List Comment → Option (ℕ × ℕ)
first_place [] = None
first_place (c ∷ cs) = Some (c.first.offset, c.end)

-- there is more than one
abbrev pub are_many : List Comment → Bool
are_many [] = false
are_many (c ∷ []) = false
are_many (c ∷ d ∷ cs) = true

-- the first of some journals is kept, and whether there are more
pub record Holds (all : List Comment) (j : Journals) : Type 0 where
  pub first : place_view j.first ≡ first_place all
  pub many : j.many ≡ are_many all

-- the place that is kept lies in a text
abbrev pub LiesIn : List ℕ → Journals → Type 0
LiesIn text j = IfSome j.first (λ p. (p.start ≤ p.end) × (p.end ≤ length text))

-- the bytes at a place, if there is one
abbrev pub text_at : List ℕ → Option Place → Option (List ℕ)
text_at bytes None = None
text_at bytes (Some p) = Some (take (p.end - p.start) (drop p.start bytes))
