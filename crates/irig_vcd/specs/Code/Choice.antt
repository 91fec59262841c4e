-- What the code keeps of the variables so far.
use Rattle.std.specs.Prelude.{◌≡◌, ℕ, List, [], ◌∷◌, filter, Option, Some, None}
use Rattle.std.specs.List.{list_any}
use Rattle.irig_vcd.specs.Wire.{has_others, is_wide, by_reference, by_code}
use Rattle.irig_vcd.specs.{Answer.name_of, Variables.Declared}
use Rattle.irig_vcd.specs.declared.choice.{Choice.Choice, Choices.Choices}

-- the code of the first variable, if there is one
abbrev pub first_code : List Declared → Option (List ℕ)
first_code [] = None
first_code (v ∷ vs) = Some v.code

-- what some variables have in common is kept
pub record Chosen (vs : List Declared) (c : Choice) : Type 0 where
  pub code : name_of c.code ≡ first_code vs
  pub many : c.many ≡ has_others vs
  pub wide : c.wide ≡ list_any is_wide vs

-- the same of those with a wire's name as their reference, and of those with it as their code
pub record KeepsChoices (wire : Option (List ℕ)) (vs : List Declared) (c : Choices) : Type 0 where
  pub by_reference : Chosen (filter (by_reference wire) vs) c.by_reference
  pub by_code : Chosen (filter (by_code wire) vs) c.by_code
