-- What the words of a command line ask for. This project's own.
use denote.Ref.{Bor}
use Rattle.std.specs.Prelude.{◌≡◌, ℕ, List, [], true, false, codes, None, Some, Result}
use Rattle.std.specs.Prelude.{map, option_map, unwrap_or}
use Rattle.clap.specs.Words.{Text, first_value, matched_of, one_text, raw_values}
use Rattle.clap.specs.declared.parser.matches.Found.{Found}
use Rattle.irig_guard.specs.Options.{the_command}
use Rattle.irig_guard.specs.declared.chosen.Settings.{Settings}
use Rattle.irig_guard.specs.declared.chosen.OptionFault.{OptionFault}
use Rattle.irig_guard.specs.{Chosen.HasFault, Chosen.IsChosen}
use Rattle.irig_guard.specs.declared.raw_values.RawValues.{RawValues}
use Rattle.irig_words.specs.Usage as usage
use Rattle.irig_words.specs.declared.usage.UsageFault.{UsageFault}

-- the texts of paths
abbrev pub paths : List (Bor (List ℕ)) → List (List ℕ)
paths given = map (λ p. p.now) given

-- the values of an option, of all its uses
abbrev pub all_values : Found → Text → List (List ℕ)
all_values f name = unwrap_or (option_map raw_values (matched_of f name)) []

-- the values are those of the matches
pub record AreValues (f : Found) (a : RawValues) : Type 0 where
  pub track : first_value f (codes "TRACK") ≡ Some a.track.now
  pub wire : first_value f (codes "wire") ≡ option_map (λ w. w.now) a.wire
  pub from : first_value f (codes "from") ≡ option_map (λ w. w.now) a.from
  pub to : first_value f (codes "to") ≡ option_map (λ w. w.now) a.to
  pub format : first_value f (codes "format") ≡ option_map (λ w. w.now) a.format
  pub expression : first_value f (codes "expression") ≡ option_map (λ w. w.now) a.expression
  pub out : first_value f (codes "out") ≡ option_map (λ w. w.now) a.out
  pub others : paths a.others.items ≡ all_values f (codes "with")
  pub saved : one_text f (codes "save") ≡ Some (codes "true") → a.save ≡ true
  pub not_saved : one_text f (codes "save") ≡ Some (codes "false") → a.save ≡ false
  pub not_asked : one_text f (codes "save") ≡ None → a.save ≡ false
  pub moved : one_text f (codes "moved") ≡ Some (codes "true") → a.moved ≡ true
  pub not_moved : one_text f (codes "moved") ≡ Some (codes "false") → a.moved ≡ false
  pub moved_not_asked : one_text f (codes "moved") ≡ None → a.moved ≡ false

-- what the words ask for, or why they ask for nothing
abbrev pub Reads : List Text → Result Settings (UsageFault OptionFault) → Type 0
Reads words result = usage.Reads the_command AreValues IsChosen HasFault words result
