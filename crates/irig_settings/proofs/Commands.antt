-- What the command refuses.
use Rattle.std.proofs.Common.{◌≡◌, ◌∙◌, List, Result, Ok, Err, true, inl, inr, ap, map, refl}
use denote.Ref.{Bor}
use Rattle.std.specs.Prelude.{IfErr, Some, codes}
use Rattle.clap.specs.{Words.App, Words.Rule, Words.Text, Words.is_simple_and_free, declared.error.Error.Error, declared.builder.value_parser.ValueParser.ValueParser}
use Rattle.clap.specs.declared.builder.value_parser.ValueParser.TheVariants.{Names}
use Rattle.irig_settings.specs.{Errors.MayRefuse, Options.IsCommand, Options.digits, Options.letters, Options.rules_with}
use Rattle.irig_words.specs.Arguments.{command_with, option}
use Rattle.irig_words.specs.Errors as words

abbrev with_choices : Rule → Rule → App
with_choices format expression = command_with (codes "irig_ed") (rules_with format expression)

-- of any lists of values
command_free : (l d : ValueParser)
    → is_simple_and_free (with_choices (option (codes "format") (Some l)) (option (codes "expression") (Some d))) ≡ true
command_free l d = refl

-- the command is simple, and no argument of it has a rule on another
pub command_is_free : (app : App) → IsCommand app → is_simple_and_free app ≡ true
command_is_free app h = ap is_simple_and_free (h.shape ∙ (λ j. with_choices (h.is_letter.2 j) (h.is_digit.2 j))) ∙ command_free h.is_letter.0 h.is_digit.0

-- the error of a parse by the command
pub may_refuse : {T : Type 0} (app : App) (texts : List Text) → IsCommand app → (result : Result T Error)
    → IfErr result (words.MayRefuse app texts) → IfErr result (MayRefuse texts)
may_refuse app texts h (Ok matches) p = tt
may_refuse app texts h (Err error) (inl memory) = inl memory
may_refuse app texts h (Err error) (inr refused) = inr (app, h, refused)

-- the command line with these rules
pub is_command_of : (app : App) (rules : List Rule) (l d : Bor (List (Bor Text))) → app ≡ command_with (codes "irig_ed") rules
    → rules ≡ rules_with (option (codes "format") (Some (Names l))) (option (codes "expression") (Some (Names d)))
    → map (λ n. n.now) l.now ≡ letters → map (λ n. n.now) d.now ≡ digits → IsCommand app
is_command_of app rules l d shape same is_letter is_digit = record {
  format = option (codes "format") (Some (Names l));
  expression = option (codes "expression") (Some (Names d));
  is_letter = (Names l, is_letter, refl);
  is_digit = (Names d, is_digit, refl);
  shape = shape ∙ ap (command_with (codes "irig_ed")) same;
}
