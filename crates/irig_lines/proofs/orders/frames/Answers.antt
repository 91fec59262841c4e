use Rattle.std.proofs.Common.{◌∷◌, [], refl, ap, sym, ◌∙◌, subst, List, ℕ}
use Rattle.irig_moment.specs.Written.{moment_of}
use Rattle.irig_lines.specs.{Addresses.IsTime, Arguments.AreControls, Commands.Asks, Numbers.IsNumber, Words.words_of, declared.command.Command.Command}
use Rattle.irig_lines.specs.declared.keyword.Keyword.TheVariants as word
use Rattle.irig_lines.proofs.KnownWords.{finds_none, full_word, moment_some, next_word, time_some}
use Rattle.irig_lines.proofs.orders.frames.Goals as goal

pub returns-in_default : goal.returns-in_default
returns-in_default c = λ asked a.
    let f = a.6 in
    let one = next_word _ _ _ _ _ c.split_word.ensures.words f.4 in
    c.in_default.ensures a.0 (subst (λ (w : List ℕ). IsTime w a.0) (sym one.0) f.5)

pub returns-in_default-number : goal.returns-in_default-number
returns-in_default-number c = λ asked a.
    let f = a.6 in
    let one = next_word _ _ _ _ _ c.split_word.ensures.words f.4 in
    let two = next_word _ _ _ _ _ c.split_word-2.ensures.words one.1 in
    c.in_default-number.ensures.read a.1 (subst (λ (w : List ℕ). IsNumber w a.1) (sym two.0) f.6)

pub returns-in_default-moment : goal.returns-in_default-moment
returns-in_default-moment c = λ asked a.
    let f = a.6 in
    let one = next_word _ _ _ _ _ c.split_word.ensures.words f.4 in
    let two = next_word _ _ _ _ _ c.split_word-2.ensures.words one.1 in
    let three = next_word _ _ _ _ _ c.split_word-3.ensures.words two.1 in
    c.in_default-moment.ensures a.2 (ap moment_of three.0 ∙ f.7)

pub returns-in_err-controls : goal.returns-in_err-controls
returns-in_err-controls c =
    let no : (asked : Command) → Asks word.Regen [] (words_of c.args.arguments.now) asked → ⊥ = λ asked a. (
    let f = a.6 in
    let one = next_word _ _ _ _ _ c.split_word.ensures.words f.4 in
    let two = next_word _ _ _ _ _ c.split_word-2.ensures.words one.1 in
    let three = next_word _ _ _ _ _ c.split_word-3.ensures.words two.1 in
    c.in_err-controls.ensures a.3 (subst (λ (ws : List (List ℕ)). AreControls ws a.3) (sym three.1) f.8)) in
    finds_none _ c.from_residual.result _ c.from_residual.ensures.1 no

pub returns : goal.returns
returns c =
    let one = full_word _ _ _ (time_some _ _ c.in-Ok.ensures) c.split_word.ensures.words in
    let two = full_word _ _ _ c.in-Ok-number.ensures.read.some c.split_word-2.ensures.words in
    let three = full_word _ _ _ (moment_some _ _ c.in-Ok-moment.ensures) c.split_word-3.ensures.words in
    let all = one ∙ ap (λ ws. c.split_word.result.0.now ∷ ws) (two ∙ ap (λ ws. c.split_word-2.result.0.now ∷ ws) three) in (
      _,
      _,
      _,
      _,
      refl,
      refl,
      (
        _,
        _,
        _,
        _,
        all,
        c.in-Ok.ensures,
        c.in-Ok-number.ensures.read,
        c.in-Ok-moment.ensures,
        c.in_ok-controls.ensures,
      ),
    )
