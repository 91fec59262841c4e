use Rattle.std.proofs.Common.{rules, ◌≢◌, [], refl, List, ℕ, subst, inl, inr}
use Rattle.irig_script.specs.{Obey.Answer.texts_of, Obey.Replies.texts_put}
use Rattle.irig_lines.specs.{Grammar.Means, declared.command.Command.Command}
use Rattle.irig_lines.specs.declared.command.Command.TheVariants as command
use Rattle.irig_script.proofs.ObeyLemmas.Desks.{puts_none}
use Rattle.irig_script.proofs.ObeyLemmas.Quits.{bad_goes_on, long_goes_on, other_goes_on, quit_ends}
use Rattle.irig_script.proofs.obey.obeying.obey_line.Goals as goal

pub returns-in_default-clause-answers : goal.returns-in_default-clause-answers
returns-in_default-clause-answers g c = (
  [],
  λ text h.
      (let long = c.in_default.ensures.long text h in
      (long_goes_on text long, inl (long, refl, refl, refl))),
  puts_none _,
  refl,
)

pub returns-in-Ok-Quit-clause-answers : goal.returns-in-Ok-Quit-clause-answers
returns-in-Ok-Quit-clause-answers g c =
    let meant : Means command.Quit c.in-Some.text.now = search rules in (
      λ text h.
          (let whole = c.in-Some.ensures.whole text h in
          quit_ends text whole.1 (subst (λ (l : List ℕ). Means command.Quit l) whole.0 meant)),
      refl,
      refl,
    )

pub returns-in-Ok-clause-answers : goal.returns-in-Ok-clause-answers
returns-in-Ok-clause-answers g c =
    let more : c.in-Ok.command ≢ command.Quit = search rules in (
      texts_put (texts_of c.in-Ok.command c.args.session.now) c.write_or_obey.result,
      λ text h.
          (let whole = c.in-Some.ensures.whole text h in
          let meant : Means c.in-Ok.command text = subst (λ (l : List ℕ). Means c.in-Ok.command l) whole.0 c.in-Ok.ensures.meant in
          (other_goes_on c.in-Ok.command text meant more, inr (inr (whole.1, (c.in-Ok.command, meant, c.write_or_obey.ensures.answer, refl))))),
      c.write_or_obey.ensures.put,
      c.write_or_obey.ensures.count,
    )

pub returns-in-Err-clause-answers : goal.returns-in-Err-clause-answers
returns-in-Err-clause-answers g c = (
  [],
  λ text h.
      (let whole = c.in-Some.ensures.whole text h in
      let bad : (asked : Command) → Means asked text → ⊥ = subst (λ (l : List ℕ). (asked : Command) → Means asked l → ⊥) whole.0 c.in-Err.ensures.bad in
      (bad_goes_on text bad, inr (inl (whole.1, bad, refl, refl, refl)))),
  puts_none _,
  refl,
)
