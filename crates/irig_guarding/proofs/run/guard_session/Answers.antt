use Rattle.std.proofs.Common.{◌≡◌, ◌∙◌, ◌==◌, ap, ℕ, List, Option, None, length, rules, refl, subst, []}
use Rattle.std.specs.Prelude.{if◌then◌else◌}
use Rattle.irig_vcd.specs.Answer.{bytes_of}
use Rattle.irig_text.specs.Shelved.{Puts}
use Rattle.irig_guarding.specs.{GuardedRun.product_texts, KeptText.texts_or, Trials.IsTried}
use Rattle.irig_guarding.proofs.{KeptLemmas.run_of, KeptLemmas.written}
use Rattle.irig_guarding.proofs.run.guard_session.Goals as goal

pub returns-in_default-put_all-clause-ends : goal.returns-in_default-put_all-clause-ends
returns-in_default-put_all-clause-ends g c = (
  run_of c.args.terms c.args.session.now c.guard.new.session _ _ _ _ _
      c.in-Ok.ensures.read c.in-Ok.ensures.short
      c.in-Ok-guard.ensures.guarded
      (subst (λ (l : List ℕ). IsTried c.args.terms c.args.session.now l c.in-Ok-guard.printed.items c.in-Ok-guard.kept.status c.guard.new.session)
      c.as_slice.ensures.value c.in-Ok-guard.ensures.tried)
      c.in-Ok-guard.ensures.filled
      c.in-Ok-guard.ensures.agrees,
  search rules,
  refl,
)

pub returns-in-Ok-write_if_judged-clause-ends : goal.returns-in-Ok-write_if_judged-clause-ends
returns-in-Ok-write_if_judged-clause-ends g c =
    let first = c.args.session.now in
    let now = c.guard.new.session in
    let guarded = c.in-Ok-guard.ensures.guarded in
    let before = c.in-Ok-text_before.before in
    let left : texts_or (bytes_of c.text_if_unmade-unmade.result) c.args.product now ≡ product_texts c.args.product guarded.left =
    ap (λ (k : Option (List ℕ)). texts_or k c.args.product now)
    (c.text_if_unmade-unmade.ensures ∙ ap (λ (n : ℕ). if length now.past == n then bytes_of before else None) c.steps_back-steps.ensures)
    ∙ written c.args.product first guarded.left now (bytes_of before) c.in-Ok-text_before.ensures guarded.same guarded.redo guarded.made in (
      run_of c.args.terms first now _ _ _ _ _
          c.in-Ok.ensures.read c.in-Ok.ensures.short
          guarded
          (subst (λ (l : List ℕ). IsTried c.args.terms first l c.in-Ok-guard.printed.items c.in-Ok-guard.kept.status now)
          c.as_slice.ensures.value c.in-Ok-guard.ensures.tried)
          c.in-Ok-guard.ensures.filled
          c.in-Ok-guard.ensures.agrees,
      refl,
      refl,
      c.in-Ok-guard.ensures.judged,
      search rules,
      subst (λ (l : List (List ℕ)). Puts (g.S.Shelf.known c.args.shelf.now) (g.S.Shelf.known c.write_if_judged.new.shelf)
          (if c.in-Ok-guard.kept.judged then l else []) 0) left c.in-Ok-write_if_judged.ensures.ok,
    )

pub returns-clause-ends : goal.returns-clause-ends
returns-clause-ends g c = (
  run_of c.args.terms c.args.session.now c.guard.new.session _ _ _ _ _
      c.in-Ok.ensures.read c.in-Ok.ensures.short
      c.in-Ok-guard.ensures.guarded
      (subst (λ (l : List ℕ). IsTried c.args.terms c.args.session.now l c.in-Ok-guard.printed.items c.in-Ok-guard.kept.status c.guard.new.session)
      c.as_slice.ensures.value c.in-Ok-guard.ensures.tried)
      c.in-Ok-guard.ensures.filled
      c.in-Ok-guard.ensures.agrees,
  search rules,
  search rules,
)
