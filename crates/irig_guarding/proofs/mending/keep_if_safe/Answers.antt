use Rattle.std.proofs.Common.{◌≡◌, ◌∙◌, List, ℕ, true, false, subst, sym}
use Rattle.std.specs.Prelude.{IfErr, OnOk}
use Rattle.irig_guarding.specs.{Repair.ObeyedAll, Drops.Drops, RepairLines.MayBeKept}
use Rattle.irig_guarding.proofs.{DropLemmas.group_no_repair, DropLemmas.one_text, GuardLemmas.ends_of, GuardLemmas.group_obeyed, GuardLemmas.on_ok, GuardLemmas.texts_of_ends, RepairLemmas.one_obeyed}
use Rattle.irig_guarding.proofs.mending.keep_if_safe.Goals as goal

pub returns-then-not-begins-clause-drops : goal.returns-then-not-begins-clause-drops
returns-then-not-begins-clause-drops c = λ other.
    let xs = c.args.repair.now in
    let cut = ends_of xs c.first-item.result c.last-item.result c.in-len2-up.len_at_least c.first-item.is c.last-item.is in
    let all = texts_of_ends xs _ c.first-item.result c.last-item.result cut in
    subst (λ (l : List (List ℕ)). MayBeKept l → ⊥) (sym all) (group_no_repair _ _ _
    (λ begins _ _. let bad : true ≡ false = sym (c.begins.ensures.1 begins) ∙ c.if-not-begins.true in cc))

pub returns-then-not-ends-clause-drops : goal.returns-then-not-ends-clause-drops
returns-then-not-ends-clause-drops c = λ other.
    let xs = c.args.repair.now in
    let cut = ends_of xs c.first-item.result c.last-item.result c.in-len2-up.len_at_least c.first-item.is c.last-item.is in
    let all = texts_of_ends xs _ c.first-item.result c.last-item.result cut in
    subst (λ (l : List (List ℕ)). MayBeKept l → ⊥) (sym all) (group_no_repair _ _ _
    (λ _ ends _. let bad : true ≡ false = sym (c.ends.ensures.1 ends) ∙ c.if-not-ends.true in cc))

pub returns-else-not-ends-clause-made : goal.returns-else-not-ends-clause-made
returns-else-not-ends-clause-made c =
    let xs = c.args.repair.now in
    let cut = ends_of xs c.first-item.result c.last-item.result c.in-len2-up.len_at_least c.first-item.is c.last-item.is in
    let all = texts_of_ends xs _ c.first-item.result c.last-item.result cut in
    subst (λ (l : List (List ℕ)). OnOk c.keep_group_if_safe.result (ObeyedAll c.args.session.now l c.keep_group_if_safe.new.session)) (sym all)
    (on_ok c.keep_group_if_safe.result c.keep_group_if_safe.ensures.made
    (λ g. group_obeyed _ _ _ _ _ (c.begins.ensures.0 c.if-not-begins.false) (c.ends.ensures.0 c.if-not-ends.false) g))

pub returns-else-not-ends-clause-drops : goal.returns-else-not-ends-clause-drops
returns-else-not-ends-clause-drops c = λ other.
    let xs = c.args.repair.now in
    let cut = ends_of xs c.first-item.result c.last-item.result c.in-len2-up.len_at_least c.first-item.is c.last-item.is in
    let all = texts_of_ends xs _ c.first-item.result c.last-item.result cut in
    subst (λ (l : List (List ℕ)). IfErr c.keep_group_if_safe.result (Drops c.args.opened.now c.args.before.now c.args.session.now l)) (sym all)
    (c.keep_group_if_safe.ensures.drops _ _ (c.begins.ensures.0 c.if-not-begins.false) (c.ends.ensures.0 c.if-not-ends.false))

pub returns-in-len1-clause-made : goal.returns-in-len1-clause-made
returns-in-len1-clause-made c =
    on_ok c.keep_line_if_safe.result c.keep_line_if_safe.ensures.made
    (λ k. one_obeyed c.args.repair.now c.line-item.result _ _ c.in-len1.len_at_least c.in-len1.len_below c.line-item.is k)

pub returns-in-len1-clause-drops : goal.returns-in-len1-clause-drops
returns-in-len1-clause-drops c = λ other.
    let all = one_text c.args.repair.now c.line-item.result c.in-len1.len_at_least c.in-len1.len_below c.line-item.is in
    subst (λ (l : List (List ℕ)). IfErr c.keep_line_if_safe.result (Drops c.args.opened.now c.args.before.now c.args.session.now l)) (sym all)
    (c.keep_line_if_safe.ensures.drops (λ asks. other (c.line-item.result.bytes.now, all, asks)))
