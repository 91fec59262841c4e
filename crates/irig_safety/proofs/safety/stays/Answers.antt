use Rattle.std.proofs.Common.{◌≡◌, ◌∙◌, ◌↔◌, ◌-◌, sym, ap, subst, false, true, slice_get, ◌+◌}
use Rattle.std.specs.Prelude.{IsTrue}
use Rattle.irig_safety.specs.{Mended.Mends, Safety.behind}
use Rattle.irig_safety.proofs.SafetyLemmas.{stays_if}
use Rattle.irig_safety.proofs.safety.stays.Goals as goal

pub returns : goal.returns
returns c =
    let old = c.args.old.now in
    let k = c.args.place in
    let before2 : c.frame_before.result ≡ behind (k - 1) old = c.frame_before.ensures ∙ ap (λ j. behind j old) c.saturating_sub.ensures in
    let found : IsTrue c.mends.result
    ↔ Mends c.args.format c.args.others.now (behind (k - 1) old) (behind k old) c.args.former.now (slice_get old (k + 1))
    (slice_get old (k + 2)) c.args.frame.now =
    subst (λ (T : Type 0). IsTrue c.mends.result ↔ T)
    (λ i. Mends c.args.format c.args.others.now (before2 i) (c.frame_before-2.ensures i) c.args.former.now (c.frame_at.ensures i)
    (c.frame_at-2.ensures i) c.args.frame.now)
    c.mends.ensures in
    stays_if c.args.format c.args.others.now (behind (k - 1) old) (behind k old) c.args.former.now c.args.frame.now old k c.mends.result
    (λ same. let bad : false ≡ true = sym c.if-is_same.false ∙ c.is_same.ensures.1 same in absurd (cc)) found
