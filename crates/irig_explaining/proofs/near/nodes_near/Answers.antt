use Rattle.std.proofs.Common.{inl, inr, arith}
use Rattle.std.proofs.lemmas.Bool.{cases_lt}
use Rattle.irig_explaining.proofs.near.nodes_near.Goals as goal

pub returns : goal.returns
returns c =
    let first = c.of_rises_before.ensures in let last = c.of_rises_before-2.ensures in
    record {
      below = last.below;
      later = last.before;
      near = λ u m at le. let low = first.after u m at le in omega arith;
      all = λ u m at lt near. (
        elim (cases_lt u c.of_rises_before.result) [ inl under ↦ (let low = first.before u m at under in absurd (omega arith)) | inr over ↦ over ],
        elim (cases_lt u c.of_rises_before-2.result) [ inl under ↦ under | inr over ↦ (let high = last.after u m at over in absurd (omega arith)) ],
      );
    }
