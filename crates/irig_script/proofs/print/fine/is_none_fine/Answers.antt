use Rattle.std.proofs.Common.{rules, ◌≡◌, ◌+◌, ◌-◌, ◌<◌, ℕ, suc, true, Some, length, take, get_or, slice_get, arith, ap, sym, ◌∙◌, subst}
use Rattle.std.specs.List.{list_all}
use Rattle.std.proofs.lemmas.Option.{slice_get-get_or}
use Rattle.irig_edit.specs.State.State.{frames_of}
use Rattle.irig_script.specs.Print.Fine.{is_fine}
use Rattle.irig_script.proofs.{PrintLemmas.FrameLines.no_record, PrintLemmas.Fines.is_other, PrintLemmas.Fines.none_more, PrintLemmas.Fines.some_here}
use Rattle.irig_script.proofs.print.fine.is_none_fine.Goals as goal

pub returns-then-is_fine : goal.returns-then-is_fine
returns-then-is_fine c =
    let rs = frames_of c.args.session.now.state in
    let k = c.loop-index.index in
    let r = get_or rs k no_record in
    let within : k < length rs = search rules in
    let place : k + 1 - 1 ≡ k = omega arith in
    let there : slice_get rs k ≡ Some r = slice_get-get_or rs k no_record within in
    let here : slice_get rs (k + 1 - 1) ≡ Some r = ap (slice_get rs) place ∙ there in
    let told = rw here at c.frame.ensures in
    sym (some_here rs k r there (ap is_fine (sym told.1) ∙ (sym c.is_fine.ensures ∙ c.if-is_fine.true)))

pub loop-index-preserved : goal.loop-index-preserved
loop-index-preserved c =
    let rs = frames_of c.args.session.now.state in
    let k = c.loop-index.index in
    let r = get_or rs k no_record in
    let within : k < length rs = search rules in
    let place : k + 1 - 1 ≡ k = omega arith in
    let next : suc k ≡ k + 1 = omega arith in
    let there : slice_get rs k ≡ Some r = slice_get-get_or rs k no_record within in
    let here : slice_get rs (k + 1 - 1) ≡ Some r = ap (slice_get rs) place ∙ there in
    let told = rw here at c.frame.ensures in
    subst (λ (n : ℕ). list_all is_other (take n rs) ≡ true) next
    (none_more rs k r there (ap is_fine (sym told.1) ∙ (sym c.is_fine.ensures ∙ c.if-is_fine.false)) c.loop-index.invariant)
