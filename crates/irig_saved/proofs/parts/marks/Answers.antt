use Rattle.std.proofs.Common.{◌≡◌, ◌<◌, ◌+◌, ◌∷◌, [], ℕ, length, take, subst, sym, ◌∙◌, arith}
use Rattle.std.proofs.lemmas.List.{take_more_set, length-set, length-take-le}
use Rattle.irig_saved.specs.Leading.{Leads}
use Rattle.irig_saved.proofs.MarkParts.{lead_more}
use Rattle.irig_saved.proofs.parts.marks.Goals as goal

pub loop-letter-preserved : goal.loop-letter-preserved
loop-letter-preserved c =
    let ms = c.loop-letter.marks in
    let k = c.loop-letter.letter in
    let m = c.marked-time.result.0 in
    let rest = c.loop-letter.rest.now in
    let next = c.marked-time.result.1.now in
    let within : k < length ms = omega (arith, c.loop-letter.invariant.0) in
    let size : length (take k ms) ≡ k = length-take-le k ms (omega (arith, within)) in
    let P : ℕ → Type 0 = λ n. Leads (97 + n) (m ∷ []) rest next in (
      length-set ms k m ∙ c.loop-letter.invariant.0,
      rw (take_more_set ms k m within) (lead_more 97 (take k ms) m c.args.text.now rest next c.loop-letter.invariant.1
          (subst P (sym size) c.marked-time.ensures)),
    )
