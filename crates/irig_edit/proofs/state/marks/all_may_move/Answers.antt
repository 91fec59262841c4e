use Rattle.std.proofs.Common.{ℤ, ◌≡◌, true, false, sym, subst, arith, ◌∙◌, to_z, of_z, w64, refl}
use Rattle.std.proofs.lemmas.Int.{to_z-of_z}
use Rattle.irig_edit.specs.State.Marks.{AllMayMove}
use Rattle.irig_edit.proofs.StateLemmas.MovedMarks.{may_more, may_all, may_one}
use Rattle.irig_edit.proofs.state.marks.all_may_move.Goals.{else-letters-letter-via-then-letters-letter+else-not-may_move}
use Rattle.irig_edit.proofs.state.marks.all_may_move.Goals.{else-letters-letter-via-else-letters-letter}
use Rattle.irig_edit.proofs.state.marks.all_may_move.Goals as goal

pub returns-then-not-may_move : goal.returns-then-not-may_move
returns-then-not-may_move c =
    let P : ℤ → Type 0 = λ d. AllMayMove c.args.micros d c.args.letters.now c.args.marks.now in
    let same = to_z-of_z w64 c.args.by c.ranges.by in (
      (λ yes. let bad : false ≡ true = yes in cc),
      (λ all.
          let may = may_one c.args.micros (to_z w64 (of_z w64 c.args.by)) c.loop-letter.letter c.args.letters.now c.args.marks.now
          (omega (arith, c.told-letters, c.loop-letter-test.true)) (omega (arith, c.told-marks, c.loop-letter-test.true)) (subst P (sym same) all)
          c.if-letters-letter.true in
          let yes : c.may_move.result ≡ true = c.may_move.ensures.1 may in
          let no : c.may_move.result ≡ false = c.if-not-may_move.true in
          let bad : false ≡ true = cc in
          cc),
    )

pub loop-letter-preserved : goal.loop-letter-preserved
loop-letter-preserved c =
    may_more c.args.micros (to_z w64 (of_z w64 c.args.by)) c.loop-letter.letter c.args.letters.now c.args.marks.now
    (omega (arith, c.told-letters, c.loop-letter-test.true)) (omega (arith, c.told-marks, c.loop-letter-test.true)) c.loop-letter.invariant
    (λ named. elim c.else-letters-letter.branch [
      | else-letters-letter-via-then-letters-letter+else-not-may_move w ↦
          let yes : w.may_move.result ≡ true = w.if-not-may_move.false in w.may_move.ensures.0 yes
      | else-letters-letter-via-else-letters-letter w ↦
          let no = w.if-letters-letter.false in
          let bad : true ≡ false = sym named ∙ no in
          absurd (cc)
    ])

pub returns : goal.returns
returns c =
    let P : ℤ → Type 0 = λ d. AllMayMove c.args.micros d c.args.letters.now c.args.marks.now in
    let same = to_z-of_z w64 c.args.by c.ranges.by in
    let all = may_all c.args.micros (to_z w64 (of_z w64 c.args.by)) c.loop-letter.letter c.args.letters.now c.args.marks.now
    (omega (arith, c.told-letters, c.loop-letter-test.false)) c.loop-letter.invariant in
    ((λ yes. subst P same all), (λ yes. refl))
