use Rattle.std.proofs.Common.{ℤ, Option, List, ℕ, false, None, get_or, ◌^◌, ap, sym, subst, arith, ◌∙◌, to_z, of_z, w64}
use Rattle.std.proofs.lemmas.Int.{to_z-of_z}
use Rattle.irig_edit.specs.{State.Marks.marks_moved, State.Marks.moved_if, Changes.Laws.SetMarks.mark_within, State.State.IsMark}
use Rattle.irig_edit.proofs.StateLemmas.MovedMarks.{made_first-more, made_first-next, moved_all}
use Rattle.irig_edit.proofs.state.marks.move_marks.Goals as goal

pub moved_if-requires : goal.moved_if-requires
moved_if-requires c =
    let n = c.loop-letter.letter in
    let d = to_z w64 (of_z w64 c.args.by) in
    let read = ap (λ (ms : List (Option ℕ)). get_or ms n None) c.loop-letter.invariant
    ∙ made_first-next (moved_if d) n c.args.letters.now c.args.marks.now None in
    subst (λ (m : Option ℕ). IsMark (2 ^ 40) m) (sym read) (mark_within (2 ^ 40) n c.args.marks.now (omega (arith, c.told-marks, c.loop-letter-test.true))
    c.requires)

pub loop-letter-preserved : goal.loop-letter-preserved
loop-letter-preserved c =
    made_first-more (moved_if (to_z w64 (of_z w64 c.args.by))) c.loop-letter.letter c.args.letters.now c.loop-letter.marks c.args.marks.now false None
    c.moved_if.result
    c.loop-letter.invariant (omega (arith, c.told-letters, c.loop-letter-test.true)) (omega (arith, c.told-marks, c.loop-letter-test.true)) c.moved_if.ensures

pub returns : goal.returns
returns c =
    c.loop-letter.invariant
    ∙ moved_all (to_z w64 (of_z w64 c.args.by)) c.loop-letter.letter c.args.letters.now c.args.marks.now
    (omega (arith, c.told-letters, c.loop-letter-test.false))
    ∙ ap (λ (d : ℤ). marks_moved d c.args.letters.now c.args.marks.now) (to_z-of_z w64 c.args.by c.ranges.by)
