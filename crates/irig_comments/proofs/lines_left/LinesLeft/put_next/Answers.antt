use Rattle.std.proofs.Common.{◌++◌, ◌∙◌, List, ℕ, ap, sym}
use Rattle.irig_comments.specs.Comments.{comment_text}
use Rattle.irig_comments.specs.Left.{last_left, lines_text, with_stretch}
use Rattle.irig_comments.specs.Parts.{joined, parts_of}
use Rattle.irig_comments.specs.declared.sides.Sides.{Sides}
use Rattle.irig_comments.proofs.LeftSteps.{after_line, first_note, next_change}
use Rattle.irig_comments.proofs.lines_left.LinesLeft.put_next.Goals as goal

pub returns-in-Some-clause-bytes : goal.returns-in-Some-clause-bytes
returns-in-Some-clause-bytes c =
    let stretches = with_stretch c.self.inside.stretch c.self.inside.stretches in
    let last = last_left c.self.inside.last in
    let old = c.args.block.now.items in
    let new = c.put_comment.new.block.items in
    let next = next_change c.next-self-inside.result c.self.inside.changes c.next-self-inside.new.self c.next-self-inside.ensures in
    let first = first_note c.self.inside.change c.self.inside.changes c.self.inside.stretch c.self.inside.stretches c.in-Some.change
    (sym c.change_if_first.ensures ∙ c.in-Some.is) in
    ap (λ (cs : List Sides). new ++ lines_text cs stretches c.self.inside.last) next
    ∙ after_line old new (comment_text c.in-Some.change) (joined (parts_of c.self.inside.changes stretches)) last c.in_ok-put_comment.ensures
    ∙ ap (λ (l : List ℕ). old ++ (l ++ last)) (sym first) ∙ ap (λ (l : List ℕ). old ++ l) c.self.view_is
