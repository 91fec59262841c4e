use Rattle.std.proofs.Common.{◌≡◌, ◌∙◌, ap, subst, sym}
use Rattle.std.specs.Prelude.{MatchBool, MatchResult}
use Rattle.irig_saved.specs.{declared.change.Change.Change, declared.change.Change.TheVariants.Group}
use Rattle.irig_edit.specs.{Changes.Delta.Fits, Changes.Delta.singles_of, Opened.Taken.FirstFits, Opened.Walk.changed}
use Rattle.irig_edit.proofs.opened.walk.Walk.make.Goals as goal

pub returns-in-One : goal.returns-in-One
returns-in-One c =
    let h = c.args.self.now in
    subst (λ (d : Change). MatchResult c.make_one.result (λ made. MatchBool made (Fits h.state d × (c.make_one.new.self ≡ changed h d)) (Fits h.state d → ⊥))
    (λ _. FirstFits h.state (singles_of d)))
    (sym c.in-One.is) c.make_one.ensures

pub returns-in-Group : goal.returns-in-Group
returns-in-Group c =
    let h = c.args.self.now in
    subst (λ (d : Change). MatchResult c.make_all.result (λ made. MatchBool made (Fits h.state d × (c.make_all.new.self ≡ changed h d)) (Fits h.state d → ⊥))
    (λ _. FirstFits h.state (singles_of d)))
    (sym (c.in-Group.is ∙ ap Group (sym c.into_vec.ensures))) c.make_all.ensures
