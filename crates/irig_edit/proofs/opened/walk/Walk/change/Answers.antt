use Rattle.std.proofs.Common.{rules, ◌≡◌, ap, ◌∙◌}
use Rattle.irig_journal.specs.{History.History, Journal.past_of, Journal.future_of, Machine.Machine, Machine.Kept}
use Rattle.irig_saved.specs.{declared.change.Change.Change, declared.change.Change.TheVariants.One}
use Rattle.irig_edit.specs.{Changes.Held.delta_of, State.State.State, Opened.Walk.changed, Opened.Walk.walk}
use Rattle.irig_edit.proofs.opened.walk.Walk.change.Goals as goal
use Rattle.irig_edit.proofs.opened.walk.Walk.change.Goals.{in-Ok, in-Err}

pub returns : goal.returns
returns c =
    let d = One c.args.single in
    elim c.match-record.branch [
      | in-Ok w ↦
          let stands = ap (λ (m : Machine (Kept State)). m.present.state) (w.in-Ok.ensures.machine 0) in
          let goes : walk c.record.new.state.state c.self.inside.cursor (past_of delta_of c.record.new.self) (future_of delta_of c.record.new.self)
          ≡ changed c.args.self.now d =
          (λ k. walk (stands k) c.self.inside.cursor (w.in-Ok.ensures.steps.0 k) (w.in-Ok.ensures.steps.1 k))
          ∙ ap (λ (h : History State Change). changed h d) c.self.view_is in
          search (rules, goes)
      | in-Err w ↦ search rules
    ]
