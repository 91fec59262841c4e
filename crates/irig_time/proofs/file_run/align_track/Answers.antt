use Rattle.std.proofs.Common.{ℕ, ◌∙◌, Some, ap, inl}
use Rattle.irig_time.specs.Done.{done_of, ending_of}
use Rattle.irig_time.specs.{declared.done.Done.Done}
use Rattle.irig_time.proofs.file_run.align_track.Goals as goal

pub returns-in-Ok : goal.returns-in-Ok
returns-in-Ok g c =
    let chosen = c.args.chosen.now in
    let outcome = c.in-Ok.outcome in
    let same = c.done_of-done.ensures ∙ ap (λ (n : ℕ). done_of chosen n outcome) c.length-micros.ensures.exact in
    inl (outcome, c.in-Ok.ensures, c.ending_of.ensures ∙ ap (λ (done : Done). ending_of chosen outcome.standing (Some done)) same)
