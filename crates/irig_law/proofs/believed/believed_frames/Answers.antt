use Rattle.std.proofs.Common.{◌≡◌, List, ap, sym, ◌∙◌, subst}
use Rattle.irig_law.specs.{Believed.believed, Believed.believed_in, Points.AreFrames}
use Rattle.irig_law.specs.declared.{fine.Fine.Fine, frame.Frame.Frame}
use Rattle.irig_law.proofs.Above.{believed-are}
use Rattle.irig_law.proofs.believed.believed_frames.Goals as goal

pub returns-clause-believed : goal.returns-clause-believed
returns-clause-believed c =
    c.in_ok-list.ensures.believed
    ∙ ap (λ (l : List Fine). believed_in c.args.format c.args.alone c.args.century l) (c.deref.ensures.value ∙ c.in_ok-fine.ensures.fine)

pub returns-clause-frames : goal.returns-clause-frames
returns-clause-frames c =
    let f = c.args.format in
    let ps = c.args.pulses.now.track.pulses in
    let is : c.in_ok-list.list.items ≡ believed f c.args.alone c.args.century ps = returns-clause-believed c in
    subst (λ (l : List Frame). AreFrames ps l) (sym is) (believed-are ps f c.args.alone c.args.century)
