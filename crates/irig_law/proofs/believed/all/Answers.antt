use Rattle.std.proofs.Common.{◌+◌, ◌++◌, List, drop, map, ap, sym, ◌∙◌}
use Rattle.std.proofs.lemmas.List.{append-nil}
use Rattle.irig_law.specs.declared.{fine.Fine.Fine, frame.Frame.Frame}
use Rattle.irig_law.proofs.ChainLists.{drop-at, drop-end, with-last}
use Rattle.irig_law.proofs.believed.all.Goals as goal

abbrev frames : List Fine → List Frame
frames xs = map (λ (x : Fine). x.frame) xs

pub loop-place-preserved : goal.loop-place-preserved
loop-place-preserved c =
    let xs = c.args.frames.now in
    let k = c.loop-place.place in
    let old = c.loop-place.list.items in
    let x = c.fine_at.result in
    record {
      left = with-last old x.frame (frames (drop (k + 1) xs)) c.push.new.self.items c.in_ok-push.ensures.items
          ∙ (ap (λ (l : List Fine). old ++ frames l) (sym (drop-at Fine xs k x c.fine_at.ensures)) ∙ c.loop-place.invariant.left);
    }

pub returns : goal.returns
returns c =
    let xs = c.args.frames.now in
    let list = c.loop-place.list.items in
    sym (append-nil list) ∙ (ap (λ (l : List Fine). list ++ frames l) (sym (drop-end Fine xs c.loop-place.place c.loop-place-test.false))
    ∙ c.loop-place.invariant.left)
