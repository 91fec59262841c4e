use Rattle.std.proofs.Common.{◌≡◌, ◌+◌, ◌++◌, ◌∙◌, ℕ, List, false, drop, take, ap, sym}
use Rattle.std.proofs.Math.Seq.{drop-drop}
use Rattle.irig_recording.specs.declared.pulse.Pulse.{Pulse}
use Rattle.irig_track.specs.Edges.{edges_of}
use Rattle.irig_difference.specs.EdgesLeft.{edges_left}
use Rattle.irig_difference.proofs.Passed.{edges_left-dropped}
use Rattle.irig_difference.proofs.edges_left.EdgesLeft.pass_common.Goals as goal

-- the edges before the next n pulses, and those after
parted : (i n : ℕ) (ps : List Pulse) → edges_left (drop i ps) false ≡ edges_of (take n (drop i ps)) ++ edges_left (drop (i + n) ps) false
parted i n ps = edges_left-dropped n (drop i ps)
    ∙ ap (λ (l : List Pulse). edges_of (take n (drop i ps)) ++ edges_left l false) (drop-drop n i ps)

pub returns : goal.returns
returns c =
    let n = c.count_common-count.result in
    let ps = c.self.inside.pulses.now.items in let qs = c.other.inside.pulses.now.items in
    let i = c.self.inside.past in let j = c.other.inside.past in
    rw (c.if-self.false, c.if-other.false) (record {
      common = edges_of (take n (drop i ps));
      first = sym c.self.view_is ∙ ap (edges_left (drop i ps)) c.if-self.false ∙ parted i n ps;
      second = sym c.other.view_is ∙ ap (edges_left (drop j qs)) c.if-other.false ∙ parted j n qs
          ∙ ap (λ (l : List Pulse). edges_of l ++ edges_left (drop (j + n) qs) false) (sym c.count_common-count.ensures.same);
    })
