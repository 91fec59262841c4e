use Rattle.std.proofs.Common.{◌≡◌, ◌∙◌, ◌<◌, ◌^◌, arith, ap, inl, inr}
use Rattle.irig_gap.specs.Items.{gap_view}
use Rattle.irig_gap.proofs.GapLemmas.{shows, run_left, lengthened}
use Rattle.irig_gap.proofs.gap.Gap.lengthened.Goals as goal

pub longer-cells-requires-clause-full : goal.longer-cells-requires-clause-full
longer-cells-requires-clause-full g c = run_left _ _ _ _ c.self.view_is c.self.invariant.0 0 _ (omega arith)

pub invariant_of-result : goal.invariant_of-result
invariant_of-result g c =
    let s = shows _ _ _ _ c.self.view_is c.self.invariant.0 in let same : c.self.inside.capacity ≡ c.args.self.capacity = omega (arith, c.self.invariant.1) in
    let fits : c.longer-cells.result.2 < 2 ^ 64 = elim c.longer-cells.ensures.longer [
      | inl is ↦ omega (arith, is, c.ranges.wanted.fits)
      | inr is ↦ omega (arith, is, c.self.invariant.2)
    ] in
    elim c.longer-cells.ensures.longer [
      | inl is ↦ (
        (lengthened _ _ _ _ c.self.view_is c.self.invariant.0 _ _ c.args.wanted c.requires.end c.requires.longer (inl is) c.longer-cells.ensures.len
            c.longer-cells.ensures.items).0,
        c.longer-cells.ensures.len,
        fits,
        c.longer-cells.ensures.block,
      )
      | inr is ↦ (
        (lengthened _ _ _ _ c.self.view_is c.self.invariant.0 _ _ c.args.wanted c.requires.end c.requires.longer (inr (is ∙ same)) c.longer-cells.ensures.len
            c.longer-cells.ensures.items).0,
        c.longer-cells.ensures.len,
        fits,
        c.longer-cells.ensures.block,
      )
    ]

pub returns : goal.returns
returns g c =
    let s = shows _ _ _ _ c.self.view_is c.self.invariant.0 in let same : c.self.inside.capacity ≡ c.args.self.capacity = omega (arith, c.self.invariant.1) in
    elim c.longer-cells.ensures.longer [
      | inl is ↦ inl ((lengthened _ _ _ _ c.self.view_is c.self.invariant.0 _ _ c.args.wanted c.requires.end c.requires.longer (inl is)
          c.longer-cells.ensures.len c.longer-cells.ensures.items).1 ∙ ap (gap_view c.args.self.items c.args.self.place) is)
      | inr is ↦ inr ((lengthened _ _ _ _ c.self.view_is c.self.invariant.0 _ _ c.args.wanted c.requires.end c.requires.longer (inr (is ∙ same))
          c.longer-cells.ensures.len c.longer-cells.ensures.items).1 ∙ ap (gap_view c.args.self.items c.args.self.place) (is ∙ same))
    ]
