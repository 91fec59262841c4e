use Rattle.std.proofs.Common.{◌≡◌, ◌∙◌, ℕ, List, ap, arith, length, rules, slice_get, sym}
use Rattle.std.proofs.lemmas.Option.{slice_get-get_or}
use denote.Ref.{Bor}
use Rattle.irig_safety.specs.Terms.{without_others}
use Rattle.irig_guard.proofs.OtherLemmas.{path_at, shows_all, shows_more, shows_none}
use Rattle.irig_guard.proofs.others.terms_of.Goals as goal

pub loop-place-init : goal.loop-place-init
loop-place-init g c =
    shows_none (g.D.Disk.held c.args.disk.now) c.args.chosen.now.format c.args.chosen.now.others.items (without_others c.args.chosen.now.moved) _
    c.new-terms.ensures

pub loop-place-preserved : goal.loop-place-preserved
loop-place-preserved g c =
    shows_more (g.D.Disk.held c.args.disk.now) c.args.chosen.now.format c.args.chosen.now.others.items (without_others c.args.chosen.now.moved)
    c.loop-place.terms c.add_frames_of.new.terms c.loop-place.place _
    (ap (λ (l : List (Bor (List ℕ))). slice_get l c.loop-place.place) (sym c.as_slice-others.ensures.value)
    ∙ slice_get-get_or c.as_slice-others.result.now c.loop-place.place _ c.loop-place-test.true)
    c.in-Ok.ensures.added c.loop-place.invariant

pub returns-in-Err-clause-unusable : goal.returns-in-Err-clause-unusable
returns-in-Err-clause-unusable g c = (
  (
    c.loop-place.place,
    path_at c.args.chosen.now.others.items c.loop-place.place _
        (ap (λ (l : List (Bor (List ℕ))). slice_get l c.loop-place.place) (sym c.as_slice-others.ensures.value)
        ∙ slice_get-get_or c.as_slice-others.result.now c.loop-place.place _ c.loop-place-test.true),
  ),
  c.in-Err.ensures.unusable,
)

pub returns-clause-shown : goal.returns-clause-shown
returns-clause-shown g c =
    let long : length c.as_slice-others.result.now ≡ length c.args.chosen.now.others.items = ap length c.as_slice-others.ensures.value in
    shows_all (g.D.Disk.held c.args.disk.now) c.args.chosen.now.format c.args.chosen.now.others.items (without_others c.args.chosen.now.moved)
    c.loop-place.terms c.loop-place.place
    (omega (arith, c.loop-place-test.false, long)) c.loop-place.invariant
