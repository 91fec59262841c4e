use Rattle.std.proofs.Common.{◌≡◌, ◌∙◌, ℕ, List, ap, arith, length, rules, slice_get, subst, sym}
use Rattle.std.proofs.lemmas.Option.{slice_get-get_or}
use denote.Ref.{Bor}
use Rattle.std.specs.Prelude.{Option, option_map, unwrap_or}
use Rattle.irig_files.specs.Apart.{AreApart}
use Rattle.irig_guard.specs.Given.{place_of}
use Rattle.irig_guard.proofs.OtherLemmas.{apart_all, apart_more, apart_none, path_at}
use Rattle.irig_guard.proofs.others.over_other.Goals as goal

pub loop-place-init : goal.loop-place-init
loop-place-init g c = λ told. apart_none (g.D.Disk.disk c.args.disk.now) c.args.chosen.now.others.items _

pub loop-place-preserved : goal.loop-place-preserved
loop-place-preserved g c = λ told.
    apart_more (g.D.Disk.disk c.args.disk.now) c.args.chosen.now.others.items c.in-Some.out.now c.loop-place.place _
    (ap (λ (l : List (Bor (List ℕ))). slice_get l c.loop-place.place) (sym c.as_slice-others.ensures.value)
    ∙ slice_get-get_or c.as_slice-others.result.now c.loop-place.place _ c.loop-place-test.true)
    (c.in-Ok-false.ensures.apart told c.in-Ok-false.field-0-test) (c.loop-place.invariant told)

pub returns-in-Ok-true-clause-other : goal.returns-in-Ok-true-clause-other
returns-in-Ok-true-clause-other g c = (
  (
    c.loop-place.place,
    path_at c.args.chosen.now.others.items c.loop-place.place _
        (ap (λ (l : List (Bor (List ℕ))). slice_get l c.loop-place.place) (sym c.as_slice-others.ensures.value)
        ∙ slice_get-get_or c.as_slice-others.result.now c.loop-place.place _ c.loop-place-test.true),
  ),
  search rules,
)

pub returns-clause-apart : goal.returns-clause-apart
returns-clause-apart g c = λ told none path other given.
    let long : length c.as_slice-others.result.now ≡ length c.args.chosen.now.others.items = ap length c.as_slice-others.ensures.value in
    let to : place_of c.args.chosen.now ≡ c.in-Some.out.now =
    ap (λ (o : Option (Bor (List ℕ))). unwrap_or (option_map (λ p. p.now) o) c.args.chosen.now.track.now) c.in-Some.is in
    subst (λ (p : List ℕ). AreApart (g.D.Disk.disk c.args.disk.now) path p) (sym to)
    (apart_all (g.D.Disk.disk c.args.disk.now) c.args.chosen.now.others.items c.in-Some.out.now c.loop-place.place
    (omega (arith, c.loop-place-test.false, long)) (c.loop-place.invariant told) other.0 path other.1)
