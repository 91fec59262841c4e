use Rattle.std.proofs.Common.{◌≡◌}
use Rattle.irig_candidates.proofs.BaseLemmas.{put-one}
use Rattle.irig_candidates.proofs.finding.bases.put_few.Goals as goal

pub returns : goal.returns
returns c =
    let same : c.as_slice-known.result.now ≡ c.args.bases.now.items = cc in
    λ below high known. put-one below c.args.most c.args.bases.now.items c.as_slice-known.result.now _ c.place-place.result c.args.base
    known same c.in_ok-insert.ensures.items high (c.is_full.ensures c.if-is_full.false) c.place-place.ensures.within c.place-place.ensures.below
    c.place-place.ensures.above (c.is_at.ensures c.if-is_at.false)
