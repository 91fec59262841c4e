use Rattle.std.proofs.Common.{[], ◌∙◌, ◌<◌, IfOk, IfSome, length, List, ℕ, subst}
use Rattle.irig_vcd.specs.{Answer.name_of, declared.extent.Extent.Extent}
use Rattle.irig_files.specs.Reads.{IsReadBy, extent_bytes}
use Rattle.irig_files.proofs.Intakes.{is_read_of, too_long}
use Rattle.irig_files.proofs.dump_file.read_by_parts.Goals as goal

pub returns-in-Ok-take_all-clause-read : goal.returns-in-Ok-take_all-clause-read
returns-in-Ok-take_all-clause-read g c =
    let taken = c.in-Ok-take_all.ensures.taken in
    let took = taken.1 (name_of c.args.wire) [] c.in-Ok.ensures.taken in
    subst (λ (v : Extent). IfOk c.end.result (IsReadBy v (g.R.Read.remaining c.args.reader.now) (name_of c.args.wire))) (c.take_all.ensures.extent
    ∙ c.in-Ok.ensures.extent)
    (is_read_of _ _ (name_of c.args.wire) taken.0 c.take_all.new.dump c.end.result took taken.2 c.in-Ok-take_all.ensures.end c.end.ensures.read
    c.end.ensures.within c.end.ensures.short)

pub returns-in-Ok-take_all-clause-long : goal.returns-in-Ok-take_all-clause-long
returns-in-Ok-take_all-clause-long g c =
    let taken = c.in-Ok-take_all.ensures.taken in
    let took = taken.1 (name_of c.args.wire) [] c.in-Ok.ensures.taken in
    λ is. subst (λ (v : Extent). IfSome (g.R.Read.remaining c.args.reader.now) (λ (all : List ℕ). extent_bytes v < length all)) (c.take_all.ensures.extent
    ∙ c.in-Ok.ensures.extent)
    (too_long _ _ (name_of c.args.wire) taken.0 c.take_all.new.dump took taken.2 (c.end.ensures.long is))
