use Rattle.std.proofs.Common.{◌+◌, ◌-◌, ◌*◌, List, ℕ, slice_get, Some, sym, ap, ◌∙◌}
use Rattle.irig_law.specs.{Doubting.doubted_by, Happened.is_doubtful_in, declared.names.Seen.Seen}
use Rattle.irig_law.proofs.ToldPulses.{quiet-doubted}
use Rattle.irig_law.proofs.doubting.is_doubted.Goals as goal

pub doubted_by-requires-clause-low : goal.doubted_by-requires-clause-low
doubted_by-requires-clause-low c e is =
    c.requires.told.2.after.low c.args.place e
    (ap (λ (l : List Seen). slice_get l c.args.place) (sym c.deref.ensures.value) ∙ (c.seen_at-one.ensures ∙ ap Some is))

pub doubted_by-requires-clause-low_too : goal.doubted_by-requires-clause-low_too
doubted_by-requires-clause-low_too c e is =
    let back = c.args.to.now.marker - (c.args.from.now.marker + c.args.place) in
    c.requires.told.2.before.low back e
    (ap (λ (l : List Seen). slice_get l back) (sym c.deref-2.ensures.value) ∙ (c.seen_at-other.ensures ∙ ap Some is))

pub returns-in-Nothing : goal.returns-in-Nothing
returns-in-Nothing c century ps told =
    let f = c.args.format in
    let a = c.args.from.now in
    let b = c.args.to.now in
    let n = c.in-Nothing.periods in
    let s = c.seen_at-one.result in
    let u = c.seen_at-other.result in
    let back = b.marker - (a.marker + c.args.place) in
    quiet-doubted f century ps a b c.args.told.now told c.args.place c.requires.place.0 n c.in-Nothing.is c.doubted_by.result s u
    (ap (λ (l : List Seen). slice_get l c.args.place) (sym c.deref.ensures.value) ∙ c.seen_at-one.ensures)
    (ap (λ (l : List Seen). slice_get l back) (sym c.deref-2.ensures.value) ∙ c.seen_at-other.ensures)
    (c.doubted_by.ensures
    ∙ ap (λ (l : List ℕ). doubted_by f a b (100 * n) (is_doubtful_in l) (a.marker + c.args.place) s u) c.deref-in-Nothing.ensures.value)
