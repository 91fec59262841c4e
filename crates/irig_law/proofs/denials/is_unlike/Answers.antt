use Rattle.std.proofs.Common.{◌≡◌, ◌&&◌, Bool, List, true, slice_get, ap, sym, ◌∙◌}
use Rattle.irig_codes.specs.{Encoding.encoded, Fields.fits_in}
use Rattle.irig_codes.specs.declared.width.Element.{Element}
use Rattle.irig_times.specs.{TimedElements.contradicts, Times.fields_at, declared.time.Time.Time}
use Rattle.irig_law.proofs.denials.is_unlike.Goals as goal

pub returns-clause-unlike : goal.returns-clause-unlike
returns-clause-unlike c =
    let f = c.args.format in
    let p = slice_get c.args.pulses.now.track.pulses c.args.number in
    let e = c.args.point.now.element in
    let w = c.wanted_at-wanted.result in
    let is = c.wanted_at-wanted.ensures.wanted in
    let time = c.wanted_at-wanted.ensures.time in
    let g = fields_at f c.args.point.now.frame in
    let fit : fits_in f g ≡ true =
    sym (is.fits ∙ ap (λ (t : Time). fits_in f (fields_at f t)) time) ∙ c.if-not-wanted.false in
    c.contradicts.ensures.answer
    ∙ (ap (λ (l : List Element). contradicts f e p (slice_get l e))
    (is.elements c.if-not-wanted.false ∙ ap (λ (t : Time). encoded f (fields_at f t)) time)
    ∙ sym (ap (λ (b : Bool). b && contradicts f e p (slice_get (encoded f g) e)) fit))
