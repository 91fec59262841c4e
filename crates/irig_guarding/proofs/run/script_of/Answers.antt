use Rattle.std.proofs.Common.{ap, arith}
use Rattle.irig_guarding.proofs.ScriptLemmas.{all_read, kept_is_all}
use Rattle.irig_guarding.proofs.run.script_of.Goals as goal

pub returns-clause-read : goal.returns-clause-read
returns-clause-read g c =
    let front = c.take-front.result in
    let script = g.R.Read.remaining c.args.script.now in
    let read = c.read_to_end.new.buf.items in
    kept_is_all (λ v. v.items) 8388608 script read c.if_short.result
    (λ few. all_read 8388608 front.limit script (g.R.Read.remaining front.inner.now) c.new-bytes.result.items read
    c.new-bytes.ensures.items (omega (arith, c.take-front.ensures.limit)) (ap (λ r. g.R.Read.remaining r.now) c.take-front.ensures.inner)
    c.in-Ok.ensures.bytes few)
    c.if_short.ensures.same c.if_short.ensures.short
