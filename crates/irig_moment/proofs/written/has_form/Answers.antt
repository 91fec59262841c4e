use Rattle.std.proofs.Common.{sym}
use Rattle.irig_moment.proofs.Forms.{other-length}
use Rattle.irig_moment.proofs.written.has_form.Goals as goal

pub returns-then-form-text-clause-value : goal.returns-then-form-text-clause-value
returns-then-form-text-clause-value c = sym (other-length c.args.form.now c.args.text.now c.if-form-text.true)
