use Rattle.std.proofs.Common.{◌≡◌, drop}
use Rattle.irig_moment.specs.Written.{has_form_of}
use Rattle.irig_moment.proofs.written.has_form.Given as goal

abbrev pub invariant-loop-place : goal.invariant-loop-place
invariant-loop-place l = has_form_of l.form l.text ≡ has_form_of (drop l.place l.form) (drop l.place l.text)
