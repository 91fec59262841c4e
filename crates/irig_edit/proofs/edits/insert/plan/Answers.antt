use Rattle.std.proofs.Common.{rules, ◌≡◌, ◌+◌, ◌-◌, ℕ, [], ◌∷◌, arith, subst, sym, ◌∙◌, ap, length}
use Rattle.irig_track.specs.{Edges.pulse, Splices.CanSplice, Splices.spliced}
use Rattle.irig_edit.specs.{Edits.Becoming.Becomes, Session.Calls.Edit.Insert, State.State.with_pulses}
use Rattle.irig_edit.proofs.EditLemmas.Insertions.{inserted}
use Rattle.irig_edit.proofs.edits.insert.plan.Goals as goal

pub returns : goal.returns
returns c =
    let s = c.args.present.now.state in
    let put = pulse c.args.a c.args.b ∷ [] in
    let place : c.find.result ≡ c.find.result + 1 - 1 = omega arith in
    let both = inserted s c.args.a c.args.b c.find.result c.track-track.ensures.state c.if-a-b.false
    (omega (arith, c.if-b-length.false, (c.length.ensures.length ∙ c.track-track.ensures.micros)))
    (sym c.is_touched.ensures ∙ c.if-is_touched.false) (omega (arith, c.room.ensures, ap length c.track-track.ensures.pulses, c.if-room-eq0.false))
    c.find.ensures.count c.find.ensures.within in
    record {
      allowed = search rules;
      there = search rules;
      can = subst (λ (n : ℕ). CanSplice s.micros n 0 put s.pulses) place both.0;
      becomes = subst (λ (n : ℕ). Becomes (Insert c.args.a c.args.b) s (with_pulses (spliced n 0 put s.pulses) s) (c.find.result + 1)) place both.1;
      change = search rules;
    }
