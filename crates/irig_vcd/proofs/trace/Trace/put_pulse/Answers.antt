use Rattle.std.proofs.Common.{◌≤◌, Bool, true, false, cond, arith, refl, ap, ◌∙◌, ◌-◌}
use Rattle.irig_recording.specs.{Edges.edges_kept, Recording.is_even_long}
use Rattle.irig_vcd.proofs.{Followed.followed_apart, Followed.followed_pulse, Followed.is_not, Followed.is_so, Followed.stretch_goes_on, Lawful.even-push_two}
use Rattle.irig_vcd.proofs.trace.Trace.put_pulse.Goals as goal

few_pulses : (is_long : Bool) → cond is_long 67108864 4194304 ≤ 67108864
few_pulses true = omega arith
few_pulses false = omega arith

pub close_and_open-requires-clause-room : goal.close_and_open-requires-clause-room
unfolding edges_kept
close_and_open-requires-clause-room c =
    let room = c.requires.room (is_so c.args.stretch.is_kept c.if-not-stretch.false) in
    omega (arith, room, few_pulses c.args.self.now.extent.is_long, c.requires.here.most)

pub returns-clause-ok : goal.returns-clause-ok
returns-clause-ok c = λ changes h.
    followed_pulse changes c.args.stretch c.args.self.now _ c.args.rise c.args.fall c.requires.here (is_so c.args.stretch.is_kept c.if-not-stretch.false)
    (rw c.requires.here.most at (c.requires.room (is_so c.args.stretch.is_kept c.if-not-stretch.false))) c.requires.first c.requires.second c.requires.within
    c.in_ok-close_and_open.ensures refl refl refl refl h

pub returns-then-not-stretch-clause-ok : goal.returns-then-not-stretch-clause-ok
returns-then-not-stretch-clause-ok c = λ changes h.
    followed_apart changes c.args.stretch c.args.self.now _ c.args.rise c.args.fall c.requires.here (is_not c.args.stretch.is_kept c.if-not-stretch.true)
    c.requires.first c.requires.second c.requires.within refl refl refl refl refl h

pub returns-clause-here : goal.returns-clause-here
returns-clause-here c =
    let is = is_so c.args.stretch.is_kept c.if-not-stretch.false in
    let k = c.requires.here.kept is in
    let s = c.args.stretch in
    stretch_goes_on s c.args.self.now _ c.requires.here (omega (arith, c.requires.first, c.requires.second)) c.requires.within refl refl
    (λ same. record {
      before = k.0.before;
      risen = ap is_even_long c.in_ok-close_and_open.ensures
          ∙ (even-push_two c.args.self.now.edges (c.args.self.now.time - s.from) (c.args.rise - s.from) ∙ k.0.risen);
    })
