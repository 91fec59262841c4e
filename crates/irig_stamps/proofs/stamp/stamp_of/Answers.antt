use Rattle.std.proofs.Common.{List, ap, sym, ◌∙◌, refl, subst}
use Rattle.irig_recording.specs.declared.pulse.Pulse.{Pulse}
use Rattle.irig_stamps.specs.{Offs.timed_word, StampTexts.stamp_text, Stamps.IsNone}
use Rattle.irig_stamps.proofs.Words.{word-time, word-untimed}
use Rattle.irig_stamps.proofs.stamp.stamp_of.Goals as goal

pub returns-in-Some-time_of-clause-word : goal.returns-in-Some-time_of-clause-word
returns-in-Some-time_of-clause-word c v e =
    let s = c.args.settings.now in
    word-time c.args.format c.args.pulses.now.track.pulses s c.in-Some.picos c.in-Some-time_of.moment (stamp_text s c.timed_stamp.result) _ refl
    c.in-Some-time_of.ensures.exact
    (c.timed_stamp.ensures.word ∙ ap (λ t. timed_word c.args.format t.pulses s c.in-Some-time_of.moment) c.in-Some-time_of.ensures.pulses)
    v (sym c.in-Some.is ∙ e)

pub returns-in-None-clause-word : goal.returns-in-None-clause-word
returns-in-None-clause-word c v e =
    word-untimed c.args.format c.args.pulses.now.track.pulses c.args.settings.now c.in-Some.picos c.none_word.result.now _ refl
    c.in-None.ensures.exact
    (λ w same. subst (λ (ps : List Pulse). IsNone c.args.settings.now.why c.args.format ps c.args.settings.now w c.none_word.result.now)
    (ap (λ t. t.pulses) c.in-None.ensures.pulses) (c.none_word.ensures.word w same)) v (sym c.in-Some.is ∙ e)
