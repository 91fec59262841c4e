use Rattle.std.proofs.Common.{◌++◌, ap, sym, ◌∙◌, List, ℕ, append_assoc}
use Rattle.irig_recording.specs.FileText.{header_text}
use Rattle.irig_track.specs.Texts.{lines_after, still_to_come}
use Rattle.irig_track.proofs.Texts.{text_by_pulses}
use Rattle.irig_track.proofs.track_text.put_header.Goals as goal

pub returns-in_ok-begin-in-Header : goal.returns-in_ok-begin-in-Header
returns-in_ok-begin-in-Header c =
    let t = c.args.track.now in
    let old = c.args.text.now.items in
    let view = ap (λ next. still_to_come t c.args.writer.now.last next) (sym c.in-Header.is) in
    ap (λ (text : List ℕ). text ++ lines_after c.begin.new.self.last t.pulses t.micros) c.in_ok-begin-in-Header.ensures.text
    ∙ (ap (λ n. (old ++ header_text c.begins_high.result) ++ lines_after n t.pulses t.micros) c.in_ok-begin-in-Header.ensures.last
    ∙ (ap (λ high. (old ++ header_text high) ++ lines_after 0 t.pulses t.micros) c.begins_high.ensures.high
    ∙ (append_assoc old _ (lines_after 0 t.pulses t.micros)
    ∙ ap (λ (text : List ℕ). old ++ text) (text_by_pulses t.micros t.pulses c.begins_high.ensures.track ∙ view))))
