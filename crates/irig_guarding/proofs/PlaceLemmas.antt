-- Where the commands of a repair change the pulses.
use Rattle.std.proofs.Common.{◌≡◌, ◌≤◌, ◌+◌, ◌-◌, ◌*◌, ℕ, ℤ, zero, suc, Bool, List, [], ◌∷◌, length, refl, ap, sym, ◌∙◌, subst, arith}
use Rattle.std.proofs.lemmas.List.{length-map}
use Rattle.irig_codes.specs.declared.width.Element.{Element}
use Rattle.irig_moment.specs.Moment.{MomentView}
use Rattle.irig_recording.specs.declared.pulse.Pulse.{Pulse}
use Rattle.irig_track.specs.{Edges.pulse, Shifts.ahead, Shifts.back, Shifts.count_to, Shifts.moved, Shifts.moved_pulse, Splices.IsSpan, Splices.piece, Splices.risen_by, Splices.spliced}
use Rattle.irig_track.proofs.{Carried.length-piece, Spans.span_spliced}
use Rattle.irig_saved.specs.declared.change.Change.{Change}
use Rattle.irig_saved.specs.declared.change.Change.TheVariants.{One}
use Rattle.irig_saved.specs.declared.single.Single.TheVariants.{Splice, Shift}
use Rattle.irig_edit.specs.Edits.Regenerated.{frame_elements, frames_pulses, rising_before}
use Rattle.irig_edit.specs.{Changes.Delta.Fits, Changes.Delta.turned, Changes.Single.FitsSingle, Changes.Single.turned_single, Edits.Changes.change_by}
use Rattle.irig_edit.specs.{Session.Work.Work, State.State.State}
use Rattle.irig_edit.proofs.EditLemmas.GeneratedPulses.{frames_many}
use Rattle.irig_lines.specs.{declared.address.Address.Address, declared.command.Command.Command, declared.range.Range.Range, declared.time.Time.Time}
use Rattle.irig_lines.specs.declared.command.Command.TheVariants as command
use Rattle.irig_script.specs.{Obey.Machine.Machine, Obey.Machine.present_in, Obey.Obeying.Obeys}
use Rattle.irig_script.specs.Obey.PulseNumbers.{first_of, last_of, number_at, time_of}
use Rattle.irig_script.specs.declared.print.reply.Reply.TheVariants as told
use Rattle.irig_guarding.specs.{Known.Became, Repair.IsRepair}
use Rattle.irig_guarding.proofs.RepairLemmas.{edit_of, makes}

-- what a splice and a shift change
splice_span : (s : State) (n count : ℕ) (put : List Pulse) → FitsSingle s (Splice n count put)
    → IsSpan (n - 1) count (length put) s.pulses (turned_single s (Splice n count put)).0.pulses
splice_span s zero count put h = absurd h
splice_span s (suc at) count put h =
    let e : at ≡ suc at - 1 = omega arith in
    subst (λ k. IsSpan k count (length put) s.pulses (spliced at count put s.pulses)) e (span_spliced at count (length put) put s.pulses _ h.there refl refl)

shift_span : (s : State) (n m : ℕ) (d : ℤ) (named : List Bool) → FitsSingle s (Shift n m d named)
    → IsSpan (n - 1) (m + 1 - n) (m + 1 - n) s.pulses (turned_single s (Shift n m d named)).0.pulses
shift_span s zero m d named h = absurd h
shift_span s (suc i) zero d named h = absurd h
shift_span s (suc i) (suc j) d named h =
    let many = count_to i j in
    let put : List Pulse = moved d (piece i many s.pulses) in
    let within : i + many ≤ length s.pulses = omega (arith, h.0.order, h.0.there) in
    let long : length put ≡ many = length-map (piece i many s.pulses) (moved_pulse (ahead d) (back d)) ∙ length-piece s.pulses i many within in
    let e : i ≡ suc i - 1 = omega arith in
    let k : many ≡ suc j + 1 - suc i = omega (arith, h.0.order) in
    subst (λ c. IsSpan (suc i - 1) c c s.pulses (spliced i many put s.pulses)) k
    (subst (λ a. IsSpan a many many s.pulses (spliced i many put s.pulses)) e (span_spliced i many many put s.pulses _ within long refl))

-- a command that is obeyed makes its change
made_change : (c : Command) (old new : Machine) (d : Change) → IsRepair c → Obeys c old told.Silent new → change_by (edit_of c old) old.state ≡ d
    → Fits old.state d × (new.state ≡ (turned old.state d).0)
made_change c old new d is h e =
    let made = (makes c old new told.Silent is h).1 in
    subst (λ (x : Change). Fits old.state x × (new.state ≡ (turned old.state x).0)) e (made.fits, ap (λ (w : Work). w.state) made.steps)

-- so a splice
spliced_by : (c : Command) (old new : Machine) (n count : ℕ) (put : List Pulse) → IsRepair c → Obeys c old told.Silent new
    → change_by (edit_of c old) old.state ≡ One (Splice n count put) → Became (n - 1) (length put) old.state.pulses new.state.pulses
spliced_by c old new n count put is h e =
    let made = made_change c old new (One (Splice n count put)) is h e in
    (count, subst (λ (s : State). IsSpan (n - 1) count (length put) old.state.pulses s.pulses) (sym made.1) (splice_span old.state n count put made.0))

pub deleted : (r : Range) (old new : Machine) → Obeys (command.Delete r) old told.Silent new
    → Became (first_of r (present_in old) - 1) 0 old.state.pulses new.state.pulses
deleted r old new h = spliced_by (command.Delete r) old new _ _ [] tt h refl

pub joined : (r : Range) (old new : Machine) → Obeys (command.Join r) old told.Silent new
    → Became (first_of r (present_in old) - 1) 1 old.state.pulses new.state.pulses
joined r old new h = spliced_by (command.Join r) old new _ _ (pulse _ _ ∷ []) tt h refl

pub cut : (a : Address) (s t : Time) (old new : Machine) → Obeys (command.Split a s t) old told.Silent new
    → Became (number_at a (present_in old) - 1) 2 old.state.pulses new.state.pulses
cut a s t old new h = spliced_by (command.Split a s t) old new _ _ (pulse _ _ ∷ pulse _ _ ∷ []) tt h refl

pub forced : (a : Address) (e : Element) (old new : Machine) → Obeys (command.Force a e) old told.Silent new
    → Became (number_at a (present_in old) - 1) 1 old.state.pulses new.state.pulses
forced a e old new h = spliced_by (command.Force a e) old new _ _ (pulse _ _ ∷ []) tt h refl

at_after : (n at come : ℕ) (ps qs : List Pulse) → n - 1 ≡ at → Became (n - 1) come ps qs → Became at come ps qs
at_after n at come ps qs e h = subst (λ k. Became k come ps qs) e h

pub inserted : (s t : Time) (old new : Machine) → Obeys (command.Insert s t) old told.Silent new
    → Became (risen_by (time_of t (present_in old)) old.state.pulses) 1 old.state.pulses new.state.pulses
inserted s t old new h =
    let n = risen_by (time_of t (present_in old)) old.state.pulses in
    at_after (n + 1) n 1 old.state.pulses new.state.pulses (omega arith) (spliced_by (command.Insert s t) old new _ _ (pulse _ _ ∷ []) tt h refl)

pub generated : (s : Time) (frames : ℕ) (moment : MomentView) (control : ℕ) (old new : Machine)
    → Obeys (command.Regen s frames moment control) old told.Silent new
    → Became (length (rising_before (time_of s (present_in old)) old.state.pulses)) (100 * frames) old.state.pulses new.state.pulses
generated s frames moment control old new h =
    let f = old.state.format in
    let start = time_of s (present_in old) in
    let n = length (rising_before start old.state.pulses) in
    let put = frames_pulses f start frames moment control in
    let many : length put ≡ 100 * frames = frames_many f start (frame_elements f moment control) 0 frames in
    subst (λ k. Became n k old.state.pulses new.state.pulses) many
    (at_after (n + 1) n (length put) old.state.pulses new.state.pulses (omega arith)
    (spliced_by (command.Regen s frames moment control) old new _ _ put tt h refl))

pub shifted_by : (r : Range) (d : ℤ) (old new : Machine) → Obeys (command.Shift r d) old told.Silent new
    → Became (first_of r (present_in old) - 1) (last_of r (present_in old) + 1 - first_of r (present_in old)) old.state.pulses new.state.pulses
shifted_by r d old new h =
    let i = first_of r (present_in old) in
    let j = last_of r (present_in old) in
    let made = made_change (command.Shift r d) old new _ tt h refl in
    (j + 1 - i, subst (λ (s : State). IsSpan (i - 1) (j + 1 - i) (j + 1 - i) old.state.pulses s.pulses) (sym made.1) (shift_span old.state i j d _ made.0))
