-- The frames of an accepted regeneration are read back.
use Rattle.std.proofs.Common.{◌≡◌, ◌≤◌, ◌<◌, ◌+◌, ◌-◌, ◌*◌, ◌^◌, ℕ, Bool, true, false, not, nat_lt, List, [], ◌∷◌, ◌++◌, length, take, drop, slice_get, Option}
use Rattle.std.proofs.Common.{Some, None, if◌then◌else◌, refl, ap, sym, ◌∙◌, subst, arith, length-take-le}
use Rattle.std.specs.Prelude.{Contains, ◌↔◌}
use Rattle.std.proofs.lemmas.{Bool.leb-false, Bool.ltb-false, Bool.not-false, List.Filters.length-filter_both}
use Rattle.irig_codes.specs.{declared.width.Element.TheVariants.Position, Width.is_in_step, Format.control_count_of}
use Rattle.irig_index.specs.{declared.record.Record.Record, Frames.frames, Marker.class_at}
use Rattle.irig_track.proofs.{Items.take-item, Sets.only_pulses}
use Rattle.irig_moment.specs.{Generated.starts_in, Moment.MomentView, Moment.IsMoment}
use Rattle.irig_recording.specs.declared.pulse.Pulse.{Pulse}
use Rattle.irig_track.specs.Splices.{spliced}
use Rattle.irig_edit.specs.Edits.Regenerated.{CanMake, frames_end, frames_pulses, rising_before, rising_in}
use Rattle.irig_edit.specs.{declared.session.refusal.Refusal.Refusal, Session.Calls.Edit.Regen, Edits.Becoming.judgement_of, Edits.Conditions.are_frames}
use Rattle.irig_edit.specs.{Edits.Conditions.are_too_many, Edits.Conditions.is_met, Edits.Conditions.is_wide, Edits.Edits.IsAfter, Edits.ReadBack.frame_read}
use Rattle.irig_edit.specs.{Edits.ReadBack.RegenReadsBack, Edits.ReadBack.RegenReadsFirstBack, State.State.State, State.State.IsState}
use Rattle.irig_edit.proofs.EditLemmas.FramesReadBack.{first_frame_reads_back, made_frames_read_back, no_other_frame_is_read}
use Rattle.irig_edit.proofs.{EditLemmas.GenerationTests.frames_said, EditLemmas.Regenerations.regenerated, StateLemmas.Risings.before_end}

-- if nothing refuses, no test holds
passed : (test : Bool) (why : Refusal) (others : Option Refusal)
    → (if test then Some why else others) ≡ None → (test ≡ false) × (others ≡ None)
passed true why others none = cc
passed false why others none = (refl, none)

-- what an accepted regeneration was asked for
record Asked (s : State) (start count : ℕ) (moment : MomentView) (control : ℕ) : Type 0 where
  there : are_frames start count s ≡ true
  free : is_met start s ≡ false
  fits : are_too_many start count s ≡ false
  starts : starts_in s.format moment ≡ true
  narrow : control < 2 ^ control_count_of s.format

asked : (s : State) (start count : ℕ) (moment : MomentView) (control : ℕ)
    → judgement_of (Regen start count moment control) s ≡ None → Asked s start count moment control
asked s start count moment control none =
    let range = passed (not (are_frames start count s)) _ _ none in
    let touching = passed (is_met start s) _ _ range.1 in
    let many = passed (are_too_many start count s) _ _ touching.1 in
    let time = passed (not (starts_in s.format moment)) _ _ many.1 in
    let wide = passed (is_wide control s) _ _ time.1 in
    record {
      there = not-false (are_frames start count s) range.0;
      free = touching.0;
      fits = many.0;
      starts = not-false (starts_in s.format moment) time.0;
      narrow = leb-false (2 ^ control_count_of s.format) control wide.0;
    }

-- it leaves the pulses that rise before its start, its own, and those that rise from its end on
module _ (s new : State) (start count : ℕ) (moment : MomentView) (control : ℕ) (lawful : IsState s)
    (is : Asked s start count moment control)
    (after : IsAfter (Regen start count moment control) s new) where
  abbrev end : ℕ
  end = frames_end s.format start count

  abbrev at : ℕ
  at = length (rising_before start s.pulses)

  abbrev gone : ℕ
  gone = length (rising_in start end s.pulses)

  abbrev put : List Pulse
  put = frames_pulses s.format start count moment control

  before_all : at + gone ≤ length s.pulses
  before_all =
      let early : Pulse → Bool = λ p. nat_lt p.rise end in
      let parts = length-filter_both early (λ p. not (early p)) (λ p. refl) s.pulses in
      omega (arith, before_end start end s.pulses (omega arith), parts)

  leaves : new.pulses ≡ spliced at gone put s.pulses
  leaves =
      let said = frames_said start count s is.there in
      let sum = before_end start end s.pulses (omega arith) in
      let few = ltb-false (2 ^ 22 + gone) (length s.pulses + 100 * count) is.fits in
      let both = regenerated s start count moment control at gone lawful said.2 is.free few refl sum before_all in
      let made = both.1.after in
      only_pulses new.pulses (spliced at gone put s.pulses)
      after.track.rises made.track.rises (λ t. after.edges t ∙ sym (made.edges t))

  module _ (in_years : IsMoment moment.day moment.hundredths) where
    can : CanMake s.format moment count control
    can = record {
      is_moment = in_years;
      starts = is.starts;
      narrow = is.narrow;
      few = (frames_said start count s is.there).1;
    }

    abbrev beyond : List Pulse
    beyond = drop (at + gone) s.pulses

    long : length (take at s.pulses) ≡ at
    long = length-take-le at s.pulses (omega (arith, before_all))

    -- the frames that are read afterwards
    now : frames new.format new.pulses ≡ frames s.format (spliced at gone put s.pulses)
    now i = frames (after.format i) (leaves i)

    abbrev told : ℕ → ℕ → Record
    told = frame_read s.format moment control

    abbrev IsRead : Record → Type 0
    IsRead r = Contains (frames s.format (spliced at gone put s.pulses)) r

    read_now : (r : Record) → IsRead r → Contains (frames new.format new.pulses) r
    read_now r = subst (λ rs. Contains rs r) (sym now)

    -- those that begin among its own pulses
    found_again : (r : Record) → at < r.marker → r.marker < at + 100 * count
        → Contains (frames new.format new.pulses) r ↔ ((k : ℕ) × (1 ≤ k) × (k < count) × (r ≡ told at k))
    found_again r behind within =
        let front = take at s.pulses in (
          λ there. (let read : IsRead r = subst (λ rs. Contains rs r) now there in
              let made = no_other_frame_is_read s.format moment start count control front beyond r can read
              (omega (arith, long)) (omega (arith, long)) in
              (made.0, made.1, made.2, made.3 ∙ ap (λ n. told n made.0) long)),
          λ made. (let same : told (length front) made.0 ≡ r = ap (λ n. told n made.0) long ∙ sym made.3 in
              let read = made_frames_read_back s.format moment start count control made.0 front beyond can made.1 made.2 in
              read_now r (subst IsRead same read)),
        )

    -- and the first one of them
    first_again : (n : ℕ) (p : Pulse) → at ≡ n + 1 → slice_get s.pulses n ≡ Some p
        → class_at s.format p ≡ Some Position → is_in_step s.format (start - p.rise) ≡ true
        → Contains (frames new.format new.pulses) (told (n + 1) 0)
    first_again n p last there class on =
        let front = take n s.pulses in
        let some : 1 ≤ count = (frames_said start count s is.there).0 in
        let ends : front ++ p ∷ [] ≡ take at s.pulses =
        sym (take-item s.pulses n p there) ∙ ap (λ m. take m s.pulses) (sym last) in
        let short : length front ≡ n = length-take-le n s.pulses (omega (arith, before_all, last)) in
        let Behind : List Pulse → ℕ → Type 0 = λ ps m. Contains (frames s.format (ps ++ (put ++ beyond))) (told (m + 1) 0) in
        let first = first_frame_reads_back s.format moment start count control p front beyond can some class on in
        let read = subst (Behind (front ++ p ∷ [])) short first in
        read_now (told (n + 1) 0) (subst (λ ps. Behind ps n) ends read)

pub regen_reads_back : RegenReadsBack
regen_reads_back start count control moment old new r lawful in_years step behind within =
    found_again old.state new.state start count moment control lawful
    (asked old.state start count moment control step.0) step.1.after in_years r behind within

pub regen_reads_first_back : RegenReadsFirstBack
regen_reads_first_back start count control n moment old new p lawful in_years step last there class on =
    first_again old.state new.state start count moment control lawful
    (asked old.state start count moment control step.0) step.1.after in_years n p last there class on
