use Rattle.std.proofs.Common.{arith, ◌≡◌, ◌≤◌, sym, ◌∙◌, true, false, inl, inr}
use Rattle.std.proofs.lemmas.Bool.{cases_Bool, lt-ltb}
use Rattle.irig_track.proofs.Recordings.{can_toggle_room, can_toggle_first, can_toggle_second, cannot_toggle}
use Rattle.irig_track.proofs.track.Track.can_toggle.Goals.{then-room-gt0, else-room-gt0}
use Rattle.irig_track.proofs.track.Track.can_toggle.Goals as goal

pub returns-then-is_edge_at : goal.returns-then-is_edge_at
returns-then-is_edge_at c =
    let ps = c.args.self.now.pulses in let micros = c.args.self.now.micros in
    let within : c.args.b ≤ micros = omega arith in (
      λ e. elim c.if-room-gt0.branch [
        | then-room-gt0 w ↦ can_toggle_room c.args.a c.args.b micros c.room.result ps c.if-a-b.false within c.length.ensures.track c.room.ensures
            w.if-room-gt0.true
        | else-room-gt0 w ↦ can_toggle_first c.args.a c.args.b micros ps c.if-a-b.false within c.length.ensures.track
            (sym w.is_edge_at.ensures ∙ sym w.value-is ∙ c.if-is_edge_at.true)
      ],
      λ can. c.if-is_edge_at.true,
    )

pub returns-else-is_edge_at : goal.returns-else-is_edge_at
returns-else-is_edge_at c =
    let ps = c.args.self.now.pulses in let micros = c.args.self.now.micros in
    let within : c.args.b ≤ micros = omega arith in (
      λ e. can_toggle_second c.args.a c.args.b micros ps c.if-a-b.false within c.length.ensures.track (sym c.is_edge_at-else-is_edge_at.ensures ∙ e),
      λ can. elim (cases_Bool c.is_edge_at-else-is_edge_at.result) [
        | inl edge ↦ edge
        | inr none ↦ elim c.if-room-gt0.branch [
          | then-room-gt0 w ↦ absurd (let bad : true ≡ false = sym (lt-ltb 0 c.room.result w.if-room-gt0.true) ∙ sym w.value-is ∙ c.if-is_edge_at.false in cc)
          | else-room-gt0 w ↦ absurd (cannot_toggle c.args.a c.args.b micros c.room.result ps c.room.ensures (omega arith)
              (sym w.is_edge_at.ensures ∙ sym w.value-is ∙ c.if-is_edge_at.false) (sym c.is_edge_at-else-is_edge_at.ensures ∙ none) can)
        ]
      ],
    )
