use Rattle.std.proofs.Common.{◌≡◌, ◌+◌, ◌++◌, ◌∙◌, ◌∷◌, [], ℕ, List, Some, ap, slice_get, sym, take}
use Rattle.std.proofs.lemmas.List.{take_more}
use Rattle.std.proofs.lemmas.Option.{get_or_from_slice_get, slice_get_within}
use Rattle.irig_recording.specs.declared.pulse.Pulse.{Pulse}
use Rattle.irig_edit.proofs.session.session.Session.pulses.Goals as goal

one_more : (ps xs new : List Pulse) (i : ℕ) (y : Pulse) → slice_get ps i ≡ Some y → new ≡ xs ++ y ∷ [] → xs ≡ take i ps → new ≡ take (i + 1) ps
one_more ps xs new i y here more same =
    more ∙ (ap (λ (l : List Pulse). l ++ y ∷ []) same
    ∙ sym (take_more ps i y (slice_get_within ps i y here) ∙ ap (λ (p : Pulse). take i ps ++ p ∷ []) (get_or_from_slice_get ps i y y here)))

pub loop-index-preserved : goal.loop-index-preserved
loop-index-preserved c = one_more _ _ _ _ _ c.pulse.ensures.value c.in_ok-push.ensures.items c.loop-index.invariant
