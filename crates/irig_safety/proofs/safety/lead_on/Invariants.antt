use Rattle.std.proofs.Common.{◌↔◌, ◌-◌, drop}
use Rattle.irig_safety.specs.Safety.{LeadOn}
use Rattle.irig_safety.proofs.safety.lead_on.Given as goal

abbrev pub invariant-loop-place : goal.invariant-loop-place
invariant-loop-place l = LeadOn l.format l.frames ↔ LeadOn l.format (drop (l.place - 1) l.frames)
