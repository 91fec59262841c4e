-- An edge before a time.
use Rattle.std.proofs.Common.{◌≡◌, ◌<◌, ◌≤◌, ◌∙◌, ℕ, zero, suc, Bool, true, false, List, Option, Some, None, refl, sym, arith}
use Rattle.std.proofs.lemmas.Bool.{false≢true}
use Rattle.irig_vcd.specs.Level.{Change, change, differs, level_before}
use Rattle.irig_vcd.specs.{Code.Trace.EdgeBefore, Code.Trace.Traces, Scan.and_level, declared.trace.Trace.Trace}
use Rattle.irig_vcd.proofs.Levels.{level_kept}

-- a high level before a time
pub high_before : (cs : List Change) (t time : ℕ) → t ≤ time → level_before cs t ≡ true → EdgeBefore time cs
high_before cs zero time le h = absurd (false≢true h)
high_before cs (suc t) time le h = record { at = t; before = omega (arith, le); high = h }

differ_high : (now before : Bool) (time : ℕ) (cs : List Change) → (now ≡ true → EdgeBefore time cs) → (before ≡ true → EdgeBefore time cs)
    → differs now before ≡ true → EdgeBefore time cs
differ_high true before time cs f g h = f refl
differ_high false before time cs f g h = g h

-- an edge at the time of a trace
pub edge_before : (cs : List Change) (t : Trace) (time : ℕ) → Traces cs t → t.time < time → differs t.now t.before ≡ true → EdgeBefore time cs
edge_before cs t time h lt =
    differ_high t.now t.before time cs (λ is. record { at = t.time; before = lt; high = sym h.now ∙ is })
    (λ is. high_before cs t.time time (omega (arith, lt)) (sym h.before ∙ is))

-- a later level does not change it
pub edge_stays : (level : Option Bool) (time : ℕ) (cs : List Change) → EdgeBefore time cs → EdgeBefore time (and_level time level cs)
edge_stays None time cs e = e
edge_stays (Some b) time cs e = record { at = e.at; before = e.before; high = level_kept cs (change time b) e.at e.before ∙ e.high }
