-- A trace follows the changes of a dump, and keeps those of a window.
use Rattle.std.proofs.Common.{◌≡◌, ◌<◌, ◌≤◌, ◌+◌, ◌-◌, ℕ, Bool, true, false, not, List, [], ◌∷◌, ◌++◌, Option, cond, length, take, refl, ap, sym, subst, ◌∙◌, arith}
use Rattle.std.proofs.Common.{append_assoc}
use Rattle.std.specs.List.{AllByRecursion}
use Rattle.irig_vcd.specs.Level.{Change, change, differs, edges_below, level_before}
use Rattle.irig_vcd.specs.{Code.Along.HasRisen, Code.Along.LiesOn, Code.Trace.EdgeBefore, Code.Trace.Follows, Code.Trace.IsKept, Code.Trace.Traces, Code.Trace.placed}
use Rattle.irig_vcd.specs.{Extent.most_pulses, Window.moved, Window.within, declared.stretch.Stretch.Stretch, declared.trace.Trace.Trace, declared.window.Window.Window}
use Rattle.irig_recording.specs.Edges.{edges_kept}
use Rattle.irig_vcd.proofs.EarlyEdges.{edge_before, high_before}
use Rattle.irig_vcd.proofs.Levels.{advanced, all_later, all_push, changed, take-nil}
use Rattle.irig_vcd.proofs.PulseSteps.{pulse_put}
use Rattle.irig_vcd.proofs.Windows.{edge_within, moved_change, moved-start, moved_up, within-nil, within-push}

-- the same trace, by its parts
traces_as : (cs : List Change) (old new : Trace) → new.extent ≡ old.extent → new.time ≡ old.time → new.before ≡ old.before → new.now ≡ old.now
    → new.edges ≡ old.edges
    → Traces cs old → Traces cs new
traces_as cs old new same time before now edges h = record {
  upto = rw time h.upto;
  before = before ∙ rw time h.before;
  now = now ∙ rw time h.now;
  edges = edges ∙ rw (same, time) h.edges;
}

-- a trace that begins
pub followed_none : (t : Trace) → t.time ≡ 0 → t.before ≡ false → t.now ≡ false → t.edges ≡ [] → Follows [] t
followed_none t time before now edges =
    let start : moved t.extent.window t.time ≡ 0 = ap (moved t.extent.window) time ∙ moved-start t.extent.window in
    record {
      upto = tt;
      traces = rw within-nil (record {
        upto = tt;
        before = before ∙ rw start refl;
        now = now;
        edges = edges ∙ rw start (sym (take-nil (edges_kept (most_pulses t.extent))));
      });
    }

-- it continues to a later time, within a microsecond of the window
pub followed_near : (cs : List Change) (old new : Trace) → new.extent ≡ old.extent → old.time ≤ new.time
    → moved old.extent.window new.time ≤ moved old.extent.window old.time
    → new.before ≡ old.before → new.now ≡ old.now → new.edges ≡ old.edges → Follows cs old → Follows cs new
followed_near cs old new same later near before now edges h =
    let x = old.extent in
    let w = x.window in
    let at : moved w new.time ≡ moved w old.time = omega (arith, near, moved_up w old.time new.time later) in
    record {
      upto = all_later cs old.time new.time h.upto later;
      traces = rw same (traces_as (within w cs) (placed x old) (placed x new) refl at before now edges h.traces);
    }

-- to a later one
pub followed_on : (cs : List Change) (old new : Trace) → new.extent ≡ old.extent → old.time ≤ new.time
    → moved old.extent.window old.time < moved old.extent.window new.time
    → new.now ≡ old.now → new.before ≡ old.now
    → ((all : List ℕ) → old.edges ≡ take (edges_kept (most_pulses old.extent)) all
    → new.edges ≡ take (edges_kept (most_pulses old.extent)) (all ++ (cond (differs old.now old.before) (moved old.extent.window old.time ∷ []) [])))
    → Follows cs old → Follows cs new
followed_on cs old new same later up now before edges h =
    let x = old.extent in
    let w = x.window in
    record {
      upto = all_later cs old.time new.time h.upto later;
      traces = rw same (advanced (within w cs) (placed x old) (placed x new) refl up now before edges h.traces);
    }

-- and takes a change
pub followed_change : (cs : List Change) (c : Change) (old new : Trace) → new.extent ≡ old.extent → old.time ≡ c.time → new.time ≡ c.time → new.now ≡ c.high
    → new.before ≡ old.before → new.edges ≡ old.edges → Follows cs old → Follows (cs ++ c ∷ []) new
followed_change cs c old new same was time now before edges h =
    let x = old.extent in
    let w = x.window in
    record {
      upto = all_push cs c new.time (all_later cs old.time new.time h.upto (omega (arith, was, time))) (omega (arith, time));
      traces = rw (same, within-push w cs c) (changed (within w cs) (moved_change w c) (placed x old) (placed x new) refl (ap (moved w) was) (ap
          (moved w) time) now before edges h.traces);
    }

-- an edge before a time
pub edge_in : (cs : List Change) (t : Trace) (time : ℕ) → Follows cs t → moved t.extent.window t.time < moved t.extent.window time
    → differs t.now t.before ≡ true
    → EdgeBefore time cs
edge_in cs t time h lt is = edge_within t.extent.window time cs (edge_before (within t.extent.window cs) (placed t.extent t)
    (moved t.extent.window time) h.traces lt is)

pub high_in : (cs : List Change) (t : Trace) (time : ℕ) → Follows cs t → t.time ≤ time → t.before ≡ true → EdgeBefore time cs
high_in cs t time h le is =
    edge_within t.extent.window time cs (high_before (within t.extent.window cs) (moved t.extent.window t.time) (moved t.extent.window time)
    (moved_up t.extent.window t.time time le)
    (sym h.traces.before ∙ is))

-- two changes
both-push : (w : Option Window) (cs : List Change) (a b : Change)
    → within w (cs ++ a ∷ b ∷ []) ≡ within w cs ++ moved_change w a ∷ moved_change w b ∷ []
both-push w cs a b =
    ap (within w) (sym (append_assoc cs (a ∷ []) (b ∷ []))) ∙ (within-push w (cs ++ a ∷ []) b
    ∙ (ap (λ (l : List Change). l ++ moved_change w b ∷ []) (within-push w cs a) ∙ append_assoc (within w cs) (moved_change w a ∷ []) (moved_change w b ∷ [])))

both_upto : (cs : List Change) (rise fall was : ℕ) → AllByRecursion (λ c. c.time ≤ was) cs → was ≤ fall → rise ≤ fall
    → AllByRecursion (λ c. c.time ≤ fall) (cs ++ change rise true ∷ change fall false ∷ [])
both_upto cs rise fall was all later up =
    subst (λ (l : List Change). AllByRecursion (λ c. c.time ≤ fall) l) (append_assoc cs (change rise true ∷ []) (change fall false ∷ []))
    (all_push (cs ++ change rise true ∷ []) (change fall false) fall (all_push cs (change rise true) fall (all_later cs was fall all later) up) (omega arith))

pub is_so : (b : Bool) → not b ≡ false → b ≡ true
is_so true h = refl
is_so false h = absurd (cc h)

pub is_not : (b : Bool) → not b ≡ true → b ≡ false
is_not true h = absurd (cc h)
is_not false h = refl

-- a pulse that is kept
pub followed_pulse : (cs : List Change) (s : Stretch) (old new : Trace) (rise fall : ℕ) → LiesOn s old → s.is_kept ≡ true
    → length old.edges + 2 ≤ edges_kept (most_pulses old.extent)
    → old.time < rise → rise < fall → fall ≤ s.limit → new.edges ≡ old.edges ++ (old.time - s.from) ∷ (rise - s.from) ∷ []
    → new.time ≡ fall → new.before ≡ old.before → new.now ≡ old.now → new.extent ≡ old.extent → Follows cs old
    → Follows (cs ++ change rise true ∷ change fall false ∷ []) new
followed_pulse cs s old new rise fall on is room first second top added time before now same h =
    let x = old.extent in
    let w = x.window in
    let k = on.kept is in
    let here : moved w old.time ≡ old.time - s.from = k.2 old.time (omega arith) (omega (arith, first, second, top)) in
    let up : moved w rise ≡ rise - s.from = k.2 rise (omega (arith, first)) (omega (arith, second, top)) in
    let down : moved w fall ≡ fall - s.from = k.2 fall (omega (arith, first, second)) top in
    let edges : new.edges ≡ old.edges ++ moved w old.time ∷ moved w rise ∷ [] = rw (here, up) added in
    record {
      upto = rw time (both_upto cs rise fall old.time h.upto (omega (arith, first, second)) (omega (arith, second)));
      traces = rw (same, both-push w cs (change rise true) (change fall false))
          (pulse_put (within w cs) (placed x old) (placed x new) refl (moved w rise) (moved w fall) k.0.before on.low room
          (omega (arith, here, up, first, k.1)) (omega (arith, up, down, first, second, k.1)) edges (ap (moved w) time)
          (before ∙ k.0.before) (now ∙ on.low) h.traces);
    }

-- and one that is not
pub followed_apart : (cs : List Change) (s : Stretch) (old new : Trace) (rise fall : ℕ) → LiesOn s old → s.is_kept ≡ false
    → old.time < rise → rise < fall → fall ≤ s.limit → new.edges ≡ old.edges
    → new.time ≡ fall → new.before ≡ old.before → new.now ≡ old.now → new.extent ≡ old.extent → Follows cs old
    → Follows (cs ++ change rise true ∷ change fall false ∷ []) new
followed_apart cs s old new rise fall on is first second top edges time before now same h =
    let x = old.extent in
    let w = x.window in
    let up : moved w old.time ≡ moved w rise = sym (on.apart is rise (omega (arith, first)) (omega (arith, second, top))) in
    let down : moved w old.time ≡ moved w fall = sym (on.apart is fall (omega (arith, first, second)) top) in
    let high : Trace = record { extent = x; time = moved w old.time; before = old.before; now = true; edges = old.edges } in
    let a : Traces (within w cs ++ change (moved w rise) true ∷ []) high =
    changed (within w cs) (change (moved w rise) true) (placed x old) high refl up up refl refl refl h.traces in
    let b : Traces ((within w cs ++ change (moved w rise) true ∷ []) ++ change (moved w fall) false ∷ []) (placed x new) =
    changed (within w cs ++ change (moved w rise) true ∷ []) (change (moved w fall) false) high (placed x new) refl down (ap (moved w) time) (now
    ∙ on.low) before edges a in
    record {
      upto = rw time (both_upto cs rise fall old.time h.upto (omega (arith, first, second)) (omega (arith, second)));
      traces = rw (
        same,
        both-push w cs (change rise true) (change fall false),
        sym (append_assoc (within w cs) (change (moved w rise) true ∷ []) (change (moved w fall) false ∷ [])),
      ) b;
    }

-- a stretch goes on after a pulse
pub stretch_goes_on : (s : Stretch) (old new : Trace) → LiesOn s old → old.time ≤ new.time → new.time ≤ s.limit → new.extent ≡ old.extent
    → new.now ≡ old.now → (s.is_kept ≡ true → HasRisen new) → LiesOn s new
stretch_goes_on s old new on later top same now risen = record {
  low = now ∙ on.low;
  short = on.short;
  most = rw same on.most;
  kept = λ is. (let k = on.kept is in (risen is, omega (arith, later, k.1), λ u le lim. rw same (k.2 u (omega (arith, later, le)) lim)));
  apart = λ is u le lim. rw same (on.apart is u (omega (arith, later, le)) lim ∙ sym (on.apart is new.time later top));
}

-- the edges up to the end of a window
pub ended_in : (cs : List Change) (end : ℕ) (t : Trace) (edges : List ℕ) → t.time ≡ end
    → ((all : List ℕ) → t.edges ≡ take (edges_kept (most_pulses t.extent)) all
    → edges ≡ take (edges_kept (most_pulses t.extent)) (all ++ cond t.before (moved t.extent.window end ∷ []) []))
    → Follows cs t → IsKept (most_pulses t.extent) (within t.extent.window cs) (moved t.extent.window end) edges
ended_in cs end t edges time adds h =
    let x = t.extent in
    let w = x.window in
    let before : t.before ≡ level_before (within w cs) (moved w end) = rw (← time) h.traces.before in
    let kept : t.edges ≡ take (edges_kept (most_pulses t.extent)) (edges_below (within w cs) (moved w end)) = rw (← time) h.traces.edges in
    adds (edges_below (within w cs) (moved w end)) kept
    ∙ ap (λ b. take (edges_kept (most_pulses t.extent)) (edges_below (within w cs) (moved w end) ++ cond b (moved w end ∷ []) [])) before
