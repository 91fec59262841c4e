-- The text that is written pulse by pulse is the text of the recording.
use Rattle.std.proofs.Common.{◌≡◌, ◌≤◌, ◌+◌, ◌==◌, ◌++◌, ◌∷◌, ◌&&◌, [], ℕ, Bool, true, false, not, List, length, drop, nat_lt, inl, inr, subst, refl, ap, sym}
use Rattle.std.proofs.Common.{◌∙◌, arith, append_assoc, if◌then◌else◌, slice_get, Some}
use Rattle.std.specs.List.{list_any}
use Rattle.std.proofs.lemmas.{List.drop_all, List.append-nil, Bool.ne_eqb, Bool.eq-eqb, Bool.lt-ltb, Bool.cases_eq}
use Rattle.std.proofs.Math.Bool.{or-false}
use Rattle.irig_recording.specs.FileText.{file_text, header_text, time_line, level_line, edge_lines, begins_high, later_edges, end_line, lines_at, length_line}
use Rattle.irig_recording.specs.{Pulses.edges_of, Recording.recording_view, Recording.RisesFrom, Recording.UpTo, declared.pulse.Pulse.Pulse}
use Rattle.irig_recording.proofs.Items.{drop-item}

-- whether the first pulse rises at 0
pub first_high : (p : Pulse) (ps : List Pulse) → slice_get ps 0 ≡ Some p → (p.rise == 0) ≡ begins_high (edges_of ps)
first_high p ps is = sym (ap (λ qs. begins_high (edges_of qs)) (drop-item ps 0 p is))

-- the last of some edges
abbrev pub last_or : ℕ → List ℕ → ℕ
last_or last [] = last
last_or last (edge ∷ edges) = last_or edge edges

pub last_up : (edges : List ℕ) (last top : ℕ) → last ≤ top → UpTo top edges → last_or last edges ≤ top
last_up [] last top le u = le
last_up (edge ∷ edges) last top le u = last_up edges edge top u.0 u.1

-- the lines of edges, the first of them high or low
abbrev pub all_lines : Bool → List ℕ → List ℕ
all_lines high [] = []
all_lines high (edge ∷ edges) = lines_at high edge ++ all_lines (not high) edges

above : (low : ℕ) (high : Bool) (edges : List ℕ) → 1 ≤ low → RisesFrom low edges → all_lines high edges ≡ edge_lines high edges
above low high [] some r = refl
above low high (edge ∷ edges) some r =
    let up : (edge == 0) ≡ false = ne_eqb edge 0 (λ e. omega (arith, r.0)) in
    rw (up, above (edge + 1) (not high) edges (omega arith) r.1) refl

-- an edge at 0 is given by the header
lines : (edges : List ℕ) → RisesFrom 0 edges → all_lines true edges ≡ edge_lines (not (begins_high edges)) (later_edges edges)
lines [] r = refl
lines (edge ∷ edges) r = elim (cases_eq edge 0) [
  | inl is ↦ (let r1 : RisesFrom 1 edges = subst (λ n. RisesFrom (n + 1) edges) is r.1 in rw (eq-eqb edge 0 is) (above 1 false edges (omega arith) r1))
  | inr apart ↦ rw (ne_eqb edge 0 apart) (ap (λ (rest : List ℕ). time_line edge ++ level_line true ++ rest) (above (edge + 1) false edges (omega arith) r.1))
]

-- among rising edges only the last is as great as the length
last_stands : (top low edge : ℕ) (edges : List ℕ) → RisesFrom low (edge ∷ edges) → UpTo top (edge ∷ edges)
    → list_any (λ e. e == top) (edge ∷ edges) ≡ (last_or edge edges == top)
last_stands top low edge [] r u = or-false (edge == top)
last_stands top low edge (next ∷ edges) r u =
    let apart : (edge == top) ≡ false = ne_eqb edge top (λ e. omega (arith, r.1.0, u.1.0)) in
    rw apart (last_stands top (edge + 1) next edges r.1 u.1)

turned : (stands : Bool) (line : List ℕ) → (if not stands then line else []) ≡ (if stands then [] else line)
turned true line = refl
turned false line = refl

longer : (micros : ℕ) (stands : Bool) → (micros ≡ 0 → ⊥)
    → (if nat_lt 0 micros && not stands then time_line micros else []) ≡ (if stands then [] else time_line micros)
longer micros stands some = rw (lt-ltb 0 micros (omega (arith, some))) (turned stands (time_line micros))

stands_at : (micros : ℕ) (edges : List ℕ) → (micros ≡ 0 → ⊥) → RisesFrom 0 edges → UpTo micros edges
    → list_any (λ e. e == micros) edges ≡ (last_or 0 edges == micros)
stands_at micros [] some r u = sym (ne_eqb 0 micros (λ e. some (sym e)))
stands_at micros (edge ∷ edges) some r u = last_stands micros 0 edge edges r u

-- the text ends with the length
ends : (micros : ℕ) (edges : List ℕ) → RisesFrom 0 edges → UpTo micros edges → length_line (last_or 0 edges) micros ≡ end_line (recording_view micros edges)
ends micros edges r u = elim (cases_eq micros 0) [
  | inl is ↦
      let up : last_or 0 edges ≤ micros = last_up edges 0 micros (omega arith) u in
      let last : (last_or 0 edges == micros) ≡ true = eq-eqb (last_or 0 edges) micros (omega (arith, up, is)) in
      rw last (sym (ap (λ n. if nat_lt 0 n && not (list_any (λ edge. edge == n) edges) then time_line n else []) is))
  | inr some ↦ rw (sym (stands_at micros edges some r u)) (sym (longer micros (list_any (λ edge. edge == micros) edges) some))
]

pub whole_text : (micros : ℕ) (edges : List ℕ) → RisesFrom 0 edges → UpTo micros edges
    → header_text (begins_high edges) ++ all_lines true edges ++ length_line (last_or 0 edges) micros ≡ file_text (recording_view micros edges)
unfolding file_text
whole_text micros edges r u = rw (lines edges r, ends micros edges r u) refl

-- what was written after a start when no pulse is left
pub all_put : (n micros : ℕ) (start text : List ℕ) (last : ℕ) (ps : List Pulse) → length ps ≤ n
    → text ++ all_lines true (edges_of (drop n ps)) ≡ start ++ (header_text (begins_high (edges_of ps)) ++ all_lines true (edges_of ps))
    → last_or last (edges_of (drop n ps)) ≡ last_or 0 (edges_of ps)
    → RisesFrom 0 (edges_of ps) → UpTo micros (edges_of ps)
    → text ++ length_line last micros ≡ start ++ file_text (recording_view micros (edges_of ps))
all_put n micros start text last ps done put end r u =
    let edges = edges_of ps in
    let none : edges_of (drop n ps) ≡ [] = ap edges_of (drop_all n ps done) in
    let before : text ≡ start ++ (header_text (begins_high edges) ++ all_lines true edges) =
    sym (append-nil text) ∙ ap (λ es. text ++ all_lines true es) (sym none) ∙ put in
    let at : last ≡ last_or 0 edges = ap (last_or last) (sym none) ∙ end in
    rw (before, at) (append_assoc start (header_text (begins_high edges) ++ all_lines true edges) (length_line (last_or 0 edges) micros)
    ∙ ap (λ (whole : List ℕ). start ++ whole) (whole_text micros edges r u))
