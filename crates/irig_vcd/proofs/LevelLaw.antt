-- The edges of changes give their level by parity.
use Rattle.std.proofs.Common.{◌≡◌, ◌<◌, ◌*◌, ℕ, zero, suc, Bool, true, false, not, List, [], ◌∷◌, ◌++◌, cond, nat_le, nat_lt, length, Option, Result, Ok, Err, refl}
use Rattle.std.proofs.Common.{ap, subst, ◌∙◌, inl, inr, arith}
use Rattle.std.specs.List.{filter}
use Rattle.std.proofs.lemmas.{List.append-nil, List.Elements.filter-append, Bool.cases_lt, Bool.le-leb, Bool.Decides.nat_tests}
use Rattle.irig_vcd.specs.Dump.{dump, changes_of, recorded, TellsLevels}
use Rattle.irig_vcd.specs.Level.{Change, level_by_changes, level_before, edges_below, edges_up_to, differs}
use Rattle.irig_vcd.specs.{Answer.◌>>=◌, declared.fault.VcdFault.VcdFault, declared.fault.VcdFault.TheVariants.TooManyPulses}
use Rattle.irig_recording.specs.Recording.{RecordingView, recording_view, is_even_long, level_by_edges}
use Rattle.irig_vcd.proofs.Lawful.{not-not, even_below, Below, edges_are_below}

-- an edge after a time leaves the level there
level_later : (is_edge : Bool) (xs : List ℕ) (x t : ℕ) → t < x → level_by_edges t (xs ++ cond is_edge (x ∷ []) []) ≡ level_by_edges t xs
level_later true xs x t lt =
    let no : nat_le x t ≡ false = grind (arith, nat_tests) in
    ap (λ (l : List ℕ). not (is_even_long l)) (filter-append (λ edge. nat_le edge t) xs (x ∷ [])
    ∙ (ap (λ b. filter (λ edge. nat_le edge t) xs ++ cond b (x ∷ []) []) no ∙ append-nil (filter (λ edge. nat_le edge t) xs)))
level_later false xs x t lt = rw append-nil refl

-- all edges count at a time that none is above
all_count : (xs : List ℕ) (t : ℕ) → Below (suc t) xs → filter (λ edge. nat_le edge t) xs ≡ xs
all_count [] t h = refl
all_count (x ∷ xs) t h =
    let yes : nat_le x t ≡ true = le-leb x t (omega (arith, h.0)) in
    rw (yes, all_count xs t h.1) refl

level_now : (cs : List Change) (t : ℕ) → level_by_edges t (edges_below cs (suc t)) ≡ level_by_changes cs t
level_now cs t =
    ap (λ (l : List ℕ). not (is_even_long l)) (all_count (edges_below cs (suc t)) t (edges_are_below cs (suc t)))
    ∙ (ap not (even_below cs (suc t)) ∙ not-not (level_by_changes cs t))

level_told : (cs : List Change) (t n : ℕ) → t < n → level_by_edges t (edges_below cs n) ≡ level_by_changes cs t
level_told cs t zero lt = absurd (omega arith)
level_told cs t (suc n) lt = elim (cases_lt t n) [
  | inl before ↦ level_later (differs (level_by_changes cs n) (level_before cs n)) (edges_below cs n) n t before ∙ level_told cs t n before
  | inr last ↦ (let same : n ≡ t = omega arith in ap (λ k. level_by_edges t (edges_below cs (suc k))) same ∙ level_now cs t)
]

-- below an end the edges up to it give the level
pub level_up_to : (cs : List Change) (end t : ℕ) → t < end → level_by_edges t (edges_up_to cs end) ≡ level_by_changes cs t
level_up_to cs end t lt = level_later (level_before cs end) (edges_below cs end) end t lt ∙ level_told cs t end lt

pub few_level : (many : Bool) (cs : List Change) (end : ℕ) (r : RecordingView)
    → cond many (Err TooManyPulses) (Ok (recording_view end (edges_up_to cs end))) ≡ Ok r
    → (end ≡ r.micros) × ((t : ℕ) → t < r.micros → level_by_edges t r.edges ≡ level_by_changes cs t)
few_level true cs end r h = absurd (cc h)
few_level false cs end r h =
    let is : recording_view end (edges_up_to cs end) ≡ r = cc h in (
      ap (λ (x : RecordingView). x.micros) is,
      subst (λ (x : RecordingView). (t : ℕ) → t < x.micros → level_by_edges t x.edges ≡ level_by_changes cs t) is
          (λ t lt. level_up_to cs end t lt),
    )

levels_of : (wire : Option (List ℕ)) (bytes : List ℕ) (r : RecordingView) (read : Result (List Change × ℕ) VcdFault) → changes_of wire bytes ≡ read
    → (read >>= λ x. recorded x.0 x.1) ≡ Ok r → TellsLevels wire bytes r
levels_of wire bytes r (Err e) is h = absurd (cc h)
levels_of wire bytes r (Ok x) is h =
    let k = few_level (nat_lt (2 * 4194304) (length (edges_up_to x.0 x.1))) x.0 x.1 r h in
    (x.0, is ∙ ap (λ n. Ok (x.0, n)) k.0, k.1)

pub levels_told : (wire : Option (List ℕ)) (bytes : List ℕ) (r : RecordingView) → dump wire bytes ≡ Ok r → TellsLevels wire bytes r
unfolding dump
levels_told wire bytes r h = levels_of wire bytes r (changes_of wire bytes) refl h
