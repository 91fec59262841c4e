-- The pulses that rise before a time, and those that rise in a stretch of time.
use Rattle.std.proofs.Common.{◌≡◌, ◌≤◌, ◌<◌, ◌+◌, ◌-◌, ℕ, true, false, ◌⊎◌, ⊎_elim, inl, inr, nat_lt, nat_le, List, [], ◌∷◌, length, refl, ap, ◌∙◌, subst}
use Rattle.std.proofs.Common.{arith}
use Rattle.std.proofs.lemmas.{Bool.and_right, Bool.cases_lt, Bool.Decides.nat_tests}
use Rattle.irig_recording.specs.{Recording.RisesFrom, declared.pulse.Pulse.Pulse}
use Rattle.irig_track.specs.{Edges.edges_of, Splices.piece, Splices.risen_by}
use Rattle.irig_edit.specs.Edits.Regenerated.{rising_before, rising_in}

-- one more pulse that rises before a time, or not
pub before_yes : (t : ℕ) (p : Pulse) (ps : List Pulse) → p.rise < t → rising_before t (p ∷ ps) ≡ p ∷ rising_before t ps
before_yes t p ps h = let yes : nat_lt p.rise t ≡ true = grind (arith, nat_tests) in rw yes refl

pub before_no : (t : ℕ) (p : Pulse) (ps : List Pulse) → t ≤ p.rise → rising_before t (p ∷ ps) ≡ rising_before t ps
before_no t p ps h = let no : nat_lt p.rise t ≡ false = grind (arith, nat_tests) in rw no refl

in_early : (s e : ℕ) (p : Pulse) (ps : List Pulse) → p.rise < s → rising_in s e (p ∷ ps) ≡ rising_in s e ps
in_early s e p ps h = let no : nat_le s p.rise ≡ false = grind (arith, nat_tests) in rw no refl

in_yes : (s e : ℕ) (p : Pulse) (ps : List Pulse) → s ≤ p.rise → p.rise < e → rising_in s e (p ∷ ps) ≡ p ∷ rising_in s e ps
in_yes s e p ps h i =
    let yes : nat_le s p.rise ≡ true = grind (arith, nat_tests) in
    let too : nat_lt p.rise e ≡ true = grind (arith, nat_tests) in
    rw yes (rw too refl)

in_late : (s e : ℕ) (p : Pulse) (ps : List Pulse) → e ≤ p.rise → rising_in s e (p ∷ ps) ≡ rising_in s e ps
in_late s e p ps h =
    let no : nat_lt p.rise e ≡ false = grind (arith, nat_tests) in
    rw (and_right (nat_le s p.rise) (nat_lt p.rise e) no) refl

-- of pulses that rise from a time on none rises before it
pub none_before : (t low : ℕ) (ps : List Pulse) → t ≤ low → RisesFrom low (edges_of ps) → rising_before t ps ≡ []
none_before t low [] le h = refl
none_before t low (p ∷ ps) le h =
    before_no t p ps (omega (arith, h.0)) ∙ none_before t (p.fall + 1) ps (omega (arith, h.0, h.1.0)) h.1.1

none_in : (s e low : ℕ) (ps : List Pulse) → e ≤ low → RisesFrom low (edges_of ps) → rising_in s e ps ≡ []
none_in s e low [] le h = refl
none_in s e low (p ∷ ps) le h =
    in_late s e p ps (omega (arith, h.0)) ∙ none_in s e (p.fall + 1) ps (omega (arith, h.0, h.1.0)) h.1.1

-- a pulse rises before a stretch, in it or after it
by_time : {P : Type 0} (s e : ℕ) (p : Pulse) → (p.rise < s → P) → (s ≤ p.rise → p.rise < e → P) → (s ≤ p.rise → e ≤ p.rise → P) → P
by_time s e p early in_it late = ⊎_elim early (λ from. ⊎_elim (in_it from) (late from) (cases_lt p.rise e)) (cases_lt p.rise s)

-- those that rise before an end rise before a start or from it on
pub before_end : (s e : ℕ) (ps : List Pulse) → s ≤ e
    → length (rising_before s ps) + length (rising_in s e ps) ≡ length (rising_before e ps)
before_end s e [] le = refl
before_end s e (p ∷ ps) le =
    let rest = before_end s e ps le in
    by_time s e p
    (λ early. rw (before_yes s p ps early) (rw (in_early s e p ps early) (rw (before_yes e p ps (omega (arith, early, le))) (omega (arith, rest)))))
    (λ from to. rw (before_no s p ps from) (rw (in_yes s e p ps from to) (rw (before_yes e p ps to) (omega (arith, rest)))))
    (λ from late. rw (before_no s p ps from) (rw (in_late s e p ps late) (rw (before_no e p ps late) rest)))

-- they are next to each other
pub piece_in : (s e low : ℕ) (ps : List Pulse) → s ≤ e → RisesFrom low (edges_of ps)
    → piece (length (rising_before s ps)) (length (rising_in s e ps)) ps ≡ rising_in s e ps
piece_in s e low [] le h = refl
piece_in s e low (p ∷ ps) le h =
    let rest = piece_in s e (p.fall + 1) ps le h.1.1 in
    by_time s e p
    (λ early. rw (before_yes s p ps early) (rw (in_early s e p ps early) rest))
    (λ from to. let none : rising_before s ps ≡ [] = none_before s (p.fall + 1) ps (omega (arith, from, h.1.0)) h.1.1 in
    let P : List Pulse → Type 0 = λ qs. piece (length qs) (length (rising_in s e ps)) ps ≡ rising_in s e ps in
    let more = subst P none rest in
    rw (before_no s p ps from) (rw (in_yes s e p ps from to) (rw none (ap (λ (qs : List Pulse). p ∷ qs) more))))
    (λ from late. let none : rising_in s e ps ≡ [] = none_in s e (p.fall + 1) ps (omega (arith, late, h.1.0)) h.1.1 in
    rw (in_late s e p ps late) (rw none refl))

-- how many rise at or before the time before a time
pub risen-before : (t : ℕ) (ps : List Pulse) → 0 < t → risen_by (t - 1) ps ≡ length (rising_before t ps)
risen-before t [] some = refl
risen-before t (p ∷ ps) some = by_case (cases_lt p.rise t) (risen-before t ps some) where
  by_case : (p.rise < t) ⊎ (t ≤ p.rise) → risen_by (t - 1) ps ≡ length (rising_before t ps) → risen_by (t - 1) (p ∷ ps) ≡ length (rising_before t (p ∷ ps))
  by_case (inl early) rest =
      let yes : nat_le p.rise (t - 1) ≡ true = grind (arith, nat_tests) in
      rw (before_yes t p ps early) (rw yes (omega (arith, rest)))
  by_case (inr late) rest =
      let no : nat_le p.rise (t - 1) ≡ false = grind (arith, nat_tests) in
      rw (before_no t p ps late) (rw no (omega (arith, rest)))

pub before-zero : (ps : List Pulse) → rising_before 0 ps ≡ []
before-zero [] = refl
before-zero (p ∷ ps) = before_no 0 p ps (omega arith) ∙ before-zero ps
