-- The lines of a pulse in a buffer whose digits count up.
use Rattle.std.proofs.Common.{◌≡◌, ◌<◌, ◌+◌, ◌-◌, ◌/◌, ◌%◌, ◌^◌, ◌∷◌, ◌++◌, [], ℕ, suc, List, eq-zero-or-pos, inl, inr, get_or, length, length-append, set}
use Rattle.std.proofs.Common.{decimal, ap, sym, ◌∙◌, arith, append_assoc}
use Rattle.std.proofs.Math.Seq.{get_or-append_seam, set-append_seam}
use Rattle.std.proofs.lemmas.Fmt.{decimal_digit, decimal_step}
use Rattle.irig_recording.specs.{KeptPulse.HoldsPulse, KeptPulse.front, KeptPulse.pulse_parts, declared.kept_pulse.KeptPulse.KeptPulse}

-- a front by its last digit, which may count up by one
record ByLast (k : ℕ) : Type 0 where
  same : List ℕ
  now : front k ≡ same ++ ((48 + k % 10) ∷ [])
  next : k % 10 < 9 → front (k + 1) ≡ same ++ ((48 + k % 10 + 1) ∷ [])

by_last : (k : ℕ) → k + 1 < 2 ^ 64 → ByLast k
by_last k few = elim (eq-zero-or-pos (10 - k)) [
  | inl many ↦ record {
    same = 35 ∷ decimal (k / 10);
    now = ap (λ (d : List ℕ). 35 ∷ d) (decimal_step k (omega arith) (omega arith));
    next = λ low.
        let front_is : (k + 1) / 10 ≡ k / 10 = omega (arith, low) in
        let last_is : 48 + (k + 1) % 10 ≡ 48 + k % 10 + 1 = omega (arith, low) in
        ap (λ (d : List ℕ). 35 ∷ d) (decimal_step (k + 1) (omega arith) few
        ∙ (ap (λ n. decimal n ++ ((48 + (k + 1) % 10) ∷ [])) front_is ∙ ap (λ n. decimal (k / 10) ++ (n ∷ [])) last_is));
  }
  | inr small ↦ record {
    same = 35 ∷ [];
    now = ap (λ (d : List ℕ). 35 ∷ d) (decimal_digit k (omega arith) ∙ ap (λ n. n ∷ []) (omega arith));
    next = λ low. ap (λ (d : List ℕ). 35 ∷ d) (decimal_digit (k + 1) (omega (arith, low)) ∙ ap (λ n. n ∷ []) (omega (arith, low)));
  }
]

-- both edges' lines, a digit in front of each one's last four apart
abbrev digits_apart : List ℕ → ℕ → ℕ → List ℕ → List ℕ → List ℕ
digits_apart q a b rise rest = q ++ (a ∷ (rise ++ (10 ∷ 49 ∷ 33 ∷ 10 ∷ (q ++ (b ∷ rest)))))

parts_by_digit : (k d : ℕ) (q rise fall pad : List ℕ) → front k ≡ q ++ (d ∷ [])
    → pulse_parts k rise fall pad ≡ digits_apart q d d rise (fall ++ (10 ∷ 48 ∷ 33 ∷ 10 ∷ pad))
parts_by_digit k d q rise fall pad is =
    ap (λ (f : List ℕ). f ++ (rise ++ (10 ∷ 49 ∷ 33 ∷ 10 ∷ (f ++ (fall ++ (10 ∷ 48 ∷ 33 ∷ 10 ∷ pad)))))) is
    ∙ (append_assoc q (d ∷ []) (rise ++ (10 ∷ 49 ∷ 33 ∷ 10 ∷ ((q ++ (d ∷ [])) ++ (fall ++ (10 ∷ 48 ∷ 33 ∷ 10 ∷ pad)))))
    ∙ ap (λ (l : List ℕ). q ++ (d ∷ (rise ++ (10 ∷ 49 ∷ 33 ∷ 10 ∷ l)))) (append_assoc q (d ∷ []) (fall ++ (10 ∷ 48 ∷ 33 ∷ 10 ∷ pad))))

fall_set : (q rise rest : List ℕ) (a b u i : ℕ) → i ≡ length q + length rise + 5 + length q
    → set (digits_apart q a b rise rest) i u ≡ digits_apart q a u rise rest
fall_set q rise rest a b u i at =
    let p = q ++ (a ∷ (rise ++ (10 ∷ 49 ∷ 33 ∷ 10 ∷ q))) in
    let apart : (z : List ℕ) → q ++ (a ∷ (rise ++ (10 ∷ 49 ∷ 33 ∷ 10 ∷ (q ++ z)))) ≡ p ++ z =
    λ z. sym (append_assoc q (a ∷ (rise ++ (10 ∷ 49 ∷ 33 ∷ 10 ∷ q))) z ∙ ap (λ (l : List ℕ). q ++ (a ∷ l)) (append_assoc rise (10 ∷ 49 ∷ 33 ∷ 10 ∷ q) z)) in
    let long : length p ≡ i = length-append q (a ∷ (rise ++ (10 ∷ 49 ∷ 33 ∷ 10 ∷ q)))
    ∙ (ap (λ n. length q + suc n) (length-append rise (10 ∷ 49 ∷ 33 ∷ 10 ∷ q)) ∙ omega (arith, at)) in
    ap (λ (l : List ℕ). set l i u) (apart (b ∷ rest))
    ∙ (ap (λ n. set (p ++ (b ∷ rest)) n u) (sym long) ∙ (set-append_seam p b rest u ∙ sym (apart (u ∷ rest))))

-- the digit in front of the last four of a rise
pub kept_digit : (p : KeptPulse) → HoldsPulse p → p.base + 10000 < 2 ^ 64 → get_or p.bytes (p.long - 9) 0 ≡ 48 + p.base / 10000 % 10
kept_digit p kept few =
    let k = p.base / 10000 in
    let h = by_last k (omega arith) in
    let d = 48 + k % 10 in
    let rest = kept.fall ++ (10 ∷ 48 ∷ 33 ∷ 10 ∷ kept.pad) in
    let place : length h.same ≡ p.long - 9 = omega (arith, ap length h.now ∙ length-append h.same (d ∷ []), kept.fits) in
    ap (λ (l : List ℕ). get_or l (p.long - 9) 0) (kept.is ∙ parts_by_digit k d h.same kept.rise kept.fall kept.pad h.now)
    ∙ (ap (λ n. get_or (digits_apart h.same d d kept.rise rest) n 0) (sym place)
    ∙ get_or-append_seam h.same d (kept.rise ++ (10 ∷ 49 ∷ 33 ∷ 10 ∷ (h.same ++ (d ∷ rest)))) 0)

-- both edges' lines with one more in front of the last four digits
pub counted_up : (k i j : ℕ) (rise fall pad : List ℕ) → k + 1 < 2 ^ 64 → k % 10 < 9 → length rise ≡ 4 → length (front k) ≡ i + 1 → j ≡ i + i + 9
    → set (set (pulse_parts k rise fall pad) i (48 + k % 10 + 1)) j (48 + k % 10 + 1) ≡ pulse_parts (k + 1) rise fall pad
counted_up k i j rise fall pad few low four at behind =
    let h = by_last k few in
    let q = h.same in
    let a = 48 + k % 10 in
    let b = 48 + k % 10 + 1 in
    let rest = fall ++ (10 ∷ 48 ∷ 33 ∷ 10 ∷ pad) in
    let place : length q ≡ i = omega (arith, ap length h.now ∙ length-append q (a ∷ []), at) in
    ap (λ (l : List ℕ). set (set l i b) j b) (parts_by_digit k a q rise fall pad h.now)
    ∙ (ap (λ n. set (set (digits_apart q a a rise rest) n b) j b) (sym place)
    ∙ (ap (λ (l : List ℕ). set l j b) (set-append_seam q a (rise ++ (10 ∷ 49 ∷ 33 ∷ 10 ∷ (q ++ (a ∷ rest)))) b)
    ∙ (fall_set q rise rest b a b j (omega (arith, behind, four, place)) ∙ sym (parts_by_digit (k + 1) b q rise fall pad (h.next low)))))

-- as many digits as before
pub front_as_long : (k : ℕ) → k + 1 < 2 ^ 64 → k % 10 < 9 → length (front (k + 1)) ≡ length (front k)
front_as_long k few low =
    let h = by_last k few in
    ap length (h.next low) ∙ (length-append h.same ((48 + k % 10 + 1) ∷ []) ∙ (sym (length-append h.same ((48 + k % 10) ∷ [])) ∙ ap length (sym h.now)))
