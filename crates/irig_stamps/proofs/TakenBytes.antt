-- Bytes of lines that were taken.
use Rattle.std.proofs.Common.{◌≡◌, ◌≢◌, ◌==◌, ◌≤◌, ◌<◌, ◌^◌, ◌++◌, ◌+◌, ◌∷◌, [], ℕ, suc, Bool, true, false, not, List, Result, Ok, Err, length, take}
use Rattle.std.proofs.Common.{drop, get_or, refl, sym, ap, ◌∙◌, append_assoc, subst}
use Rattle.std.proofs.Math.Seq.{drop-cons, take-add}
use Rattle.std.proofs.lemmas.{Bool.and_from, Bool.eqb-true, List.append-nil, List.take-append-drop}
use Rattle.irig_codes.specs.Format.{FormatView}
use Rattle.irig_recording.specs.declared.pulse.Pulse.{Pulse}
use Rattle.irig_track.specs.Looks.{counted}
use Rattle.irig_stamps.specs.{Looks.look_at, Outs.IsOut, Outs.header_word, Tallies.IsTally}
use Rattle.irig_stamps.specs.declared.{look.Look.Look, tally.Tally.Tally}
use Rattle.irig_stamps.specs.Steps.{PushesAs, Takes, TakesAs}
use Rattle.irig_stamps.specs.Stamped.{Stamped, is_plain}
use Rattle.irig_stamps.specs.{declared.fault.TakeFault.TakeFault, declared.progress.Progress.Progress, declared.settings.Settings.Settings}
use Rattle.irig_stamps.specs.declared.fault.TakeFault.TheVariants as take_fault
use Rattle.irig_stamps.proofs.StampedLines.{stamped-line, stamped-part}

not-true : (b : Bool) → (b ≡ true → ⊥) → not b ≡ true
not-true true h = absurd (h refl)
not-true false h = refl

plain-byte : (byte : ℕ) → byte ≢ 10 → is_plain (byte ∷ []) ≡ true
plain-byte byte other = and_from (not (byte == 10)) true (not-true (byte == 10) (λ e. other (eqb-true byte 10 e))) refl

-- a list at a place of it
pub cut-at : (l : List ℕ) (i : ℕ) → i < length l → l ≡ take i l ++ get_or l i 0 ∷ drop (suc i) l
cut-at l i less = sym (take-append-drop i l) ∙ ap (λ r. take i l ++ r) (drop-cons l i 0 less)

-- one more of its first items
pub take-more : (l : List ℕ) (i : ℕ) → i < length l → take i l ++ get_or l i 0 ∷ [] ≡ take (i + 1) l
take-more l i less = sym (take-add i 1 l ∙ ap (λ r. take i l ++ take 1 r) (drop-cons l i 0 less))

module _ (f : FormatView) (ps : List Pulse) (s : Settings) where
  -- the same state by its parts
  same-state : (bytes text rest rest' : List ℕ) (count count' : ℕ) (tally tally' : Tally) → rest' ≡ rest → count' ≡ count → tally' ≡ tally
      → Stamped f ps s bytes text rest count tally → Stamped f ps s bytes text rest' count' tally'
  same-state bytes text rest rest' count count' tally tally' r c a h =
      subst (λ x. Stamped f ps s bytes text x count' tally') (sym r) (subst (λ x. Stamped f ps s bytes text rest x tally') (sym c)
      (subst (λ x. Stamped f ps s bytes text rest count x) (sym a) h))

  pub pushed : (byte : ℕ) (text : List ℕ) (was is : Progress) (result : Result (Unit {0}) TakeFault) → byte ≢ 10 → PushesAs byte was is result
      → TakesAs f ps s (byte ∷ []) text text was is result
  pushed byte text was is (Ok done) plain h = λ bytes before k.
      same-state _ _ _ _ _ _ _ _ h.0 h.1.0 h.1.1
      (stamped-part f ps s bytes (before ++ text) was.line.items (byte ∷ []) was.count was.tally k (plain-byte byte plain))
  pushed byte text was is (Err take_fault.TooLong) plain h = record {
    front = [];
    byte = byte;
    others = [];
    cut = refl;
    plain = plain;
    long = subst (λ (l : List ℕ). 2 ^ 20 ≤ length l) (sym h.0) h.1.1.1;
    taken = λ bytes before k.
        subst (λ b. Stamped f ps s b (before ++ text) is.line.items is.count is.tally) (sym (append-nil bytes))
        (same-state _ _ _ _ _ _ _ _ h.0 h.1.0 h.1.1.0 k);
  }
  pushed byte text was is (Err take_fault.OutOfMemory) plain h = tt

  pub line-taken : (was : Progress) (old new out rest' : List ℕ) (look : Look) (count' : ℕ) (tally' : Tally) → s.header < 2 ^ 64
      → IsOut f ps s (header_word s was.count) was.line.items out → new ≡ old ++ out → look ≡ look_at s was.count was.line.items out
      → rest' ≡ [] → count' ≡ counted was.count 1
      → ((xs : List Look) → IsTally xs was.tally → IsTally (xs ++ look ∷ []) tally')
      → (bytes before : List ℕ) → Stamped f ps s bytes (before ++ old) was.line.items was.count was.tally
      → Stamped f ps s (bytes ++ 10 ∷ []) (before ++ new) rest' count' tally'
  line-taken was old new out rest' look count' tally' small k text e r c add = λ bytes before h.
      subst (λ t. Stamped f ps s (bytes ++ 10 ∷ []) t rest' count' tally') (append_assoc before old out ∙ ap (λ t. before ++ t) (sym text))
      (same-state _ _ _ _ _ _ _ _ r c refl
      (stamped-line f ps s bytes (before ++ old) was.line.items out was.count was.tally tally' look small h k e add))

  pub takes-both : (front part old mid new : List ℕ) (was at is : Progress) → Takes f ps s front old mid was at → Takes f ps s part mid new at is
      → Takes f ps s (front ++ part) old new was is
  takes-both front part old mid new was at is first second = λ bytes before h.
      subst (λ t. Stamped f ps s t (before ++ new) is.line.items is.count is.tally) (append_assoc bytes front part)
      (second (bytes ++ front) before (first bytes before h))

  -- a byte that was not taken after those that were
  pub not-all : (part front others old mid new : List ℕ) (byte : ℕ) (was at is : Progress) (fault : TakeFault) → part ≡ front ++ byte ∷ others
      → Takes f ps s front old mid was at → TakesAs f ps s (byte ∷ []) mid new at is (Err fault) → TakesAs f ps s part old new was is (Err fault)
  not-all part front others old mid new byte was at is take_fault.OutOfMemory cut first h = tt
  not-all part front others old mid new byte was at is take_fault.TooLong cut first h = record {
    front = front ++ h.front;
    byte = h.byte;
    others = h.others ++ others;
    cut = cut ∙ (ap (λ (l : List ℕ). front ++ (l ++ others)) h.cut ∙ (ap (λ l. front ++ l) (append_assoc h.front (h.byte ∷ h.others) others)
        ∙ sym (append_assoc front h.front (h.byte ∷ (h.others ++ others)))));
    plain = h.plain;
    long = h.long;
    taken = takes-both front h.front old mid new was at is first h.taken;
  }

  pub taken-more : (part : List ℕ) (i : ℕ) (old mid new : List ℕ) (was at is : Progress) → i < length part → Takes f ps s (take i part) old mid was at
      → Takes f ps s (get_or part i 0 ∷ []) mid new at is → Takes f ps s (take (i + 1) part) old new was is
  taken-more part i old mid new was at is less first second =
      subst (λ (l : List ℕ). Takes f ps s l old new was is) (take-more part i less)
      (takes-both (take i part) (get_or part i 0 ∷ []) old mid new was at is first second)
