-- Lines that were stamped, and one more.
use Rattle.std.proofs.Common.{◌≡◌, ◌==◌, ◌&&◌, ◌+◌, ◌^◌, ◌-◌, ◌<◌, ◌≤◌, ℕ, suc, Bool, true, not, ◌++◌, List, [], ◌∷◌, length, min, refl, sym, ap, ◌∙◌}
use Rattle.std.proofs.Common.{append_assoc, subst, arith, inl, inr}
use Rattle.std.specs.Prelude.{false, Option, Some, None, if◌then◌else◌}
use Rattle.std.proofs.lemmas.{Bool.and_from, Bool.and_parts, Bool.cases_lt, Bool.le-ltb, List.append-nil, List.length-append}
use Rattle.std.specs.List.{flat_map}
use Rattle.irig_codes.specs.Format.{FormatView}
use Rattle.irig_recording.specs.declared.pulse.Pulse.{Pulse}
use Rattle.irig_track.specs.Looks.{counted}
use Rattle.irig_stamps.specs.Looks.{header_look, line_look, look_at, looks}
use Rattle.irig_stamps.specs.{HeaderUnits.names_other_unit}
use Rattle.irig_stamps.specs.Stamped.{AreOut, Stamped, is_plain, unlines}
use Rattle.irig_stamps.specs.{Offs.header_cell, Outs.IsOut, Outs.header_name, Outs.header_word, Outs.is_header, Tallies.IsTally}
use Rattle.irig_stamps.specs.declared.{settings.Settings.Settings, look.Look.Look, tally.Tally.Tally}

pub plain-append : (xs ys : List ℕ) → is_plain xs ≡ true → is_plain ys ≡ true → is_plain (xs ++ ys) ≡ true
plain-append [] ys h k = k
plain-append (x ∷ xs) ys h k = (let p = and_parts (not (x == 10)) (is_plain xs) h in and_from _ _ p.0 (plain-append xs ys p.1 k))

flat-append : {X : Type 0} (f : X → List ℕ) (xs ys : List X) → flat_map f (xs ++ ys) ≡ flat_map f xs ++ flat_map f ys
flat-append f [] ys = refl
flat-append f (x ∷ xs) ys = ap (λ t. f x ++ t) (flat-append f xs ys) ∙ sym (append_assoc (f x) (flat_map f xs) (flat_map f ys))

-- one line is before, or is counted with those before
one-later : (n k : ℕ) → suc n + k ≡ n + suc k
one-later n k = omega arith

none-later : (n : ℕ) → n + 0 ≡ n
none-later n = omega arith

none-before : (n : ℕ) → n ≡ 0 + n
none-before n = omega arith

module _ (f : FormatView) (ps : List Pulse) (s : Settings) where
  each-append : (n : ℕ) (ls os : List (List ℕ)) (line out : List ℕ) → AreOut f ps s n ls os → is_plain line ≡ true
      → IsOut f ps s (header_word s (n + length ls)) line out → AreOut f ps s n (ls ++ line ∷ []) (os ++ out ∷ [])
  each-append n [] [] line out h p k = (p, (subst (λ (m : ℕ). IsOut f ps s (header_word s m) line out) (none-later n) k, tt))
  each-append n (l ∷ ls) (o ∷ os) line out h p k =
      (h.0, (h.1.0, each-append (suc n) ls os line out h.1.1 p (subst (λ (m : ℕ). IsOut f ps s (header_word s m) line out) (sym (one-later n (length ls))) k)))
  each-append n [] (o ∷ os) line out h p k = absurd h
  each-append n (l ∷ ls) [] line out h p k = absurd h

  looks-append : (n : ℕ) (ls os : List (List ℕ)) (line out : List ℕ) → AreOut f ps s n ls os
      → looks s n (ls ++ line ∷ []) (os ++ out ∷ []) ≡ looks s n ls os ++ look_at s (n + length ls) line out ∷ []
  looks-append n [] [] line out h = ap (λ (m : ℕ). look_at s m line out ∷ []) (sym (none-later n))
  looks-append n (l ∷ ls) (o ∷ os) line out h =
      ap (λ (xs : List Look). look_at s n l o ∷ xs) (looks-append (suc n) ls os line out h.1.1)
      ∙ ap (λ (m : ℕ). look_at s n l o ∷ (looks s (suc n) ls os ++ look_at s m line out ∷ [])) (one-later n (length ls))
  looks-append n [] (o ∷ os) line out h = absurd h
  looks-append n (l ∷ ls) [] line out h = absurd h

  -- more bytes of a line
  pub stamped-part : (bytes text rest part : List ℕ) (count : ℕ) (tally : Tally) → Stamped f ps s bytes text rest count tally → is_plain part ≡ true
      → Stamped f ps s (bytes ++ part) text (rest ++ part) count tally
  stamped-part bytes text rest part count tally h p = record {
    lines = h.lines;
    outs = h.outs;
    cut = ap (λ t. t ++ part) h.cut ∙ append_assoc (unlines h.lines) rest part;
    begun = plain-append rest part h.begun p;
    each = h.each;
    whole = h.whole;
    counts = h.counts;
    tallied = h.tallied;
  }

  -- a count that stays at 2^64 - 1 serves for the header
  header-counted : (n count : ℕ) → s.header < 2 ^ 64 → count ≡ min n (2 ^ 64 - 1) → is_header s count ≡ is_header s n
  header-counted n count small is = elim (cases_lt n (2 ^ 64 - 1)) [
    | inl less ↦ (let same : count ≡ n = omega (arith, is, less) in ap (is_header s) same)
    | inr more ↦
        let low : s.header ≤ count = omega (arith, is, more, small) in
        let lower : s.header ≤ n = omega (arith, more, small) in
        le-ltb count s.header low ∙ sym (le-ltb n s.header lower)
  ]

  -- after the header there is no word of it
  no-word : (n : ℕ) → is_header s n ≡ false → header_word s n ≡ None
  no-word n h = ap (λ (b : Bool). if b then Some (header_name s n ++ header_cell s n) else None) h

  word-counted : (n count : ℕ) → s.header < 2 ^ 64 → count ≡ min n (2 ^ 64 - 1) → header_word s count ≡ header_word s n
  word-counted n count small is = elim (cases_lt n (2 ^ 64 - 1)) [
    | inl less ↦ (let same : count ≡ n = omega (arith, is, less) in ap (header_word s) same)
    | inr more ↦
        let low : s.header ≤ count = omega (arith, is, more, small) in
        let lower : s.header ≤ n = omega (arith, more, small) in
        no-word count (le-ltb count s.header low) ∙ sym (no-word n (le-ltb n s.header lower))
  ]

  -- what is seen of a line, by a count that stays at 2^64 - 1
  same-number : (n count : ℕ) (line out : List ℕ) (b : Bool) → counted count 1 ≡ counted n 1
      → (if b then header_look s count line else line_look s count line out) ≡ (if b then header_look s n line else line_look s n line out)
  same-number n count line out true e = ap (λ (m : ℕ). record (header_look s n line) { number = m; other_unit = (m == s.header) && names_other_unit s line }) e
  same-number n count line out false e = ap (λ (m : ℕ). record (line_look s n line out) { number = m }) e

  look-counted : (n count : ℕ) (line out : List ℕ) → s.header < 2 ^ 64 → count ≡ min n (2 ^ 64 - 1) → look_at s count line out ≡ look_at s n line out
  look-counted n count line out small is =
      let number : counted count 1 ≡ counted n 1 = omega (arith, is) in
      same-number n count line out (is_header s count) number
      ∙ ap (λ (b : Bool). if b then header_look s n line else line_look s n line out) (header-counted n count small is)

  -- the end of a line
  pub stamped-line : (bytes text rest out : List ℕ) (count : ℕ) (tally after : Tally) (look : Look) → s.header < 2 ^ 64
      → Stamped f ps s bytes text rest count tally → IsOut f ps s (header_word s count) rest out → look ≡ look_at s count rest out
      → ((xs : List Look) → IsTally xs tally → IsTally (xs ++ look ∷ []) after)
      → Stamped f ps s (bytes ++ 10 ∷ []) (text ++ out) [] (counted count 1) after
  stamped-line bytes text rest out count tally after look small h k e add =
      let same : look_at s count rest out ≡ look_at s (0 + length h.lines) rest out =
      look-counted (length h.lines) count rest out small h.counts ∙ ap (λ (n : ℕ). look_at s n rest out) (none-before (length h.lines)) in
      let word : header_word s count ≡ header_word s (0 + length h.lines) =
      word-counted (length h.lines) count small h.counts ∙ ap (header_word s) (none-before (length h.lines)) in
      let more : length (h.lines ++ rest ∷ []) ≡ length h.lines + 1 = length-append h.lines (rest ∷ []) in
      record {
        lines = h.lines ++ rest ∷ [];
        outs = h.outs ++ out ∷ [];
        cut = ap (λ t. t ++ 10 ∷ []) h.cut ∙ (append_assoc (unlines h.lines) rest (10 ∷ [])
            ∙ sym (append-nil _ ∙ (flat-append (λ line. line ++ 10 ∷ []) h.lines (rest ∷ []) ∙ ap (λ t. unlines h.lines ++ t) (append-nil (rest ++ 10 ∷ [])))));
        begun = refl;
        each = each-append 0 h.lines h.outs rest out h.each h.begun (subst (λ (w : Option (List ℕ)). IsOut f ps s w rest out) word k);
        whole = ap (λ t. t ++ out) h.whole ∙ sym (flat-append (λ o. o) h.outs (out ∷ []) ∙ ap (λ t. flat_map (λ o. o) h.outs ++ t) (append-nil out));
        counts = omega (arith, more, h.counts);
        tallied = subst (λ (xs : List Look). IsTally xs after) (sym (looks-append 0 h.lines h.outs rest out h.each))
            (subst (λ (x : Look). IsTally (looks s 0 h.lines h.outs ++ x ∷ []) after)
            (e ∙ same)
            (add (looks s 0 h.lines h.outs) h.tallied));
      }
