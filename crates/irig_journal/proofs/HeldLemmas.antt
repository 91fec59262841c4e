-- Steps whose changes are in one list: joined to others, and their changes again.
use Rattle.std.proofs.Common.{◌≡◌, ◌∷◌, ◌+◌, ◌≤◌, ◌++◌, [], ℕ, suc, Bool, true, false, List, length, take, drop, reverse, refl, ap, ap₂, sym, ◌∙◌, arith}
use Rattle.std.proofs.Common.{length-append}
use Rattle.std.proofs.lemmas.List.{append-nil, drop-append-le, drop_at, length-drop, length-reverse, reverse-append, take-append-drop, take-append-le, take_at}
use Rattle.std.proofs.lemmas.List.Sums.{sum_by-append, sum_by-cons, sum_by_push}
use Rattle.std.proofs.lemmas.{List.Concat.flat_map-cons, List.Sorted.IsPermutation-reverse, List.Sorted.sum_by-IsPermutation}
use Rattle.irig_journal.specs.Held.{Alone, HaveAll, Held, held_of, shown_in, flat, held, held_by, held_in, parts_in, parts_of, with_end}
use Rattle.irig_journal.specs.{declared.entry.Entry.Entry, declared.size.Size.Size, Sizes.count_of, Sizes.counts_of, Sizes.is_group}
use Rattle.irig_journal.specs.declared.step.Step as shown
use Rattle.irig_journal.specs.declared.size.Size.TheVariants as size

-- an item more, the last, is the first of the reversed list
pub reverse-push : {A : Type 0} (xs ys : List A) (y : A) → xs ≡ ys ++ y ∷ [] → reverse xs ≡ y ∷ reverse ys
reverse-push xs ys y more = ap reverse more ∙ reverse-append ys (y ∷ [])

-- how many changes steps have does not rest on their order
pub counts-reverse : (es : List Entry) → counts_of (reverse es) ≡ counts_of es
counts-reverse es = sum_by-IsPermutation (λ (x : Entry). count_of x.size) es (reverse es) (IsPermutation-reverse es)

pub counts-cons : (e : Entry) (es : List Entry) → counts_of (e ∷ es) ≡ count_of e.size + counts_of es
counts-cons e es = sum_by-cons (λ (x : Entry). count_of x.size) e es

pub counts-append : (es fs : List Entry) → counts_of (es ++ fs) ≡ counts_of es + counts_of fs
counts-append es fs = sum_by-append (λ (x : Entry). count_of x.size) es fs

module _ {C : Type 0} where
  pub parts_in-parts_of : (b : Bool) (cs : List C) → parts_in (parts_of b cs) ≡ cs
  parts_in-parts_of true cs = refl
  parts_in-parts_of false [] = refl
  parts_in-parts_of false (c ∷ []) = refl
  parts_in-parts_of false (c ∷ (d ∷ cs)) = refl

  pub length-held : (cs : List C) (es : List Entry) → length (held_by cs es) ≡ length es
  length-held cs [] = refl
  length-held cs (e ∷ es) = ap suc (length-held (drop (count_of e.size) cs) es)

  -- first the one steps, then the others
  pub held_by-append : (cs ds : List C) (es fs : List Entry) → counts_of es ≡ length cs
      → held_by (cs ++ ds) (es ++ fs) ≡ held_by cs es ++ held_by ds fs
  held_by-append [] ds [] fs all = refl
  held_by-append (c ∷ cs) ds [] fs all = absurd (omega arith)
  held_by-append cs ds (e ∷ es) fs all =
      let n = count_of e.size in
      let low : n ≤ length cs = omega (arith, all, counts-cons e es) in
      let rest : counts_of es ≡ length (drop n cs) = omega (arith, all, counts-cons e es, length-drop n cs) in
      ap₂ (λ (near : List C) (left : List C). held (parts_of (is_group e.size) near) e.cursor ∷ held_by left (es ++ fs))
      (take-append-le n cs ds low) (drop-append-le n cs ds low)
      ∙ ap (λ (l : List (Held C)). held (parts_of (is_group e.size) (take n cs)) e.cursor ∷ l) (held_by-append (drop n cs) ds es fs rest)

  -- the nearest step apart
  pub held_by-cons : (cs ds : List C) (e : Entry) (es : List Entry) → length cs ≡ count_of e.size
      → held_by (cs ++ ds) (e ∷ es) ≡ held (parts_of (is_group e.size) cs) e.cursor ∷ held_by ds es
  held_by-cons cs ds e es same =
      ap₂ (λ (near : List C) (left : List C). held (parts_of (is_group e.size) near) e.cursor ∷ held_by left es)
      (take_at cs ds (count_of e.size) same) (drop_at cs ds (count_of e.size) same)

  -- the changes of all steps are the whole list
  pub flat-held : (cs : List C) (es : List Entry) → counts_of es ≡ length cs → flat (held_by cs es) ≡ cs
  flat-held [] [] all = refl
  flat-held (c ∷ cs) [] all = absurd (omega arith)
  flat-held cs (e ∷ es) all =
      let n = count_of e.size in
      let rest : counts_of es ≡ length (drop n cs) = omega (arith, all, counts-cons e es, length-drop n cs) in
      flat_map-cons (λ (h : Held C). parts_in h.parts) (held (parts_of (is_group e.size) (take n cs)) e.cursor) (held_by (drop n cs) es)
      ∙ (ap₂ (λ (l m : List C). l ++ m) (parts_in-parts_of (is_group e.size) (take n cs)) (flat-held (drop n cs) es rest)
      ∙ take-append-drop n cs)

  -- the same of lists that end with the nearest
  pub flat-held_in : (cs : List C) (es : List Entry) → HaveAll cs es → flat (held_in cs es) ≡ reverse cs
  flat-held_in cs es all =
      flat-held (reverse cs) (reverse es) (counts-reverse es ∙ (all ∙ sym (length-reverse cs)))

  pub length-held_in : (cs : List C) (es : List Entry) → length (held_in cs es) ≡ length es
  length-held_in cs es = length-held (reverse cs) (reverse es) ∙ length-reverse es

  -- the nearest step of such lists apart
  pub held_in-nearest : (cs : List C) (es left : List Entry) (e : Entry) (near rest : List C) → es ≡ left ++ e ∷ []
      → reverse cs ≡ near ++ rest → length near ≡ count_of e.size
      → held_in cs es ≡ held (parts_of (is_group e.size) near) e.cursor ∷ held_by rest (reverse left)
  held_in-nearest cs es left e near rest entries changes same =
      ap₂ (λ (l : List C) (m : List Entry). held_by l m) changes (reverse-push es left e entries)
      ∙ held_by-cons near rest e (reverse left) same

  -- without the nearest step the entries have all the changes that are left, and with it all
  pub whole_left : (cs left : List C) (es some : List Entry) (e : Entry) → es ≡ some ++ e ∷ []
      → length left + count_of e.size ≡ length cs → HaveAll cs es → HaveAll left some
  whole_left cs left es some e parts fewer all =
      omega (arith, fewer, all, ap counts_of parts ∙ sum_by_push (λ (x : Entry). count_of x.size) some e)

  pub whole_more : (cs more : List C) (es most : List Entry) (e : Entry) → most ≡ es ++ e ∷ []
      → length more ≡ length cs + count_of e.size → HaveAll cs es → HaveAll more most
  whole_more cs more es most e parts longer all =
      omega (arith, longer, all, ap counts_of parts ∙ sum_by_push (λ (x : Entry). count_of x.size) es e)

-- what is no group is one change
pub one_alone : (size : Size) → is_group size ≡ false → count_of size ≡ 1
one_alone size.Alone single = refl
one_alone (size.Group n) single = cc

module _ {C : Type 0} where
  pub length-shown : (b : Bool) (cs : List C) (es : List Entry) → length (shown_in b cs es) ≡ length es
  length-shown true cs es = length-reverse (held_in cs es) ∙ length-held_in cs es
  length-shown false cs es = length-held_in cs es

  -- of steps shown from the oldest the first
  pub shown_oldest : (cs near left : List C) (es rest : List Entry) (e : Entry) (s : shown.Step C)
      → es ≡ e ∷ rest → cs ≡ near ++ left → length near ≡ count_of e.size → HaveAll cs es
      → s.changes.now ≡ near → s.is_group ≡ is_group e.size → s.cursor ≡ e.cursor
      → shown_in true cs es ≡ held_of s ∷ shown_in true left rest
  shown_oldest cs near left es rest e s entries parts same all changes group cursor =
      let first : List (Held C) = held (parts_of (is_group e.size) (reverse near)) e.cursor ∷ [] in
      let whole : counts_of (reverse rest) ≡ length (reverse left) =
      omega (arith, all, same, ap length parts, length-append near left, ap counts_of entries, counts-cons e rest, counts-reverse rest, length-reverse left) in
      let alone : held_by (reverse near) (e ∷ []) ≡ first =
      ap (λ (l : List C). held_by l (e ∷ [])) (sym (append-nil (reverse near)))
      ∙ held_by-cons (reverse near) [] e [] (length-reverse near ∙ same) in
      let apart : held_in cs es ≡ held_in left rest ++ first =
      ap₂ (λ (l : List C) (m : List Entry). held_by (reverse l) (reverse m)) parts entries
      ∙ (ap₂ (λ (l : List C) (m : List Entry). held_by l m) (reverse-append near left) (reverse-append (e ∷ []) rest)
      ∙ (held_by-append (reverse left) (reverse near) (reverse rest) (e ∷ []) whole
      ∙ ap (λ (l : List (Held C)). held_in left rest ++ l) alone)) in
      let told : held_of s ≡ held (parts_of (is_group e.size) (reverse near)) e.cursor = rw (changes, group, cursor) refl in
      reverse-push (held_in cs es) (held_in left rest) (held (parts_of (is_group e.size) (reverse near)) e.cursor) apart
      ∙ ap (λ (h : Held C). h ∷ reverse (held_in left rest)) (sym told)

  -- of steps shown from the nearest the first
  pub shown_nearest : (cs near left : List C) (es rest : List Entry) (e : Entry) (s : shown.Step C)
      → es ≡ rest ++ e ∷ [] → cs ≡ left ++ near → length near ≡ count_of e.size
      → s.changes.now ≡ near → s.is_group ≡ is_group e.size → s.cursor ≡ e.cursor
      → shown_in false cs es ≡ held_of s ∷ shown_in false left rest
  shown_nearest cs near left es rest e s entries parts same changes group cursor =
      let told : held_of s ≡ held (parts_of (is_group e.size) (reverse near)) e.cursor = rw (changes, group, cursor) refl in
      held_in-nearest cs es rest e (reverse near) (reverse left) entries (ap reverse parts ∙ reverse-append left near) (length-reverse near ∙ same)
      ∙ ap (λ (h : Held C). h ∷ held_in left rest) (sym told)

  -- of steps shown from one end the first
  pub shown_next : (b : Bool) (cs near left : List C) (es rest : List Entry) (e : Entry) (s : shown.Step C)
      → es ≡ with_end b (e ∷ []) rest → cs ≡ with_end b near left → length near ≡ count_of e.size → HaveAll cs es
      → s.changes.now ≡ near → s.is_group ≡ is_group e.size → s.cursor ≡ e.cursor
      → shown_in b cs es ≡ held_of s ∷ shown_in b left rest
  shown_next true cs near left es rest e s entries parts same all changes group cursor =
      shown_oldest cs near left es rest e s entries parts same all changes group cursor
  shown_next false cs near left es rest e s entries parts same all changes group cursor =
      shown_nearest cs near left es rest e s entries parts same changes group cursor

  -- a change alone is the nearest of all
  pub flat-cons : (c : C) (n : ℕ) (hs : List (Held C)) → flat (held (Alone c) n ∷ hs) ≡ c ∷ flat hs
  flat-cons c n hs = flat_map-cons (λ (h : Held C). parts_in h.parts) (held (Alone c) n) hs
