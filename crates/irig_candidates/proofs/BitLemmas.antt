-- Bits of a time, by what is kept of each element.
use Rattle.std.proofs.Common.{◌≡◌, ℕ, ◌+◌, ◌/◌, ◌%◌, ◌<◌, ◌≤◌, ◌==◌, ◌&&◌, ◌||◌, nat_lt, Bool, true, false, cond, List, [], ◌∷◌, ◌⊎◌, refl, sym, ap, ◌∙◌, arith, inl, inr}
use Rattle.std.proofs.Common.{Option, Some, None, is_some, unwrap_or}
use Rattle.std.specs.List.{list_any}
use Rattle.std.proofs.Math.Nat.{zero-div}
use Rattle.std.proofs.lemmas.{Bool.false≢true, Bool.Decides.leb_tells, Bool.Decides.nat_tests}
use Rattle.irig_codes.specs.{Encoding.bit_of, Encoding.sets, Encoding.unit_of, Fields.number_in, Fields.part, Format.FormatView, Format.has_control, Format.has_year}
use Rattle.irig_codes.specs.{Layout.decimal, Layout.control, Layout.rows_of, Reading.fields_read, Runs.Row as CodeRow, declared.fields.Fields.Fields}
use Rattle.irig_codes.specs.declared.note.Name.TheVariants.{Year}
use Rattle.irig_candidates.specs.declared.row.Field.{Field}
use Rattle.irig_candidates.specs.declared.row.Field.TheVariants.{Hundredths, Seconds, Minutes, Hours, Days, Sbs}
use Rattle.irig_candidates.specs.declared.row.Row.{Row}
use Rattle.irig_candidates.specs.{Bits.carries, Bits.is_bit, Bits.is_one, Bits.is_one_in, Bits.price, Bits.value_price, Times.fields_at, declared.bit.Bit.Bit}
use Rattle.irig_candidates.specs.Rows.{alone, carried_at, field_of, first_row, row_at, row_in, same}
use Rattle.irig_candidates.proofs.RowLemmas.{any-at, any-weights, weights_of, weights-carried}

-- a test of what is kept of an element
abbrev pub says : (Field → ℕ → Bool) → Option Row → Bool
says p None = false
says p (Some r) = p r.field r.weight

-- the same field by field
abbrev each : (Field → ℕ → Bool) → Option Row → Field → Bool
each p o x = list_any (p x) (weights_of o x)

one : (p : Bool) → (p || false) ≡ p
one true = refl
one false = refl

or-six : (p : Field → ℕ → Bool) (x : Field) (w : ℕ) → (let o = Some (record { field = x; weight = w }) in
    each p o Hundredths || (each p o Seconds || (each p o Minutes || (each p o Hours || (each p o Days || (each p o Sbs || false)))))) ≡ p x w
or-six p Hundredths w = elim (p Hundredths w) as (λ b. ((b || false) || false) ≡ b) [ true ↦ refl | false ↦ refl ]
or-six p Seconds w = elim (p Seconds w) as (λ b. ((b || false) || false) ≡ b) [ true ↦ refl | false ↦ refl ]
or-six p Minutes w = elim (p Minutes w) as (λ b. ((b || false) || false) ≡ b) [ true ↦ refl | false ↦ refl ]
or-six p Hours w = elim (p Hours w) as (λ b. ((b || false) || false) ≡ b) [ true ↦ refl | false ↦ refl ]
or-six p Days w = elim (p Days w) as (λ b. ((b || false) || false) ≡ b) [ true ↦ refl | false ↦ refl ]
or-six p Sbs w = elim (p Sbs w) as (λ b. ((b || false) || false) ≡ b) [ true ↦ refl | false ↦ refl ]

or-each : (p : Field → ℕ → Bool) (o : Option Row)
    → (each p o Hundredths || (each p o Seconds || (each p o Minutes || (each p o Hours || (each p o Days || (each p o Sbs || false)))))) ≡ says p o
or-each p None = refl
or-each p (Some r) = or-six p r.field r.weight

-- an `or` of equal parts
or-same : (a a' b b' c c' d d' e e' f f' : Bool) → a ≡ a' → b ≡ b' → c ≡ c' → d ≡ d' → e ≡ e' → f ≡ f'
    → (a || (b || (c || (d || (e || (f || false)))))) ≡ (a' || (b' || (c' || (d' || (e' || (f' || false))))))
or-same a a' b b' c c' d d' e e' f f' e1 e2 e3 e4 e5 e6 =
    ap (λ x. x || (b || (c || (d || (e || (f || false)))))) e1 ∙ ap (λ x. a' || (x || (c || (d || (e || (f || false)))))) e2
    ∙ ap (λ x. a' || (b' || (x || (d || (e || (f || false)))))) e3 ∙ ap (λ x. a' || (b' || (c' || (x || (e || (f || false)))))) e4
    ∙ ap (λ x. a' || (b' || (c' || (d' || (x || (f || false)))))) e5 ∙ ap (λ x. a' || (b' || (c' || (d' || (e' || (x || false)))))) e6

-- an element carries a field, if it is kept with it
carries-at : (f : FormatView) (e : ℕ) (x : Field) → list_any (λ r. r.element == e) (rows_of f (field_of x)) ≡ each (λ _ _. true) (carried_at f e) x
carries-at f e x = any-at e (rows_of f (field_of x)) ∙ ap (list_any (λ _. true)) (weights-carried f e x)

pub is_bit-carried : (f : FormatView) (e : ℕ) → is_some (carried_at f e) ≡ is_bit f e
unfolding is_bit carries
is_bit-carried f e =
    sym (or-same _ _ _ _ _ _ _ _ _ _ _ _ (carries-at f e Hundredths) (carries-at f e Seconds) (carries-at f e Minutes) (carries-at f e Hours)
    (carries-at f e Days) (carries-at f e Sbs) ∙ or-each (λ _ _. true) (carried_at f e) ∙ some (carried_at f e)) where
      some : (o : Option Row) → says (λ _ _. true) o ≡ is_some o
      some None = refl
      some (Some r) = refl

-- whether a bit of a field is a one, if the field has a value
abbrev pub bit_in : (Field → ℕ) → Field → ℕ → Bool
bit_in value x w = bit_of (field_of x) w (value x) == 1

abbrev bits_of : FormatView → ℕ → (Field → ℕ) → Field → Bool
bits_of f e value x = list_any (λ r. (r.element == e) && (bit_of (field_of x) r.weight (value x) == 1)) (rows_of f (field_of x))

bits-at : (f : FormatView) (e : ℕ) (value : Field → ℕ) (x : Field) → bits_of f e value x ≡ each (bit_in value) (carried_at f e) x
bits-at f e value x = any-weights (bit_in value x) e (rows_of f (field_of x)) ∙ ap (list_any (bit_in value x)) (weights-carried f e x)

-- a field that is 0 has no ones
no-year : (g : Fields) (e : ℕ) (rs : List CodeRow) → number_in g (decimal Year) ≡ 0 → list_any (sets g (decimal Year) e) rs ≡ false
no-year g e [] h = refl
no-year g e (r ∷ rs) h =
    ap (λ v. ((r.element == e) && (v / unit_of r.weight % 10 / (r.weight / unit_of r.weight) % 2 == 1)) || list_any (sets g (decimal Year) e) rs) h
    ∙ ap (λ v. ((r.element == e) && (v % 10 / (r.weight / unit_of r.weight) % 2 == 1)) || list_any (sets g (decimal Year) e) rs) (zero-div (unit_of r.weight))
    ∙ ap (λ v. ((r.element == e) && (v % 2 == 1)) || list_any (sets g (decimal Year) e) rs) (zero-div (r.weight / unit_of r.weight))
    ∙ elim (r.element == e) as (λ b. ((b && false) || list_any (sets g (decimal Year) e) rs) ≡ false) [ true ↦ no-year g e rs h | false ↦ no-year g e rs h ]

no-control : (g : Fields) (e : ℕ) (rs : List CodeRow) → number_in g control ≡ 0 → list_any (sets g control e) rs ≡ false
no-control g e [] h = refl
no-control g e (r ∷ rs) h =
    ap (λ v. ((r.element == e) && (v / r.weight % 2 == 1)) || list_any (sets g control e) rs) h
    ∙ ap (λ v. ((r.element == e) && (v % 2 == 1)) || list_any (sets g control e) rs) (zero-div r.weight)
    ∙ elim (r.element == e) as (λ b. ((b && false) || list_any (sets g control e) rs) ≡ false) [ true ↦ no-control g e rs h | false ↦ no-control g e rs h ]

no-part : (b : Bool) → unwrap_or (part b 0) 0 ≡ 0
no-part true = refl
no-part false = refl

-- year and control functions left out
or-eight : (a b c d e y s z : Bool) → y ≡ false → z ≡ false
    → (a || (b || (c || (d || (e || (y || (s || (z || false)))))))) ≡ (a || (b || (c || (d || (e || (s || false))))))
or-eight a b c d e y s z h k =
    ap (λ x. a || (b || (c || (d || (e || (x || (s || (z || false)))))))) h ∙ ap (λ x. a || (b || (c || (d || (e || (s || (x || false))))))) k

-- the value of a field in the frame of a time
abbrev pub value_at : FormatView → ℕ → Field → ℕ
value_at f t x = number_in (fields_at f t) (field_of x)

pub is_one-carried : (f : FormatView) (t e : ℕ) → says (bit_in (value_at f t)) (carried_at f e) ≡ is_one f t e
unfolding is_one
is_one-carried f t e =
    let g = fields_at f t in
    let at = bits-at f e (value_at f t) in
    let own = bits_of f e (value_at f t) in
    sym (or-eight (own Hundredths) (own Seconds) (own Minutes) (own Hours) (own Days) (list_any (sets g (decimal Year) e) (rows_of f (decimal Year))) (own Sbs)
    (list_any (sets g control e) (rows_of f control)) (no-year g e (rows_of f (decimal Year)) (no-part (has_year f.expression)))
    (no-control g e (rows_of f control) (no-part (has_control f.expression)))
    ∙ or-same _ _ _ _ _ _ _ _ _ _ _ _ (at Hundredths) (at Seconds) (at Minutes) (at Hours) (at Days) (at Sbs)
    ∙ or-each (bit_in (value_at f t)) (carried_at f e))

-- a field of a value in an element
pub carries-kept : (f : FormatView) (x : Field) (e : ℕ) (r : Row) → Some r ≡ carried_at f e → same r.field x ≡ carries f (field_of x) e
unfolding carries
carries-kept f x e r k = sym (carries-at f e x ∙ ap (λ o. each (λ _ _. true) o x) (sym k) ∙ once (same r.field x)) where
  once : (b : Bool) → list_any (λ _. true) (cond b (r.weight ∷ []) []) ≡ b
  once true = refl
  once false = refl

pub carries-none : (f : FormatView) (x : Field) (e : ℕ) → None ≡ carried_at f e → false ≡ carries f (field_of x) e
unfolding carries
carries-none f x e k = sym (carries-at f e x ∙ ap (λ o. each (λ _ _. true) o x) (sym k))

same-field : (a b : Field) → same a b ≡ true → a ≡ b
same-field Hundredths Hundredths h = refl
same-field Seconds Seconds h = refl
same-field Minutes Minutes h = refl
same-field Hours Hours h = refl
same-field Days Days h = refl
same-field Sbs Sbs h = refl
same-field a b h = absurd (false≢true h)

pub is_one_in-kept : (f : FormatView) (x : Field) (v e : ℕ) (r : Row) → Some r ≡ carried_at f e → same r.field x ≡ true
    → (bit_of (field_of r.field) r.weight v == 1) ≡ is_one_in f (field_of x) v e
unfolding is_one_in
is_one_in-kept f x v e r k h =
    ap (λ y. bit_of (field_of y) r.weight v == 1) (same-field r.field x h)
    ∙ sym (bits-at f e (λ _. v) x ∙ ap (λ o. each (bit_in (λ _. v)) o x) (sym k)
    ∙ ap (λ b. list_any (bit_in (λ _. v) x) (cond b (r.weight ∷ []) [])) h ∙ one (bit_of (field_of x) r.weight v == 1))

-- what is kept has a weight
weight_in : Option Row → ℕ
weight_in None = 0
weight_in (Some r) = r.weight

step : (w : ℕ) (x : Field) (rest : Option Row) (r : Row) → Some r ≡ cond (nat_lt 0 w) (Some (record { field = x; weight = w })) rest
    → (Some r ≡ rest → 0 < r.weight) → 0 < r.weight
unfolding weight_in
step w x rest r e k = elim (leb_tells 1 w) [
  | inl h ↦ let q : r.weight ≡ w = ap weight_in (e ∙ ap (λ b. cond b (Some (record { field = x; weight = w })) rest) h.0) in omega (arith, q, h.1)
  | inr h ↦ k (e ∙ ap (λ b. cond b (Some (record { field = x; weight = w })) rest) h.0)
]

pub first-positive : (c s m h d b : ℕ) (r : Row) → Some r ≡ first_row c s m h d b → 0 < r.weight
first-positive c s m h d b r e =
    step c Hundredths _ r e (λ e. step s Seconds _ r e (λ e. step m Minutes _ r e (λ e. step h Hours _ r e
    (λ e. step d Days _ r e (λ e. step b Sbs _ r e (λ e. cc))))))

in-positive : (g : Fields) (r : Row) → Some r ≡ row_in g → 0 < r.weight
in-positive g r e = first-positive (unwrap_or g.hundredths 0) g.seconds g.minutes g.hours g.days (unwrap_or g.sbs 0) r e

pub kept-positive : (f : FormatView) (e : ℕ) (r : Row) → Some r ≡ carried_at f e → 0 < r.weight
unfolding row_at
kept-positive f e r k = elim (leb_tells (e + 1) 100) [
  | inl h ↦ in-positive (fields_read f (alone e)) r (k ∙ ap (λ b. cond b (row_at f e) None) (yes e (omega (arith, h.1))))
  | inr h ↦ none (k ∙ ap (λ b. cond b (row_at f e) None) (no e (omega (arith, h.1))))
] where
  yes : (e : ℕ) → e < 100 → nat_lt e 100 ≡ true
  yes e h = grind (arith, nat_tests)

  no : (e : ℕ) → 100 ≤ e → nat_lt e 100 ≡ false
  no e h = grind (arith, nat_tests)

  none : Some r ≡ None → 0 < r.weight
  none e = cc

-- what a bit costs in a field, by what is kept of its element
pub kept-price : (f : FormatView) (x : Field) (v : ℕ) (b : Bit) (r : Row) → Some r ≡ carried_at f b.element
    → cond (same r.field x) (price b (bit_of (field_of r.field) r.weight v == 1)) 0 ≡ value_price f (field_of x) v b
kept-price f x v b r k = elim (true_or_false (same r.field x)) [
  | inl so ↦ ap (λ t. cond t (price b (bit_of (field_of r.field) r.weight v == 1)) 0) so
      ∙ ap (price b) (is_one_in-kept f x v b.element r k so)
      ∙ ap (λ t. cond t (price b (is_one_in f (field_of x) v b.element)) 0) (sym so ∙ carries-kept f x b.element r k)
  | inr other ↦ ap (λ t. cond t (price b (bit_of (field_of r.field) r.weight v == 1)) 0) other
      ∙ ap (λ t. cond t (price b (is_one_in f (field_of x) v b.element)) 0) (sym other ∙ carries-kept f x b.element r k)
] where
  true_or_false : (t : Bool) → (t ≡ true) ⊎ (t ≡ false)
  true_or_false true = inl refl
  true_or_false false = inr refl
