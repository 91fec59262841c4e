-- What an element carries, by the table of irig_codes.
use Rattle.std.proofs.Common.{◌≡◌, ℕ, zero, suc, ◌+◌, ◌<◌, ◌≤◌, ◌==◌, ◌&&◌, ◌||◌, nat_lt, Bool, true, false, cond, List, [], ◌∷◌, ◌++◌, map, get_or, set, take, replicate}
use Rattle.std.proofs.Common.{length, refl, sym, ap, ◌∙◌, arith, inl, inr, Option, Some, None, unwrap_or, get_or-set_same, get_or-set_other}
use Rattle.std.specs.List.{list_any, list_all, range_with_len}
use Rattle.std.proofs.Math.Seq.{take-suc-set}
use Rattle.std.proofs.lemmas.Bool.Decides.{eqb_tells, leb_tells, nat_tests}
use Rattle.std.proofs.lemmas.{Bool.and_parts, Bool.ltb-true, List.FromFn.get_or-map-range_with_len, List.FromFn.map-range_with_len_more, List.length-replicate, List.take_all}
use Rattle.irig_codes.specs.declared.format.Kind.TheVariants.{A, B, E, G}
use Rattle.irig_codes.specs.declared.width.Element.TheVariants.{Zero, One}
use Rattle.irig_codes.specs.Format.{FormatView, carries_sbs, has_control, has_hundredths, has_sbs, has_year}
use Rattle.irig_codes.specs.{declared.format.Kind.Kind, declared.width.Element.Element, Fields.part}
use Rattle.irig_codes.specs.{Layout.table, Layout.rows_of, Reading.is_one, Reading.sum_of, Reading.counts, Runs.Row as CodeRow}
use Rattle.irig_candidates.specs.declared.row.Field.{Field}
use Rattle.irig_candidates.specs.declared.row.Field.TheVariants.{Hundredths, Seconds, Minutes, Hours, Days, Sbs}
use Rattle.irig_candidates.specs.declared.row.Row.{Row}
use Rattle.irig_candidates.specs.Rows.{alone, carried_at, field_of, first_row, row_at, rows_of_code, same}

-- the weights of the rows at an element
abbrev pub weights_at : ℕ → List CodeRow → List ℕ
weights_at e [] = []
weights_at e (r ∷ rs) = cond (r.element == e) (r.weight ∷ weights_at e rs) (weights_at e rs)

abbrev pub total : List ℕ → ℕ
total [] = 0
total (w ∷ ws) = w + total ws

-- the same by what the element carries
abbrev pub weights_of : Option Row → Field → List ℕ
weights_of None x = []
weights_of (Some r) x = cond (same r.field x) (r.weight ∷ []) []

-- a test of rows at an element is one of their weights
pub any-weights : (p : ℕ → Bool) (e : ℕ) (rs : List CodeRow) → list_any (λ r. (r.element == e) && p r.weight) rs ≡ list_any p (weights_at e rs)
any-weights p e [] = refl
any-weights p e (r ∷ rs) = elim (r.element == e) as (λ b. ((b && p r.weight) || list_any (λ r. (r.element == e) && p r.weight) rs)
    ≡ list_any p (cond b (r.weight ∷ weights_at e rs) (weights_at e rs)))
    [ true ↦ ap (λ x. p r.weight || x) (any-weights p e rs) | false ↦ any-weights p e rs ]

pub any-at : (e : ℕ) (rs : List CodeRow) → list_any (λ r. r.element == e) rs ≡ list_any (λ _. true) (weights_at e rs)
any-at e [] = refl
any-at e (r ∷ rs) = elim (r.element == e) as (λ b. (b || list_any (λ r. r.element == e) rs)
    ≡ list_any (λ _. true) (cond b (r.weight ∷ weights_at e rs) (weights_at e rs))) [ true ↦ refl | false ↦ any-at e rs ]

-- the frame in which one element alone is One
zeros : (n i : ℕ) → get_or (replicate n Zero) i Zero ≡ Zero
zeros zero i = refl
zeros (suc n) zero = refl
zeros (suc n) (suc i) = zeros n i

alone-is : (e i : ℕ) → e < 100 → is_one (alone e) i ≡ (i == e)
alone-is e i h = elim (eqb_tells i e) [
  | inl k ↦ ap (λ j. counts (get_or (alone e) j Zero)) k.1
      ∙ ap counts (get_or-set_same (replicate 100 Zero) e One Zero (omega (arith, length-replicate 100 Zero))) ∙ sym k.0
  | inr k ↦ ap counts (get_or-set_other (replicate 100 Zero) e i One Zero k.1 ∙ zeros 100 i) ∙ sym k.0
]

alone-sum : (e : ℕ) (rs : List CodeRow) → e < 100 → sum_of (alone e) rs ≡ total (weights_at e rs)
alone-sum e [] h = refl
alone-sum e (r ∷ rs) h =
    ap (λ b. cond b r.weight 0 + sum_of (alone e) rs) (alone-is e r.element h)
    ∙ ap (λ n. cond (r.element == e) r.weight 0 + n) (alone-sum e rs h)
    ∙ elim (r.element == e) as (λ b. cond b r.weight 0 + total (weights_at e rs) ≡ total (cond b (r.weight ∷ weights_at e rs) (weights_at e rs)))
    [ true ↦ refl | false ↦ omega arith ]

-- what an element carries, by sums of weights
abbrev sum_at : Kind → Bool → Bool → Bool → Field → ℕ → ℕ
sum_at k c s y x e = total (weights_at e (table k c s y (field_of x)))

abbrev row_by : Kind → Bool → Bool → Bool → ℕ → Option Row
row_by k c s y e =
    first_row (sum_at k c s y Hundredths e) (sum_at k c s y Seconds e) (sum_at k c s y Minutes e)
    (sum_at k c s y Hours e) (sum_at k c s y Days e) (sum_at k c s y Sbs e)

-- the fields of the time
abbrev six : List Field
six = Hundredths ∷ Seconds ∷ Minutes ∷ Hours ∷ Days ∷ Sbs ∷ []

abbrev table_weights : Kind → Bool → Bool → Bool → ℕ → List (List ℕ)
table_weights k c s y e = map (λ x. weights_at e (table k c s y (field_of x))) six

abbrev row_weights : Kind → Bool → Bool → Bool → ℕ → List (List ℕ)
row_weights k c s y e = map (weights_of (row_by k c s y e)) six

-- each element carries one field at most: computed for all elements of all formats
computed : (k : Kind) (c s y : Bool) → map (table_weights k c s y) (range_with_len 0 100) ≡ map (row_weights k c s y) (range_with_len 0 100)
computed A c true y = refl
computed A c false y = refl
computed B c true y = refl
computed B c false y = refl
computed E c true y = refl
computed E c false y = refl
computed G c true y = refl
computed G c false y = refl

at-field : (g h : Field → List ℕ) (x : Field) → map g six ≡ map h six → g x ≡ h x
at-field g h Hundredths e = ap (λ l. get_or l 0 []) e
at-field g h Seconds e = ap (λ l. get_or l 1 []) e
at-field g h Minutes e = ap (λ l. get_or l 2 []) e
at-field g h Hours e = ap (λ l. get_or l 3 []) e
at-field g h Days e = ap (λ l. get_or l 4 []) e
at-field g h Sbs e = ap (λ l. get_or l 5 []) e

weights-by : (k : Kind) (c s y : Bool) (e : ℕ) (x : Field) → e < 100 → weights_at e (table k c s y (field_of x)) ≡ weights_of (row_by k c s y e) x
weights-by k c s y e x h =
    let own : 0 + e ≡ e = omega arith in
    at-field (λ x. weights_at e (table k c s y (field_of x))) (weights_of (row_by k c s y e)) x
    (sym (get_or-map-range_with_len (table_weights k c s y) 0 100 e e [] h own) ∙ ap (λ l. get_or l e []) (computed k c s y)
    ∙ get_or-map-range_with_len (row_weights k c s y) 0 100 e e [] h own)

-- a field that a format does not have carries nothing
hundredths-read : (k : Kind) (c s y : Bool) (es : List Element) → unwrap_or (part (has_hundredths k) (sum_of es (table k c s y (field_of Hundredths)))) 0
    ≡ sum_of es (table k c s y (field_of Hundredths))
hundredths-read A c s y es = refl
hundredths-read B c s y es = refl
hundredths-read E c s y es = refl
hundredths-read G c s y es = refl

sbs-read : (k : Kind) (n : ℕ) (c y : Bool) (es : List Element) → unwrap_or (part (carries_sbs k n) (sum_of es (table k c (has_sbs n) y (field_of Sbs)))) 0
    ≡ sum_of es (table k c (has_sbs n) y (field_of Sbs))
sbs-read A n c y es = elim (has_sbs n) as (λ b. unwrap_or (part b (sum_of es (table A c b y (field_of Sbs)))) 0 ≡ sum_of es (table A c b y (field_of Sbs)))
    [ true ↦ refl | false ↦ refl ]
sbs-read B n c y es = elim (has_sbs n) as (λ b. unwrap_or (part b (sum_of es (table B c b y (field_of Sbs)))) 0 ≡ sum_of es (table B c b y (field_of Sbs)))
    [ true ↦ refl | false ↦ refl ]
sbs-read E n c y es = elim (has_sbs n) as (λ b. 0 ≡ sum_of es (table E c b y (field_of Sbs))) [ true ↦ refl | false ↦ refl ]
sbs-read G n c y es = elim (has_sbs n) as (λ b. 0 ≡ sum_of es (table G c b y (field_of Sbs))) [ true ↦ refl | false ↦ refl ]

-- first_row of equal numbers
same-first : (c c' s s' m m' h h' d d' b b' : ℕ) → c ≡ c' → s ≡ s' → m ≡ m' → h ≡ h' → d ≡ d' → b ≡ b' → first_row c s m h d b ≡ first_row c' s' m' h' d' b'
same-first c c' s s' m m' h h' d d' b b' e1 e2 e3 e4 e5 e6 =
    ap (λ n. first_row n s m h d b) e1 ∙ ap (λ n. first_row c' n m h d b) e2 ∙ ap (λ n. first_row c' s' n h d b) e3
    ∙ ap (λ n. first_row c' s' m' n d b) e4 ∙ ap (λ n. first_row c' s' m' h' n b) e5 ∙ ap (λ n. first_row c' s' m' h' d' n) e6

row-by : (f : FormatView) (e : ℕ) → e < 100 → row_at f e ≡ row_by f.kind (has_control f.expression) (has_sbs f.expression) (has_year f.expression) e
unfolding row_at
row-by f e h =
    let k = f.kind in
    let c = has_control f.expression in
    let s = has_sbs f.expression in
    let y = has_year f.expression in
    same-first _ _ _ _ _ _ _ _ _ _ _ _
    (hundredths-read k c s y (alone e) ∙ alone-sum e (table k c s y (field_of Hundredths)) h)
    (alone-sum e (table k c s y (field_of Seconds)) h) (alone-sum e (table k c s y (field_of Minutes)) h)
    (alone-sum e (table k c s y (field_of Hours)) h) (alone-sum e (table k c s y (field_of Days)) h)
    (sbs-read k f.expression c y (alone e) ∙ alone-sum e (table k c s y (field_of Sbs)) h)

-- no element has a number of 100 or more
abbrev is_below : Kind → Bool → Bool → Bool → Field → Bool
is_below k c s y x = list_all (λ r. nat_lt r.element 100) (table k c s y (field_of x))

below : (k : Kind) (c s y : Bool) → map (is_below k c s y) six ≡ true ∷ true ∷ true ∷ true ∷ true ∷ true ∷ []
below A c true y = refl
below A c false y = refl
below B c true y = refl
below B c false y = refl
below E c true y = refl
below E c false y = refl
below G c true y = refl
below G c false y = refl

below-at : (p : Field → Bool) (x : Field) → map p six ≡ true ∷ true ∷ true ∷ true ∷ true ∷ true ∷ [] → p x ≡ true
below-at p Hundredths e = ap (λ l. get_or l 0 true) e
below-at p Seconds e = ap (λ l. get_or l 1 true) e
below-at p Minutes e = ap (λ l. get_or l 2 true) e
below-at p Hours e = ap (λ l. get_or l 3 true) e
below-at p Days e = ap (λ l. get_or l 4 true) e
below-at p Sbs e = ap (λ l. get_or l 5 true) e

none-past : (e : ℕ) (rs : List CodeRow) → 100 ≤ e → list_all (λ r. nat_lt r.element 100) rs ≡ true → weights_at e rs ≡ []
none-past e [] h k = refl
none-past e (r ∷ rs) h k =
    let parts = and_parts (nat_lt r.element 100) (list_all (λ r. nat_lt r.element 100) rs) k in
    let here : r.element < 100 = ltb-true r.element 100 parts.0 in
    elim (eqb_tells r.element e) [
      | inl is ↦ absurd (omega (arith, is.1, here, h))
      | inr other ↦ ap (λ b. cond b (r.weight ∷ weights_at e rs) (weights_at e rs)) other.0 ∙ none-past e rs h parts.1
    ]

-- the rows of a field at an element are what is kept of the element
pub weights-carried : (f : FormatView) (e : ℕ) (x : Field) → weights_at e (rows_of f (field_of x)) ≡ weights_of (carried_at f e) x
weights-carried f e x =
    let k = f.kind in
    let c = has_control f.expression in
    let s = has_sbs f.expression in
    let y = has_year f.expression in
    elim (leb_tells (e + 1) 100) [
      | inl h ↦ weights-by k c s y e x (omega (arith, h.1)) ∙ ap (λ o. weights_of o x) (sym (row-by f e (omega (arith, h.1))))
          ∙ ap (λ b. weights_of (cond b (row_at f e) None) x) (sym (lt-true e (omega (arith, h.1))))
      | inr h ↦ none-past e (rows_of f (field_of x)) (omega (arith, h.1)) (below-at (is_below k c s y) x (below k c s y))
          ∙ ap (λ b. weights_of (cond b (row_at f e) None) x) (sym (lt-false e (omega (arith, h.1))))
    ] where
      lt-true : (e : ℕ) → e < 100 → nat_lt e 100 ≡ true
      lt-true e h = grind (arith, nat_tests)

      lt-false : (e : ℕ) → 100 ≤ e → nat_lt e 100 ≡ false
      lt-false e h = grind (arith, nat_tests)

-- the kept rows
pub get-rows : (f : FormatView) (e : ℕ) → e < 100 → get_or (rows_of_code f) e None ≡ carried_at f e
unfolding rows_of_code
get-rows f e h =
    let own : 0 + e ≡ e = omega arith in
    let yes : nat_lt e 100 ≡ true = grind (arith, nat_tests) in
    get_or-map-range_with_len (row_at f) 0 100 e e None h own ∙ ap (λ b. cond b (row_at f e) None) (sym yes)

pub past-rows : (f : FormatView) (e : ℕ) → 100 ≤ e → None ≡ carried_at f e
past-rows f e h =
    let no : nat_lt e 100 ≡ false = grind (arith, nat_tests) in
    ap (λ b. cond b (row_at f e) None) (sym no)

-- one element more of the kept rows
pub rows-more : (f : FormatView) (rs : List (Option Row)) (n : ℕ) (v : Option Row) → n < length rs
    → take n rs ≡ map (row_at f) (range_with_len 0 n) → v ≡ row_at f n → take (n + 1) (set rs n v) ≡ map (row_at f) (range_with_len 0 (n + 1))
rows-more f rs n v h e w =
    let next : suc n ≡ n + 1 = omega arith in
    let own : 0 + n ≡ n = omega arith in
    ap (λ j. take j (set rs n v)) (sym next) ∙ take-suc-set rs n v h ∙ ap (λ xs. xs ++ (v ∷ [])) e
    ∙ ap (λ x. map (row_at f) (range_with_len 0 n) ++ (x ∷ [])) w ∙ sym (map-range_with_len_more (row_at f) 0 n n own)

pub rows-end : (f : FormatView) (rs : List (Option Row)) (n : ℕ) → n ≡ 100 → length rs ≡ 100 → take n rs ≡ map (row_at f) (range_with_len 0 n)
    → rs ≡ rows_of_code f
unfolding rows_of_code
rows-end f rs n here long e =
    sym (take_all 100 rs (omega (arith, long))) ∙ ap (λ j. take j rs) (sym here) ∙ e ∙ ap (λ j. map (row_at f) (range_with_len 0 j)) here
