-- The bits of a time, and what a time costs by what its bits look like. After IRIG Standard 200-04
-- (irig_codes has its table); what a bit costs is the caller's.
use Rattle.std.specs.Prelude.{ℕ, ◌==◌, ◌&&◌, Bool, List, [], ◌∷◌, if◌then◌else◌}
use Rattle.std.specs.List.{list_any, sum_by}
use Rattle.irig_codes.specs.declared.note.Name.TheVariants.{Hundredths, Seconds, Minutes, Hours}
use Rattle.irig_codes.specs.declared.note.Name.TheVariants.{Days}
use Rattle.irig_codes.specs.{Format.FormatView, Encoding.bit_of, Encoding.is_set}
use Rattle.irig_codes.specs.Layout.{Field, decimal, sbs, rows_of}
use Rattle.irig_candidates.specs.{Times.fields_at, Times.time_of, declared.bit.Bit.Bit}

-- the fields that say a time
abbrev pub time_fields : List Field
time_fields =
    decimal Hundredths ∷ decimal Seconds ∷ decimal Minutes ∷ decimal Hours ∷ decimal Days ∷ sbs
    ∷ []

-- whether an element carries a field
unfoldable pub carries : FormatView → Field → ℕ → Bool
carries f x e = list_any (λ r. r.element == e) (rows_of f x)

-- whether an element is a bit of the time
unfoldable pub is_bit : FormatView → ℕ → Bool
is_bit f e = list_any (λ x. carries f x e) time_fields

-- whether an element of the frame of a time is a one
unfoldable pub is_one : FormatView → ℕ → ℕ → Bool
is_one f t e = is_set f (fields_at f t) e

-- whether an element is a one that carries a field of a value
unfoldable pub is_one_in : FormatView → Field → ℕ → ℕ → Bool
is_one_in f x v e = list_any (λ r. (r.element == e) && (bit_of x r.weight v == 1)) (rows_of f x)

-- what a bit costs as a one, or as a zero
abbrev pub price : Bit → Bool → ℕ
price b one = if one then b.one else b.zero

-- what a base costs, by bits of its stretch
abbrev pub cost_of : FormatView → ℕ → List Bit → ℕ
cost_of f base bits =
    sum_by (λ b. price b (is_one f (time_of f.kind base b.frame) b.element)) bits

-- what a bit costs that carries a field, if that has a value; 0 for others
abbrev pub value_price : FormatView → Field → ℕ → Bit → ℕ
value_price f x v b =
    if carries f x b.element then price b (is_one_in f x v b.element) else 0

-- what a value of a field costs, by the bits of a frame
abbrev pub value_cost : FormatView → Field → ℕ → List Bit → ℕ
value_cost f x v bits = sum_by (value_price f x v) bits
