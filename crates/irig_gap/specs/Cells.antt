-- What the row of places of a block owns and lends, at items of the row R. This project's own.
use Rattle.std.specs.Prelude.{◌≡◌, ℕ, ◌+◌, ◌*◌, ◌^◌, ◌≤◌, ◌⊎◌, List, [], ◌∷◌, ◌++◌, length, take}
use Rattle.std.specs.Prelude.{drop, replicate, map, get_or, Option, Some, None}
use Rattle.std.specs.Mem.{type_size}
use base.Fraction.{full_share}
use base.Fml.{Lft, Fml, ftrue, ffalse, fsep, flt, froom}
use mir.Raw.{raw}
use mir.Syntax.{Ty, ty_array}
use denote.RattleType.{RattleType}
use denote.Memory.{lone, part_at, shared_of}
use denote.Sharing.{nothing, said, beside}
use denote.RawPtr.{Ptr, block_ptr, null_ptr}

-- two runs of n places have none in common
abbrev pub AreApart : ℕ → ℕ → ℕ → Type 0
AreApart from to n = (from + n ≤ to) ⊎ (to + n ≤ from)

module _ {X : Type 0} where
  -- the place at the index holds an item
  abbrev pub IsFull : List (Option X) → ℕ → Type 0
  IsFull cs i = (x : X) × (get_or cs i None ≡ Some x)

  -- the n places from the index from on hold items
  abbrev pub IsRun : List (Option X) → ℕ → ℕ → Type 0
  IsRun cs from n = (xs : List X) × (take n (drop from cs) ≡ map Some xs)

  -- the places with others instead of those from the index on
  abbrev pub laid : List (Option X) → ℕ → List (Option X) → List (Option X)
  laid cs at ps = take at cs ++ (ps ++ drop (at + length ps) cs)

  -- the n items from one index on are taken out of their places and are from another index on
  abbrev pub moved : List (Option X) → ℕ → ℕ → ℕ → List (Option X)
  moved cs from to n = laid (laid cs from (replicate n None)) to (take n (drop from cs))

module _ (R : RattleType) where
  -- a full place owns its item, and an empty one no more than its memory, whatever it holds
  abbrev pub place : ℕ → ℕ → Option R.Denot → Fml
  place b o None = froom (raw (lone R.mir)) b o
  place b o (Some x) = part_at R full_share x b o

  -- places side by side, from the offset o on
  abbrev pub row : ℕ → ℕ → List (Option R.Denot) → Fml
  row b o [] = ftrue
  row b o (c ∷ cs) = fsep (place b o c) (row b (o + type_size R) cs)

  -- the bytes of the row are few enough for a block
  abbrev pub short : List (Option R.Denot) → Fml
  short cs = flt (length cs * type_size R) (2 ^ 63)

  abbrev pub cells_own : Ptr → List (Option R.Denot) → Fml
  cells_own (block_ptr b o) cs = fsep (short cs) (row b o cs)
  cells_own null_ptr cs = ffalse

  -- a `&` to the row holds a `&` to each item in it
  abbrev pub place_lent : ℕ → ℕ → Option R.Denot → Lft → Fml
  place_lent b o None = nothing
  place_lent b o (Some x) = shared_of R x b o

  abbrev pub row_lent : ℕ → ℕ → List (Option R.Denot) → Lft → Fml
  row_lent b o [] = nothing
  row_lent b o (c ∷ cs) = beside (place_lent b o c) (row_lent b (o + type_size R) cs)

  abbrev pub cells_lent : Ptr → List (Option R.Denot) → Lft → Fml
  cells_lent (block_ptr b o) cs = beside (said (short cs)) (row_lent b o cs)
  cells_lent null_ptr cs = said ffalse

  -- the right to give a block of n places back
  abbrev pub deed_owns : (Ty → Ptr → Fml) → Ptr → ℕ → Fml
  deed_owns token p n = token (raw (ty_array (lone R.mir) n)) p
