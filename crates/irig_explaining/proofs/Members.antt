-- Which nodes are in a list.
use Rattle.std.proofs.Common.{◌≡◌, ℕ, List, length, slice_get, Some, sym, subst, refl}
use Rattle.std.specs.List.{Contains}
use Rattle.std.proofs.lemmas.Option.{slice_get_within, slice_get_read, get_or_from_slice_get}
use Rattle.std.proofs.lemmas.List.Elements.{Contains-get_or}
use Rattle.irig_explaining.specs.declared.nodes.Node.{Node}

-- what is read past the end of the table
abbrev pub no_node : Node
no_node = record { cost = 0; rise = 0; element = 0 }

pub contains_at : (xs : List Node) (u : ℕ) (m : Node) → slice_get xs u ≡ Some m → Contains xs m
contains_at xs u m at = subst (Contains xs) (get_or_from_slice_get xs u m no_node at) (Contains-get_or xs u no_node (slice_get_within xs u m at))

pub at_contains : (xs : List Node) (m : Node) → Contains xs m → (u : ℕ) × (slice_get xs u ≡ Some m)
at_contains xs m c = (c.0, slice_get_read xs (length xs) c.0 m refl c.1 (sym c.2))
