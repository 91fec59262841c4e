-- A text of which a part goes on.
use Rattle.std.proofs.Common.{◌≡◌, ◌+◌, ◌++◌, ℕ, List, [], length, ap, sym, ◌∙◌, arith, append_assoc, append-nil, length-append}

module _ (so_far part left rest all : List ℕ) (whole : so_far ++ left ≡ all) (taken : left ≡ part ++ rest) where
  -- one part more
  pub more_text : (so_far ++ part) ++ rest ≡ all
  more_text = append_assoc so_far part rest ∙ ap (λ l. so_far ++ l) (sym taken) ∙ whole

  -- the last one
  pub whole_text : rest ≡ [] → so_far ++ part ≡ all
  whole_text ended = sym (append-nil (so_far ++ part)) ∙ ap (λ l. (so_far ++ part) ++ l) (sym ended) ∙ more_text

-- its bytes are counted, from a count on
pub more_count : (so_far part : List ℕ) (start old new : ℕ) → old ≡ start + length so_far → new ≡ old + length part → new ≡ start + length (so_far ++ part)
more_count so_far part start old new counted more = omega (arith, counted, more, length-append so_far part)
