-- Changes turned one after another, and what that is for the step that they are.
use Rattle.std.proofs.Common.{◌≡◌, ◌∷◌, ◌+◌, ◌++◌, [], ℕ, Bool, true, false, List, length, map, reverse, refl, ap, ap₂, sym, subst, ◌∙◌, arith, append_assoc}
use Rattle.std.proofs.Common.{length-append}
use Rattle.std.specs.Prelude.{flat_map}
use Rattle.std.proofs.lemmas.{List.map-append, List.map-id, List.reverse-append, List.Concat.flat_map_single, List.Folds.flat_map-map}
use Rattle.irig_journal.specs.{Held.Alone, Held.Group, Held.Parts, Held.parts_in, Held.parts_of, Journal.one_of, Moves.Moved, Turns.CountsAll, Turns.backs}
use Rattle.irig_journal.specs.{Turns.left_by, Turns.ways_back, Laws.Turns.backs-append, Laws.Turns.left_by-append}

module _ {S D T : Type 0} where
  -- first the one changes count, then the others
  CountsAll-push : (counted : S → D → T → T → Type 0) (turned : S → D → S × D) (s : S) (ds : List D) (d : D) (old between new : T)
      → CountsAll counted turned s ds old between → counted (left_by turned s ds) d between new
      → CountsAll counted turned s (ds ++ d ∷ []) old new
  CountsAll-push counted turned s [] d old between new counts last =
      (new, subst (λ (t : T). counted s d t new) counts last, refl)
  CountsAll-push counted turned s (e ∷ ds) d old between new counts last =
      (counts.0, counts.1, CountsAll-push counted turned (turned s e).0 ds d counts.0 between new counts.2 last)

module _ {S C D T : Type 0} where
  -- none was moved
  pub moved_none : (turned : S → D → S × D) (delta : C → D) (counted : S → D → T → T → Type 0) (s : S) (old : T) (from to : List C)
      → Moved turned delta counted 0 s s old old from from to to
  moved_none turned delta counted s old from to = record {
    taken = [];
    backs = [];
    many = (refl, refl);
    parts = refl;
    longer = refl;
    turns = refl;
    state = refl;
    counts = refl;
  }

  -- one more was moved
  pub moved_more : (turned : S → D → S × D) (delta : C → D) (counted : S → D → T → T → Type 0) (n m : ℕ) (s now after : S) (old between new : T)
      (near back : C) (from some left to more most : List C)
      → n + 1 ≡ m → some ≡ near ∷ left → most ≡ back ∷ more → (after, delta back) ≡ turned now (delta near)
      → counted now (delta near) between new
      → Moved turned delta counted n s now old between from some to more
      → Moved turned delta counted m s after old new from left to most
  moved_more turned delta counted n m s now after old between new near back from some left to more most count parts longer turn counts moved =
      let ds = map delta moved.taken in
      let all : map delta (moved.taken ++ near ∷ []) ≡ ds ++ delta near ∷ [] = map-append delta moved.taken (near ∷ []) in
      let there : after ≡ (turned (left_by turned s ds) (delta near)).0 =
      ap (λ (p : S × D). p.0) turn ∙ ap (λ (t : S). (turned t (delta near)).0) moved.state in
      let home : delta back ≡ (turned (left_by turned s ds) (delta near)).1 =
      ap (λ (p : S × D). p.1) turn ∙ ap (λ (t : S). (turned t (delta near)).1) moved.state in
      record {
        taken = moved.taken ++ near ∷ [];
        backs = back ∷ moved.backs;
        many = (omega (arith, count, moved.many.0, length-append moved.taken (near ∷ [])), omega (arith, count, moved.many.1));
        parts = moved.parts ∙ (ap (λ (l : List C). moved.taken ++ l) parts ∙ sym (append_assoc moved.taken (near ∷ []) left));
        longer = longer ∙ ap (λ (l : List C). back ∷ l) moved.longer;
        turns = ap₂ (λ (d : D) (l : List D). d ∷ l) home moved.turns
            ∙ (sym (reverse-append (backs turned s ds) ((turned (left_by turned s ds) (delta near)).1 ∷ []))
            ∙ (ap reverse (sym (backs-append turned s ds (delta near ∷ []))) ∙ ap (ways_back turned s) (sym all)));
        state = there ∙ (sym (left_by-append turned s ds (delta near ∷ [])) ∙ ap (left_by turned s) (sym all));
        counts = subst (λ (l : List D). CountsAll counted turned s l old new) (sym all)
            (CountsAll-push counted turned s ds (delta near) old between new moved.counts
            (subst (λ (t : S). counted t (delta near) between new) moved.state counts));
      }

-- changes alone, as the parts of steps
abbrev alone : {C : Type 0} → List C → List (Parts C)
alone cs = map (λ c. Alone c) cs

module _ {C : Type 0} where
  parts-alone : (cs : List C) → flat_map parts_in (alone cs) ≡ cs
  parts-alone cs = flat_map-map parts_in (λ c. Alone c) cs ∙ (flat_map_single (λ (c : C). c) cs ∙ map-id cs)

module _ {C D : Type 0} where
  map-alone : (delta : Parts C → D) (cs : List C) → map delta (alone cs) ≡ map (one_of delta) cs
  map-alone delta [] = refl
  map-alone delta (c ∷ cs) = ap (λ (l : List D). delta (Alone c) ∷ l) (map-alone delta cs)

  -- a group of the changes of several steps is what they are, gathered
  abbrev pub Gathers : (Parts C → D) → (List D → D) → Type 0
  Gathers delta gathered = (ps : List (Parts C)) → delta (Group (flat_map parts_in ps)) ≡ gathered (map delta ps)

  -- and so is a group of changes alone
  pub gathers_alone : (delta : Parts C → D) (gathered : List D → D) → Gathers delta gathered → (cs : List C)
      → delta (Group cs) ≡ gathered (map (one_of delta) cs)
  gathers_alone delta gathered gathers cs =
      ap (λ (l : List C). delta (Group l)) (sym (parts-alone cs)) ∙ (gathers (alone cs) ∙ ap gathered (map-alone delta cs))

module _ {S C D T : Type 0} where
  -- what turning a step does, by what its changes are
  pub record StepTurned (turned : S → D → S × D) (delta : Parts C → D) (counted : S → D → T → T → Type 0) (s after : S) (old new : T)
      (near back : Parts C) : Type 0 where
    pub turn : (after, delta back) ≡ turned s (delta near)
    pub counts : counted s (delta near) old new

  -- a group is turned as its changes are
  pub group_turned : (turned : S → D → S × D) (delta : Parts C → D) (gathered : List D → D) (counted : S → D → T → T → Type 0)
      → Gathers delta gathered → (s after : S) (old new : T) (taken backs : List C)
      → turned s (gathered (map (one_of delta) taken))
      ≡ (left_by turned s (map (one_of delta) taken), gathered (ways_back turned s (map (one_of delta) taken)))
      → counted s (gathered (map (one_of delta) taken)) old new
      → map (one_of delta) backs ≡ ways_back turned s (map (one_of delta) taken)
      → after ≡ left_by turned s (map (one_of delta) taken)
      → StepTurned turned delta counted s after old new (Group taken) (Group backs)
  group_turned turned delta gathered counted gathers s after old new taken backs law counts turns state =
      let near = gathers_alone delta gathered gathers taken in
      let back = gathers_alone delta gathered gathers backs in
      record {
        turn = ap₂ (λ (t : S) (d : D). (t, d)) state (back ∙ ap gathered turns) ∙ (sym law ∙ ap (turned s) (sym near));
        counts = subst (λ (d : D). counted s d old new) (sym near) counts;
      }

  -- and a change alone as it is
  one_turned : (turned : S → D → S × D) (delta : Parts C → D) (counted : S → D → T → T → Type 0) (s after : S) (old new : T) (taken backs : List C)
      → length taken ≡ 1 → length backs ≡ 1
      → map (one_of delta) backs ≡ ways_back turned s (map (one_of delta) taken)
      → after ≡ left_by turned s (map (one_of delta) taken)
      → CountsAll counted turned s (map (one_of delta) taken) old new
      → StepTurned turned delta counted s after old new (parts_of false taken) (parts_of false backs)
  one_turned turned delta counted s after old new [] backs long same turns state counts = absurd (omega arith)
  one_turned turned delta counted s after old new (c ∷ (d ∷ taken)) backs long same turns state counts = absurd (omega arith)
  one_turned turned delta counted s after old new (c ∷ []) [] long same turns state counts = absurd (omega arith)
  one_turned turned delta counted s after old new (c ∷ []) (b ∷ (d ∷ backs)) long same turns state counts = absurd (omega arith)
  one_turned turned delta counted s after old new (c ∷ []) (b ∷ []) long same turns state counts =
      let home : delta (Alone b) ≡ (turned s (delta (Alone c))).1 = cc in
      record {
        turn = ap₂ (λ (t : S) (d : D). (t, d)) state home;
        counts = subst (λ (t : T). counted s (delta (Alone c)) old t) (sym counts.2) counts.1;
      }

  -- a step is turned as its changes are
  pub step_turned : (turned : S → D → S × D) (delta : Parts C → D) (gathered : List D → D) (counted : S → D → T → T → Type 0)
      → Gathers delta gathered → (b : Bool) (s after : S) (old new : T) (n : ℕ) (from left to more : List C)
      → (b ≡ false → n ≡ 1) → (moved : Moved turned (one_of delta) counted n s after old new from left to more)
      → turned s (gathered (map (one_of delta) moved.taken))
      ≡ (left_by turned s (map (one_of delta) moved.taken), gathered (ways_back turned s (map (one_of delta) moved.taken)))
      → counted s (gathered (map (one_of delta) moved.taken)) old new
      → StepTurned turned delta counted s after old new (parts_of b moved.taken) (parts_of b moved.backs)
  step_turned turned delta gathered counted gathers true s after old new n from left to more one moved law counts =
      group_turned turned delta gathered counted gathers s after old new moved.taken moved.backs law counts moved.turns moved.state
  step_turned turned delta gathered counted gathers false s after old new n from left to more one moved law counts =
      one_turned turned delta counted s after old new moved.taken moved.backs (moved.many.0 ∙ one refl) (moved.many.1 ∙ one refl) moved.turns moved.state
      moved.counts
