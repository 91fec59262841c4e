-- What is ready stays ready: with more places, and after a turn of the nearest change.
use Rattle.std.proofs.Common.{◌≡◌, ◌∷◌, [], List, map, ap, sym, subst, ◌∙◌}
use Rattle.irig_journal.specs.Journal.{AreReady, ReadyInTurn, Steps, one_of, told}
use Rattle.irig_journal.specs.{Held.Held, Held.Parts, Held.flat, History.FitInTurn, Turns.RoomForAll}

module _ {S C : Type 0} where
  -- places that are wider have room for each change that the narrow ones have room for
  abbrev pub IsWider : (S → C → Type 0) → (S → C → Type 0) → Type 0
  IsWider small large = (s : S) (c : C) → small s c → large s c

module _ {S C D : Type 0} where
  -- with more places each has room in its turn
  RoomForAll-wider : (turned : S → D → S × D) (delta : C → D) (small large : S → C → Type 0) → IsWider small large → (s : S) (cs : List C)
      → RoomForAll turned delta small s cs → RoomForAll turned delta large s cs
  RoomForAll-wider turned delta small large wider s [] room = tt
  RoomForAll-wider turned delta small large wider s (c ∷ cs) room =
      (wider s c room.0, RoomForAll-wider turned delta small large wider (turned s (delta c)).0 cs room.1)

  -- changes that are ready are ready with more places
  pub turn_wider : (fits : S → D → Type 0) (turned : S → D → S × D) (delta : Parts C → D)
      (small large : S → C → Type 0) → IsWider small large → (s : S) (cs : List C)
      → ReadyInTurn fits turned delta small s cs → ReadyInTurn fits turned delta large s cs
  turn_wider fits turned delta small large wider s cs ready =
      (ready.0, RoomForAll-wider turned (one_of delta) small large wider s cs ready.1)

  -- the same steps are ready at the same content, with more places
  pub ready_same : (fits : S → D → Type 0) (turned : S → D → S × D) (delta : Parts C → D)
      (small large : S → C → Type 0) → IsWider small large → (s now : S) (j k : Steps C)
      → now ≡ s → k.past ≡ j.past → k.future ≡ j.future
      → AreReady fits turned delta small s j → AreReady fits turned delta large now k
  ready_same fits turned delta small large wider s now j k here past future ready =
      subst (λ (t : S). AreReady fits turned delta large t k) (sym here) (
        (
          subst (λ (l : List (Held C)). FitInTurn fits turned s (map (told delta) l)) (sym past) ready.0.0,
          subst (λ (l : List (Held C)). FitInTurn fits turned s (map (told delta) l)) (sym future) ready.0.1,
        ),
        subst (λ (l : List (Held C)). ReadyInTurn fits turned delta large s (flat l)) (sym past)
            (turn_wider fits turned delta small large wider s (flat j.past) ready.1),
        subst (λ (l : List (Held C)). ReadyInTurn fits turned delta large s (flat l)) (sym future)
            (turn_wider fits turned delta small large wider s (flat j.future) ready.2),
      )

  -- after a turn of the nearest change those that are left are ready
  pub ready_left : (fits : S → D → Type 0) (turned : S → D → S × D) (delta : Parts C → D)
      (small large : S → C → Type 0) → IsWider small large → (s after : S) (near : C) (all left : List C)
      → all ≡ near ∷ left → after ≡ (turned s (one_of delta near)).0
      → ReadyInTurn fits turned delta small s all → ReadyInTurn fits turned delta large after left
  ready_left fits turned delta small large wider s after near all left parts there ready =
      let apart : ReadyInTurn fits turned delta small s (near ∷ left) =
      subst (ReadyInTurn fits turned delta small s) parts ready in
      subst (λ (t : S). ReadyInTurn fits turned delta large t left) (sym there)
      (turn_wider fits turned delta small large wider (turned s (one_of delta near)).0 left (apart.0.1, apart.1.1))

  -- the nearest change fits, and has room
  pub ready_nearest : (fits : S → D → Type 0) (turned : S → D → S × D) (delta : Parts C → D)
      (has_room : S → C → Type 0) (s : S) (near : C) (all left : List C) → all ≡ near ∷ left
      → ReadyInTurn fits turned delta has_room s all → fits s (one_of delta near) × has_room s near
  ready_nearest fits turned delta has_room s near all left parts ready =
      let apart : ReadyInTurn fits turned delta has_room s (near ∷ left) =
      subst (ReadyInTurn fits turned delta has_room s) parts ready in
      (apart.0.0, apart.1.0)

  -- the change that leads back is ready, before those that were ready at the state
  pub ready_back : (fits : S → D → Type 0) (turned : S → D → S × D) (delta : Parts C → D)
      (small large : S → C → Type 0) → IsWider small large → (s after : S) (d : D) (back : C) (to more : List C)
      → more ≡ back ∷ to → (after, one_of delta back) ≡ turned s d
      → fits (turned s d).0 (turned s d).1 → turned (turned s d).0 (turned s d).1 ≡ (s, d)
      → large after back → ReadyInTurn fits turned delta small s to
      → ReadyInTurn fits turned delta large after more
  ready_back fits turned delta small large wider s after d back to more longer turn back_fits law room ready =
      let home : (turned after (one_of delta back)).0 ≡ s =
      ap (λ (p : S × D). (turned p.0 p.1).0) turn ∙ ap (λ (p : S × D). p.0) law in
      let fit : fits after (one_of delta back) = subst (λ (p : S × D). fits p.0 p.1) (sym turn) back_fits in
      let rest : ReadyInTurn fits turned delta large (turned after (one_of delta back)).0 to =
      subst (λ (t : S). ReadyInTurn fits turned delta large t to) (sym home)
      (turn_wider fits turned delta small large wider s to ready) in
      subst (ReadyInTurn fits turned delta large after) (sym longer) ((fit, rest.0), (room, rest.1))
