-- What a group leaves.
use Rattle.std.proofs.Common.{◌≡◌, ◌∷◌, ◌-◌, ◌++◌, [], ℕ, List, Option, Some, None, length, drop, refl, ap, ap₂, sym, subst, inl, inr, ◌∙◌, arith}
use Rattle.std.proofs.Common.{length-append}
use Rattle.std.specs.Option.{option_and_then}
use Rattle.std.proofs.lemmas.{Bool.le-leb, Bool.lt-leb, List.drop_at, Option.none-some}
use Rattle.irig_journal.specs.Groups.{Floor, Grouped, aborted, begun, ended, over, redone_over, undone_over}
use Rattle.irig_journal.specs.GroupRuns.{Deed, Make, Back, Again, Go, Nothing, after_deed, after_deeds, AbortGivesBack, EndLeavesOneStep, IsAtMostOneMore}
use Rattle.irig_journal.specs.Machine.{Kept, Machine}
use Rattle.irig_journal.proofs.FloorLemmas.{machine_of_states}

module _ {S : Type 0} where
  -- the state of the oldest, or this one if there is none
  abbrev pub oldest_state : S → List (Kept S) → S
  oldest_state s [] = s
  oldest_state s (near ∷ past) = oldest_state near.state past

  pub same_inside : (g h : Grouped (Kept S)) → Some g ≡ Some h → g ≡ h
  same_inside g h e = cc

  -- a group is open that was begun over this past
  pub record InGroup (floor : Floor (Kept S)) (below : List (Kept S)) (g : Grouped (Kept S)) : Type 0 where
    pub open_at : g.floor ≡ Some floor
    pub news : List (Kept S)
    pub past : g.machine.past ≡ news ++ below
    pub oldest : oldest_state g.machine.present.state news ≡ floor.present.state

  back_kept : (floor : Floor (Kept S)) (news below : List (Kept S)) (present : Kept S) (future : List (Kept S)) (h : Grouped (Kept S))
      → floor.height ≡ length below → oldest_state present.state news ≡ floor.present.state
      → undone_over (over (Some floor) (machine_of_states (news ++ below) present future)) ≡ Some h
      → InGroup floor below h
  back_kept floor [] below present future h high oldest went =
      let test = le-leb (length below) floor.height (omega arith) in
      let none : undone_over (over (Some floor) (machine_of_states below present future)) ≡ None = rw test refl in
      absurd (none-some h (sym none ∙ went))
  back_kept floor (n ∷ news) below present future h high oldest went =
      let test = lt-leb (length (n ∷ (news ++ below))) floor.height (omega (arith, length-append news below)) in
      let some : undone_over (over (Some floor) (machine_of_states (n ∷ (news ++ below)) present future))
      ≡ Some (over (Some floor) (machine_of_states (news ++ below) n (present ∷ future))) = rw test refl in
      subst (λ (x : Grouped (Kept S)). InGroup floor below x) (same_inside _ h (sym some ∙ went))
      (record { open_at = refl; news = news; past = refl; oldest = oldest })

  again_kept : (floor : Floor (Kept S)) (news below : List (Kept S)) (present : Kept S) (future : List (Kept S)) (h : Grouped (Kept S))
      → oldest_state present.state news ≡ floor.present.state
      → redone_over (over (Some floor) (machine_of_states (news ++ below) present future)) ≡ Some h
      → InGroup floor below h
  again_kept floor news below present [] h oldest went = absurd (none-some h went)
  again_kept floor news below present (next ∷ future) h oldest went =
      subst (λ (x : Grouped (Kept S)). InGroup floor below x) (same_inside _ h went)
      (record { open_at = refl; news = present ∷ news; past = refl; oldest = oldest })

  told : (floor : Floor (Kept S)) (below : List (Kept S)) (g : Grouped (Kept S)) (here : InGroup floor below g)
      → g ≡ over (Some floor) (machine_of_states (here.news ++ below) g.machine.present g.machine.future)
  told floor below g here =
      ap₂ (λ (f : Option (Floor (Kept S))) (l : List (Kept S)). over f (machine_of_states l g.machine.present g.machine.future)) here.open_at here.past

  deed_kept : (floor : Floor (Kept S)) (below : List (Kept S)) (deed : Deed S) (g h : Grouped (Kept S))
      → floor.height ≡ length below → InGroup floor below g → after_deed deed g ≡ Some h → InGroup floor below h
  deed_kept floor below (Make after) g h high here went =
      subst (λ (x : Grouped (Kept S)). InGroup floor below x) (same_inside _ h went)
      (record {
        open_at = here.open_at;
        news = g.machine.present ∷ here.news;
        past = ap (λ (l : List (Kept S)). g.machine.present ∷ l) here.past;
        oldest =
            here.oldest;
      })
  deed_kept floor below Back g h high here went =
      back_kept floor here.news below g.machine.present g.machine.future h high here.oldest
      (sym (ap (λ (x : Grouped (Kept S)). undone_over x) (told floor below g here)) ∙ went)
  deed_kept floor below Again g h high here went =
      again_kept floor here.news below g.machine.present g.machine.future h here.oldest
      (sym (ap (λ (x : Grouped (Kept S)). redone_over x) (told floor below g here)) ∙ went)
  deed_kept floor below (Go cursor) g h high here went =
      subst (λ (x : Grouped (Kept S)). InGroup floor below x) (same_inside _ h went)
      (record { open_at = here.open_at; news = here.news; past = here.past; oldest = here.oldest })
  deed_kept floor below Nothing g h high here went =
      subst (λ (x : Grouped (Kept S)). InGroup floor below x) (same_inside g h went) here

  passed : (f : Grouped (Kept S) → Option (Grouped (Kept S))) (o : Option (Grouped (Kept S))) (h : Grouped (Kept S))
      → option_and_then f o ≡ Some h → (n : Grouped (Kept S)) × (o ≡ Some n) × (f n ≡ Some h)
  passed f None h went = absurd (none-some h went)
  passed f (Some n) h went = (n, refl, went)

  deeds_kept : (floor : Floor (Kept S)) (below : List (Kept S)) (deeds : List (Deed S)) (g h : Grouped (Kept S))
      → floor.height ≡ length below → InGroup floor below g → after_deeds deeds g ≡ Some h → InGroup floor below h
  deeds_kept floor below [] g h high here went =
      subst (λ (x : Grouped (Kept S)). InGroup floor below x) (same_inside g h went) here
  deeds_kept floor below (deed ∷ deeds) g h high here went =
      let next = passed (after_deeds deeds) (after_deed deed g) h went in
      deeds_kept floor below deeds next.0 h high (deed_kept floor below deed g next.0 high here next.1) next.2

  -- where a group was begun, its floor
  abbrev floor_here : Grouped (Kept S) → Floor (Kept S)
  floor_here g = record { height = length g.machine.past; present = g.machine.present }

  begun_on : (f : Option (Floor (Kept S))) (m : Machine (Kept S)) (start : Grouped (Kept S)) → begun (over f m) ≡ Some start
      → InGroup (floor_here (over f m)) m.past start
  begun_on (Some floor) m start went = absurd (none-some start went)
  begun_on None m start went =
      subst (λ (x : Grouped (Kept S)). InGroup (floor_here (over None m)) m.past x) (same_inside _ start went)
      (record { open_at = refl; news = []; past = refl; oldest = refl })

  after_group : (deeds : List (Deed S)) (g start last : Grouped (Kept S)) → begun g ≡ Some start
      → after_deeds deeds start ≡ Some last → InGroup (floor_here g) g.machine.past last
  after_group deeds g start last began went =
      deeds_kept (floor_here g) g.machine.past deeds start last refl (begun_on g.floor g.machine start began) went

  news_dropped : (news below : List (Kept S)) (height : ℕ) → height ≡ length below
      → drop (length (news ++ below) - height) (news ++ below) ≡ below
  news_dropped news below height high =
      drop_at news below (length (news ++ below) - height) (omega (arith, length-append news below))

  pub abort_gives_back : AbortGivesBack S
  abort_gives_back deeds g start last began went =
      let here = after_group deeds g start last began went in
      ap (λ (x : Grouped (Kept S)). aborted x) (told (floor_here g) g.machine.past last here)
      ∙ ap (λ (l : List (Kept S)). Some (over None (machine_of_states l g.machine.present [])))
      (news_dropped here.news g.machine.past (length g.machine.past) refl)

  -- of the states of a group the oldest is left
  news_joined : (s : S) (k : Kept S) (news below : List (Kept S)) (n : ℕ) → n ≡ length news
      → oldest_state k.state news ≡ s
      → (oldest : Kept S) × (drop n ((k ∷ news) ++ below) ≡ oldest ∷ below) × (oldest.state ≡ s)
  news_joined s k [] below n count oldest =
      (k, ap (λ (m : ℕ). drop m (k ∷ below)) count, oldest)
  news_joined s k (next ∷ news) below n count oldest =
      let rest = news_joined s next news below (length news) refl oldest in
      (rest.0, ap (λ (m : ℕ). drop m (k ∷ (next ∷ (news ++ below)))) count ∙ rest.1, rest.2)

  ended_past : (s start : S) (news below : List (Kept S)) (height : ℕ) → height ≡ length below
      → oldest_state s news ≡ start
      → IsAtMostOneMore below start (drop (length (news ++ below) - height - 1) (news ++ below))
  ended_past s start [] below height high oldest =
      let none : length below - height - 1 ≡ 0 = omega arith in
      inl (ap (λ (m : ℕ). drop m below) none)
  ended_past s start (k ∷ news) below height high oldest =
      inr (news_joined start k news below (length ((k ∷ news) ++ below) - height - 1)
      (omega (arith, length-append news below)) oldest)

  pub end_leaves_one_step : EndLeavesOneStep S
  end_leaves_one_step deeds g start last after began went ended_at =
      let here = after_group deeds g start last began went in
      let is = same_inside _ after (sym (ap (λ (x : Grouped (Kept S)). ended x) (told (floor_here g) g.machine.past last here)) ∙ ended_at) in
      subst (λ (x : Grouped (Kept S)). IsAtMostOneMore g.machine.past g.machine.present.state x.machine.past) is
      (ended_past last.machine.present.state g.machine.present.state here.news g.machine.past (length g.machine.past) refl here.oldest)
