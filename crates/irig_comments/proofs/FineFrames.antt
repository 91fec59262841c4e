-- How many frames are fine, by their records.
use Rattle.std.proofs.Common.{◌≡◌, ◌+◌, ◌≤◌, ◌∙◌, ℕ, zero, suc, Bool, cond, List, [], ◌∷◌, length, drop, slice_get, Some, ap, sym, refl, arith, count_by}
use Rattle.std.proofs.lemmas.List.Sums.{sum_by-cons}
use Rattle.irig_recording.specs.declared.pulse.Pulse.{Pulse}
use Rattle.irig_recording.proofs.Items.{drop-item}
use Rattle.irig_index.specs.declared.record.Record.{Record}
use Rattle.irig_comments.specs.{Counts.fine_frames, Counts.is_fine, Framed.FramedView, Framed.shown_as, Framed.shown_from, declared.shown.Shown.Shown}

-- the frame of a record is fine
abbrev pub fine_record : Record → Bool
fine_record r = is_fine r.verdict

fine-shown_from : (number : ℕ) (ps : List Pulse) (rs : List Record)
    → count_by (λ (s : Shown). is_fine s.verdict) (shown_from number ps rs) ≡ count_by fine_record rs
fine-shown_from number ps [] = refl
fine-shown_from number ps (r ∷ rs) =
    sum_by-cons (λ (s : Shown). cond (is_fine s.verdict) 1 0) (shown_as number ps r) (shown_from (suc number) ps rs)
    ∙ ap (λ n. cond (is_fine r.verdict) 1 0 + n) (fine-shown_from (suc number) ps rs) ∙ sym (sum_by-cons (λ z. cond (fine_record z) 1 0) r rs)

pub fine_by_records : (x : FramedView) → fine_frames x ≡ count_by fine_record x.records
fine_by_records x = fine-shown_from 1 x.pulses x.records

-- one record more
pub fine_next : (rs : List Record) (k : ℕ) (r : Record) → slice_get rs k ≡ Some r
    → count_by fine_record (drop k rs) ≡ cond (fine_record r) 1 0 + count_by fine_record (drop (k + 1) rs)
fine_next rs k r h = ap (count_by fine_record) (drop-item rs k r h) ∙ sum_by-cons (λ z. cond (fine_record z) 1 0) r (drop (k + 1) rs)

pub fine_end : (rs : List Record) (k : ℕ) → length rs ≤ k → count_by fine_record (drop k rs) ≡ 0
fine_end [] zero h = refl
fine_end [] (suc k) h = refl
fine_end (r ∷ rs) zero h = absurd (omega (arith, h))
fine_end (r ∷ rs) (suc k) h = fine_end rs k (omega (arith, h))
