-- An edit on the shelf of a file, as one by the settings.
use Rattle.std.proofs.Common.{◌≡◌, [], ℕ, List, Option, Some, None, Result, Err, ap, inl, inr, refl, subst, sym}
use Rattle.std.specs.Prelude.{is_some, not, if◌then◌else◌}
use denote.Ref.{Bor}
use Rattle.irig_vcd.specs.Extent.{short}
use Rattle.irig_vcd.specs.{Window.parts_in, declared.fault.VcdFault.TheVariants.OutOfMemory, declared.fault.VcdFault.VcdFault}
use Rattle.irig_script.specs.Obey.Desk.{Desk, desk}
use Rattle.irig_guarding.specs.{declared.product.GuardFault.GuardFault, declared.product.GuardFault.TheVariants.Dump, declared.product.Kept.Kept}
use Rattle.irig_text.specs.Shelved.{shelved}
use Rattle.irig_guard.specs.Given.{AreOthersApart, Ends, Files, IsApart, IsApartFrom, IsRead, ends, place_of, product_of}
use Rattle.irig_guard.specs.{Others.ShowsAll, Settings.paths}
use Rattle.irig_safety.specs.Terms.{TermsView, without_others}
use Rattle.irig_guard.specs.{RunsBy.RunsBy, Windows.GuardsIn, Windows.MayRunShort, declared.chosen.Settings.Settings}
use Rattle.irig_guard.proofs.Windows.{fails_in}
use Rattle.irig_guarding.specs.declared.product.Product.TheVariants as product
use Rattle.irig_disk.specs.{Disk.Disk, Disk.MayLeave, Held.Held}
use Rattle.irig_files.specs.{Apart.StaysAt, Goes.Goes, Puts.texts_at, Tracks.name_in, Writes.Write}
use Rattle.irig_files.proofs.{Apart.stays_apart, Apart.stays_here, Sound.never_in}

-- the shelf was at the path of the settings, from the start to the end
pub runs_by : (given : Files) (chosen : Settings) (source : List ℕ) (out out_new script left : Option (List ℕ)) (texts texts_new : Option (List (List ℕ)))
    (label label_new : List ℕ) (writes new : Option (List Write)) (failures failures_new : ℕ) (result : Result Kept GuardFault)
    → label_new ≡ label → texts ≡ texts_at (given.paths (place_of chosen)) writes → texts_new ≡ texts_at (given.paths (place_of chosen)) new → failures ≡ 0
    → given.kept (place_of chosen) → (result ≡ Err (Dump OutOfMemory) → MayRunShort chosen.window (name_in chosen.wire) source)
    → (terms : TermsView) → ShowsAll given.held chosen.format (paths chosen.others.items) (without_others chosen.moved) terms
    → GuardsIn chosen.window (name_in chosen.wire) chosen.format terms source (product_of chosen) script left
    (desk out (shelved texts failures label)) (desk out_new (shelved texts_new failures_new label_new)) result
    → RunsBy given chosen source (ends out writes script) (ends out_new new left) result
runs_by given chosen source out out_new script left texts texts_new label label_new writes new failures failures_new result e p q z kept short
    terms shown h = record {
      terms = terms;
      shown = shown;
      label = label;
      failures = failures_new;
      ran = subst (λ (d : Desk). GuardsIn chosen.window (name_in chosen.wire) chosen.format terms source (product_of chosen) script left d
          (desk out_new (shelved (texts_at (given.paths (place_of chosen)) new) failures_new label)) result)
          (λ j. desk out (shelved (p j) (z j) label))
          (subst (λ (d : Desk). GuardsIn chosen.window (name_in chosen.wire) chosen.format terms source (product_of chosen) script left
          (desk out (shelved texts failures label)) d result)
          (λ j. desk out_new (shelved (q j) failures_new (e j))) h);
      short = short;
      kept = kept;
    }

-- of a dump with a fault nothing was run
pub fails_by : (given : Files) (chosen : Settings) (source : List ℕ) (at : Ends) (fault : VcdFault) → given.kept (place_of chosen)
    → (terms : TermsView) → ShowsAll given.held chosen.format (paths chosen.others.items) (without_others chosen.moved) terms
    → parts_in chosen.window (name_in chosen.wire) source ≡ Err fault → RunsBy given chosen source at at (Err (Dump fault))
fails_by given chosen source at fault kept terms shown is = record {
  terms = terms;
  shown = shown;
  label = [];
  failures = 0;
  ran = fails_in chosen.window (name_in chosen.wire) chosen.format terms source (product_of chosen) at.script _ fault is;
  short = λ memory. absurd (never_in (short chosen.window) (name_in chosen.wire) source fault is (cc memory));
  kept = kept;
}

-- what is written elsewhere, or not at all, leaves the file at a path as it was
module _ (old new : Disk) (chosen : Settings) (path : List ℕ) (apart : IsApartFrom path chosen old) (kept : Goes old new (old.paths (place_of chosen)))
    (nothing : product_of chosen ≡ product.Nothing → new ≡ old) (now : (n : List ℕ) (c : Option Held) → old.left_since old.moment n c → MayLeave old n c) where
  by_out : (out : Option (Bor (List ℕ))) → chosen.out ≡ out → StaysAt old new path
  by_out None none =
      let asked : product_of chosen ≡ product.Nothing =
      ap (λ (o : Option (Bor (List ℕ))). if not (is_some o) then product.Nothing else (if chosen.save then product.Session else product.Track)) none in
      subst (λ (d : Disk). StaysAt old d path) (sym (nothing asked)) (stays_here old path now)
  by_out (Some out) some = stays_apart old new path (place_of chosen) kept (apart (ap is_some some))

  pub path_stays : StaysAt old new path
  path_stays = by_out chosen.out refl

-- what is written is apart from each file that is read
pub apart_from : (disk : Disk) (chosen : Settings) → IsApart chosen disk → AreOthersApart chosen disk → (path : List ℕ) → IsRead chosen path
    → IsApartFrom path chosen disk
apart_from disk chosen track others path (inl is) = subst (λ (p : List ℕ). IsApartFrom p chosen disk) (sym is) track
apart_from disk chosen track others path (inr other) = others path other
