-- What passed checks give to the edits, and what a failure shows. Assumes nothing.
use Prim.Native.Nat.{ℕ, ◌+◌, ◌≤◌, ◌<◌}
use mathlib.Core.Path.{◌≡◌, refl, sym, ap, ◌∙◌}
use mathlib.Core.Bool.{true, false, not}
use mathlib.Core.List.{List}
use native.Mathlib.Omega.{arith}
use lib.ListN.{length}
use Rattle.std.specs.Prelude.{Result, Ok, Option, Some, None, is_some}
use Rattle.kinds.specs.Numbers.{most_name_bytes}
use Rattle.kinds.specs.declared.numbers.Status.{Status}
use Rattle.kinds.specs.declared.numbers.NameNumber.{NameNumber}
use Rattle.kinds.specs.declared.numbers.ObjectNumber.{ObjectNumber}
use Rattle.kinds.specs.declared.object.Context.{Context}
use Rattle.kinds.specs.declared.call.NameIn.{NameIn}
use Rattle.kinds.specs.declared.call.Arguments.TheVariants as Arguments
use Rattle.spec.specs.Checked.{passed}
use Rattle.spec.specs.Edits.{remove_name}
use Rattle.spec.specs.Image.{Store, objects}
use Rattle.spec.specs.Procedures.{cut, act}
use Rattle.spec.specs.Procedures.Names.{touch_directory}
use Rattle.spec.specs.Procedures.Removal.{check_remove, check_rmdir, remove_from, remove, rmdir, Onto, new_name, same_object, replacing, check_rename, rename_edit}
use Rattle.spec.specs.Procedures.Removal.{rename, renamed_or}
use Rattle.spec.specs.Results.{dead, renamed}
use Rattle.results.specs.declared.ObjectChange.{ObjectChange}
use Rattle.results.specs.Meaning.{handle_change_in}
use Rattle.laws.proofs.ActGood.{movable, replaced, act_good}
use Rattle.laws.proofs.Bytes.{part_length}
use Rattle.laws.proofs.GoodRecords.{GoodRecords, StillGood, GoodClock}
use Rattle.laws.proofs.Passed.{EntryPassed, remove_passed, rmdir_passed, RenamePassed, rename_passed, found_record}
use Rattle.laws.proofs.Range.{Below}
use Rattle.laws.proofs.Valid.{Valid}
use Rattle.edit_entries.specs.Records.{RemovableAt, RenamableAt}
use Rattle.check_remove.specs.Meaning.{removable_of}
use Rattle.check_rename.specs.Meaning.{onto_of, renamable_of}
use Rattle.check_rename.specs.declared.Renamable.{Renamable}

-- ---- what the checks give
pub record Removing (s : Store) (c : Context) (d n : ℕ) : Type 0 where
  pub at : RemovableAt s d n
  pub still : StillGood s (touch_directory (remove_name s c.clock n) c d)

pub record Renaming (s : Store) (c : Context) (d e n size : ℕ) (t : Onto) (title : List ℕ) : Type 0 where
  pub directory : d < objects s
  pub target : e < objects s
  pub at : RenamableAt s c.clock d e n t
  pub short : size ≤ most_name_bytes
  pub still : StillGood s (rename_edit s c d e n t title)

entry_at : (s : Store) (h text : List ℕ) (d n : ℕ) → EntryPassed s h text d n → RemovableAt s d n
entry_at s h text d n p =
    let r = found_record s d text n p.found in
    record { directory = p.reached.below; name = r.0; used = r.1 }

module _ (s : Store) (c : Context) (v : Valid s) (g : GoodRecords s) (k : GoodClock c.clock) (call : List ℕ) (w : Below 256 call) (p : NameIn) where
  removing_file : (d n : ℕ) → check_remove s (cut call p.directory) (cut call p.name) ≡ passed (d, n) → Removing s c d n
  unfolding act remove remove_from
  removing_file d n e =
      record {
        at = entry_at s (cut call p.directory) (cut call p.name) d n (remove_passed s (cut call p.directory) (cut call p.name) (d, n) e).entry;
        still = rw e at (act_good s c v g.sound.bytes k call (Arguments.Remove p) w tt);
      }

  removing_directory : (d n : ℕ) → check_rmdir s (cut call p.directory) (cut call p.name) ≡ passed (d, n) → Removing s c d n
  unfolding act rmdir remove_from
  removing_directory d n e =
      record {
        at = entry_at s (cut call p.directory) (cut call p.name) d n (rmdir_passed s (cut call p.directory) (cut call p.name) (d, n) e).entry;
        still = rw e at (act_good s c v g.sound.bytes k call (Arguments.Rmdir p) w tt);
      }

  renamable_at : (h text j title : List ℕ) (d e n : ℕ) (t : Onto) → RenamePassed s h text j title d e n t → RenamableAt s c.clock d e n t
  renamable_at h text j title d e n new_name y = movable s c v g.sound.bytes k h text j title d e n new_name y
  renamable_at h text j title d e n same_object y = tt
  renamable_at h text j title d e n (replacing m) y =
      let (r, x) = replaced s c v g.sound.bytes k h text j title d e n m y in
      let w = found_record s e title m y.target.found in
      record { name = w.0; used = w.1; good = r.good; movable = x }

  renaming : (q : NameIn) (d e n : ℕ) (t : Onto) → q.name.start + q.name.length ≤ length call
      → check_rename s (cut call p.directory) (cut call p.name) (cut call q.directory) (cut call q.name) ≡ passed (d, e, n, t)
      → Renaming s c d e n q.name.length t (cut call q.name)
  unfolding act rename
  renaming q d e n t fits x =
      let y = rename_passed s (cut call p.directory) (cut call p.name) (cut call q.directory) (cut call q.name) (d, e, n, t) x in
      record {
        directory = y.reached.below;
        target = y.target_reached.below;
        at = renamable_at (cut call p.directory) (cut call p.name) (cut call q.directory) (cut call q.name) d e n t y;
        short = omega (arith, y.target_good.short, part_length call q.name.start q.name.length fits);
        still = rw x at (act_good s c v g.sound.bytes k call (Arguments.Rename p q) w tt);
      }

  -- the same of the answers of the code
  pub remove_found : (r : Result (ObjectNumber × NameNumber) Status) (d : ObjectNumber) (n : NameNumber) → r ≡ Ok (d, n)
      → removable_of r ≡ check_remove s (cut call p.directory) (cut call p.name) → Removing s c d.0 n.0
  remove_found r d n is e = removing_file d.0 n.0 (sym e ∙ ap removable_of is)

  pub rmdir_found : (r : Result (ObjectNumber × NameNumber) Status) (d : ObjectNumber) (n : NameNumber) → r ≡ Ok (d, n)
      → removable_of r ≡ check_rmdir s (cut call p.directory) (cut call p.name) → Removing s c d.0 n.0
  rmdir_found r d n is e = removing_directory d.0 n.0 (sym e ∙ ap removable_of is)

  pub rename_found : (q : NameIn) → q.name.start + q.name.length ≤ length call
      → (r : Result Renamable Status) (at : Renamable) → r ≡ Ok at
      → renamable_of r ≡ check_rename s (cut call p.directory) (cut call p.name) (cut call q.directory) (cut call q.name)
      → Renaming s c at.source.0 at.target.0 at.name.0 q.name.length (onto_of at.onto) (cut call q.name)
  rename_found q fits r at is x = renaming q at.source.0 at.target.0 at.name.0 (onto_of at.onto) fits (sym x ∙ ap renamable_of is)

-- ---- what a failure of RENAME shows
module _ (s : Store) (status : ℕ) where
  pub neither_shown : (c d : Option ObjectChange) → is_some c ≡ not true → is_some d ≡ not true
      → renamed_or status (handle_change_in s c) (handle_change_in s d) ≡ dead status
  neither_shown None None p q = refl
  neither_shown None (Some d) p q = cc
  neither_shown (Some c) d p q = cc

  pub source_shown : (c d : Option ObjectChange) → is_some c ≡ not false
      → renamed_or status (handle_change_in s c) (handle_change_in s d) ≡ renamed status (handle_change_in s c) (handle_change_in s d)
  source_shown None d p = cc
  source_shown (Some c) d p = refl

  pub target_shown : (c d : Option ObjectChange) → is_some d ≡ not false
      → renamed_or status (handle_change_in s c) (handle_change_in s d) ≡ renamed status (handle_change_in s c) (handle_change_in s d)
  target_shown c None p = cc
  target_shown None (Some d) p = refl
  target_shown (Some c) (Some d) p = refl
