-- The verdict of the check, from what its passes tell. Assumes nothing.
use mathlib.Core.Path.{◌≡◌, refl, sym, ap, ◌∙◌}
use mathlib.Core.Bool.{Bool, true, false, not}
use mathlib.Core.List.{List}
use Prim.Native.Nat.{ℕ, ◌≤◌}
use native.Mathlib.Omega.{arith}
use lib.Dec.{eqb}
use borrow.Author.Tests.{eqb-true, eqb-false}
use Rattle.std.specs.Prelude.{Some, None}
use Rattle.kinds.specs.Layout.{object_length}
use Rattle.spec.specs.Count.{bit}
use Rattle.spec.specs.Image.{Store, objects, names}
use Rattle.spec.specs.Room.{is_directory, uses, is_free_block}
use Rattle.spec.specs.Check.{good_shape, good_root, records_pass, passes}
use Rattle.laws.proofs.Count.{by_bool, true_false}
use Rattle.laws.proofs.Demands.{records_by}
use Rattle.laws.proofs.Valid.{Framed}
use Rattle.store_blocks.specs.Blocks.{UsedMap}
use Rattle.fsck_objects.specs.Told.{Told}
use Rattle.fsck_objects.specs.Objects.{UsedBy, ObjectsPass}
use Rattle.fsck_objects.proofs.Passes.{fails_root}
use Rattle.fsck_blocks.proofs.Places.{used_once}
use Rattle.fsck_names.specs.Names.{NamesPass}
use Rattle.fsck_names.proofs.Whole.{distinct_all}
use Rattle.fsck.specs.Found.{counts_of, found_if, shape_of}
use Rattle.fsck.proofs.Shapes.{shape_is, found_no, found_yes}
use Rattle.fsck.specs.Tree.{TreePasses}
use Rattle.fsck.specs.Verdict.{NamesAndTreePass, RecordVerdict, Verdict}
use Rattle.fsck.specs.declared.shape.Counts.{Counts}

-- ---- the shape
pub shape_no : (s : Store) → shape_of object_length s ≡ None → passes s ≡ false
unfolding passes
shape_no s e = rw (found_no (good_shape s) (counts_of s) (sym (shape_is s) ∙ e))

pub shape_yes : (s : Store) (k : Counts) → shape_of object_length s ≡ Some k → (good_shape s ≡ true) × (k ≡ counts_of s)
shape_yes s k e = found_yes (good_shape s) (counts_of s) k (sym (shape_is s) ∙ e)

-- ---- the names and the tree
pub rest_by : (s : Store) (p : ℕ) (parents links head next depths : List ℕ) → Framed s → p ≡ objects s → NamesPass s (names s) parents links head next
    → TreePasses s p p depths → NamesAndTreePass s links
rest_by s p parents links head next depths t e a b =
    record {
      good = a.good;
      distinct = distinct_all s t parents links head next a;
      named = rw (← e) b.named;
      leads = rw (← e) b.leads;
      linked = a.linked;
    }

-- ---- the records
used_bit : (u : ℕ) → u ≤ 1 → u ≡ bit (not (eqb u 0))
used_bit u h =
    by_bool (eqb u 0) (λ t. rw t (eqb-true u 0 t)) (λ t. rw t (let d = eqb-false u 0 t in omega arith))

used_map : (s : Store) (used : List ℕ) → UsedBy s (objects s) used → UsedMap s used
unfolding uses is_free_block
used_map s used m = record { used = λ r l. let e = m.uses r l in let o = m.once r l in e ∙ used_bit (uses s r) (omega arith) }

pub records_bad : (s : Store) (used links : List ℕ) → records_pass s ≡ false → RecordVerdict s false used links
records_bad s used links e = record { is = sym e; map = λ t. true_false (sym t ∙ e); linked = λ t. true_false (sym t ∙ e) }

pub root_bad : (s : Store) (used links : List ℕ) → is_directory s 0 ≡ false → RecordVerdict s false used links
unfolding good_root
root_bad s used links e = records_bad s used links (fails_root s e)

pub records_told : (s : Store) (used links : List ℕ) (t : Bool) → is_directory s 0 ≡ true → ObjectsPass s (objects s) used
    → Told t s (NamesAndTreePass s links) → RecordVerdict s t used links
unfolding good_root
records_told s used links true g a b =
    let f = b.yes refl in
    let y = records_by s (record {
      root = g;
      good_objects = a.good;
      good_names = f.good;
      distinct = f.distinct;
      named = f.named;
      used_once = used_once s used a.map;
      leads = f.leads;
    }) in
    record { is = sym y; map = λ q. used_map s used a.map; linked = λ q. f.linked }
records_told s used links false g a b = records_bad s used links (b.no refl)

-- ---- the whole
-- of a good shape, the store passes where the records do
shape_records : (s : Store) → good_shape s ≡ true → passes s ≡ records_pass s
unfolding passes
shape_records s g = rw g

pub checked_bad : (s : Store) (used : List ℕ) → passes s ≡ false → Verdict s None used
checked_bad s used e = record { is = sym (ap (λ (t : Bool). found_if t (counts_of s)) e); map = λ t. true_false (sym t ∙ e) }

pub checked_records_bad : (s : Store) (used : List ℕ) → good_shape s ≡ true → records_pass s ≡ false → Verdict s None used
checked_records_bad s used g e = checked_bad s used (shape_records s g ∙ e)

pub checked_good : (s : Store) (k : Counts) (used : List ℕ) → good_shape s ≡ true → k ≡ counts_of s → records_pass s ≡ true → UsedMap s used
    → Verdict s (Some k) used
checked_good s k used g e y m =
    record { is = ap (λ (c : Counts). Some c) e ∙ sym (ap (λ (x : Bool). found_if x (counts_of s)) (shape_records s g ∙ y)); map = λ q. m }

-- ---- what callers read off the verdict
pub bad_fails : (s : Store) → None ≡ found_if (passes s) (counts_of s) → passes s ≡ false
bad_fails s e = found_no (passes s) (counts_of s) (sym e)

pub good_passes : (s : Store) (k : Counts) → Some k ≡ found_if (passes s) (counts_of s) → passes s ≡ true
good_passes s k e = (found_yes (passes s) (counts_of s) k (sym e)).0
