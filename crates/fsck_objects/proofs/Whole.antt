-- A whole object record: free or live, it passes, or the records fail. Assumes nothing.
use mathlib.Core.Path.{◌≡◌, sym, ap, ◌∙◌}
use mathlib.Core.Logic.{⊎_elim}
use mathlib.Core.Bool.{Bool, true, false, ◌&&◌}
use Prim.Native.Nat.{ℕ, ◌+◌, ◌-◌, ◌≤◌, ◌<◌}
use native.Mathlib.Omega.{arith}
use lib.Dec.{eqb, leb, ltb}
use lib.ListN.{length}
use mathlib.Core.List.{List}
use Rattle.std.specs.Prelude.{Some, None}
use Rattle.kinds.specs.Layout.{mode_offset, verifier_offset, exclusive_offset, object_length}
use Rattle.kinds.specs.Numbers.{file_blocks, most_file_bytes, spent_generation, most_mode}
use Rattle.kinds.specs.declared.object.Object.{Object}
use Rattle.spec.specs.Bytes.{part}
use Rattle.spec.specs.Count.{every}
use Rattle.spec.specs.Image.{Store, objects, blocks, object_start, object_from, object_at}
use Rattle.spec.specs.Room.{need, is_live}
use Rattle.spec.specs.Check.{is_zero, good_time, good_size, good_verifier, good_block, good_free, good_live, good_object, records_pass}
use Rattle.laws.proofs.Count.{and_both}
use Rattle.laws.proofs.Valid.{size_good, need_few}
use Rattle.laws.proofs.Zeros.{zero_add, zero_number}
use Rattle.fsck_objects.specs.Told.{Told}
use Rattle.fsck_objects.specs.Objects.{good_fields, LiveAt, MarkedBy, MarkedTo, ObjectPasses, Counted}
use Rattle.fsck_objects.proofs.Passes.{fails_object, told_true, told_false}
use Rattle.fsck_objects.proofs.Marks.{free_held, mark_free, mark_end, held_end}

-- a good size is at most that of the longest file
pub fields_size : (v : Object) → good_fields v ≡ true → v.size ≤ most_file_bytes
unfolding good_fields
fields_size v e =
    let t = ltb v.generation spent_generation && leb v.mode most_mode && good_time v.atime && good_time v.mtime && good_time v.ctime in
    ⊎_elim (λ a. a.1) (λ a. omega (arith, a.1)) (size_good v (and_both t (good_size v) (and_both (t && good_size v) (good_verifier v) e).0).1)

pub fields_need : (v : Object) → good_fields v ≡ true → need v.size ≤ file_blocks
fields_need v e = need_few v.size (fields_size v e)

live_is : (s : Store) (o : ℕ) → is_live s o ≡ true → good_object s o ≡ good_fields (object_at s o) && every file_blocks (good_block (blocks s) (object_at s o))
unfolding good_object good_live good_fields
live_is s o e = rw e

pub bad_fields : (s : Store) (o : ℕ) → o < objects s → is_live s o ≡ true → good_fields (object_at s o) ≡ false → records_pass s ≡ false
bad_fields s o h l e = fails_object s o h (live_is s o l ∙ rw e)

-- the record of a free object: its last two fields, and all before them
pub free_parts : (s : Store) (o : ℕ)
    → good_free s o
    ≡ is_zero (part s (object_start o + mode_offset) (verifier_offset - mode_offset)) && (eqb (object_at s o).verifier 0 && eqb (object_at s o).exclusive 0)
unfolding good_free object_at object_from
free_parts s o =
    let at = object_start o in
    let e : at + mode_offset + (verifier_offset - mode_offset) ≡ at + verifier_offset = omega arith in
    let f : at + verifier_offset + 8 ≡ at + exclusive_offset = omega arith in
    zero_add s (at + mode_offset) (verifier_offset - mode_offset) 12 ∙ rw (
      e,
      zero_add s (at + verifier_offset) 8 4,
      f,
      zero_number s (at + verifier_offset) 8,
      zero_number s (at + exclusive_offset) 4,
    )

-- a free object that is zero
pub free_passes : (s : Store) (o : ℕ) (used : List ℕ) → object_start o + object_length ≤ length s → is_live s o ≡ false → good_free s o ≡ true → MarkedBy s o used
    → ObjectPasses s o used 0
unfolding good_object
free_passes s o used h l e m =
    let n = free_held s o h l e in
    record { map = mark_free s o used n m; has = sym (ap (λ (xs : List ℕ). length xs) n); few = omega arith; good = rw l e }

pub free_fails : (s : Store) (o : ℕ) → o < objects s → is_live s o ≡ false → good_free s o ≡ false → records_pass s ≡ false
unfolding good_object
free_fails s o h l e = fails_object s o h (rw l e)

-- a live object whose blocks are marked: the rest of its block numbers decide
pub told_live : (s : Store) (o count : ℕ) (used : List ℕ) (t : Bool) → LiveAt s o count → MarkedTo s o count used
    → t ≡ every file_blocks (good_block (blocks s) (object_at s o)) → Told t s (ObjectPasses s o used count)
told_live s o count used true a m e =
    told_true (record {
      map = mark_end s o count used a m;
      has = held_end s o count a;
      few = a.most;
      good = live_is s o a.live ∙ rw a.fields (sym e);
    })
told_live s o count used false a m e = told_false (fails_object s o a.below (live_is s o a.live ∙ rw a.fields (sym e)))

-- what the check of an object tells
pub counted_bad : {s : Store} {facts : ℕ → Type 0} → records_pass s ≡ false → Counted None s facts
counted_bad f = record { yes = λ n e. let z : ◌≡◌ {A = ℕ} 0 1 = cc in absurd (omega arith); no = λ e. f }

pub counted_blocks : {s : Store} {facts : ℕ → Type 0} (n : ℕ) → facts n → Counted (Some n) s facts
counted_blocks {s} {facts} n f =
    record { yes = λ k e. let w : n ≡ k = cc in rw w at f; no = λ e. let z : ◌≡◌ {A = ℕ} 0 1 = cc in absurd (omega arith) }
