-- SETATTR and WRITE keep the invariant. Assumes nothing.
use Rattle.std.specs.Prelude.{Option, Some, None}
use Rattle.kinds.specs.declared.object.Time.{Time}
use mathlib.Core.Path.{◌≡◌, refl, sym, ◌∙◌, subst}
use mathlib.Core.Bool.{Bool, true, cond}
use mathlib.Core.List.{List}
use Prim.Native.Nat.{ℕ, zero, suc, ◌+◌, ◌-◌, ◌≤◌, ◌<◌, min}
use native.Mathlib.Omega.{arith}
use lib.Dec.{eqb, lit<}
use lib.ListN.{length, take, length-take}
use borrow.Author.Tests.{eqb-false}
use Rattle.kinds.specs.Numbers.{most_file_bytes, most_transfer_bytes}
use Rattle.kinds.specs.declared.object.Context.{Context}
use Rattle.kinds.specs.declared.call.Settable.{Settable}
use Rattle.spec.specs.Checked.{Checked, refused, passed}
use Rattle.spec.specs.Edits.{set_attributes, resize, mtime_and_ctime, write_file}
use Rattle.spec.specs.Image.{Store, objects, blocks, object_at}
use Rattle.spec.specs.Procedures.Attributes.{is_given, size_set, resize_to, check_setattr, setattr_edit, size_touches, edited, setattr}
use Rattle.spec.specs.Procedures.Data.{grown, check_write, write_edit, write_store, write_done, write}
use Rattle.spec.specs.Results.{fail_changing, settle}
use Rattle.spec.specs.Room.{is_live, size_of, need, free_block_count}
use Rattle.laws.proofs.ActGood.{regular_of}
use Rattle.laws.proofs.Count.{by_bool}
use Rattle.laws.proofs.GoodRecords.{GoodClock, live_at}
use Rattle.laws.proofs.Passed.{SetattrPassed, setattr_passed, WritePassed, write_passed}
use Rattle.laws.proofs.Range.{Below, below_take}
use Rattle.laws.proofs.Resize.{resize_size}
use Rattle.laws.proofs.SetAttributes.{FitsSettable, size_touches_fits, size_touches_allowed, mtime_and_ctime_fits, mtime_and_ctime_allowed}
use Rattle.laws.proofs.Valid.{live_true}
use Rattle.history.specs.Book.{Ledger}
use Rattle.history.proofs.View.{LiveIn}
use Rattle.history.proofs.Seen.{view, kind_at, live_in}
use Rattle.laws.proofs.FreeRoom.{good_size_small}
use Rattle.history.proofs.Inv.{Inv, Keeps, keeps_refl, keeps_trans, good, touch_inv, forget_inv, resize_inv, write_inv}

pub seen_live : (s : Store) (o : ℕ) → o < objects s → is_live s o ≡ true → LiveIn (view s) o
seen_live s o l e = omega (arith, kind_at s o l, live_true s o e)

pub resize_to_lem : (σ p q r : ℕ) (s : Store) (L : Ledger) → Inv σ p q r s L → (o : ℕ) (z : Option ℕ) → (is_given z ≡ true → (view s).kind o ≡ 1)
    → size_set z 0 ≤ most_file_bytes
    → need (size_set z (size_of s o)) - need (size_of s o) ≤ free_block_count s → Keeps σ p q r s (resize_to s o z) L
resize_to_lem σ p q r s L I o None k m h = keeps_refl σ p q r s L I
resize_to_lem σ p q r s L I o (Some n) k m h = resize_inv σ p q r s L I o n (k refl) m h

module _ (σ p q r : ℕ) (s : Store) (L : Ledger) (I : Inv σ p q r s L) (c : Context) (clock : GoodClock c.clock) where
  -- ---- SETATTR
  setattr_edit_lem : (h : List ℕ) (a : Settable) (g : Option Time) (o : ℕ) → FitsSettable a → SetattrPassed s h a g o → Keeps σ p q r s (setattr_edit s c o a) L
  unfolding setattr_edit
  setattr_edit_lem h a g o f w =
      let k = kind_at s o w.reached.below in
      let l : LiveIn (view s) o = omega (arith, w.reached.live) in
      let first = resize_to_lem σ p q r s L I o a.size
      (λ t. k ∙ regular_of (blocks s) (object_at s o) (live_at s (good σ p q r s L I) o w.reached.below w.reached.live) (w.not_directory t))
      w.allowed.size w.room in
      let t = resize_to s o a.size in
      let m : LiveIn (view t) o = omega (arith, first.kinds o l) in
      let second = touch_inv σ p q r t L first.owes.inv c.clock o (size_touches a) m clock (size_touches_fits a f)
      (size_touches_allowed a w.allowed) in
      let u = set_attributes t c.clock o (size_touches a) in
      let third = forget_inv σ p q r u L second.owes.inv o (omega (arith, second.kinds o m)) in
      keeps_trans σ p q r s t _ L L first (keeps_trans σ p q r t u _ L L second third)

  pub setattr_keeps : (h : List ℕ) (a : Settable) (g : Option Time) → FitsSettable a → Keeps σ p q r s (setattr s c h a g).store L
  unfolding setattr
  setattr_keeps h a g f = go (check_setattr s h a g) refl
    where
      go : (x : Checked ℕ) → check_setattr s h a g ≡ x → Keeps σ p q r s (settle s (fail_changing s h) x (λ o. edited s o (setattr_edit s c o a))).store L
      go (refused status) e = keeps_refl σ p q r s L I
      go (passed o) e = setattr_edit_lem h a g o f (setattr_passed s h a g o e)

  -- ---- WRITE
  write_some : (o offset : ℕ) (xs : List ℕ) → (view s).kind o ≡ 1 → Below 256 xs → offset + length xs ≤ most_file_bytes
      → need (grown s o offset (length xs)) - need (size_of s o) ≤ free_block_count s → Keeps σ p q r s (write_edit s c o offset xs) L
  unfolding write_edit
  write_some o offset xs k b m room =
      let n = live_in s o (omega arith) in
      let size = grown s o offset (length xs) in
      let small : size ≤ most_file_bytes = omega (arith, good_size_small s o (I.valid.good_objects o n)) in
      let first = resize_inv σ p q r s L I o size k small room in
      let t = resize s o size in
      let l : LiveIn (view t) o = omega (arith, first.kinds o (omega arith)) in
      let g = good σ p q r s L I in
      let fill = resize_size s o size g.sound n (live_at s g o n (omega (arith, kind_at s o n))) small room in
      let second = write_inv σ p q r t L first.owes.inv o offset xs l b (omega arith) in
      let u = write_file t o offset xs in
      let third = touch_inv σ p q r u L second.owes.inv c.clock o mtime_and_ctime (omega (arith, second.kinds o l)) clock mtime_and_ctime_fits
      mtime_and_ctime_allowed in
      keeps_trans σ p q r s t _ L L first (keeps_trans σ p q r t u _ L L second third)

  write_edit_lem : (h : List ℕ) (offset count : ℕ) (bytes : List ℕ) (o : ℕ) → Below 256 bytes → WritePassed s h offset count bytes o
      → Keeps σ p q r s (write_store s c o offset (take (min count most_transfer_bytes) bytes)) L
  unfolding write_store
  write_edit_lem h offset count bytes o b w =
      let xs = take (min count most_transfer_bytes) bytes in
      let n : length xs ≡ min count most_transfer_bytes = omega (arith, length-take (min count most_transfer_bytes) bytes, w.counted) in
      let K : Bool → Type 0 = λ t. Keeps σ p q r s (cond t s (write_edit s c o offset xs)) L in
      by_bool (eqb (length xs) 0)
      (λ t. subst K (sym t) (keeps_refl σ p q r s L I))
      (λ t. let z = eqb-false (length xs) 0 t in
      let some : 0 < count = count_some count (λ e. z (omega arith)) in
      subst K (sym t)
      (write_some o offset xs (kind_at s o w.reached.below ∙ w.regular) (below_take 256 bytes (min count most_transfer_bytes) (lit< tt) b)
      (omega (arith, w.fits some))
      (subst (λ (y : ℕ). need (grown s o offset y) - need (size_of s o) ≤ free_block_count s) (sym n) (w.room some))))
    where
      count_some : (k : ℕ) → (k ≡ 0 → ⊥) → 0 < k
      count_some zero f = absurd (f refl)
      count_some (suc k) f = omega arith

  pub write_keeps : (h : List ℕ) (offset count : ℕ) (bytes : List ℕ) → Below 256 bytes → Keeps σ p q r s (write s c h offset count bytes).store L
  unfolding write write_done
  write_keeps h offset count bytes b = go (check_write s h offset count bytes) refl
    where
      go : (x : Checked ℕ) → check_write s h offset count bytes ≡ x
          → Keeps σ p q r s (settle s (fail_changing s h) x (λ o. write_done s c o offset (take (min count most_transfer_bytes) bytes))).store L
      go (refused status) e = keeps_refl σ p q r s L I
      go (passed o) e = write_edit_lem h offset count bytes o b (write_passed s h offset count bytes o e)
