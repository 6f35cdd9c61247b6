-- Every call: a file that it does not address keeps its contents, and what WRITE and SETATTR make of the one that they address. Assumes nothing.
use Rattle.std.specs.Prelude.{Option}
use Rattle.kinds.specs.declared.object.Time.{Time}
use mathlib.Core.Path.{◌≡◌, refl, sym, ap, ◌∙◌}
use mathlib.Core.Logic.{◌≢◌, ⊎_elim, ◌⊎◌}
use mathlib.Core.List.{List}
use Prim.Native.Nat.{ℕ, ◌^◌, ◌<◌, min}
use native.Mathlib.Omega.{arith}
use lib.Dec.{ltb}
use lib.ListN.{take}
use borrow.Author.Tests.{ltb-false}
use Rattle.kinds.specs.Numbers.{REGULAR, DIRECTORY, most_transfer_bytes}
use Rattle.kinds.specs.declared.object.Context.{Context}
use Rattle.kinds.specs.declared.call.Settable.{Settable}
use Rattle.kinds.specs.declared.call.How.{How}
use Rattle.kinds.specs.declared.call.Arguments.{Arguments}
use Rattle.kinds.specs.declared.call.Arguments.TheVariants as Arguments
use Rattle.spec.specs.Checked.{Checked, refused, passed}
use Rattle.spec.specs.Edits.{remove_name}
use Rattle.spec.specs.Handles.{reach}
use Rattle.spec.specs.Image.{Store, objects, object_at, name_at}
use Rattle.spec.specs.Procedures.{cut, act}
use Rattle.spec.specs.Procedures.Attributes.{check_setattr, setattr_edit, edited, setattr}
use Rattle.spec.specs.Procedures.Data.{check_write, write_done, write}
use Rattle.spec.specs.Procedures.Link.{check_link, link_edit, fail_linking, linked_to, link}
use Rattle.spec.specs.Procedures.Names.{new_object, touch_directory, new_edit, created_in, Target, new, existing}
use Rattle.spec.specs.Procedures.Names.{settable_in, new_file, create_edit, check_create, create, check_mkdir, mkdir}
use Rattle.spec.specs.Procedures.Removal.{check_remove, check_rmdir, remove_from, remove, rmdir, check_rename, rename_edit, fail_renaming, renamed_to, rename}
use Rattle.spec.specs.Results.{Result, Done, fail_changing, settle}
use Rattle.spec.specs.Room.{namings}
use Rattle.spec.specs.Serve.{serve}
use Rattle.laws.proofs.ActGood.{not_given}
use Rattle.laws.proofs.ArgumentRange.{FitsHow, FitsArguments, arguments_fit}
use Rattle.laws.proofs.Count.{by_bool, true_false}
use Rattle.laws.proofs.Error.{getattr_store, lookup_store, access_store, read_store, readdir_store, fsstat_store, fsinfo_store, pathconf_store, commit_store}
use Rattle.laws.proofs.GoodRecords.{GoodRecords, GoodClock, used_at}
use Rattle.laws.proofs.Handles.{reached_passes, directory_passes}
use Rattle.laws.proofs.NewObject.{new_fresh, file_kind, file_fresh}
use Rattle.laws.proofs.Passed.{setattr_passed, write_passed, CreatePassed, create_passed, mkdir_passed}
use Rattle.laws.proofs.Passed.{remove_passed, rmdir_passed, rename_passed, link_passed, found_record}
use Rattle.laws.proofs.Range.{Below}
use Rattle.laws.proofs.RecordRange.{cut_below}
use Rattle.laws.proofs.Served.{Ran, serve_ran}
use Rattle.laws.proofs.SetAttributes.{FitsSettable}
use Rattle.laws_contents.specs.Addressed.{Named, LastNamed, Addresses}
use Rattle.laws_contents.specs.Contents.{contents}
use Rattle.laws_contents.specs.Written.{written, sized_to}
use Rattle.laws_contents.proofs.SizeSet.{MaySize}
use Rattle.laws_contents.proofs.Procedures.{setattr_contents, setattr_others, write_passed_written, write_passed_others}
use Rattle.laws_contents.proofs.Procedures.{existing_others, new_others, removed_others, removed_one, renamed_contents, linked_contents}
use Rattle.kinds.specs.declared.call.How.TheVariants as How

-- ---- the file that a call addresses
module _ (s : Store) (g : GoodRecords s) (c : Context) (k : GoodClock c.clock) where
  -- a WRITE that passes its checks writes the bytes that it moves into the contents
  pub write_call_lem : (h : List ℕ) (offset count : ℕ) (bytes : List ℕ) (o : ℕ) → Below 256 bytes → check_write s h offset count bytes ≡ passed o
      → contents (write s c h offset count bytes).store o ≡ written (contents s o) offset (take (min count most_transfer_bytes) bytes)
  unfolding write write_done
  write_call_lem h offset count bytes o w e = rw e (write_passed_written s g c k h offset count bytes o w (write_passed s h offset count bytes o e))

  -- a SETATTR that passes its checks cuts or pads the contents where it sets a size
  pub setattr_call_lem : (h : List ℕ) (a : Settable) (w : Option Time) (o : ℕ) → FitsSettable a → check_setattr s h a w ≡ passed o
      → contents (setattr s c h a w).store o ≡ sized_to (contents s o) a.size
  unfolding setattr
  setattr_call_lem h a w o f e = rw e (setattr_contents s g c k h a w o f (setattr_passed s h a w o e))

-- ---- every other file
module _ (s : Store) (g : GoodRecords s) (c : Context) (k : GoodClock c.clock) (p : ℕ) (l : p < objects s) (r : (object_at s p).kind ≡ REGULAR) where
  -- a call that is refused leaves the store
  settled : {A : Type 0} (fail : ℕ → Result) (checks : Checked A) (go : A → Done) → ((a : A) → checks ≡ passed a → contents (go a).store p ≡ contents s p)
      → contents (settle s fail checks go).store p ≡ contents s p
  settled fail (refused status) go f = refl
  settled fail (passed a) go f = f a refl

  -- p is the object that a handle reaches, or it is another
  other_handle : (h : List ℕ) (o : ℕ) → ¬ (reach s h ≡ passed p) → reach s h ≡ passed o → p ≢ o
  other_handle h o no_one e q = no_one (e ∙ ap (λ (i : ℕ). passed i) (sym q))

  setattr_frame : (h : List ℕ) (a : Settable) (w : Option Time) → FitsSettable a → ¬ (reach s h ≡ passed p)
      → contents (setattr s c h a w).store p ≡ contents s p
  unfolding setattr
  setattr_frame h a w f z =
      settled (fail_changing s h) (check_setattr s h a w) (λ o. edited s o (setattr_edit s c o a)) (λ o e.
      let q = setattr_passed s h a w o e in
      setattr_others s g c k h a w o f q p l (other_handle h o z (reached_passes s h o q.reached)))

  write_frame : (h : List ℕ) (offset count : ℕ) (bytes : List ℕ) → Below 256 bytes → ¬ (reach s h ≡ passed p)
      → contents (write s c h offset count bytes).store p ≡ contents s p
  unfolding write write_done
  write_frame h offset count bytes w z =
      settled (fail_changing s h) (check_write s h offset count bytes) (λ o. write_done s c o offset (take (min count most_transfer_bytes) bytes)) (λ o e.
      let q = write_passed s h offset count bytes o e in
      write_passed_others s g c k h offset count bytes o w q p l (other_handle h o z (reached_passes s h o q.reached)))

  -- a record that is taken for a new object was free
  not_new : (o : ℕ) → (object_at s o).kind ≡ 0 → p ≢ o
  not_new o e q = omega (arith, ap (λ (i : ℕ). (object_at s i).kind) q)

  create_target : (h text : List ℕ) (manner : How) (d : ℕ) (t : Target) → Below 256 text → FitsHow manner → ¬ Named s h text p
      → CreatePassed s h text manner d t → contents (create_edit s c d text manner t).store p ≡ contents s p
  create_target h text manner d (new o n) w f z q =
      new_others s g c k (new_file c.clock manner) (settable_in manner).size o n d text (file_fresh c.clock manner k f q.allowed)
      (λ _. file_kind c.clock manner) q.allowed.size q.target.1 q.reached.below q.directory q.good w p l
      (not_new o q.target.1.object_free)
  create_target h text manner d (existing o) w f z q =
      let (n, e, i, x) = q.target in
      let y = found_record s d text n e in
      let u = used_at s g n y.0 y.1 in
      let m : MaySize s o (settable_in manner).size = record { below = rw i at u.0; regular = λ _. x.regular; small = q.allowed.size; room = x.room } in
      existing_others s g c k o (settable_in manner).size m p l (λ a. z (record {
        directory = d;
        entry = n;
        reached = directory_passes s h d q.reached q.directory;
        found = e;
        child = i ∙ sym a;
      }))

  create_frame : (h text : List ℕ) (manner : How) → Below 256 text → FitsHow manner → ¬ Named s h text p
      → contents (create s c h text manner).store p ≡ contents s p
  unfolding create
  create_frame h text manner w f z =
      settled (fail_changing s h) (check_create s h text manner) (λ x. create_edit s c x.0 text manner x.1) (λ x e.
      create_target h text manner x.0 x.1 w f z (create_passed s h text manner x e))

  mkdir_frame : (h text : List ℕ) (a : Settable) → Below 256 text → FitsSettable a → contents (mkdir s c h text a).store p ≡ contents s p
  unfolding mkdir
  mkdir_frame h text a w f =
      let v = new_object c.clock DIRECTORY a in
      settled (fail_changing s h) (check_mkdir s h text a) (λ x. created_in s (new_edit s c v a.size x.1 x.2 x.0 text) x.0 x.1) (λ x e.
      let q = mkdir_passed s h text a x e in
      new_others s g c k v a.size x.1 x.2 x.0 text (new_fresh c.clock DIRECTORY a k (◌⊎◌.inr refl) f q.allowed)
      (λ given. true_false (sym given ∙ q.no_size)) q.allowed.size (rw (not_given a.size q.no_size) q.room) q.reached.below
      q.directory q.good w p l (not_new x.1 q.room.object_free))

  remove_frame : (h text : List ℕ) → ¬ LastNamed s h text p → contents (remove s c h text).store p ≡ contents s p
  unfolding remove remove_from
  remove_frame h text z =
      settled (fail_changing s h) (check_remove s h text) (λ x. edited s x.0 (touch_directory (remove_name s c.clock x.1) c x.0)) (λ x e.
      let q = (remove_passed s h text x e).entry in
      let (i, u, _, _) = found_record s x.0 text x.1 q.found in
      by_bool (ltb 1 (namings s (name_at s x.1).child))
      (λ t. removed_one s g c k x.1 i u t x.0 q.reached.below p l)
      (λ t. removed_others s g c k x.1 i u x.0 q.reached.below p l (λ a. z (record {
        named = record {
          directory = x.0;
          entry = x.1;
          reached = directory_passes s h x.0 q.reached q.directory;
          found = q.found;
          child = sym a;
        };
        last = rw a (ltb-false 1 (namings s (name_at s x.1).child) t);
      }))))

  -- a file is no directory
  rmdir_frame : (h text : List ℕ) → contents (rmdir s c h text).store p ≡ contents s p
  unfolding rmdir remove_from
  rmdir_frame h text =
      settled (fail_changing s h) (check_rmdir s h text) (λ x. edited s x.0 (touch_directory (remove_name s c.clock x.1) c x.0)) (λ x e.
      let q = rmdir_passed s h text x e in
      let y = found_record s x.0 text x.1 q.entry.found in
      removed_others s g c k x.1 y.0 y.1 x.0 q.entry.reached.below p l
      (λ a. omega (arith, q.child_directory, ap (λ (i : ℕ). (object_at s i).kind) a)))

  rename_frame : (h text j title : List ℕ) → Below 256 title → ¬ LastNamed s j title p → contents (rename s c h text j title).store p ≡ contents s p
  unfolding rename
  rename_frame h text j title w z =
      settled (fail_renaming s h j) (check_rename s h text j title)
      (λ x. renamed_to s x.0 x.1 (rename_edit s c x.0 x.1 x.2 x.3 title)) (λ x e.
      let q = rename_passed s h text j title x e in
      renamed_contents s g c k h text j title x.0 x.1 x.2 x.3 w q p l (λ m f a few. z (record {
        named = record {
          directory = x.1;
          entry = m;
          reached = directory_passes s j x.1 q.target_reached q.target_directory;
          found = f;
          child = sym a;
        };
        last = few;
      })))

  link_frame : (h j text : List ℕ) → Below 256 text → contents (link s c h j text).store p ≡ contents s p
  unfolding link
  link_frame h j text w =
      settled (fail_linking s h j) (check_link s h j text) (λ x. linked_to s x.0 x.1 (link_edit s c x.0 x.1 x.2 text)) (λ x e.
      linked_contents s g c k h j text x.0 x.1 x.2 w (link_passed s h j text x e) p l)

  kept : (t : Store) → t ≡ s → contents t p ≡ contents s p
  kept t e = rw e refl

  -- a call that does not address the file keeps its contents
  pub act_others : (call : List ℕ) (a : Arguments) → Below 256 call → FitsArguments a → ¬ Addresses s call a p
      → contents (act s c call a).store p ≡ contents s p
  unfolding act
  act_others call Arguments.Null w f z = refl
  act_others call (Arguments.Getattr h) w f z = kept _ (getattr_store s (cut call h))
  act_others call (Arguments.Setattr h a j) w f z = setattr_frame (cut call h) a j f z
  act_others call (Arguments.Lookup q) w f z = kept _ (lookup_store s (cut call q.directory) (cut call q.name))
  act_others call (Arguments.Access h bits) w f z = kept _ (access_store s (cut call h) bits)
  act_others call (Arguments.Read h offset count) w f z = kept _ (read_store s (cut call h) offset count)
  act_others call (Arguments.Write h offset count bytes) w f z = write_frame (cut call h) offset count (cut call bytes) (cut_below call bytes w) z
  act_others call (Arguments.Create q manner) w f z = create_frame (cut call q.directory) (cut call q.name) manner (cut_below call q.name w) f z
  act_others call (Arguments.Mkdir q a) w f z = mkdir_frame (cut call q.directory) (cut call q.name) a (cut_below call q.name w) f
  act_others call (Arguments.Remove q) w f z = remove_frame (cut call q.directory) (cut call q.name) z
  act_others call (Arguments.Rmdir q) w f z = rmdir_frame (cut call q.directory) (cut call q.name)
  act_others call (Arguments.Rename q j) w f z =
      rename_frame (cut call q.directory) (cut call q.name) (cut call j.directory) (cut call j.name) (cut_below call j.name w) z
  act_others call (Arguments.Link h q) w f z = link_frame (cut call h) (cut call q.directory) (cut call q.name) (cut_below call q.name w)
  act_others call (Arguments.Readdir h cookie verifier count) w f z = kept _ (readdir_store s (cut call h) cookie verifier count)
  act_others call (Arguments.Fsstat h) w f z = kept _ (fsstat_store s (cut call h))
  act_others call (Arguments.Fsinfo h) w f z = kept _ (fsinfo_store s (cut call h))
  act_others call (Arguments.Pathconf h) w f z = kept _ (pathconf_store s (cut call h))
  act_others call (Arguments.Commit h) w f z = kept _ (commit_store s (cut call h) c)
  act_others call Arguments.Unserved w f z = refl

-- the entry: whatever the answer, a file that the call does not address keeps its contents
pub serve_others : (call : List ℕ) (s : Store) (space : List ℕ) (c : Context) → GoodRecords s → Below 256 call → c.clock.seconds < 2 ^ 32
    → (p : ℕ) → p < objects s → (object_at s p).kind ≡ REGULAR → ((x : Ran call s space c) → ¬ Addresses s call x.asked p)
    → contents (serve call s space c).store p ≡ contents s p
serve_others call s space c g w h p l r z =
    ⊎_elim
    (λ (e : (serve call s space c).store ≡ s). rw e refl)
    (λ (x : Ran call s space c). rw x.outcome
    (act_others s g c (record { seconds = h; nanoseconds = x.clock_valid }) p l r call x.asked w
    (arguments_fit x.head.procedure call w x.at x.asked x.next x.asked_read) (z x)))
    (serve_ran call s space c)
