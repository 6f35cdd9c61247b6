-- The statuses of checks that refuse. What holds of every error but NOSPC and MLINK, of NOSPC where room is asked for, and of MLINK where LINK may
-- answer it, holds of the status with which the checks of each procedure refuse. Assumes nothing.
use Rattle.std.specs.Prelude as Code
use Rattle.kinds.specs.declared.object.Time.{Time}
use mathlib.Core.Path.{◌≡◌, refl, sym, ap, ◌∙◌, subst}
use mathlib.Core.Logic.{◌≢◌}
use mathlib.Core.Bool.{Bool, true, false, ◌&&◌, ◌||◌, not, cond}
use mathlib.Core.Option.{Option, some, none}
use mathlib.Core.List.{List}
use Prim.Native.Nat.{ℕ, zero, suc, ◌+◌, ◌-◌, ◌≤◌, ◌<◌, min}
use native.Mathlib.Omega.{arith}
use lib.Dec.{eqb, leb, ltb, lit<}
use lib.ListN.{length}
use borrow.Author.Tests.{eqb-true, eqb-false, ltb-false, not-true, not-false}
use Rattle.kinds.specs.Numbers.{NOENT, ACCES, EXIST, NOTDIR, INVAL, FBIG, NOSPC, MLINK, NAMETOOLONG, NOTEMPTY, STALE, BADHANDLE}
use Rattle.kinds.specs.Numbers.{NOT_SYNC, BAD_COOKIE, TOOSMALL, most_name_bytes}
use Rattle.kinds.specs.Numbers.{most_transfer_bytes, listing_cost, entry_fixed_cost, most_file_bytes, most_links, handle_length}
use Rattle.kinds.specs.declared.call.Settable.{Settable}
use Rattle.kinds.specs.declared.call.How.{How}
use Rattle.kinds.specs.declared.call.How.TheVariants as How
use Rattle.spec.specs.Bytes.{be_at}
use Rattle.spec.specs.Checked.{Checked, refused, passed, bind, refuse_if, present, absent}
use Rattle.spec.specs.Handles.{reach, reach_directory, check_name}
use Rattle.spec.specs.Image.{Store, stamp, objects, object_at, name_at}
use Rattle.spec.specs.Names.{good_bytes, is_dot, is_dot_dot, is_dots}
use Rattle.spec.specs.Procedures.Attributes.{is_given, size_set, bad_attributes, differs, lacks_room, check_setattr}
use Rattle.spec.specs.Procedures.Data.{reach_regular, grown, check_write}
use Rattle.spec.specs.Procedures.Link.{check_added, check_link}
use Rattle.spec.specs.Procedures.Listing.{entries, entries_above, is_nothing, fitting, check_listing, check_readdir_in, check_readdir}
use Rattle.spec.specs.Procedures.Names.{child_of, look_in, check_in, check_lookup, room_for_new, is_new, settable_in, is_taken, check_existing, target_of, check_new}
use Rattle.spec.specs.Procedures.Names.{check_how, check_create, check_mkdir}
use Rattle.spec.specs.Procedures.Removal.{check_entry, check_remove, has_entries, check_rmdir, is_within, is_replaceable, check_replace, onto, check_move}
use Rattle.spec.specs.Procedures.Removal.{check_rename}
use Rattle.spec.specs.Results.{Entry}
use Rattle.spec.specs.Room.{is_live, is_regular, is_directory, size_of, available_object, available_name, find_name, namings, parent}
use Rattle.laws.proofs.Count.{by_bool, and_both, true_false}
use Rattle.laws.proofs.Resent.{same_size}

-- P holds of the status, where the checks refuse
abbrev pub Tells : {A : Type 0} → (ℕ → Type 0) → Checked A → Type 0
Tells P c = (status : ℕ) → c ≡ refused status → P status

-- an error other than NOSPC and MLINK
abbrev pub Plain : ℕ → Type 0
Plain n = (0 < n) × (n < 4294967296) × (n ≢ NOSPC) × (n ≢ MLINK)

-- LINK passes its checks before MLINK: the source is file o, and directory d does not have the name
pub record MayAdd (s : Store) (h g text : List ℕ) (o d : ℕ) : Type 0 where
  pub reached : reach s h ≡ passed o
  pub file : is_directory s o ≡ false
  pub directory : reach_directory s g ≡ passed d
  pub name : check_name text ≡ passed tt
  pub no_dots_lem : is_dots text ≡ false
  pub fresh : find_name s d text ≡ none

-- ---- checks in order
module _ (P : ℕ → Type 0) where
  pub tells_passed : {A : Type 0} (a : A) → Tells P (passed a)
  tells_passed a status e = let z : ◌≡◌ {A = ℕ} 0 1 = cc in absurd (omega arith)

  pub tells_refused : {A : Type 0} (n : ℕ) → P n → Tells {A = A} P (refused n)
  tells_refused n h status e = let z : n ≡ status = cc in subst P z h

  pub tells_bind : {A B : Type 0} (c : Checked A) (k : A → Checked B) → Tells P c → ((a : A) → c ≡ passed a → Tells P (k a)) → Tells P (bind c k)
  tells_bind (refused n) k h f = tells_refused n (h n refl)
  tells_bind (passed a) k h f = f a refl

  -- a test with its status, and the rest
  pub tells_if : {B : Type 0} (t : Bool) (n : ℕ) (k : Checked B) → (t ≡ true → P n) → (t ≡ false → Tells P k) → Tells P (bind (refuse_if t n) (λ _. k))
  tells_if true n k h f = tells_refused n (h refl)
  tells_if false n k h f = f refl

  tells_last : (t : Bool) (n : ℕ) → P n → Tells P (refuse_if t n)
  tells_last true n h = tells_refused n h
  tells_last false n h = tells_passed tt

  tells_present : (n : ℕ) (x : Option ℕ) → P n → Tells P (present n x)
  tells_present n none h = tells_refused n h
  tells_present n (some m) h = tells_passed m

  tells_absent : (n : ℕ) (x : Option ℕ) → P n → Tells P (absent n x)
  tells_absent n none h = tells_passed tt
  tells_absent n (some m) h = tells_refused n h

  tells_cond : {A : Type 0} (t : Bool) (a b : Checked A) → Tells P a → Tells P b → Tells P (cond t a b)
  tells_cond true a b x y = x
  tells_cond false a b x y = y

nothing : (o : Option ℕ) → absent EXIST o ≡ passed tt → o ≡ none
nothing none e = refl
nothing (some n) e = let z : ◌≡◌ {A = ℕ} 0 1 = cc in absurd (omega arith)

-- ---- the checks of each procedure
module _ (P : ℕ → Type 0) (plain : (n : ℕ) → Plain n → P n) (s : Store) where
  noent : P NOENT
  noent = plain NOENT (lit< tt, lit< tt, omega arith, omega arith)

  acces : P ACCES
  acces = plain ACCES (lit< tt, lit< tt, omega arith, omega arith)

  exist : P EXIST
  exist = plain EXIST (lit< tt, lit< tt, omega arith, omega arith)

  notdir : P NOTDIR
  notdir = plain NOTDIR (lit< tt, lit< tt, omega arith, omega arith)

  inval : P INVAL
  inval = plain INVAL (lit< tt, lit< tt, omega arith, omega arith)

  stale : P STALE
  stale = plain STALE (lit< tt, lit< tt, omega arith, omega arith)

  bad_handle : P BADHANDLE
  bad_handle = plain BADHANDLE (lit< tt, lit< tt, omega arith, omega arith)

  too_small : P TOOSMALL
  too_small = plain TOOSMALL (lit< tt, lit< tt, omega arith, omega arith)

  pub reach_tells : (h : List ℕ) → Tells P (reach s h)
  unfolding reach
  reach_tells h =
      tells_if P (not (eqb (length h) handle_length)) BADHANDLE _ (λ _. bad_handle) (λ _.
      tells_if P (leb (objects s) (be_at h 4 4)) BADHANDLE _ (λ _. bad_handle) (λ _.
      tells_if P (not (eqb (be_at h 0 4) (stamp s))) STALE _ (λ _. stale) (λ _.
      tells_if P (not (is_live s (be_at h 4 4))) STALE _ (λ _. stale) (λ _.
      tells_if P (not (eqb (be_at h 8 4) (object_at s (be_at h 4 4)).generation)) STALE _ (λ _. stale) (λ _. tells_passed P _)))))

  directory_tells : (h : List ℕ) → Tells P (reach_directory s h)
  unfolding reach_directory
  directory_tells h = tells_bind P (reach s h) _ (reach_tells h) (λ d _. tells_if P (not (is_directory s d)) NOTDIR _ (λ _. notdir) (λ _. tells_passed P _))

  pub regular_tells : (h : List ℕ) → Tells P (reach_regular s h)
  unfolding reach_regular
  regular_tells h = tells_bind P (reach s h) _ (reach_tells h) (λ o _. tells_if P (not (is_regular s o)) INVAL _ (λ _. inval) (λ _. tells_passed P _))

  name_tells : (text : List ℕ) → Tells P (check_name text)
  unfolding check_name
  name_tells text =
      tells_if P (eqb (length text) 0) ACCES _ (λ _. acces) (λ _.
      tells_if P (not (leb (length text) most_name_bytes)) NAMETOOLONG _ (λ _. plain NAMETOOLONG (lit< tt, lit< tt, omega arith, omega arith)) (λ _.
      tells_last P (not (good_bytes text)) ACCES acces))

  new_tells : (text : List ℕ) (invalid : Bool) → Tells P (check_new text invalid)
  unfolding check_new
  new_tells text invalid =
      tells_bind P (check_name text) _ (name_tells text) (λ _ _. tells_if P (is_dots text) EXIST _ (λ _. exist) (λ _. tells_last P invalid INVAL inval))

  in_tells : (d : ℕ) (text : List ℕ) → Tells P (check_in s d text)
  unfolding check_in look_in
  in_tells d text =
      tells_bind P (check_name text) _ (name_tells text) (λ _ _.
      tells_cond P (is_dot text) (passed d) _ (tells_passed P d)
      (tells_cond P (is_dot_dot text) (passed (parent s d)) _ (tells_passed P (parent s d)) (child (find_name s d text))))
    where
      child : (o : Option ℕ) → Tells P (child_of s (present NOENT o))
      child none = tells_refused P NOENT noent
      child (some n) = tells_passed P _

  pub lookup_tells : (h text : List ℕ) → Tells P (check_lookup s h text)
  unfolding check_lookup
  lookup_tells h text =
      tells_bind P (reach_directory s h) _ (directory_tells h) (λ d _.
      tells_bind P (check_in s d text) _ (in_tells d text) (λ o _. tells_passed P _))

  entry_tells : (d : ℕ) (text : List ℕ) (dots : ℕ) → P dots → Tells P (check_entry s d text dots)
  unfolding check_entry
  entry_tells d text dots told =
      tells_bind P (check_name text) _ (name_tells text) (λ _ _.
      tells_if P (is_dots text) dots _ (λ _. told) (λ _. tells_present P NOENT (find_name s d text) noent))

  pub remove_tells : (h text : List ℕ) → Tells P (check_remove s h text)
  unfolding check_remove
  remove_tells h text =
      tells_bind P (reach_directory s h) _ (directory_tells h) (λ d _.
      tells_bind P (check_entry s d text ACCES) _ (entry_tells d text ACCES acces) (λ n _.
      tells_if P (is_directory s (name_at s n).child) ACCES _ (λ _. acces) (λ _. tells_passed P _)))

  pub rmdir_tells : (h text : List ℕ) → Tells P (check_rmdir s h text)
  unfolding check_rmdir
  rmdir_tells h text =
      tells_bind P (reach_directory s h) _ (directory_tells h) (λ d _.
      tells_bind P (check_entry s d text INVAL) _ (entry_tells d text INVAL inval) (λ n _.
      tells_if P (not (is_directory s (name_at s n).child)) NOTDIR _ (λ _. notdir) (λ _.
      tells_if P (has_entries s (name_at s n).child) NOTEMPTY _ (λ _. plain NOTEMPTY (lit< tt, lit< tt, omega arith, omega arith)) (λ _. tells_passed P _))))

  onto_tells : (o : ℕ) (found : Option ℕ) → Tells P (onto s o found)
  unfolding check_replace
  onto_tells o none = tells_passed P _
  onto_tells o (some m) =
      by_bool (eqb (name_at s m).child o)
      (λ t. rw t (tells_passed P _))
      (λ t. rw t (tells_if P (not (is_replaceable s o (name_at s m).child)) EXIST _ (λ _. exist) (λ _. tells_passed P _)))

  pub rename_tells : (h text g title : List ℕ) → Tells P (check_rename s h text g title)
  unfolding check_rename check_move
  rename_tells h text g title =
      tells_bind P (reach_directory s h) _ (directory_tells h) (λ d _.
      tells_bind P (reach_directory s g) _ (directory_tells g) (λ e _.
      tells_bind P (check_name text) _ (name_tells text) (λ _ _.
      tells_bind P (check_name title) _ (name_tells title) (λ _ _.
      tells_if P (is_dots text || is_dots title) INVAL _ (λ _. inval) (λ _.
      tells_bind P (present NOENT (find_name s d text)) _ (tells_present P NOENT (find_name s d text) noent) (λ n _.
      tells_if P (is_within s (name_at s n).child e) INVAL _ (λ _. inval) (λ _.
      tells_bind P (onto s (name_at s n).child (find_name s e title)) _ (onto_tells (name_at s n).child (find_name s e title)) (λ _ _.
      tells_passed P _))))))))

  listing_tells : (head each limit : ℕ) (es : List Entry) → Tells P (check_listing head each limit es)
  unfolding check_listing
  listing_tells head each limit es =
      tells_if P (ltb limit head) TOOSMALL _ (λ _. too_small) (λ _.
      tells_if P (not (is_nothing es) && is_nothing (fitting each (limit - head) es)) TOOSMALL _ (λ _. too_small) (λ _. tells_passed P _))

  pub readdir_tells : (h : List ℕ) (cookie verifier count : ℕ) → Tells P (check_readdir s h cookie verifier count)
  unfolding check_readdir check_readdir_in
  readdir_tells h cookie verifier count =
      tells_bind P (reach_directory s h) _ (directory_tells h) (λ d _.
      tells_bind P (check_readdir_in s d cookie verifier count) _
      (tells_if P (not (eqb verifier 0)) BAD_COOKIE _ (λ _. plain BAD_COOKIE (lit< tt, lit< tt, omega arith, omega arith)) (λ _.
      listing_tells listing_cost entry_fixed_cost (min count most_transfer_bytes) (entries_above cookie (entries s d)))) (λ _ _. tells_passed P _))

  -- ---- those that ask for room
  pub setattr_tells : (h : List ℕ) (a : Settable) (g : Code.Option Time)
      → ((o : ℕ) → reach s h ≡ passed o → differs g (object_at s o).ctime ≡ false → bad_attributes a ≡ false
      → is_given a.size && is_directory s o ≡ false → P NOSPC)
      → Tells P (check_setattr s h a g)
  unfolding check_setattr
  setattr_tells h a g full =
      tells_bind P (reach s h) _ (reach_tells h) (λ o e₁.
      tells_if P (differs g (object_at s o).ctime) NOT_SYNC _ (λ _. plain NOT_SYNC (lit< tt, lit< tt, omega arith, omega arith)) (λ e₂.
      tells_if P (bad_attributes a) INVAL _ (λ _. inval) (λ e₃.
      tells_if P (is_given a.size && is_directory s o) INVAL _ (λ _. inval) (λ e₄.
      tells_if P (lacks_room s (size_of s o) (size_set a.size (size_of s o))) NOSPC _ (λ _. full o e₁ e₂ e₃ e₄) (λ _. tells_passed P _)))))

  pub write_tells : (h : List ℕ) (offset n : ℕ) (bytes : List ℕ)
      → ((o : ℕ) → reach_regular s h ≡ passed o → n ≡ length bytes → 0 < n → offset + min n most_transfer_bytes ≤ most_file_bytes → P NOSPC)
      → Tells P (check_write s h offset n bytes)
  unfolding check_write
  write_tells h offset n bytes full =
      let z = min n most_transfer_bytes in
      tells_bind P (reach_regular s h) _ (regular_tells h) (λ o e₁.
      tells_if P (not (eqb n (length bytes))) INVAL _ (λ _. inval) (λ e₂.
      tells_if P (not (eqb n 0) && ltb most_file_bytes (offset + z)) FBIG _ (λ _. plain FBIG (lit< tt, lit< tt, omega arith, omega arith)) (λ e₃.
      tells_if P (not (eqb n 0) && lacks_room s (size_of s o) (grown s o offset z)) NOSPC _
      (λ e₄. let m = (and_both (not (eqb n 0)) (lacks_room s (size_of s o) (grown s o offset z)) e₄).0 in
      full o e₁ (eqb-true n (length bytes) (not-false (eqb n (length bytes)) e₂)) (some_bytes n (eqb-false n 0 (not-true (eqb n 0) m)))
      (ltb-false most_file_bytes (offset + z) (sym (ap (λ (t : Bool). t && ltb most_file_bytes (offset + z)) m) ∙ e₃)))
      (λ _. tells_passed P _))))
    where
      some_bytes : (n : ℕ) → n ≢ 0 → 0 < n
      some_bytes zero d = absurd (d refl)
      some_bytes (suc n) d = omega arith

  room_tells : (size : ℕ) → P NOSPC → Tells P (room_for_new s size)
  unfolding room_for_new
  room_tells size full =
      tells_bind P (present NOSPC (available_object s)) _ (tells_present P NOSPC (available_object s) full) (λ o _.
      tells_bind P (present NOSPC (available_name s)) _ (tells_present P NOSPC (available_name s) full) (λ n _.
      tells_if P (lacks_room s 0 size) NOSPC _ (λ _. full) (λ _. tells_passed P _)))

  target_tells : (manner : How) (f : Option ℕ) → (f ≡ none → P NOSPC)
      → ((n : ℕ) → f ≡ some n → is_taken s manner (name_at s n).child ≡ true
      → lacks_room s (size_of s (name_at s n).child) (size_set (settable_in manner).size (size_of s (name_at s n).child)) ≡ true → P NOSPC)
      → Tells P (target_of s manner f)
  unfolding check_existing
  target_tells manner none fresh old =
      let size = size_set (settable_in manner).size 0 in
      new (room_for_new s size) (room_tells size (fresh refl))
    where
      new : (c : Checked (ℕ × ℕ)) → Tells P c → Tells P (is_new c)
      new (refused n) h = tells_refused P n (h n refl)
      new (passed y) h = tells_passed P _
  target_tells manner (some n) fresh old =
      let o = (name_at s n).child in
      tells_if P (not (is_taken s manner o)) EXIST _ (λ _. exist) (λ e.
      tells_if P (lacks_room s (size_of s o) (size_set (settable_in manner).size (size_of s o))) NOSPC _ (old n refl (not-false (is_taken s manner o) e)) (λ _.
      tells_passed P _))

  pub create_tells : (h text : List ℕ) (manner : How)
      → ((d : ℕ) → reach_directory s h ≡ passed d → check_new text (bad_attributes (settable_in manner)) ≡ passed tt → find_name s d text ≡ none → P NOSPC)
      → ((d n : ℕ) (a : Settable) → manner ≡ How.Unchecked a → reach_directory s h ≡ passed d
      → check_new text (bad_attributes a) ≡ passed tt → find_name s d text ≡ some n → is_regular s (name_at s n).child ≡ true → P NOSPC)
      → Tells P (check_create s h text manner)
  unfolding check_create check_how
  create_tells h text manner fresh old =
      let invalid = bad_attributes (settable_in manner) in
      tells_bind P (reach_directory s h) _ (directory_tells h) (λ d e.
      tells_bind P (check_how s d text manner) _
      (tells_bind P (check_new text invalid) _ (new_tells text invalid) (λ _ f.
      target_tells manner (find_name s d text) (fresh d e f) (λ n. there d n manner refl e f)))
      (λ t _. tells_passed P _))
    where
      there : (d n : ℕ) (m : How) → manner ≡ m → reach_directory s h ≡ passed d → check_new text (bad_attributes (settable_in m)) ≡ passed tt
          → find_name s d text ≡ some n → is_taken s m (name_at s n).child ≡ true
          → lacks_room s (size_of s (name_at s n).child) (size_set (settable_in m).size (size_of s (name_at s n).child)) ≡ true → P NOSPC
      there d n (How.Unchecked a) w e f g i full = old d n a w e f g i
      there d n (How.Guarded a) w e f g i full = true_false (sym i)
      there d n (How.Exclusive verifier) w e f g i full = true_false (sym full ∙ same_size s (size_of s (name_at s n).child))

  pub mkdir_tells : (h text : List ℕ) (a : Settable)
      → ((d : ℕ) → reach_directory s h ≡ passed d → check_new text (bad_attributes a || is_given a.size) ≡ passed tt → find_name s d text ≡ none → P NOSPC)
      → Tells P (check_mkdir s h text a)
  unfolding check_mkdir
  mkdir_tells h text a full =
      let invalid = bad_attributes a || is_given a.size in
      tells_bind P (reach_directory s h) _ (directory_tells h) (λ d e₁.
      tells_bind P (check_new text invalid) _ (new_tells text invalid) (λ _ e₂.
      tells_bind P (absent EXIST (find_name s d text)) _ (tells_absent P EXIST (find_name s d text) exist) (λ _ e₃.
      tells_bind P (room_for_new s 0) _ (room_tells 0 (full d e₁ e₂ (nothing (find_name s d text) e₃))) (λ p _. tells_passed P _))))

  pub link_tells : (h g text : List ℕ) → ((o d : ℕ) → MayAdd s h g text o d → leb most_links (namings s o) ≡ true → P MLINK)
      → ((o d : ℕ) → MayAdd s h g text o d → leb most_links (namings s o) ≡ false → P NOSPC) → Tells P (check_link s h g text)
  unfolding check_link check_added
  link_tells h g text many full =
      tells_bind P (reach s h) _ (reach_tells h) (λ o e₁.
      tells_if P (is_directory s o) INVAL _ (λ _. inval) (λ e₂.
      tells_bind P (reach_directory s g) _ (directory_tells g) (λ d e₃.
      tells_bind P (check_added s o d text) _
      (tells_bind P (check_name text) _ (name_tells text) (λ _ e₄.
      tells_if P (is_dots text) EXIST _ (λ _. exist) (λ e₅.
      tells_bind P (absent EXIST (find_name s d text)) _ (tells_absent P EXIST (find_name s d text) exist) (λ _ e₆.
      let m : MayAdd s h g text o d = record {
        reached = e₁;
        file = e₂;
        directory = e₃;
        name = e₄;
        no_dots_lem = e₅;
        fresh = nothing (find_name s d text) e₆;
      } in
      tells_if P (leb most_links (namings s o)) MLINK _ (many o d m) (λ e₇. tells_present P NOSPC (available_name s) (full o d m e₇))))))
      (λ n _. tells_passed P _))))

-- ---- a refusal's status is not OK, and fits a word
abbrev pub Failing : ℕ → Type 0
Failing n = (0 < n) × (n < 4294967296)

abbrev pub Sure : {A : Type 0} → Checked A → Type 0
Sure c = Tells Failing c

plainly : (n : ℕ) → Plain n → Failing n
plainly n x = (x.0, x.1)

full : Failing NOSPC
full = (lit< tt, lit< tt)

pub sure_in : (s : Store) (d : ℕ) (text : List ℕ) → Sure (check_in s d text)
sure_in = in_tells Failing plainly

module _ (s : Store) (h text : List ℕ) where
  pub sure_lookup : Sure (check_lookup s h text)
  sure_lookup = lookup_tells Failing plainly s h text

  pub sure_create : (manner : How) → Sure (check_create s h text manner)
  sure_create manner = create_tells Failing plainly s h text manner (λ d e f g. full) (λ d n a w e f g i. full)

  pub sure_mkdir : (a : Settable) → Sure (check_mkdir s h text a)
  sure_mkdir a = mkdir_tells Failing plainly s h text a (λ d e f g. full)

  pub sure_link : (g : List ℕ) → Sure (check_link s h g text)
  sure_link g = link_tells Failing plainly s h g text (λ o d m e. (lit< tt, lit< tt)) (λ o d m e. full)

  pub sure_remove : Sure (check_remove s h text)
  sure_remove = remove_tells Failing plainly s h text

  pub sure_rmdir : Sure (check_rmdir s h text)
  sure_rmdir = rmdir_tells Failing plainly s h text

  pub sure_rename : (g title : List ℕ) → Sure (check_rename s h text g title)
  sure_rename = rename_tells Failing plainly s h text
