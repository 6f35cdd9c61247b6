-- A reply with an error status leaves the store as it was. Assumes nothing.
use Rattle.std.specs.Prelude as Code
use Rattle.kinds.specs.declared.object.Time.{Time}
use mathlib.Core.Path.{◌≡◌, refl, ap}
use mathlib.Core.Option.{Option}
use mathlib.Core.Logic.{◌≢◌, ◌⊎◌, ⊎_elim}
use mathlib.Core.List.{List}
use Prim.Native.Nat.{ℕ, min}
use native.Mathlib.Omega.{arith}
use lib.ListN.{take}
use Rattle.kinds.specs.Numbers.{OK, DIRECTORY, most_transfer_bytes}
use Rattle.kinds.specs.declared.object.Attributes.{Attributes}
use Rattle.kinds.specs.declared.object.Change.{Change}
use Rattle.kinds.specs.declared.object.Context.{Context}
use Rattle.kinds.specs.declared.call.Settable.{Settable}
use Rattle.kinds.specs.declared.call.How.{How}
use Rattle.kinds.specs.declared.call.Arguments.{Arguments}
use Rattle.kinds.specs.declared.call.Arguments.TheVariants as Arguments
use Rattle.spec.specs.Bytes.{part, overlay, digits, be_of, be_at, bytes_of, words}
use Rattle.spec.specs.Checked.{Checked, refused, passed}
use Rattle.spec.specs.Edits.{remove_name}
use Rattle.spec.specs.Handles.{reach, handle_of, attributes, change}
use Rattle.spec.specs.Image.{Store, objects}
use Rattle.spec.specs.Procedures.{cut, act}
use Rattle.spec.specs.Procedures.Attributes.{getattr, check_setattr, setattr_edit, edited, setattr, granted_bits, access}
use Rattle.spec.specs.Procedures.Data.{reach_regular, read_result, read, check_write, write_done, write, commit}
use Rattle.spec.specs.Procedures.Link.{check_link, link_edit, fail_linking, linked_to, link}
use Rattle.spec.specs.Procedures.Listing.{check_readdir, readdir}
use Rattle.spec.specs.Procedures.Names.{check_lookup, lookup, new_object, touch_directory, new_edit, created_in, Target, new, existing, check_create}
use Rattle.spec.specs.Procedures.Names.{create_edit, create, check_mkdir, mkdir}
use Rattle.spec.specs.Procedures.Removal.{check_remove, check_rmdir, remove_from, remove, rmdir, check_rename, rename_edit, fail_renaming, renamed_to, rename}
use Rattle.spec.specs.Procedures.Volume.{room_result, fsstat, fsinfo, pathconf}
use Rattle.spec.specs.Replies.{result_bytes}
use Rattle.spec.specs.Results.{Result, null, dead, failed, changed, renamed, linked, got_attributes, found, granted, got_bytes, wrote, created, listed, got_room}
use Rattle.spec.specs.Results.{got_limits, got_naming, committed, Done, unchanged, fail_showing, fail_changing, settle}
use Rattle.spec.specs.Rpc.{accepted}

-- the status of a result: OK, or that of the check that refused
unfoldable pub status_of : Result → ℕ
status_of null = OK
status_of (dead status) = status
status_of (failed status a) = status
status_of (changed status c) = status
status_of (renamed status c d) = status
status_of (linked status a c) = status
status_of (got_attributes a) = OK
status_of (found h a d) = OK
status_of (granted a bits) = OK
status_of (got_bytes a eof bytes) = OK
status_of (wrote c count verifier) = OK
status_of (created h a d) = OK
status_of (listed a es eof) = OK
status_of (got_room a total free objects available) = OK
status_of (got_limits a) = OK
status_of (got_naming a) = OK
status_of (committed c verifier) = OK

-- a result with an error status, or that of NULL, which shows no status
abbrev pub NotDone : Result → Type 0
NotDone r = (status_of r ≢ OK) ⊎ (r ≡ null)

-- the store is as it was, unless a status OK is shown
abbrev pub KeptUnlessOK : Store → Done → Type 0
KeptUnlessOK s d = NotDone d.result → d.store ≡ s

-- a result that is neither
abbrev pub ShowsOK : Result → Type 0
ShowsOK r = (status_of r ≡ OK) × (r ≢ null)

changed_ok : (c : Change) → ShowsOK (changed OK c)
unfolding status_of
changed_ok c = (refl, λ e. let z : ◌≡◌ {A = ℕ} 0 1 = cc in omega arith)

wrote_ok : (c : Change) (n v : ℕ) → ShowsOK (wrote c n v)
unfolding status_of
wrote_ok c n v = (refl, λ e. let z : ◌≡◌ {A = ℕ} 0 1 = cc in omega arith)

created_ok : (h : List ℕ) (a : Attributes) (c : Change) → ShowsOK (created h a c)
unfolding status_of
created_ok h a c = (refl, λ e. let z : ◌≡◌ {A = ℕ} 0 1 = cc in omega arith)

renamed_ok : (c d : Option Change) → ShowsOK (renamed OK c d)
unfolding status_of
renamed_ok c d = (refl, λ e. let z : ◌≡◌ {A = ℕ} 0 1 = cc in omega arith)

linked_ok : (a : Option Attributes) (c : Option Change) → ShowsOK (linked OK a c)
unfolding status_of
linked_ok a c = (refl, λ e. let z : ◌≡◌ {A = ℕ} 0 1 = cc in omega arith)

settle_ok : {A : Type 0} (s : Store) (fail : ℕ → Result) (c : Checked A) (go : A → Done) → ((a : A) → ShowsOK (go a).result)
    → KeptUnlessOK s (settle s fail c go)
settle_ok s fail (refused status) go f n = refl
settle_ok s fail (passed a) go f n = ⊎_elim (λ x. absurd (x (f a).0)) (λ x. absurd ((f a).1 x)) n

-- a procedure that only reads
pub settle_unchanged : {A : Type 0} (s : Store) (fail : ℕ → Result) (c : Checked A) (go : A → Result)
    → (settle s fail c (λ a. unchanged s (go a))).store ≡ s
settle_unchanged s fail (refused status) go = refl
settle_unchanged s fail (passed a) go = refl

create_ok : (s : Store) (c : Context) (d : ℕ) (text : List ℕ) (manner : How) (t : Target) → ShowsOK (create_edit s c d text manner t).result
create_ok s c d text manner (new o n) = created_ok _ _ _
create_ok s c d text manner (existing o) = created_ok _ _ _

module _ (s : Store) (c : Context) where
  setattr_error : (h : List ℕ) (a : Settable) (g : Code.Option Time) → KeptUnlessOK s (setattr s c h a g)
  unfolding setattr
  setattr_error h a g = settle_ok s (fail_changing s h) (check_setattr s h a g) (λ o. edited s o (setattr_edit s c o a)) (λ o. changed_ok _)

  write_error : (h : List ℕ) (offset count : ℕ) (bytes : List ℕ) → KeptUnlessOK s (write s c h offset count bytes)
  unfolding write write_done
  write_error h offset count bytes =
      settle_ok s (fail_changing s h) (check_write s h offset count bytes) (λ o. write_done s c o offset (take (min count most_transfer_bytes) bytes))
      (λ o. wrote_ok _ _ _)

  create_error : (h text : List ℕ) (manner : How) → KeptUnlessOK s (create s c h text manner)
  unfolding create
  create_error h text manner =
      settle_ok s (fail_changing s h) (check_create s h text manner) (λ p. create_edit s c p.0 text manner p.1)
      (λ p. create_ok s c p.0 text manner p.1)

  mkdir_error : (h text : List ℕ) (a : Settable) → KeptUnlessOK s (mkdir s c h text a)
  unfolding mkdir
  mkdir_error h text a =
      settle_ok s (fail_changing s h) (check_mkdir s h text a)
      (λ p. created_in s (new_edit s c (new_object c.clock DIRECTORY a) a.size p.1 p.2 p.0 text) p.0 p.1) (λ p. created_ok _ _ _)

  remove_error : (h : List ℕ) (checks : Checked (ℕ × ℕ)) → KeptUnlessOK s (remove_from s c h checks)
  unfolding remove_from
  remove_error h checks =
      settle_ok s (fail_changing s h) checks (λ p. edited s p.0 (touch_directory (remove_name s c.clock p.1) c p.0)) (λ p. changed_ok _)

  rename_error : (h text g title : List ℕ) → KeptUnlessOK s (rename s c h text g title)
  unfolding rename
  rename_error h text g title =
      settle_ok s (fail_renaming s h g) (check_rename s h text g title) (λ p. renamed_to s p.0 p.1 (rename_edit s c p.0 p.1 p.2 p.3 title))
      (λ p. renamed_ok _ _)

  link_error : (h g text : List ℕ) → KeptUnlessOK s (link s c h g text)
  unfolding link
  link_error h g text =
      settle_ok s (fail_linking s h g) (check_link s h g text) (λ p. linked_to s p.0 p.1 (link_edit s c p.0 p.1 p.2 text)) (λ p. linked_ok _ _)

-- the procedures that only read
module _ (s : Store) (h : List ℕ) where
  pub getattr_store : (getattr s h).store ≡ s
  unfolding getattr
  getattr_store = settle_unchanged s dead (reach s h) (λ o. got_attributes (attributes s o))

  pub lookup_store : (text : List ℕ) → (lookup s h text).store ≡ s
  unfolding lookup
  lookup_store text =
      settle_unchanged s (fail_showing s h) (check_lookup s h text) (λ f. found (handle_of s f.1) (attributes s f.1) (attributes s f.0))

  pub access_store : (bits : ℕ) → (access s h bits).store ≡ s
  unfolding access
  access_store bits = settle_unchanged s (fail_showing s h) (reach s h) (λ o. granted (attributes s o) (granted_bits s o bits))

  pub read_store : (offset count : ℕ) → (read s h offset count).store ≡ s
  unfolding read
  read_store offset count = settle_unchanged s (fail_showing s h) (reach_regular s h) (λ o. read_result s o offset count)

  pub readdir_store : (cookie verifier count : ℕ) → (readdir s h cookie verifier count).store ≡ s
  unfolding readdir
  readdir_store cookie verifier count =
      settle_unchanged s (fail_showing s h) (check_readdir s h cookie verifier count) (λ p. listed (attributes s p.0) p.1 p.2)

  pub fsstat_store : (fsstat s h).store ≡ s
  unfolding fsstat
  fsstat_store = settle_unchanged s (fail_showing s h) (reach s h) (room_result s)

  pub fsinfo_store : (fsinfo s h).store ≡ s
  unfolding fsinfo
  fsinfo_store = settle_unchanged s (fail_showing s h) (reach s h) (λ o. got_limits (attributes s o))

  pub pathconf_store : (pathconf s h).store ≡ s
  unfolding pathconf
  pathconf_store = settle_unchanged s (fail_showing s h) (reach s h) (λ o. got_naming (attributes s o))

  pub commit_store : (c : Context) → (commit s c h).store ≡ s
  unfolding commit
  commit_store c = settle_unchanged s (fail_changing s h) (reach_regular s h) (λ o. committed (change s s o) c.verifier)

-- for every call
pub act_kept : (s : Store) (c : Context) (call : List ℕ) (a : Arguments) → NotDone (act s c call a).result → (act s c call a).store ≡ s
unfolding act remove rmdir
act_kept s c call Arguments.Null n = refl
act_kept s c call (Arguments.Getattr h) n = getattr_store s (cut call h)
act_kept s c call (Arguments.Setattr h a g) n = setattr_error s c (cut call h) a g n
act_kept s c call (Arguments.Lookup p) n = lookup_store s (cut call p.directory) (cut call p.name)
act_kept s c call (Arguments.Access h bits) n = access_store s (cut call h) bits
act_kept s c call (Arguments.Read h offset count) n = read_store s (cut call h) offset count
act_kept s c call (Arguments.Write h offset count bytes) n = write_error s c (cut call h) offset count (cut call bytes) n
act_kept s c call (Arguments.Create p manner) n = create_error s c (cut call p.directory) (cut call p.name) manner n
act_kept s c call (Arguments.Mkdir p a) n = mkdir_error s c (cut call p.directory) (cut call p.name) a n
act_kept s c call (Arguments.Remove p) n =
    remove_error s c (cut call p.directory) (check_remove s (cut call p.directory) (cut call p.name)) n
act_kept s c call (Arguments.Rmdir p) n =
    remove_error s c (cut call p.directory) (check_rmdir s (cut call p.directory) (cut call p.name)) n
act_kept s c call (Arguments.Rename p q) n =
    rename_error s c (cut call p.directory) (cut call p.name) (cut call q.directory) (cut call q.name) n
act_kept s c call (Arguments.Link h p) n = link_error s c (cut call h) (cut call p.directory) (cut call p.name) n
act_kept s c call (Arguments.Readdir h cookie verifier count) n = readdir_store s (cut call h) cookie verifier count
act_kept s c call (Arguments.Fsstat h) n = fsstat_store s (cut call h)
act_kept s c call (Arguments.Fsinfo h) n = fsinfo_store s (cut call h)
act_kept s c call (Arguments.Pathconf h) n = pathconf_store s (cut call h)
act_kept s c call (Arguments.Commit h) n = commit_store s (cut call h) c
act_kept s c call Arguments.Unserved n = refl

-- ---- the status word of a reply
-- where the status is OK, the word after the reply's header is 0, but for NULL's, which has none
pub status_word : (space : List ℕ) (xid p : ℕ) (r : Result) → status_of r ≡ OK
    → (r ≡ null) ⊎ (be_at (overlay space 0 (accepted xid 0 (result_bytes p r))) 24 4 ≡ 0)
unfolding status_of overlay part be_at be_of digits bytes_of words accepted result_bytes
status_word space xid p null e = ◌⊎◌.inl refl
status_word space xid p (dead status) e = ◌⊎◌.inr (ap (λ (n : ℕ). be_at (overlay space 0 (accepted xid 0 (result_bytes p (dead n)))) 24 4) e)
status_word space xid p (failed status a) e = ◌⊎◌.inr (ap (λ (n : ℕ). be_at (overlay space 0 (accepted xid 0 (result_bytes p (failed n a)))) 24 4) e)
status_word space xid p (changed status c) e = ◌⊎◌.inr (ap (λ (n : ℕ). be_at (overlay space 0 (accepted xid 0 (result_bytes p (changed n c)))) 24 4) e)
status_word space xid p (renamed status c d) e = ◌⊎◌.inr (ap (λ (n : ℕ). be_at (overlay space 0 (accepted xid 0 (result_bytes p (renamed n c d)))) 24 4) e)
status_word space xid p (linked status a c) e = ◌⊎◌.inr (ap (λ (n : ℕ). be_at (overlay space 0 (accepted xid 0 (result_bytes p (linked n a c)))) 24 4) e)
status_word space xid p (got_attributes a) e = ◌⊎◌.inr refl
status_word space xid p (found h a d) e = ◌⊎◌.inr refl
status_word space xid p (granted a bits) e = ◌⊎◌.inr refl
status_word space xid p (got_bytes a eof bytes) e = ◌⊎◌.inr refl
status_word space xid p (wrote c count verifier) e = ◌⊎◌.inr refl
status_word space xid p (created h a d) e = ◌⊎◌.inr refl
status_word space xid p (listed a es eof) e = ◌⊎◌.inr refl
status_word space xid p (got_room a total free objects available) e = ◌⊎◌.inr refl
status_word space xid p (got_limits a) e = ◌⊎◌.inr refl
status_word space xid p (got_naming a) e = ◌⊎◌.inr refl
status_word space xid p (committed c verifier) e = ◌⊎◌.inr refl
