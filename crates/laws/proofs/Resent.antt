-- Hosts send CREATE again when its reply was lost: what EXCLUSIVE CREATE answers then. Assumes nothing.
use mathlib.Core.Path.{◌≡◌, refl, sym, ap, ◌∙◌}
use mathlib.Core.Logic.{◌≢◌}
use mathlib.Core.Bool.{Bool, true, false}
use mathlib.Core.Option.{some}
use mathlib.Core.List.{List}
use Prim.Native.Nat.{ℕ, ◌-◌, ◌^◌, ◌<◌}
use native.Mathlib.Omega.{arith}
use lib.ListN.{length}
use borrow.Author.Tests.{eq-eqb, le-ltb}
use Rattle.kinds.specs.Numbers.{DIRECTORY, EXIST}
use Rattle.kinds.specs.declared.object.Attributes.{Attributes}
use Rattle.kinds.specs.declared.object.Change.{Change}
use Rattle.kinds.specs.declared.object.Object.{Object}
use Rattle.kinds.specs.declared.object.Context.{Context}
use Rattle.kinds.specs.declared.call.How.{How}
use Rattle.kinds.specs.declared.call.How.TheVariants as How
use Rattle.spec.specs.Check.{passes}
use Rattle.spec.specs.Checked.{Checked, refused, passed}
use Rattle.spec.specs.Count.{lowest}
use Rattle.spec.specs.Edits.{with_generation, with_verifier, only_ctime, mtime_and_ctime, create_object}
use Rattle.spec.specs.Handles.{handle_of, reach, reach_directory, attributes, before, change}
use Rattle.spec.specs.Image.{Store, objects, names, object_at, name_at, name_length}
use Rattle.spec.specs.Procedures.Attributes.{bad_attributes, lacks_room}
use Rattle.spec.specs.Procedures.Names.{new_edit, touch_directory, created_in, Target, new, existing, is_made_by, check_existing, check_new, check_how, check_create}
use Rattle.spec.specs.Procedures.Names.{new_file, create_edit, create}
use Rattle.spec.specs.Results.{created, Done, unchanged, changing_of, fail_changing, settle}
use Rattle.spec.specs.Room.{size_of, need, free_block_count, is_in, is_named, find_name}
use Rattle.laws.proofs.Bytes.{same_yes}
use Rattle.laws.proofs.Count.{by_bool, lowest_hit, lowest_none}
use Rattle.laws.proofs.CreateObject.{create_object_lem}
use Rattle.laws.proofs.GoodRecords.{GoodRecords, GoodClock, clock_fits, valid_records}
use Rattle.laws.proofs.Handles.{directory_passes}
use Rattle.laws.proofs.NewObject.{file_kind, file_fresh}
use Rattle.laws.proofs.Passed.{bind_passed, Reached, MadeBy, made_true, true_made, CreatePassed, create_passed}
use Rattle.laws.proofs.Range.{Below}
use Rattle.laws.proofs.SameReads.{is_named_reads}
use Rattle.laws.proofs.Searches.{lowest_nothing}
use Rattle.laws.proofs.SetAttributes.{mtime_and_ctime_fits, set_attributes_lem, set_attributes_structure}
use Rattle.laws.proofs.Valid.{Used, valid, true_used}

-- ---- THE STATEMENT
-- the change of a directory that stays as it is: before equal to after
abbrev pub before_as_after : Attributes → Change
before_as_after a = record { before = record { size = a.size; mtime = a.mtime; ctime = a.ctime }; after = a }

-- Say that EXCLUSIVE CREATE of the name `text` in the directory of handle h was answered OK, with this handle, these attributes of the file and this
-- change of the directory, and that it left the store t. What EXCLUSIVE CREATE of that name gives in t, whatever the later clock:
pub record Resent (h text : List ℕ) (verifier : ℕ) (handle : List ℕ) (file : Attributes) (directory : Change) (t : Store) : Type 0 where
  -- with the same verifier it is OK again, with the same handle and attributes, and leaves the directory and the whole store as they are
  pub same_call : (later : Context) → create t later h text (How.Exclusive verifier) ≡ unchanged t (created handle file (before_as_after directory.after))
  -- with any other verifier it is refused with EXIST, and leaves the whole store as it is
  pub other_verifier : (later : Context) (other : ℕ) → other ≢ verifier
      → create t later h text (How.Exclusive other) ≡ unchanged t (fail_changing t h EXIST)

-- ---- the call in a store where the file is
-- `text` stands in the directory d of handle h, in name record n, and names file o, which was made EXCLUSIVE with this verifier
record Stands (t : Store) (h text : List ℕ) (verifier d o n : ℕ) : Type 0 where
  pub reached : Reached t h d
  pub directory : (object_at t d).kind ≡ DIRECTORY
  pub found : find_name t d text ≡ some n
  pub child : (name_at t n).child ≡ o
  pub made : MadeBy t verifier o

-- the checks of the name, which ask nothing of the store
abbrev NameChecked : List ℕ → Type 0
NameChecked text = check_new text (bad_attributes only_ctime) ≡ passed (tt {0})

name_checked : (s : Store) (h text : List ℕ) (verifier : ℕ) (p : ℕ × Target) → check_create s h text (How.Exclusive verifier) ≡ passed p → NameChecked text
unfolding check_create check_how
name_checked s h text verifier p e =
    bind_passed (reach_directory s h) _ p e (λ d e₁ f₁.
    bind_passed (check_how s d text (How.Exclusive verifier)) _ p f₁ (λ x e₂ f₂.
    bind_passed {P = NameChecked text} (check_new text (bad_attributes only_ctime)) _ x e₂ (λ u e₃ f₃. e₃)))

-- a file that keeps its size needs no block
pub same_size : (t : Store) (size : ℕ) → lacks_room t size size ≡ false
unfolding lacks_room
same_size t size = le-ltb (free_block_count t) (need size - need size) (omega arith)

module _ (t : Store) (h text : List ℕ) (verifier d o n : ℕ) (named : NameChecked text) (w : Stands t h text verifier d o n) (later : Context) where
  -- with that verifier it finds the file and changes nothing
  taken : create t later h text (How.Exclusive verifier) ≡ created_in t t d o
  unfolding create check_create check_how check_existing
  taken =
      rw (directory_passes t h d w.reached w.directory, named, w.found, w.child, true_made t verifier o w.made, same_size t (size_of t o))

  -- with another it is refused
  other_made : (other : ℕ) → other ≢ verifier → is_made_by t other o ≡ false
  other_made other z = by_bool (is_made_by t other o) (λ e. absurd (z (sym (made_true t other o e).same_verifier ∙ w.made.same_verifier))) (λ e. e)

  refused_other : (other : ℕ) → other ≢ verifier → create t later h text (How.Exclusive other) ≡ unchanged t (fail_changing t h EXIST)
  unfolding create check_create check_how check_existing
  refused_other other z = rw (directory_passes t h d w.reached w.directory, named, w.found, w.child, other_made other z)

-- ---- the store that the first call left
-- the only number that passes is the lowest
lowest_only : (n k : ℕ) (p : ℕ → Bool) → k < n → p k ≡ true → ((i : ℕ) → i < n → i ≢ k → p i ≡ false) → lowest n p ≡ some k
lowest_only n k p l e f = lowest_hit p k n (lowest_nothing k p (λ i j. f i (omega arith) (λ z. omega arith))) e l

-- a used name record of this directory and name
named_true : (t : Store) (d : ℕ) (text : List ℕ) (n : ℕ) → Used t n → (name_at t n).directory ≡ d → name_length t n ≡ length text → (name_at t n).text ≡ text
    → is_named t d text n ≡ true
unfolding is_named is_in
named_true t d text n u a b c =
    rw (true_used t n u, eq-eqb (name_at t n).directory d a, eq-eqb (name_length t n) (length text) b, same_yes (name_at t n).text text c)

-- an OK reply tells its parts, and a refusal is none
same_created : (h h' : List ℕ) (a a' : Attributes) (w w' : Change) → created h a w ≡ created h' a' w' → (h ≡ h') × (a ≡ a') × (w ≡ w')
same_created h h' a a' w w' e = ((cc), (cc), (cc))

not_created : (s : Store) (status : ℕ) (x : Checked ℕ) (h : List ℕ) (a : Attributes) (w : Change) → changing_of s status x ≡ created h a w → ⊥
not_created s status (refused n) h a w e = let z : ◌≡◌ {A = ℕ} 0 1 = cc in omega arith
not_created s status (passed o) h a w e = let z : ◌≡◌ {A = ℕ} 0 1 = cc in omega arith

module _ (s : Store) (c : Context) (h text : List ℕ) (verifier : ℕ) (g : GoodRecords s) (clock : GoodClock c.clock) (bytes : Below 256 text)
    (fits : verifier < 2 ^ 64) where
  -- the file was made
  made_stands : (d o n : ℕ) → CreatePassed s h text (How.Exclusive verifier) d (new o n)
      → Stands (create_edit s c d text (How.Exclusive verifier) (new o n)).store h text verifier d o n
  unfolding new_edit with_generation with_verifier find_name
  made_stands d o n p =
      let v = new_file c.clock (How.Exclusive verifier) in
      let room = p.target.1 in
      let below = p.reached.below in
      let shaped = g.sound.shaped in
      let time = clock_fits c.clock clock in
      let fresh = file_fresh c.clock (How.Exclusive verifier) clock fits p.allowed in
      let u = create_object s o n v d text in
      let e = create_object_lem s o n v d text g.sound room.object_below room.name_below fresh.fits (omega arith) p.good.short bytes in
      let apart : d ≢ o = λ q. omega (arith, p.directory, room.object_free, ap (λ (i : ℕ). (object_at s i).kind) q) in
      let same = e.other_objects d below apart in
      let t = touch_directory u c d in
      let m : d < objects u = rw e.shape.objects below in
      let b = set_attributes_lem u c.clock d mtime_and_ctime e.sound m time mtime_and_ctime_fits in
      let tree = (set_attributes_structure u c.clock d mtime_and_ctime e.sound m time mtime_and_ctime_fits).tree in
      let file : object_at t o ≡ with_generation (object_at s o).generation v =
      b.other_objects o (rw e.shape.objects room.object_below) (λ q. apart (sym q)) ∙ e.object in
      let kind : (object_at t d).kind ≡ DIRECTORY = tree.kind d m ∙ ap (λ (x : Object). x.kind) same ∙ p.directory in
      let kept = b.each_name n (rw e.shape.names room.name_below) in
      let name : name_at t n ≡ _ = kept.all ∙ e.name.all in
      let long : name_length t n ≡ length text = kept.long ∙ e.name.long in
      record {
        reached = record {
          handle_length_lem = p.reached.handle_length_lem;
          is_object = p.reached.is_object;
          below = rw b.shape.objects m;
          same_stamp = p.reached.same_stamp ∙ sym (b.shape.stamp ∙ e.shape.stamp);
          live = omega (arith, kind);
          same_generation_lem = p.reached.same_generation_lem ∙ sym (tree.generation d m ∙ ap (λ (x : Object). x.generation) same);
        };
        directory = kind;
        found = rw (b.shape.names, e.shape.names) (lowest_only (names s) n (is_named t d text) room.name_below
            (named_true t d text n (omega (arith, long, p.good.some_byte)) (ap (λ x. x.directory) name) long (ap (λ x. x.text) name))
            (λ i l z. is_named_reads u t d text i (b.each_name i (rw e.shape.names l)) ∙ is_named_reads s u d text i (e.other_names i l z)
            ∙ lowest_none (is_named s d text) (names s) i p.target.0 l));
        child = ap (λ x. x.child) name;
        made = record {
          regular = ap (λ (x : Object). x.kind) file ∙ file_kind c.clock (How.Exclusive verifier);
          flagged = ap (λ (x : Object). x.exclusive) file;
          same_verifier = ap (λ (x : Object). x.verifier) file;
        };
      }

  -- the file was there
  there_stands : (d o : ℕ) (p : CreatePassed s h text (How.Exclusive verifier) d (existing o)) → Stands s h text verifier d o p.target.0
  there_stands d o p =
      let (n, found, child, w) = p.target in
      record { reached = p.reached; directory = p.directory; found = found; child = child; made = made_true s verifier o w.taken }

  -- ---- the two calls
  -- where the first call's answer is createdIn, with the store u
  again : (u : Store) (d o n : ℕ) → NameChecked text → Stands u h text verifier d o n
      → Resent h text verifier (handle_of u o) (attributes u o) (change s u d) u
  unfolding change before attributes
  again u d o n named w =
      record { same_call = taken u h text verifier d o n named w; other_verifier = refused_other u h text verifier d o n named w }

  module _ (handle : List ℕ) (file : Attributes) (directory : Change) (t : Store) where
    -- where that is the answer of the theorem
    first : (u : Store) (d o : ℕ) → Resent h text verifier (handle_of u o) (attributes u o) (change s u d) u
        → created_in s u d o ≡ record { result = created handle file directory; store = t } → Resent h text verifier handle file directory t
    first u d o r e =
        let parts = same_created (handle_of u o) handle (attributes u o) file (change s u d) directory (ap (λ (x : Done). x.result) e) in
        let stores : u ≡ t = ap (λ (x : Done). x.store) e in
        rw (parts.0, parts.1, parts.2, stores) at r

    by_target : (d : ℕ) (x : Target) → NameChecked text → CreatePassed s h text (How.Exclusive verifier) d x
        → create_edit s c d text (How.Exclusive verifier) x ≡ record { result = created handle file directory; store = t }
        → Resent h text verifier handle file directory t
    by_target d (new o n) named p e =
        let u = (create_edit s c d text (How.Exclusive verifier) (new o n)).store in
        first u d o (again u d o n named (made_stands d o n p)) e
    by_target d (existing o) named p e = first s d o (again s d o p.target.0 named (there_stands d o p)) e

    by_check : (x : Checked (ℕ × Target)) → check_create s h text (How.Exclusive verifier) ≡ x
        → settle s (fail_changing s h) x (λ p. create_edit s c p.0 text (How.Exclusive verifier) p.1)
        ≡ record { result = created handle file directory; store = t } → Resent h text verifier handle file directory t
    unfolding fail_changing
    by_check (refused status) q e = absurd (not_created s status (reach s h) handle file directory (ap (λ (x : Done). x.result) e))
    by_check (passed p) q e =
        by_target p.0 p.1 (name_checked s h text verifier p q) (create_passed s h text (How.Exclusive verifier) p q) e

-- ---- THE THEOREM
-- For a store of bytes that passes its check, a clock as the entries accept it, a name of bytes and a verifier of 8 bytes: whether the first call made the
-- file or found it, the call that is sent again is answered as Resent says.
pub resent : (s : Store) (c : Context) (h text : List ℕ) (verifier : ℕ) → passes s ≡ true → Below 256 s → GoodClock c.clock → Below 256 text
    → verifier < 2 ^ 64 → (handle : List ℕ) (file : Attributes) (directory : Change) (t : Store)
    → create s c h text (How.Exclusive verifier) ≡ record { result = created handle file directory; store = t }
    → Resent h text verifier handle file directory t
unfolding create
resent s c h text verifier p b k w f handle file directory t e =
    by_check s c h text verifier (valid_records s (valid s p) b) k w f handle file directory t (check_create s h text (How.Exclusive verifier)) refl e
