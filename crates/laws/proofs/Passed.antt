-- What the checks of each procedure tell where they pass. Assumes nothing.
use Rattle.std.specs.Prelude as Code
use Rattle.kinds.specs.declared.object.Time.{Time}
use mathlib.Core.Path.{◌≡◌, refl, sym, ap, ◌∙◌, subst}
use mathlib.Core.Logic.{◌≢◌, ◌⊎◌, ⊎_elim}
use mathlib.Core.Bool.{Bool, true, false, ◌&&◌, ◌||◌, not}
use mathlib.Core.Option.{Option, some, none}
use mathlib.Core.List.{List}
use Prim.Native.Nat.{ℕ, ◌+◌, ◌-◌, ◌≤◌, ◌<◌, min}
use native.Mathlib.Omega.{arith}
use lib.Dec.{eqb, leb, ltb}
use lib.ListN.{length}
use borrow.Author.Tests.{leb-true, leb-false, ltb-true, ltb-false, eqb-true, eqb-false, eq-eqb, not-true, not-false}
use Rattle.kinds.specs.Numbers.{REGULAR, DIRECTORY, NOENT, ACCES, EXIST, NOTDIR, INVAL, FBIG, NOSPC, MLINK, NAMETOOLONG, NOTEMPTY, STALE, BADHANDLE}
use Rattle.kinds.specs.Numbers.{NOT_SYNC, kept_flag, most_transfer_bytes, most_file_bytes, spent_generation, most_name_bytes, most_links, handle_length}
use Rattle.kinds.specs.declared.call.Settable.{Settable}
use Rattle.kinds.specs.declared.call.How.{How}
use Rattle.kinds.specs.declared.call.How.TheVariants as How
use Rattle.spec.specs.Bytes.{be_at, same_bytes}
use Rattle.spec.specs.Checked.{Checked, refused, passed, bind, refuse_if, present, absent}
use Rattle.spec.specs.Handles.{reach, reach_directory, check_name}
use Rattle.spec.specs.Image.{Store, stamp, objects, names, object_at, name_at, name_length}
use Rattle.spec.specs.Names.{is_dot, is_dot_dot, is_dots, good_bytes}
use Rattle.spec.specs.Procedures.Attributes.{is_given, size_set, bad_attributes, lacks_room, differs, check_setattr}
use Rattle.spec.specs.Procedures.Data.{reach_regular, grown, check_write}
use Rattle.spec.specs.Procedures.Link.{check_added, check_link}
use Rattle.spec.specs.Procedures.Names.{child_of, look_in, check_in, check_lookup, room_for_new, Target, new, existing, is_new, settable_in}
use Rattle.spec.specs.Procedures.Names.{is_made_by, is_taken, check_existing, target_of, check_new, check_how, check_create, check_mkdir}
use Rattle.spec.specs.Procedures.Removal.{check_entry, check_remove, has_entries, check_rmdir, is_within, Onto, new_name, same_object, replacing}
use Rattle.spec.specs.Procedures.Removal.{is_replaceable, check_replace, onto, check_move, check_rename}
use Rattle.spec.specs.Room.{is_live, is_regular, is_directory, size_of, need, free_block_count, is_available, available_object, is_used_name, available_name}
use Rattle.spec.specs.Room.{namings, is_in, is_named, find_name, parent}
use Rattle.laws.proofs.Bytes.{same_eq}
use Rattle.laws.proofs.Count.{and_both, by_bool, true_false, lowest_passes, some_none}
use Rattle.laws.proofs.GoodKept.{used_of}
use Rattle.laws.proofs.SetAttributes.{Allowed, allowed}
use Rattle.laws.proofs.Tests.{and_true, or_none, true_nonzero}
use Rattle.laws.proofs.Valid.{Live, Used, GoodName, GoodNames, live_true, live_false, used_true, true_used, used_false, directory_true}
use Rattle.laws.proofs.Valid.{true_directory, regular_true, true_regular, bytes_good, dots_no}

-- ---- checks in order
pub refused_passed : {A : Type 0} (status : ℕ) (a : A) → refused status ≡ passed a → ⊥
refused_passed status a e = let z : ◌≡◌ {A = ℕ} 0 1 = cc in omega arith

-- the first passed, and the rest
pub bind_passed : {A B P : Type 0} (c : Checked A) (k : A → Checked B) (b : B) → bind c k ≡ passed b → ((a : A) → c ≡ passed a → k a ≡ passed b → P) → P
bind_passed (refused status) k b e f = absurd (refused_passed status b e)
bind_passed (passed a) k b e f = f a refl e

-- the test does not hold, and the rest
pub refuse_passed : {B P : Type 0} (t : Bool) (status : ℕ) (k : Checked B) (b : B) → bind (refuse_if t status) (λ _. k) ≡ passed b
    → (t ≡ false → k ≡ passed b → P) → P
refuse_passed true status k b e f = absurd (refused_passed status b e)
refuse_passed false status k b e f = f refl e

-- something was found, and the rest
pub present_passed : {B P : Type 0} (status : ℕ) (x : Option ℕ) (k : ℕ → Checked B) (b : B) → bind (present status x) k ≡ passed b
    → ((n : ℕ) → x ≡ some n → k n ≡ passed b → P) → P
present_passed status none k b e f = absurd (refused_passed status b e)
present_passed status (some n) k b e f = f n refl e

-- nothing was found, and the rest
pub absent_passed : {B P : Type 0} (status : ℕ) (x : Option ℕ) (k : Checked B) (b : B) → bind (absent status x) (λ _. k) ≡ passed b
    → (x ≡ none → k ≡ passed b → P) → P
absent_passed status none k b e f = f refl e
absent_passed status (some n) k b e f = absurd (refused_passed status b e)

-- the same where nothing follows
some_present : (status : ℕ) (x : Option ℕ) (n : ℕ) → present status x ≡ passed n → x ≡ some n
some_present status none n e = absurd (refused_passed status n e)
some_present status (some m) n e = cc

-- what passed is one value
pub same_passed : {A : Type 0} (a b : A) → passed a ≡ passed b → a ≡ b
same_passed a b e = cc

-- ---- handles
-- "Other length, or object not below P: BADHANDLE. Other stamp, free, or other generation: STALE.": none of these
pub record Reached (s : Store) (h : List ℕ) (o : ℕ) : Type 0 where
  pub handle_length_lem : length h ≡ handle_length
  pub is_object : be_at h 4 4 ≡ o
  pub below : o < objects s
  pub same_stamp : be_at h 0 4 ≡ stamp s
  pub live : Live s o
  pub same_generation_lem : be_at h 8 4 ≡ (object_at s o).generation

pub reach_passed : (s : Store) (h : List ℕ) (o : ℕ) → reach s h ≡ passed o → Reached s h o
unfolding reach
reach_passed s h o e =
    refuse_passed (not (eqb (length h) handle_length)) BADHANDLE _ o e (λ t₁ e₁.
    refuse_passed (leb (objects s) (be_at h 4 4)) BADHANDLE _ o e₁ (λ t₂ e₂.
    refuse_passed (not (eqb (be_at h 0 4) (stamp s))) STALE _ o e₂ (λ t₃ e₃.
    refuse_passed (not (is_live s (be_at h 4 4))) STALE _ o e₃ (λ t₄ e₄.
    refuse_passed (not (eqb (be_at h 8 4) (object_at s (be_at h 4 4)).generation)) STALE _ o e₄ (λ t₅ e₅.
    let q : be_at h 4 4 ≡ o = same_passed (be_at h 4 4) o e₅ in
    record {
      handle_length_lem = eqb-true (length h) handle_length (not-false (eqb (length h) handle_length) t₁);
      is_object = q;
      below = rw q at (leb-false (objects s) (be_at h 4 4) t₂);
      same_stamp = eqb-true (be_at h 0 4) (stamp s) (not-false (eqb (be_at h 0 4) (stamp s)) t₃);
      live = rw q at (live_true s (be_at h 4 4) (not-false (is_live s (be_at h 4 4)) t₄));
      same_generation_lem = rw q at (eqb-true (be_at h 8 4) (object_at s (be_at h 4 4)).generation
          (not-false (eqb (be_at h 8 4) (object_at s (be_at h 4 4)).generation) t₅));
    })))))

pub directory_passed : (s : Store) (h : List ℕ) (d : ℕ) → reach_directory s h ≡ passed d → Reached s h d × ((object_at s d).kind ≡ DIRECTORY)
unfolding reach_directory
directory_passed s h d e =
    bind_passed (reach s h) _ d e (λ o e₁ f₁.
    refuse_passed (not (is_directory s o)) NOTDIR _ d f₁ (λ t f₂.
    let q : o ≡ d = same_passed o d f₂ in
    (reach_passed s h d (e₁ ∙ f₂), rw q at (directory_true s o (not-false (is_directory s o) t)))))

pub regular_passed : (s : Store) (h : List ℕ) (o : ℕ) → reach_regular s h ≡ passed o → Reached s h o × ((object_at s o).kind ≡ REGULAR)
unfolding reach_regular
regular_passed s h o e =
    bind_passed (reach s h) _ o e (λ i e₁ f₁.
    refuse_passed (not (is_regular s i)) INVAL _ o f₁ (λ t f₂.
    let q : i ≡ o = same_passed i o f₂ in
    (reach_passed s h o (e₁ ∙ f₂), rw q at (regular_true s i (not-false (is_regular s i) t)))))

-- ---- names
-- "name (empty ACCES; over 32 NAMETOOLONG; byte 0 or 0x2F ACCES)": none of these
pub record NamePassed (text : List ℕ) : Type 0 where
  pub some_byte : 1 ≤ length text
  pub short : length text ≤ most_name_bytes
  pub bytes : good_bytes text ≡ true

pub name_passed : {B P : Type 0} (text : List ℕ) (k : Unit {0} → Checked B) (b : B) → bind (check_name text) k ≡ passed b
    → (NamePassed text → k tt ≡ passed b → P) → P
unfolding check_name
name_passed text k b e f =
    by_bool (eqb (length text) 0)
    (λ t. absurd (refused_passed ACCES b (rw t at e)))
    (λ t. by_bool (leb (length text) most_name_bytes)
    (λ u. by_bool (good_bytes text)
    (λ w. f (record { some_byte = omega (arith, eqb-false (length text) 0 t); short = leb-true (length text) most_name_bytes u; bytes = w }) (rw (t, u, w) at e))
    (λ w. absurd (refused_passed ACCES b (rw (t, u, w) at e))))
    (λ u. absurd (refused_passed NAMETOOLONG b (rw (t, u) at e))))

-- a name that is neither "." nor ".." too
pub passed_good : (text : List ℕ) → NamePassed text → is_dots text ≡ false → GoodName text
passed_good text n d =
    let p = dots_no text d in
    record { some_byte = n.some_byte; short = n.short; bytes = bytes_good text n.bytes; no_dot = p.0; no_dots_lem = p.1 }

-- the record that was found: it is used, and stands in that directory under that name
pub found_record : (s : Store) (d : ℕ) (text : List ℕ) (n : ℕ) → find_name s d text ≡ some n → (n < names s) × Used s n × ((name_at s n).directory ≡ d)
    × ((name_at s n).text ≡ text)
unfolding find_name is_named is_in
found_record s d text n e =
    let p = lowest_passes (is_named s d text) (names s) n e in
    let a = and_both (is_used_name s n && eqb (name_at s n).directory d) (eqb (name_length s n) (length text) && same_bytes (name_at s n).text text) p.passes in
    let b = and_both (is_used_name s n) (eqb (name_at s n).directory d) a.0 in
    let c = and_both (eqb (name_length s n) (length text)) (same_bytes (name_at s n).text text) a.1 in
    (p.below, used_true s n b.0, eqb-true (name_at s n).directory d b.1, same_eq (name_at s n).text text c.1)

-- ---- LOOKUP
pub record LookupPassed (s : Store) (h text : List ℕ) (d o : ℕ) : Type 0 where
  pub reached : Reached s h d
  pub directory : (object_at s d).kind ≡ DIRECTORY
  pub found : look_in s d text ≡ passed o

pub lookup_passed : (s : Store) (h text : List ℕ) (p : ℕ × ℕ) → check_lookup s h text ≡ passed p → LookupPassed s h text p.0 p.1
unfolding check_lookup check_in
lookup_passed s h text p e =
    bind_passed (reach_directory s h) _ p e (λ d e₁ f₁.
    bind_passed (check_in s d text) _ p f₁ (λ o e₂ f₂.
    let z = directory_passed s h d e₁ in
    let v : LookupPassed s h text d o = record { reached = z.0; directory = z.1; found = name_passed text _ o e₂ (λ _ f. f) } in
    subst (λ (x : ℕ × ℕ). LookupPassed s h text x.0 x.1) (same_passed (d, o) p f₂) v))

-- what holds of the directory, of its parent and of the object of the name holds of the object that was found
pub look_found : (P : ℕ → Type 0) (s : Store) (d : ℕ) (text : List ℕ) (o : ℕ) → look_in s d text ≡ passed o → P d → P (parent s d)
    → ((n : ℕ) → find_name s d text ≡ some n → P (name_at s n).child) → P o
unfolding look_in
look_found P s d text o e itself above named =
    by_bool (is_dot text)
    (λ t. subst P (same_passed d o (rw t at e)) itself)
    (λ f. by_bool (is_dot_dot text)
    (λ t. subst P (same_passed (parent s d) o (rw (f, t) at e)) above)
    (λ t. child (find_name s d text) refl (rw (f, t) at e)))
  where
    child : (x : Option ℕ) → find_name s d text ≡ x → child_of s (present NOENT x) ≡ passed o → P o
    child none q w = absurd (refused_passed NOENT o w)
    child (some n) q w = subst P (same_passed (name_at s n).child o w) (named n q)

-- ---- room
-- "NOSPC for growth past the free blocks": not that
room_passed : (s : Store) (old size : ℕ) → lacks_room s old size ≡ false → need size - need old ≤ free_block_count s
unfolding lacks_room
room_passed s old size e = ltb-false (free_block_count s) (need size - need old) e

-- a free object record of a generation that may be given out, a free name record, and blocks enough
pub record NewRoom (s : Store) (size o n : ℕ) : Type 0 where
  pub lowest_object : available_object s ≡ some o
  pub lowest_name : available_name s ≡ some n
  pub object_below : o < objects s
  pub object_free : (object_at s o).kind ≡ 0
  pub generation_low : (object_at s o).generation < spent_generation
  pub name_below : n < names s
  pub name_free : name_length s n ≡ 0
  pub room : need size ≤ free_block_count s

pub available_object_lem : (s : Store) (o : ℕ) → available_object s ≡ some o
    → (o < objects s) × ((object_at s o).kind ≡ 0) × ((object_at s o).generation < spent_generation)
unfolding available_object is_available
available_object_lem s o e =
    let p = lowest_passes (is_available s) (objects s) o e in
    let a = and_both (not (is_live s o)) (ltb (object_at s o).generation spent_generation) p.passes in
    (p.below, live_false s o (not-true (is_live s o) a.0), ltb-true (object_at s o).generation spent_generation a.1)

pub available_name_lem : (s : Store) (n : ℕ) → available_name s ≡ some n → (n < names s) × (name_length s n ≡ 0)
unfolding available_name
available_name_lem s n e =
    let p = lowest_passes (λ m. not (is_used_name s m)) (names s) n e in
    (p.below, used_false s n (not-true (is_used_name s n) p.passes))

pub room_for_new_lem : (s : Store) (size : ℕ) (p : ℕ × ℕ) → room_for_new s size ≡ passed p → NewRoom s size p.0 p.1
unfolding room_for_new
room_for_new_lem s size p e =
    present_passed NOSPC (available_object s) _ p e (λ o e₁ f₁.
    present_passed NOSPC (available_name s) _ p f₁ (λ n e₂ f₂.
    refuse_passed (lacks_room s 0 size) NOSPC _ p f₂ (λ t f₃.
    let q : ◌≡◌ {A = ℕ × ℕ} (o, n) p = same_passed (o, n) p f₃ in
    let a = available_object_lem s o e₁ in
    let b = available_name_lem s n e₂ in
    let r = room_passed s 0 size t in
    let w : NewRoom s size o n = record {
      lowest_object = e₁;
      lowest_name = e₂;
      object_below = a.0;
      object_free = a.1;
      generation_low = a.2;
      name_below = b.0;
      name_free = b.1;
      room = omega arith;
    } in
    subst (λ (x : ℕ × ℕ). NewRoom s size x.0 x.1) q w)))

-- ---- SETATTR
pub record SetattrPassed (s : Store) (h : List ℕ) (a : Settable) (g : Code.Option Time) (o : ℕ) : Type 0 where
  pub reached : Reached s h o
  pub guarded : differs g (object_at s o).ctime ≡ false
  pub allowed : Allowed a
  pub not_directory : is_given a.size ≡ true → (object_at s o).kind ≢ DIRECTORY
  pub room : need (size_set a.size (size_of s o)) - need (size_of s o) ≤ free_block_count s

pub setattr_passed : (s : Store) (h : List ℕ) (a : Settable) (g : Code.Option Time) (o : ℕ) → check_setattr s h a g ≡ passed o → SetattrPassed s h a g o
unfolding check_setattr
setattr_passed s h a g o e =
    bind_passed (reach s h) _ o e (λ i e₁ f₁.
    refuse_passed (differs g (object_at s i).ctime) NOT_SYNC _ o f₁ (λ t₂ f₂.
    refuse_passed (bad_attributes a) INVAL _ o f₂ (λ t₃ f₃.
    refuse_passed (is_given a.size && is_directory s i) INVAL _ o f₃ (λ t₄ f₄.
    refuse_passed (lacks_room s (size_of s i) (size_set a.size (size_of s i))) NOSPC _ o f₄ (λ t₅ f₅.
    let q : i ≡ o = same_passed i o f₅ in
    let w : SetattrPassed s h a g i = record {
      reached = reach_passed s h i e₁;
      guarded = t₂;
      allowed = allowed a t₃;
      not_directory = λ given k. true_false (sym (and_true (is_given a.size) (is_directory s i) given (true_directory s i k)) ∙ t₄);
      room = room_passed s (size_of s i) (size_set a.size (size_of s i)) t₅;
    } in
    subst (SetattrPassed s h a g) q w)))))

-- ---- WRITE
pub record WritePassed (s : Store) (h : List ℕ) (offset count : ℕ) (bytes : List ℕ) (o : ℕ) : Type 0 where
  pub reached : Reached s h o
  pub regular : (object_at s o).kind ≡ REGULAR
  pub counted : count ≡ length bytes
  pub fits : 0 < count → offset + min count most_transfer_bytes ≤ most_file_bytes
  pub room : 0 < count → need (grown s o offset (min count most_transfer_bytes)) - need (size_of s o) ≤ free_block_count s

pub write_passed : (s : Store) (h : List ℕ) (offset count : ℕ) (bytes : List ℕ) (o : ℕ) → check_write s h offset count bytes ≡ passed o
    → WritePassed s h offset count bytes o
unfolding check_write
write_passed s h offset count bytes o e =
    bind_passed (reach_regular s h) _ o e (λ i e₁ f₁.
    refuse_passed (not (eqb count (length bytes))) INVAL _ o f₁ (λ t₂ f₂.
    refuse_passed (not (eqb count 0) && ltb most_file_bytes (offset + min count most_transfer_bytes)) FBIG _ o f₂ (λ t₃ f₃.
    refuse_passed (not (eqb count 0) && lacks_room s (size_of s i) (grown s i offset (min count most_transfer_bytes))) NOSPC _ o f₃ (λ t₄ f₄.
    let q : i ≡ o = same_passed i o f₄ in
    let r = regular_passed s h i e₁ in
    let w : WritePassed s h offset count bytes i = record {
      reached = r.0;
      regular = r.1;
      counted = eqb-true count (length bytes) (not-false (eqb count (length bytes)) t₂);
      fits = λ p. ltb-false most_file_bytes (offset + min count most_transfer_bytes)
          (rest_false (not (eqb count 0)) (ltb most_file_bytes (offset + min count most_transfer_bytes)) t₃ (true_nonzero count p));
      room = λ p. room_passed s (size_of s i) (grown s i offset (min count most_transfer_bytes))
          (rest_false (not (eqb count 0)) (lacks_room s (size_of s i) (grown s i offset (min count most_transfer_bytes))) t₄ (true_nonzero count p));
    } in
    subst (WritePassed s h offset count bytes) q w))))
  where
    rest_false : (t u : Bool) → t && u ≡ false → t ≡ true → u ≡ false
    rest_false true u x y = x
    rest_false false u x y = true_false (sym y)

-- ---- CREATE
-- of a file that was made EXCLUSIVE with this verifier: it is regular, and keeps the verifier
pub record MadeBy (s : Store) (verifier o : ℕ) : Type 0 where
  pub regular : (object_at s o).kind ≡ REGULAR
  pub flagged : (object_at s o).exclusive ≡ kept_flag
  pub same_verifier : (object_at s o).verifier ≡ verifier

pub made_true : (s : Store) (verifier o : ℕ) → is_made_by s verifier o ≡ true → MadeBy s verifier o
unfolding is_made_by
made_true s verifier o e =
    let v = object_at s o in
    let a = and_both (is_regular s o && eqb v.exclusive kept_flag) (eqb v.verifier verifier) e in
    let b = and_both (is_regular s o) (eqb v.exclusive kept_flag) a.0 in
    record {
      regular = regular_true s o b.0;
      flagged = eqb-true v.exclusive kept_flag b.1;
      same_verifier = eqb-true v.verifier verifier a.1;
    }

pub true_made : (s : Store) (verifier o : ℕ) → MadeBy s verifier o → is_made_by s verifier o ≡ true
unfolding is_made_by
true_made s verifier o m =
    let v = object_at s o in
    rw (true_regular s o m.regular, eq-eqb v.exclusive kept_flag m.flagged, eq-eqb v.verifier verifier m.same_verifier)

-- what is taken is a regular file, whatever the manner
pub taken_regular : (s : Store) (manner : How) (o : ℕ) → is_taken s manner o ≡ true → (object_at s o).kind ≡ REGULAR
taken_regular s (How.Unchecked a) o e = regular_true s o e
taken_regular s (How.Guarded a) o e = true_false (sym e)
taken_regular s (How.Exclusive verifier) o e = (made_true s verifier o e).regular

-- of a file that has the name: the manner takes it, it is regular, and there is room for the size
pub record ExistingPassed (s : Store) (manner : How) (o : ℕ) : Type 0 where
  pub taken : is_taken s manner o ≡ true
  pub regular : (object_at s o).kind ≡ REGULAR
  pub room : need (size_set (settable_in manner).size (size_of s o)) - need (size_of s o) ≤ free_block_count s

-- what the target of CREATE is
abbrev pub TargetPassed : Store → ℕ → List ℕ → How → Target → Type 0
TargetPassed s d text manner (new o n) = (find_name s d text ≡ none) × NewRoom s (size_set (settable_in manner).size 0) o n
TargetPassed s d text manner (existing o) = (n : ℕ) × (find_name s d text ≡ some n) × ((name_at s n).child ≡ o) × ExistingPassed s manner o

existing_passed : (s : Store) (manner : How) (o : ℕ) (t : Target) → check_existing s manner o ≡ passed t
    → (passed (existing o) ≡ passed t) × ExistingPassed s manner o
unfolding check_existing
existing_passed s manner o t e =
    let size = size_set (settable_in manner).size (size_of s o) in
    refuse_passed (not (is_taken s manner o)) EXIST _ t e (λ t₁ f₁.
    refuse_passed (lacks_room s (size_of s o) size) NOSPC _ t f₁ (λ t₂ f₂.
    let w = not-false (is_taken s manner o) t₁ in
    (f₂, record { taken = w; regular = taken_regular s manner o w; room = room_passed s (size_of s o) size t₂ })))

-- the checks of a name to be made
new_passed : {B P : Type 0} (text : List ℕ) (invalid : Bool) (k : Unit {0} → Checked B) (b : B)
    → bind (check_new text invalid) k ≡ passed b
    → (GoodName text → invalid ≡ false → k tt ≡ passed b → P) → P
unfolding check_new
new_passed {B} {P} text invalid k b e f =
    go (check_name text) refl
  where
    dots : (NamePassed text) → (t u : Bool) → is_dots text ≡ t → invalid ≡ u → bind (bind (refuse_if t EXIST) (λ _. refuse_if u INVAL)) k ≡ passed b → P
    dots n true u x y w = absurd (refused_passed EXIST b w)
    dots n false true x y w = absurd (refused_passed INVAL b w)
    dots n false false x y w = f (passed_good text n x) y w

    go : (c : Checked (Unit {0})) → check_name text ≡ c → P
    go (refused status) q = absurd (refused_passed status b (rw q at e))
    go (passed u) q =
        name_passed text (λ _. passed (tt {0})) (tt {0}) (rw q) (λ n _. dots n (is_dots text) invalid refl refl (rw q at e))

pub record CreatePassed (s : Store) (h text : List ℕ) (manner : How) (d : ℕ) (t : Target) : Type 0 where
  pub reached : Reached s h d
  pub directory : (object_at s d).kind ≡ DIRECTORY
  pub good : GoodName text
  pub allowed : Allowed (settable_in manner)
  pub target : TargetPassed s d text manner t

new_target : (s : Store) (d : ℕ) (text : List ℕ) (manner : How) (t : Target) (c : Checked (ℕ × ℕ)) → find_name s d text ≡ none
    → room_for_new s (size_set (settable_in manner).size 0) ≡ c → is_new c ≡ passed t → TargetPassed s d text manner t
new_target s d text manner t (refused status) x q e = absurd (refused_passed status t e)
new_target s d text manner t (passed p) x q e =
    subst (TargetPassed s d text manner) (same_passed (new p.0 p.1) t e) (x, room_for_new_lem s (size_set (settable_in manner).size 0) p q)

target_passed : (s : Store) (d : ℕ) (text : List ℕ) (manner : How) (t : Target) (x : Option ℕ) → find_name s d text ≡ x
    → target_of s manner x ≡ passed t → TargetPassed s d text manner t
target_passed s d text manner t none x e = new_target s d text manner t (room_for_new s (size_set (settable_in manner).size 0)) x refl e
target_passed s d text manner t (some n) x e =
    let p = existing_passed s manner (name_at s n).child t e in
    subst (TargetPassed s d text manner) (same_passed (existing (name_at s n).child) t p.0) (n, x, refl, p.1)

how_passed : (s : Store) (d : ℕ) (text : List ℕ) (manner : How) (t : Target) → check_how s d text manner ≡ passed t
    → GoodName text × Allowed (settable_in manner) × TargetPassed s d text manner t
unfolding check_how
how_passed s d text manner t e =
    new_passed text (bad_attributes (settable_in manner)) _ t e (λ n b f.
    (n, allowed (settable_in manner) b, target_passed s d text manner t (find_name s d text) refl f))

pub create_passed : (s : Store) (h text : List ℕ) (manner : How) (p : ℕ × Target) → check_create s h text manner ≡ passed p
    → CreatePassed s h text manner p.0 p.1
unfolding check_create
create_passed s h text manner p e =
    bind_passed (reach_directory s h) _ p e (λ d e₁ f₁.
    bind_passed (check_how s d text manner) _ p f₁ (λ t e₂ f₂.
    let r = directory_passed s h d e₁ in
    let w = how_passed s d text manner t e₂ in
    let q : ◌≡◌ {A = ℕ × Target} (d, t) p = same_passed (d, t) p f₂ in
    let v : CreatePassed s h text manner d t = record { reached = r.0; directory = r.1; good = w.0; allowed = w.1; target = w.2 } in
    subst (λ (x : ℕ × Target). CreatePassed s h text manner x.0 x.1) q v))

-- ---- MKDIR
pub record MkdirPassed (s : Store) (h text : List ℕ) (a : Settable) (d o n : ℕ) : Type 0 where
  pub reached : Reached s h d
  pub directory : (object_at s d).kind ≡ DIRECTORY
  pub good : GoodName text
  pub allowed : Allowed a
  pub no_size : is_given a.size ≡ false
  pub fresh : find_name s d text ≡ none
  pub room : NewRoom s 0 o n

pub mkdir_passed : (s : Store) (h text : List ℕ) (a : Settable) (p : ℕ × ℕ × ℕ) → check_mkdir s h text a ≡ passed p → MkdirPassed s h text a p.0 p.1 p.2
unfolding check_mkdir
mkdir_passed s h text a p e =
    bind_passed (reach_directory s h) _ p e (λ d e₁ f₁.
    new_passed text (bad_attributes a || is_given a.size) _ p f₁ (λ g t f₂.
    absent_passed EXIST (find_name s d text) _ p f₂ (λ x f₃.
    bind_passed (room_for_new s 0) _ p f₃ (λ r e₄ f₄.
    let z = directory_passed s h d e₁ in
    let b = or_none (bad_attributes a) (is_given a.size) t in
    let q : ◌≡◌ {A = ℕ × ℕ × ℕ} (d, r.0, r.1) p = same_passed (d, r.0, r.1) p f₄ in
    let v : MkdirPassed s h text a d r.0 r.1 = record {
      reached = z.0;
      directory = z.1;
      good = g;
      allowed = allowed a b.0;
      no_size = b.1;
      fresh = x;
      room = room_for_new_lem s 0 r e₄;
    } in
    subst (λ (y : ℕ × ℕ × ℕ). MkdirPassed s h text a y.0 y.1 y.2) q v))))

-- ---- LINK
pub record LinkPassed (s : Store) (h g text : List ℕ) (o d n : ℕ) : Type 0 where
  pub reached : Reached s h o
  pub file : (object_at s o).kind ≢ DIRECTORY
  pub directory_reached : Reached s g d
  pub directory : (object_at s d).kind ≡ DIRECTORY
  pub good : GoodName text
  pub fresh : find_name s d text ≡ none
  pub few : namings s o < most_links
  pub available : available_name s ≡ some n
  pub name_below : n < names s
  pub name_free : name_length s n ≡ 0

pub link_passed : (s : Store) (h g text : List ℕ) (p : ℕ × ℕ × ℕ) → check_link s h g text ≡ passed p → LinkPassed s h g text p.0 p.1 p.2
unfolding check_link check_added
link_passed s h g text p w =
    bind_passed (reach s h) _ p w (λ o e₁ f₁.
    refuse_passed (is_directory s o) INVAL _ p f₁ (λ t₂ f₂.
    bind_passed (reach_directory s g) _ p f₂ (λ d e₃ f₃.
    bind_passed (check_added s o d text) _ p f₃ (λ n e₄ f₄.
    name_passed text _ n e₄ (λ m f₅.
    refuse_passed (is_dots text) EXIST _ n f₅ (λ t₆ f₆.
    absent_passed EXIST (find_name s d text) _ n f₆ (λ x f₇.
    refuse_passed (leb most_links (namings s o)) MLINK _ n f₇ (λ t₈ f₈.
    let z = directory_passed s g d e₃ in
    let e₉ = some_present NOSPC (available_name s) n f₈ in
    let b = available_name_lem s n e₉ in
    let q : ◌≡◌ {A = ℕ × ℕ × ℕ} (o, d, n) p = same_passed (o, d, n) p f₄ in
    let v : LinkPassed s h g text o d n = record {
      reached = reach_passed s h o e₁;
      file = λ k. true_false (sym (true_directory s o k) ∙ t₂);
      directory_reached = z.0;
      directory = z.1;
      good = passed_good text m t₆;
      fresh = x;
      few = leb-false most_links (namings s o) t₈;
      available = e₉;
      name_below = b.0;
      name_free = b.1;
    } in
    subst (λ (y : ℕ × ℕ × ℕ). LinkPassed s h g text y.0 y.1 y.2) q v))))))))

-- ---- REMOVE and RMDIR
-- a good name, found in the directory
pub record EntryPassed (s : Store) (h text : List ℕ) (d n : ℕ) : Type 0 where
  pub reached : Reached s h d
  pub directory : (object_at s d).kind ≡ DIRECTORY
  pub good : GoodName text
  pub found : find_name s d text ≡ some n

pub entry_passed : (s : Store) (d : ℕ) (text : List ℕ) (dots n : ℕ) → check_entry s d text dots ≡ passed n → GoodName text × (find_name s d text ≡ some n)
unfolding check_entry
entry_passed s d text dots n e =
    name_passed text _ n e (λ m f₁.
    refuse_passed (is_dots text) dots _ n f₁ (λ t f₂.
    (passed_good text m t, some_present NOENT (find_name s d text) n f₂)))

-- the same in the directory of a handle
entry_in_lem : (s : Store) (h text : List ℕ) (dots d n : ℕ) → reach_directory s h ≡ passed d → check_entry s d text dots ≡ passed n → EntryPassed s h text d n
entry_in_lem s h text dots d n e f =
    let z = directory_passed s h d e in
    let y = entry_passed s d text dots n f in
    record { reached = z.0; directory = z.1; good = y.0; found = y.1 }

pub record RemovePassed (s : Store) (h text : List ℕ) (d n : ℕ) : Type 0 where
  pub entry : EntryPassed s h text d n
  pub file : (object_at s (name_at s n).child).kind ≢ DIRECTORY

pub remove_passed : (s : Store) (h text : List ℕ) (p : ℕ × ℕ) → check_remove s h text ≡ passed p → RemovePassed s h text p.0 p.1
unfolding check_remove
remove_passed s h text p e =
    bind_passed (reach_directory s h) _ p e (λ d e₁ f₁.
    bind_passed (check_entry s d text ACCES) _ p f₁ (λ n e₂ f₂.
    refuse_passed (is_directory s (name_at s n).child) ACCES _ p f₂ (λ t f₃.
    let v : RemovePassed s h text d n = record {
      entry = entry_in_lem s h text ACCES d n e₁ e₂;
      file = λ k. true_false (sym (true_directory s (name_at s n).child k) ∙ t);
    } in
    subst (λ (x : ℕ × ℕ). RemovePassed s h text x.0 x.1) (same_passed (d, n) p f₃) v)))

pub record RmdirPassed (s : Store) (h text : List ℕ) (d n : ℕ) : Type 0 where
  pub entry : EntryPassed s h text d n
  pub child_directory : (object_at s (name_at s n).child).kind ≡ DIRECTORY
  pub empty : has_entries s (name_at s n).child ≡ false

pub rmdir_passed : (s : Store) (h text : List ℕ) (p : ℕ × ℕ) → check_rmdir s h text ≡ passed p → RmdirPassed s h text p.0 p.1
unfolding check_rmdir
rmdir_passed s h text p e =
    bind_passed (reach_directory s h) _ p e (λ d e₁ f₁.
    bind_passed (check_entry s d text INVAL) _ p f₁ (λ n e₂ f₂.
    refuse_passed (not (is_directory s (name_at s n).child)) NOTDIR _ p f₂ (λ t f₃.
    refuse_passed (has_entries s (name_at s n).child) NOTEMPTY _ p f₃ (λ u f₄.
    let v : RmdirPassed s h text d n = record {
      entry = entry_in_lem s h text INVAL d n e₁ e₂;
      child_directory = directory_true s (name_at s n).child (not-false (is_directory s (name_at s n).child) t);
      empty = u;
    } in
    subst (λ (x : ℕ × ℕ). RmdirPassed s h text x.0 x.1) (same_passed (d, n) p f₄) v))))

-- no used name is in a directory without entries
pub no_entries : (s : Store) (d m : ℕ) → has_entries s d ≡ false → m < names s → Used s m → (name_at s m).directory ≢ d
unfolding has_entries is_in
no_entries s d m e l u q =
    let t = some_none (is_in s d) (names s) m e l in
    true_false (sym (and_true (is_used_name s m) (eqb (name_at s m).directory d) (true_used s m u) (eq-eqb (name_at s m).directory d q)) ∙ t)

-- ---- RENAME
-- an object that gives way is no directory, or one without entries
pub replaceable : (s : Store) (o p : ℕ) → is_replaceable s o p ≡ true → (is_directory s p ≡ false) ⊎ (has_entries s p ≡ false)
unfolding is_replaceable
replaceable s o p e =
    by_bool (is_directory s p)
    (λ t. by_bool (is_directory s o)
    (λ u. ◌⊎◌.inr (not-true (has_entries s p) (and_both (is_directory s p) (not (has_entries s p)) (rw u at e)).1))
    (λ u. true_false (sym (rw (u, t) at e))))
    (λ t. ◌⊎◌.inl t)

-- so no used name is in it
pub replaced_alone : (s : Store) → GoodNames s → (o p m : ℕ) → is_replaceable s o p ≡ true → m < names s → Used s m → (name_at s m).directory ≢ p
replaced_alone s g o p m e l u q =
    ⊎_elim
    (λ t. true_false (sym (true_directory s p (ap (λ (i : ℕ). (object_at s i).kind) (sym q) ∙ (used_of s m u (g m l)).in_directory_lem)) ∙ t))
    (λ t. no_entries s p m t l u q)
    (replaceable s o p e)

-- the new name is that of name record m, whose object is another one, and gives way
pub record ReplacePassed (s : Store) (o e : ℕ) (title : List ℕ) (m : ℕ) : Type 0 where
  pub found : find_name s e title ≡ some m
  pub other : (name_at s m).child ≢ o
  pub gives_way : is_replaceable s o (name_at s m).child ≡ true

-- what is known of the new name
abbrev pub OntoPassed : Store → ℕ → ℕ → List ℕ → Onto → Type 0
OntoPassed s o e title new_name = find_name s e title ≡ none
OntoPassed s o e title same_object = (m : ℕ) × (find_name s e title ≡ some m) × ((name_at s m).child ≡ o)
OntoPassed s o e title (replacing m) = ReplacePassed s o e title m

onto_passed : (s : Store) (o e : ℕ) (title : List ℕ) (found : Option ℕ) → find_name s e title ≡ found → (t : Onto) → onto s o found ≡ passed t
    → OntoPassed s o e title t
unfolding check_replace
onto_passed s o e title none f t w = subst (OntoPassed s o e title) (same_passed new_name t w) f
onto_passed s o e title (some m) f t w =
    by_bool (eqb (name_at s m).child o)
    (λ q. subst (OntoPassed s o e title) (same_passed same_object t (rw q at w)) (m, f, eqb-true (name_at s m).child o q))
    (λ q. refuse_passed (not (is_replaceable s o (name_at s m).child)) EXIST (passed (replacing m)) t (rw q at w) (λ y z.
    subst (OntoPassed s o e title) (same_passed (replacing m) t z)
    (record { found = f; other = eqb-false (name_at s m).child o q; gives_way = not-false (is_replaceable s o (name_at s m).child) y })))

pub record RenamePassed (s : Store) (h text g title : List ℕ) (d e n : ℕ) (t : Onto) : Type 0 where
  pub reached : Reached s h d
  pub directory : (object_at s d).kind ≡ DIRECTORY
  pub target_reached : Reached s g e
  pub target_directory : (object_at s e).kind ≡ DIRECTORY
  pub good : GoodName text
  pub target_good : GoodName title
  pub found : find_name s d text ≡ some n
  pub outside : is_within s (name_at s n).child e ≡ false
  pub target : OntoPassed s (name_at s n).child e title t

pub rename_passed : (s : Store) (h text g title : List ℕ) (p : ℕ × ℕ × ℕ × Onto) → check_rename s h text g title ≡ passed p
    → RenamePassed s h text g title p.0 p.1 p.2 p.3
unfolding check_rename check_move
rename_passed s h text g title p w =
    bind_passed (reach_directory s h) _ p w (λ d e₁ f₁.
    bind_passed (reach_directory s g) _ p f₁ (λ e e₂ f₂.
    name_passed text _ p f₂ (λ m f₃.
    name_passed title _ p f₃ (λ k f₄.
    refuse_passed (is_dots text || is_dots title) INVAL _ p f₄ (λ t₅ f₅.
    present_passed NOENT (find_name s d text) _ p f₅ (λ n e₆ f₆.
    refuse_passed (is_within s (name_at s n).child e) INVAL _ p f₆ (λ t₇ f₇.
    bind_passed (onto s (name_at s n).child (find_name s e title)) _ p f₇ (λ t e₈ f₈.
    let z = directory_passed s h d e₁ in
    let y = directory_passed s g e e₂ in
    let b = or_none (is_dots text) (is_dots title) t₅ in
    let q : ◌≡◌ {A = ℕ × ℕ × ℕ × Onto} (d, e, n, t) p = same_passed (d, e, n, t) p f₈ in
    let v : RenamePassed s h text g title d e n t = record {
      reached = z.0;
      directory = z.1;
      target_reached = y.0;
      target_directory = y.1;
      good = passed_good text m b.0;
      target_good = passed_good title k b.1;
      found = e₆;
      outside = t₇;
      target = onto_passed s (name_at s n).child e title (find_name s e title) refl t e₈;
    } in
    subst (λ (c : ℕ × ℕ × ℕ × Onto). RenamePassed s h text g title c.0 c.1 c.2 c.3) q v))))))))
