-- What the store check demands, as facts about the records, and that the check passes exactly where they hold. Assumes nothing.
use mathlib.Core.Path.{◌≡◌, refl, sym, ap, ◌∙◌}
use mathlib.Core.Logic.{◌≢◌, ◌⊎◌, ⊎_elim}
use mathlib.Core.Bool.{Bool, true, false, ◌&&◌, not}
use mathlib.Core.List.{List, [], ◌∷◌}
use Prim.Native.Nat.{ℕ, zero, suc, ◌+◌, ◌-◌, ◌*◌, ◌≤◌, ◌<◌}
use native.Mathlib.Omega.{arith}
use native.Mathlib.Nat.{add-zero}
use lib.Dec.{eqb, leb, ltb, lit≤}
use lib.ListN.{length, get_or, length-take, length-drop}
use borrow.Author.Tests.{ltb-true, ltb-false, leb-true, eqb-true, eqb-false, lt-ltb, le-ltb, le-leb, eq-eqb, ne_eqb, not-true}
use Rattle.kinds.specs.Layout.{blocks_head, mode_offset, object_length, name_record_length}
use Rattle.kinds.specs.Layout.{generation_offset, uid_offset, gid_offset, size_offset, atime_offset, mtime_offset, ctime_offset}
use Rattle.kinds.specs.Layout.{blocks_offset, verifier_offset, exclusive_offset, nanoseconds_offset, text_offset}
use Rattle.kinds.specs.Numbers.{REGULAR, DIRECTORY}
use Rattle.kinds.specs.Numbers.{nanoseconds_end, most_objects, most_name_records, most_blocks, file_blocks, unused_block, kept_flag, most_file_bytes}
use Rattle.kinds.specs.Numbers.{spent_generation, most_mode, most_name_bytes}
use Rattle.kinds.specs.Objects.{free_object}
use Rattle.kinds.specs.declared.object.Object.{Object}
use Rattle.spec.specs.Bytes.{part, be_at, zeros, same_bytes, all_bytes}
use Rattle.spec.specs.Count.{count, every}
use Rattle.spec.specs.Image.{Store, volumes, objects, names, blocks, object_start, name_start, time_at, object_from, object_at, name_from, name_at}
use Rattle.spec.specs.Image.{name_length, free_name}
use Rattle.spec.specs.Room.{is_live, is_regular, is_directory, need, uses, is_used_name, namings, is_named, above}
use Rattle.spec.specs.Names.{is_dot, is_dot_dot, is_dots, good_byte, good_bytes, good_name}
use Rattle.spec.specs.Check.{most_names, is_zero, good_counts, image_length, good_shape, good_time, good_block, good_size, good_verifier, good_live, good_free}
use Rattle.spec.specs.Check.{good_object, good_root, good_used, good_name_record, is_distinct, good_namings, is_used_once, leads_to_root, passes}
use Rattle.laws.proofs.Bytes.{part_length, same_yes, same_no}
use Rattle.laws.proofs.Count.{true_false, by_bool, and_both, every_at, every_all}
use Rattle.laws.proofs.Demands.{demands, passes_by}
use Rattle.laws.proofs.RecordRange.{text_length}
use Rattle.laws.proofs.Tests.{and_true, or_one, or_none, implied, implies, nonzero_true, nonzero_false, true_nonzero, false_nonzero}
use Rattle.laws.proofs.Zeros.{is_zero_zeros, zeros_is_zero, zero_within, be_zero, zero_part, zero_join, halves_zero, zero_halves}

-- ---- THE DEMANDS

-- "volume: count 1"; "P, 1 to 64"; "Q, 0 to 128"; "R, 0 to 1,024"; "the image [grows] to 20 + 92P + 44Q + 512R"
pub record Shaped (s : Store) : Type 0 where
  pub volume : volumes s ≡ 1
  pub some_object : 1 ≤ objects s
  pub few_objects : objects s ≤ most_objects
  pub few_names : names s ≤ most_name_records
  pub few_blocks : blocks s ≤ most_blocks
  pub exact : length s ≡ image_length (objects s) (names s) (blocks s)

-- the counts are in range, and the records lie within the bytes: what reading them takes
pub record Framed (s : Store) : Type 0 where
  pub some_object : 1 ≤ objects s
  pub few_objects : objects s ≤ most_objects
  pub few_names : names s ≤ most_name_records
  pub few_blocks : blocks s ≤ most_blocks
  pub inside : blocks_head + object_length * objects s + name_record_length * names s ≤ length s

pub shaped_framed : (s : Store) → Shaped s → Framed s
shaped_framed s h =
    record {
      some_object = h.some_object;
      few_objects = h.few_objects;
      few_names = h.few_names;
      few_blocks = h.few_blocks;
      inside = omega (arith, h.exact);
    }

-- "a file's size at most 8,192"; "a directory's size 0 with no blocks"
abbrev pub GoodSize : Object → Type 0
GoodSize v = ((v.kind ≡ REGULAR) × (v.size ≤ most_file_bytes)) ⊎ ((v.kind ≡ DIRECTORY) × (v.size ≡ 0))

-- "a flag word: 1 on a regular file that keeps one, else both zero"
abbrev pub GoodVerifier : Object → Type 0
GoodVerifier v = ((v.exclusive ≡ kept_flag) × (v.kind ≡ REGULAR)) ⊎ ((v.exclusive ≡ 0) × (v.verifier ≡ 0))

-- a live object's record, in a store with r blocks
pub record LiveObject (r : ℕ) (v : Object) : Type 0 where
  pub generation : v.generation < spent_generation
  pub mode : v.mode ≤ most_mode
  pub atime : v.atime.nanoseconds < nanoseconds_end
  pub mtime : v.mtime.nanoseconds < nanoseconds_end
  pub ctime : v.ctime.nanoseconds < nanoseconds_end
  pub size : GoodSize v
  pub verifier : GoodVerifier v
  -- "its first ceil(size/512) block numbers in range and the rest 65535"
  pub held : (k : ℕ) → k < need v.size → get_or v.blocks k 0 < r
  pub rest : (k : ℕ) → need v.size ≤ k → k < file_blocks → get_or v.blocks k 0 ≡ unused_block

-- "a free object zero but for its generation"
abbrev pub FreeObject : Object → Type 0
FreeObject v = v ≡ free_object v.generation

abbrev pub GoodObject : ℕ → Object → Type 0
GoodObject r v = FreeObject v ⊎ LiveObject r v

abbrev pub GoodObjects : Store → Type 0
GoodObjects s = (o : ℕ) → o < objects s → GoodObject (blocks s) (object_at s o)

-- object o is live; name record n is used
abbrev pub Live : Store → ℕ → Type 0
Live s o = 0 < (object_at s o).kind

abbrev pub Used : Store → ℕ → Type 0
Used s n = 0 < name_length s n

-- "names 1 to 32 bytes, .. without 0 or 0x2F, not "." or "..""
pub record GoodName (text : List ℕ) : Type 0 where
  pub some_byte : 1 ≤ length text
  pub short : length text ≤ most_name_bytes
  pub bytes : (k : ℕ) → k < length text → (get_or text k 0 ≢ 0) × (get_or text k 0 ≢ 0x2F)
  pub no_dot : text ≢ 0x2E ∷ []
  pub no_dots_lem : text ≢ 0x2E ∷ 0x2E ∷ []

-- the bytes of a name record after its name are zero
abbrev pub Padded : Store → ℕ → Type 0
Padded s n = part s (name_start s n + text_offset + name_length s n) (most_name_bytes - name_length s n) ≡ zeros (most_name_bytes - name_length s n)

-- "used names .., zero-padded, .. each joining a live directory to a live object"
pub record UsedName (s : Store) (n : ℕ) : Type 0 where
  pub short : name_length s n ≤ most_name_bytes
  pub exact : length (name_at s n).text ≡ name_length s n
  pub good : GoodName (name_at s n).text
  pub padded : Padded s n
  pub directory : (name_at s n).directory < objects s
  pub in_directory_lem : (object_at s (name_at s n).directory).kind ≡ DIRECTORY
  pub child : (name_at s n).child < objects s
  pub child_live : Live s (name_at s n).child

-- "a free name (length 0) all zero"
pub record FreeName (s : Store) (n : ℕ) : Type 0 where
  pub empty : name_length s n ≡ 0
  pub all : name_at s n ≡ free_name
  pub padded : Padded s n

abbrev pub GoodNameRecord : Store → ℕ → Type 0
GoodNameRecord s n = FreeName s n ⊎ UsedName s n

abbrev pub GoodNames : Store → Type 0
GoodNames s = (n : ℕ) → n < names s → GoodNameRecord s n

-- "distinct within a directory"
abbrev pub DistinctNames : Store → Type 0
DistinctNames s = (n : ℕ) → n < names s → Used s n → count (names s) (is_named s (name_at s n).directory (name_at s n).text) ≡ 1

-- "every live object but the root named .., the root never"; "1 to 16 names per file and one per directory"
pub record GoodNamings (s : Store) : Type 0 where
  pub root : namings s 0 ≡ 0
  pub named : (o : ℕ) → o < objects s → o ≢ 0 → Live s o → 1 ≤ namings s o
  pub few : (o : ℕ) → o < objects s → o ≢ 0 → Live s o → namings s o ≤ most_names (object_at s o).kind

-- "no block used twice"
abbrev pub BlocksUsedOnce : Store → Type 0
BlocksUsedOnce s = (r : ℕ) → r < blocks s → uses s r ≤ 1

-- "parents lead to the root"
abbrev pub LeadsToRoot : Store → Type 0
LeadsToRoot s = (o : ℕ) → o < objects s → Live s o → above s (objects s) o ≡ 0

pub record Valid (s : Store) : Type 0 where
  pub shaped : Shaped s
  pub root : (object_at s 0).kind ≡ DIRECTORY
  pub good_objects : GoodObjects s
  pub good_names : GoodNames s
  pub distinct : DistinctNames s
  pub named : GoodNamings s
  pub used_once : BlocksUsedOnce s
  pub leads : LeadsToRoot s

-- ---- TESTS OF THE RECORDS

pub live_true : (s : Store) (o : ℕ) → is_live s o ≡ true → Live s o
unfolding is_live
live_true s o e = nonzero_true (object_at s o).kind e

pub live_false : (s : Store) (o : ℕ) → is_live s o ≡ false → (object_at s o).kind ≡ 0
unfolding is_live
live_false s o e = nonzero_false (object_at s o).kind e

pub true_live : (s : Store) (o : ℕ) → Live s o → is_live s o ≡ true
unfolding is_live
true_live s o h = true_nonzero (object_at s o).kind h

pub false_live : (s : Store) (o : ℕ) → (object_at s o).kind ≡ 0 → is_live s o ≡ false
unfolding is_live
false_live s o h = false_nonzero (object_at s o).kind h

pub used_true : (s : Store) (n : ℕ) → is_used_name s n ≡ true → Used s n
unfolding is_used_name
used_true s n e = nonzero_true (name_length s n) e

pub used_false : (s : Store) (n : ℕ) → is_used_name s n ≡ false → name_length s n ≡ 0
unfolding is_used_name
used_false s n e = nonzero_false (name_length s n) e

pub true_used : (s : Store) (n : ℕ) → Used s n → is_used_name s n ≡ true
unfolding is_used_name
true_used s n h = true_nonzero (name_length s n) h

pub false_used : (s : Store) (n : ℕ) → name_length s n ≡ 0 → is_used_name s n ≡ false
unfolding is_used_name
false_used s n h = false_nonzero (name_length s n) h

pub directory_true : (s : Store) (o : ℕ) → is_directory s o ≡ true → (object_at s o).kind ≡ DIRECTORY
unfolding is_directory
directory_true s o e = eqb-true (object_at s o).kind 2 e

pub regular_true : (s : Store) (o : ℕ) → is_regular s o ≡ true → (object_at s o).kind ≡ REGULAR
unfolding is_regular
regular_true s o e = eqb-true (object_at s o).kind 1 e

pub true_regular : (s : Store) (o : ℕ) → (object_at s o).kind ≡ REGULAR → is_regular s o ≡ true
unfolding is_regular
true_regular s o h = eq-eqb (object_at s o).kind 1 h

pub true_directory : (s : Store) (o : ℕ) → (object_at s o).kind ≡ DIRECTORY → is_directory s o ≡ true
unfolding is_directory
true_directory s o h = eq-eqb (object_at s o).kind 2 h

-- ---- THE SHAPE

pub counts_by : (p q r : ℕ) → good_counts p q r ≡ true → (1 ≤ p) × (p ≤ most_objects) × (q ≤ most_name_records) × (r ≤ most_blocks)
unfolding good_counts
counts_by p q r e =
    let a = and_both (leb 1 p && leb p most_objects && leb q most_name_records) (leb r most_blocks) e in
    let b = and_both (leb 1 p && leb p most_objects) (leb q most_name_records) a.0 in
    let c = and_both (leb 1 p) (leb p most_objects) b.0 in
    (leb-true 1 p c.0, leb-true p most_objects c.1, leb-true q most_name_records b.1, leb-true r most_blocks a.1)

pub shaped : (s : Store) → good_shape s ≡ true → Shaped s
unfolding good_shape
shaped s e =
    let p = objects s in
    let q = names s in
    let r = blocks s in
    let a = and_both (eqb (volumes s) 1 && good_counts p q r) (eqb (length s) (image_length p q r)) e in
    let b = and_both (eqb (volumes s) 1) (good_counts p q r) a.0 in
    let k = counts_by p q r b.1 in
    record {
      volume = eqb-true (volumes s) 1 b.0;
      some_object = k.0;
      few_objects = k.1;
      few_names = k.2;
      few_blocks = k.3;
      exact = eqb-true (length s) (image_length p q r) a.1;
    }

pub counts_true : (p q r : ℕ) → 1 ≤ p → p ≤ most_objects → q ≤ most_name_records → r ≤ most_blocks → good_counts p q r ≡ true
unfolding good_counts
counts_true p q r a b c d = rw (le-leb 1 p a, le-leb p most_objects b, le-leb q most_name_records c, le-leb r most_blocks d)

pub shape_true : (s : Store) → Shaped s → good_shape s ≡ true
unfolding good_shape
shape_true s h =
    rw (
      eq-eqb (volumes s) 1 h.volume,
      counts_true (objects s) (names s) (blocks s) h.some_object h.few_objects h.few_names h.few_blocks,
      eq-eqb (length s) (image_length (objects s) (names s) (blocks s)) h.exact,
    )

-- ---- OBJECTS

-- "a file's size at most 8,192", and so at most 16 blocks
pub live_size : (r : ℕ) (v : Object) → LiveObject r v → v.size ≤ most_file_bytes
live_size r v h = ⊎_elim (λ a. a.1) (λ a. omega (arith, a.1)) h.size

pub need_few : (size : ℕ) → size ≤ most_file_bytes → need size ≤ file_blocks
need_few size h = omega arith

pub size_good : (v : Object) → good_size v ≡ true → GoodSize v
unfolding good_size
size_good v e =
    ⊎_elim
    (λ (a : eqb v.kind 1 && leb v.size most_file_bytes ≡ true). let p = and_both (eqb v.kind 1) (leb v.size most_file_bytes) a in
    ◌⊎◌.inl (eqb-true v.kind 1 p.0, leb-true v.size most_file_bytes p.1))
    (λ (a : eqb v.kind 2 && eqb v.size 0 ≡ true). let p = and_both (eqb v.kind 2) (eqb v.size 0) a in
    ◌⊎◌.inr (eqb-true v.kind 2 p.0, eqb-true v.size 0 p.1))
    (or_one (eqb v.kind 1 && leb v.size most_file_bytes) (eqb v.kind 2 && eqb v.size 0) e)

good_size_lem : (v : Object) → GoodSize v → good_size v ≡ true
unfolding good_size
good_size_lem v (◌⊎◌.inl a) = rw (eq-eqb v.kind 1 a.0, le-leb v.size most_file_bytes a.1)
good_size_lem v (◌⊎◌.inr a) =
    rw (ne_eqb v.kind 1 (λ e. omega (arith, a.0)), eq-eqb v.kind 2 a.0, eq-eqb v.size 0 a.1)

verifier_good : (v : Object) → good_verifier v ≡ true → GoodVerifier v
unfolding good_verifier
verifier_good v e =
    ⊎_elim
    (λ (a : eqb v.exclusive kept_flag && eqb v.kind 1 ≡ true). let p = and_both (eqb v.exclusive kept_flag) (eqb v.kind 1) a in
    ◌⊎◌.inl (eqb-true v.exclusive kept_flag p.0, eqb-true v.kind 1 p.1))
    (λ (a : eqb v.exclusive 0 && eqb v.verifier 0 ≡ true). let p = and_both (eqb v.exclusive 0) (eqb v.verifier 0) a in
    ◌⊎◌.inr (eqb-true v.exclusive 0 p.0, eqb-true v.verifier 0 p.1))
    (or_one (eqb v.exclusive kept_flag && eqb v.kind 1) (eqb v.exclusive 0 && eqb v.verifier 0) e)

good_verifier_lem : (v : Object) → GoodVerifier v → good_verifier v ≡ true
unfolding good_verifier
good_verifier_lem v (◌⊎◌.inl a) = rw (eq-eqb v.exclusive kept_flag a.0, eq-eqb v.kind 1 a.1)
good_verifier_lem v (◌⊎◌.inr a) =
    rw (ne_eqb v.exclusive kept_flag (λ e. omega (arith, a.0)), eq-eqb v.exclusive 0 a.0, eq-eqb v.verifier 0 a.1)

block_held : (r : ℕ) (v : Object) (k : ℕ) → good_block r v k ≡ true → k < need v.size → get_or v.blocks k 0 < r
unfolding good_block
block_held r v k e h = ltb-true (get_or v.blocks k 0) r (rw (lt-ltb k (need v.size) h) at e)

block_rest : (r : ℕ) (v : Object) (k : ℕ) → good_block r v k ≡ true → need v.size ≤ k → get_or v.blocks k 0 ≡ unused_block
unfolding good_block
block_rest r v k e h = eqb-true (get_or v.blocks k 0) unused_block (rw (le-ltb k (need v.size) h) at e)

block_good : (r : ℕ) (v : Object) (k : ℕ) → LiveObject r v → k < file_blocks → good_block r v k ≡ true
unfolding good_block
block_good r v k h l =
    by_bool (ltb k (need v.size))
    (λ t. rw (t, lt-ltb (get_or v.blocks k 0) r (h.held k (ltb-true k (need v.size) t))))
    (λ t. rw (t, eq-eqb (get_or v.blocks k 0) unused_block (h.rest k (ltb-false k (need v.size) t) l)))

pub live_object : (r : ℕ) (v : Object) → good_live r v ≡ true → LiveObject r v
unfolding good_live good_time
live_object r v e =
    let g = ltb v.generation spent_generation in
    let m = leb v.mode most_mode in
    let x = ltb v.atime.nanoseconds nanoseconds_end in
    let y = ltb v.mtime.nanoseconds nanoseconds_end in
    let z = ltb v.ctime.nanoseconds nanoseconds_end in
    let a = and_both (g && m && x && y && z && good_size v && good_verifier v) (every file_blocks (good_block r v)) e in
    let u = and_both (g && m && x && y && z && good_size v) (good_verifier v) a.0 in
    let b = and_both (g && m && x && y && z) (good_size v) u.0 in
    let c = and_both (g && m && x && y) z b.0 in
    let d = and_both (g && m && x) y c.0 in
    let f = and_both (g && m) x d.0 in
    let i = and_both g m f.0 in
    let w = size_good v b.1 in
    let small : v.size ≤ most_file_bytes = ⊎_elim (λ q. q.1) (λ q. omega (arith, q.1)) w in
    record {
      generation = ltb-true v.generation spent_generation i.0;
      mode = leb-true v.mode most_mode i.1;
      atime = ltb-true v.atime.nanoseconds nanoseconds_end f.1;
      mtime = ltb-true v.mtime.nanoseconds nanoseconds_end d.1;
      ctime = ltb-true v.ctime.nanoseconds nanoseconds_end c.1;
      size = w;
      verifier = verifier_good v u.1;
      held = λ k (h : k < need v.size). block_held r v k (every_at (good_block r v) file_blocks k a.1 (omega arith)) h;
      rest = λ k h l. block_rest r v k (every_at (good_block r v) file_blocks k a.1 l) h;
    }

pub live_good : (r : ℕ) (v : Object) → LiveObject r v → good_live r v ≡ true
unfolding good_live good_time
live_good r v h =
    rw (
      lt-ltb v.generation spent_generation h.generation,
      le-leb v.mode most_mode h.mode,
      lt-ltb v.atime.nanoseconds nanoseconds_end h.atime,
      lt-ltb v.mtime.nanoseconds nanoseconds_end h.mtime,
      lt-ltb v.ctime.nanoseconds nanoseconds_end h.ctime,
      good_size_lem v h.size,
      good_verifier_lem v h.verifier,
    )
    (every_all (good_block r v) file_blocks (λ k l. block_good r v k h l))

-- a live object's type is 1 or 2
pub live_kind : (r : ℕ) (v : Object) → LiveObject r v → 0 < v.kind
live_kind r v h = ⊎_elim (λ a. omega (arith, a.0)) (λ a. omega (arith, a.0)) h.size

-- the record of a free object, from its bytes
free_from : (s : Store) (at : ℕ) → be_at s at 4 ≡ 0 → part s (at + mode_offset) (object_length - mode_offset) ≡ zeros (object_length - mode_offset)
    → object_from s at ≡ free_object (be_at s (at + generation_offset) 4)
unfolding object_from time_at
free_from s at e z =
    λ i. record {
      kind = e i;
      generation = be_at s (at + generation_offset) 4;
      mode = number mode_offset (lit≤ tt) (lit≤ tt) i;
      uid = number uid_offset (lit≤ tt) (lit≤ tt) i;
      gid = number gid_offset (lit≤ tt) (lit≤ tt) i;
      size = number size_offset (lit≤ tt) (lit≤ tt) i;
      atime = record { seconds = number atime_offset (lit≤ tt) (lit≤ tt) i; nanoseconds = nano atime_offset (lit≤ tt) (lit≤ tt) i };
      mtime = record { seconds = number mtime_offset (lit≤ tt) (lit≤ tt) i; nanoseconds = nano mtime_offset (lit≤ tt) (lit≤ tt) i };
      ctime = record { seconds = number ctime_offset (lit≤ tt) (lit≤ tt) i; nanoseconds = nano ctime_offset (lit≤ tt) (lit≤ tt) i };
      blocks = halves_zero s (at + blocks_offset) file_blocks (within blocks_offset (2 * file_blocks) (lit≤ tt) (lit≤ tt)) i;
      verifier = be_zero s (at + verifier_offset) 8 (within verifier_offset 8 (lit≤ tt) (lit≤ tt)) i;
      exclusive = number exclusive_offset (lit≤ tt) (lit≤ tt) i;
    }
  where
    within : (k w : ℕ) → mode_offset ≤ k → k + w ≤ object_length → part s (at + k) w ≡ zeros w
    within k w l h =
        let q : at + k ≡ at + mode_offset + (k - mode_offset) = omega arith in
        rw q (zero_within s (at + mode_offset) (object_length - mode_offset) (k - mode_offset) w z (omega arith))

    number : (k : ℕ) → mode_offset ≤ k → k + 4 ≤ object_length → be_at s (at + k) 4 ≡ 0
    number k l h = be_zero s (at + k) 4 (within k 4 l h)

    -- of the time at k
    nano : (k : ℕ) → mode_offset ≤ k → k + nanoseconds_offset + 4 ≤ object_length → be_at s (at + k + nanoseconds_offset) 4 ≡ 0
    nano k l h =
        let q : at + k + nanoseconds_offset ≡ at + (k + nanoseconds_offset) = omega arith in
        rw q (number (k + nanoseconds_offset) (omega arith) h)

pub free_zeros : (s : Store) (o : ℕ) → part s (object_start o) object_length ≡ zeros object_length → object_at s o ≡ free_object 0
unfolding object_at
free_zeros s o z =
    let at = object_start o in
    let k : part s (at + 0) 4 ≡ zeros 4 = zero_within s at object_length 0 4 z (lit≤ tt) in
    free_from s at (be_zero s at 4 (rw add-zero at k)) (zero_within s at object_length mode_offset (object_length - mode_offset) z (lit≤ tt))
    ∙ ap free_object (be_zero s (at + generation_offset) 4 (zero_within s at object_length generation_offset 4 z (lit≤ tt)))

-- and its bytes, from the record
free_zero : (s : Store) (at g : ℕ) → at + object_length ≤ length s → object_from s at ≡ free_object g → part s (at + mode_offset) (object_length - mode_offset)
    ≡ zeros (object_length - mode_offset)
unfolding object_from time_at
free_zero s at g h e =
    let f : (w : Object → ℕ) → w (object_from s at) ≡ w (free_object g) = λ w. ap w e in
    let a = zero_part s (at + mode_offset) 4 (omega arith) (f (λ v. v.mode)) in
    let b = word uid_offset (lit≤ tt) (lit≤ tt) a (f (λ v. v.uid)) in
    let c = word gid_offset (lit≤ tt) (lit≤ tt) b (f (λ v. v.gid)) in
    let d = word size_offset (lit≤ tt) (lit≤ tt) c (f (λ v. v.size)) in
    let i = time atime_offset (lit≤ tt) (lit≤ tt) d (f (λ v. v.atime.seconds)) (f (λ v. v.atime.nanoseconds)) in
    let j = time mtime_offset (lit≤ tt) (lit≤ tt) i (f (λ v. v.mtime.seconds)) (f (λ v. v.mtime.nanoseconds)) in
    let k = time ctime_offset (lit≤ tt) (lit≤ tt) j (f (λ v. v.ctime.seconds)) (f (λ v. v.ctime.nanoseconds)) in
    let m = join blocks_offset (2 * file_blocks) (lit≤ tt) k
    (zero_halves s (at + blocks_offset) file_blocks (omega arith) (ap (λ (v : Object). v.blocks) e)) in
    let n = join verifier_offset 8 (lit≤ tt) m (zero_part s (at + verifier_offset) 8 (omega arith) (f (λ v. v.verifier))) in
    word exclusive_offset (lit≤ tt) (lit≤ tt) n (f (λ v. v.exclusive))
  where
    -- zeros from the mode up to k
    ZeroTo : ℕ → Type 0
    ZeroTo k = part s (at + mode_offset) (k - mode_offset) ≡ zeros (k - mode_offset)

    join : (k w : ℕ) → mode_offset ≤ k → ZeroTo k → part s (at + k) w ≡ zeros w → ZeroTo (k + w)
    join k w l x y =
        let q : at + k ≡ at + mode_offset + (k - mode_offset) = omega arith in
        let r : k + w - mode_offset ≡ k - mode_offset + w = omega arith in
        rw r (zero_join s (at + mode_offset) (k - mode_offset) w x (rw q at y))

    word : (k : ℕ) → mode_offset ≤ k → k + 4 ≤ object_length → ZeroTo k → be_at s (at + k) 4 ≡ 0 → ZeroTo (k + 4)
    word k l b x z = join k 4 l x (zero_part s (at + k) 4 (omega arith) z)

    time : (k : ℕ) → mode_offset ≤ k → k + nanoseconds_offset + 4 ≤ object_length → ZeroTo k → be_at s (at + k) 4 ≡ 0 → be_at s (at + k + nanoseconds_offset) 4 ≡ 0
        → ZeroTo (k + nanoseconds_offset + 4)
    time k l b x y z =
        let q : at + k + nanoseconds_offset ≡ at + (k + nanoseconds_offset) = omega arith in
        word (k + nanoseconds_offset) (omega arith) b (word k l (omega arith) x y) (rw q at z)

pub free_object_lem : (s : Store) (o : ℕ) → object_start o + object_length ≤ length s → is_live s o ≡ false → good_free s o ≡ true → FreeObject (object_at s o)
unfolding good_free object_at object_from
free_object_lem s o h l e =
    let at = object_start o in
    free_from s at (live_false s o l) (zeros_is_zero (part s (at + 8) (object_length - mode_offset)) (object_length - mode_offset)
    (part_length s (at + 8) (object_length - mode_offset) (omega arith)) e)

pub free_good : (s : Store) (o : ℕ) → object_start o + object_length ≤ length s → FreeObject (object_at s o) → good_free s o ≡ true
unfolding good_free object_at
free_good s o h e = rw (free_zero s (object_start o) _ h e) (is_zero_zeros (object_length - mode_offset))

pub object_good : (s : Store) (o : ℕ) → object_start o + object_length ≤ length s → good_object s o ≡ true → GoodObject (blocks s) (object_at s o)
unfolding good_object
object_good s o h e =
    by_bool (is_live s o)
    (λ t. ◌⊎◌.inr (live_object (blocks s) (object_at s o) (rw t at e)))
    (λ t. ◌⊎◌.inl (free_object_lem s o h t (rw t at e)))

pub good_object_lem : (s : Store) (o : ℕ) → object_start o + object_length ≤ length s → GoodObject (blocks s) (object_at s o) → good_object s o ≡ true
unfolding good_object
good_object_lem s o h (◌⊎◌.inl f) = rw (false_live s o (ap (λ (v : Object). v.kind) f)) (free_good s o h f)
good_object_lem s o h (◌⊎◌.inr f) = rw (true_live s o (live_kind (blocks s) (object_at s o) f)) (live_good (blocks s) (object_at s o) f)

-- ---- NAMES

bytes_at : (p : ℕ → Bool) (xs : List ℕ) (k : ℕ) → all_bytes p xs ≡ true → k < length xs → p (get_or xs k 0) ≡ true
unfolding all_bytes
bytes_at p [] k e h = absurd (omega arith)
bytes_at p (x ∷ xs) zero e h = (and_both (p x) (all_bytes p xs) e).0
bytes_at p (x ∷ xs) (suc k) e h = bytes_at p xs k (and_both (p x) (all_bytes p xs) e).1 (omega arith)

bytes_all : (p : ℕ → Bool) (xs : List ℕ) → ((k : ℕ) → k < length xs → p (get_or xs k 0) ≡ true) → all_bytes p xs ≡ true
unfolding all_bytes
bytes_all p [] f = refl
bytes_all p (x ∷ xs) f = and_true (p x) (all_bytes p xs) (f 0 (omega arith)) (bytes_all p xs (λ k h. f (suc k) (omega arith)))

byte_good : (x : ℕ) → good_byte x ≡ true → (x ≢ 0) × (x ≢ 0x2F)
unfolding good_byte
byte_good x e =
    let p = and_both (not (eqb x 0)) (not (eqb x 0x2F)) e in
    (eqb-false x 0 (not-true (eqb x 0) p.0), eqb-false x 0x2F (not-true (eqb x 0x2F) p.1))

good_byte_lem : (x : ℕ) → x ≢ 0 → x ≢ 0x2F → good_byte x ≡ true
unfolding good_byte
good_byte_lem x a b = rw (ne_eqb x 0 a, ne_eqb x 0x2F b)

-- the bytes of a name, without 0 or 0x2F
pub bytes_good : (text : List ℕ) → good_bytes text ≡ true → (k : ℕ) → k < length text → (get_or text k 0 ≢ 0) × (get_or text k 0 ≢ 0x2F)
unfolding good_bytes
bytes_good text e k h = byte_good (get_or text k 0) (bytes_at good_byte text k e h)

pub good_bytes_lem : (text : List ℕ) → ((k : ℕ) → k < length text → (get_or text k 0 ≢ 0) × (get_or text k 0 ≢ 0x2F)) → good_bytes text ≡ true
unfolding good_bytes
good_bytes_lem text f = bytes_all good_byte text (λ k h. good_byte_lem (get_or text k 0) (f k h).0 (f k h).1)

-- "." and ".."
pub dots_no : (text : List ℕ) → is_dots text ≡ false → (text ≢ 0x2E ∷ []) × (text ≢ 0x2E ∷ 0x2E ∷ [])
unfolding is_dot is_dot_dot
dots_no text e =
    let p = or_none (same_bytes text (0x2E ∷ [])) (same_bytes text (0x2E ∷ 0x2E ∷ [])) e in
    (λ q. true_false (sym (same_yes text (0x2E ∷ []) q) ∙ p.0), λ q. true_false (sym (same_yes text (0x2E ∷ 0x2E ∷ []) q) ∙ p.1))

pub no_dots_lem : (text : List ℕ) → text ≢ 0x2E ∷ [] → text ≢ 0x2E ∷ 0x2E ∷ [] → is_dots text ≡ false
unfolding is_dot is_dot_dot
no_dots_lem text a b = rw (same_no text (0x2E ∷ []) a, same_no text (0x2E ∷ 0x2E ∷ []) b)

pub name_good : (text : List ℕ) → good_name text ≡ true → GoodName text
unfolding good_name
name_good text e =
    let a = and_both (leb 1 (length text) && leb (length text) most_name_bytes && good_bytes text) (not (is_dots text)) e in
    let b = and_both (leb 1 (length text) && leb (length text) most_name_bytes) (good_bytes text) a.0 in
    let c = and_both (leb 1 (length text)) (leb (length text) most_name_bytes) b.0 in
    let d = dots_no text (not-true (is_dots text) a.1) in
    record {
      some_byte = leb-true 1 (length text) c.0;
      short = leb-true (length text) most_name_bytes c.1;
      bytes = bytes_good text b.1;
      no_dot = d.0;
      no_dots_lem = d.1;
    }

pub good_name_lem : (text : List ℕ) → GoodName text → good_name text ≡ true
unfolding good_name
good_name_lem text h =
    rw (le-leb 1 (length text) h.some_byte, le-leb (length text) most_name_bytes h.short, good_bytes_lem text h.bytes, no_dots_lem text h.no_dot h.no_dots_lem)

-- a free name record, from its bytes, and its bytes
pub free_name_lem : (s : Store) (n : ℕ) → part s (name_start s n) name_record_length ≡ zeros name_record_length → FreeName s n
unfolding name_at name_from name_length part
free_name_lem s n w =
    let at = name_start s n in
    let e : be_at s (at + 8) 4 ≡ 0 = be_zero s (at + 8) 4 (zero_within s at name_record_length 8 4 w (lit≤ tt)) in
    let d : part s (at + 0) 4 ≡ zeros 4 = zero_within s at name_record_length 0 4 w (lit≤ tt) in
    record {
      empty = e;
      all = λ i. record {
        directory = be_zero s at 4 (rw add-zero at d) i;
        child = be_zero s (at + 4) 4 (zero_within s at name_record_length 4 4 w (lit≤ tt)) i;
        text = ap (λ (k : ℕ). part s (at + text_offset) k) e i;
      };
      padded = rw (e, add-zero) (zero_within s at name_record_length text_offset most_name_bytes w (lit≤ tt));
    }

name_zero : (s : Store) (n : ℕ) → name_start s n + name_record_length ≤ length s → FreeName s n → is_zero (part s (name_start s n) name_record_length) ≡ true
unfolding name_at name_from name_length
name_zero s n h f =
    let at = name_start s n in
    let a = zero_part s at 4 (omega arith) (ap (λ v. v.directory) f.all) in
    let b = zero_join s at 4 4 a (zero_part s (at + 4) 4 (omega arith) (ap (λ v. v.child) f.all)) in
    let c = zero_join s at 8 4 b (zero_part s (at + 8) 4 (omega arith) f.empty) in
    let d : part s (at + text_offset) most_name_bytes ≡ zeros most_name_bytes = rw (f.empty, add-zero) at f.padded in
    rw (zero_join s at text_offset most_name_bytes c d) (is_zero_zeros name_record_length)

-- a used name record
module _ (s : Store) (n : ℕ) (h : name_start s n + (name_record_length + 4) ≤ length s) where
  used_long : length (name_at s n).text ≤ most_name_bytes → name_length s n ≤ most_name_bytes
  unfolding name_at name_from name_length part
  used_long l = omega (arith, simp (length-take, length-drop) at l)

  used_name : good_used s n ≡ true → UsedName s n
  unfolding good_used
  used_name e =
      let v = name_at s n in
      let pad = part s (name_start s n + text_offset + name_length s n) (most_name_bytes - name_length s n) in
      let in_place = ltb v.directory (objects s) && is_directory s v.directory in
      let to-live = ltb v.child (objects s) && is_live s v.child in
      let a = and_both (good_name v.text && is_zero pad && in_place) to-live e in
      let b = and_both (good_name v.text && is_zero pad) in_place a.0 in
      let c = and_both (good_name v.text) (is_zero pad) b.0 in
      let d = and_both (ltb v.directory (objects s)) (is_directory s v.directory) b.1 in
      let f = and_both (ltb v.child (objects s)) (is_live s v.child) a.1 in
      let g = name_good v.text c.0 in
      let l = used_long g.short in
      record {
        short = l;
        exact = text_length s n (omega arith);
        good = g;
        padded = zeros_is_zero pad (most_name_bytes - name_length s n)
            (part_length s (name_start s n + text_offset + name_length s n) (most_name_bytes - name_length s n) (omega arith)) c.1;
        directory = ltb-true v.directory (objects s) d.0;
        in_directory_lem = directory_true s v.directory d.1;
        child = ltb-true v.child (objects s) f.0;
        child_live = live_true s v.child f.1;
      }

  used_good : UsedName s n → good_used s n ≡ true
  unfolding good_used
  used_good u =
      let v = name_at s n in
      rw (
        good_name_lem v.text u.good,
        u.padded,
        is_zero_zeros (most_name_bytes - name_length s n),
        lt-ltb v.directory (objects s) u.directory,
        true_directory s v.directory u.in_directory_lem,
        lt-ltb v.child (objects s) u.child,
        true_live s v.child u.child_live,
      )

  pub name_record_lem : good_name_record s n ≡ true → GoodNameRecord s n
  unfolding good_name_record
  name_record_lem e =
      by_bool (is_used_name s n)
      (λ t. ◌⊎◌.inr (used_name (rw t at e)))
      (λ t. let z = part s (name_start s n) name_record_length in
      ◌⊎◌.inl (free_name_lem s n (zeros_is_zero z name_record_length (part_length s (name_start s n) name_record_length (omega arith)) (rw t at e))))

  pub record_good : GoodNameRecord s n → good_name_record s n ≡ true
  unfolding good_name_record
  record_good (◌⊎◌.inl f) = rw (false_used s n f.empty) (name_zero s n (omega arith) f)
  record_good (◌⊎◌.inr u) = rw (true_used s n (omega (arith, u.good.some_byte, u.exact))) (used_good u)

-- ---- THE STORE

distinct_names : (s : Store) → every (names s) (is_distinct s) ≡ true → DistinctNames s
unfolding is_distinct
distinct_names s e n l u =
    let c = count (names s) (is_named s (name_at s n).directory (name_at s n).text) in
    eqb-true c 1 (implied (is_used_name s n) (eqb c 1) (every_at (is_distinct s) (names s) n e l) (true_used s n u))

names_distinct : (s : Store) → DistinctNames s → every (names s) (is_distinct s) ≡ true
unfolding is_distinct
names_distinct s d =
    every_all (is_distinct s) (names s) (λ n l.
    let c = count (names s) (is_named s (name_at s n).directory (name_at s n).text) in
    implies (is_used_name s n) (eqb c 1) (λ t. eq-eqb c 1 (d n l (used_true s n t))))

good_namings_lem : (s : Store) → 1 ≤ objects s → every (objects s) (good_namings s) ≡ true → GoodNamings s
unfolding good_namings
good_namings_lem s p e =
    record {
      root = eqb-true (namings s 0) 0 (every_at (good_namings s) (objects s) 0 e p);
      named = λ o l d h. leb-true 1 (namings s o) (both o l d h).0;
      few = λ o l d h. leb-true (namings s o) (most_names (object_at s o).kind) (both o l d h).1;
    }
  where
    both : (o : ℕ) → o < objects s → o ≢ 0 → Live s o → (leb 1 (namings s o) ≡ true) × (leb (namings s o) (most_names (object_at s o).kind) ≡ true)
    both o l d h =
        and_both (leb 1 (namings s o)) (leb (namings s o) (most_names (object_at s o).kind))
        (implied (is_live s o) _ (rw (ne_eqb o 0 d) at (every_at (good_namings s) (objects s) o e l)) (true_live s o h))

namings_good : (s : Store) → GoodNamings s → every (objects s) (good_namings s) ≡ true
unfolding good_namings
namings_good s h =
    every_all (good_namings s) (objects s) (λ o l.
    by_bool (eqb o 0)
    (λ t. rw (t, eqb-true o 0 t) (eq-eqb (namings s 0) 0 h.root))
    (λ t. let d = eqb-false o 0 t in
    let most = most_names (object_at s o).kind in
    rw t (implies (is_live s o) (leb 1 (namings s o) && leb (namings s o) most) (λ a. let v = live_true s o a in
    and_true (leb 1 (namings s o)) (leb (namings s o) most) (le-leb 1 (namings s o) (h.named o l d v)) (le-leb (namings s o) most (h.few o l d v))))))

blocks_once : (s : Store) → every (blocks s) (is_used_once s) ≡ true → BlocksUsedOnce s
unfolding is_used_once
blocks_once s e r l = leb-true (uses s r) 1 (every_at (is_used_once s) (blocks s) r e l)

once_blocks : (s : Store) → BlocksUsedOnce s → every (blocks s) (is_used_once s) ≡ true
unfolding is_used_once
once_blocks s h = every_all (is_used_once s) (blocks s) (λ r l. le-leb (uses s r) 1 (h r l))

leads : (s : Store) → every (objects s) (leads_to_root s) ≡ true → LeadsToRoot s
unfolding leads_to_root
leads s e o l h =
    let a = above s (objects s) o in
    eqb-true a 0 (implied (is_live s o) (eqb a 0) (every_at (leads_to_root s) (objects s) o e l) (true_live s o h))

leading : (s : Store) → LeadsToRoot s → every (objects s) (leads_to_root s) ≡ true
unfolding leads_to_root
leading s h =
    every_all (leads_to_root s) (objects s) (λ o l.
    let a = above s (objects s) o in
    implies (is_live s o) (eqb a 0) (λ t. eq-eqb a 0 (h o l (live_true s o t))))

-- a store that passes its check has all the demands
pub valid : (s : Store) → passes s ≡ true → Valid s
unfolding good_root
valid s e =
    let a = demands s e in
    let d = a.on_records in
    let w = shaped s a.shape in
    record {
      shaped = w;
      root = directory_true s 0 d.root;
      good_objects = λ o (l : o < objects s). object_good s o (omega arith) (every_at (good_object s) (objects s) o d.good_objects l);
      good_names = λ n (l : n < names s). name_record_lem s n (omega arith) (every_at (good_name_record s) (names s) n d.good_names l);
      distinct = distinct_names s d.distinct;
      named = good_namings_lem s w.some_object d.named;
      used_once = blocks_once s d.used_once;
      leads = leads s d.leads;
    }

-- and the other way
pub passes_valid : (s : Store) → Valid s → passes s ≡ true
unfolding good_root
passes_valid s v =
    let w = v.shaped in
    passes_by s (record {
      shape = shape_true s w;
      on_records = record {
        root = true_directory s 0 v.root;
        good_objects = every_all (good_object s) (objects s) (λ o (l : o < objects s). good_object_lem s o (omega arith) (v.good_objects o l));
        good_names = every_all (good_name_record s) (names s) (λ n (l : n < names s). record_good s n (omega arith) (v.good_names n l));
        distinct = names_distinct s v.distinct;
        named = namings_good s v.named;
        used_once = once_blocks s v.used_once;
        leads = leading s v.leads;
      };
    })
