-- What holds of the store and the book after any list of requests, and what the edits keep of it. Assumes nothing.
use mathlib.Core.Path.{◌≡◌, refl, sym, ap, ◌∙◌, subst}
use mathlib.Core.Logic.{◌≢◌, ◌⊎◌, inl, inr, by_cases, ⊎_elim}
use mathlib.Core.List.{List, ◌∷◌}
use Prim.Native.Nat.{ℕ, suc, ◌+◌, ◌-◌, ◌^◌, ◌≤◌, ◌<◌}
use native.Mathlib.Decide.{ℕ_discrete}
use native.Mathlib.Omega.{arith}
use lib.Dec.{eqb, ltb, lit<}
use lib.ListN.{length}
use borrow.Author.Tests.{ltb-true, ltb-false}
use Rattle.kinds.specs.Numbers.{most_file_bytes, spent_generation, most_links}
use Rattle.kinds.specs.declared.object.Time.{Time}
use Rattle.kinds.specs.declared.object.Object.{Object}
use Rattle.kinds.specs.declared.call.Settable.{Settable}
use Rattle.spec.specs.Check.{most_names}
use Rattle.spec.specs.Edits.{with_attributes, set_attributes, forget_verifier, resize, with_generation, add_name, create_object, remove_name, move_name, write_file}
use Rattle.spec.specs.Image.{Store, stamp, objects, names, blocks, object_at, name_at, name_length, free_name}
use Rattle.spec.specs.Room.{namings, size_of, need, free_block_count}
use Rattle.laws.proofs.BlockLists.{held_range}
use Rattle.laws.proofs.BlockWrites.{write_file_lem}
use Rattle.laws.proofs.Count.{by_bool}
use Rattle.laws.proofs.CreateObject.{create_object_lem}
use Rattle.laws.proofs.GoodRecords.{GoodRecords, GoodClock, clock_fits, valid_records, live_at, set_attributes_still, forget_verifier_still, resize_still}
use Rattle.laws.proofs.GoodRecords.{write_file_still, add_name_still, create_object_still, move_name_still}
use Rattle.laws.proofs.Kept.{NameSet, BothSet}
use Rattle.laws.proofs.PutName.{new_name, moved_name, add_name_lem, move_name_lem}
use Rattle.laws.proofs.Range.{Below}
use Rattle.laws.proofs.Records.{FitsObject}
use Rattle.laws.proofs.RemoveName.{remove_one, remove_last, drop_set, remove_name_still}
use Rattle.laws.proofs.RemoveObject.{remove_object_lem}
use Rattle.laws.proofs.SetAttributes.{FitsSettable, Allowed, set_attributes_structure, forget_verifier_structure}
use Rattle.laws.proofs.Shape.{SameShape}
use Rattle.laws.proofs.Structure.{SameTree, kept_structure, tree_distinct, tree_named, tree_leads}
use Rattle.laws.proofs.Resize.{resize_tree}
use Rattle.laws.proofs.Valid.{LiveObject, GoodName, Used, Valid, live_kind}
use Rattle.history.specs.Book.{Ledger, under, strike_lines, move_lines}
use Rattle.history.proofs.View.{View, LiveIn, UsedIn, entries_at, namings_in, Path, Avoids, SameRecord, not_named}
use Rattle.history.proofs.Tree.{Tree, no_name}
use Rattle.history.proofs.Change.{Named, Removed, Moved, named_gens, named_kinds}
use Rattle.history.proofs.Named.{named_tree}
use Rattle.history.proofs.Removed.{removed_tree}
use Rattle.history.proofs.Moved.{moved_tree}
use Rattle.history.proofs.Agree.{Agrees, handle_in, agrees_same, named_agrees, removed_agrees, moved_agrees}
use Rattle.history.proofs.Issue.{Issues, kept_issues, created_issues, removed_issues}
use Rattle.history.proofs.Seen.{view, kind_at, gen_at, dir_at, child_at, text_at, live_in, used_in, text_long, namings_same}
use Rattle.history.proofs.Bridge.{tree_of, valid_of}
use Rattle.history.proofs.Frames.{kind_same, gen_same, name_same, set_obj, set_name}

-- a live object may have a name
some_names : (kind : ℕ) → 0 < most_names kind
some_names kind = by_bool (eqb kind 1) (λ t. rw t (lit< tt)) (λ t. rw t (lit< tt))

pub record Inv (σ p q r : ℕ) (s : Store) (L : Ledger) : Type 0 where
  pub valid : Valid s
  pub bytes : Below 256 s
  pub mark : stamp s ≡ σ
  pub objs : objects s ≡ p
  pub nams : names s ≡ q
  pub blks : blocks s ≡ r
  pub issues : Issues p σ (view s) L.given
  pub agrees : Agrees σ (view s) L.book

-- what later stores keep of earlier ones: no generation falls, and a live object of the same generation has the same type
pub record Grew (v w : View) : Type 0 where
  pub older : (i : ℕ) → v.gen i ≤ w.gen i
  pub stays : (i : ℕ) → LiveIn v i → w.gen i ≡ v.gen i → w.kind i ≡ v.kind i

pub grew_same : (v w : View) → ((i : ℕ) → (w.kind i ≡ v.kind i) × (w.gen i ≡ v.gen i)) → Grew v w
grew_same v w h = record { older = λ i. omega (arith, (h i).1); stays = λ i l e. (h i).0 }

pub grew_trans : (u v w : View) → Grew u v → Grew v w → Grew u w
grew_trans u v w a b =
    record {
      older = λ i. omega (arith, a.older i, b.older i);
      stays = λ i l e.
          let x : v.gen i ≡ u.gen i = omega (arith, a.older i, b.older i) in
          let k = a.stays i l x in
          b.stays i (omega arith) (e ∙ sym x) ∙ k;
    }

module _ (σ p q r : ℕ) (s : Store) (L : Ledger) (I : Inv σ p q r s L) where
  pub tree : Tree p q (view s)
  tree = subst (λ (x : ℕ). Tree x q (view s)) I.objs (subst (λ (x : ℕ). Tree (objects s) x (view s)) I.nams (tree_of s I.valid))

  -- the demands on single records and on blocks
  pub good : GoodRecords s
  good = valid_records s I.valid I.bytes

  pub live_seen : (o : ℕ) → LiveIn (view s) o → 0 < (object_at s o).kind
  live_seen o l = omega (arith, kind_at s o (live_in s o l))

-- the check's demands, from those on single records and the tree
pub valid_by : (p q : ℕ) (t : Store) → GoodRecords t → objects t ≡ p → names t ≡ q → Tree p q (view t) → Valid t
valid_by p q t g a b T =
    valid_of t g.sound.shaped g.good_objects g.good_names
    (subst (λ (x : ℕ). Tree x (names t) (view t)) (sym a) (subst (λ (x : ℕ). Tree p x (view t)) (sym b) T)) g.used_once

-- ---- nothing that the view shows has changed
pub seen_inv : (σ p q r : ℕ) (s t : Store) (L : Ledger) → Inv σ p q r s L → SameShape s t → Valid t → Below 256 t
    → ((i : ℕ) → ((view t).kind i ≡ (view s).kind i) × ((view t).gen i ≡ (view s).gen i)) → ((n : ℕ) → SameRecord (view s) (view t) n) → Inv σ p q r t L
seen_inv σ p q r s t L I e K b o n =
    record {
      valid = K;
      bytes = b;
      mark = e.stamp ∙ I.mark;
      objs = e.objects ∙ I.objs;
      nams = e.names ∙ I.nams;
      blks = e.blocks ∙ I.blks;
      issues = kept_issues p σ (view s) (view t) L.given o I.issues;
      agrees = agrees_same σ (view s) (view t) L.book o n I.agrees;
    }

module _ (s t : Store) (e : SameTree s t) where
  pub same_objects : (i : ℕ) → ((view t).kind i ≡ (view s).kind i) × ((view t).gen i ≡ (view s).gen i)
  same_objects i = (kind_same s t e.shape i (λ l. e.kind i l), gen_same s t e.shape i (λ l. e.generation i l))

  pub same_names : (n : ℕ) → SameRecord (view s) (view t) n
  same_names n = name_same s t e.shape n (λ l. e.name n l)

  pub same_valid : GoodRecords t → Valid s → Valid t
  same_valid g K =
      record {
        shaped = g.sound.shaped;
        root = e.kind 0 K.shaped.some_object ∙ K.root;
        good_objects = g.good_objects;
        good_names = g.good_names;
        distinct = tree_distinct s t e K.distinct;
        named = tree_named s t e K.named;
        used_once = g.used_once;
        leads = tree_leads s t e K.leads;
      }

-- what an edit owes: the invariant, with the ledger after it, and that the view has grown
pub record Owes (σ p q r : ℕ) (s t : Store) (L : Ledger) : Type 0 where
  pub inv : Inv σ p q r t L
  pub grew : Grew (view s) (view t)

-- where no object is removed: generations stay, and the types of live objects
pub record Keeps (σ p q r : ℕ) (s t : Store) (L : Ledger) : Type 0 where
  pub owes : Owes σ p q r s t L
  pub kinds : (i : ℕ) → LiveIn (view s) i → (view t).kind i ≡ (view s).kind i
  pub gens : (i : ℕ) → (view t).gen i ≡ (view s).gen i

pub owes_trans : (σ p q r : ℕ) (s t u : Store) (K L : Ledger) → Owes σ p q r s t K → Owes σ p q r t u L → Owes σ p q r s u L
owes_trans σ p q r s t u K L a b = record { inv = b.inv; grew = grew_trans (view s) (view t) (view u) a.grew b.grew }

pub keeps_trans : (σ p q r : ℕ) (s t u : Store) (K L : Ledger) → Keeps σ p q r s t K → Keeps σ p q r t u L → Keeps σ p q r s u L
keeps_trans σ p q r s t u K L a b =
    record {
      owes = owes_trans σ p q r s t u K L a.owes b.owes;
      kinds = λ i l. b.kinds i (omega (arith, a.kinds i l)) ∙ a.kinds i l;
      gens = λ i. b.gens i ∙ a.gens i;
    }

pub keeps_refl : (σ p q r : ℕ) (s : Store) (L : Ledger) → Inv σ p q r s L → Keeps σ p q r s s L
keeps_refl σ p q r s L I =
    record { owes = record { inv = I; grew = grew_same (view s) (view s) (λ i. (refl, refl)) }; kinds = λ i l. refl; gens = λ i. refl }

pub same_keeps : (s t : Store) → SameTree s t → GoodRecords t → (σ p q r : ℕ) (L : Ledger) → Inv σ p q r s L → Keeps σ p q r s t L
same_keeps s t e g σ p q r L I =
    record {
      owes = record {
        inv = seen_inv σ p q r s t L I e.shape (same_valid s t e g I.valid) g.sound.bytes (same_objects s t e) (same_names s t e);
        grew = grew_same (view s) (view t) (same_objects s t e);
      };
      kinds = λ i l. (same_objects s t e i).0;
      gens = λ i. (same_objects s t e i).1;
    }

-- ---- the first edit: attributes and times
pub touch_inv : (σ p q r : ℕ) (s : Store) (L : Ledger) → Inv σ p q r s L → (clock : Time) (o : ℕ) (a : Settable) → LiveIn (view s) o
    → GoodClock clock → FitsSettable a → Allowed a → Keeps σ p q r s (set_attributes s clock o a) L
touch_inv σ p q r s L I clock o a l c f w =
    let g = good σ p q r s L I in
    let k = live_in s o l in
    same_keeps s (set_attributes s clock o a) (set_attributes_structure s clock o a g.sound k (clock_fits clock c) f).tree
    (set_attributes_still s g clock o a k (live_seen σ p q r s L I o l) c f w).good σ p q r L I

-- ---- the second edit: a verifier is forgotten
pub forget_inv : (σ p q r : ℕ) (s : Store) (L : Ledger) → Inv σ p q r s L → (o : ℕ) → LiveIn (view s) o → Keeps σ p q r s (forget_verifier s o) L
forget_inv σ p q r s L I o l =
    let g = good σ p q r s L I in
    let k = live_in s o l in
    same_keeps s (forget_verifier s o) (forget_verifier_structure s o g.sound k).tree (forget_verifier_still s g o k (live_seen σ p q r s L I o l)).good
    σ p q r L I

-- ---- the third edit: a file's size
pub resize_inv : (σ p q r : ℕ) (s : Store) (L : Ledger) → Inv σ p q r s L → (o size : ℕ) → (view s).kind o ≡ 1 → size ≤ most_file_bytes
    → need size - need (size_of s o) ≤ free_block_count s → Keeps σ p q r s (resize s o size) L
resize_inv σ p q r s L I o size k small room =
    let g = good σ p q r s L I in
    let l = live_in s o (omega arith) in
    let file : (object_at s o).kind ≡ 1 = sym (kind_at s o l) ∙ k in
    same_keeps s (resize s o size) (resize_tree s o size g.sound l (live_at s g o l (omega arith)) small room)
    (resize_still s g o size l file small room).good σ p q r L I

-- ---- file data: no record is written
pub write_inv : (σ p q r : ℕ) (s : Store) (L : Ledger) → Inv σ p q r s L → (o offset : ℕ) (xs : List ℕ) → LiveIn (view s) o → Below 256 xs
    → offset + length xs ≤ size_of s o → Keeps σ p q r s (write_file s o offset xs) L
write_inv σ p q r s L I o offset xs l b n =
    let g = good σ p q r s L I in
    let k = live_in s o l in
    let v = live_seen σ p q r s L I o l in
    let t = write_file s o offset xs in
    same_keeps s t (kept_structure s t (write_file_lem s o offset xs g.sound (live_at s g o k v) b n)).tree
    (write_file_still s g o offset xs k v b n).good σ p q r L I

-- a new name keeps what later stores keep of earlier ones
pub named_grew : (P Q : ℕ) (v w : View) (o n k d : ℕ) (t : List ℕ) → Named P Q v w o n k d t → Grew v w
named_grew P Q v w o n k d t B =
    record { older = λ i. omega (arith, named_gens P Q v w o n k d t B i); stays = λ i l x. named_kinds P Q v w o n k d t B i l }

-- ---- the fifth edit: an object and its first name
module _ (σ p q r : ℕ) (s : Store) (L : Ledger) (I : Inv σ p q r s L) (o n : ℕ) (v : Object) (d : ℕ) (text : List ℕ)
    (in_objs : o < objects s) (in_names : n < names s) (was_free : (object_at s o).kind ≡ 0) (low : (object_at s o).generation < spent_generation)
    (was_blank : name_length s n ≡ 0) (fits : FitsObject v) (live : LiveObject (blocks s) v) (empty : v.size ≡ 0) (name : GoodName text)
    (below : Below 256 text)
    (parent : (view s).kind d ≡ 2) (absent : entries_at (names s) (view s) d text ≡ 0) where
  g : GoodRecords s
  g = good σ p q r s L I

  dl : d < objects s
  dl = live_in s d (omega arith)

  dk : (object_at s d).kind ≡ 2
  dk = sym (kind_at s d dl) ∙ parent

  t : Store
  t = create_object s o n v d text

  frame : BothSet s o (with_generation (object_at s o).generation v) n (new_name o d text) t
  unfolding t
  frame = create_object_lem s o n v d text g.sound in_objs in_names fits (omega (arith, dl, I.valid.shaped.few_objects)) name.short below

  free : (view s).kind o ≡ 0
  free = kind_at s o in_objs ∙ was_free

  pub created_of : Named p q (view s) (view (create_object s o n v d text)) o n v.kind d text
  unfolding t with_generation
  created_of =
      let w = set_obj s t frame.shape o (with_generation (object_at s o).generation v) in_objs frame.object frame.other_objects in
      record {
        obj = record { kind = w.kind; gen = w.gen ∙ sym (gen_at s o in_objs); other = w.other };
        nam = set_name s t frame.shape n (new_name o d text) in_names frame.name frame.other_names;
        in_objs = omega (arith, I.objs);
        in_names = omega (arith, I.nams);
        not_root = λ e. omega (arith, free, (tree σ p q r s L I).flat.root, ap (view s).kind e);
        same_type_lem = λ l. absurd (omega (arith, free));
        few = omega (arith, no_name p q (view s) (tree σ p q r s L I).flat o free, some_names v.kind);
        was_blank = ap length (text_at s n in_names) ∙ text_long s I.valid.good_names n in_names ∙ was_blank;
        live = live_kind (blocks s) v live;
        some = name.some_byte;
        parent = parent;
        absent = ap (λ (x : ℕ). entries_at x (view s) d text) (sym I.nams) ∙ absent;
      }

  pub create_inv : Owes σ p q r s (create_object s o n v d text)
      (record {
        book = record { handle = handle_in σ (view s) o; kind = v.kind; standing = under (handle_in σ (view s) d) text } ∷ L.book;
        given =
            handle_in σ (view s) o ∷ L.given;
      })
  unfolding t
  create_inv =
      let T = tree σ p q r s L I in
      let e = frame.shape in
      record {
        inv =
            record {
              valid = valid_by p q t
                  (create_object_still s g o n v d text in_objs was_free low in_names fits live empty dl dk name below).good
                  (e.objects ∙ I.objs) (e.names ∙ I.nams) (named_tree p q (view s) (view t) o n v.kind d text T created_of);
              bytes = frame.sound.bytes;
              mark = e.stamp ∙ I.mark;
              objs = e.objects ∙ I.objs;
              nams = e.names ∙ I.nams;
              blks = e.blocks ∙ I.blks;
              issues = created_issues p q σ (view s) (view t) o n v.kind d text L.given created_of free (omega (arith, gen_at s o in_objs)) I.issues;
              agrees = named_agrees p q σ (view s) (view t) o n v.kind d text T created_of L.book I.agrees;
            };
        grew = named_grew p q (view s) (view t) o n v.kind d text created_of;
      }

  pub create_keeps : Keeps σ p q r s (create_object s o n v d text)
      (record {
        book = record { handle = handle_in σ (view s) o; kind = v.kind; standing = under (handle_in σ (view s) d) text } ∷ L.book;
        given =
            handle_in σ (view s) o ∷ L.given;
      })
  create_keeps =
      record {
        owes = create_inv;
        kinds = named_kinds p q (view s) (view (create_object s o n v d text)) o n v.kind d text created_of;
        gens = named_gens p q (view s) (view (create_object s o n v d text)) o n v.kind d text created_of;
      }

-- ---- the fourth edit: another name of a file
module _ (σ p q r : ℕ) (s : Store) (L : Ledger) (I : Inv σ p q r s L) (o n d : ℕ) (text : List ℕ) (file : (view s).kind o ≡ 1)
    (few : namings_in (names s) (view s) o < most_links) (in_names : n < names s) (was_blank : name_length s n ≡ 0) (name : GoodName text)
    (below : Below 256 text) (parent : (view s).kind d ≡ 2) (absent : entries_at (names s) (view s) d text ≡ 0) where
  a : Store
  a = add_name s n o d text

  ag : GoodRecords s
  ag = good σ p q r s L I

  ao : o < objects s
  ao = live_in s o (omega arith)

  ad : d < objects s
  ad = live_in s d (omega arith)

  added : NameSet s n (new_name o d text) a
  unfolding a
  added = add_name_lem s n d text ag.sound in_names (omega (arith, ad, I.valid.shaped.few_objects)) name.short below o
      (omega (arith, ao, I.valid.shaped.few_objects))

  kinds : (i : ℕ) → (view a).kind i ≡ (view s).kind i
  kinds i = kind_same s a added.shape i (λ k. ap (λ (x : Object). x.kind) (added.each_object i k))

  gens : (i : ℕ) → (view a).gen i ≡ (view s).gen i
  gens i = gen_same s a added.shape i (λ k. ap (λ (x : Object). x.generation) (added.each_object i k))

  linked_of : Named p q (view s) (view a) o n 1 d text
  linked_of =
      record {
        obj = record { kind = kinds o ∙ file; gen = gens o; other = λ i _. (kinds i, gens i) };
        nam = set_name s a added.shape n (new_name o d text) in_names added.name added.other_names;
        in_objs = omega (arith, ao, I.objs);
        in_names = omega (arith, I.nams);
        was_blank = ap length (text_at s n in_names) ∙ text_long s I.valid.good_names n in_names ∙ was_blank;
        not_root = λ e. omega (arith, file, (tree σ p q r s L I).flat.root, ap (view s).kind e);
        live = omega arith;
        same_type_lem = λ l. file;
        few = omega (arith, few, ap (λ (x : ℕ). namings_in x (view s) o) I.nams);
        some = name.some_byte;
        parent = parent;
        absent = ap (λ (x : ℕ). entries_at x (view s) d text) (sym I.nams) ∙ absent;
      }

  pub link_keeps : Keeps σ p q r s (add_name s n o d text)
      (record {
        book = record { handle = handle_in σ (view s) o; kind = 1; standing = under (handle_in σ (view s) d) text } ∷ L.book;
        given =
            L.given;
      })
  unfolding a
  link_keeps =
      let T = tree σ p q r s L I in
      let e = added.shape in
      record {
        owes = record {
          inv =
              record {
                valid = valid_by p q a
                    (add_name_still s ag n o d text in_names ao (live_seen σ p q r s L I o (omega arith)) ad (sym (kind_at s d ad) ∙ parent) name below).good
                    (e.objects ∙ I.objs) (e.names ∙ I.nams) (named_tree p q (view s) (view a) o n 1 d text T linked_of);
                bytes = added.sound.bytes;
                mark = e.stamp ∙ I.mark;
                objs = e.objects ∙ I.objs;
                nams = e.names ∙ I.nams;
                blks = e.blocks ∙ I.blks;
                issues = kept_issues p σ (view s) (view a) L.given (λ i. (kinds i, gens i)) I.issues;
                agrees = named_agrees p q σ (view s) (view a) o n 1 d text T linked_of L.book I.agrees;
              };
          grew = named_grew p q (view s) (view a) o n 1 d text linked_of;
        };
        kinds = λ i l. kinds i;
        gens = gens;
      }

-- ---- a name is removed, and with its last name the object
module _ (σ p q r : ℕ) (s : Store) (L : Ledger) (I : Inv σ p q r s L) (clock : Time) (c : GoodClock clock) (n : ℕ) (used : UsedIn (view s) n)
    (empty : (m : ℕ) → UsedIn (view s) m → (view s).dir m ≢ (name_at s n).child) where
  o : ℕ
  o = (name_at s n).child

  nl : n < names s
  nl = used_in s n used

  child : (view s).child n ≡ o
  unfolding o
  child = child_at s n nl

  alive : LiveIn (view s) o
  alive = let l = (tree σ p q r s L I).flat.ends n used in omega (arith, ap (view s).kind child)

  ol : o < objects s
  ol = live_in s o alive

  rg : GoodRecords s
  rg = good σ p q r s L I

  rec : LiveObject (blocks s) (object_at s o)
  rec = live_at s rg o ol (live_seen σ p q r s L I o alive)

  used_record : Used s n
  used_record = omega (arith, ap length (text_at s n nl), text_long s I.valid.good_names n nl)

  named_times : namings_in q (view s) o ≡ namings s o
  named_times = ap (λ (x : ℕ). namings_in x (view s) o) (sym I.nams) ∙ namings_same s I.valid.good_names o

  -- the record that the object gets, and what becomes of it
  module _ (u : Store) (v : Object) (set : BothSet s o v n free_name u)
      (becomes : ((namings s o ≤ 1) × (v.kind ≡ 0) × (v.generation ≡ suc (object_at s o).generation))
      ⊎ ((1 < namings s o) × (v.kind ≡ (object_at s o).kind) × (v.generation ≡ (object_at s o).generation))) where
    removed_by : Removed q (view s) (view u) o n
    unfolding o
    removed_by =
        let w = set_obj s u set.shape o v ol set.object set.other_objects in
        let k = kind_at s o ol in
        let g = gen_at s o ol in
        record {
          other = w.other;
          object = ⊎_elim
              (λ x. inl (omega (arith, x.0, named_times), w.kind ∙ x.1, omega (arith, w.gen, x.2)))
              (λ x. inr (omega (arith, x.0, named_times), w.kind ∙ x.1 ∙ sym k, w.gen ∙ x.2 ∙ sym g))
              becomes;
          nam = set_name s u set.shape n free_name nl set.name set.other_names;
          not_root = λ z. not_named q (view s) 0 n (tree σ p q r s L I).flat.never (omega (arith, nl, I.nams)) (used, child ∙ z);
          named = (used, child);
          empty = empty;
        }

  -- how the edit sets both records
  Set : Store → Type 0
  Set u = (shape : SameShape s u) × (bytes : Below 256 u) × Removed q (view s) (view u) o n

  set_both : Set (remove_name s clock n)
  unfolding Set o with_attributes
  set_both = by_bool (ltb 1 (namings s o))
      (λ t. let e = remove_one s rg clock n c nl used_record t in
      let d = drop_set s rg clock n c nl used_record in
      subst Set (sym e) (d.shape, d.sound.bytes, removed_by _ _ d (inr (ltb-true 1 (namings s o) t, refl, refl))))
      (λ t. let e = remove_last s rg clock n c nl used_record t in
      let d = remove_object_lem s n o refl rg.sound nl ol rec.generation (held_range s o rec) in
      subst Set (sym e) (d.shape, d.sound.bytes, removed_by _ _ d (inl (ltb-false 1 (namings s o) t, refl, omega arith))))

  pub removed_of : Removed q (view s) (view (remove_name s clock n)) (name_at s n).child n
  unfolding o Set
  removed_of = set_both.2

  pub remove_inv : Owes σ p q r s (remove_name s clock n)
      (record { book = strike_lines (handle_in σ (view s) ((view s).dir n)) ((view s).text n) L.book; given = L.given })
  unfolding o Set
  remove_inv =
      let T = tree σ p q r s L I in
      let (e, bytes, R) = set_both in
      let u = remove_name s clock n in
      record {
        inv =
            record {
              valid = valid_by p q u
                  (remove_name_still s rg clock n c nl used_record
                  (λ m l x z. empty m (omega (arith, ap length (text_at s m l), text_long s I.valid.good_names m l)) (dir_at s m l ∙ z))).good
                  (e.objects ∙ I.objs) (e.names ∙ I.nams) (removed_tree p q (view s) (view u) o n T R);
              bytes = bytes;
              mark = e.stamp ∙ I.mark;
              objs = e.objects ∙ I.objs;
              nams = e.names ∙ I.nams;
              blks = e.blocks ∙ I.blks;
              issues = removed_issues p q σ (view s) (view u) o n L.given T R I.issues;
              agrees = removed_agrees p q σ (view s) (view u) o n T R L.book I.agrees;
            };
        grew = record {
          older = λ i. by_cases (ℕ_discrete i o)
              (λ x. rw x (⊎_elim (λ y. omega (arith, y.2)) (λ y. omega (arith, y.2)) R.object))
              (λ x. omega (arith, (R.other i x).1));
          stays = λ i l x. by_cases (ℕ_discrete i o)
              (λ y. ⊎_elim
              (λ z. absurd (omega (arith, ap (view s).gen y, ap (view u).gen y, z.2)))
              (λ z. ap (view u).kind y ∙ z.1 ∙ ap (view s).kind (sym y))
              R.object)
              (λ y. (R.other i y).0);
        };
      }

-- ---- the eighth edit: a name is moved
module _ (σ p q r : ℕ) (s : Store) (L : Ledger) (I : Inv σ p q r s L) (n d : ℕ) (text : List ℕ) (used : UsedIn (view s) n)
    (name : GoodName text) (below : Below 256 text) (parent : (view s).kind d ≡ 2) (absent : entries_at (names s) (view s) d text ≡ 0)
    (clear : (qs : List ℕ) → Path (view s) d qs → Avoids (view s) (name_at s n).child d qs) where
  m : Store
  m = move_name s n d text

  ml : n < names s
  ml = used_in s n used

  md : d < objects s
  md = live_in s d (omega arith)

  mg : GoodRecords s
  mg = good σ p q r s L I

  msmall : d < 2 ^ 32
  msmall = omega (arith, md, I.valid.shaped.few_objects)

  turned : NameSet s n (moved_name s n d text) m
  unfolding m
  turned = move_name_lem s n d text mg.sound ml msmall name.short below

  pub moved_of : Moved p q (view s) (view (move_name s n d text)) n d text
  unfolding m
  moved_of =
      let w = set_name s m turned.shape n (moved_name s n d text) ml turned.name turned.other_names in
      record {
        kinds = λ i. kind_same s m turned.shape i (λ k. ap (λ (x : Object). x.kind) (turned.each_object i k));
        gens = λ i. gen_same s m turned.shape i (λ k. ap (λ (x : Object). x.generation) (turned.each_object i k));
        nam = record { dir = w.dir; child = w.child ∙ sym (child_at s n ml); text = w.text; other = w.other };
        used = used;
        some = name.some_byte;
        parent = parent;
        absent = ap (λ (x : ℕ). entries_at x (view s) d text) (sym I.nams) ∙ absent;
        clear = λ qs a. subst (λ (x : ℕ). Avoids (view s) x d qs) (sym (child_at s n ml)) (clear qs a);
      }

  pub move_inv : Owes σ p q r s (move_name s n d text)
      (record { book = move_lines (handle_in σ (view s) ((view s).dir n)) ((view s).text n) (handle_in σ (view s) d) text L.book; given = L.given })
  unfolding m
  move_inv =
      let T = tree σ p q r s L I in
      let e = turned.shape in
      record {
        inv =
            record {
              valid = valid_by p q m
                  (move_name_still s mg n d text ml (omega (arith, ap length (text_at s n ml), text_long s I.valid.good_names n ml)) md
                  (sym (kind_at s d md) ∙ parent) name below).good
                  (e.objects ∙ I.objs) (e.names ∙ I.nams) (moved_tree p q (view s) (view m) n d text T moved_of);
              bytes = turned.sound.bytes;
              mark = e.stamp ∙ I.mark;
              objs = e.objects ∙ I.objs;
              nams = e.names ∙ I.nams;
              blks = e.blocks ∙ I.blks;
              issues = kept_issues p σ (view s) (view m) L.given (λ i. (moved_of.kinds i, moved_of.gens i)) I.issues;
              agrees = moved_agrees p q σ (view s) (view m) n d text T moved_of L.book I.agrees;
            };
        grew = grew_same (view s) (view m) (λ i. (moved_of.kinds i, moved_of.gens i));
      }

  pub move_keeps : Keeps σ p q r s (move_name s n d text)
      (record { book = move_lines (handle_in σ (view s) ((view s).dir n)) ((view s).text n) (handle_in σ (view s) d) text L.book; given = L.given })
  move_keeps = record { owes = move_inv; kinds = λ i l. moved_of.kinds i; gens = λ i. moved_of.gens i }
