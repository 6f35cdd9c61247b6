-- The check of the records reads nothing behind them: two stores of the same bytes up to their blocks pass it or fail it together. Assumes nothing.
use mathlib.Core.Path.{◌≡◌, sym, ap, ◌∙◌}
use mathlib.Core.Bool.{true, ◌||◌, not}
use mathlib.Core.List.{List}
use Prim.Native.Nat.{ℕ, ◌+◌, ◌*◌, ◌≤◌, ◌<◌}
use native.Mathlib.Omega.{arith}
use lib.Dec.{eqb}
use lib.ListN.{length}
use Rattle.kinds.specs.Layout.{object_count_offset, objects_head, names_head, blocks_head, object_length, name_record_length}
use Rattle.kinds.specs.Numbers.{DIRECTORY, FREE}
use Rattle.kinds.specs.declared.object.Object.{Object}
use Rattle.spec.specs.Bytes.{part, be_of, be_at}
use Rattle.spec.specs.Image.{Store, objects, names, blocks, object_start, name_start, object_at, name_at}
use Rattle.spec.specs.Room.{is_live, is_directory, held, is_used_name, namings}
use Rattle.spec.specs.Check.{good_root, good_object, good_name_record, is_distinct, good_namings, is_used_once, leads_to_root, records_pass, passes}
use Rattle.laws.proofs.Bytes.{part_length, part_part}
use Rattle.laws.proofs.Count.{true_false, by_bool, every_at, every_all}
use Rattle.laws.proofs.Demands.{RecordDemands, records_by, record_demands}
use Rattle.laws.proofs.GoodKept.{record_kept}
use Rattle.laws.proofs.Kept.{NameKept, good_short, kept_by_bytes}
use Rattle.laws.proofs.Records.{object_by_part}
use Rattle.laws.proofs.SameReads.{held_reads, is_used_name_reads, uses_reads, namings_reads, entries_reads, above_reads}
use Rattle.laws.proofs.Valid.{Shaped, Framed, GoodNameRecord, shaped_framed, shape_true, object_good, good_object_lem, name_record_lem, record_good}

-- where the records end: the blocks start there
abbrev pub records_end : Store → ℕ
records_end s = blocks_head + object_length * objects s + name_record_length * names s

-- t has the bytes of s up to the blocks
pub record SameRecords (s t : Store) : Type 0 where
  pub framed : Framed s
  pub inside : records_end s ≤ length t
  pub same : part t 0 (records_end s) ≡ part s 0 (records_end s)

module _ (s t : Store) (h : SameRecords s t) where
  part_kept : (i w : ℕ) → i + w ≤ records_end s → part t i w ≡ part s i w
  part_kept i w l =
      let z : 0 + i ≡ i = omega arith in
      rw z at (sym (part_part t 0 (records_end s) i w l) ∙ ap (λ (x : List ℕ). part x i w) h.same ∙ part_part s 0 (records_end s) i w l)

  number_kept : (i w : ℕ) → i + w ≤ records_end s → be_at t i w ≡ be_at s i w
  unfolding be_at
  number_kept i w l = ap be_of (part_kept i w l)

  -- ---- the counts
  pub objects_kept : objects t ≡ objects s
  unfolding objects
  objects_kept = number_kept object_count_offset 4 (omega arith)

  pub names_kept : names t ≡ names s
  unfolding names
  names_kept = rw objects_kept (number_kept (objects_head + object_length * objects s) 4 (omega arith))

  pub blocks_kept : blocks t ≡ blocks s
  unfolding blocks
  blocks_kept = rw (objects_kept, names_kept) (number_kept (names_head + object_length * objects s + name_record_length * names s) 4 (omega arith))

  pub framed_kept : Framed t
  framed_kept =
      let f = h.framed in
      record {
        some_object = rw objects_kept f.some_object;
        few_objects = rw objects_kept f.few_objects;
        few_names = rw names_kept f.few_names;
        few_blocks = rw blocks_kept f.few_blocks;
        inside = rw (objects_kept, names_kept) h.inside;
      }

  -- ---- the objects
  object_kept : (o : ℕ) → o < objects s → object_at t o ≡ object_at s o
  unfolding object_at
  object_kept o l = object_by_part t s (object_start o) (part_kept (object_start o) object_length (omega arith))

  kind_kept : (o : ℕ) → o < objects s → (object_at t o).kind ≡ (object_at s o).kind
  kind_kept o l = ap (λ (v : Object). v.kind) (object_kept o l)

  live_kept : (o : ℕ) → o < objects s → is_live t o ≡ is_live s o
  unfolding is_live
  live_kept o l = ap (λ (k : ℕ). not (eqb k FREE)) (kind_kept o l)

  held_kept : (o : ℕ) → o < objects s → held t o ≡ held s o
  held_kept o l = held_reads s t o (ap (λ (v : Object). v.size) (object_kept o l)) (ap (λ (v : Object). v.blocks) (object_kept o l))

  root_kept : good_root t ≡ good_root s
  unfolding good_root is_directory
  root_kept = ap (λ (k : ℕ). eqb k DIRECTORY) (kind_kept 0 h.framed.some_object)

  object_passes : (o : ℕ) → o < objects s → good_object s o ≡ true → good_object t o ≡ true
  object_passes o l e =
      let inside = h.framed.inside in
      good_object_lem t o (omega (arith, h.inside)) (rw (blocks_kept, object_kept o l) (object_good s o (omega (arith, inside)) e))

  used_kept : (r : ℕ) → is_used_once t r ≡ is_used_once s r
  unfolding is_used_once
  used_kept r = rw (uses_reads s t objects_kept held_kept r)

  -- ---- the name records, where they are good in the first
  module _ (d : RecordDemands s) where
    name_good : (n : ℕ) → n < names s → GoodNameRecord s n
    name_good n l =
        let inside = h.framed.inside in
        name_record_lem s n (omega (arith, inside)) (every_at (good_name_record s) (names s) n d.good_names l)

    name_kept : (n : ℕ) → n < names s → NameKept s t n
    name_kept n l = kept_by_bytes s t n objects_kept (good_short s n (name_good n l)) (part_kept (name_start s n) name_record_length (omega arith))

    name_passes : (n : ℕ) → n < names s → good_name_record t n ≡ true
    name_passes n l =
        let inside : name_start t n + (name_record_length + 4) ≤ length t = rw objects_kept (omega (arith, h.inside)) in
        record_good t n inside (record_kept s t n objects_kept (name_kept n l)
        (λ u. (kind_kept (name_at s n).directory u.directory, rw (kind_kept (name_at s n).child u.child) u.child_live)) (name_good n l))

    distinct_kept : (n : ℕ) → n < names s → is_distinct t n ≡ is_distinct s n
    unfolding is_distinct
    distinct_kept n l =
        let e = name_kept n l in
        rw (is_used_name_reads s t n e.long, e.all)
        (ap (λ (k : ℕ). not (is_used_name s n) || eqb k 1) (entries_reads s t names_kept name_kept (name_at s n).directory (name_at s n).text))

    named_kept : (o : ℕ) → o < objects s → good_namings t o ≡ good_namings s o
    unfolding good_namings
    named_kept o l = rw (namings_reads s t names_kept name_kept o, live_kept o l, kind_kept o l)

    leads_kept : (o : ℕ) → o < objects s → leads_to_root t o ≡ leads_to_root s o
    unfolding leads_to_root
    leads_kept o l = rw (live_kept o l, objects_kept, above_reads s t names_kept name_kept (objects s) o)

    demands_kept : RecordDemands t
    demands_kept =
        record {
          root = root_kept ∙ d.root;
          good_objects = rw objects_kept
              (every_all (good_object t) (objects s) (λ o l. object_passes o l (every_at (good_object s) (objects s) o d.good_objects l)));
          good_names = rw names_kept (every_all (good_name_record t) (names s) name_passes);
          distinct = rw names_kept (every_all (is_distinct t) (names s) (λ n l. distinct_kept n l ∙ every_at (is_distinct s) (names s) n d.distinct l));
          named = rw objects_kept (every_all (good_namings t) (objects s) (λ o l. named_kept o l ∙ every_at (good_namings s) (objects s) o d.named l));
          used_once = rw blocks_kept (every_all (is_used_once t) (blocks s) (λ r l. used_kept r ∙ every_at (is_used_once s) (blocks s) r d.used_once l));
          leads = rw objects_kept (every_all (leads_to_root t) (objects s) (λ o l. leads_kept o l ∙ every_at (leads_to_root s) (objects s) o d.leads l));
        }

  turned : SameRecords t s
  turned =
      record {
        framed = framed_kept;
        inside = rw (objects_kept, names_kept) h.framed.inside;
        same = rw (objects_kept, names_kept) (sym h.same);
      }

pub records_same : (s t : Store) → SameRecords s t → records_pass t ≡ records_pass s
records_same s t h =
    by_bool (records_pass s)
    (λ e. records_by t (demands_kept s t h (record_demands s e)) ∙ sym e)
    (λ e. by_bool (records_pass t)
    (λ f. true_false (sym (records_by s (demands_kept t s (turned s t h) (record_demands t f))) ∙ e))
    (λ f. f ∙ sym e))

-- ---- the bytes up to the blocks
pub front_same : (s : Store) → Framed s → SameRecords s (part s 0 (records_end s))
front_same s f =
    let n = records_end s in
    record {
      framed = f;
      inside = rw (part_length s 0 n (omega (arith, f.inside))) (omega arith);
      same = part_part s 0 n 0 n (omega arith);
    }

-- a store of a good shape passes the check where its records do
pub front_passes : (s : Store) → Shaped s → records_pass (part s 0 (records_end s)) ≡ passes s
unfolding passes
front_passes s w = rw (shape_true s w) (records_same s (part s 0 (records_end s)) (front_same s (shaped_framed s w)))

-- and they name each object as often as the store does, where they pass
pub front_namings : (s : Store) → Framed s → records_pass (part s 0 (records_end s)) ≡ true → (o : ℕ) → namings (part s 0 (records_end s)) o ≡ namings s o
front_namings s f e o =
    let x = part s 0 (records_end s) in
    let h = front_same s f in
    namings_reads s x (names_kept s x h) (name_kept s x h (record_demands s (sym (records_same s x h) ∙ e))) o
