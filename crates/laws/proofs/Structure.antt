-- Edits that leave names, types and generations as they were, and those that leave sizes and blocks too. Assumes nothing.
use mathlib.Core.Path.{◌≡◌, ap, ◌∙◌}
use mathlib.Core.Logic.{by_cases}
use Prim.Native.Nat.{ℕ, ◌<◌}
use native.Mathlib.Decide.{ℕ_discrete}
use Rattle.kinds.specs.declared.object.Object.{Object}
use Rattle.spec.specs.Image.{Store, objects, names, blocks, object_at, name_at}
use Rattle.spec.specs.Room.{size_of, held, uses, free_block_count}
use Rattle.spec.specs.Room.{namings, parent, above, byte_at}
use Rattle.laws.proofs.GoodKept.{good_names_kept}
use Rattle.laws.proofs.Kept.{NameKept, RecordsKept, ObjectSet}
use Rattle.laws.proofs.SameReads.{size_of_reads, held_reads, byte_at_reads}
use Rattle.laws.proofs.SameReads.{uses_reads, free_block_count_reads}
use Rattle.laws.proofs.SameReads.{namings_reads}
use Rattle.laws.proofs.SameReads.{entries_reads, parent_reads, above_reads}
use Rattle.laws.proofs.Shape.{SameShape}
use Rattle.laws.proofs.Valid.{Live, GoodNames, DistinctNames, GoodNamings, BlocksUsedOnce, LeadsToRoot}

-- both stores have the same shape and the same names, and objects of the same types and generations
pub record SameTree (s t : Store) : Type 0 where
  pub shape : SameShape s t
  pub kind : (o : ℕ) → o < objects s → (object_at t o).kind ≡ (object_at s o).kind
  pub generation : (o : ℕ) → o < objects s → (object_at t o).generation ≡ (object_at s o).generation
  pub name : (n : ℕ) → n < names s → NameKept s t n

-- and objects of the same sizes and blocks
pub record SameStructure (s t : Store) : Type 0 where
  pub tree : SameTree s t
  pub size : (o : ℕ) → o < objects s → (object_at t o).size ≡ (object_at s o).size
  pub blocks : (o : ℕ) → o < objects s → (object_at t o).blocks ≡ (object_at s o).blocks

-- a number of each object stays where one object is set and that number of it stays
field_kept : {A : Type 0} (w : Object → A) (s t : Store) (o : ℕ) (v : Object) → ObjectSet s o v t → w v ≡ w (object_at s o)
    → (i : ℕ) → i < objects s → w (object_at t i) ≡ w (object_at s i)
field_kept w s t o v e a i l =
    by_cases (ℕ_discrete i o) (λ q. rw q (ap w e.object ∙ a)) (λ q. ap w (e.other_objects i l q))

-- an object was set to one of the same type and generation
pub set_tree : (s t : Store) (o : ℕ) (v : Object) → ObjectSet s o v t → v.kind ≡ (object_at s o).kind → v.generation ≡ (object_at s o).generation → SameTree s t
set_tree s t o v e a b =
    record {
      shape = e.shape;
      kind = field_kept (λ x. x.kind) s t o v e a;
      generation = field_kept (λ x. x.generation) s t o v e b;
      name = e.each_name;
    }

-- to one of the same size and blocks too
pub set_structure : (s t : Store) (o : ℕ) (v : Object) → ObjectSet s o v t
    → v.kind ≡ (object_at s o).kind → v.generation ≡ (object_at s o).generation → v.size ≡ (object_at s o).size → v.blocks ≡ (object_at s o).blocks
    → SameStructure s t
set_structure s t o v e a b c d =
    record {
      tree = set_tree s t o v e a b;
      size = field_kept (λ x. x.size) s t o v e c;
      blocks = field_kept (λ x. x.blocks) s t o v e d;
    }

-- no record was written
pub kept_structure : (s t : Store) → RecordsKept s t → SameStructure s t
kept_structure s t e =
    record {
      tree = record {
        shape = e.shape;
        kind = λ o l. ap (λ (v : Object). v.kind) (e.each_object o l);
        generation = λ o l. ap (λ (v : Object). v.generation) (e.each_object o l);
        name = e.each_name;
      };
      size = λ o l. ap (λ (v : Object). v.size) (e.each_object o l);
      blocks = λ o l. ap (λ (v : Object). v.blocks) (e.each_object o l);
    }

module _ (s t : Store) (e : SameTree s t) where
  -- ---- names
  pub namings_same : (o : ℕ) → namings t o ≡ namings s o
  namings_same = namings_reads s t e.shape.names e.name

  pub parent_same : (o : ℕ) → parent t o ≡ parent s o
  parent_same = parent_reads s t e.shape.names e.name

  pub above_same : (k o : ℕ) → above t k o ≡ above s k o
  above_same = above_reads s t e.shape.names e.name

  -- ---- the demands of the check on names
  live_before : (o : ℕ) → o < objects t → Live t o → Live s o
  live_before o l v = rw (e.kind o (rw e.shape.objects at l)) at v

  pub tree_names : GoodNames s → GoodNames t
  tree_names = good_names_kept s t e.shape e.kind e.name

  pub tree_distinct : DistinctNames s → DistinctNames t
  tree_distinct d n l u =
      let k : n < names s = rw e.shape.names at l in
      rw (e.name n k).all (entries_reads s t e.shape.names e.name (name_at s n).directory (name_at s n).text ∙ d n k (rw (e.name n k).long at u))

  pub tree_named : GoodNamings s → GoodNamings t
  tree_named h =
      record {
        root = namings_same 0 ∙ h.root;
        named = λ o l d v. rw (namings_same o) (h.named o (rw e.shape.objects at l) d (live_before o l v));
        few = λ o l d v.
            let k : o < objects s = rw e.shape.objects at l in
            rw (namings_same o, e.kind o k) (h.few o k d (live_before o l v));
      }

  pub tree_leads : LeadsToRoot s → LeadsToRoot t
  tree_leads h o l v = rw e.shape.objects (above_same (objects s) o ∙ h o (rw e.shape.objects at l) (live_before o l v))

module _ (s t : Store) (e : SameStructure s t) where
  pub size_of_same : (o : ℕ) → o < objects s → size_of t o ≡ size_of s o
  size_of_same o l = size_of_reads s t o (e.size o l)

  pub held_same : (o : ℕ) → o < objects s → held t o ≡ held s o
  held_same o l = held_reads s t o (e.size o l) (e.blocks o l)

  pub byte_at_same : (o : ℕ) → o < objects s → (i : ℕ) → byte_at t o i ≡ byte_at s o i
  byte_at_same o l = byte_at_reads s t o e.tree.shape.objects e.tree.shape.names (e.blocks o l)

  -- ---- blocks
  pub uses_same : (r : ℕ) → uses t r ≡ uses s r
  uses_same = uses_reads s t e.tree.shape.objects held_same

  pub free_block_count_same : free_block_count t ≡ free_block_count s
  free_block_count_same = free_block_count_reads s t e.tree.shape.blocks (λ r _. uses_same r)

  pub structure_blocks : BlocksUsedOnce s → BlocksUsedOnce t
  structure_blocks h r l = rw (uses_same r) (h r (rw e.tree.shape.blocks at l))
