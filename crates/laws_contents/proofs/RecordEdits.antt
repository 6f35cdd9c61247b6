-- The edits that write records alone: every file keeps its contents. Assumes nothing.
use mathlib.Core.Path.{◌≡◌, ap, ◌∙◌}
use mathlib.Core.Logic.{◌≢◌}
use mathlib.Core.List.{List, []}
use Prim.Native.Nat.{ℕ, ◌^◌, ◌≤◌, ◌<◌}
use lib.ListN.{length, get_or}
use Rattle.kinds.specs.Numbers.{most_name_bytes}
use Rattle.kinds.specs.declared.object.Time.{Time}
use Rattle.kinds.specs.declared.object.Object.{Object}
use Rattle.kinds.specs.declared.call.Settable.{Settable}
use Rattle.spec.specs.Bytes.{part}
use Rattle.spec.specs.Edits.{set_attributes, forget_verifier, add_name, create_object, drop_name, move_name, with_generation}
use Rattle.spec.specs.Image.{Store, objects, names, block_start, object_at, Name, free_name}
use Rattle.spec.specs.Room.{size_of, byte_at}
use Rattle.laws.proofs.CreateObject.{create_object_lem, create_object_data}
use Rattle.laws.proofs.FileBytes.{read_file_none}
use Rattle.laws.proofs.Kept.{Sound, NameSet}
use Rattle.laws.proofs.PutName.{new_name, moved_name, add_name_lem, add_name_data, move_name_lem, move_name_data, drop_name_lem, drop_name_data}
use Rattle.laws.proofs.Range.{Below}
use Rattle.laws.proofs.Records.{FitsTime, FitsObject}
use Rattle.laws.proofs.SameReads.{size_of_reads, byte_at_reads}
use Rattle.laws.proofs.SetAttributes.{FitsSettable, set_attributes_structure, set_attributes_data, forget_verifier_structure, forget_verifier_data}
use Rattle.laws.proofs.Shape.{SameShape}
use Rattle.laws_contents.specs.Contents.{contents}
use Rattle.laws_contents.proofs.Laid.{byte_same}
use Rattle.laws_contents.proofs.Contents.{contents_same}
use Rattle.laws_contents.proofs.Places.{place_after}

-- a file of size 0 has no contents
pub contents_none : (s : Store) (o : ℕ) → size_of s o ≡ 0 → contents s o ≡ []
unfolding contents
contents_none s o e = rw e (read_file_none s o 0)

-- an edit that keeps a file's size, its blocks and the bytes at its places keeps its contents
pub contents_kept : (s t : Store) → SameShape s t → (p : ℕ) → (object_at t p).size ≡ (object_at s p).size → (object_at t p).blocks ≡ (object_at s p).blocks
    → ((k : ℕ) → k < size_of s p → get_or t (byte_at s p k) 0 ≡ get_or s (byte_at s p k) 0) → contents t p ≡ contents s p
contents_kept s t e p a b f =
    contents_same s t p p (size_of_reads s t p a) (λ k h.
    ap (λ (q : ℕ). get_or t q 0) (byte_at_reads s t p e.objects e.names b k) ∙ f k h)

-- an edit that keeps a file's record and all bytes of the blocks keeps its contents
pub contents_data : (s t : Store) → SameShape s t → (p : ℕ) → (object_at t p).size ≡ (object_at s p).size → (object_at t p).blocks ≡ (object_at s p).blocks
    → ((at n : ℕ) → block_start s 0 ≤ at → part t at n ≡ part s at n) → contents t p ≡ contents s p
contents_data s t e p a b f = contents_kept s t e p a b (λ k h. byte_same t s (byte_at s p k) (f (byte_at s p k) 1 (place_after s p k)))

-- FIRST EDIT: attributes and times are in no file's contents
pub set_attributes_contents : (s : Store) (clock : Time) (o : ℕ) (a : Settable) → Sound s → o < objects s → FitsTime clock → FitsSettable a
    → (p : ℕ) → p < objects s → contents (set_attributes s clock o a) p ≡ contents s p
set_attributes_contents s clock o a h l c f p m =
    let t = set_attributes s clock o a in
    let e = set_attributes_structure s clock o a h l c f in
    contents_data s t e.tree.shape p (e.size p m) (e.blocks p m) (set_attributes_data s clock o a h l)

-- SECOND EDIT: a verifier is in no file's contents
pub forget_verifier_contents : (s : Store) (o : ℕ) → Sound s → o < objects s → (p : ℕ) → p < objects s → contents (forget_verifier s o) p ≡ contents s p
forget_verifier_contents s o h l p m =
    let e = forget_verifier_structure s o h l in
    contents_data s (forget_verifier s o) e.tree.shape p (e.size p m) (e.blocks p m) (forget_verifier_data s o h l)

-- a name is in no file's contents: where only a name record is written, every file keeps them
named_contents : (s t : Store) (n : ℕ) (x : Name) → NameSet s n x t → ((at k : ℕ) → block_start s 0 ≤ at → part t at k ≡ part s at k)
    → (p : ℕ) → p < objects s → contents t p ≡ contents s p
named_contents s t n x e f p m =
    let w = e.each_object p m in
    contents_data s t e.shape p (ap (λ (v : Object). v.size) w) (ap (λ (v : Object). v.blocks) w) f

-- FOURTH EDIT: a name is added
pub add_name_contents : (s : Store) (n o d : ℕ) (text : List ℕ) → Sound s → n < names s → o < 2 ^ 32 → d < 2 ^ 32 → length text ≤ most_name_bytes
    → Below 256 text → (p : ℕ) → p < objects s → contents (add_name s n o d text) p ≡ contents s p
add_name_contents s n o d text h l k c f b =
    named_contents s (add_name s n o d text) n (new_name o d text) (add_name_lem s n d text h l c f b o k) (add_name_data s n d text h l c f b o)

-- SIXTH EDIT: a name record is free
pub drop_name_contents : (s : Store) (n : ℕ) → Sound s → n < names s → (p : ℕ) → p < objects s → contents (drop_name s n) p ≡ contents s p
drop_name_contents s n h l = named_contents s (drop_name s n) n free_name (drop_name_lem s n h l) (drop_name_data s n h l)

-- EIGHTH EDIT: a name is moved
pub move_name_contents : (s : Store) (n d : ℕ) (text : List ℕ) → Sound s → n < names s → d < 2 ^ 32 → length text ≤ most_name_bytes → Below 256 text
    → (p : ℕ) → p < objects s → contents (move_name s n d text) p ≡ contents s p
move_name_contents s n d text h l c f b =
    named_contents s (move_name s n d text) n (moved_name s n d text) (move_name_lem s n d text h l c f b) (move_name_data s n d text h l c f b)

module _ (s : Store) (o n : ℕ) (v : Object) (d : ℕ) (text : List ℕ) (h : Sound s) (l : o < objects s) (k : n < names s)
    (f : FitsObject v) (c : d < 2 ^ 32) (g : length text ≤ most_name_bytes) (b : Below 256 text) where
  -- FIFTH EDIT: every other file keeps its contents
  pub create_object_others : (p : ℕ) → p < objects s → p ≢ o → contents (create_object s o n v d text) p ≡ contents s p
  create_object_others p m q =
      let t = create_object s o n v d text in
      let e = create_object_lem s o n v d text h l k f c g b in
      let w = e.other_objects p m q in
      contents_data s t e.shape p (ap (λ (x : Object). x.size) w) (ap (λ (x : Object). x.blocks) w) (create_object_data s o n v d text h l k f c g b)

  -- the new file, of size 0, has no contents
  pub create_object_none : v.size ≡ 0 → contents (create_object s o n v d text) o ≡ []
  unfolding size_of with_generation
  create_object_none z =
      contents_none (create_object s o n v d text) o (ap (λ (x : Object). x.size) (create_object_lem s o n v d text h l k f c g b).object ∙ z)
