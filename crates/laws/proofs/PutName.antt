-- A name record is written: it is moved, added or free. Assumes nothing.
use mathlib.Core.Path.{◌≡◌, ap, ◌∙◌}
use mathlib.Core.Logic.{by_cases, ◌⊎◌}
use mathlib.Core.List.{List}
use Prim.Native.Nat.{ℕ, ◌^◌, ◌≤◌, ◌<◌}
use native.Mathlib.Omega.{arith}
use native.Mathlib.Decide.{ℕ_discrete}
use lib.Dec.{lit<, lit≤}
use lib.ListN.{length}
use Rattle.kinds.specs.Numbers.{DIRECTORY, most_name_bytes}
use Rattle.kinds.specs.declared.object.Object.{Object}
use Rattle.spec.specs.Bytes.{part}
use Rattle.spec.specs.Edits.{add_name, drop_name, move_name}
use Rattle.spec.specs.Image.{Store, objects, names, blocks, block_start, object_at, Name, name_at, free_name}
use Rattle.laws.proofs.GoodKept.{good_objects_kept, record_kept, used_set}
use Rattle.laws.proofs.Kept.{Sound, NameIs, NameSet, put_name_lem}
use Rattle.laws.proofs.Range.{Below}
use Rattle.laws.proofs.RecordRange.{name_at_fits}
use Rattle.laws.proofs.SameReads.{held_reads, uses_reads}
use Rattle.laws.proofs.Valid.{FreeName, GoodNameRecord, GoodObjects, GoodName, GoodNames, Live, BlocksUsedOnce}
use Rattle.laws.proofs.Writes.{name_written}

-- object o as the name `text` in directory d
abbrev pub new_name : ℕ → ℕ → List ℕ → Name
new_name o d text = record { directory = d; child = o; text = text }

-- record n with the name `text` in directory d, for the same child
abbrev pub moved_name : Store → ℕ → ℕ → List ℕ → Name
moved_name s n d text = new_name (name_at s n).child d text

pub free_set : (t : Store) (n : ℕ) → NameIs t n free_name → FreeName t n
free_set t n e = record { empty = e.long; all = e.all; padded = e.padded }

-- ---- what stays where name record n is x now
module _ (s t : Store) (n : ℕ) (x : Name) (e : NameSet s n x t) where
  pub put_name_objects : GoodObjects s → GoodObjects t
  put_name_objects = good_objects_kept s t e.shape e.each_object

  pub kinds_stay : (o : ℕ) → o < objects s → (object_at t o).kind ≡ (object_at s o).kind
  kinds_stay o k = ap (λ (v : Object). v.kind) (e.each_object o k)

  -- every other name record stays good
  put_name_names : GoodNameRecord t n → GoodNames s → GoodNames t
  put_name_names good each m k =
      let i : m < names s = rw e.shape.names at k in
      by_cases (ℕ_discrete m n)
      (λ q. rw q good)
      (λ q. record_kept s t m e.shape.objects (e.other_names m i q)
      (λ u. (kinds_stay (name_at s m).directory u.directory, rw (kinds_stay (name_at s m).child u.child) u.child_live)) (each m i))

  -- a good name, of a live object in a directory
  pub put_used_names : GoodName x.text → x.directory < objects s → (object_at s x.directory).kind ≡ DIRECTORY → x.child < objects s → Live s x.child
      → GoodNames s → GoodNames t
  put_used_names good below kind child live =
      put_name_names (◌⊎◌.inr (used_set t n x e.name good (rw e.shape.objects below) (kinds_stay x.directory below ∙ kind)
      (rw e.shape.objects child) (rw (kinds_stay x.child child) live)))

  pub put_free_names : x ≡ free_name → GoodNames s → GoodNames t
  put_free_names free = put_name_names (◌⊎◌.inl (free_set t n (rw free at e.name)))

  pub put_name_blocks : BlocksUsedOnce s → BlocksUsedOnce t
  put_name_blocks once r k =
      rw (uses_reads s t e.shape.objects (λ o i.
      held_reads s t o (ap (λ (v : Object). v.size) (e.each_object o i)) (ap (λ (v : Object). v.blocks) (e.each_object o i))) r)
      (once r (rw e.shape.blocks at k))

-- ---- a name is added, and moved: the record, and the bytes of the blocks, which stay
module _ (s : Store) (n d : ℕ) (text : List ℕ) (h : Sound s) (l : n < names s) (f : d < 2 ^ 32) (g : length text ≤ most_name_bytes) (b : Below 256 text) where
  pub add_name_lem : (o : ℕ) → o < 2 ^ 32 → NameSet s n (new_name o d text) (add_name s n o d text)
  add_name_lem o c = put_name_lem s n (new_name o d text) h l (record { directory = f; child = c; text = g }) b

  pub add_name_data : (o at k : ℕ) → block_start s 0 ≤ at → part (add_name s n o d text) at k ≡ part s at k
  add_name_data o = (name_written s n (new_name o d text) (omega (arith, h.shaped)) l g).blocks

  pub move_name_lem : NameSet s n (moved_name s n d text) (move_name s n d text)
  unfolding move_name
  move_name_lem = add_name_lem (name_at s n).child (name_at_fits s n h.bytes (h.short n l)).child

  pub move_name_data : (at k : ℕ) → block_start s 0 ≤ at → part (move_name s n d text) at k ≡ part s at k
  unfolding move_name
  move_name_data = add_name_data (name_at s n).child

-- ---- a name record is free
module _ (s : Store) (n : ℕ) (h : Sound s) (l : n < names s) where
  pub drop_name_lem : NameSet s n free_name (drop_name s n)
  drop_name_lem = put_name_lem s n free_name h l (record { directory = lit< tt; child = lit< tt; text = lit≤ tt }) (λ i. lit< tt)

  pub drop_name_data : (at k : ℕ) → block_start s 0 ≤ at → part (drop_name s n) at k ≡ part s at k
  drop_name_data = (name_written s n free_name (omega (arith, h.shaped)) l (lit≤ tt)).blocks
