-- That the demands on single records and on blocks hold after an edit, from what the edit set. Assumes nothing.
use mathlib.Core.Path.{◌≡◌, ap, ◌∙◌}
use mathlib.Core.Logic.{◌≢◌, by_cases, ◌⊎◌}
use Prim.Native.Nat.{ℕ, ◌+◌, ◌≤◌, ◌<◌}
use native.Mathlib.Omega.{arith}
use native.Mathlib.Decide.{ℕ_discrete}
use Rattle.kinds.specs.Numbers.{DIRECTORY}
use Rattle.kinds.specs.declared.object.Object.{Object}
use Rattle.spec.specs.Count.{times}
use Rattle.spec.specs.Image.{Store, objects, names, blocks, object_at, Name, name_at}
use Rattle.spec.specs.Room.{held, uses}
use Rattle.laws.proofs.Searches.{sum_upd_below}
use Rattle.laws.proofs.Count.{sum_at}
use Rattle.laws.proofs.Kept.{NameKept, NameIs}
use Rattle.laws.proofs.SameReads.{held_reads}
use Rattle.laws.proofs.Shape.{SameShape}
use Rattle.laws.proofs.Valid.{GoodObject, GoodObjects, GoodName, Live, Used, UsedName, FreeName, GoodNameRecord, GoodNames}

-- ---- objects
-- object o is v now, and every other object as it was
pub good_objects_set : (s t : Store) (o : ℕ) (v : Object) → SameShape s t → object_at t o ≡ v → ((i : ℕ) → i < objects s → i ≢ o → object_at t i ≡ object_at s i)
    → GoodObject (blocks s) v → GoodObjects s → GoodObjects t
good_objects_set s t o v e q w g f i l =
    let k : i < objects s = rw e.objects at l in
    rw e.blocks (by_cases (ℕ_discrete i o) (λ z. rw (z, q) g) (λ d. rw (w i k d) (f i k)))

pub good_objects_kept : (s t : Store) → SameShape s t → ((i : ℕ) → i < objects s → object_at t i ≡ object_at s i) → GoodObjects s → GoodObjects t
good_objects_kept s t e f g i l =
    let k : i < objects s = rw e.objects at l in
    rw (e.blocks, f i k) (g i k)

-- ---- names
-- a used record stays good where its directory stays a directory and its child stays live
pub used_kept : (s t : Store) (n : ℕ) → objects t ≡ objects s → NameKept s t n
    → (object_at t (name_at s n).directory).kind ≡ (object_at s (name_at s n).directory).kind → Live t (name_at s n).child → UsedName s n → UsedName t n
used_kept s t n p e d c u =
    record {
      short = rw e.long u.short;
      exact = rw (e.all, e.long) u.exact;
      good = rw e.all u.good;
      padded = e.padded u.padded;
      directory = rw (e.all, p) u.directory;
      in_directory_lem = rw e.all (d ∙ u.in_directory_lem);
      child = rw (e.all, p) u.child;
      child_live = rw e.all c;
    }

pub free_kept : (s t : Store) (n : ℕ) → NameKept s t n → FreeName s n → FreeName t n
free_kept s t n e f = record { empty = e.long ∙ f.empty; all = e.all ∙ f.all; padded = e.padded f.padded }

-- of a good record that is used
pub used_of : (s : Store) (n : ℕ) → Used s n → GoodNameRecord s n → UsedName s n
used_of s n u (◌⊎◌.inl f) = absurd (omega (arith, f.empty))
used_of s n u (◌⊎◌.inr g) = g

-- a record that is kept stays good, if its objects keep what it asks of them
pub record_kept : (s t : Store) (n : ℕ) → objects t ≡ objects s → NameKept s t n
    → (UsedName s n → ((object_at t (name_at s n).directory).kind ≡ (object_at s (name_at s n).directory).kind) × Live t (name_at s n).child)
    → GoodNameRecord s n → GoodNameRecord t n
record_kept s t n p e f (◌⊎◌.inl g) = ◌⊎◌.inl (free_kept s t n e g)
record_kept s t n p e f (◌⊎◌.inr u) = let q = f u in ◌⊎◌.inr (used_kept s t n p e q.0 q.1 u)

-- where every type of an object stays, every kept record stays good
pub good_names_kept : (s t : Store) → SameShape s t → ((o : ℕ) → o < objects s → (object_at t o).kind ≡ (object_at s o).kind)
    → ((n : ℕ) → n < names s → NameKept s t n) → GoodNames s → GoodNames t
good_names_kept s t e k f g n l =
    let b : n < names s = rw e.names at l in
    record_kept s t n e.objects (f n b)
    (λ u. (k (name_at s n).directory u.directory, rw (k (name_at s n).child u.child) u.child_live)) (g n b)

-- a record that was set to a good name, of an object in a directory
pub used_set : (t : Store) (n : ℕ) (x : Name) → NameIs t n x → GoodName x.text → x.directory < objects t → (object_at t x.directory).kind ≡ DIRECTORY
    → x.child < objects t → Live t x.child → UsedName t n
used_set t n x e g d k c v =
    record {
      short = rw e.long g.short;
      exact = rw (e.all, e.long);
      good = rw e.all g;
      padded = e.padded;
      directory = rw e.all d;
      in_directory_lem = rw e.all k;
      child = rw e.all c;
      child_live = rw e.all v;
    }

-- ---- blocks
-- how often a block is used, where object o is v now
pub uses_object_set : (s t : Store) (o : ℕ) → o < objects s → objects t ≡ objects s → ((i : ℕ) → i < objects s → i ≢ o → object_at t i ≡ object_at s i)
    → (r : ℕ) → uses t r + times r (held s o) ≡ uses s r + times r (held t o)
unfolding uses
uses_object_set s t o h p f r =
    rw p (sum_upd_below (objects s) o (λ i. times r (held s i)) (λ i. times r (held t i)) h (λ i l d.
    ap (times r) (held_reads s t i (ap (λ (v : Object). v.size) (f i l d)) (ap (λ (v : Object). v.blocks) (f i l d)))))

-- an object's blocks are among those that are used
pub uses_at : (s : Store) (o : ℕ) → o < objects s → (r : ℕ) → times r (held s o) ≤ uses s r
unfolding uses
uses_at s o l r = sum_at (objects s) o (λ i. times r (held s i)) l
