-- What every write into a section keeps: the counts, the stamp and the length. Assumes nothing.
use mathlib.Core.Logic.{◌⊎◌}
use mathlib.Core.Path.{◌≡◌, refl, ◌∙◌}
use mathlib.Core.List.{List}
use Prim.Native.Nat.{ℕ, ◌+◌, ◌≤◌}
use native.Mathlib.Omega.{arith}
use lib.ListN.{length}
use Rattle.kinds.specs.Layout.{objects_head}
use Rattle.spec.specs.Bytes.{overlay}
use Rattle.spec.specs.Image.{Store, volumes, stamp, objects, names, blocks, object_start, name_start}
use Rattle.laws.proofs.Bytes.{overlay_length}
use Rattle.laws.proofs.Apart.{Apart, be_apart}
use Rattle.laws.proofs.Names.{objects_apart}

pub record SameShape (s s' : Store) : Type 0 where
  pub volumes : volumes s' ≡ volumes s
  pub stamp : stamp s' ≡ stamp s
  pub objects : objects s' ≡ objects s
  pub names : names s' ≡ names s
  pub blocks : blocks s' ≡ blocks s
  pub long : length s' ≡ length s

pub same_refl : (s : Store) → SameShape s s
same_refl s = record { volumes = refl; stamp = refl; objects = refl; names = refl; blocks = refl; long = refl }

pub same_trans : (a b c : Store) → SameShape a b → SameShape b c → SameShape a c
same_trans a b c p q =
    record {
      volumes = q.volumes ∙ p.volumes;
      stamp = q.stamp ∙ p.stamp;
      objects = q.objects ∙ p.objects;
      names = q.names ∙ p.names;
      blocks = q.blocks ∙ p.blocks;
      long = q.long ∙ p.long;
    }

-- a write after the count of objects, and apart from the counts of names and of blocks
module _ (s : Store) (at : ℕ) (xs : List ℕ) (h : at + length xs ≤ length s) (l : objects_head ≤ at) (n : Apart at (length xs) (object_start (objects s)) 4) where
  names_apart : names (overlay s at xs) ≡ names s
  unfolding names
  names_apart = rw (objects_apart s at xs h l) (be_apart s at xs h (object_start (objects s)) 4 n)

  blocks_apart : Apart at (length xs) (name_start s (names s)) 4 → blocks (overlay s at xs) ≡ blocks s
  unfolding blocks
  blocks_apart b = rw (objects_apart s at xs h l, names_apart) (be_apart s at xs h (name_start s (names s)) 4 b)

  pub same_overlay : Apart at (length xs) (name_start s (names s)) 4 → SameShape s (overlay s at xs)
  unfolding volumes stamp
  same_overlay b =
      record {
        volumes = be_apart s at xs h 0 4 (◌⊎◌.inl (omega arith));
        stamp = be_apart s at xs h 4 4 (◌⊎◌.inl (omega arith));
        objects = objects_apart s at xs h l;
        names = names_apart;
        blocks = blocks_apart b;
        long = overlay_length s at xs h;
      }
