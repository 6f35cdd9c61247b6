-- What the check answers: the counts of a store, or none where it fails. Where an image states them depends on the length of an object record:
-- `width` is object_length, or for an image of document 01 old_object_length.
use Rattle.std.specs.Prelude.{Option, Some, None, ℕ, ◌+◌, ◌*◌, ◌≤◌, ◌≡◌, Bool, true, false, ◌&&◌, List, eqb, length}
use Rattle.kinds.specs.Layout.{objects_head, names_head, blocks_head, object_length, name_record_length, block_length}
use Rattle.kinds.specs.Numbers.{most_objects}
use Rattle.spec.specs.Bytes.{be_at}
use Rattle.spec.specs.Image.{Store, volumes, objects, names, blocks}
use Rattle.spec.specs.Check.{good_counts}
use Rattle.spec.specs.Convert.{old_names, old_blocks}
use Rattle.fsck.specs.declared.shape.Counts.{Counts}

-- the counts that a store states, and those that an image of document 01 states
abbrev pub counts_of : Store → Counts
counts_of s = record { objects = objects s; names = names s; blocks = blocks s }

abbrev pub old_counts : List ℕ → Counts
old_counts b = record { objects = objects b; names = old_names b; blocks = old_blocks b }

-- the counts where a test holds
abbrev pub found_if : Bool → Counts → Option Counts
found_if true k = Some k
found_if false k = None

-- Q and R, the length, and the demands on all of these, over the length of an object record
unfoldable pub names_with : ℕ → List ℕ → ℕ
names_with width b = be_at b (objects_head + width * objects b) 4

unfoldable pub blocks_with : ℕ → List ℕ → ℕ
blocks_with width b = be_at b (names_head + width * objects b + name_record_length * names_with width b) 4

abbrev pub length_with : ℕ → ℕ → ℕ → ℕ → ℕ
length_with width p q r = blocks_head + width * p + name_record_length * q + block_length * r

unfoldable pub good_with : ℕ → List ℕ → Bool
good_with width b =
    eqb (volumes b) 1 && good_counts (objects b) (names_with width b) (blocks_with width b)
    && eqb (length b) (length_with width (objects b) (names_with width b) (blocks_with width b))

-- what the shape of an image tells: proofs/Shapes.antt says what it is in each layout
unfoldable pub shape_of : ℕ → List ℕ → Option Counts
shape_of width b = found_if (good_with width b) (record { objects = objects b; names = names_with width b; blocks = blocks_with width b })

-- the first demands on the shape hold, the object records are no longer than those of a full store, and the count of names lies in the image
pub record First (b : List ℕ) (width p : ℕ) : Type 0 where
  pub one : volumes b ≡ 1
  pub count : p ≡ objects b
  pub least : 1 ≤ p
  pub most : p ≤ most_objects
  pub few : width * p ≤ object_length * most_objects
  pub long : blocks_head + width * p ≤ length b
