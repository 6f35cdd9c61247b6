-- From the check to the tree and the room, and back. Assumes nothing.
use mathlib.Core.Path.{◌≡◌, sym, ap, ◌∙◌}
use mathlib.Core.Logic.{by_cases, ◌⊎◌}
use mathlib.Core.List.{List}
use Prim.Native.Nat.{ℕ, ◌+◌, ◌<◌}
use native.Mathlib.Decide.{ℕ_discrete, dec_lt}
use native.Mathlib.Omega.{arith}
use lib.ListN.{length, take, get_or, length-take}
use lib.Seq.{get_or-take}
use Rattle.kinds.specs.Layout.{blocks_offset}
use Rattle.kinds.specs.Numbers.{file_blocks}
use Rattle.spec.specs.Check.{most_names}
use Rattle.spec.specs.Count.{times}
use Rattle.spec.specs.Image.{Store, objects, names, blocks, object_at, object_from, object_start, name_at}
use Rattle.spec.specs.Room.{held, size_of, need}
use Rattle.laws.proofs.Count.{sum_zero, sum_at}
use Rattle.laws.proofs.Records.{halves_count}
use Rattle.laws.proofs.Valid.{Shaped, GoodObject, GoodObjects, UsedName, GoodNameRecord, GoodNames, BlocksUsedOnce, Valid}
use Rattle.laws.proofs.FreeRoom.{good_size_small}
use Rattle.history.proofs.Sum.{ind, ind_yes}
use Rattle.history.proofs.Lists.{All, all_times, times_all, times_place}
use Rattle.history.proofs.View.{LiveIn, UsedIn, At, at?, entries_at, entry_by}
use Rattle.history.proofs.Tree.{Flat, Tree}
use Rattle.history.proofs.Room.{Room}
use Rattle.history.proofs.Walk.{live_walk, walk_path}
use Rattle.history.proofs.Seen.{view, held_by, kind_at, dir_at, child_at, text_at, held_at, live_in, used_in, held_in, uses_same, text_long}
use Rattle.history.proofs.Seen.{namings_same, entries_same, above_same}

module _ (s : Store) (K : Valid s) where
  used_name : (n : ℕ) → UsedIn (view s) n → UsedName s n
  used_name n u = let l = used_in s n u in go (K.good_names n l) l
    where
      go : GoodNameRecord s n → n < names s → UsedName s n
      go (◌⊎◌.inl f) l = absurd (omega (arith, ap length (text_at s n l), ap (λ v. length v.text) f.all))
      go (◌⊎◌.inr x) l = x

  -- the kind of an object that a used record joins
  directory_kind : (n : ℕ) → UsedIn (view s) n → (view s).kind ((view s).dir n) ≡ 2
  directory_kind n u =
      let x = used_name n u in
      ap (view s).kind (dir_at s n (used_in s n u)) ∙ kind_at s (name_at s n).directory x.directory ∙ x.in_directory_lem

  child_live : (n : ℕ) → UsedIn (view s) n → LiveIn (view s) ((view s).child n)
  child_live n u =
      let x = used_name n u in
      omega (arith, x.child_live, ap (view s).kind (child_at s n (used_in s n u)), kind_at s (name_at s n).child x.child)

  flat_of : Flat (objects s) (names s) (view s)
  flat_of =
      let w = K.shaped in
      record {
        few = w.few_objects;
        root = kind_at s 0 w.some_object ∙ K.root;
        past = live_in s;
        rows = used_in s;
        dirs = directory_kind;
        ends = child_live;
        never = namings_same s K.good_names 0 ∙ K.named.root;
        once = λ i n l.
            let k = live_in s i l in
            let x : 0 < (object_at s i).kind = omega (arith, kind_at s i k) in
            (omega (arith, namings_same s K.good_names i, K.named.named i k n x), omega (arith, namings_same s K.good_names i, K.named.few i k n x, ap most_names (kind_at s i k)));
        apart = λ d t. by_cases (dec_lt 0 (entries_at (names s) (view s) d t))
            (λ h. let (n, l, x) = entry_by (names s) (view s) d t h in
            let u = used_name n x.0 in
            omega (
              arith,
              entries_same s K.good_names (name_at s n).directory (name_at s n).text,
              K.distinct n l (omega (arith, ap length (text_at s n l), text_long s K.good_names n l, x.0)),
              ap (λ (y : ℕ). entries_at (names s) (view s) y t) (sym (dir_at s n l) ∙ x.1),
              ap (entries_at (names s) (view s) (name_at s n).directory) (sym (text_at s n l) ∙ x.2),
            ))
            (λ h. omega arith);
      }

  pub tree_of : Tree (objects s) (names s) (view s)
  tree_of =
      record {
        flat = flat_of;
        leads = λ i l.
            let k = live_in s i l in
            walk_path (objects s) (names s) (view s) flat_of (objects s) i l
            (above_same s K.good_names (objects s) i ∙ K.leads i k (omega (arith, kind_at s i k)));
      }

  -- ---- the room
  blocks_long : (o : ℕ) → length (object_at s o).blocks ≡ file_blocks
  unfolding object_at object_from
  blocks_long o = halves_count s (object_start o + blocks_offset) file_blocks

  -- an object has as many blocks as its size needs
  pub held_long : (o : ℕ) → o < objects s → length (held s o) ≡ need (size_of s o)
  unfolding held
  held_long o l = omega (arith, length-take (need (size_of s o)) (object_at s o).blocks, blocks_long o, good_size_small s o (K.good_objects o l))

  held_below : (o : ℕ) → o < objects s → (k : ℕ) → k < length (held s o) → get_or (held s o) k 0 < blocks s
  unfolding held size_of
  held_below o l k h = go (K.good_objects o l) (omega (arith, held_long o l))
    where
      go : GoodObject (blocks s) (object_at s o) → k < need (object_at s o).size → get_or (take (need (object_at s o).size) (object_at s o).blocks) k 0 < blocks s
      go (◌⊎◌.inl f) m = absurd (omega (arith, ap (λ v. need v.size) f))
      go (◌⊎◌.inr x) m = rw get_or-take (x.held k m)

  held_fits : (o : ℕ) → All (λ b. b < blocks s) (held_by s o)
  held_fits o = all_times (held_by s o) (λ b h.
      let (k, l, e) = times_place b 0 (held_by s o) h in
      let i = held_in s o (omega arith) in
      let q = held_at s o i in
      omega (arith, held_below o i k (omega (arith, ap length q)), ap (λ (x : List ℕ). get_or x k 0) q))

  pub room_of : Room (objects s) (blocks s) (held_by s)
  room_of =
      record {
        past = held_in s;
        fits = held_fits;
        alone = λ b. by_cases (dec_lt b (blocks s))
            (λ l. omega (arith, uses_same s b, K.used_once b l))
            (λ n. omega (
              arith,
              sum_zero (objects s) (λ i. times b (held_by s i)) (λ i l. by_cases (ℕ_discrete (times b (held_by s i)) 0) (λ e. e)
                  (λ m. absurd (omega (arith, times_all (λ c. c < blocks s) (held_by s i) b (held_fits i) (omega arith))))),
            ));
      }

-- ---- and back
pub valid_of : (s : Store) → Shaped s → GoodObjects s → GoodNames s → Tree (objects s) (names s) (view s) → BlocksUsedOnce s → Valid s
valid_of s w g n T u =
    record {
      shaped = w;
      root = sym (kind_at s 0 w.some_object) ∙ T.flat.root;
      good_objects = g;
      good_names = n;
      distinct = λ m l x.
          let d = (name_at s m).directory in
          let t = (name_at s m).text in
          let here : At (view s) m d t = (omega (arith, ap length (text_at s m l), text_long s n m l), dir_at s m l, text_at s m l) in
          omega (
            arith,
            entries_same s n d t,
            T.flat.apart d t,
            sum_at (names s) m (λ q. ind (at? (view s) q d t)) l,
            ind_yes (at? (view s) m d t) here,
          );
      named =
          record {
            root = sym (namings_same s n 0) ∙ T.flat.never;
            named = λ o l z h. omega (arith, namings_same s n o, T.flat.once o z (omega (arith, kind_at s o l)));
            few = λ o l z h. omega (arith, namings_same s n o, T.flat.once o z (omega (arith, kind_at s o l)), ap most_names (kind_at s o l));
          };
      used_once = u;
      leads = λ o l h.
          sym (above_same s n (objects s) o)
          ∙ live_walk (objects s) (names s) (view s) T.flat T o (omega (arith, kind_at s o l));
    }
