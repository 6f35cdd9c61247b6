-- The store that format makes: its counts, its records, that it is bytes and that it passes the check. Assumes nothing.
use mathlib.Core.Path.{◌≡◌, refl, sym, ap, ◌∙◌}
use mathlib.Core.Logic.{by_cases, ◌⊎◌}
use mathlib.Core.Bool.{true, false}
use mathlib.Core.List.{List, [], ◌∷◌, ◌++◌}
use Prim.Native.Nat.{ℕ, ◌+◌, ◌-◌, ◌*◌, ◌^◌, ◌≤◌, ◌<◌}
use native.Mathlib.Omega.{arith}
use native.Mathlib.Nat.{add-zero}
use native.Mathlib.Decide.{ℕ_discrete}
use lib.Dec.{lit<, lit≤}
use lib.ListN.{length, length-append, length-replicate}
use Rattle.kinds.specs.Layout.{objects_head, names_head, blocks_head, object_length, name_record_length, block_length}
use Rattle.kinds.specs.Numbers.{nanoseconds_end, most_objects, most_name_records, most_blocks}
use Rattle.kinds.specs.Objects.{root_object, free_object}
use Rattle.kinds.specs.declared.object.Time.{Time}
use Rattle.kinds.specs.declared.object.Object.{Object}
use Rattle.spec.specs.Bytes.{part, be_of, bytes_of, be_at, words, zeros}
use Rattle.spec.specs.Count.{times}
use Rattle.spec.specs.Image.{volumes, stamp, objects, names, blocks, object_start, object_from, object_bytes, object_at}
use Rattle.spec.specs.Room.{size_of, held, uses, is_naming, namings, parent, above}
use Rattle.spec.specs.Check.{image_length, passes}
use Rattle.spec.specs.Serve.{formatted}
use Rattle.laws.proofs.Bytes.{part_left, part_right, part_whole, be_bytes}
use Rattle.laws.proofs.Count.{sum_zero}
use Rattle.laws.proofs.PlainObject.{plain_fits, plain_live}
use Rattle.laws.proofs.Range.{Below, below_append}
use Rattle.laws.proofs.RecordRange.{object_bytes_lem, below_zeros}
use Rattle.laws.proofs.Records.{object_length_lem, object_part, object_again}
use Rattle.laws.proofs.Searches.{count_nothing, lowest_nothing, iterate_fixed}
use Rattle.laws.proofs.Valid.{Shaped, GoodObject, FreeName, Live, Valid, free_zeros, free_name_lem, false_used, passes_valid}
use Rattle.laws.proofs.WordRange.{below_words}
use Rattle.laws.proofs.Words.{words_one, words_length}
use Rattle.laws.proofs.Zeros.{part_zeros}

-- what format is asked for: counts in range, a stamp of four bytes, a clock that fits
pub record FormatAsked (mark p q r : ℕ) (clock : Time) : Type 0 where
  pub mark_fits : mark < 2 ^ 32
  pub some_object : 1 ≤ p
  pub few_objects : p ≤ most_objects
  pub few_names : q ≤ most_name_records
  pub few_blocks : r ≤ most_blocks
  pub seconds : clock.seconds < 2 ^ 32
  pub nanoseconds : clock.nanoseconds < nanoseconds_end

module _ (mark p q r : ℕ) (clock : Time) (h : FormatAsked mark p q r clock) where
  -- its sections, one after the other
  counted : List ℕ
  counted = words (1 ∷ mark ∷ p ∷ [])

  front : List ℕ
  front = counted ++ object_bytes (root_object clock)

  objects_end : List ℕ
  objects_end = front ++ zeros (object_length * (p - 1))

  names_begin : List ℕ
  names_begin = objects_end ++ words (q ∷ [])

  names_end : List ℕ
  names_end = names_begin ++ zeros (name_record_length * q)

  blocks_begin : List ℕ
  blocks_begin = names_end ++ words (r ∷ [])

  counted_length : length counted ≡ objects_head
  unfolding counted words bytes_of
  counted_length = refl

  front_length : length front ≡ objects_head + object_length
  unfolding front
  front_length = rw (length-append, counted_length, object_length_lem)

  objects_end_length : length objects_end ≡ objects_head + object_length * p
  unfolding objects_end
  objects_end_length = rw (length-append, front_length, length-replicate) (omega arith)

  names_begin_length : length names_begin ≡ names_head + object_length * p
  unfolding names_begin
  names_begin_length = rw (length-append, objects_end_length, words_length) (omega arith)

  names_end_length : length names_end ≡ names_head + object_length * p + name_record_length * q
  unfolding names_end
  names_end_length = rw (length-append, names_begin_length, length-replicate)

  blocks_begin_length : length blocks_begin ≡ blocks_head + object_length * p + name_record_length * q
  unfolding blocks_begin
  blocks_begin_length = rw (length-append, names_end_length, words_length) (omega arith)

  -- a part of the front is a part of the whole
  in_blocks_begin : (i w : ℕ) → i + w ≤ blocks_head + object_length * p + name_record_length * q → part (formatted mark p q r clock) i w ≡ part blocks_begin i w
  unfolding formatted counted front objects_end names_begin names_end blocks_begin
  in_blocks_begin i w l = part_left blocks_begin (zeros (block_length * r)) i w (omega (arith, blocks_begin_length))

  in_names_end : (i w : ℕ) → i + w ≤ names_head + object_length * p + name_record_length * q → part (formatted mark p q r clock) i w ≡ part names_end i w
  unfolding blocks_begin
  in_names_end i w l = in_blocks_begin i w (omega arith) ∙ part_left names_end (words (r ∷ [])) i w (omega (arith, names_end_length))

  in_names_begin : (i w : ℕ) → i + w ≤ names_head + object_length * p → part (formatted mark p q r clock) i w ≡ part names_begin i w
  unfolding names_end
  in_names_begin i w l = in_names_end i w (omega arith) ∙ part_left names_begin (zeros (name_record_length * q)) i w (omega (arith, names_begin_length))

  in_objects_end : (i w : ℕ) → i + w ≤ objects_head + object_length * p → part (formatted mark p q r clock) i w ≡ part objects_end i w
  unfolding names_begin
  in_objects_end i w l = in_names_begin i w (omega arith) ∙ part_left objects_end (words (q ∷ [])) i w (omega (arith, objects_end_length))

  in_front : (i w : ℕ) → i + w ≤ objects_head + object_length → part (formatted mark p q r clock) i w ≡ part front i w
  unfolding objects_end
  in_front i w l =
      in_objects_end i w (omega (arith, h.some_object)) ∙ part_left front (zeros (object_length * (p - 1))) i w (omega (arith, front_length))

  in_counted : (i w : ℕ) → i + w ≤ objects_head → part (formatted mark p q r clock) i w ≡ part counted i w
  unfolding front
  in_counted i w l = in_front i w (omega arith) ∙ part_left counted (object_bytes (root_object clock)) i w (omega (arith, counted_length))

  -- ---- its counts
  pub formatted_length : length (formatted mark p q r clock) ≡ image_length p q r
  unfolding formatted counted front objects_end names_begin names_end blocks_begin
  formatted_length = length-append blocks_begin (zeros (block_length * r)) ∙ rw (blocks_begin_length, length-replicate)

  pub formatted_volumes : volumes (formatted mark p q r clock) ≡ 1
  unfolding volumes be_at counted words bytes_of part
  formatted_volumes = ap be_of (in_counted 0 4 (lit≤ tt)) ∙ be_bytes 4 1 (lit< tt)

  pub formatted_stamp : stamp (formatted mark p q r clock) ≡ mark
  unfolding stamp be_at counted words bytes_of part
  formatted_stamp = ap be_of (in_counted 4 4 (lit≤ tt)) ∙ be_bytes 4 mark h.mark_fits

  pub formatted_objects : objects (formatted mark p q r clock) ≡ p
  unfolding objects be_at counted words bytes_of part
  formatted_objects = ap be_of (in_counted 8 4 (lit≤ tt)) ∙ be_bytes 4 p (omega (arith, h.few_objects))

  -- a count after a section
  count_behind : (xs : List ℕ) (m n : ℕ) → length xs ≡ m → n < 2 ^ 32 → be_of (part (xs ++ words (n ∷ [])) m 4) ≡ n
  count_behind xs m n l k =
      ap (λ (i : ℕ). be_of (part (xs ++ words (n ∷ [])) i 4)) (sym (add-zero m))
      ∙ ap be_of (part_right xs (words (n ∷ [])) m 0 4 l ∙ part_whole (words (n ∷ [])) 4 (words_length (n ∷ [])) ∙ words_one n) ∙ be_bytes 4 n k

  pub formatted_names : names (formatted mark p q r clock) ≡ q
  unfolding names be_at names_begin
  formatted_names =
      rw formatted_objects (ap be_of (in_names_begin (objects_head + object_length * p) 4 (omega arith)) ∙ count_behind objects_end
      (objects_head + object_length * p) q objects_end_length (omega (arith, h.few_names)))

  pub formatted_blocks : blocks (formatted mark p q r clock) ≡ r
  unfolding blocks be_at blocks_begin
  formatted_blocks =
      rw (formatted_objects, formatted_names)
      (ap be_of (in_blocks_begin (names_head + object_length * p + name_record_length * q) 4 (omega arith)) ∙ count_behind names_end
      (names_head + object_length * p + name_record_length * q) r names_end_length (omega (arith, h.few_blocks)))

  pub formatted_shaped : Shaped (formatted mark p q r clock)
  formatted_shaped =
      record {
        volume = formatted_volumes;
        some_object = rw formatted_objects h.some_object;
        few_objects = rw formatted_objects h.few_objects;
        few_names = rw formatted_names h.few_names;
        few_blocks = rw formatted_blocks h.few_blocks;
        exact = rw (formatted_objects, formatted_names, formatted_blocks) formatted_length;
      }

  -- ---- it is bytes
  pub formatted_below : Below 256 (formatted mark p q r clock)
  unfolding formatted
  formatted_below = search (below_append, below_words, object_bytes_lem, below_zeros) depth 14

  -- ---- its records
  pub formatted_root : object_at (formatted mark p q r clock) 0 ≡ root_object clock
  unfolding object_at front
  formatted_root =
      object_part (formatted mark p q r clock) objects_head
      ∙ ap (λ (x : List ℕ). object_from x 0)
      (in_front objects_head object_length (lit≤ tt) ∙ part_right counted (object_bytes (root_object clock)) objects_head 0 object_length counted_length ∙
      part_whole (object_bytes (root_object clock)) object_length (object_length_lem (root_object clock)))
      ∙ object_again (root_object clock) (plain_fits 2 493 clock (lit< tt) (lit< tt)
      (record { seconds = h.seconds; nanoseconds = omega (arith, h.nanoseconds) }))

  pub formatted_free : (o : ℕ) → 1 ≤ o → o < p → object_at (formatted mark p q r clock) o ≡ free_object 0
  unfolding objects_end
  formatted_free o a b =
      let e : object_start o ≡ objects_head + object_length + object_length * (o - 1) = omega arith in
      free_zeros (formatted mark p q r clock) o
      (in_objects_end (object_start o) object_length (omega arith) ∙ ap (λ (i : ℕ). part objects_end i object_length) e
      ∙ part_right front (zeros (object_length * (p - 1))) (objects_head + object_length) (object_length * (o - 1)) object_length front_length ∙
      part_zeros (object_length * (p - 1)) (object_length * (o - 1)) object_length (omega arith))

  pub formatted_name : (n : ℕ) → n < q → FreeName (formatted mark p q r clock) n
  unfolding names_end
  formatted_name n l =
      free_name_lem (formatted mark p q r clock) n
      (rw formatted_objects
      (in_names_end (names_head + object_length * p + name_record_length * n) name_record_length (omega arith)
      ∙ part_right names_begin (zeros (name_record_length * q)) (names_head + object_length * p) (name_record_length * n) name_record_length
      names_begin_length ∙ part_zeros (name_record_length * q) (name_record_length * n) name_record_length (omega arith)))

  -- ---- it passes the check
  live_is_root : (o : ℕ) → o < p → Live (formatted mark p q r clock) o → o ≡ 0
  live_is_root o l v =
      by_cases (ℕ_discrete o 0) (λ e. e)
      (λ d. let e = ap (λ (x : Object). x.kind) (formatted_free o (omega arith) l) in absurd (omega arith))

  no_naming : (o n : ℕ) → n < q → is_naming (formatted mark p q r clock) o n ≡ false
  unfolding is_naming
  no_naming o n l = rw (false_used (formatted mark p q r clock) n (formatted_name n l).empty)

  no_size : (o : ℕ) → o < p → (object_at (formatted mark p q r clock) o).size ≡ 0
  no_size o l =
      by_cases (ℕ_discrete o 0)
      (λ e. rw e (ap (λ (x : Object). x.size) formatted_root))
      (λ d. ap (λ (x : Object). x.size) (formatted_free o (omega arith) l))

  no_uses : (b : ℕ) → uses (formatted mark p q r clock) b ≡ 0
  unfolding uses held size_of times
  no_uses b = rw formatted_objects (sum_zero p (λ o. times b (held (formatted mark p q r clock) o)) (λ o l. rw (no_size o l)))

  no_parent : (o : ℕ) → parent (formatted mark p q r clock) o ≡ 0
  unfolding parent
  no_parent o =
      rw (formatted_names, lowest_nothing q (is_naming (formatted mark p q r clock) o) (no_naming o))

  formatted_good : (o : ℕ) → o < p → GoodObject r (object_at (formatted mark p q r clock) o)
  formatted_good o l =
      by_cases (ℕ_discrete o 0)
      (λ e. rw (e, formatted_root) (◌⊎◌.inr (plain_live r 2 493 clock (◌⊎◌.inr refl) (lit≤ tt) h.nanoseconds)))
      (λ d. rw (formatted_free o (omega arith) l) (◌⊎◌.inl refl))

  pub formatted_valid : Valid (formatted mark p q r clock)
  unfolding namings above
  formatted_valid =
      let s = formatted mark p q r clock in
      record {
        shaped = formatted_shaped;
        root = ap (λ (x : Object). x.kind) formatted_root;
        good_objects = λ o l. rw formatted_blocks (formatted_good o (rw formatted_objects at l));
        good_names = λ n l. ◌⊎◌.inl (formatted_name n (rw formatted_names at l));
        distinct = λ n l u. absurd (omega (arith, (formatted_name n (rw formatted_names at l)).empty));
        named = record {
          root = rw formatted_names (count_nothing q (is_naming s 0) (no_naming 0));
          named = λ o l d v. absurd (d (live_is_root o (rw formatted_objects at l) v));
          few = λ o l d v. absurd (d (live_is_root o (rw formatted_objects at l) v));
        };
        used_once = λ b l. omega (arith, no_uses b);
        leads = λ o l v. rw (live_is_root o (rw formatted_objects at l) v) (iterate_fixed (objects s) (parent s) 0 (no_parent 0));
      }

  pub formatted_passes : passes (formatted mark p q r clock) ≡ true
  formatted_passes = passes_valid (formatted mark p q r clock) formatted_valid
