-- The image that an old one becomes, up to its blocks, made in a part of the room. Assumes nothing.
use mathlib.Core.Path.{◌≡◌, sym, ap, ◌∙◌}
use mathlib.Core.Bool.{true, false, ◌&&◌}
use mathlib.Core.List.{List}
use Prim.Native.Nat.{ℕ, ◌+◌, ◌*◌, ◌-◌, ◌≤◌, ◌<◌}
use native.Mathlib.Omega.{arith}
use lib.Dec.{leb}
use lib.ListN.{length}
use lib.Seq.{take_at}
use borrow.Rule.Slice.PartMut.{mid_of, post_of, put_mid, mid_len}
use Rattle.kinds.specs.Layout.{blocks_head, object_length, name_record_length}
use Rattle.spec.specs.Bytes.{part}
use Rattle.spec.specs.Count.{every}
use Rattle.spec.specs.Image.{Store, objects, names, blocks}
use Rattle.spec.specs.Room.{namings}
use Rattle.spec.specs.Check.{records_pass, passes}
use Rattle.spec.specs.Convert.{old_names, old_blocks, converted, is_named_once}
use Rattle.laws.proofs.Bytes.{part_length}
use Rattle.laws.proofs.Converted.{OldShaped, keeps, converted_shaped}
use Rattle.laws.proofs.Count.{every_ext}
use Rattle.laws.proofs.RecordsOnly.{records_end, front_same, objects_kept, names_kept, blocks_kept, framed_kept, front_passes, front_namings}
use Rattle.laws.proofs.Valid.{Framed, shaped_framed}
use Rattle.fsck_names.specs.Named.{LinkedBy}
use Rattle.convert.specs.Room.{most_records}
use Rattle.convert.specs.Links.{has_one_name}

-- x has p objects, q name records and r blocks, and its records pass the check where the image does that the old one becomes
pub record Front (old : List ℕ) (p q r : ℕ) (x : Store) : Type 0 where
  pub framed : Framed x
  pub objects : p ≡ objects x
  pub names : q ≡ names x
  pub blocks : r ≡ blocks x
  pub passing : records_pass x ≡ passes (converted old)
  pub namings : records_pass x ≡ true → (o : ℕ) → namings x o ≡ namings (converted old) o

module _ (old : List ℕ) (p q r : ℕ) (t : OldShaped old) (a : p ≡ objects old) (b : q ≡ old_names old) (c : r ≡ old_blocks old) where
  front_is : Front old p q r (part (converted old) 0 (records_end (converted old)))
  front_is =
      let s = converted old in
      let w = converted_shaped old t in
      let k = keeps old t in
      let f = front_same s (shaped_framed s w) in
      let x = part s 0 (records_end s) in
      record {
        framed = framed_kept s x f;
        objects = a ∙ sym (objects_kept s x f ∙ k.same_objects);
        names = b ∙ sym (names_kept s x f ∙ k.same_names);
        blocks = c ∙ sym (blocks_kept s x f ∙ k.same_blocks);
        passing = front_passes s w;
        namings = front_namings s (shaped_framed s w);
      }

  -- the part that it was made in, read again
  pub front_made : (room made : List ℕ) (n : ℕ) → length room ≡ most_records → n ≡ blocks_head + object_length * p + name_record_length * q
      → made ≡ part (converted old) 0 (length (mid_of 0 (n - 0) room)) → Front old p q r (mid_of 0 (n - 0) (put_mid 0 (n - 0) room made))
  front_made room made n l e f =
      let s = converted old in
      let k = keeps old t in
      let z : n - 0 ≡ n = omega arith in
      let end : n ≡ records_end s = omega (arith, k.same_objects, k.same_names) in
      let fits : n ≤ length room = omega (arith, t.few_objects, t.few_names) in
      let m : made ≡ part s 0 n = f ∙ ap (part s 0) (mid_len 0 n room fits ∙ z) in
      let inside = (shaped_framed s (converted_shaped old t)).inside in
      let long : length made ≡ n = ap length m ∙ part_length s 0 n (omega (arith, inside)) in
      let x : mid_of 0 (n - 0) (put_mid 0 (n - 0) room made) ≡ part s 0 (records_end s) =
      (rw z (take_at made (post_of 0 n room) n long)) ∙ m ∙ ap (part s 0) end in
      rw x front_is

-- ---- the answer, from the records and the map of links
pub front_fails : (old : List ℕ) (p q r : ℕ) (x : Store) → Front old p q r x → records_pass x ≡ false
    → false ≡ (passes (converted old) && every (objects old) (is_named_once (converted old)))
front_fails old p q r x f e = rw (sym f.passing ∙ e)

pub front_answers : (old : List ℕ) (p q r : ℕ) (x : Store) (links : List ℕ) → Front old p q r x → p ≡ objects old → records_pass x ≡ true
    → LinkedBy x (names x) links → every p (has_one_name links) ≡ (passes (converted old) && every (objects old) (is_named_once (converted old)))
unfolding is_named_once namings
front_answers old p q r x links f a e m =
    let same : (o : ℕ) → o < p → has_one_name links o ≡ is_named_once (converted old) o
    = λ o l. ap (λ (k : ℕ). leb k 1) (m.counts o (omega (arith, f.objects)) ∙ f.namings e o) in
    rw (sym f.passing ∙ e, ← a) (every_ext (has_one_name links) (is_named_once (converted old)) p same)
