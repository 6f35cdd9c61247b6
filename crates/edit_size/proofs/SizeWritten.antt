-- The size and the block numbers of an object, written alone, are its record written whole. Assumes nothing.
use Prim.Native.Nat.{ℕ, ◌+◌, ◌≤◌}
use mathlib.Core.Path.{◌≡◌, sym, ap, ◌∙◌}
use mathlib.Core.List.{List, ◌++◌, append_assoc}
use native.Mathlib.Omega.{arith}
use lib.ListN.{length}
use Rattle.kinds.specs.Layout.{size_offset, atime_offset, blocks_offset, verifier_offset, object_length}
use Rattle.kinds.specs.Numbers.{file_blocks}
use Rattle.kinds.specs.declared.object.Object.{Object}
use Rattle.spec.specs.Bytes.{part, overlay, bytes_of}
use Rattle.spec.specs.Edits.{with_size}
use Rattle.spec.specs.Image.{Store, object_start, halves_bytes, head_bytes, times_bytes, verifier_bytes, object_bytes, object_at, put_object}
use Rattle.laws.proofs.Bytes.{part_after, overlay_join, overlay_length, bytes_length}
use Rattle.laws.proofs.Range.{Below}
use Rattle.laws.proofs.Records.{halves_length}
use Rattle.edit_attributes.proofs.Kept.{times_length, blocks_length, verifier_length, overlay_kept, skip, numbers_kept, times_kept, verifier_kept}

module _ (s : Store) (o size : ℕ) (numbers : List ℕ) (f : Below 256 s) (h : object_start o + object_length ≤ length s) where
  abbrev at : ℕ
  at = object_start o

  abbrev first : Store
  first = overlay s (at + size_offset) (bytes_of 4 size)

  first_length : length first ≡ length s
  first_length = overlay_length s (at + size_offset) (bytes_of 4 size) (omega (arith, bytes_length 4 size))

  times_same : part first (at + atime_offset) times_length ≡ part s (at + atime_offset) times_length
  times_same =
      part_after s (at + size_offset) (bytes_of 4 size) (omega (arith, bytes_length 4 size)) (at + atime_offset) times_length (omega (arith, bytes_length 4 size))

  abbrev numbers_bytes : Object → List ℕ
  numbers_bytes v = bytes_of 4 v.kind ++ bytes_of 4 v.generation ++ bytes_of 4 v.mode ++ bytes_of 4 v.uid ++ bytes_of 4 v.gid

  abbrev numbered : List ℕ
  numbered = halves_bytes file_blocks numbers

  numbered_length : length numbered ≡ blocks_length
  numbered_length = halves_length file_blocks numbers

  abbrev second : Store
  second = overlay first (at + blocks_offset) numbered

  second_length : length second ≡ length s
  second_length = overlay_length first (at + blocks_offset) numbered (omega (arith, numbered_length, first_length)) ∙ first_length

  verifier_same : part second (at + verifier_offset) verifier_length ≡ part s (at + verifier_offset) verifier_length
  verifier_same =
      part_after first (at + blocks_offset) numbered (omega (arith, numbered_length, first_length)) (at + verifier_offset) verifier_length
      (omega (arith, numbered_length))
      ∙ part_after s (at + size_offset) (bytes_of 4 size) (omega (arith, bytes_length 4 size)) (at + verifier_offset) verifier_length
      (omega (arith, bytes_length 4 size))

  spelt : object_bytes (with_size size numbers (object_at s o))
      ≡ numbers_bytes (object_at s o) ++ (bytes_of 4 size ++ (times_bytes (object_at s o) ++ (numbered ++ verifier_bytes (object_at s o))))
  unfolding object_bytes head_bytes times_bytes verifier_bytes with_size
  spelt = simp append_assoc

  pub size_written : second ≡ put_object s o (with_size size numbers (object_at s o))
  unfolding put_object
  size_written =
      let past : at + size_offset + length (bytes_of 4 size) ≡ at + atime_offset = omega (arith, bytes_length 4 size) in
      let timed : at + atime_offset + times_length ≡ at + blocks_offset = omega arith in
      let behind : at + blocks_offset + length numbered ≡ at + verifier_offset = omega (arith, numbered_length) in
      sym (ap (overlay s at) spelt
      ∙ skip s at size_offset _ _ (numbers_kept s o f h) (omega arith)
      ∙ sym (overlay_join s (at + size_offset) (bytes_of 4 size) (omega (arith, bytes_length 4 size)) _)
      ∙ ap (λ (k : ℕ). overlay first k (times_bytes (object_at s o) ++ (numbered ++ verifier_bytes (object_at s o)))) past
      ∙ skip first (at + atime_offset) times_length _ _ (times_kept s o f h ∙ sym times_same) (omega (arith, first_length))
      ∙ ap (λ (k : ℕ). overlay first k (numbered ++ verifier_bytes (object_at s o))) timed
      ∙ sym (overlay_join first (at + blocks_offset) numbered (omega (arith, numbered_length, first_length)) _)
      ∙ ap (λ (k : ℕ). overlay second k (verifier_bytes (object_at s o))) behind
      ∙ overlay_kept second (at + verifier_offset) verifier_length _ (verifier_kept s o f h ∙ sym verifier_same) (omega (arith, second_length)))
