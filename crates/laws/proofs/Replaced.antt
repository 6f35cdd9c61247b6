-- What RENAME leaves where it replaces an object, by computation.
use Prim.Native.Nat.{◌+◌, ◌*◌}
use mathlib.Core.List.{[], ◌∷◌}
use mathlib.Core.Path.{◌≡◌, refl}
use Rattle.spec.specs.Bytes.{part, overlay, zeros, words}
use Rattle.spec.specs.Image.{Store}
use Rattle.spec.specs.Serve.{check}
use Rattle.spec.proofs.Setting.{served, after, status_sent, getattr_call, lookup_call, create_call, read_call, rename_call, handle_to, file_read, tag0123456789}
use Rattle.spec.proofs.Setting.{tag123456789, name_a, name_b, name_c, with_tags, word_after, computing}
use Rattle.spec.proofs.Replacing.{onto, both_tags, replaced, beside_c}

-- both tags, the second of generation 4,294,967,294
abbrev pub last_generation : Store
last_generation = overlay both_tags (12 + 92 * 2 + 4) (words (4294967294 ∷ []))

pub record Replaced : Type 0 where
  -- "a compatible target is removed first: both non-directories": the tag is found under the new name alone
  pub found : part (served (lookup_call tag123456789) replaced).space 28 16 ≡ handle_to 1
  pub none_left : status_sent (served (lookup_call tag0123456789) replaced) ≡ 2
  pub passes : check replaced ≡ 0
  -- the first tag held "A" and the second "BC": the block of "BC" is zeroed, and "A" is read under the second name
  pub block_zeroed : part (after (onto ∷ []) with_tags) (20 + 92 * 3 + 44 * 2 + 512) 512 ≡ zeros 512
  pub bytes_kept : part (served (read_call 1) (after (onto ∷ []) with_tags)).space 0 132 ≡ file_read 2 (0x41 ∷ [])
  -- "A removed target's room, handle and line in the book are treated as REMOVE or RMDIR would treat them."
  pub stale : status_sent (served (getattr_call 2) replaced) ≡ 70
  pub stale_ever : status_sent (served (getattr_call 2) (after (create_call name_a ∷ []) replaced)) ≡ 70
  pub room_again_lem : part (served (create_call name_a) replaced).space 28 20 ≡ words (1 ∷ 12 ∷ 9 ∷ 2 ∷ 1 ∷ [])
  pub spent : word_after onto last_generation (12 + 92 * 2 + 4) ≡ 4294967295
  pub never_again_lem : status_sent (served (create_call name_a) (after (onto ∷ []) last_generation)) ≡ 28
  -- "or both directories with the target empty": over one in another directory, out of its own parent, and over one beside it
  pub directories : status_sent (served (rename_call 0 name_c 1 name_b) beside_c) ≡ 0
  pub directory_gone : status_sent (served (getattr_call 2) (after (rename_call 0 name_c 1 name_b ∷ []) beside_c)) ≡ 70
  pub moved_up : status_sent (served (rename_call 1 name_b 0 name_c) beside_c) ≡ 0
  pub beside : status_sent (served (rename_call 0 name_a 0 name_c) beside_c) ≡ 0
  pub beside_passes : check (after (rename_call 0 name_a 0 name_c ∷ []) beside_c) ≡ 0

pub examples : Replaced
unfolding computing
examples =
    record {
      found = refl;
      none_left = refl;
      passes = refl;
      block_zeroed = refl;
      bytes_kept = refl;
      stale = refl;
      stale_ever = refl;
      room_again_lem = refl;
      spent = refl;
      never_again_lem = refl;
      directories = refl;
      directory_gone = refl;
      moved_up = refl;
      beside = refl;
      beside_passes = refl;
    }
