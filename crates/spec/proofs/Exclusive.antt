-- Examples of EXCLUSIVE CREATE, and of the verifier in the check, by computation.
use Prim.Native.Nat.{ℕ, ◌+◌}
use lib.ListN.{length, replicate}
use mathlib.Core.List.{List, [], ◌∷◌, ◌++◌}
use mathlib.Core.Path.{◌≡◌, refl}
use Rattle.spec.specs.Bytes.{part, overlay, zeros, words}
use Rattle.spec.specs.Image.{Store}
use Rattle.spec.specs.Serve.{check}
use Rattle.spec.proofs.Setting.{fresh, served, after, status_sent, handle_to, create_call, mkdir_call, write_call, setattr_call, create_by, rename_call}
use Rattle.spec.proofs.Setting.{remove_call, name_a, name_b, root_alone, with_a, exclusive_call, word_after, computing}

-- the file "a" made EXCLUSIVE with verifier 1 2, with room for blocks, and in a store that is full then
abbrev pub made : Store
made = after (exclusive_call name_a 1 2 ∷ []) (fresh 2 1 2)

abbrev pub made_full : Store
made_full = after (exclusive_call name_a 1 2 ∷ []) (fresh 2 1 0)

-- the status of the same call sent again, after other calls
abbrev pub again : List (List ℕ) → ℕ
again calls = status_sent (served (exclusive_call name_a 1 2) (after calls made))

-- where the verifier and the flag of object 1 stand
abbrev pub verifier_at : ℕ
verifier_at = 12 + 92 + 80

pub record Exclusive : Type 0 where
  -- "an absent name is made with unset attributes and its 8-byte verifier kept": type 1, generation 0, mode, uid, gid and size 0, times the
  -- clock, no blocks, the verifier, the flag
  pub record_made : part made (12 + 92) 92 ≡ words (1 ∷ 0 ∷ 0 ∷ 0 ∷ 0 ∷ 0 ∷ 5 ∷ 6 ∷ 5 ∷ 6 ∷ 5 ∷ 6 ∷ []) ++ replicate 32 255 ++ words (1 ∷ 2 ∷ 1 ∷ [])
  pub made_length : (served (exclusive_call name_a 1 2) (fresh 2 1 2)).length ≡ 252
  pub made_passes : check made ≡ 0
  -- "an existing regular file made that way with the same verifier is success": with that handle, and nothing changes, on a full store too
  pub sent_twice_lem : again [] ≡ 0
  pub same_handle : part (served (exclusive_call name_a 1 2) made).space 28 20 ≡ words (1 ∷ []) ++ handle_to 1
  pub nothing_changes : (served (exclusive_call name_a 1 2) made).store ≡ made
  pub full_twice : status_sent (served (exclusive_call name_a 1 2) made_full) ≡ 0
  -- "else EXIST": another verifier in either half, a file made otherwise, even for a verifier of zeros, a directory
  pub other_high : status_sent (served (exclusive_call name_a 3 2) made) ≡ 17
  pub other_low : status_sent (served (exclusive_call name_a 1 3) made) ≡ 17
  pub made_otherwise : status_sent (served (exclusive_call name_a 0 0) with_a) ≡ 17
  pub directory : status_sent (served (exclusive_call name_a 0 0) (after (mkdir_call name_a ∷ []) (fresh 2 1 0))) ≡ 17
  -- "EXCLUSIVE now passes the name checks and "." or ".." give EXIST."; NOSPC as for any new object
  pub empty_name : status_sent (served (exclusive_call [] 1 2) root_alone) ≡ 13
  pub dot : status_sent (served (exclusive_call (0x2E ∷ []) 1 2) root_alone) ≡ 17
  pub no_room : status_sent (served (exclusive_call name_b 1 2) made_full) ≡ 28
  -- "A successful SETATTR forgets the verifier.": one with nothing set too; one that is refused does not
  pub forgotten : again (setattr_call 1 (0 ∷ 0 ∷ 0 ∷ 0 ∷ 0 ∷ 0 ∷ 0 ∷ []) ∷ []) ≡ 17
  pub record_forgotten : part (served (setattr_call 1 (0 ∷ 0 ∷ 0 ∷ 0 ∷ 0 ∷ 0 ∷ 0 ∷ [])) made).store verifier_at 12 ≡ zeros 12
  pub refused_keeps : again (setattr_call 1 (1 ∷ 4096 ∷ 0 ∷ 0 ∷ 0 ∷ 0 ∷ 0 ∷ 0 ∷ []) ∷ []) ≡ 0
  -- nothing else does: UNCHECKED with a size, WRITE, RENAME there and back
  pub unchecked_keeps : again (create_by name_a (0 ∷ 0 ∷ 0 ∷ 0 ∷ 1 ∷ 0 ∷ 600 ∷ 0 ∷ 0 ∷ []) ∷ []) ≡ 0
  pub write_keeps : again (write_call 1 0 name_a ∷ []) ≡ 0
  pub rename_keeps : again (rename_call 0 name_a 0 name_b ∷ rename_call 0 name_b 0 name_a ∷ []) ≡ 0
  pub removed : word_after (remove_call name_a) made (verifier_at + 8) ≡ 0
  -- the check: "1 on a regular file that keeps one, else both zero"
  pub zero_verifier : check (overlay made verifier_at (words (0 ∷ 0 ∷ 1 ∷ []))) ≡ 0
  pub no_flag : check (overlay made (verifier_at + 8) (words (0 ∷ []))) ≡ 1
  pub other_flag : check (overlay made (verifier_at + 8) (words (2 ∷ []))) ≡ 1
  pub flagged_directory : check (overlay made (12 + 88) (words (1 ∷ []))) ≡ 1
  pub flagged_free : check (overlay (fresh 2 1 0) (verifier_at + 8) (words (1 ∷ []))) ≡ 1

pub exclusive : Exclusive
unfolding computing
exclusive =
    record {
      record_made = refl;
      made_length = refl;
      made_passes = refl;
      sent_twice_lem = refl;
      same_handle = refl;
      nothing_changes = refl;
      full_twice = refl;
      other_high = refl;
      other_low = refl;
      made_otherwise = refl;
      directory = refl;
      empty_name = refl;
      dot = refl;
      no_room = refl;
      forgotten = refl;
      record_forgotten = refl;
      refused_keeps = refl;
      unchecked_keeps = refl;
      write_keeps = refl;
      rename_keeps = refl;
      removed = refl;
      zero_verifier = refl;
      no_flag = refl;
      other_flag = refl;
      flagged_directory = refl;
      flagged_free = refl;
    }
