-- Examples of calls of MOUNT that cannot be read: the number of the answer, and the offset at which the call broke, by computation.
use Prim.Native.Nat.{ℕ}
use lib.ListN.{replicate}
use mathlib.Core.List.{List, [], ◌∷◌, ◌++◌}
use mathlib.Core.Path.{◌≡◌, refl}
use Rattle.spec.specs.Bytes.{zeros, words}
use Rattle.spec.specs.Header.{fault}
use Rattle.mount_spec.specs.Serve.{refuse_mount}
use Rattle.spec.proofs.Setting.{garbage}
use Rattle.mount_spec.proofs.Setting.{top, empty, mount_call, mnt_call, umnt_call, heard, answered_at, answered_by, mounting}

-- a call that is refused with a number and an offset; one that is answered GARBAGE_ARGS with an offset beside the reply. Both leave the table
abbrev pub RefusedAt : ℕ → ℕ → List ℕ → Type 0
RefusedAt number offset call = heard call empty ≡ refuse_mount (fault number offset) [] empty

abbrev pub GarbageAt : ℕ → List ℕ → Type 0
GarbageAt offset call = heard call empty ≡ answered_at offset garbage empty

pub record BrokenCalls : Type 0 where
  -- "Answer 5 splits, MOUNT's too"
  pub under_eight : RefusedAt 5 0 (zeros 7)
  pub a_reply : RefusedAt 7 0 (words (7 ∷ 1 ∷ []))
  pub no_version : RefusedAt 8 8 (zeros 11)
  pub cut_verifier : RefusedAt 8 36 (words (7 ∷ 0 ∷ 2 ∷ 100005 ∷ 3 ∷ 0 ∷ 0 ∷ 0 ∷ 0 ∷ 1 ∷ []) ++ zeros 3)
  pub long_credential : RefusedAt 9 28 (words (7 ∷ 0 ∷ 2 ∷ 100005 ∷ 3 ∷ 0 ∷ 0 ∷ 401 ∷ []))
  -- "The void procedures with bytes left over: GARBAGE_ARGS."; "Paths are `dirpath<1024>`: more is GARBAGE_ARGS, in UMNT too."
  pub left_over : GarbageAt 40 (mount_call 2 (zeros 4))
  pub path_left_over : GarbageAt 48 (mnt_call top ++ zeros 1)
  pub cut_path : GarbageAt 40 (mount_call 1 (words (1 ∷ []) ++ top))
  pub long_path : GarbageAt 40 (mnt_call (0x2F ∷ replicate 1024 0x2F))
  pub long_umnt : GarbageAt 40 (umnt_call (0x2F ∷ replicate 1024 0x2F))
  -- "in all other cases it is 0"
  pub other_procedure : heard (mount_call 6 (zeros 4)) empty ≡ answered_by (words (7 ∷ 1 ∷ 0 ∷ 0 ∷ 0 ∷ 3 ∷ [])) empty

pub broken_calls : BrokenCalls
unfolding mounting
broken_calls =
    record {
      under_eight = refl;
      a_reply = refl;
      no_version = refl;
      cut_verifier = refl;
      long_credential = refl;
      left_over = refl;
      path_left_over = refl;
      cut_path = refl;
      long_path = refl;
      long_umnt = refl;
      other_procedure = refl;
    }
