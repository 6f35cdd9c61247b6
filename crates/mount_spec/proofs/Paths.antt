-- Examples of paths and what they lead to, by computation.
use lib.ListN.{replicate}
use mathlib.Core.List.{[], ◌∷◌, ◌++◌}
use mathlib.Core.Path.{◌≡◌, refl}
use Rattle.spec.specs.Checked.{refused, passed}
use Rattle.mount_spec.specs.Path.{components, mount_point}
use Rattle.mount_spec.specs.Procedures.{check_mount}
use Rattle.mount_spec.proofs.Setting.{lane, top, path_a, path_b, path_c, path_x, desk, full, mounting}

pub record Paths : Type 0 where
  -- "empty components skipped": "//a/b/"
  pub skipped : components (0x2F ∷ path_a ++ (0x2F ∷ 0x2F ∷ 0x62 ∷ 0x2F ∷ [])) ≡ (0x61 ∷ []) ∷ (0x62 ∷ []) ∷ []
  -- ""/" and "//" are the root."
  pub root : mount_point lane top ≡ passed 0
  pub root_twice : mount_point lane (0x2F ∷ 0x2F ∷ []) ≡ passed 0
  pub directory : mount_point lane path_a ≡ passed 1
  pub deeper : mount_point lane path_b ≡ passed 2
  pub trailing : mount_point lane (path_a ++ (0x2F ∷ [])) ≡ passed 1
  -- "." and "..", and ".." of the root: "/./a/b/..", "/.."
  pub dots : mount_point lane (0x2F ∷ 0x2E ∷ path_b ++ (0x2F ∷ 0x2E ∷ 0x2E ∷ [])) ≡ passed 1
  pub above_root : mount_point lane (0x2F ∷ 0x2E ∷ 0x2E ∷ []) ≡ passed 0
  -- "MNT takes paths starting with a slash (else INVAL)"; "An empty path is INVAL": "" and "a"
  pub empty_path : mount_point lane [] ≡ refused 22
  pub no_slash : mount_point lane (0x61 ∷ []) ≡ refused 22
  -- "the first failing component decides the status": "/x", "/x/c", "/c/x"
  pub missing : mount_point lane path_x ≡ refused 2
  pub missing_first : mount_point lane (path_x ++ path_c) ≡ refused 2
  -- ""/file/", "/file/." and "/file/x" are NOTDIR.", and so is "/file"
  pub file : mount_point lane path_c ≡ refused 20
  pub file_slash : mount_point lane (path_c ++ (0x2F ∷ [])) ≡ refused 20
  pub file_dot : mount_point lane (path_c ++ (0x2F ∷ 0x2E ∷ [])) ≡ refused 20
  pub file_below : mount_point lane (path_c ++ path_x) ≡ refused 20
  -- LOOKUP's name checks: over 32 bytes, a byte 0
  pub long_name : mount_point lane (0x2F ∷ replicate 33 0x61) ≡ refused 63
  pub longest_name : mount_point lane (0x2F ∷ replicate 32 0x61) ≡ refused 2
  pub zero_byte : mount_point lane (0x2F ∷ 0 ∷ []) ≡ refused 13

pub paths : Paths
unfolding mounting
paths =
    record {
      skipped = refl;
      root = refl;
      root_twice = refl;
      directory = refl;
      deeper = refl;
      trailing = refl;
      dots = refl;
      above_root = refl;
      empty_path = refl;
      no_slash = refl;
      missing = refl;
      missing_first = refl;
      file = refl;
      file_slash = refl;
      file_dot = refl;
      file_below = refl;
      long_name = refl;
      longest_name = refl;
      zero_byte = refl;
    }

pub record Order : Type 0 where
  -- "else a full table gives SERVERFAULT, after the path's own failures"
  pub path_first : check_mount lane full desk path_x ≡ refused 2
  pub file_first : check_mount lane full desk path_c ≡ refused 20
  pub table_then : check_mount lane full desk path_a ≡ refused 10006

pub order : Order
unfolding mounting
order =
    record {
      path_first = refl;
      file_first = refl;
      table_then = refl;
    }
