-- Examples at the edges: numbers, the order of checks and the readings of open points, by computation.
use Prim.Native.Nat.{◌+◌}
use lib.ListN.{replicate}
use mathlib.Core.List.{[], ◌∷◌, ◌++◌}
use mathlib.Core.Path.{◌≡◌, refl}
use Rattle.spec.specs.Bytes.{zeros, words, opaque_bytes}
use Rattle.spec.specs.Serve.{check, format}
use Rattle.spec.proofs.Setting.{space, fresh, call_to, served, after, replied, answered, status_sent, handle_to, getattr_call, create_call}
use Rattle.spec.proofs.Setting.{remove_call, readdir_call, root_words, name_a, root_alone, without_blocks, setattr_call, create_by, mkdir_by, rmdir_call}
use Rattle.spec.proofs.Setting.{rename_call, name_b, answer_to, word_after, two_directories, three_directories, computing}

pub record Edges : Type 0 where
  -- answers 2, 3, 4, 1, and then the header, in this order: "reply space under 4,224 bytes" first
  pub space_first : answer_to (zeros 8193) [] (zeros 4223) 1000000000 ≡ 2
  pub clock_second : answer_to (zeros 8193) [] (zeros 4224) 1000000000 ≡ 3
  pub call_third : answer_to (zeros 8193) [] (zeros 4224) 999999999 ≡ 4
  pub store_fourth : answer_to (zeros 7) [] (zeros 4224) 999999999 ≡ 1
  pub header_fifth : answer_to (zeros 7) root_alone (zeros 4224) 999999999 ≡ 5
  pub credential_fits : answer_to (words (7 ∷ 0 ∷ 2 ∷ 100003 ∷ 3 ∷ 0 ∷ 0 ∷ 400 ∷ []) ++ zeros 408) root_alone space 0 ≡ 0
  -- "RPC version not 2 is denied with RPC_MISMATCH 2 2", "program not 100003, PROG_UNAVAIL; version not 3, PROG_MISMATCH 3 3; procedure over
  -- 21, PROC_UNAVAIL; .."
  pub other_rpc : served (words (7 ∷ 0 ∷ 3 ∷ [])) root_alone ≡ replied (words (7 ∷ 1 ∷ 1 ∷ 0 ∷ 2 ∷ 2 ∷ [])) root_alone
  pub other_program : served (words (7 ∷ 0 ∷ 2 ∷ 100005 ∷ 4 ∷ 22 ∷ 0 ∷ 0 ∷ 0 ∷ 0 ∷ [])) root_alone ≡ replied (words (7 ∷ 1 ∷ 0 ∷ 0 ∷ 0 ∷ 1 ∷ [])) root_alone
  pub other_version : served (words (7 ∷ 0 ∷ 2 ∷ 100003 ∷ 2 ∷ 22 ∷ 0 ∷ 0 ∷ 0 ∷ 0 ∷ [])) root_alone
      ≡ replied (words (7 ∷ 1 ∷ 0 ∷ 0 ∷ 0 ∷ 2 ∷ 3 ∷ 3 ∷ [])) root_alone
  pub other_procedure : served (call_to 22 []) root_alone ≡ replied (words (7 ∷ 1 ∷ 0 ∷ 0 ∷ 0 ∷ 3 ∷ [])) root_alone
  -- "The other five answer NOTSUPP with their arguments unread.", SYMLINK among them, with the table's zero words; "Other length .. BADHANDLE"
  pub not_served : served (call_to 10 (words (9 ∷ []))) root_alone ≡ replied (answered (10004 ∷ 0 ∷ 0 ∷ [])) root_alone
  pub bad_handle : served (call_to 14 (words (0 ∷ 0 ∷ 0 ∷ 0 ∷ []))) root_alone ≡ replied (answered (10001 ∷ 0 ∷ 0 ∷ 0 ∷ 0 ∷ [])) root_alone
  pub object_past_end : status_sent (served (getattr_call 1) root_alone) ≡ 10001
  -- SETATTR: "guard differs, NOT_SYNC; then INVAL for mode over 4,095"; "size on a directory"
  pub guard_first : status_sent (served (setattr_call 0 (1 ∷ 4096 ∷ 0 ∷ 0 ∷ 0 ∷ 0 ∷ 0 ∷ 1 ∷ 0 ∷ 0 ∷ [])) root_alone) ≡ 10002
  pub mode_over : status_sent (served (setattr_call 0 (1 ∷ 4096 ∷ 0 ∷ 0 ∷ 0 ∷ 0 ∷ 0 ∷ 0 ∷ [])) root_alone) ≡ 22
  pub mode_fits : status_sent (served (setattr_call 0 (1 ∷ 4095 ∷ 0 ∷ 0 ∷ 0 ∷ 0 ∷ 0 ∷ 0 ∷ [])) root_alone) ≡ 0
  pub directory_size : status_sent (served (setattr_call 0 (0 ∷ 0 ∷ 0 ∷ 1 ∷ 0 ∷ 0 ∷ 0 ∷ 0 ∷ 0 ∷ [])) root_alone) ≡ 22
  pub no_room : status_sent (served (setattr_call 1 (0 ∷ 0 ∷ 0 ∷ 1 ∷ 0 ∷ 513 ∷ 0 ∷ 0 ∷ 0 ∷ [])) (after (create_call name_a ∷ []) (fresh 2 1 1))) ≡ 28
  -- CREATE: dots EXIST; INVAL before an existing name; GUARDED on one EXIST
  pub empty_name : status_sent (served (create_call []) root_alone) ≡ 13
  pub long_name : status_sent (served (create_call (replicate 33 0x61)) root_alone) ≡ 63
  pub create_dot : status_sent (served (create_by (0x2E ∷ []) (0 ∷ 1 ∷ 4096 ∷ 0 ∷ 0 ∷ 0 ∷ 0 ∷ 0 ∷ [])) root_alone) ≡ 17
  pub invalid_first : status_sent (served (create_by name_a (1 ∷ 1 ∷ 4096 ∷ 0 ∷ 0 ∷ 0 ∷ 0 ∷ 0 ∷ [])) without_blocks) ≡ 22
  pub guarded : status_sent (served (create_by name_a (1 ∷ 0 ∷ 0 ∷ 0 ∷ 0 ∷ 0 ∷ 0 ∷ [])) without_blocks) ≡ 17
  pub mkdir_size : status_sent (served (mkdir_by name_a (0 ∷ 0 ∷ 0 ∷ 1 ∷ 0 ∷ 0 ∷ 0 ∷ 0 ∷ [])) without_blocks) ≡ 22
  -- REMOVE and RMDIR: dots, NOENT, the wrong type
  pub remove_dot : status_sent (served (remove_call (0x2E ∷ [])) without_blocks) ≡ 13
  pub remove_none : status_sent (served (remove_call name_b) without_blocks) ≡ 2
  pub remove_directory : status_sent (served (remove_call name_a) two_directories) ≡ 13
  pub rmdir_dot : status_sent (served (rmdir_call (0x2E ∷ [])) without_blocks) ≡ 22
  pub rmdir_file : status_sent (served (rmdir_call name_a) without_blocks) ≡ 20
  pub rmdir_full : status_sent (served (rmdir_call name_a) two_directories) ≡ 66
  -- "Freeing an object raises its generation by one"; the handle is STALE ever after
  pub generation_raised : word_after (remove_call name_a) without_blocks (12 + 92 + 4) ≡ 1
  pub stale_after : status_sent (served (getattr_call 1) (after (remove_call name_a ∷ create_call name_b ∷ []) without_blocks)) ≡ 70
  -- RENAME: "a directory into itself or below, INVAL"
  pub rename_below : status_sent (served (rename_call 0 name_a 2 name_a) two_directories) ≡ 22
  pub rename_itself : status_sent (served (rename_call 0 name_a 1 name_a) two_directories) ≡ 22
  -- "Testing only the immediate parent": a into a/b/c
  pub rename_deep : status_sent (served (rename_call 0 name_a 3 name_a) three_directories) ≡ 22
  pub rename_up : check (after (rename_call 1 name_b 0 name_b ∷ []) two_directories) ≡ 0
  -- WRITE: INVAL before FBIG; READDIR: BAD_COOKIE before TOOSMALL; TOOSMALL below 104 even if nothing remains
  pub count_first : status_sent (served (call_to 7 (handle_to 1 ++ words (0 ∷ 9000 ∷ 2 ∷ 2 ∷ []) ++ opaque_bytes name_a)) without_blocks) ≡ 22
  pub huge_offset : status_sent (served (call_to 7 (handle_to 1 ++ words (4294967295 ∷ 4294967295 ∷ 1 ∷ 2 ∷ []) ++ opaque_bytes name_a)) without_blocks) ≡ 27
  pub bad_cookie : status_sent (served (call_to 16 (handle_to 0 ++ words (0 ∷ 0 ∷ 0 ∷ 1 ∷ 0 ∷ []))) root_alone) ≡ 10003
  pub nothing_fits : status_sent (served (readdir_call 2 103) root_alone) ≡ 10005
  -- ACCESS: bits within 0x1F for directories, 0x2D for files
  pub access_directory : served (call_to 4 (handle_to 0 ++ words (0xFFFFFFFF ∷ []))) root_alone ≡ replied (answered (0 ∷ 1 ∷ root_words ++ (0x1F ∷ []))) root_alone
  -- FSSTAT, FSINFO and PATHCONF of the root
  pub fsstat : served (call_to 18 (handle_to 0)) (fresh 1 0 0)
      ≡ replied (answered (0 ∷ 1 ∷ root_words ++ (0 ∷ 0 ∷ 0 ∷ 0 ∷ 0 ∷ 0 ∷ 0 ∷ 1 ∷ 0 ∷ 0 ∷ 0 ∷ 0 ∷ 0 ∷ []))) root_alone
  pub fsinfo : served (call_to 19 (handle_to 0)) root_alone
      ≡ replied (answered (0 ∷ 1 ∷ root_words ++ (4096 ∷ 4096 ∷ 1 ∷ 4096 ∷ 4096 ∷ 1 ∷ 4096 ∷ 0 ∷ 8192 ∷ 0 ∷ 1 ∷ 0x19 ∷ []))) root_alone
  pub pathconf : served (call_to 20 (handle_to 0)) root_alone ≡ replied (answered (0 ∷ 1 ∷ root_words ++ (16 ∷ 32 ∷ 1 ∷ 0 ∷ 0 ∷ 1 ∷ []))) root_alone
  -- format: 3, then 6
  pub format_clock : (format (zeros 99) 9 0 0 0 (record { seconds = 0; nanoseconds = 1000000000 })).number ≡ 3
  pub format_count : (format (zeros 20) 9 0 0 0 (record { seconds = 0; nanoseconds = 0 })).number ≡ 6
  pub format_length : (format (zeros 99) 9 1 0 0 (record { seconds = 0; nanoseconds = 0 })).number ≡ 6

pub edges : Edges
unfolding computing
edges =
    record {
      space_first = refl;
      clock_second = refl;
      call_third = refl;
      store_fourth = refl;
      header_fifth = refl;
      credential_fits = refl;
      other_rpc = refl;
      other_program = refl;
      other_version = refl;
      other_procedure = refl;
      not_served = refl;
      bad_handle = refl;
      object_past_end = refl;
      guard_first = refl;
      mode_over = refl;
      mode_fits = refl;
      directory_size = refl;
      no_room = refl;
      empty_name = refl;
      long_name = refl;
      create_dot = refl;
      invalid_first = refl;
      guarded = refl;
      mkdir_size = refl;
      remove_dot = refl;
      remove_none = refl;
      remove_directory = refl;
      rmdir_dot = refl;
      rmdir_file = refl;
      rmdir_full = refl;
      generation_raised = refl;
      stale_after = refl;
      rename_below = refl;
      rename_itself = refl;
      rename_deep = refl;
      rename_up = refl;
      count_first = refl;
      huge_offset = refl;
      bad_cookie = refl;
      nothing_fits = refl;
      access_directory = refl;
      fsstat = refl;
      fsinfo = refl;
      pathconf = refl;
      format_clock = refl;
      format_count = refl;
      format_length = refl;
    }
