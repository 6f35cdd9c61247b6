-- Further answers: each status at its test, and what replies hold, by computation.
use Prim.Native.Nat.{ℕ, ◌+◌, ◌-◌, ◌*◌}
use lib.Dec.{eqb}
use lib.ListN.{length, take, drop, replicate}
use mathlib.Core.Bool.{Bool, true}
use mathlib.Core.List.{List, [], ◌∷◌, ◌++◌}
use mathlib.Core.Path.{◌≡◌, refl}
use Rattle.spec.specs.Bytes.{part, zeros, be_at, words, opaque_bytes}
use Rattle.spec.specs.Checked.{passed}
use Rattle.spec.specs.Image.{Store}
use Rattle.spec.specs.Procedures.Data.{read_length, check_write}
use Rattle.spec.specs.Serve.{serve}
use Rattle.spec.specs.Xdr.{number}
use Rattle.spec.proofs.Setting.{context, space, fresh, call_to, served, after, status_sent, handle_to, getattr_call, lookup_call, create_call, mkdir_call}
use Rattle.spec.proofs.Setting.{remove_call, write_call, read_call, readdir_call, root_words, name_a, root_alone, with_a, setattr_call, create_by, rmdir_call}
use Rattle.spec.proofs.Setting.{rename_call, name_b, answer_to, name_c, three_directories, later, computing}

-- a store whose one record beside the root is free, of generation 4,294,967,295
abbrev pub spent : Store
spent = after [] (take (12 + 92 + 4) (fresh 2 1 0) ++ (255 ∷ 255 ∷ 255 ∷ 255 ∷ []) ++ drop (12 + 92 + 8) (fresh 2 1 0))

-- the words of settable attributes that set a size alone
abbrev pub size_only : ℕ → List ℕ
size_only size = 0 ∷ 0 ∷ 0 ∷ 1 ∷ 0 ∷ size ∷ 0 ∷ 0 ∷ []

-- whether a reply says GARBAGE_ARGS
abbrev pub is_garbage : List ℕ → Store → Bool
is_garbage call s = eqb (be_at (served call s).space 20 4) 4

-- the bytes of a reply from an index on
abbrev pub reply_from : List ℕ → Store → ℕ → List ℕ
reply_from call s at = part (served call s).space at ((served call s).length - at)

pub record Answers : Type 0 where
  -- "Answers 1 to 6, and every number added later, return length 0 and change nothing in any lent buffer."; "call over 8,192 bytes"
  pub refusal : serve (zeros 8) (7 ∷ []) (9 ∷ []) context ≡ record { number = 2; length = 0; offset = 0; space = 9 ∷ []; store = 7 ∷ [] }
  pub longest_call : answer_to (zeros 8192) root_alone space 0 ≡ 0
  -- GARBAGE_ARGS: "a boolean over 1, an unknown enum, a handle over 64 bytes"
  pub bool_two : is_garbage (setattr_call 0 (2 ∷ 0 ∷ 0 ∷ 0 ∷ 0 ∷ 0 ∷ 0 ∷ [])) root_alone ≡ true
  pub time_three : is_garbage (setattr_call 0 (0 ∷ 0 ∷ 0 ∷ 0 ∷ 3 ∷ 0 ∷ 0 ∷ [])) root_alone ≡ true
  pub mode_three : is_garbage (create_by name_a (3 ∷ 0 ∷ 0 ∷ 0 ∷ 0 ∷ 0 ∷ 0 ∷ [])) root_alone ≡ true
  pub stable_three : is_garbage (call_to 7 (handle_to 0 ++ words (0 ∷ 0 ∷ 0 ∷ 3 ∷ 0 ∷ []))) root_alone ≡ true
  pub handle_sixty_four : status_sent (served (call_to 1 (words (64 ∷ []) ++ zeros 64)) root_alone) ≡ 10001
  pub short_commit : is_garbage (call_to 21 (handle_to 0)) root_alone ≡ true
  -- "Other stamp, free, or other generation: STALE."
  pub free_record : status_sent (served (getattr_call 1) (fresh 2 0 0)) ≡ 70
  pub other_generation : status_sent (served (call_to 1 (words (12 ∷ 9 ∷ 0 ∷ 1 ∷ []))) root_alone) ≡ 70
  -- "NOTDIR, name (empty ACCES; over 32 NAMETOOLONG; byte 0 or 0x2F ACCES)"
  pub not_a_directory : status_sent (served (call_to 3 (handle_to 1 ++ opaque_bytes name_a)) with_a) ≡ 20
  pub lookup_empty : status_sent (served (lookup_call []) root_alone) ≡ 13
  pub remove_empty : status_sent (served (remove_call []) root_alone) ≡ 13
  pub rmdir_empty : status_sent (served (rmdir_call []) root_alone) ≡ 13
  pub mkdir_empty : status_sent (served (mkdir_call []) root_alone) ≡ 13
  pub rename_empty : status_sent (served (rename_call 0 [] 0 (replicate 33 0x61)) root_alone) ≡ 13
  pub rename_long : status_sent (served (rename_call 0 name_a 0 (replicate 33 0x61)) root_alone) ≡ 63
  pub long_before_slash : status_sent (served (lookup_call (replicate 33 0x2F)) root_alone) ≡ 63
  pub slash : status_sent (served (lookup_call (0x2F ∷ [])) root_alone) ≡ 13
  pub zero_byte : status_sent (served (lookup_call (0 ∷ [])) root_alone) ≡ 13
  pub longest_name : status_sent (served (create_call (replicate 32 0x61)) (fresh 2 1 0)) ≡ 0
  -- SETATTR: every field lands in its place; "INVAL for .. client nanoseconds of 1,000,000,000 or more, .. size over 8,192"
  pub all_set : reply_from (getattr_call 0) (after (setattr_call 0 (1 ∷ 1 ∷ 1 ∷ 2 ∷ 1 ∷ 3 ∷ 0 ∷ 2 ∷ 11 ∷ 12 ∷ 2 ∷ 13 ∷ 14 ∷ 0 ∷ []) ∷ []) root_alone) 24
      ≡ words (0 ∷ 2 ∷ 1 ∷ 2 ∷ 2 ∷ 3 ∷ 0 ∷ 512 ∷ 0 ∷ 0 ∷ 0 ∷ 0 ∷ 0 ∷ 9 ∷ 0 ∷ 1 ∷ 11 ∷ 12 ∷ 13 ∷ 14 ∷ 5 ∷ 6 ∷ [])
  pub client_time : status_sent (served (setattr_call 0 (0 ∷ 0 ∷ 0 ∷ 0 ∷ 2 ∷ 0 ∷ 999999999 ∷ 0 ∷ 0 ∷ [])) root_alone) ≡ 0
  pub client_atime : status_sent (served (setattr_call 0 (0 ∷ 0 ∷ 0 ∷ 0 ∷ 2 ∷ 0 ∷ 1000000000 ∷ 0 ∷ 0 ∷ [])) root_alone) ≡ 22
  pub client_mtime : status_sent (served (setattr_call 0 (0 ∷ 0 ∷ 0 ∷ 0 ∷ 0 ∷ 2 ∷ 0 ∷ 1000000000 ∷ 0 ∷ [])) root_alone) ≡ 22
  pub largest_size : status_sent (served (setattr_call 1 (size_only 8192 ++ (0 ∷ []))) with_a) ≡ 0
  pub size_over : status_sent (served (setattr_call 1 (size_only 8193 ++ (0 ∷ []))) with_a) ≡ 22
  pub guard_same : status_sent (served (setattr_call 0 (0 ∷ 0 ∷ 0 ∷ 0 ∷ 0 ∷ 0 ∷ 1 ∷ 5 ∷ 6 ∷ [])) root_alone) ≡ 0
  -- zeroing: "AB", cut to one byte, grown to three
  pub tail_cleared : reply_from (read_call 1) (after (write_call 1 0 (0x41 ∷ 0x42 ∷ []) ∷ setattr_call 1 (size_only 1 ++ (0 ∷ [])) ∷ setattr_call 1
      (size_only 3 ++ (0 ∷ [])) ∷ []) with_a) 124 ≡ words (3 ∷ []) ++ (0x41 ∷ 0 ∷ 0 ∷ 0 ∷ [])
  -- READ and COMMIT: "not regular, INVAL"; "n = min(count, 4096, bytes left); eof when offset + n is at least size"
  pub read_directory : status_sent (served (read_call 0) root_alone) ≡ 22
  pub commit_directory : status_sent (served (call_to 21 (handle_to 0 ++ words (0 ∷ 0 ∷ 0 ∷ []))) root_alone) ≡ 22
  pub commit_length : (served (call_to 21 (handle_to 1 ++ words (0 ∷ 0 ∷ 0 ∷ []))) with_a).length ≡ 152
  pub read_most : read_length (after (setattr_call 1 (size_only 8192 ++ (0 ∷ [])) ∷ []) with_a) 1 0 5000 ≡ 4096
  pub read_rest : read_length (after (setattr_call 1 (size_only 700 ++ (0 ∷ [])) ∷ []) with_a) 1 600 5000 ≡ 100
  pub read_nothing : reply_from (call_to 6 (handle_to 1 ++ words (0 ∷ 0 ∷ 0 ∷ []))) (after (write_call 1 0 name_a ∷ []) with_a) 116 ≡ words (0 ∷ 0 ∷ 0 ∷ [])
  -- WRITE: the reply after the attributes; n = min(count, 4096); NOSPC
  pub wrote : part (served (write_call 1 0 name_a) with_a).space 144 16 ≡ words (1 ∷ 2 ∷ 0 ∷ 8 ∷ [])
  pub write_most : check_write with_a (words (9 ∷ 1 ∷ 0 ∷ [])) 4096 4097 (zeros 4097) ≡ passed 1
  pub write_no_room : status_sent (served (write_call 1 512 name_a) (after (create_call name_a ∷ []) (fresh 2 1 1))) ≡ 28
  pub wide_verifier : part (serve (write_call 1 0 name_a) with_a space (record { clock = context.clock; verifier = 4294967296 * 3 + 4 })).space 152 8
      ≡ words (3 ∷ 4 ∷ [])
  -- CREATE: the reply's head; "4,294,967,295 is never given out"; NOSPC for a size; UNCHECKED on an existing file
  pub created : part (served (create_call name_a) (fresh 2 1 16)).space 24 24 ≡ words (0 ∷ 1 ∷ 12 ∷ 9 ∷ 1 ∷ 0 ∷ [])
  pub spent_record : status_sent (served (create_call name_a) spent) ≡ 28
  pub no_name_left_lem : status_sent (served (create_call name_a) (fresh 2 0 0)) ≡ 28
  pub no_block_left : status_sent (served (create_by name_a (1 ∷ size_only 1)) (fresh 2 1 0)) ≡ 28
  pub recreate_grows : status_sent (served (create_by name_a (0 ∷ size_only 1)) (after (create_call name_a ∷ []) (fresh 2 1 0))) ≡ 28
  pub recreate_directory : status_sent (served (create_call name_a) three_directories) ≡ 17
  pub mkdir_exists : status_sent (served (mkdir_call name_a) three_directories) ≡ 17
  -- RENAME: dots; "failure bodies carry" each handle's own change
  pub rename_dot : status_sent (served (rename_call 0 (0x2E ∷ []) 0 name_b) with_a) ≡ 22
  pub rename_to_dots : status_sent (served (rename_call 0 name_a 0 (0x2E ∷ 0x2E ∷ [])) with_a) ≡ 22
  pub rename_none : status_sent (served (rename_call 0 name_b 0 name_c) with_a) ≡ 2
  pub one_dead : reply_from (call_to 14 (handle_to 0 ++ opaque_bytes name_a ++ words (0 ∷ []) ++ opaque_bytes name_a)) root_alone 24
      ≡ words (10001 ∷ 1 ∷ 0 ∷ 512 ∷ 5 ∷ 6 ∷ 5 ∷ 6 ∷ 1 ∷ root_words ++ (0 ∷ 0 ∷ []))
  -- READDIR: "fileid object plus 1"; "name record s has s + 3": the listing of the root above cookie 2
  pub entry : reply_from (readdir_call 2 4096) with_a 124 ≡ words (1 ∷ 0 ∷ 2 ∷ 1 ∷ 0x61000000 ∷ 0 ∷ 3 ∷ 0 ∷ 1 ∷ [])
  pub no_entry : reply_from (readdir_call 3 4096) with_a 124 ≡ words (0 ∷ 1 ∷ [])
  -- ".." of a directory is its parent, of the root the root
  pub parent_found : part (served (call_to 3 (handle_to 2 ++ opaque_bytes (0x2E ∷ 0x2E ∷ []))) three_directories).space 28 16 ≡ handle_to 1
  pub root_found : part (served (lookup_call (0x2E ∷ 0x2E ∷ [])) three_directories).space 28 16 ≡ handle_to 0
  -- "directory 2 plus its subdirectories"; "file used is 512 times its blocks"
  pub links : part (served (getattr_call 0) three_directories).space 36 4 ≡ words (3 ∷ [])
  pub used : part (served (getattr_call 1) (after (setattr_call 1 (size_only 513 ++ (0 ∷ [])) ∷ []) with_a)).space 48 16 ≡ words (0 ∷ 513 ∷ 0 ∷ 1024 ∷ [])
  -- ACCESS of a file; FSSTAT of a store with two objects and two blocks, of which one is used
  pub access_file : part (served (call_to 4 (handle_to 1 ++ words (0xFFFFFFFF ∷ []))) with_a).space 116 4 ≡ words (0x2D ∷ [])
  pub room : reply_from (call_to 18 (handle_to 0)) (after (create_call name_a ∷ write_call 1 0 name_a ∷ []) (fresh 3 1 2)) 116
      ≡ words (0 ∷ 1024 ∷ 0 ∷ 512 ∷ 0 ∷ 512 ∷ 0 ∷ 3 ∷ 0 ∷ 1 ∷ 0 ∷ 1 ∷ 0 ∷ [])
  -- "Added or removed names set the directory's mtime and ctime.": by a clock of 7 s 8 ns
  pub touched : part (serve (getattr_call 0) (serve (create_call name_a) (fresh 2 1 0) space later).store space later).space 88 24
      ≡ words (5 ∷ 6 ∷ 7 ∷ 8 ∷ 7 ∷ 8 ∷ [])

pub answers : Answers
unfolding computing
answers =
    record {
      refusal = refl;
      longest_call = refl;
      bool_two = refl;
      time_three = refl;
      mode_three = refl;
      stable_three = refl;
      handle_sixty_four = refl;
      short_commit = refl;
      free_record = refl;
      other_generation = refl;
      not_a_directory = refl;
      lookup_empty = refl;
      remove_empty = refl;
      rmdir_empty = refl;
      mkdir_empty = refl;
      rename_empty = refl;
      rename_long = refl;
      long_before_slash = refl;
      slash = refl;
      zero_byte = refl;
      longest_name = refl;
      all_set = refl;
      client_time = refl;
      client_atime = refl;
      client_mtime = refl;
      largest_size = refl;
      size_over = refl;
      guard_same = refl;
      tail_cleared = refl;
      read_directory = refl;
      commit_directory = refl;
      commit_length = refl;
      read_most = refl;
      read_rest = refl;
      read_nothing = refl;
      wrote = refl;
      write_most = refl;
      write_no_room = refl;
      wide_verifier = refl;
      created = refl;
      spent_record = refl;
      no_name_left_lem = refl;
      no_block_left = refl;
      recreate_grows = refl;
      recreate_directory = refl;
      mkdir_exists = refl;
      rename_dot = refl;
      rename_to_dots = refl;
      rename_none = refl;
      one_dead = refl;
      entry = refl;
      no_entry = refl;
      parent_found = refl;
      root_found = refl;
      links = refl;
      used = refl;
      access_file = refl;
      room = refl;
      touched = refl;
    }
