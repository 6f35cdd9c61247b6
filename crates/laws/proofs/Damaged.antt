-- Stores that break one demand of the check each, and stores that keep to its bounds, by computation.
use Prim.Native.Nat.{ℕ, ◌+◌, ◌-◌}
use lib.ListN.{length, take, drop, replicate}
use mathlib.Core.Bool.{true, false}
use mathlib.Core.List.{List, [], ◌∷◌, ◌++◌}
use mathlib.Core.Path.{◌≡◌, refl}
use Rattle.spec.specs.Bytes.{zeros, words, opaque_bytes}
use Rattle.spec.specs.Check.{good_counts}
use Rattle.spec.specs.Image.{Store}
use Rattle.spec.specs.Serve.{check}
use Rattle.spec.specs.Xdr.{word}
use Rattle.spec.proofs.Setting.{fresh, call_to, after, handle_to, create_call, mkdir_call, write_call, name_a, name_b, name_c, computing}

-- a store with bytes put at an index
abbrev pub patched : Store → ℕ → List ℕ → Store
patched s at xs = take at s ++ xs ++ drop (at + length xs) s

-- the file "a", object 1, with one byte in block 0, and the directory "b", object 2, of four objects, three names and two blocks: objects
-- start at 12, names at 384, blocks at 520
abbrev pub small : Store
small =
    after (create_call name_a ∷ call_to 9 (handle_to 0 ++ opaque_bytes (0x62 ∷ []) ++ words (0 ∷ 0 ∷ 0 ∷ 0 ∷ 0 ∷ 0 ∷ [])) ∷ write_call 1 0 (0x41 ∷ []) ∷
    []) (fresh 4 3 2)

-- the check's answer to that store with one word, or some bytes, put at an index
abbrev pub check_with : ℕ → ℕ → ℕ
check_with at word = check (patched small at (words (word ∷ [])))

abbrev pub check_bytes : ℕ → List ℕ → ℕ
check_bytes at xs = check (patched small at xs)

-- the words of a name record: directory, child, length, and 32 bytes
abbrev pub name_words : ℕ → ℕ → List ℕ → List ℕ
name_words directory child text = words (directory ∷ child ∷ length text ∷ []) ++ text ++ zeros (32 - length text)

-- The store passes; each line below breaks one demand of the check, or keeps to its bound.
pub record Damaged : Type 0 where
  pub passes_whole : check small ≡ 0
  pub nothing : check [] ≡ 1
  pub twenty_bytes : check (zeros 20) ≡ 1
  -- "volume: count 1"; "the image [grows] to 20 + 92P + 44Q + 512R"; "P, 1 to 64"; "Q, 0 to 128"; "R, 0 to 1,024"
  pub two_volumes : check_with 0 2 ≡ 1
  pub other_stamp : check_with 4 77 ≡ 0
  pub one_byte_more : check (small ++ (0 ∷ [])) ≡ 1
  pub one_byte_less : check (take (length small - 1) small) ≡ 1
  pub most_counts : good_counts 64 128 1024 ≡ true
  pub no_object : good_counts 0 0 0 ≡ false
  pub objects_over : good_counts 65 0 0 ≡ false
  pub names_over : good_counts 1 129 0 ≡ false
  pub blocks_over : good_counts 1 0 1025 ≡ false
  -- "Types: 0 free, 1 regular, 2 directory. Object 0 is the root, a directory."
  pub root_regular : check_with 12 1 ≡ 1
  pub third_type : check_with (12 + 92) 3 ≡ 1
  -- "a free object zero but for its generation": object 3
  pub free_generation : check_with (12 + 276 + 4) 4294967295 ≡ 0
  pub free_mode : check_with (12 + 276 + 8) 1 ≡ 1
  pub free_block : check_bytes (12 + 276 + 79) (1 ∷ []) ≡ 1
  pub free_verifier : check_bytes (12 + 276 + 80) (1 ∷ []) ≡ 1
  -- "live generations below 4,294,967,295; modes at most 4,095; valid nanoseconds": object 1
  pub generation_most : check_with (12 + 92 + 4) 4294967294 ≡ 0
  pub generation_over : check_with (12 + 92 + 4) 4294967295 ≡ 1
  pub mode_most : check_with (12 + 92 + 8) 4095 ≡ 0
  pub mode_over : check_with (12 + 92 + 8) 4096 ≡ 1
  pub any_uid : check_with (12 + 92 + 12) 4294967295 ≡ 0
  pub any_gid : check_with (12 + 92 + 16) 4294967295 ≡ 0
  pub atime_most : check_with (12 + 92 + 28) 999999999 ≡ 0
  pub atime_over : check_with (12 + 92 + 28) 1000000000 ≡ 1
  pub mtime_over : check_with (12 + 92 + 36) 1000000000 ≡ 1
  pub ctime_over : check_with (12 + 92 + 44) 1000000000 ≡ 1
  -- "a directory's size 0 with no blocks"; "a file's size at most 8,192 with its first ceil(size/512) block numbers in range and the rest 65535"
  pub directory_size : check_with (12 + 184 + 20) 1 ≡ 1
  pub directory_block : check_bytes (12 + 184 + 48) (0 ∷ 1 ∷ []) ≡ 1
  pub size_one_block : check_with (12 + 92 + 20) 512 ≡ 0
  pub size_two_blocks : check_with (12 + 92 + 20) 513 ≡ 1
  pub size_none : check_with (12 + 92 + 20) 0 ≡ 1
  pub block_in_range : check_bytes (12 + 92 + 48) (0 ∷ 1 ∷ []) ≡ 0
  pub block_out_of_range : check_bytes (12 + 92 + 48) (0 ∷ 2 ∷ []) ≡ 1
  pub unused_block_lem : check_bytes (12 + 92 + 50) (0 ∷ 1 ∷ []) ≡ 1
  pub last_unused_block : check_bytes (12 + 92 + 78) (0 ∷ 0 ∷ []) ≡ 1
  -- "no block used twice": by one file, which has size 1,024
  pub two_blocks : check (patched (patched small (12 + 92 + 20) (words (1024 ∷ []))) (12 + 92 + 50) (0 ∷ 1 ∷ [])) ≡ 0
  pub block_twice : check (patched (patched small (12 + 92 + 20) (words (1024 ∷ []))) (12 + 92 + 50) (0 ∷ 0 ∷ [])) ≡ 1
  -- "used names 1 to 32 bytes, zero-padded, without 0 or 0x2F, not "." or ".."": name record 0, of "a"
  pub name_most : check_bytes 384 (name_words 0 1 (replicate 32 0x61)) ≡ 0
  pub name_over : check_bytes 384 (words (0 ∷ 1 ∷ 33 ∷ []) ++ replicate 32 0x61) ≡ 1
  pub name_padding : check_bytes (384 + 43) (1 ∷ []) ≡ 1
  pub name_zero : check_bytes 384 (name_words 0 1 (0x61 ∷ 0 ∷ 0x61 ∷ [])) ≡ 1
  pub name_slash : check_bytes 384 (name_words 0 1 (0x61 ∷ 0x2F ∷ [])) ≡ 1
  pub name_dot : check_bytes 384 (name_words 0 1 (0x2E ∷ [])) ≡ 1
  pub name_dots : check_bytes 384 (name_words 0 1 (0x2E ∷ 0x2E ∷ [])) ≡ 1
  pub name_three_dots : check_bytes 384 (name_words 0 1 (0x2E ∷ 0x2E ∷ 0x2E ∷ [])) ≡ 0
  -- "a free name (length 0) all zero": name record 2
  pub free_name_lem : check_bytes (384 + 88 + 43) (1 ∷ []) ≡ 1
  pub free_name_child : check_with (384 + 88 + 4) 1 ≡ 1
  -- "distinct within a directory": two names "a", in one directory and in two
  pub same_name : check_bytes (384 + 44) (name_words 0 2 name_a) ≡ 1
  pub same_name_elsewhere : check_bytes 384 (name_words 2 1 (0x62 ∷ [])) ≡ 0
  -- "each joining a live directory to a live object"
  pub in_a_file : check_bytes (384 + 44) (name_words 1 2 name_b) ≡ 1
  pub in_nothing : check_bytes (384 + 44) (name_words 9 2 name_b) ≡ 1
  pub names_free : check_bytes (384 + 88) (name_words 0 3 name_c) ≡ 1
  pub names_nothing : check_bytes (384 + 88) (name_words 0 9 name_c) ≡ 1
  -- "every live object but the root named once, the root never"
  pub named_twice : check_bytes (384 + 88) (name_words 0 1 name_c) ≡ 0
  pub directory_twice : check_bytes (384 + 88) (name_words 0 2 name_c) ≡ 1
  pub named_never : check_bytes 384 (zeros 44) ≡ 1
  pub root_named : check_bytes (384 + 88) (name_words 2 0 name_c) ≡ 1
  -- "parents lead to the root": a directory in itself, and two in each other
  pub in_itself : check_bytes (384 + 44) (name_words 2 2 name_b) ≡ 1
  pub in_each_other : check (patched (after (mkdir_call name_a ∷ mkdir_call name_b ∷ []) (fresh 3 2 0)) (16 + 276) (name_words 2 1 name_a ++ name_words 1 2 name_b)) ≡ 1
  -- "Block contents aren't checked."
  pub any_contents : check_bytes (520 + 500) (7 ∷ []) ≡ 0

pub damaged : Damaged
unfolding computing
damaged =
    record {
      passes_whole = refl;
      nothing = refl;
      twenty_bytes = refl;
      two_volumes = refl;
      other_stamp = refl;
      one_byte_more = refl;
      one_byte_less = refl;
      most_counts = refl;
      no_object = refl;
      objects_over = refl;
      names_over = refl;
      blocks_over = refl;
      root_regular = refl;
      third_type = refl;
      free_generation = refl;
      free_mode = refl;
      free_block = refl;
      free_verifier = refl;
      generation_most = refl;
      generation_over = refl;
      mode_most = refl;
      mode_over = refl;
      any_uid = refl;
      any_gid = refl;
      atime_most = refl;
      atime_over = refl;
      mtime_over = refl;
      ctime_over = refl;
      directory_size = refl;
      directory_block = refl;
      size_one_block = refl;
      size_two_blocks = refl;
      size_none = refl;
      block_in_range = refl;
      block_out_of_range = refl;
      unused_block_lem = refl;
      last_unused_block = refl;
      two_blocks = refl;
      block_twice = refl;
      name_most = refl;
      name_over = refl;
      name_padding = refl;
      name_zero = refl;
      name_slash = refl;
      name_dot = refl;
      name_dots = refl;
      name_three_dots = refl;
      free_name_lem = refl;
      free_name_child = refl;
      same_name = refl;
      same_name_elsewhere = refl;
      in_a_file = refl;
      in_nothing = refl;
      names_free = refl;
      names_nothing = refl;
      named_twice = refl;
      directory_twice = refl;
      named_never = refl;
      root_named = refl;
      in_itself = refl;
      in_each_other = refl;
      any_contents = refl;
    }
