-- Examples of LINK and of files with several names, by computation.
use Prim.Native.Nat.{ℕ, zero, suc, ◌+◌, ◌*◌}
use lib.ListN.{replicate}
use mathlib.Core.Bool.{true, false}
use mathlib.Core.List.{List, [], ◌∷◌, ◌++◌}
use mathlib.Core.Path.{◌≡◌, refl}
use Rattle.spec.specs.Bytes.{zeros, words, opaque_bytes}
use Rattle.spec.specs.Check.{good_namings}
use Rattle.spec.specs.Checked.{refused, passed}
use Rattle.spec.specs.Image.{Store}
use Rattle.spec.specs.Procedures.Link.{check_added}
use Rattle.spec.specs.Serve.{check, convert}
use Rattle.spec.proofs.Conversion.{old_records, refused_with}
use Rattle.spec.proofs.Replacing.{served_later, root_at, root_before}
use Rattle.spec.proofs.Setting.{fresh, served, after, replied, answered, status_sent, handle_to, call_to, create_call, remove_call, getattr_call}
use Rattle.spec.proofs.Setting.{link_call, rename_call, name_a, name_b, name_c, computing}

-- the file "a" in a store with two names and no blocks; the same file as "a" and "b", linked at 7 s 8 ns
abbrev pub one_name : Store
one_name = after (create_call name_a ∷ []) (fresh 2 2 0)

abbrev pub two_names : Store
two_names =
    words (1 ∷ 9 ∷ 2 ∷ [])
    ++ words (2 ∷ 0 ∷ 493 ∷ 0 ∷ 0 ∷ 0 ∷ 5 ∷ 6 ∷ 7 ∷ 8 ∷ 7 ∷ 8 ∷ []) ++ replicate 32 255 ++ zeros 12
    ++ words (1 ∷ 0 ∷ 0 ∷ 0 ∷ 0 ∷ 0 ∷ 5 ∷ 6 ∷ 5 ∷ 6 ∷ 7 ∷ 8 ∷ []) ++ replicate 32 255 ++ zeros 12
    ++ words (2 ∷ 0 ∷ 1 ∷ 1 ∷ []) ++ name_a ++ zeros 31 ++ words (0 ∷ 1 ∷ 1 ∷ []) ++ name_b ++ zeros 31
    ++ words (0 ∷ [])

-- its attributes with so many links and this ctime
abbrev pub file_at : ℕ → ℕ → ℕ → List ℕ
file_at links seconds nanoseconds = 1 ∷ 1 ∷ 0 ∷ links ∷ 0 ∷ 0 ∷ 0 ∷ 0 ∷ 0 ∷ 0 ∷ 0 ∷ 0 ∷ 0 ∷ 9 ∷ 0 ∷ 2 ∷ 5 ∷ 6 ∷ 5 ∷ 6 ∷ seconds ∷ nanoseconds ∷ []

-- n name records of the file, "a" and on, in the root; a store of them, and of one free record more
abbrev pub names_of_file : ℕ → List ℕ
names_of_file zero = []
names_of_file (suc n) = names_of_file n ++ words (0 ∷ 1 ∷ 1 ∷ []) ++ ((0x61 + n) ∷ []) ++ zeros 31

abbrev pub named : ℕ → ℕ → Store
named n free =
    words (1 ∷ 9 ∷ 2 ∷ [])
    ++ words (2 ∷ 0 ∷ 493 ∷ 0 ∷ 0 ∷ 0 ∷ 5 ∷ 6 ∷ 5 ∷ 6 ∷ 5 ∷ 6 ∷ []) ++ replicate 32 255 ++ zeros 12
    ++ words (1 ∷ 0 ∷ 0 ∷ 0 ∷ 0 ∷ 0 ∷ 5 ∷ 6 ∷ 5 ∷ 6 ∷ 5 ∷ 6 ∷ []) ++ replicate 32 255 ++ zeros 12
    ++ words ((n + free) ∷ []) ++ names_of_file n ++ zeros (44 * free) ++ words (0 ∷ [])

-- the handle of object 1 at another generation, as XDR
abbrev pub stale_file : List ℕ
stale_file = words (12 ∷ 9 ∷ 1 ∷ 4 ∷ [])

pub record Linking : Type 0 where
  -- "Of times, only the file's ctime and the directory's mtime and ctime change. A file's nlink counts its names": every byte of the reply and of the store
  pub linked : served_later (link_call 1 0 name_b) one_name ≡ replied (answered (0 ∷ file_at 2 7 8 ++ root_before 5 6 ++ root_at 7 8)) two_names
  pub passes : check two_names ≡ 0
  -- a failure shows the file and the directory, each by its own handle, even where its check was not reached
  pub stale_file_lem : served (call_to 15 (stale_file ++ handle_to 0 ++ opaque_bytes name_b)) one_name
      ≡ replied (answered (70 ∷ 0 ∷ root_before 5 6 ++ root_at 5 6)) one_name
  pub stale_directory : served (call_to 15 (handle_to 1 ++ stale_file ++ opaque_bytes name_b)) one_name
      ≡ replied (answered (70 ∷ file_at 1 5 6 ++ (0 ∷ 0 ∷ []))) one_name
  pub both_stale : served (call_to 15 (stale_file ++ stale_file ++ opaque_bytes name_b)) one_name ≡ replied (answered (70 ∷ 0 ∷ 0 ∷ 0 ∷ [])) one_name
  -- "source handle, INVAL if a directory, directory handle, NOTDIR, then the name checks ("." or ".." EXIST), EXIST, MLINK at 16 names, NOSPC .."
  pub directory_first : status_sent (served (call_to 15 (handle_to 0 ++ stale_file ++ opaque_bytes name_b)) one_name) ≡ 22
  pub in_a_file : status_sent (served (link_call 1 1 []) one_name) ≡ 20
  pub empty_name : status_sent (served (link_call 1 0 []) one_name) ≡ 13
  pub long_name : status_sent (served (link_call 1 0 (replicate 33 0x61)) one_name) ≡ 63
  pub dots : status_sent (served (link_call 1 0 (0x2E ∷ 0x2E ∷ [])) one_name) ≡ 17
  pub taken : status_sent (served (link_call 1 0 name_a) one_name) ≡ 17
  pub no_name_left_lem : status_sent (served (link_call 1 0 name_c) two_names) ≡ 28
  pub sixteenth : check_added (named 15 1) 1 0 (0x2D ∷ []) ≡ passed 15
  pub seventeenth : check_added (named 16 1) 1 0 (0x2D ∷ []) ≡ refused 31
  pub many_before_room : check_added (named 16 0) 1 0 (0x2D ∷ []) ≡ refused 31
  pub taken_before_many : check_added (named 16 0) 1 0 name_a ≡ refused 17
  -- "The store check admits 1 to 16 names per file and one per directory"
  pub sixteen_names : good_namings (named 16 0) 1 ≡ true
  pub seventeen_names : good_namings (named 17 0) 1 ≡ false
  pub no_name : good_namings (named 0 1) 1 ≡ false
  pub root_named : good_namings (named 1 0) 0 ≡ true
  -- "REMOVE, or a RENAME onto it, frees the object only with its last name, and otherwise sets its ctime."
  pub one_left : after (remove_call name_b ∷ []) two_names
      ≡ words (1 ∷ 9 ∷ 2 ∷ [])
      ++ words (2 ∷ 0 ∷ 493 ∷ 0 ∷ 0 ∷ 0 ∷ 5 ∷ 6 ∷ 5 ∷ 6 ∷ 5 ∷ 6 ∷ []) ++ replicate 32 255 ++ zeros 12
      ++ words (1 ∷ 0 ∷ 0 ∷ 0 ∷ 0 ∷ 0 ∷ 5 ∷ 6 ∷ 5 ∷ 6 ∷ 5 ∷ 6 ∷ []) ++ replicate 32 255 ++ zeros 12
      ++ words (2 ∷ 0 ∷ 1 ∷ 1 ∷ []) ++ name_a ++ zeros (31 + 44) ++ words (0 ∷ [])
  pub last_name_lem : status_sent (served (getattr_call 1) (after (remove_call name_a ∷ remove_call name_b ∷ []) two_names)) ≡ 70
  -- RENAME between two names of one file: "success with nothing changed, times .. included"
  pub same_file : served_later (rename_call 0 name_a 0 name_b) two_names ≡ replied (answered (0 ∷ root_before 7 8 ++ root_at 7 8 ++ root_before 7 8 ++ root_at 7 8)) two_names
  -- the converter goes on judging an old image by one name for each object: the file "a" is "b" too
  pub old_names_lem : convert (old_records ++ words (2 ∷ 0 ∷ 1 ∷ 1 ∷ []) ++ name_a ++ zeros 31 ++ words (0 ∷ 1 ∷ 1 ∷ []) ++ name_b ++ zeros 31 ++ words (0 ∷ [])) []
      ≡ refused_with 1 []
  pub old_name : convert (old_records ++ words (2 ∷ 0 ∷ 1 ∷ 1 ∷ []) ++ name_a ++ zeros (31 + 44) ++ words (0 ∷ [])) [] ≡ refused_with 6 []

pub linking : Linking
unfolding computing
linking =
    record {
      linked = refl;
      passes = refl;
      stale_file_lem = refl;
      stale_directory = refl;
      both_stale = refl;
      directory_first = refl;
      in_a_file = refl;
      empty_name = refl;
      long_name = refl;
      dots = refl;
      taken = refl;
      no_name_left_lem = refl;
      sixteenth = refl;
      seventeenth = refl;
      many_before_room = refl;
      taken_before_many = refl;
      sixteen_names = refl;
      seventeen_names = refl;
      no_name = refl;
      root_named = refl;
      one_left = refl;
      last_name_lem = refl;
      same_file = refl;
      old_names_lem = refl;
      old_name = refl;
    }
