-- Examples of RENAME onto a name that exists, by computation.
use Prim.Native.Nat.{ℕ, ◌+◌}
use lib.ListN.{replicate}
use mathlib.Core.List.{List, [], ◌∷◌, ◌++◌}
use mathlib.Core.Path.{◌≡◌, refl}
use Rattle.spec.specs.Bytes.{zeros, be_at, words}
use Rattle.spec.specs.Image.{Store}
use Rattle.spec.specs.Serve.{Outcome, serve}
use Rattle.spec.proofs.Setting.{space, fresh, served, after, replied, answered, status_sent, create_call, mkdir_call}
use Rattle.spec.proofs.Setting.{rename_call, mkdir_in, tag0123456789, tag123456789, name_a, name_b, name_c}
use Rattle.spec.proofs.Setting.{two_directories, three_directories, later, computing}

-- the tag 0123456789 is renamed onto the tag 123456789
abbrev pub onto : List ℕ
onto = rename_call 0 tag0123456789 0 tag123456789

-- both tags, without blocks: every object and every name is used
abbrev pub both_tags : Store
both_tags = after (create_call tag0123456789 ∷ create_call tag123456789 ∷ []) (fresh 3 2 0)

-- the same at 7 s 8 ns
abbrev pub served_later : List ℕ → Store → Outcome
served_later call s = serve call s space later

-- the root's attributes with this time as its mtime and ctime, after a call and before it
abbrev pub root_at : ℕ → ℕ → List ℕ
root_at seconds nanoseconds =
    1 ∷ 2 ∷ 493 ∷ 2 ∷ 0 ∷ 0 ∷ 0 ∷ 512 ∷ 0 ∷ 0 ∷ 0 ∷ 0 ∷ 0 ∷ 9 ∷ 0 ∷ 1 ∷ 5 ∷ 6 ∷ seconds ∷ nanoseconds ∷ seconds ∷ nanoseconds ∷ []

abbrev pub root_before : ℕ → ℕ → List ℕ
root_before seconds nanoseconds = 1 ∷ 0 ∷ 512 ∷ seconds ∷ nanoseconds ∷ seconds ∷ nanoseconds ∷ []

-- the store that is left of both tags: the root, the file, a free object of the next generation; the moved name, a free name
abbrev pub replaced : Store
replaced =
    words (1 ∷ 9 ∷ 3 ∷ [])
    ++ words (2 ∷ 0 ∷ 493 ∷ 0 ∷ 0 ∷ 0 ∷ 5 ∷ 6 ∷ 7 ∷ 8 ∷ 7 ∷ 8 ∷ []) ++ replicate 32 255 ++ zeros 12
    ++ words (1 ∷ 0 ∷ 0 ∷ 0 ∷ 0 ∷ 0 ∷ 5 ∷ 6 ∷ 5 ∷ 6 ∷ 7 ∷ 8 ∷ []) ++ replicate 32 255 ++ zeros 12
    ++ words (0 ∷ 1 ∷ []) ++ zeros 84
    ++ words (2 ∷ 0 ∷ 1 ∷ 9 ∷ []) ++ tag123456789 ++ zeros (23 + 44)
    ++ words (0 ∷ [])

-- the directory "a", which has the directory "b", and the empty directory "c"; a directory "a" and a file "b"
abbrev pub beside_c : Store
beside_c = after (mkdir_in 0 name_c ∷ []) two_directories

abbrev pub mixed : Store
mixed = after (mkdir_call name_a ∷ create_call name_b ∷ []) (fresh 3 2 0)

pub record Replacing : Type 0 where
  -- "a compatible target is removed first: both non-directories": every byte of the reply and of the store
  pub files : served_later onto both_tags ≡ replied (answered (0 ∷ root_before 5 6 ++ root_at 7 8 ++ root_before 5 6 ++ root_at 7 8)) replaced
  -- "Incompatible or not empty stays EXIST."
  pub not_empty : status_sent (served (rename_call 0 name_c 0 name_a) beside_c) ≡ 17
  pub own_parent : status_sent (served (rename_call 1 name_b 0 name_a) beside_c) ≡ 17
  pub directory_onto_file : status_sent (served (rename_call 0 name_a 0 name_b) mixed) ≡ 17
  pub file_onto_directory : status_sent (served (rename_call 0 name_b 0 name_a) mixed) ≡ 17
  -- "From and to being the same object is success with nothing changed, times .. included."
  pub itself : served (rename_call 0 tag123456789 0 tag123456789) replaced
      ≡ replied (answered (0 ∷ root_before 7 8 ++ root_at 7 8 ++ root_before 7 8 ++ root_at 7 8)) replaced
  pub itself_full : status_sent (served_later (rename_call 0 name_a 0 name_a) beside_c) ≡ 0
  pub itself_time : be_at (served_later (rename_call 0 name_a 0 name_a) beside_c).store (12 + 92 + 40) 4 ≡ 5
  -- "The test for a directory moved into itself or below comes before the one for the target.": "a" onto "a/b", which is empty, and which is not
  pub into_child : status_sent (served (rename_call 0 name_a 1 name_b) two_directories) ≡ 22
  pub into_full_child : status_sent (served (rename_call 0 name_a 1 name_b) three_directories) ≡ 22
  pub none_first : status_sent (served (rename_call 0 name_b 0 name_a) two_directories) ≡ 2

pub replacing : Replacing
unfolding computing
replacing =
    record {
      files = refl;
      not_empty = refl;
      own_parent = refl;
      directory_onto_file = refl;
      file_onto_directory = refl;
      itself = refl;
      itself_full = refl;
      itself_time = refl;
      into_child = refl;
      into_full_child = refl;
      none_first = refl;
    }
