-- Examples of padding that is not zero, and of padding that is missing, by computation.
use Prim.Native.Nat.{ℕ}
use lib.ListN.{length, replicate}
use mathlib.Core.List.{List, [], ◌∷◌, ◌++◌}
use mathlib.Core.Path.{◌≡◌, refl}
use Rattle.spec.specs.Bytes.{words}
use Rattle.spec.specs.Header.{fault}
use Rattle.spec.specs.Serve.{refuse}
use Rattle.spec.proofs.Setting.{space, fresh, call_to, served, after, replied_at, replied, garbage, status_sent, handle_to, read_call, file_read}
use Rattle.spec.proofs.Setting.{name_a, name_b, root_alone, without_blocks, computing}

-- opaque data as a host sends it: its length, its bytes, and these bytes behind them
abbrev pub sent_with : List ℕ → List ℕ → List ℕ
sent_with bytes behind = words (length bytes ∷ []) ++ bytes ++ behind

-- LOOKUP and CREATE of "a" in the root, RENAME of it to "b", and a WRITE of one byte to object 1, with these bytes behind each name and the data
abbrev pub lookup_with : List ℕ → List ℕ
lookup_with pad = call_to 3 (handle_to 0 ++ sent_with name_a pad)

abbrev pub create_with : List ℕ → List ℕ
create_with pad = call_to 8 (handle_to 0 ++ sent_with name_a pad ++ words (0 ∷ 0 ∷ 0 ∷ 0 ∷ 0 ∷ 0 ∷ 0 ∷ []))

abbrev pub rename_with : List ℕ → List ℕ → List ℕ
rename_with pad more = call_to 14 (handle_to 0 ++ sent_with name_a pad ++ handle_to 0 ++ sent_with name_b more)

abbrev pub write_with : List ℕ → List ℕ
write_with pad = call_to 7 (handle_to 1 ++ words (0 ∷ 0 ∷ 1 ∷ 2 ∷ []) ++ sent_with (0x41 ∷ []) pad)

-- NULL with a credential of one byte and a verifier of two
abbrev pub null_with : List ℕ → List ℕ → List ℕ
null_with pad more = words (7 ∷ 0 ∷ 2 ∷ 100003 ∷ 3 ∷ 0 ∷ 0 ∷ []) ++ sent_with (9 ∷ []) pad ++ words (0 ∷ []) ++ sent_with (8 ∷ 8 ∷ []) more

pub record Padding : Type 0 where
  -- "Whatever reads a padded field now accepts any pad bytes, in arguments": names, data, and handles, whose good length has no padding
  pub name_found : status_sent (served (lookup_with (0xFF ∷ 0 ∷ 0x2F ∷ [])) without_blocks) ≡ 0
  pub name_moved : status_sent (served (rename_with (1 ∷ 0 ∷ 0 ∷ []) (0 ∷ 0x62 ∷ 0 ∷ [])) without_blocks) ≡ 0
  pub other_length : status_sent (served (call_to 1 (sent_with (replicate 13 0) (1 ∷ 2 ∷ 3 ∷ []))) root_alone) ≡ 10001
  -- the stored name has none of it, and neither has the file or the padding of a reply
  pub name_stored : (served (create_with (0x61 ∷ 0x61 ∷ 0x61 ∷ [])) (fresh 2 1 0)).store ≡ without_blocks
  pub data_stored : (served (read_call 1) (after (create_with (1 ∷ 2 ∷ 3 ∷ []) ∷ write_with (4 ∷ 5 ∷ 6 ∷ []) ∷ []) (fresh 2 1 1))).space
      ≡ (replied (file_read 2 (0x41 ∷ [])) []).space
  -- "credentials and verifiers"
  pub credential_padded : served (null_with (1 ∷ 2 ∷ 3 ∷ []) (0 ∷ 0 ∷ [])) root_alone ≡ replied (words (7 ∷ 1 ∷ 0 ∷ 0 ∷ 0 ∷ 0 ∷ [])) root_alone
  pub verifier_padded : served (null_with (0 ∷ 0 ∷ 0 ∷ []) (0 ∷ 4 ∷ [])) root_alone ≡ replied (words (7 ∷ 1 ∷ 0 ∷ 0 ∷ 0 ∷ 0 ∷ [])) root_alone
  -- "Missing pad bytes still refuse."; one too many is left over
  pub name_cut : served (lookup_with (0 ∷ 0 ∷ [])) root_alone ≡ replied_at 56 garbage root_alone
  pub data_cut : served (write_with []) root_alone ≡ replied_at 72 garbage root_alone
  pub name_longer : served (lookup_with (0 ∷ 0 ∷ 0 ∷ 0 ∷ [])) root_alone ≡ replied_at 64 garbage root_alone
  pub verifier_cut : served (null_with (1 ∷ 2 ∷ 3 ∷ []) (4 ∷ [])) root_alone ≡ refuse (fault 8 40) space root_alone

pub padding_any : Padding
unfolding computing
padding_any =
    record {
      name_found = refl;
      name_moved = refl;
      other_length = refl;
      name_stored = refl;
      data_stored = refl;
      credential_padded = refl;
      verifier_padded = refl;
      name_cut = refl;
      data_cut = refl;
      name_longer = refl;
      verifier_cut = refl;
    }
