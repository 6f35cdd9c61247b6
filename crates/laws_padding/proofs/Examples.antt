-- The fields of some calls, and where their padding is, by computation.
use Prim.Native.Nat.{ℕ}
use lib.ListN.{replicate}
use mathlib.Core.Bool.{true, false}
use mathlib.Core.List.{List, [], ◌∷◌, ◌++◌}
use mathlib.Core.Path.{◌≡◌, refl}
use Rattle.kinds.specs.declared.call.Part.{Part}
use Rattle.spec.specs.Bytes.{words, opaque_bytes}
use Rattle.spec.proofs.Setting.{call_to, handle_to, getattr_call, lookup_call, write_call, rename_call, name_a, name_b, computing}
use Rattle.spec.proofs.Padding.{lookup_with, null_with}
use Rattle.laws_padding.specs.Fields.{opaque_field, credential_fields, call_header_fields, header_fields, name_in_fields, data_fields, argument_fields, fields_of}
use Rattle.laws_padding.specs.Alike.{in_paddings, is_pad}

abbrev pub at : ℕ → ℕ → Part
at start n = record { start = start; length = n }

-- the bodies of the empty credential and verifier of `call_to`; a handle that comes first in its arguments
abbrev pub heads : List Part
heads = at 32 0 ∷ at 40 0 ∷ []

abbrev pub handle_first : Part
handle_first = at 44 12

pub record Examples : Type 0 where
  -- handles, names, data, both names of RENAME, LINK's name behind its handle; credential and verifier
  pub handle_alone : fields_of (getattr_call 0) ≡ heads ++ (handle_first ∷ [])
  pub name_too : fields_of (lookup_call name_a) ≡ heads ++ (handle_first ∷ at 60 1 ∷ [])
  pub data_too : fields_of (write_call 1 0 name_a) ≡ heads ++ (handle_first ∷ at 76 1 ∷ [])
  pub both_names : fields_of (rename_call 0 name_a 0 name_b) ≡ heads ++ (handle_first ∷ at 60 1 ∷ at 68 12 ∷ at 84 1 ∷ [])
  pub name_behind : fields_of (call_to 15 (handle_to 1 ++ handle_to 0 ++ opaque_bytes name_b)) ≡ heads ++ (handle_first ∷ at 60 12 ∷ at 76 1 ∷ [])
  pub header_alone : fields_of (null_with (1 ∷ 2 ∷ 3 ∷ []) (4 ∷ 5 ∷ [])) ≡ at 32 1 ∷ at 44 2 ∷ []
  -- the padding of the name "a" is the three bytes behind it, and no other byte
  pub name_byte : is_pad (lookup_call name_a) 60 ≡ false
  pub first_pad : is_pad (lookup_call name_a) 61 ≡ true
  pub last_pad : is_pad (lookup_call name_a) 63 ≡ true
  pub behind_pad : is_pad (lookup_call name_a) 64 ≡ false
  -- of a call that is refused, the fields up to the refusal: a name with cut padding; a length that is not allowed; `stable` 3 before the data
  pub cut_padding : fields_of (lookup_with (0 ∷ [])) ≡ heads ++ (handle_first ∷ at 60 1 ∷ [])
  pub long_handle : fields_of (call_to 3 (opaque_bytes (replicate 65 0) ++ opaque_bytes name_a)) ≡ heads
  pub unknown_stable : fields_of (call_to 7 (handle_to 1 ++ words (0 ∷ 0 ∷ 1 ∷ 3 ∷ []) ++ opaque_bytes name_a)) ≡ heads ++ (handle_first ∷ [])
  -- arguments that stay unread have none: an unserved procedure, another program, another RPC version
  pub unserved : fields_of (call_to 17 (handle_to 0 ++ handle_to 0 ++ opaque_bytes name_a)) ≡ heads
  pub other_program : fields_of (words (7 ∷ 0 ∷ 2 ∷ 100005 ∷ 3 ∷ 1 ∷ 0 ∷ 0 ∷ 0 ∷ 0 ∷ []) ++ handle_to 0) ≡ heads
  pub other_rpc : fields_of (words (7 ∷ 0 ∷ 3 ∷ 100003 ∷ 3 ∷ 1 ∷ 0 ∷ 0 ∷ 0 ∷ 0 ∷ []) ++ handle_to 0) ≡ []

pub examples : Examples
unfolding computing opaque_field credential_fields call_header_fields header_fields name_in_fields data_fields argument_fields fields_of in_paddings
examples =
    record {
      handle_alone = refl;
      name_too = refl;
      data_too = refl;
      both_names = refl;
      name_behind = refl;
      header_alone = refl;
      name_byte = refl;
      first_pad = refl;
      last_pad = refl;
      behind_pad = refl;
      cut_padding = refl;
      long_handle = refl;
      unknown_stable = refl;
      unserved = refl;
      other_program = refl;
      other_rpc = refl;
    }
