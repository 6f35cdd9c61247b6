-- Examples of calls that cannot be read: the number of the answer, and the offset at which the call broke, by computation.
use Prim.Native.Nat.{ℕ}
use mathlib.Core.List.{List, [], ◌∷◌, ◌++◌}
use mathlib.Core.Path.{◌≡◌, refl}
use Rattle.kinds.specs.declared.numbers.Fault.{Fault}
use Rattle.spec.specs.Bytes.{zeros, words, opaque_bytes}
use Rattle.spec.specs.Header.{fault}
use Rattle.spec.specs.Serve.{refuse}
use Rattle.spec.proofs.Setting.{space, call_to, served, replied, replied_at, garbage, answered, handle_to, root_alone, computing}

-- the number and the offset with which a call is answered
abbrev pub broken : List ℕ → Fault
broken call = fault (served call root_alone).number (served call root_alone).offset

-- a header of NULL up to the length word of its credential, and one with an empty credential up to the length word of its verifier
abbrev pub to_credential : List ℕ
to_credential = words (7 ∷ 0 ∷ 2 ∷ 100003 ∷ 3 ∷ 0 ∷ 1 ∷ [])

abbrev pub to_verifier : List ℕ
to_verifier = to_credential ++ words (0 ∷ 0 ∷ [])

pub record BrokenHeaders : Type 0 where
  -- "5 for under 8 bytes", whatever they are; a refusal leaves reply space and store
  pub nothing : served [] root_alone ≡ refuse (fault 5 0) space root_alone
  pub under_eight : broken (words (7 ∷ []) ++ (0 ∷ 0 ∷ 1 ∷ [])) ≡ fault 5 0
  -- "7 for a message type other than 0", whatever follows
  pub a_reply : served (words (7 ∷ 1 ∷ 0 ∷ 0 ∷ 0 ∷ 0 ∷ [])) root_alone ≡ refuse (fault 7 0) space root_alone
  pub type_alone : broken (words (7 ∷ 0x80000000 ∷ [])) ≡ fault 7 0
  -- "8 for a header cut short", at the start of the item that is cut: "8 to 11 bytes with type 0: 8 at offset 8"
  pub no_version : served (words (7 ∷ 0 ∷ [])) root_alone ≡ refuse (fault 8 8) space root_alone
  pub cut_version : broken (words (7 ∷ 0 ∷ []) ++ zeros 3) ≡ fault 8 8
  pub cut_program : broken (words (7 ∷ 0 ∷ 2 ∷ [])) ≡ fault 8 12
  pub cut_procedure : broken (words (7 ∷ 0 ∷ 2 ∷ 100003 ∷ 3 ∷ []) ++ zeros 3) ≡ fault 8 20
  pub cut_flavor : broken (words (7 ∷ 0 ∷ 2 ∷ 100003 ∷ 3 ∷ 0 ∷ []) ++ zeros 1) ≡ fault 8 24
  pub cut_length : broken (to_credential ++ zeros 3) ≡ fault 8 28
  -- "of variable length: its length word": a body or its padding that is cut
  pub cut_body : broken (to_credential ++ words (400 ∷ []) ++ zeros 399) ≡ fault 8 28
  pub cut_padding : broken (to_credential ++ words (5 ∷ []) ++ zeros 7) ≡ fault 8 28
  pub cut_verifier : broken (to_credential ++ opaque_bytes (1 ∷ 2 ∷ 3 ∷ 4 ∷ 5 ∷ []) ++ zeros 2) ≡ fault 8 40
  pub cut_verifier_body : broken (to_verifier ++ words (1 ∷ []) ++ zeros 3) ≡ fault 8 36
  -- "9 for an overlong credential or verifier": "an overlong length before a cut", also if the bytes are there
  pub long_credential : served (to_credential ++ words (401 ∷ []) ++ zeros 412) root_alone ≡ refuse (fault 9 28) space root_alone
  pub long_alone : broken (to_credential ++ words (0xFFFFFFFF ∷ [])) ≡ fault 9 28
  pub long_verifier : broken (to_verifier ++ words (401 ∷ []) ++ zeros 9) ≡ fault 9 36
  -- a length word that is cut is no length
  pub cut_long : broken (to_credential ++ (0xFF ∷ 0xFF ∷ 0xFF ∷ [])) ≡ fault 8 28
  -- "The first faulty field in reading order decides", and the header before what it says
  pub first_decides : broken (words (7 ∷ 0 ∷ 2 ∷ 100003 ∷ 3 ∷ 0 ∷ 0 ∷ 401 ∷ 0 ∷ 500 ∷ [])) ≡ fault 9 28
  pub before_program : broken (words (7 ∷ 0 ∷ 2 ∷ 100004 ∷ 9 ∷ 99 ∷ 0 ∷ 401 ∷ [])) ≡ fault 9 28
  -- "in all other cases it is 0": a call of another RPC version or program, whatever follows
  pub other_rpc : broken (words (7 ∷ 0 ∷ 3 ∷ []) ++ zeros 1) ≡ fault 0 0
  pub other_program : broken (words (7 ∷ 0 ∷ 2 ∷ 100004 ∷ 3 ∷ 0 ∷ 0 ∷ 0 ∷ 0 ∷ 0 ∷ []) ++ zeros 5) ≡ fault 0 0

pub broken_headers : BrokenHeaders
unfolding computing
broken_headers =
    record {
      nothing = refl;
      under_eight = refl;
      a_reply = refl;
      type_alone = refl;
      no_version = refl;
      cut_version = refl;
      cut_program = refl;
      cut_procedure = refl;
      cut_flavor = refl;
      cut_length = refl;
      cut_body = refl;
      cut_padding = refl;
      cut_verifier = refl;
      cut_verifier_body = refl;
      long_credential = refl;
      long_alone = refl;
      long_verifier = refl;
      cut_long = refl;
      first_decides = refl;
      before_program = refl;
      other_rpc = refl;
      other_program = refl;
    }

-- a call that is answered GARBAGE_ARGS, with this offset, and leaves the store
abbrev pub GarbageAt : ℕ → List ℕ → Type 0
GarbageAt offset call = served call root_alone ≡ replied_at offset garbage root_alone

pub record BrokenArguments : Type 0 where
  -- "the first byte left over, if that is the fault": behind a header without arguments, and behind a handle
  pub null_left_over : GarbageAt 40 (call_to 0 (zeros 1))
  pub handle_left_over : GarbageAt 56 (call_to 1 (handle_to 0 ++ zeros 5))
  -- "the innermost XDR item; of variable length: its length word": a handle that is not there, cut, or over 64 bytes
  pub no_handle : GarbageAt 40 (call_to 1 [])
  pub cut_handle : GarbageAt 40 (call_to 1 (words (12 ∷ 9 ∷ 0 ∷ []) ++ zeros 3))
  pub long_handle : GarbageAt 40 (call_to 1 (words (65 ∷ []) ++ zeros 68))
  pub cut_name : GarbageAt 56 (call_to 3 (handle_to 0 ++ words (1 ∷ []) ++ zeros 3))
  pub cut_second_name : GarbageAt 80 (call_to 14 (handle_to 0 ++ opaque_bytes (0x61 ∷ []) ++ handle_to 0 ++ words (4 ∷ []) ++ zeros 3))
  -- numbers of 32 and of 64 bits; 8 bytes of a verifier
  pub cut_offset : GarbageAt 56 (call_to 6 (handle_to 0 ++ zeros 7))
  pub cut_count : GarbageAt 64 (call_to 6 (handle_to 0 ++ zeros 11))
  pub cut_verifier : GarbageAt 68 (call_to 8 (handle_to 0 ++ opaque_bytes (0x61 ∷ []) ++ words (2 ∷ []) ++ zeros 7))
  -- an enum, a boolean, a discriminant out of range; "a time is two"
  pub unknown_stable : GarbageAt 68 (call_to 7 (handle_to 0 ++ words (0 ∷ 0 ∷ 1 ∷ 3 ∷ [])))
  pub boolean_two : GarbageAt 60 (call_to 2 (handle_to 0 ++ words (0 ∷ 2 ∷ [])))
  pub unknown_manner : GarbageAt 72 (call_to 2 (handle_to 0 ++ words (0 ∷ 0 ∷ 0 ∷ 0 ∷ 3 ∷ [])))
  pub cut_nanoseconds : GarbageAt 80 (call_to 2 (handle_to 0 ++ words (0 ∷ 0 ∷ 0 ∷ 0 ∷ 2 ∷ 5 ∷ []) ++ zeros 3))
  -- a handle that is read is judged only where all arguments are of their types
  pub before_status : GarbageAt 48 (call_to 4 (words (4 ∷ 0 ∷ []) ++ zeros 1))
  -- "in all other cases it is 0": arguments that stay unread, and an error status
  pub unread : broken (call_to 10 (zeros 7)) ≡ fault 0 0
  pub error_status : served (call_to 1 (words (0 ∷ []))) root_alone ≡ replied (answered (10001 ∷ [])) root_alone

pub broken_arguments : BrokenArguments
unfolding computing
broken_arguments =
    record {
      null_left_over = refl;
      handle_left_over = refl;
      no_handle = refl;
      cut_handle = refl;
      long_handle = refl;
      cut_name = refl;
      cut_second_name = refl;
      cut_offset = refl;
      cut_count = refl;
      cut_verifier = refl;
      unknown_stable = refl;
      boolean_two = refl;
      unknown_manner = refl;
      cut_nanoseconds = refl;
      before_status = refl;
      unread = refl;
      error_status = refl;
    }
