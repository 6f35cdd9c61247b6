-- The readers of the header and of the arguments do not look at padding. Assumes nothing.
use Prim.Native.Nat.{ℕ}
use mathlib.Core.List.{List, [], ◌∷◌, ◌++◌, append_assoc}
use mathlib.Core.Path.{◌≡◌, refl}
use lib.Dec.{eqb}
use lib.ListN.{length}
use Rattle.kinds.specs.Numbers.{most_credential_bytes, most_handle_bytes}
use Rattle.kinds.specs.declared.call.Part.{Part}
use Rattle.kinds.specs.declared.call.NameIn.{NameIn}
use Rattle.kinds.specs.declared.call.Header.{Header}
use Rattle.kinds.specs.declared.call.Header.TheVariants as Header
use Rattle.kinds.specs.declared.call.Arguments.{Arguments}
use Rattle.kinds.specs.declared.call.Arguments.TheVariants as Call
use Rattle.spec.specs.Arguments.{handle, unbounded, name_in, settable, guard, how}
use Rattle.spec.specs.Arguments.{setattr_arguments, access_arguments, read_arguments, write_arguments, create_arguments, mkdir_arguments, rename_arguments}
use Rattle.spec.specs.Arguments.{link_arguments, readdir_arguments, commit_arguments, alone, handle_then, name_then, formed, whole, arguments}
use Rattle.spec.specs.Header.{credential, call_header, header}
use Rattle.spec.specs.Xdr.{Reader, ◌>>=◌, done, word, long, choice, end, no_maximum}
use Rattle.laws.proofs.Arguments.{Rows, by_procedure}
use Rattle.laws.proofs.Readers.{of_word, of_long, of_choice, of_settable, of_guard, of_how}
use Rattle.laws_padding.specs.Fields.{Fields, no_fields, behind, opaque_field, credential_fields, call_header_fields, header_fields, name_in_fields, data_fields}
use Rattle.laws_padding.specs.Fields.{formed_fields, argument_fields, name_parts, argument_parts, header_parts}
use Rattle.laws_padding.proofs.ReadsAlike.{ReadsAlike, Plain, alike_done, alike_then, alike_plain, alike_cond, plain_end, PlainOf, plain}
use Rattle.laws_padding.proofs.Opaque.{alike_opaque}

module _ (s t : List ℕ) (same : length t ≡ length s) where
  -- ---- readers of what has no padding
  plain_word : Plain s t same word
  plain_word = of_word (PlainOf s t same) (plain s t same)

  plain_long : Plain s t same long
  plain_long = of_long (PlainOf s t same) (plain s t same)

  plain_choice : (top : ℕ) → Plain s t same (choice top)
  plain_choice top = of_choice (PlainOf s t same) (plain s t same) top

  plain_settable : Plain s t same settable
  plain_settable = of_settable (PlainOf s t same) (plain s t same)

  plain_guard : Plain s t same guard
  plain_guard = of_guard (PlainOf s t same) (plain s t same)

  plain_how : Plain s t same how
  plain_how = of_how (PlainOf s t same) (plain s t same)

  -- ---- a field without padding, and then others
  alike_behind : {A B : Type 0} {p : Reader A} {k : A → Reader B} {K : A → Fields} {before : List Part} {parts : B → List Part}
      → Plain s t same p → ((a : A) → ReadsAlike s t (k a) (K a) before parts)
      → ReadsAlike s t (p >>= k) (λ call at. behind (p call at) (λ a next. K a call next)) before parts
  alike_behind {p} {k} {K} {before} {parts} f g = alike_then s t same p k no_fields K before (λ _. before) parts (f before) g

  -- ---- the header
  alike_credential : (before : List Part) → ReadsAlike s t credential credential_fields before (λ c. before ++ (c.body ∷ []))
  unfolding credential credential_fields
  alike_credential before =
      alike_behind plain_word (λ flavor.
      alike_plain s t same _ _ (opaque_field most_credential_bytes) before (λ f. before ++ (f ∷ [])) (λ c. before ++ (c.body ∷ []))
      (alike_opaque s t same most_credential_bytes before) (λ body. alike_done s t same _ _ _ refl))

  alike_call_header : (xid : ℕ) → ReadsAlike s t (call_header xid) call_header_fields [] header_parts
  unfolding call_header call_header_fields
  alike_call_header xid =
      alike_behind plain_word (λ program.
      alike_behind plain_word (λ version.
      alike_behind plain_word (λ procedure.
      alike_then s t same credential _ credential_fields (λ cred. credential_fields) [] (λ c. c.body ∷ []) header_parts (alike_credential []) (λ cred.
      alike_plain s t same credential _ credential_fields (cred.body ∷ []) (λ verf. cred.body ∷ verf.body ∷ []) header_parts
      (alike_credential (cred.body ∷ [])) (λ verf. alike_done s t same _ _ header_parts refl)))))

  pub alike_header : ReadsAlike s t header header_fields [] header_parts
  unfolding header header_fields
  alike_header =
      alike_behind plain_word (λ xid.
      alike_behind (plain_choice 0) (λ type.
      alike_behind plain_word (λ rpc.
      alike_cond s t same (eqb rpc 2) (call_header xid) (done (Header.OtherVersion xid)) call_header_fields no_fields [] header_parts
      (alike_call_header xid) (alike_done s t same (Header.OtherVersion xid) [] header_parts refl))))

  -- ---- the arguments
  alike_handle : (before : List Part) → ReadsAlike s t handle (opaque_field most_handle_bytes) before (λ f. before ++ (f ∷ []))
  unfolding handle
  alike_handle before = alike_opaque s t same most_handle_bytes before

  alike_unbounded : (before : List Part) → ReadsAlike s t unbounded (opaque_field no_maximum) before (λ f. before ++ (f ∷ []))
  unfolding unbounded
  alike_unbounded before = alike_opaque s t same no_maximum before

  alike_name : (before : List Part) → ReadsAlike s t name_in name_in_fields before (λ x. before ++ name_parts x)
  unfolding name_in name_in_fields
  alike_name before =
      alike_then s t same handle _ (opaque_field most_handle_bytes) (λ d. opaque_field no_maximum) before (λ d. before ++ (d ∷ [])) (λ x. before ++ name_parts x)
      (alike_handle before) (λ d.
      alike_plain s t same unbounded _ (opaque_field no_maximum) (before ++ (d ∷ [])) (λ n. (before ++ (d ∷ [])) ++ (n ∷ [])) (λ x. before ++ name_parts x)
      (alike_unbounded (before ++ (d ∷ []))) (λ n. alike_done s t same _ _ _ (append_assoc before (d ∷ []) (n ∷ []))))

  -- what is read without padding, and is put together with what was read before
  alike_last : {A : Type 0} {p : Reader A} (make : A → Arguments) (before : List Part) → ((a : A) → before ≡ argument_parts (make a)) → Plain s t same p
      → ReadsAlike s t (p >>= (λ a. done (make a))) no_fields before argument_parts
  alike_last {p} make before e f =
      alike_plain s t same p _ no_fields before (λ _. before) argument_parts (f before) (λ a. alike_done s t same (make a) before argument_parts (e a))

  -- the end of the call comes last
  alike_whole : {p : Reader Arguments} {F : Fields} → ReadsAlike s t p F [] argument_parts → ReadsAlike s t (whole p) F [] argument_parts
  alike_whole {p} {F} f =
      alike_plain s t same p _ F [] argument_parts argument_parts f (λ a.
      alike_plain s t same end _ no_fields (argument_parts a) (λ _. argument_parts a) argument_parts (plain_end s t same (argument_parts a)) (λ _.
      alike_done s t same a (argument_parts a) argument_parts refl))

  by_handle : (rest : Part → Reader Arguments) (later : Fields) → ((object : Part) → ReadsAlike s t (rest object) later (object ∷ []) argument_parts)
      → ReadsAlike s t (formed (handle_then rest))
      (λ call at. opaque_field most_handle_bytes call at ++ behind (handle call at) (λ object next. later call next)) []
      argument_parts
  by_handle rest later f =
      alike_whole (alike_then s t same handle rest (opaque_field most_handle_bytes) (λ object. later) [] (λ object. object ∷ []) argument_parts (alike_handle []) f)

  by_name : (rest : NameIn → Reader Arguments) (later : Fields) → ((place : NameIn) → ReadsAlike s t (rest place) later (name_parts place) argument_parts)
      → ReadsAlike s t (formed (name_then rest)) (λ call at. name_in_fields call at ++ behind (name_in call at) (λ place next. later call next)) []
      argument_parts
  by_name rest later f = alike_whole (alike_then s t same name_in rest name_in_fields (λ place. later) [] name_parts argument_parts (alike_name []) f)

  -- a handle or a name alone
  object_alone : (make : Part → Arguments) → ((object : Part) → object ∷ [] ≡ argument_parts (make object))
      → ReadsAlike s t (formed (handle_then (alone make))) (λ call at. opaque_field most_handle_bytes call at ++ behind (handle call at) (λ object next. [])) []
      argument_parts
  object_alone make e = by_handle (alone make) no_fields (λ object. alike_done s t same (make object) (object ∷ []) argument_parts (e object))

  name_alone : (make : NameIn → Arguments) → ((place : NameIn) → name_parts place ≡ argument_parts (make place))
      → ReadsAlike s t (formed (name_then (alone make))) (λ call at. name_in_fields call at ++ behind (name_in call at) (λ place next. [])) [] argument_parts
  name_alone make e = by_name (alone make) no_fields (λ place. alike_done s t same (make place) (name_parts place) argument_parts (e place))

  write_data : (file : Part) → ReadsAlike s t (write_arguments file) data_fields (file ∷ []) argument_parts
  unfolding data_fields
  write_data file =
      alike_behind plain_long (λ offset.
      alike_behind plain_word (λ count.
      alike_behind (plain_choice 2) (λ stable.
      alike_plain s t same unbounded _ (opaque_field no_maximum) (file ∷ []) (λ bytes. file ∷ bytes ∷ []) argument_parts (alike_unbounded (file ∷ [])) (λ bytes.
      alike_done s t same (Call.Write file offset count bytes) _ argument_parts refl))))

  -- a name that comes last
  name_last : (make : NameIn → Arguments) (before : List Part) → ((place : NameIn) → before ++ name_parts place ≡ argument_parts (make place))
      → ReadsAlike s t (name_in >>= (λ place. done (make place))) name_in_fields before argument_parts
  name_last make before e =
      alike_plain s t same name_in _ name_in_fields before (λ place. before ++ name_parts place) argument_parts (alike_name before) (λ place.
      alike_done s t same (make place) _ argument_parts (e place))

  rows : Rows (λ p f. ReadsAlike s t (formed f) (formed_fields p f) [] argument_parts)
  rows =
      record {
        null = alike_whole (alike_done s t same Call.Null [] argument_parts refl);
        getattr = object_alone Call.Getattr (λ object. refl);
        setattr = by_handle setattr_arguments no_fields (λ object.
            alike_plain s t same settable _ no_fields (object ∷ []) (λ _. object ∷ []) argument_parts (plain_settable (object ∷ [])) (λ a.
            alike_last (Call.Setattr object a) (object ∷ []) (λ given. refl) plain_guard));
        lookup = name_alone Call.Lookup (λ place. refl);
        access = by_handle access_arguments no_fields (λ object. alike_last (Call.Access object) (object ∷ []) (λ bits. refl) plain_word);
        read = by_handle read_arguments no_fields (λ file.
            alike_plain s t same long _ no_fields (file ∷ []) (λ _. file ∷ []) argument_parts (plain_long (file ∷ [])) (λ offset.
            alike_last (Call.Read file offset) (file ∷ []) (λ count. refl) plain_word));
        write = by_handle write_arguments data_fields write_data;
        create = by_name create_arguments no_fields (λ place. alike_last (Call.Create place) (name_parts place) (λ manner. refl) plain_how);
        mkdir = by_name mkdir_arguments no_fields (λ place. alike_last (Call.Mkdir place) (name_parts place) (λ a. refl) plain_settable);
        remove = name_alone Call.Remove (λ place. refl);
        rmdir = name_alone Call.Rmdir (λ place. refl);
        rename = by_name rename_arguments name_in_fields (λ old. name_last (Call.Rename old) (name_parts old) (λ new. refl));
        link = by_handle link_arguments name_in_fields (λ file. name_last (Call.Link file) (file ∷ []) (λ place. refl));
        readdir = by_handle readdir_arguments no_fields (λ directory.
            alike_plain s t same long _ no_fields (directory ∷ []) (λ _. directory ∷ []) argument_parts (plain_long (directory ∷ [])) (λ cookie.
            alike_plain s t same long _ no_fields (directory ∷ []) (λ _. directory ∷ []) argument_parts (plain_long (directory ∷ [])) (λ verifier.
            alike_last (Call.Readdir directory cookie verifier) (directory ∷ []) (λ count. refl) plain_word)));
        fsstat = object_alone Call.Fsstat (λ object. refl);
        fsinfo = object_alone Call.Fsinfo (λ object. refl);
        pathconf = object_alone Call.Pathconf (λ object. refl);
        commit = by_handle commit_arguments no_fields (λ file.
            alike_plain s t same long _ no_fields (file ∷ []) (λ _. file ∷ []) argument_parts (plain_long (file ∷ [])) (λ offset.
            alike_last (λ count. Call.Commit file) (file ∷ []) (λ count. refl) plain_word));
        others = λ p. alike_done s t same Call.Unserved [] argument_parts refl;
      }

  pub alike_arguments : (p : ℕ) → ReadsAlike s t (arguments p) (argument_fields p) [] argument_parts
  unfolding arguments argument_fields
  alike_arguments p = by_procedure (λ q f. ReadsAlike s t (formed f) (formed_fields q f) [] argument_parts) rows p
