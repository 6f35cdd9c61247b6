-- Where reading stops: the position after a value, and the place of a refusal, lie within the call, and not before the start; arguments are refused at
-- byte 40 or later. Assumes nothing.
use Prim.Native.Nat.{ℕ, ◌+◌, ◌≤◌}
use mathlib.Core.Bool.{Bool, true, false}
use mathlib.Core.List.{List}
use mathlib.Core.Path.{◌≡◌, refl, ap}
use native.Mathlib.Omega.{arith}
use lib.Dec.{leb, eqb}
use lib.ListN.{length}
use borrow.Author.Tests.{leb-true}
use Rattle.kinds.specs.Numbers.{most_credential_bytes, most_handle_bytes}
use Rattle.kinds.specs.Reading.{Read, got, bad, place_of}
use Rattle.kinds.specs.declared.call.Part.{Part}
use Rattle.kinds.specs.declared.call.NameIn.{NameIn}
use Rattle.kinds.specs.declared.call.Credential.{Credential}
use Rattle.kinds.specs.declared.call.CallHeader.{CallHeader}
use Rattle.kinds.specs.declared.call.Header.{Header}
use Rattle.kinds.specs.declared.call.Header.TheVariants as Header
use Rattle.kinds.specs.declared.call.Arguments.{Arguments}
use Rattle.kinds.specs.declared.call.Arguments.TheVariants as Call
use Rattle.spec.specs.Arguments.{handle, unbounded, name_in, handle_then, name_then, formed, whole, arguments}
use Rattle.spec.specs.Bytes.{padding}
use Rattle.spec.specs.Header.{credential, call_header, header}
use Rattle.spec.specs.Xdr.{Reader, bind, ◌>>=◌, only_if, placed, item, field, done, check, number, word, choice, bytes, opaque, no_maximum, end}
use Rattle.laws.proofs.Arguments.{Rows, by_procedure}
use Rattle.laws.proofs.Count.{by_bool}
use Rattle.laws.proofs.Readers.{Built, of_cond, of_word, of_long, of_choice, of_settable, of_guard, of_how}
use Rattle.laws.proofs.Xdr.{same_end, bind_got, only_if_got, placed_got, word_got, opaque_read}

pub record Inside {A : Type 0} (p : Reader A) : Type 0 where
  pub place : (s : List ℕ) (at : ℕ) → at ≤ length s → place_of (p s at) ≤ length s
  pub ahead : (s : List ℕ) (at : ℕ) → at ≤ place_of (p s at)

-- ---- the ways to build a reader
pub inside_then : {A B : Type 0} {p : Reader A} {k : A → Reader B} → Inside p → ((a : A) → Inside (k a)) → Inside (p >>= k)
inside_then {A} {B} {p} {k} f g =
    record { place = λ s at l. from s (p s at) (f.place s at l); ahead = λ s at. onward s at (p s at) (f.ahead s at) }
  where
    from : (s : List ℕ) (r : Read A) → place_of r ≤ length s → place_of (bind r (λ a next. k a s next)) ≤ length s
    from s (got a next) m = (g a).place s next m
    from s (bad q) m = m

    onward : (s : List ℕ) (at : ℕ) (r : Read A) → at ≤ place_of r → at ≤ place_of (bind r (λ a next. k a s next))
    onward s at (got a next) m = let h = (g a).ahead s next in omega arith
    onward s at (bad q) m = m

inside_item : {A : Type 0} {p : Reader A} → Inside p → Inside (item p)
inside_item {A} {p} f = record { place = λ s at l. from s at l (p s at) (f.place s at l); ahead = λ s at. onward at (p s at) (f.ahead s at) }
  where
    from : (s : List ℕ) (at : ℕ) → at ≤ length s → (r : Read A) → place_of r ≤ length s → place_of (placed at r) ≤ length s
    from s at l (got a next) m = m
    from s at l (bad q) m = l

    onward : (at : ℕ) (r : Read A) → at ≤ place_of r → at ≤ place_of (placed at r)
    onward at (got a next) m = m
    onward at (bad q) m = omega arith

inside_field : {A : Type 0} (n : ℕ) (f : List ℕ → ℕ → A) → Inside (field n f)
inside_field {A} n f =
    record { place = λ s at l. tested s at l (leb (at + n) (length s)) refl; ahead = λ s at. onward s at (leb (at + n) (length s)) }
  where
    tested : (s : List ℕ) (at : ℕ) → at ≤ length s → (b : Bool) → leb (at + n) (length s) ≡ b
        → place_of (only_if b at (got (f s at) (at + n))) ≤ length s
    tested s at l true e = leb-true (at + n) (length s) e
    tested s at l false e = l

    onward : (s : List ℕ) (at : ℕ) (b : Bool) → at ≤ place_of (only_if b at (got (f s at) (at + n)))
    onward s at true = omega arith
    onward s at false = omega arith

-- a test reads nothing
here : {A : Type 0} (a : A) (b : Bool) (at : ℕ) → place_of (only_if b at (got a at)) ≡ at
here a true at = refl
here a false at = refl

inside_number : (w : ℕ) → Inside (number w)
unfolding number
inside_number w = inside_field w _

inside_bytes : (n : ℕ) → Inside (bytes n)
unfolding bytes
inside_bytes n = inside_field n _

abbrev pub InsideOf : (A : Type 0) → Reader A → Type 0
InsideOf A p = Inside p

pub built : Built InsideOf
built =
    record {
      of_done = λ a. record { place = λ s at l. l; ahead = λ s at. omega arith };
      of_then = inside_then;
      of_item = inside_item;
      of_number = inside_number;
      of_check = λ b. record { place = λ s at l. rw (here (tt {0}) b at) l; ahead = λ s at. rw (here (tt {0}) b at) (omega arith) };
    }

pub inside_end : Inside end
unfolding end
inside_end =
    record { place = λ s at l. rw (here (tt {0}) (eqb at (length s)) at) l; ahead = λ s at. rw (here (tt {0}) (eqb at (length s)) at) (omega arith) }

pub inside_opaque : (most : ℕ) → Inside (opaque most)
unfolding opaque
inside_opaque most =
    inside_item (inside_then (of_word InsideOf built) (λ n.
    inside_then (built.of_check (leb n most)) (λ _.
    inside_then (inside_bytes n) (λ part. inside_then (inside_bytes (padding n)) (λ _. built.of_done part)))))

-- ---- the header
inside_credential : Inside credential
unfolding credential
inside_credential =
    inside_then (of_word InsideOf built) (λ flavor. inside_then (inside_opaque most_credential_bytes) (λ body. built.of_done _))

inside_call_header : (xid : ℕ) → Inside (call_header xid)
unfolding call_header
inside_call_header xid =
    inside_then (of_word InsideOf built) (λ program.
    inside_then (of_word InsideOf built) (λ version.
    inside_then (of_word InsideOf built) (λ procedure.
    inside_then inside_credential (λ cred. inside_then inside_credential (λ verf. built.of_done _)))))

pub inside_header : Inside header
unfolding header
inside_header =
    inside_then (of_word InsideOf built) (λ xid.
    inside_then (of_choice InsideOf built 0) (λ type.
    inside_then (of_word InsideOf built) (λ rpc.
    of_cond InsideOf built (eqb rpc 2) (inside_call_header xid) (built.of_done (Header.OtherVersion xid)))))

-- ---- the arguments
inside_handle : Inside handle
unfolding handle
inside_handle = inside_opaque most_handle_bytes

inside_unbounded : Inside unbounded
unfolding unbounded
inside_unbounded = inside_opaque no_maximum

inside_name : Inside name_in
unfolding name_in
inside_name = inside_then inside_handle (λ directory. inside_then inside_unbounded (λ name. built.of_done _))

-- the last field, and then the end of the call
inside_last : {A : Type 0} {p : Reader A} (make : A → Arguments) → Inside p → Inside (p >>= (λ a. done (make a)))
inside_last make f = inside_then f (λ a. built.of_done (make a))

inside_whole : {p : Reader Arguments} → Inside p → Inside (whole p)
inside_whole f = inside_then f (λ a. inside_then inside_end (λ _. built.of_done a))

by_handle : (rest : Part → Reader Arguments) → ((object : Part) → Inside (rest object)) → Inside (formed (handle_then rest))
by_handle rest f = inside_whole (inside_then inside_handle f)

by_name : (rest : NameIn → Reader Arguments) → ((place : NameIn) → Inside (rest place)) → Inside (formed (name_then rest))
by_name rest f = inside_whole (inside_then inside_name f)

rows : Rows (λ p f. Inside (formed f))
rows =
    let w = of_word InsideOf built in
    let l = of_long InsideOf built in
    record {
      null = inside_whole (built.of_done Call.Null);
      getattr = by_handle _ (λ object. built.of_done _);
      setattr = by_handle _ (λ object. inside_then (of_settable InsideOf built) (λ a. inside_last (Call.Setattr object a) (of_guard InsideOf built)));
      lookup = by_name _ (λ place. built.of_done _);
      access = by_handle _ (λ object. inside_last (Call.Access object) w);
      read = by_handle _ (λ file. inside_then l (λ offset. inside_last (Call.Read file offset) w));
      write = by_handle _ (λ file.
          inside_then l (λ offset.
          inside_then w (λ count. inside_then (of_choice InsideOf built 2) (λ stable. inside_last (Call.Write file offset count) inside_unbounded))));
      create = by_name _ (λ place. inside_last (Call.Create place) (of_how InsideOf built));
      mkdir = by_name _ (λ place. inside_last (Call.Mkdir place) (of_settable InsideOf built));
      remove = by_name _ (λ place. built.of_done _);
      rmdir = by_name _ (λ place. built.of_done _);
      rename = by_name _ (λ old. inside_last (Call.Rename old) inside_name);
      link = by_handle _ (λ file. inside_last (Call.Link file) inside_name);
      readdir = by_handle _ (λ directory.
          inside_then l (λ cookie. inside_then l (λ verifier. inside_last (Call.Readdir directory cookie verifier) w)));
      fsstat = by_handle _ (λ object. built.of_done _);
      fsinfo = by_handle _ (λ object. built.of_done _);
      pathconf = by_handle _ (λ object. built.of_done _);
      commit = by_handle _ (λ file. inside_then l (λ offset. inside_last (λ count. Call.Commit file) w));
      others = λ p. built.of_done Call.Unserved;
    }

pub inside_arguments : (p : ℕ) → Inside (arguments p)
unfolding arguments
inside_arguments p = by_procedure (λ q f. Inside (formed f)) rows p

-- ---- a header that was read has 40 bytes or more: ten words, and the bodies of credential and verifier
credential_long : (s : List ℕ) (at : ℕ) (c : Credential) (q : ℕ) → credential s at ≡ got c q → at + 8 ≤ q
unfolding credential
credential_long s at c q e =
    bind_got (word s at) _ c q e (λ flavor a₁ e₁ f₁.
    bind_got (opaque most_credential_bytes s a₁) _ c q f₁ (λ body a₂ e₂ f₂.
    let read = opaque_read most_credential_bytes s a₁ body a₂ e₂ in
    omega (
      arith,
      (word_got s at flavor a₁ e₁).2,
      (word_got s a₁ read.n read.start read.length_read_lem).2,
      read.ends,
      same_end _ _ _ _ f₂,
    )))

rest_long : (xid : ℕ) (s : List ℕ) (at : ℕ) (h : Header) (q : ℕ) → call_header xid s at ≡ got h q → at + 28 ≤ q
unfolding call_header
rest_long xid s at h q e =
    bind_got (word s at) _ h q e (λ program a₁ e₁ f₁.
    bind_got (word s a₁) _ h q f₁ (λ version a₂ e₂ f₂.
    bind_got (word s a₂) _ h q f₂ (λ procedure a₃ e₃ f₃.
    bind_got (credential s a₃) _ h q f₃ (λ cred a₄ e₄ f₄.
    bind_got (credential s a₄) _ h q f₄ (λ verf a₅ e₅ f₅.
    omega (
      arith,
      (word_got s at program a₁ e₁).2,
      (word_got s a₁ version a₂ e₂).2,
      (word_got s a₂ procedure a₃ e₃).2,
      credential_long s a₃ cred a₄ e₄,
      credential_long s a₄ verf a₅ e₅,
      same_end _ _ _ _ f₅,
    ))))))

choice_long : (s : List ℕ) (at n next : ℕ) → choice 0 s at ≡ got n next → next ≡ at + 4
unfolding choice
choice_long s at n next w =
    bind_got (word s at) _ n next (placed_got at _ n next w) (λ v a₁ e₁ f₁.
    bind_got (check (leb v 0) s a₁) _ n next f₁ (λ _ a₂ e₂ f₂.
    omega (
      arith,
      (word_got s at v a₁ e₁).2,
      only_if_got (leb v 0) _ _ _ _ e₂ (λ _ here. same_end _ _ _ _ here),
      same_end _ _ _ _ f₂,
    )))

pub header_long : (call : List ℕ) (h : CallHeader) (q : ℕ) → header call 0 ≡ got (Header.Call h) q → 40 ≤ q
unfolding header
header_long call h q e =
    bind_got (word call 0) _ (Header.Call h) q e (λ xid a₁ e₁ f₁.
    bind_got (choice 0 call a₁) _ (Header.Call h) q f₁ (λ type a₂ e₂ f₂.
    bind_got (word call a₂) _ (Header.Call h) q f₂ (λ rpc a₃ e₃ f₃.
    by_bool (eqb rpc 2)
    (λ t.
    let k = rest_long xid call a₃ (Header.Call h) q (rw t at f₃) in
    let m = choice_long call a₁ type a₂ e₂ in
    omega (arith, (word_got call 0 xid a₁ e₁).2, (word_got call a₂ rpc a₃ e₃).2))
    (λ t. absurd (apart xid a₃ (rw t at f₃))))))
  where
    apart : (xid p : ℕ) → got (Header.OtherVersion xid) p ≡ got (Header.Call h) q → ⊥
    apart xid p w = let z : ◌≡◌ {A = ℕ} 0 1 = cc in omega arith

-- so with GARBAGE_ARGS the offset is never 0
pub refused_behind : (call : List ℕ) (h : CallHeader) (at p : ℕ) → header call 0 ≡ got (Header.Call h) at → arguments h.procedure call at ≡ bad p → 40 ≤ p
refused_behind call h at p e f = omega (arith, header_long call h at e, (inside_arguments h.procedure).ahead call at, ap place_of f)
