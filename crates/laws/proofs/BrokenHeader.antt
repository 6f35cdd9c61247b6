-- What the answer to a call whose header cannot be read tells of it: which field is at fault, and why. Assumes nothing.
use Prim.Native.Nat.{ℕ, ◌+◌, ◌≤◌, ◌<◌}
use native.Mathlib.Omega.{arith}
use mathlib.Core.List.{List}
use mathlib.Core.Path.{◌≡◌, refl, sym, ap, subst, ◌∙◌}
use lib.Dec.{leb, eqb}
use lib.ListN.{length}
use borrow.Author.Tests.{leb-true, leb-false, lt-ltb, le-ltb, le-leb, lt-leb, eq-eqb, ne_eqb}
use Rattle.kinds.specs.Numbers.{most_credential_bytes}
use Rattle.kinds.specs.Reading.{Read, got, bad}
use Rattle.kinds.specs.declared.call.Credential.{Credential}
use Rattle.kinds.specs.declared.call.Header.TheVariants as Header
use Rattle.kinds.specs.declared.call.Part.{Part}
use Rattle.kinds.specs.declared.numbers.Fault.{Fault}
use Rattle.spec.specs.Bytes.{be_at, padding}
use Rattle.spec.specs.Header.{credential, call_header, header, fault, header_fault}
use Rattle.spec.specs.Xdr.{bind, word, choice, bytes, opaque}
use Rattle.laws.proofs.Count.{by_bool}
use Rattle.laws.proofs.Xdr.{never, same_place, word_cases, word_got, opaque_bad, opaque_read}

-- where the length words of a header start: that of the credential, and behind the credential and its flavor that of the verifier
pub data LengthWord (call : List ℕ) : ℕ → Type 0 where
  of_credential : LengthWord call 28
  of_verifier : (c : Credential) (v : ℕ) → credential call 24 ≡ got c v → LengthWord call (v + 4)

-- a header that is refused at p, and its answer
pub data Broken (call : List ℕ) (p : ℕ) : Fault → Type 0 where
  -- "5 for under 8 bytes"
  short : length call < 8 → Broken call p (fault 5 0)
  -- "7 for a message type other than 0"
  other_type : 8 ≤ length call → 0 < be_at call 4 4 → Broken call p (fault 7 0)
  -- "8 for a header cut short": a word behind the message type, or the body or the padding of a length that is allowed
  cut_word : be_at call 4 4 ≡ 0 → 8 ≤ p → p ≤ length call → length call < p + 4 → Broken call p (fault 8 p)
  cut_body : be_at call 4 4 ≡ 0 → LengthWord call p → p + 4 ≤ length call → be_at call p 4 ≤ most_credential_bytes
      → length call < p + 4 + be_at call p 4 + padding (be_at call p 4) → Broken call p (fault 8 p)
  -- "9 for an overlong credential or verifier", "an overlong length before a cut"
  overlong : be_at call 4 4 ≡ 0 → LengthWord call p → p + 4 ≤ length call → most_credential_bytes < be_at call p 4 → Broken call p (fault 9 p)

-- ---- fields by cases
module _ {P : Type 0} (s : List ℕ) (at : ℕ) where
  opaque_cases : (most q : ℕ) → opaque most s at ≡ bad q → (length s < at + 4 → P) → (at + 4 ≤ length s → most < be_at s at 4 → P)
      → (at + 4 ≤ length s → be_at s at 4 ≤ most → length s < at + 4 + be_at s at 4 + padding (be_at s at 4) → P) → P
  unfolding opaque bytes
  opaque_cases most q e cut over within =
      let n = be_at s at 4 in
      word_cases s at (λ l _. cut l) (λ l w.
      by_bool (leb n most)
      (λ t. by_bool (leb (at + 4 + n) (length s))
      (λ u. by_bool (leb (at + 4 + n + padding n) (length s))
      (λ v.
      let whole : got (record { start = at + 4; length = n }) (at + 4 + n + padding n) ≡ bad q = rw (w, t, u, v) at e in
      absurd (never q (record { start = at + 4; length = n }) (at + 4 + n + padding n) (sym whole)))
      (λ v. within l (leb-true n most t) (leb-false (at + 4 + n + padding n) (length s) v)))
      (λ u. within l (leb-true n most t) (omega (arith, leb-false (at + 4 + n) (length s) u))))
      (λ t. over l (leb-false n most t)))

-- ---- the answers
module _ (call : List ℕ) (p : ℕ) where
  pub fault_short : length call < 8 → header_fault call p ≡ fault 5 0
  unfolding header_fault
  fault_short l = rw (lt-ltb (length call) 8 l)

  module _ (long : 8 ≤ length call) where
    pub fault_type : p ≡ 4 → header_fault call p ≡ fault 7 0
    unfolding header_fault
    fault_type e = rw (le-ltb (length call) 8 long, eq-eqb p 4 e)

    module _ (behind : p ≡ 4 → ⊥) where
      pub fault_cut : length call < p + 4 → header_fault call p ≡ fault 8 p
      unfolding header_fault
      fault_cut l = rw (le-ltb (length call) 8 long, ne_eqb p 4 behind, lt-leb (p + 4) (length call) l)

      module _ (there : p + 4 ≤ length call) where
        pub fault_overlong : most_credential_bytes < be_at call p 4 → header_fault call p ≡ fault 9 p
        unfolding header_fault
        fault_overlong m =
            rw (le-ltb (length call) 8 long, ne_eqb p 4 behind, le-leb (p + 4) (length call) there, lt-ltb most_credential_bytes (be_at call p 4) m)

        pub fault_allowed : be_at call p 4 ≤ most_credential_bytes → header_fault call p ≡ fault 8 p
        unfolding header_fault
        fault_allowed m =
            rw (le-ltb (length call) 8 long, ne_eqb p 4 behind, le-leb (p + 4) (length call) there, le-ltb most_credential_bytes (be_at call p 4) m)

-- ---- the header
module _ (call : List ℕ) (p : ℕ) where
  -- a word first: it is cut, and refused there, or the rest is refused
  word_then : {B P : Type 0} (at : ℕ) (k : ℕ → ℕ → Read B) → bind (word call at) k ≡ bad p → (length call < at + 4 → at ≡ p → P)
      → (at + 4 ≤ length call → k (be_at call at 4) (at + 4) ≡ bad p → P) → P
  word_then at k e cut there = word_cases call at (λ l w. cut l (same_place at p (rw w at e))) (λ l w. there l (rw w at e))

  -- the message type first
  type_then : {B P : Type 0} (k : ℕ → ℕ → Read B) → bind (choice 0 call 4) k ≡ bad p → (length call < 8 → P) → (8 ≤ length call → 0 < be_at call 4 4 → 4 ≡ p → P)
      → (8 ≤ length call → be_at call 4 4 ≡ 0 → k (be_at call 4 4) 8 ≡ bad p → P) → P
  unfolding choice
  type_then k e cut other there =
      word_cases call 4 (λ l _. cut l) (λ l w.
      by_bool (leb (be_at call 4 4) 0)
      (λ t. there l (omega (arith, leb-true (be_at call 4 4) 0 t)) (rw (w, t) at e))
      (λ t. other l (leb-false (be_at call 4 4) 0 t) (same_place 4 p (rw (w, t) at e))))

  -- a credential first: its flavor is cut, or it is refused at its length word, or the rest is refused
  credential_then : {B P : Type 0} (at : ℕ) (k : Credential → ℕ → Read B) → bind (credential call at) k ≡ bad p → (length call < at + 4 → at ≡ p → P)
      → (at + 4 ≤ length call → opaque most_credential_bytes call (at + 4) ≡ bad (at + 4) → at + 4 ≡ p → P)
      → ((c : Credential) (v : ℕ) → credential call at ≡ got c v → at ≤ v → v ≤ length call → k c v ≡ bad p → P) → P
  unfolding credential
  credential_then {B} {P} at k e cut refused there =
      word_cases call at (λ l w. cut l (same_place at p (rw w at e))) (λ l w. body l w (opaque most_credential_bytes call (at + 4)) refl)
    where
      body : at + 4 ≤ length call → word call at ≡ got (be_at call at 4) (at + 4) → (r : Read Part) → opaque most_credential_bytes call (at + 4) ≡ r → P
      body l w (got f v) o =
          let read = opaque_read most_credential_bytes call (at + 4) f v o in
          there (record { flavor = be_at call at 4; body = f }) v (rw (w, o))
          (omega (arith, (word_got call (at + 4) read.n read.start read.length_read_lem).2, read.ends)) read.fits (rw (w, o) at e)
      body l w (bad q) o =
          let z = opaque_bad most_credential_bytes call (at + 4) q o in
          refused l (o ∙ ap bad (sym z)) (z ∙ same_place q p (rw (w, o) at e))

  Told : Type 0
  Told = Broken call p (header_fault call p)

  told_short : length call < 8 → Told
  unfolding Told
  told_short l = rw (fault_short call p l) (short l)

  told_type : 8 ≤ length call → 0 < be_at call 4 4 → 4 ≡ p → Told
  unfolding Told
  told_type l m e = rw (fault_type call p l (sym e)) (other_type l m)

  module _ (long : 8 ≤ length call) (type : be_at call 4 4 ≡ 0) where
    -- a word that is cut
    told_cut : 8 ≤ p → p ≤ length call → length call < p + 4 → Told
    unfolding Told
    told_cut a b l = rw (fault_cut call p long (λ z. omega arith) l) (cut_word type a b l)

    -- a length word, by cases
    told_length : LengthWord call p → 8 ≤ p → p ≤ length call → opaque most_credential_bytes call p ≡ bad p → Told
    unfolding Told
    told_length w a b e =
        opaque_cases call p most_credential_bytes p e (λ l. told_cut a b l)
        (λ l m. rw (fault_overlong call p long (λ z. omega arith) l m) (overlong type w l m))
        (λ l m k. rw (fault_allowed call p long (λ z. omega arith) l m) (cut_body type w l m k))

    -- the same at a place that is p
    told_length_at : (at : ℕ) → at ≡ p → LengthWord call at → 8 ≤ at → at ≤ length call → opaque most_credential_bytes call at ≡ bad at → Told
    told_length_at at z w a b e =
        told_length (subst (LengthWord call) z w) (omega arith) (omega arith) (subst (λ (q : ℕ). opaque most_credential_bytes call q ≡ bad q) z e)

    told_rest : (xid : ℕ) → 12 ≤ length call → call_header xid call 12 ≡ bad p → Told
    unfolding call_header
    told_rest xid a e =
        word_then 12 _ e (λ l z. told_cut (omega arith) (omega arith) (omega arith)) (λ a₁ e₁.
        word_then 16 _ e₁ (λ l z. told_cut (omega arith) (omega arith) (omega arith)) (λ a₂ e₂.
        word_then 20 _ e₂ (λ l z. told_cut (omega arith) (omega arith) (omega arith)) (λ a₃ e₃.
        credential_then 24 _ e₃ (λ l z. told_cut (omega arith) (omega arith) (omega arith))
        (λ l o z. told_length_at 28 z of_credential (omega arith) l o) (λ c v r m n e₄.
        credential_then v _ e₄ (λ l z. told_cut (omega arith) (omega arith) (omega arith))
        (λ l o z. told_length_at (v + 4) z (of_verifier c v r) (omega arith) l o) (λ d w q i j e₅. absurd (never p _ _ (sym e₅)))))))

  pub told : header call 0 ≡ bad p → Broken call p (header_fault call p)
  unfolding header Told
  told e =
      word_then 0 _ e (λ l z. told_short (omega arith)) (λ a e₁.
      type_then _ e₁ told_short told_type (λ long type e₂.
      word_then 8 _ e₂ (λ l z. told_cut long type (omega arith) (omega arith) (omega arith)) (λ b e₃.
      by_bool (eqb (be_at call 8 4) 2) (λ t. told_rest long type (be_at call 0 4) b (rw t at e₃))
      (λ t. absurd (never p (Header.OtherVersion (be_at call 0 4)) 12 (sym (rw t at e₃)))))))
