-- Entries that are written one after the other are a run of entries. Assumes nothing.
use mathlib.Core.Path.{◌≡◌, refl, ap, ◌∙◌, subst}
use mathlib.Core.Bool.{true, false}
use mathlib.Core.List.{List, [], ◌∷◌, ◌++◌, map, append-nil}
use Prim.Native.Nat.{ℕ, zero, suc, ◌+◌, ◌-◌, ◌≤◌, ◌<◌}
use native.Mathlib.Omega.{arith}
use lib.Dec.{eqb}
use lib.ListN.{length, take, drop, length-append}
use lib.Seq.{take-nil}
use borrow.Author.Tests.{lt-ltb, le-ltb}
use Rattle.kinds.specs.Layout.{child_offset, length_offset, text_offset}
use Rattle.kinds.specs.Numbers.{most_objects, entry_fixed_cost}
use Rattle.spec.specs.Count.{passing}
use Rattle.spec.specs.Bytes.{part, be_at}
use Rattle.spec.specs.Image.{Store, names, name_start, name_at, name_from, name_length}
use Rattle.spec.specs.Room.{is_used_name, is_in, parent}
use Rattle.spec.specs.Results.{Entry}
use Rattle.spec.specs.Procedures.Listing.{entry_of, dot_entries, named_entries, entries, entries_above, entry_cost}
use Rattle.spec.specs.Replies.{entry_bytes, entries_bytes}
use Rattle.laws.proofs.Count.{and_both}
use Rattle.laws.proofs.Listing.{above_append, taken_bytes, passing_more, passing_split, entry_length}
use Rattle.laws.proofs.GoodKept.{used_of}
use Rattle.laws.proofs.GoodRecords.{GoodRecords}
use Rattle.laws.proofs.Valid.{UsedName, used_true, true_used, false_used}
use Rattle.store_search.proofs.Named.{in_directory_lem}
use Rattle.xdr.specs.Wrote.{Wrote}
use Rattle.xdr.proofs.Wrote.{wrote_none, wrote_length, and_then, sized}
use Rattle.reply_entries.specs.declared.Place.{Place}
use Rattle.reply_entries.specs.Entries.{entry, dots, entry_in, WroteEntries}

-- how many bytes the entries that are still sent take
abbrev pub cost : Place → List Entry → ℕ
cost p es = length (entries_bytes (take p.left es))

-- ---- one entry
pub above_low : (cookie : ℕ) (e : Entry) → e.cookie ≤ cookie → entries_above cookie (e ∷ []) ≡ []
unfolding entries_above
above_low cookie e h = rw (le-ltb cookie e.cookie h)

pub above_high : (cookie : ℕ) (e : Entry) → cookie < e.cookie → entries_above cookie (e ∷ []) ≡ e ∷ []
unfolding entries_above
above_high cookie e h = rw (lt-ltb cookie e.cookie h)

pub one_bytes : (n : ℕ) (e : Entry) → 0 < n → entries_bytes (take n (e ∷ [])) ≡ entry_bytes e
unfolding entries_bytes
one_bytes zero e h = absurd (omega arith)
one_bytes (suc n) e h = rw (take-nil n) (append-nil (entry_bytes e))

-- what one entry takes, where it is sent
pub one_cost : (p : Place) (cookie : ℕ) (e : Entry) → cookie < e.cookie → 0 < p.left → cost p (entries_above cookie (e ∷ [])) ≡ entry_cost entry_fixed_cost e
one_cost p cookie e h l = rw (above_high cookie e h, one_bytes p.left e l) (entry_length e)

-- ---- runs
pub entries_none : (r : List ℕ) (p : Place) → p.at ≤ length r → WroteEntries [] r r p p
unfolding entries_bytes
entries_none r p h = record { wrote = rw (take-nil p.left) (wrote_none r p.at h); left = omega arith }

pub entries_full : (es : List Entry) (r : List ℕ) (p : Place) → p.left ≡ 0 → p.at ≤ length r → WroteEntries es r r p p
unfolding entries_bytes
entries_full es r p e h = record { wrote = rw e (wrote_none r p.at h); left = omega arith }

pub entries_one : (e : Entry) (p : Place) {n next : ℕ} {r r₁ : List ℕ} → 0 < p.left → Wrote n r r₁ p.at next (entry_bytes e)
    → WroteEntries (e ∷ []) r r₁ p (record { at = next; left = p.left - 1 })
entries_one e p h w = record { wrote = rw (one_bytes p.left e h) (sized (entry_bytes e) w); left = refl }

pub entries_append : (xs ys : List Entry) {r r₁ r₂ : List ℕ} {p q t : Place} → WroteEntries xs r r₁ p q → WroteEntries ys r₁ r₂ q t
    → WroteEntries (xs ++ ys) r r₂ p t
entries_append xs ys {r} {r₁} {r₂} {p} {q} {t} a b =
    record {
      wrote = rw (taken_bytes p.left xs ys, ← a.left) (sized _ (and_then a.wrote b.wrote));
      left = omega (arith, a.left, b.left, length-append xs ys);
    }

-- ---- the room for a run: its front fits, and what follows its front fits after it
pub front_room : (p : Place) (xs ys : List Entry) (r : List ℕ) → p.at + cost p (xs ++ ys) ≤ length r → p.at + cost p xs ≤ length r
front_room p xs ys r h =
    let e = ap length (taken_bytes p.left xs ys) in
    omega (arith, e, length-append (entries_bytes (take p.left xs)) (entries_bytes (take (p.left - length xs) ys)))

pub rest_room : (xs ys : List Entry) {r r₁ : List ℕ} {p q : Place} → WroteEntries xs r r₁ p q → p.at + cost p (xs ++ ys) ≤ length r
    → q.at + cost q ys ≤ length r₁
rest_room xs ys {r} {r₁} {p} {q} a h =
    let e = ap length (taken_bytes p.left xs ys) in
    let k = wrote_length a.wrote in
    rw a.left (omega (arith, e, k, a.wrote.place, length-append (entries_bytes (take p.left xs)) (entries_bytes (take (p.left - length xs) ys))))

-- ---- the entries of a directory, in the order in which they are written
pub above_dots : (cookie d p : ℕ)
    → entries_above cookie (dots d p) ≡ entries_above cookie (entry (d + 1) (0x2E ∷ []) 1 ∷ []) ++ entries_above cookie (entry (p + 1) (0x2E ∷ 0x2E ∷ []) 2 ∷ [])
above_dots cookie d p = above_append cookie (entry (d + 1) (0x2E ∷ []) 1 ∷ []) (entry (p + 1) (0x2E ∷ 0x2E ∷ []) 2 ∷ [])

pub above_entries : (s : Store) (cookie d p : ℕ) → p ≡ parent s d
    → entries_above cookie (entries s d) ≡ entries_above cookie (dots d p) ++ entries_above cookie (named_entries s d (names s))
unfolding entries dot_entries
above_entries s cookie d p e = rw e (above_append cookie (dots d (parent s d)) (named_entries s d (names s)))

module _ (s : Store) (cookie d : ℕ) where
  abbrev pub above : List Entry → List Entry
  above es = entries_above cookie es

  pub above_none : above (named_entries s d 0) ≡ []
  unfolding entries_above passing
  above_none = refl

  pub above_more : (n : ℕ) → above (named_entries s d (n + 1)) ≡ above (named_entries s d n) ++ above (entry_in s d n)
  above_more n = ap above (passing_more (entry_of s) (is_in s d) n) ∙ above_append cookie (named_entries s d n) (entry_in s d n)

  -- the room for the entry of record n, after those of the records below it
  pub name_room : (n m : ℕ) {r r₁ : List ℕ} {p q : Place} → n < m → WroteEntries (above (named_entries s d n)) r r₁ p q
      → p.at + cost p (above (named_entries s d m)) ≤ length r → q.at + cost q (above (entry_in s d n)) ≤ length r₁
  name_room n m {r} {r₁} {p} {q} l a h =
      let later = map (entry_of s) (drop (length (passing (n + 1) (is_in s d))) (passing m (is_in s d))) in
      let e = ap above (passing_split (entry_of s) (is_in s d) (n + 1) m (omega arith)) ∙ above_append cookie (named_entries s d (n + 1)) later ∙ ap
      (λ (es : List Entry). es ++ above later) (above_more n) in
      rest_room (above (named_entries s d n)) (above (entry_in s d n)) a
      (front_room p (above (named_entries s d n) ++ above (entry_in s d n)) (above later) r (rw e at h))

  -- where no more are sent, what was sent of the records below n was sent of those below m
  pub entries_rest : (n m : ℕ) {r r₁ : List ℕ} {p q : Place} → n ≤ m → q.left ≡ 0 → WroteEntries (above (named_entries s d n)) r r₁ p q
      → WroteEntries (above (named_entries s d m)) r r₁ p q
  entries_rest n m {r} {r₁} {p} {q} l z a =
      let later = map (entry_of s) (drop (length (passing n (is_in s d))) (passing m (is_in s d))) in
      let e = ap above (passing_split (entry_of s) (is_in s d) n m l) ∙ above_append cookie (named_entries s d n) later in
      let k = wrote_length a.wrote in
      rw e (entries_append (above (named_entries s d n)) (above later) a (entries_full (above later) r₁ q z (omega (arith, k, a.wrote.place, a.wrote.fits))))

-- ---- the objects of a used name record are objects
used_record : (s : Store) (n : ℕ) → GoodRecords s → n < names s → is_used_name s n ≡ true → UsedName s n
used_record s n g l u = used_of s n (used_true s n u) (g.good_names n l)

-- ---- the entry of one name record
module _ (s : Store) (d n : ℕ) where
  pub entry_in_absent : is_in s d n ≡ false → entry_in s d n ≡ []
  entry_in_absent e = rw e

  pub entry_in_present : is_in s d n ≡ true → entry_in s d n ≡ entry_of s n ∷ []
  entry_in_present e = rw e

  pub child_below : GoodRecords s → n < names s → is_in s d n ≡ true → (name_at s n).child < most_objects
  unfolding is_in
  child_below g l e =
      let h = g.sound.shaped in
      let c = (used_record s n g l (and_both (is_used_name s n) (eqb (name_at s n).directory d) e).0).child in
      omega arith

-- ---- the fields of the name record that starts at `at`
module _ (s : Store) (n at : ℕ) (p : at ≡ name_start s n) where
  pub directory_here : be_at s at 4 ≡ (name_at s n).directory
  unfolding name_at name_from
  directory_here = rw p

  pub child_here : be_at s (at + child_offset) 4 ≡ (name_at s n).child
  unfolding name_at name_from
  child_here = rw p

  pub length_here : be_at s (at + length_offset) 4 ≡ name_length s n
  unfolding name_length
  length_here = rw p

pub is_in_used : (s : Store) (d n : ℕ) → (name_at s n).directory ≡ d → 0 < name_length s n → is_in s d n ≡ true
is_in_used s d n e h = in_directory_lem s d n e ∙ true_used s n h

pub is_in_free : (s : Store) (d n : ℕ) → (name_at s n).directory ≡ d → name_length s n ≡ 0 → is_in s d n ≡ false
is_in_free s d n e h = in_directory_lem s d n e ∙ false_used s n h

pub entry_of_lem : (s : Store) (n c at len : ℕ) → c ≡ (name_at s n).child → at ≡ name_start s n → len ≡ name_length s n
    → entry (c + 1) (part s (at + text_offset) len) (n + 3) ≡ entry_of s n
unfolding entry_of name_at name_from name_length
entry_of_lem s n c at len p q r =
    ap (λ (x : ℕ). entry (x + 1) (part s (at + text_offset) len) (n + 3)) p
    ∙ ap (λ (x : ℕ). entry ((name_at s n).child + 1) (part s (x + text_offset) len) (n + 3)) q
    ∙ ap (λ (x : ℕ). entry ((name_at s n).child + 1) (part s (name_start s n + text_offset) x) (n + 3)) r

-- what was sent of one entry was sent of an equal one
pub entries_equal : (cookie : ℕ) {e f : Entry} {r r₁ : List ℕ} {p q : Place} → e ≡ f → WroteEntries (entries_above cookie (e ∷ [])) r r₁ p q
    → WroteEntries (entries_above cookie (f ∷ [])) r r₁ p q
entries_equal cookie {e} {f} {r} {r₁} {p} {q} x w = subst (λ (y : Entry). WroteEntries (entries_above cookie (y ∷ [])) r r₁ p q) x w
