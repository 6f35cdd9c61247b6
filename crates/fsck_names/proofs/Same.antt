-- Two records with one directory and one name have one hash. Assumes nothing.
use mathlib.Core.Path.{◌≡◌, refl, sym, ap, ap₂, ◌∙◌}
use mathlib.Core.Bool.{Bool, true, ◌&&◌}
use mathlib.Core.List.{List, [], ◌∷◌, ◌++◌}
use Prim.Native.Nat.{ℕ, zero, suc, ◌+◌, ◌*◌, ◌-◌, ◌/◌, ◌%◌, ◌^◌, ◌≤◌}
use native.Mathlib.Omega.{arith}
use lib.Dec.{eqb, lit≤}
use lib.ListN.{length, get_or, drop}
use borrow.Author.Tests.{eqb-true, eq-eqb}
use Rattle.kinds.specs.Layout.{names_head, object_length, text_offset, name_record_length}
use Rattle.kinds.specs.Numbers.{most_name_bytes}
use Rattle.spec.specs.Bytes.{part, zeros, same_bytes, all_bytes}
use Rattle.spec.specs.Image.{Store, objects, name_start, name_from, name_at, name_length}
use Rattle.spec.specs.Room.{is_used_name, is_in, is_named}
use Rattle.spec.specs.Names.{good_byte, good_bytes}
use Rattle.laws.proofs.Bytes.{part_add, part_part, same_eq, same_yes}
use Rattle.laws.proofs.Count.{by_bool, true_false, and_both}
use Rattle.wire.specs.LowFirst.{low_first}
use Rattle.laws.proofs.Valid.{UsedName, good_bytes_lem}
use Rattle.wire.specs.Hash.{word_at, joined}
use Rattle.fsck_names.specs.Distinct.{mix, padded_text, hash, is_same}
use Rattle.fsck_names.proofs.Joins.{is_used}

-- lists of no zero that are equal when zeros are put after them
front_zero : (i : ℕ) → ◌≡◌ {A = ℕ} (get_or (zeros i) 0 0) 0
front_zero zero = refl
front_zero (suc i) = refl

no_zero : (y : ℕ) (ys : List ℕ) → good_bytes (y ∷ ys) ≡ true → y ≡ 0 → ⊥
unfolding good_bytes all_bytes good_byte
no_zero y ys g e = let a : good_byte y ≡ true = (and_both (good_byte y) (all_bytes good_byte ys) g).0 in true_false (sym a ∙ ap good_byte e)

padded_same : (xs ys : List ℕ) (i j : ℕ) → good_bytes xs ≡ true → good_bytes ys ≡ true → xs ++ zeros i ≡ ys ++ zeros j → xs ≡ ys
unfolding good_bytes all_bytes
padded_same [] [] i j g k e = refl
padded_same [] (y ∷ ys) i j g k e = absurd (no_zero y ys k (sym (ap (λ (l : List ℕ). get_or l 0 0) e) ∙ front_zero i))
padded_same (x ∷ xs) [] i j g k e = absurd (no_zero x xs g (ap (λ (l : List ℕ). get_or l 0 0) e ∙ front_zero j))
padded_same (x ∷ xs) (y ∷ ys) i j g k e =
    ap₂ (λ (a : ℕ) (l : List ℕ). a ∷ l) (ap (λ (l : List ℕ). get_or l 0 0) e)
    (padded_same xs ys i j (and_both (good_byte x) (all_bytes good_byte xs) g).1 (and_both (good_byte y) (all_bytes good_byte ys) k).1 (ap (drop 1) e))

-- ---- what it is for two records to be the same
pub record Alike (s : Store) (n m : ℕ) : Type 0 where
  pub used : is_used_name s m ≡ true
  pub directory : (name_at s m).directory ≡ (name_at s n).directory
  pub long : name_length s m ≡ length (name_at s n).text
  pub text : (name_at s m).text ≡ (name_at s n).text

pub alike : (s : Store) (n m : ℕ) → is_same s n m ≡ true → Alike s n m
unfolding is_named is_in
alike s n m e =
    let d = (name_at s n).directory in
    let t = (name_at s n).text in
    let a = and_both (is_used_name s m && eqb (name_at s m).directory d) (eqb (name_length s m) (length t) && same_bytes (name_at s m).text t) e in
    let b = and_both (is_used_name s m) (eqb (name_at s m).directory d) a.0 in
    let f = and_both (eqb (name_length s m) (length t)) (same_bytes (name_at s m).text t) a.1 in
    record {
      used = b.0;
      directory = eqb-true (name_at s m).directory d b.1;
      long = eqb-true (name_length s m) (length t) f.0;
      text = same_eq (name_at s m).text t f.1;
    }

pub same_by : (s : Store) (n m : ℕ) → Alike s n m → is_same s n m ≡ true
unfolding is_named is_in
same_by s n m a =
    rw (a.used, eq-eqb (name_at s m).directory (name_at s n).directory a.directory, eq-eqb (name_length s m) (length (name_at s n).text) a.long)
    (same_yes (name_at s m).text (name_at s n).text a.text)

module _ (s : Store) where
  -- a record is the same as itself, and sameness goes both ways
  pub same_self : (n : ℕ) → UsedName s n → is_same s n n ≡ true
  same_self n w = same_by s n n (record { used = is_used s n w; directory = refl; long = sym w.exact; text = refl })

  pub same_back : (n m : ℕ) → UsedName s n → is_same s n m ≡ true → is_same s m n ≡ true
  same_back n m w e =
      let a = alike s n m e in
      same_by s m n (record { used = is_used s n w; directory = sym a.directory; long = sym (ap length a.text ∙ w.exact); text = sym a.text })

  -- the name bytes of a record: its text, and zeros
  whole : (n : ℕ) → UsedName s n → padded_text s n ≡ (name_at s n).text ++ zeros (most_name_bytes - name_length s n)
  unfolding name_at name_from name_length
  whole n w =
      let len = name_length s n in
      let at = name_start s n + text_offset in
      let q : most_name_bytes ≡ len + (most_name_bytes - len) = omega (arith, w.short) in
      ap (part s at) q ∙ part_add s at len (most_name_bytes - len) ∙ ap (λ (l : List ℕ). part s at len ++ l) w.padded

  -- two records are the same where their directories and those bytes are
  module _ (n m : ℕ) (w : UsedName s n) (v : UsedName s m) where
    bytes_of : Alike s n m → padded_text s m ≡ padded_text s n
    bytes_of a =
        let q : name_length s m ≡ name_length s n = a.long ∙ w.exact in
        whole m v ∙ ap₂ (λ (x : List ℕ) (k : ℕ). x ++ zeros (most_name_bytes - k)) a.text q ∙ sym (whole n w)

    alike_by : is_used_name s m ≡ true → (name_at s m).directory ≡ (name_at s n).directory → padded_text s m ≡ padded_text s n → Alike s n m
    alike_by u d e =
        let x = padded_same (name_at s m).text (name_at s n).text (most_name_bytes - name_length s m) (most_name_bytes - name_length s n)
        (good_bytes_lem _ v.good.bytes) (good_bytes_lem _ w.good.bytes)
        (sym (whole m v) ∙ e ∙ whole n w) in
        record { used = u; directory = d; long = sym v.exact ∙ ap length x; text = x }

    pub same_hash : is_same s n m ≡ true → hash s m ≡ hash s n
    unfolding hash
    same_hash e = let a = alike s n m e in ap₂ mix a.directory (bytes_of a)

    same_is : is_used_name s m ≡ true
        → eqb (name_at s m).directory (name_at s n).directory && same_bytes (padded_text s m) (padded_text s n) ≡ is_same s n m
    same_is u =
        let d = eqb (name_at s m).directory (name_at s n).directory in
        let b = same_bytes (padded_text s m) (padded_text s n) in
        by_bool (is_same s n m)
        (λ e. let a = alike s n m e in rw (e, eq-eqb (name_at s m).directory (name_at s n).directory a.directory) (same_yes _ _ (bytes_of a)))
        (λ e. by_bool (d && b)
        (λ f. let g = and_both d b f in
        true_false (sym (same_by s n m (alike_by u (eqb-true (name_at s m).directory (name_at s n).directory g.0) (same_eq _ _ g.1))) ∙ e))
        (λ f. f ∙ sym e))

    -- as the code finds it
    pub same_found : (p a b x y : ℕ) (t : Bool) → p ≡ objects s → a ≡ names_head + object_length * p + name_record_length * m
        → b ≡ names_head + object_length * p + name_record_length * n
        → x ≡ (name_at s m).directory → y ≡ (name_at s n).directory
        → t ≡ same_bytes (part s (a + text_offset) most_name_bytes) (part s (b + text_offset) most_name_bytes) → is_used_name s m ≡ true
        → eqb x y && t ≡ is_same s n m
    same_found p a b x y t ep ea eb ex ey et u = rw (et, ex, ey, ea, eb, ep) (same_is u)

-- ---- the hash as the code makes it
pub hash_by : (s : Store) (p n at d a b e f u v w x : ℕ) → p ≡ objects s → at ≡ names_head + object_length * p + name_record_length * n
    → d ≡ (name_at s n).directory → a ≡ word_at s (at + text_offset) → b ≡ word_at s (at + text_offset + 8)
    → e ≡ word_at s (at + text_offset + 16) → f ≡ word_at s (at + text_offset + 24) → u ≡ joined d a → v ≡ joined u b → w ≡ joined v e
    → x ≡ joined w f → (x / 2 ^ 32 * 2104504639 + x % 2 ^ 32 * 1511612125) / 2 ^ 27 % 256 ≡ hash s n
unfolding hash mix
hash_by s p n at d a b e f u v w x ep eat ed ea eb ee ef eu ev ew ex =
    let t = name_start s n + text_offset in
    let word : (i q : ℕ) → i + 8 ≤ most_name_bytes → q ≡ t + i → word_at s q ≡ word_at (padded_text s n) i =
    λ i q h z. ap (word_at s) z ∙ ap low_first (sym (part_part s t most_name_bytes i 8 h)) in
    rw (
      ex,
      ew,
      ev,
      eu,
      ed,
      ea,
      eb,
      ee,
      ef,
      word 0 (at + text_offset) (lit≤ tt) (rw (eat, ep) (omega arith)),
      word 8 (at + text_offset + 8) (lit≤ tt) (rw (eat, ep) (omega arith)),
      word 16 (at + text_offset + 16) (lit≤ tt) (rw (eat, ep) (omega arith)),
      word 24 (at + text_offset + 24) (lit≤ tt) (rw (eat, ep) (omega arith)),
    )
