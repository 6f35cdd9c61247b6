-- Words that are copied one after the other, and names with the zeros that pad them. Assumes nothing.
use mathlib.Core.Logic.{◌⊎◌}
use mathlib.Core.Path.{◌≡◌, refl, sym, ap, ◌∙◌}
use mathlib.Core.List.{List, [], ◌∷◌, ◌++◌, append_assoc}
use Prim.Native.Nat.{ℕ, zero, suc, ◌+◌, ◌*◌, ◌-◌, ◌/◌, ◌≤◌, ◌<◌}
use native.Mathlib.Omega.{arith}
use lib.Dec.{lit<}
use lib.ListN.{length}
use Rattle.kinds.specs.Layout.{text_offset}
use Rattle.kinds.specs.Numbers.{most_name_bytes, entry_fixed_cost}
use Rattle.spec.specs.Bytes.{part, overlay, padding, zeros, bytes_of, be_at, words, opaque_bytes}
use Rattle.spec.specs.Image.{Store, names, name_start, name_length}
use Rattle.spec.specs.Replies.{entry_bytes}
use Rattle.laws.proofs.Bytes.{part_add}
use Rattle.laws.proofs.GoodRecords.{GoodRecords}
use Rattle.laws.proofs.Range.{Below}
use Rattle.laws.proofs.RecordRange.{below_zeros}
use Rattle.laws.proofs.Valid.{Padded, GoodNameRecord}
use Rattle.laws.proofs.Words.{words_append}
use Rattle.laws.proofs.Zeros.{zero_within}
use Rattle.wire.proofs.Copies as copies
use Rattle.xdr.specs.Wrote.{Wrote}
use Rattle.xdr.proofs.Wrote.{and_then}
use Rattle.reply_entries.specs.Entries.{PaddedName, entry}
use Rattle.reply_entries.proofs.Hyper.{hyper_small}

-- one word more
pub copy_more : (src : List ℕ) (from i : ℕ) (r : List ℕ) (at : ℕ) (r₁ r₂ : List ℕ) (w : ℕ) → Below 256 src → from + 4 * (i + 1) ≤ length src
    → at + 4 * (i + 1) ≤ length r → r₁ ≡ overlay r at (part src from (4 * i)) → w ≡ be_at src (from + 4 * i) 4
    → r₂ ≡ overlay r₁ (at + 4 * i) (bytes_of 4 w) → r₂ ≡ overlay r at (part src from (4 * (i + 1)))
copy_more src from i r at r₁ r₂ w f h k p q o =
    let e : 4 * (i + 1) ≡ 4 * i + 4 = omega arith in
    rw e (copies.copy_more r at src from (4 * i) 4 r₁ r₂ (omega arith) (omega arith) p (copies.word_copied src (from + 4 * i) 4 w r₁ r₂ (at + 4 * i) f (omega arith) q o))

-- the words of a padded name
pub padded_words : (n : ℕ) → 4 * ((n + 3) / 4) ≡ n + padding n
padded_words n = omega arith

-- ---- the name of a record is padded there
record_padded : (s : Store) (n : ℕ) → GoodNameRecord s n → Padded s n
record_padded s n (◌⊎◌.inl f) = f.padded
record_padded s n (◌⊎◌.inr u) = u.padded

pub padded_name : (s : Store) (n at len : ℕ) → GoodRecords s → n < names s → at ≡ name_start s n → len ≡ name_length s n → PaddedName s (at + text_offset) len
padded_name s n at len g l p q =
    let h = g.sound.shaped in
    let k = g.sound.short n l in
    let z = zero_within s (name_start s n + text_offset + name_length s n) (most_name_bytes - name_length s n) 0 (padding len)
    (record_padded s n (g.good_names n l)) (omega arith) in
    let e : at + text_offset + len ≡ name_start s n + text_offset + name_length s n + 0 = omega arith in
    record {
      bytes = g.sound.bytes;
      short = omega arith;
      inside = omega arith;
      padded =
          part_add s (at + text_offset) len (padding len)
          ∙ ap (λ (x : List ℕ). part s (at + text_offset) len ++ x) (ap (λ (x : ℕ). part s x (padding len)) e ∙ z);
    }

-- ---- "." and "..", padded
abbrev pub dot_text : List ℕ
dot_text = 0x2E ∷ 0x2E ∷ 0 ∷ 0 ∷ 0 ∷ []

dot_bytes : Below 256 dot_text
dot_bytes zero = lit< tt
dot_bytes (suc zero) = lit< tt
dot_bytes (suc (suc k)) = below_zeros 3 k

pub padded_dot : PaddedName dot_text 1 1
unfolding part
padded_dot = record { bytes = dot_bytes; short = omega arith; inside = omega arith; padded = refl }

pub padded_dots : PaddedName dot_text 0 2
unfolding part
padded_dots = record { bytes = dot_bytes; short = omega arith; inside = omega arith; padded = refl }

-- ---- an entry: the words before the name, the name, and the words after it
padded_opaque : (name : List ℕ) (len : ℕ) → length name ≡ len → words (len ∷ []) ++ (name ++ zeros (padding len)) ≡ opaque_bytes name
unfolding opaque_bytes
padded_opaque name len e = rw e (sym (append_assoc (words (len ∷ [])) name (zeros (padding len))))

pub wrote_entry : (fileid number len : ℕ) (name : List ℕ) {r r₁ r₂ r₃ : List ℕ} {at p₁ p₂ p₃ : ℕ}
    → fileid < 4294967296 → number < 4294967296 → length name ≡ len
    → Wrote 16 r r₁ at p₁ (words (1 ∷ 0 ∷ fileid ∷ len ∷ [])) → Wrote (len + padding len) r₁ r₂ p₁ p₂ (name ++ zeros (padding len))
    → Wrote 8 r₂ r₃ p₂ p₃ (words (0 ∷ number ∷ []))
    → Wrote (entry_fixed_cost + (len + padding len)) r r₃ at p₃ (entry_bytes (entry fileid name number))
unfolding entry_bytes
wrote_entry fileid number len name f n l a b c =
    let e : entry_fixed_cost + (len + padding len) ≡ 16 + (len + padding len) + 8 = omega arith in
    let text : words (1 ∷ 0 ∷ fileid ∷ len ∷ []) ++ (name ++ zeros (padding len)) ≡ words (1 ∷ 0 ∷ fileid ∷ []) ++ opaque_bytes name =
    ap (λ (x : List ℕ). x ++ (name ++ zeros (padding len))) (words_append (1 ∷ 0 ∷ fileid ∷ []) (len ∷ []))
    ∙ append_assoc (words (1 ∷ 0 ∷ fileid ∷ [])) (words (len ∷ [])) (name ++ zeros (padding len))
    ∙ ap (λ (x : List ℕ). words (1 ∷ 0 ∷ fileid ∷ []) ++ x) (padded_opaque name len l) in
    rw (e, hyper_small fileid f, hyper_small number n, ← text) (and_then (and_then a b) c)
