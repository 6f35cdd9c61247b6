-- A field of opaque data: what is read of it depends on its length and on the length of the call, and on no byte of its padding. Assumes
-- nothing.
use Prim.Native.Nat.{ℕ, ◌+◌, ◌≤◌, ◌<◌}
use native.Mathlib.Omega.{arith}
use mathlib.Core.Bool.{Bool, true, false, cond, ◌||◌}
use mathlib.Core.List.{List, [], ◌∷◌, ◌++◌}
use mathlib.Core.Path.{◌≡◌, refl, sym, ap, ◌∙◌}
use lib.Dec.{leb, ltb}
use lib.ListN.{length}
use borrow.Author.Tests.{leb-true, ltb-true}
use Rattle.kinds.specs.Reading.{Read, got, bad}
use Rattle.kinds.specs.declared.call.Part.{Part}
use Rattle.spec.specs.Bytes.{be_of, be_at, padding}
use Rattle.spec.specs.Xdr.{number, word, bytes, opaque}
use Rattle.laws.proofs.Count.{by_bool, and_both}
use Rattle.laws.proofs.Bytes.{same_part}
use Rattle.laws.proofs.Xdr.{same_value, same_end, word_got, opaque_bad, opaque_read}
use Rattle.laws_padding.specs.Fields.{length_read, opaque_field}
use Rattle.laws_padding.specs.Alike.{pad_start, pad_end, in_padding, in_paddings}
use Rattle.laws_padding.proofs.ReadsAlike.{Before, SameCuts, SameWhereRead, ReadsAlike, no_pad}

-- where the padding of one field is
pad_one : (f : Part) (i : ℕ) → in_paddings (f ∷ []) i ≡ true → (f.start + f.length ≤ i) × (i < f.start + f.length + padding f.length)
unfolding in_paddings
pad_one f i e =
    let b = and_both (leb (pad_start f) i) (ltb i (pad_end f)) (alone (in_padding f i) e) in
    (omega (arith, leb-true (pad_start f) i b.0), omega (arith, ltb-true i (pad_end f) b.1))
  where
    alone : (t : Bool) → t || false ≡ true → t ≡ true
    alone true h = refl
    alone false h = h

module _ (s t : List ℕ) (long : length t ≡ length s) where
  -- the same length of the field, and of the call: the same is read
  pub opaque_same : (most at : ℕ) → be_at t at 4 ≡ be_at s at 4 → opaque most t at ≡ opaque most s at
  unfolding opaque bytes word number
  opaque_same most at e = rw (e, long)

  -- its padding is behind its length
  field_ahead : (most at i : ℕ) (r : Read ℕ) → word s at ≡ r → in_paddings (length_read most r) i ≡ true → at + 4 ≤ i
  field_ahead most at i (got n start) e h = omega (arith, (word_got s at n start e).2, behind (leb n most) h)
    where
      behind : (b : Bool) → in_paddings (cond b (record { start = start; length = n } ∷ []) []) i ≡ true → start + n ≤ i
      behind true w = (pad_one (record { start = start; length = n }) i w).0
      behind false w = no_pad i w
  field_ahead most at i (bad q) e h = no_pad i h

  not_before : (most at i : ℕ) → i < at + 4 → in_paddings (opaque_field most s at) i ≡ false
  unfolding opaque_field
  not_before most at i l = by_bool (in_paddings (opaque_field most s at) i) (λ h. absurd (omega (arith, field_ahead most at i (word s at) refl h))) (λ h. h)

  -- where it was read, it is the one that is listed
  field_listed : (most at : ℕ) (f : Part) (next : ℕ) → opaque most s at ≡ got f next → opaque_field most s at ≡ f ∷ []
  unfolding opaque_field
  field_listed most at f next e = let o = opaque_read most s at f next e in rw (o.length_read_lem, o.allowed) (ap (λ (g : Part). g ∷ []) (sym o.whole))

  -- it ends behind its length, and behind its bytes
  reads_length : (most at i : ℕ) → i < at + 4 → (r : Read Part) → opaque most s at ≡ r → Before r i
  reads_length most at i l (got f next) e =
      let o = opaque_read most s at f next e in
      omega (arith, (word_got s at o.n o.start o.length_read_lem).2, o.ends)
  reads_length most at i l (bad q) e = tt

  reads_bytes : (most at n start i : ℕ) → word s at ≡ got n start → i < start + n → (r : Read Part) → opaque most s at ≡ r → Before r i
  reads_bytes most at n start i w l (got f next) e =
      let o = opaque_read most s at f next e in
      omega (arith, same_value _ _ _ _ (sym w ∙ o.length_read_lem), same_end _ _ _ _ (sym w ∙ o.length_read_lem), o.ends)
  reads_bytes most at n start i w l (bad q) e = tt

  field_cuts : (most at : ℕ) (r : Read ℕ) → word s at ≡ r → SameWhereRead s t at (opaque most s at) (length_read most r) → SameCuts s t (length_read most r)
  field_cuts most at (got n start) e same_bytes = allowed (leb n most) same_bytes
    where
      f : Part
      f = record { start = start; length = n }

      before : (i : ℕ) → i < start + n → in_paddings (f ∷ []) i ≡ false
      before i l = by_bool (in_paddings (f ∷ []) i) (λ h. absurd (omega (arith, (pad_one f i h).0))) (λ h. h)

      allowed : (b : Bool) → SameWhereRead s t at (opaque most s at) (cond b (f ∷ []) []) → SameCuts s t (cond b (f ∷ []) [])
      allowed true close = (
        same_part s t long start n (λ i l h.
            close i (omega (arith, (word_got s at n start e).2)) (reads_bytes most at n start i e h (opaque most s at) refl) (before i h)),
        tt,
      )
      allowed false close = tt
  field_cuts most at (bad q) e same_bytes = tt

  length_same : (most at : ℕ) → SameWhereRead s t at (opaque most s at) (opaque_field most s at) → be_at t at 4 ≡ be_at s at 4
  unfolding be_at
  length_same most at same_bytes =
      ap be_of (same_part s t long at 4 (λ i l h.
      same_bytes i l (reads_length most at i h (opaque most s at) refl) (not_before most at i h)))

  listing_same : (most at : ℕ) → be_at t at 4 ≡ be_at s at 4 → opaque_field most t at ≡ opaque_field most s at
  unfolding opaque_field word number
  listing_same most at e = rw (e, long)

  pub alike_opaque : (most : ℕ) (before : List Part) → ReadsAlike s t (opaque most) (opaque_field most) before (λ f. before ++ (f ∷ []))
  unfolding opaque_field
  alike_opaque most before =
      record {
        ahead = λ at i h. omega (arith, field_ahead most at i (word s at) refl h);
        onward = λ at f next h. let o = opaque_read most s at f next h in omega (arith, (word_got s at o.n o.start o.length_read_lem).2, o.ends);
        inside = λ at f next h i w.
            let o = opaque_read most s at f next h in
            let one : in_paddings (f ∷ []) i ≡ true = ap (λ (l : List Part). in_paddings l i) (sym (field_listed most at f next h)) ∙ w in
            omega (arith, (pad_one f i one).1, ap (λ (g : Part). g.start + g.length + padding g.length) o.whole, o.ends);
        behind_start = λ at q h. omega (arith, opaque_bad most s at q h);
        clear = λ at q h i l m. not_before most at i (omega (arith, opaque_bad most s at q h));
        same = λ at same_bytes. opaque_same most at (length_same most at same_bytes);
        listing = λ at same_bytes. listing_same most at (length_same most at same_bytes);
        cuts = λ at same_bytes. field_cuts most at (word s at) refl same_bytes;
        listed = λ at f next h. ap (λ (l : List Part). before ++ l) (field_listed most at f next h);
      }
