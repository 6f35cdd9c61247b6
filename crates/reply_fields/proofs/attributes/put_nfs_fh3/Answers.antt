use Prim.Native.Nat.{ℕ}
use mathlib.Core.List.{[], ◌∷◌}
use mathlib.Core.Path.{◌≡◌, refl}
use Rattle.kinds.specs.Numbers.{handle_length}
use Rattle.spec.specs.Bytes.{words, opaque_bytes, bytes_of}
use Rattle.spec.specs.Handles.{handle_of}
use Rattle.reply_fields.proofs.attributes.put_nfs_fh3.Goals as goal

-- three words as opaque data: their length, and the words
three_words : (a b c : ℕ) → words (handle_length ∷ a ∷ b ∷ c ∷ []) ≡ opaque_bytes (words (a ∷ b ∷ c ∷ []))
unfolding opaque_bytes words bytes_of
three_words a b c = refl

pub returns : goal.returns
unfolding handle_of
returns c = rw (
  c.stamp_of.ensures,
  c.generation_of.ensures,
  three_words,
) at c.put_words.ensures
