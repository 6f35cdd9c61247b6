-- The laws of copies of bytes from one slice to another. Assumes nothing.
use Rattle.std.proofs.Common.{◌≡◌, ℕ, ◌+◌, ◌≤◌, List, length, ap, ◌∙◌}
use Rattle.spec.specs.Bytes.{part, overlay, be_at, bytes_of}
use Rattle.laws.proofs.Bytes.{overlay_more, part_add, part_length}
use Rattle.laws.proofs.Range.{Below, bytes_kept}

module _ (dst : List ℕ) (at : ℕ) (src : List ℕ) (from : ℕ) where
  -- a store that has the first m bytes of a copy, and then gets the next n
  pub copy_more : (m n : ℕ) (s s' : List ℕ) → at + m ≤ length dst → from + m ≤ length src
      → s ≡ overlay dst at (part src from m) → s' ≡ overlay s (at + m) (part src (from + m) n) → s' ≡ overlay dst at (part src from (m + n))
  copy_more m n s s' h k p q = rw (part_add src from m n)
      (overlay_more dst at (part src from m) (part src (from + m) n) s s' m h (part_length src from m k) p q)

-- a number that is read of w bytes and written into as many is a copy of them
pub word_copied : (src : List ℕ) (from w n : ℕ) (s s' : List ℕ) (at : ℕ) → Below 256 src → from + w ≤ length src → n ≡ be_at src from w
    → s' ≡ overlay s at (bytes_of w n) → s' ≡ overlay s at (part src from w)
word_copied src from w n s s' at f h e q = q ∙ ap (overlay s at) (ap (bytes_of w) e ∙ bytes_kept src f w from h)
