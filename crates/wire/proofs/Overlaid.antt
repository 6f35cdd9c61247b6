-- A slice after a write to a part of it, as an overlay. Assumes nothing.
use Rattle.std.proofs.Common.{◌≡◌, ℕ, ◌+◌, List, ◌++◌, length, take, drop, append_assoc, ap, sym, ◌∙◌}
use borrow.Rule.Slice.PartMut.{put_mid}
use lib.Seq.{drop-drop}
use Rattle.spec.specs.Bytes.{overlay}

-- the k items from `at` are zs now
pub written : (b : List ℕ) (at k : ℕ) (ys zs : List ℕ) → ys ≡ zs → length zs ≡ k → put_mid at k b ys ≡ overlay b at zs
unfolding overlay
written b at k ys zs e l =
    rw (e, ← l) (ap (λ (r : List ℕ). take at b ++ (zs ++ r)) (drop-drop (length zs) at b) ∙ sym (append_assoc (take at b) zs (drop (at + length zs) b)))
