-- Writes that are made again: those of them that were made before, in whatever order, change nothing. Assumes nothing.
use mathlib.Core.Path.{◌≡◌, refl, sym, ◌∙◌}
use mathlib.Core.Logic.{⊎_elim}
use mathlib.Core.List.Memᴰ
use mathlib.Core.List.{List, [], ◌∷◌, Memᴰ}
use Prim.Native.Nat.{ℕ, ◌≤◌, max}
use native.Mathlib.Omega.{arith}
use lib.ListN.{length, get_or}
use lib.Seq.{ext_get_or}
use Rattle.laws_contents.specs.Written.{Write, after, made}
use Rattle.laws_contents.proofs.Laid.{WithinStore, Outside, within?}
use Rattle.laws_contents.proofs.Written.{reached, written_length, written_other, written_within}

-- a write is in a list of writes
abbrev pub Member : Write → List Write → Type 0
Member w ws = Memᴰ w ws

-- the byte at k is one that a write writes, or not
abbrev Hits : Write → ℕ → Type 0
Hits w k = WithinStore w.offset (length w.bytes) k

abbrev Misses : Write → ℕ → Type 0
Misses w k = Outside w.offset (length w.bytes) k

-- ---- lengths
-- the end of the furthest write
reach : List Write → ℕ
reach [] = 0
reach (w ∷ ws) = max (reached w.offset w.bytes) (reach ws)

-- a list gets as long as the end of the furthest write, where that is after its own
made_length : (old : List ℕ) (ws : List Write) → length (made old ws) ≡ max (length old) (reach ws)
unfolding made reach
made_length old [] = omega arith
made_length old (w ∷ ws) = made_length (after old w) ws ∙ omega (arith, written_length old w.offset w.bytes)

-- no write of the list ends after it
in_reach : (w : Write) (ws : List Write) → Member w ws → reached w.offset w.bytes ≤ reach ws
unfolding reach
in_reach w [] m = absurd (Memᴰ.not-nil m)
in_reach w (v ∷ ws) m =
    ⊎_elim (λ (e : w ≡ v). rw e (omega arith)) (λ (n : Member w ws). omega (arith, in_reach w ws n)) (Memᴰ.cases_cons m)

-- ---- bytes
-- a write makes any two lists agree where it hits
after_hit : (a b : List ℕ) (w : Write) (k : ℕ) → Hits w k → get_or (after a w) k 0 ≡ get_or (after b w) k 0
after_hit a b w k h = written_within a w.offset w.bytes k h ∙ sym (written_within b w.offset w.bytes k h)

-- and leaves them as they are where it misses
after_agree : (a b : List ℕ) (w : Write) (k : ℕ) → get_or a k 0 ≡ get_or b k 0 → get_or (after a w) k 0 ≡ get_or (after b w) k 0
after_agree a b w k e =
    ⊎_elim
    (λ (h : Hits w k). after_hit a b w k h)
    (λ (h : Misses w k). written_other a w.offset w.bytes k h ∙ e ∙ sym (written_other b w.offset w.bytes k h))
    (within? w.offset (length w.bytes) k)

-- lists that agree at an index agree there after the same writes
made_agree : (a b : List ℕ) (ws : List Write) (k : ℕ) → get_or a k 0 ≡ get_or b k 0 → get_or (made a ws) k 0 ≡ get_or (made b ws) k 0
unfolding made
made_agree a b [] k e = e
made_agree a b (w ∷ ws) k e = made_agree (after a w) (after b w) ws k (after_agree a b w k e)

-- any two lists agree, after the same writes, at an index that one of them hits
made_hit : (a b : List ℕ) (w : Write) (ws : List Write) (k : ℕ) → Member w ws → Hits w k → get_or (made a ws) k 0 ≡ get_or (made b ws) k 0
unfolding made
made_hit a b w [] k m h = absurd (Memᴰ.not-nil m)
made_hit a b w (v ∷ ws) k m h =
    ⊎_elim
    (λ (e : w ≡ v). made_agree (after a v) (after b v) ws k (after_hit a b v k (rw e at h)))
    (λ (n : Member w ws). made_hit (after a v) (after b v) w ws k n h)
    (Memᴰ.cases_cons m)

-- a write that is made again among others might as well not have been made before them
pub made_once : (old : List ℕ) (w : Write) (ws : List Write) → Member w ws → made (after old w) ws ≡ made old ws
made_once old w ws m =
    let a = made_length (after old w) ws in
    let b = made_length old ws in
    ext_get_or 0 (made (after old w) ws) (made old ws) (omega (arith, written_length old w.offset w.bytes, in_reach w ws m)) (λ k l.
    ⊎_elim
    (λ (h : Hits w k). made_hit (after old w) old w ws k m h)
    (λ (h : Misses w k). made_agree (after old w) old ws k (written_other old w.offset w.bytes k h))
    (within? w.offset (length w.bytes) k))

-- writes ys, each of them one of zs, and then all of zs in their order leave what zs alone leave
pub made_again : (old : List ℕ) (ys zs : List Write) → ((w : Write) → Member w ys → Member w zs) → made (made old ys) zs ≡ made old zs
unfolding made
made_again old [] zs f = refl
made_again old (w ∷ ys) zs f =
    made_again (after old w) ys zs (λ v m. f v (Memᴰ.tail m)) ∙ made_once old w zs (f w (Memᴰ.head refl))

-- writes never shorten
pub made_longer : (old : List ℕ) (ws : List Write) → length old ≤ length (made old ws)
made_longer old ws = omega (arith, made_length old ws)
