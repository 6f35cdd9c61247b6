-- The writes of a record, one after the other, are one write of all its bytes. Assumes nothing.
use mathlib.Core.Path.{◌≡◌, refl}
use mathlib.Core.List.{List, ◌++◌}
use Prim.Native.Nat.{ℕ, ◌+◌, ◌-◌, ◌*◌, ◌≤◌}
use native.Mathlib.Omega.{arith}
use native.Mathlib.Nat.{add_assoc}
use lib.ListN.{length, replicate, length-append}
use Rattle.kinds.specs.Layout.{generation_offset, mode_offset, uid_offset, gid_offset, size_offset, atime_offset, blocks_offset, verifier_offset}
use Rattle.kinds.specs.Layout.{object_length, time_length, child_offset, length_offset, text_offset, name_record_length}
use Rattle.kinds.specs.Numbers.{file_blocks, most_name_bytes}
use Rattle.kinds.specs.declared.object.Object.{Object}
use Rattle.kinds.specs.declared.object.Time.{Time}
use Rattle.spec.specs.Bytes.{overlay, bytes_of}
use Rattle.spec.specs.Image.{object_start, time_bytes, head_bytes, times_bytes, halves_bytes, verifier_bytes, object_bytes, put_object, name_bytes}
use Rattle.store_records.specs.Text.{name_of}
use Rattle.laws.proofs.Bytes.{bytes_length, overlay_more}

pub head_run : (b : List ℕ) (at : ℕ) (v : Object) → at + atime_offset ≤ length b
    → overlay (overlay (overlay (overlay (overlay (overlay b at (bytes_of 4 v.kind)) (at + generation_offset) (bytes_of 4 v.generation)) (at + mode_offset)
    (bytes_of 4 v.mode)) (at + uid_offset) (bytes_of 4 v.uid)) (at + gid_offset) (bytes_of 4 v.gid)) (at + size_offset) (bytes_of 4 v.size)
    ≡ overlay b at (head_bytes v)
unfolding head_bytes bytes_of
head_run b at v h =
    overlay_more b at _ _ _ _ size_offset (omega arith) refl
    (overlay_more b at _ _ _ _ gid_offset (omega arith) refl
    (overlay_more b at _ _ _ _ uid_offset (omega arith) refl
    (overlay_more b at _ _ _ _ mode_offset (omega arith) refl
    (overlay_more b at _ _ _ _ generation_offset (omega arith) refl refl refl) refl) refl) refl) refl

pub times_run : (b : List ℕ) (at : ℕ) (t u v : Time) → at + 3 * time_length ≤ length b
    → overlay (overlay (overlay b at (time_bytes t)) (at + time_length) (time_bytes u)) (at + 2 * time_length) (time_bytes v)
    ≡ overlay b at (time_bytes t ++ time_bytes u ++ time_bytes v)
unfolding time_bytes bytes_of
times_run b at t u v h =
    overlay_more b at _ _ _ _ (2 * time_length) (omega arith) refl (overlay_more b at _ _ _ _ time_length (omega arith) refl refl refl) refl

pub object_run : (b : List ℕ) (o : ℕ) (v : Object) → object_start o + object_length ≤ length b
    → overlay (overlay (overlay (overlay b (object_start o) (head_bytes v)) (object_start o + atime_offset) (times_bytes v)) (object_start o + blocks_offset)
    (halves_bytes file_blocks v.blocks)) (object_start o + verifier_offset) (verifier_bytes v) ≡ put_object b o v
unfolding put_object object_bytes head_bytes times_bytes time_bytes halves_bytes bytes_of
object_run b o v h =
    overlay_more b (object_start o) _ _ _ _ verifier_offset (omega arith) refl
    (overlay_more b (object_start o) _ _ _ _ blocks_offset (omega arith) refl
    (overlay_more b (object_start o) _ _ _ _ atime_offset (omega arith) refl refl refl) refl) refl

pub name_run : (b : List ℕ) (at d c len : ℕ) (t : List ℕ) → length t ≡ len → at + name_record_length ≤ length b → len ≤ most_name_bytes
    → (s₁ s₂ s₃ s₄ s₅ : List ℕ)
    → s₁ ≡ overlay b at (bytes_of 4 d)
    → s₂ ≡ overlay s₁ (at + child_offset) (bytes_of 4 c)
    → s₃ ≡ overlay s₂ (at + length_offset) (bytes_of 4 len)
    → s₄ ≡ overlay s₃ (at + text_offset) t
    → s₅ ≡ overlay s₄ (at + text_offset + len) (replicate (most_name_bytes - len) 0)
    → s₅ ≡ overlay b at (name_bytes (name_of d c t))
unfolding name_bytes
name_run b at d c len t l h k s₁ s₂ s₃ s₄ s₅ e₁ e₂ e₃ e₄ e₅ =
    rw l
    (overlay_more b at _ _ _ _ (text_offset + len) (omega arith) (simp (length-append, bytes_length, l))
    (overlay_more b at _ _ _ _ text_offset (omega arith) (simp (length-append, bytes_length))
    (overlay_more b at _ _ _ _ length_offset (omega arith) (simp (length-append, bytes_length))
    (overlay_more b at _ _ _ _ child_offset (omega arith) (bytes_length 4 d) e₁ e₂) e₃) e₄)
    (rw (← add_assoc at text_offset len) e₅))
