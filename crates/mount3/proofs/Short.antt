-- How long a reply is at most. Assumes nothing.
use Prim.Native.Nat.{ℕ, zero, suc, ◌+◌, ◌*◌, ◌/◌, ◌%◌, ◌≤◌}
use mathlib.Core.Bool.{Bool, true, false, cond}
use mathlib.Core.List.{List, []}
use native.Mathlib.Omega.{arith}
use lib.Dec.{ltb, lit≤}
use lib.ListN.{length, length-append}
use Rattle.kinds.specs.Mount.{rows, most_path_bytes, path_offset, least_mount_reply_bytes}
use Rattle.spec.specs.Bytes.{bytes_of, words, opaque_bytes}
use Rattle.spec.specs.Handles.{handle_of}
use Rattle.spec.specs.Image.{Store}
use Rattle.spec.specs.Rpc.{SUCCESS, accepted}
use Rattle.laws.proofs.Count.{by_bool}
use Rattle.laws.proofs.Words.{words_length, opaque_length}
use Rattle.rpc.proofs.Stopped.{accepted_length}
use Rattle.mount_spec.specs.Replies.{decimal, dotted, mount_bytes, mounts_bytes, mount_result_bytes}
use Rattle.mount_spec.specs.Table.{Table, row_start, path_length, row_at, is_used_row}
use Rattle.mount_laws.proofs.Paths.{part_most}
use Rattle.mount_results.specs.Meaning.{result_of}
use Rattle.mount_results.specs.declared.MountReply.{MountReply}
use Rattle.mount_reply.specs.Fits.{Fits, WritableMount, most_mount_bytes}

-- ---- the list of mounts
-- a number in decimal has at most three digits, and a host as dotted decimal at most fifteen bytes
decimal_short : (n : ℕ) → length (decimal n) ≤ 3
unfolding decimal
decimal_short n = by_bool (ltb n 10) (λ a. rw a (lit≤ tt)) (λ a. by_bool (ltb n 100) (λ b. rw (a, b) (lit≤ tt)) (λ b. rw (a, b) (lit≤ tt)))

dotted_short : (host : ℕ) → length (dotted host) ≤ 15
unfolding dotted
dotted_short host =
    let a = decimal_short (host / 16777216) in
    let b = decimal_short (host / 65536 % 256) in
    let c = decimal_short (host / 256 % 256) in
    let d = decimal_short (host % 256) in
    simp length-append (omega arith)

-- a string whose bytes fit into k words
opaque_short : (xs : List ℕ) (k : ℕ) → length xs ≤ 4 * k → length (opaque_bytes xs) ≤ 4 + 4 * k
opaque_short xs k h = rw (opaque_length xs) (omega arith)

-- the path of a row, and the row in the list
path_short : (t : Table) (r : ℕ) → path_length t r ≤ most_path_bytes → length (row_at t r).path ≤ most_path_bytes
unfolding row_at
path_short t r h = omega (arith, part_most t (row_start r + path_offset) (path_length t r))

mount_short : (t : Table) (r : ℕ) → path_length t r ≤ most_path_bytes → length (mount_bytes t r) ≤ most_mount_bytes
unfolding mount_bytes
mount_short t r h =
    let a = dotted_short (row_at t r).host in
    let b = opaque_short (dotted (row_at t r).host) 4 (omega arith) in
    let c = opaque_short (row_at t r).path 256 (path_short t r h) in
    simp (length-append, words_length) (omega arith)

cond_short : (b : Bool) (xs : List ℕ) (k : ℕ) → length xs ≤ k → length (cond b xs []) ≤ k
cond_short true xs k h = h
cond_short false xs k h = omega arith

-- the first n rows
rows_short : (t : Table) (n : ℕ) → Fits t → n ≤ rows → length (mounts_bytes t n) ≤ most_mount_bytes * n
unfolding mounts_bytes
rows_short t zero f l = omega arith
rows_short t (suc n) f l =
    let a = rows_short t n f (omega arith) in
    let b = cond_short (is_used_row t n) (mount_bytes t n) most_mount_bytes (mount_short t n (f.short n (omega arith))) in
    rw length-append (omega arith)

-- ---- the results of a procedure, which fit into the least reply space after the head of the reply
body_short : (s : Store) (t : Table) (r : MountReply) → WritableMount s t r → 24 + length (mount_result_bytes s t (result_of r)) ≤ least_mount_reply_bytes
unfolding mount_result_bytes words bytes_of opaque_bytes handle_of
body_short s t MountReply.Nothing w = lit≤ tt
body_short s t (MountReply.Failed status) w = lit≤ tt
body_short s t (MountReply.Mounted o) w = lit≤ tt
body_short s t MountReply.Mounts w = let k = rows_short t rows w (omega arith) in rw length-append (omega arith)
body_short s t MountReply.Exports w = lit≤ tt

-- a reply is at most the least reply space
pub reply_short : (s : Store) (t : Table) (r : MountReply) (xid : ℕ) → WritableMount s t r
    → length (accepted xid SUCCESS (mount_result_bytes s t (result_of r))) ≤ least_mount_reply_bytes
reply_short s t r xid w =
    let k = body_short s t r w in
    rw (accepted_length xid SUCCESS (mount_result_bytes s t (result_of r))) (omega arith)
