-- The bytes of each result of MOUNT version 3, as RFC 1813 section 5.2 writes their structures.
use Rattle.std.specs.Prelude.{ℕ, zero, suc, ◌+◌, ◌/◌, ◌%◌, List, [], ◌∷◌, ◌++◌, cond, ltb}
use Rattle.kinds.specs.Mount.{rows, none_flavor, unix_flavor}
use Rattle.kinds.specs.Numbers.{OK}
use Rattle.spec.specs.Bytes.{words, opaque_bytes}
use Rattle.spec.specs.Handles.{handle_of}
use Rattle.spec.specs.Image.{Store}
use Rattle.mount_spec.specs.Path.{slash}
use Rattle.mount_spec.specs.Procedures.{MountResult, nothing, failed, mounted, mounts, exports}
use Rattle.mount_spec.specs.Table.{Table, is_used_row, row_at}

-- the digit of a number below 10, and a full stop
abbrev pub digit : ℕ → ℕ
digit n = 0x30 + n

abbrev pub stop : ℕ
stop = 0x2E

-- a number below 256 in decimal: "no leading zeros"
unfoldable pub decimal : ℕ → List ℕ
decimal n =
    cond (ltb n 10) (digit n ∷ [])
    (cond (ltb n 100) (digit (n / 10) ∷ digit (n % 10) ∷ [])
    (digit (n / 100) ∷ digit (n / 10 % 10) ∷ digit (n % 10) ∷ []))

-- "listed as dotted decimal": "the host's number has the first decimal in its highest byte"
unfoldable pub dotted : ℕ → List ℕ
dotted host =
    decimal (host / 16777216) ++ (stop ∷ decimal (host / 65536 % 256)) ++ (stop ∷ decimal (host / 256 % 256)) ++ (stop ∷ decimal (host % 256))

-- mountbody: value follows, ml_hostname, ml_directory
unfoldable pub mount_bytes : Table → ℕ → List ℕ
mount_bytes t r = words (1 ∷ []) ++ opaque_bytes (dotted (row_at t r).host) ++ opaque_bytes (row_at t r).path

-- the used ones of the first n rows: "DUMP goes by row"
unfoldable pub mounts_bytes : Table → ℕ → List ℕ
mounts_bytes t zero = []
mounts_bytes t (suc n) = mounts_bytes t n ++ cond (is_used_row t n) (mount_bytes t n) []

-- exportnode: value follows, ex_dir, ex_groups: "One export, "/", no groups."; then the list ends
abbrev pub exports_bytes : List ℕ
exports_bytes = words (1 ∷ []) ++ opaque_bytes (slash ∷ []) ++ words (0 ∷ 0 ∷ [])

-- the results of a procedure
unfoldable pub mount_result_bytes : Store → Table → MountResult → List ℕ
mount_result_bytes s t nothing = []
mount_result_bytes s t (failed status) = words (status ∷ [])
-- mountres3_ok: fhandle, auth_flavors
mount_result_bytes s t (mounted o) = words (OK ∷ []) ++ opaque_bytes (handle_of s o) ++ words (2 ∷ none_flavor ∷ unix_flavor ∷ [])
mount_result_bytes s t mounts = mounts_bytes t rows ++ words (0 ∷ [])
mount_result_bytes s t exports = exports_bytes
