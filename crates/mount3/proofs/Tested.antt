-- From what each test found to what serveMount says. Assumes nothing.
use mathlib.Core.Path.{◌≡◌}
use mathlib.Core.Bool.{true, false}
use mathlib.Core.List.{List}
use Prim.Native.Nat.{ℕ, ◌≤◌, ◌<◌}
use native.Mathlib.Omega.{arith}
use lib.ListN.{length}
use borrow.Author.Tests.{lt-ltb, le-ltb}
use Rattle.kinds.specs.Mount.{least_mount_reply_bytes}
use Rattle.kinds.specs.Numbers.{most_call_bytes}
use Rattle.std.specs.Prelude.{Result}
use Rattle.kinds.specs.Reading.{got, bad, place_of, read_of}
use Rattle.kinds.specs.declared.numbers.Fault.{Fault}
use Rattle.kinds.specs.declared.call.Cursor.{Cursor}
use Rattle.kinds.specs.declared.call.Header.{Header}
use Rattle.kinds.specs.declared.mount.MountArguments.{MountArguments}
use Rattle.kinds.specs.declared.reading.BadField.{BadField}
use Rattle.spec.specs.Check.{passes}
use Rattle.spec.specs.Header.{header, fault, header_fault}
use Rattle.spec.specs.Image.{Store}
use Rattle.laws.proofs.GoodRecords.{valid_records}
use Rattle.laws.proofs.Places.{inside_header}
use Rattle.laws.proofs.Range.{Below}
use Rattle.laws.proofs.Valid.{valid}
use Rattle.rpc.specs.Meaning.{procedure_of}
use Rattle.mount_spec.specs.Serve.{refuse_mount, send_mount, respond_mount, serve_mount}
use Rattle.mount_spec.specs.Table.{Table, passes_table}
use Rattle.mount_laws.proofs.Paths.{inside_arguments}
use Rattle.mount_call.specs.Reading.{mount_arguments_after}
use Rattle.mount3.specs.Opens.{HearsMount}
use Rattle.mount3.proofs.Fitting.{table_fits}

-- ---- each answer
module _ (call : List ℕ) (s : Store) (t : Table) (space : List ℕ) where
  -- the call is refused, whatever the host
  abbrev Refuses : Fault → Type 0
  Refuses f = (host : ℕ) → serve_mount call s t space host ≡ refuse_mount f space t

  pub small_space : length space < least_mount_reply_bytes → Refuses (fault 2 0)
  unfolding serve_mount
  small_space a host = rw (lt-ltb (length space) least_mount_reply_bytes a)

  module _ (a : least_mount_reply_bytes ≤ length space) where
    pub long_call : most_call_bytes < length call → Refuses (fault 4 0)
    unfolding serve_mount
    long_call b host = rw (le-ltb (length space) least_mount_reply_bytes a, lt-ltb most_call_bytes (length call) b)

    module _ (b : length call ≤ most_call_bytes) where
      pub bad_store : passes s ≡ false → Refuses (fault 1 0)
      unfolding serve_mount
      bad_store d host = rw (le-ltb (length space) least_mount_reply_bytes a, le-ltb most_call_bytes (length call) b, d)

      module _ (d : passes s ≡ true) where
        pub bad_table : passes_table t ≡ false → Refuses (fault 12 0)
        unfolding serve_mount
        bad_table e host = rw (le-ltb (length space) least_mount_reply_bytes a, le-ltb most_call_bytes (length call) b, d, e)

        module _ (e : passes_table t ≡ true) where
          pub bad_header : (p : ℕ) → header call 0 ≡ bad p → Refuses (header_fault call p)
          unfolding serve_mount
          bad_header p q host = rw (le-ltb (length space) least_mount_reply_bytes a, le-ltb most_call_bytes (length call) b, d, e, q)

          heard : (h : Header) (at : ℕ) → header call 0 ≡ got h at
              → (host : ℕ) → serve_mount call s t space host ≡ send_mount space (respond_mount s t host call h at)
          unfolding serve_mount
          heard h at q host = rw (le-ltb (length space) least_mount_reply_bytes a, le-ltb most_call_bytes (length call) b, d, e, q)

          pub hears : (h : Header) (at : ℕ) (x : Result (MountArguments × Cursor) BadField) → header call 0 ≡ got h at → read_of x ≡ mount_arguments_after call (header call 0)
              → Below 256 s → HearsMount call s t space h at x
          unfolding procedure_of
          hears h at x q y w =
              record {
                serves = heard h at q;
                room = a;
                good = valid_records s (valid s d) w;
                fits = table_fits t e;
                read = rw q at y;
                inside = rw y (omega (arith, (inside_arguments (procedure_of (header call 0))).place call (place_of (header call 0)) (inside_header.place call 0 (omega arith))));
              }
