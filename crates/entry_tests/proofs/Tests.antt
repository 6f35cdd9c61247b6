-- From what each test found to what serve says. Assumes nothing.
use mathlib.Core.Path.{◌≡◌}
use mathlib.Core.Bool.{true, false}
use mathlib.Core.List.{List}
use Prim.Native.Nat.{ℕ, ◌≤◌, ◌<◌}
use native.Mathlib.Omega.{arith}
use lib.ListN.{length}
use borrow.Author.Tests.{lt-ltb, le-ltb}
use Rattle.kinds.specs.Numbers.{least_reply_bytes, most_call_bytes, nanoseconds_end}
use Rattle.std.specs.Prelude.{Result}
use Rattle.kinds.specs.Reading.{got, bad, place_of, read_of}
use Rattle.kinds.specs.declared.call.Arguments.{Arguments}
use Rattle.kinds.specs.declared.call.Cursor.{Cursor}
use Rattle.kinds.specs.declared.call.Header.{Header}
use Rattle.kinds.specs.declared.reading.BadField.{BadField}
use Rattle.kinds.specs.declared.object.Context.{Context}
use Rattle.spec.specs.Check.{good_time, passes}
use Rattle.spec.specs.Header.{header, fault, header_fault}
use Rattle.spec.specs.Image.{Store}
use Rattle.spec.specs.Serve.{refuse, send, respond, serve}
use Rattle.laws.proofs.GoodRecords.{GoodClock}
use Rattle.laws.proofs.Places.{inside_header, inside_arguments}
use Rattle.laws.proofs.Range.{Below}
use Rattle.laws.proofs.Valid.{valid}
use Rattle.store_blocks.specs.Blocks.{UsedMap}
use Rattle.rpc.specs.Meaning.{procedure_of}
use Rattle.call_whole.specs.After.{arguments_after}
use Rattle.entry_tests.specs.Opens.{Hears}

-- ---- each answer
module _ (call : List ℕ) (s : Store) (space : List ℕ) (c : Context) where
  pub small_space : length space < least_reply_bytes → serve call s space c ≡ refuse (fault 2 0) space s
  unfolding serve
  small_space a = rw (lt-ltb (length space) least_reply_bytes a)

  module _ (a : least_reply_bytes ≤ length space) where
    pub bad_clock : nanoseconds_end ≤ c.clock.nanoseconds → serve call s space c ≡ refuse (fault 3 0) space s
    unfolding serve good_time
    bad_clock b = rw (le-ltb (length space) least_reply_bytes a, le-ltb c.clock.nanoseconds nanoseconds_end b)

    module _ (b : c.clock.nanoseconds < nanoseconds_end) where
      pub long_call : most_call_bytes < length call → serve call s space c ≡ refuse (fault 4 0) space s
      unfolding serve good_time
      long_call d = rw (le-ltb (length space) least_reply_bytes a, lt-ltb c.clock.nanoseconds nanoseconds_end b, lt-ltb most_call_bytes (length call) d)

      module _ (d : length call ≤ most_call_bytes) where
        pub bad_store : passes s ≡ false → serve call s space c ≡ refuse (fault 1 0) space s
        unfolding serve good_time
        bad_store e = rw (le-ltb (length space) least_reply_bytes a, lt-ltb c.clock.nanoseconds nanoseconds_end b, le-ltb most_call_bytes (length call) d, e)

        module _ (e : passes s ≡ true) where
          pub bad_header : (p : ℕ) → header call 0 ≡ bad p → serve call s space c ≡ refuse (header_fault call p) space s
          unfolding serve good_time
          bad_header p q = rw (
            le-ltb (length space) least_reply_bytes a,
            lt-ltb c.clock.nanoseconds nanoseconds_end b,
            le-ltb most_call_bytes (length call) d,
            e,
            q,
          )

          heard : (h : Header) (at : ℕ) → header call 0 ≡ got h at → serve call s space c ≡ send space (respond s c call h at)
          unfolding serve good_time
          heard h at q = rw (
            le-ltb (length space) least_reply_bytes a,
            lt-ltb c.clock.nanoseconds nanoseconds_end b,
            le-ltb most_call_bytes (length call) d,
            e,
            q,
          )

          pub hears : (used : List ℕ) (h : Header) (at : ℕ) (x : Result (Arguments × Cursor) BadField) → header call 0 ≡ got h at → read_of x ≡ arguments_after call (header call 0)
              → UsedMap s used → Below 256 s → GoodClock c.clock → Hears call s space c used h at x
          unfolding procedure_of
          hears used h at x q y m w k =
              record {
                serves = heard h at q;
                room = a;
                ready = record { valid = valid s e; bytes = w; map = m; clock = k };
                read = rw q at y;
                inside = rw y (omega (arith, (inside_arguments (procedure_of (header call 0))).place call (place_of (header call 0)) (inside_header.place call 0 (omega arith))));
              }
