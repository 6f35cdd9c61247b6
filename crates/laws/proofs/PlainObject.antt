-- An object without blocks, with ids 0 and all its times from one clock: what a root and a new object start from. Assumes nothing.
use mathlib.Core.Path.{◌≡◌, refl}
use mathlib.Core.Logic.{◌⊎◌}
use Prim.Native.Nat.{ℕ, ◌^◌, ◌≤◌, ◌<◌}
use native.Mathlib.Omega.{arith}
use lib.Dec.{lit<, lit≤}
use lib.ListN.{get_or-replicate}
use Rattle.kinds.specs.Numbers.{REGULAR, DIRECTORY, nanoseconds_end, file_blocks, unused_block, most_mode}
use Rattle.kinds.specs.Objects.{plain_object}
use Rattle.kinds.specs.declared.object.Time.{Time}
use Rattle.laws.proofs.Records.{FitsTime, FitsObject}
use Rattle.laws.proofs.Valid.{GoodSize, LiveObject}
use Rattle.laws.proofs.WordRange.{below_same}

pub plain_fits : (kind mode : ℕ) (clock : Time) → kind < 2 ^ 32 → mode < 2 ^ 32 → FitsTime clock → FitsObject (plain_object kind mode clock)
plain_fits kind mode clock k m c =
    record {
      kind = k;
      generation = lit< tt;
      mode = m;
      uid = lit< tt;
      gid = lit< tt;
      size = lit< tt;
      atime = c;
      mtime = c;
      ctime = c;
      long = refl;
      halves = below_same (2 ^ 16) file_blocks unused_block (lit< tt) (lit< tt);
      verifier = lit< tt;
      exclusive = lit< tt;
    }

pub plain_live : (r kind mode : ℕ) (clock : Time) → (kind ≡ REGULAR) ⊎ (kind ≡ DIRECTORY) → mode ≤ most_mode → clock.nanoseconds < nanoseconds_end
    → LiveObject r (plain_object kind mode clock)
plain_live r kind mode clock k m c =
    record {
      generation = lit< tt;
      mode = m;
      atime = c;
      mtime = c;
      ctime = c;
      size = of_kind k;
      verifier = ◌⊎◌.inr (refl, refl);
      held = λ j b. absurd (omega arith);
      rest = λ j b d. get_or-replicate file_blocks j unused_block 0 d;
    }
  where
    of_kind : (kind ≡ REGULAR) ⊎ (kind ≡ DIRECTORY) → GoodSize (plain_object kind mode clock)
    of_kind (◌⊎◌.inl e) = ◌⊎◌.inl (e, lit≤ tt)
    of_kind (◌⊎◌.inr e) = ◌⊎◌.inr (e, refl)
