-- What any list of calls leaves in the mount table: it passes its check, and its rows are the pairs that are told. Assumes nothing.
use mathlib.Core.Path.{◌≡◌, sym, ap, ◌∙◌}
use mathlib.Core.Bool.{false}
use mathlib.Core.List.Memᴰ
use mathlib.Core.List.{List, [], ◌∷◌}
use Prim.Native.Nat.{ℕ, ◌+◌, ◌<◌}
use native.Mathlib.Omega.{arith}
use lib.ListN.{length-replicate}
use Rattle.kinds.specs.Mount.{rows, table_length, path_length_offset, row_length}
use Rattle.spec.specs.Bytes.{zeros, be_at}
use Rattle.spec.specs.Check.{is_zero}
use Rattle.laws.proofs.Count.{true_false}
use Rattle.laws.proofs.Tests.{false_nonzero}
use Rattle.laws.proofs.Zeros.{is_zero_zeros, part_zeros, be_zero}
use Rattle.mount_spec.specs.Table.{row_start, path_length, is_used_row, good_row}
use Rattle.mount_history.specs.Told.{pair_of, tell}
use Rattle.mount_history.specs.Run.{MountRequest, AllHosts, mount_outcome_of, mount_reply_to, MountState, mount_step, mount_run, empty_state}
use Rattle.mount_history.specs.Statement.{TablesKept, StillPasses}
use Rattle.mount_history.proofs.Steps.{Agrees, steps}
use Rattle.mount_history.proofs.Tables.{GoodTable, table_good, good_passes}

-- a call, and then any list of them
mount_step_lem : (w : MountState) (x : MountRequest) → x.host < 4294967296 → GoodTable w.table × Agrees w.table w.pairs
    → GoodTable (mount_step w x).table × Agrees (mount_step w x).table (mount_step w x).pairs
unfolding mount_step mount_reply_to tell
mount_step_lem w x h k = let s = steps w.table k.0 x h in (s.good, s.told w.pairs k.1)

mount_runs : (xs : List MountRequest) (w : MountState) → AllHosts xs → GoodTable w.table × Agrees w.table w.pairs
    → GoodTable (mount_run w xs).table × Agrees (mount_run w xs).table (mount_run w xs).pairs
unfolding mount_run
mount_runs [] w h k = k
mount_runs (x ∷ xs) w h k = mount_runs xs (mount_step w x) h.1 (mount_step_lem w x h.0 k)

-- an empty table is good, and has no pair
empty_free : (r : ℕ) → r < rows → is_used_row (zeros table_length) r ≡ false
unfolding is_used_row path_length
empty_free r l =
    let at = row_start r + path_length_offset in
    false_nonzero (be_at (zeros table_length) at 4) (be_zero (zeros table_length) at 4 (part_zeros table_length at 4 (omega arith)))

empty_good : GoodTable (zeros table_length)
unfolding good_row
empty_good =
    record {
      long = length-replicate {A = ℕ} table_length 0;
      good = λ r l. rw (empty_free r l) (ap is_zero (part_zeros table_length (row_start r) row_length (omega arith)) ∙ is_zero_zeros row_length);
      once = λ v q r g h. true_false (sym g.used ∙ empty_free q g.below);
    }

pub tables_kept : TablesKept
tables_kept xs h =
    let (g, k) = mount_runs xs empty_state h
    (empty_good, λ v. ((λ z. true_false (sym z.1.used ∙ empty_free z.0 z.1.below)), (λ z. absurd (Memᴰ.not-nil z)))) in
    record {
      check = good_passes (mount_run empty_state xs).table g;
      rows_told = λ host path. k (pair_of host path);
      once = g.once;
    }

pub still_passes : StillPasses
still_passes t x h e = good_passes (mount_outcome_of t x).table (steps t (table_good t e) x h).good
