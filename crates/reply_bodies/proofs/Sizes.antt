-- How many words a change and attributes take. Assumes nothing.
use Prim.Native.Nat.{◌≤◌}
use lib.ListN.{length}
use lib.Dec.{lit≤}
use Rattle.std.specs.Prelude.{Option, Some, None}
use Rattle.kinds.specs.declared.numbers.ObjectNumber.{ObjectNumber}
use Rattle.spec.specs.Image.{Store}
use Rattle.spec.specs.Replies.{fattr3, post_op, post_op_option, pre_op, wcc_data, wcc_option}
use Rattle.results.specs.Meaning.{handle_attributes_in, handle_change_in}
use Rattle.results.specs.declared.ObjectChange.{ObjectChange}

pub change_small : (s : Store) (c : Option ObjectChange) → length (wcc_option (handle_change_in s c)) ≤ 29
unfolding wcc_data pre_op post_op fattr3
change_small s None = lit≤ tt
change_small s (Some c) = lit≤ tt

pub object_small : (s : Store) (o : Option ObjectNumber) → length (post_op_option (handle_attributes_in s o)) ≤ 22
unfolding post_op fattr3
object_small s None = lit≤ tt
object_small s (Some o) = lit≤ tt
