-- What a procedure of MOUNT leaves.
use Rattle.std.specs.Prelude.{◌≡◌, Result, Ok, Err}
use Rattle.kinds.specs.declared.numbers.ObjectNumber.{ObjectNumber}
use Rattle.kinds.specs.declared.numbers.Status.{Status}
use Rattle.spec.specs.Image.{Store}
use Rattle.results.specs.Writable.{Showable}
use Rattle.mount_spec.specs.Procedures.{MountDone}
use Rattle.mount_spec.specs.Table.{Table}
use Rattle.mount_results.specs.Meaning.{result_of}
use Rattle.mount_results.specs.declared.MountReply.{MountReply}

-- the answer to MNT
abbrev pub reply_of : Result ObjectNumber Status → MountReply
reply_of (Ok o) = MountReply.Mounted o
reply_of (Err status) = MountReply.Failed status

-- an answer and a table are what a procedure gives
pub record Acts (d : MountDone) (r : MountReply) (t : Table) : Type 0 where
  pub answers : result_of r ≡ d.result
  pub leaves : t ≡ d.table

-- a directory that was mounted can be shown
abbrev pub Mountable : Store → MountReply → Type 0
Mountable s MountReply.Nothing = Unit {0}
Mountable s (MountReply.Failed status) = Unit {0}
Mountable s (MountReply.Mounted o) = Showable s o.0
Mountable s MountReply.Mounts = Unit {0}
Mountable s MountReply.Exports = Unit {0}
