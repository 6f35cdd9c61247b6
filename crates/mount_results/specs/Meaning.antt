-- What an answer of the code stands for.
use Rattle.mount_spec.specs.Procedures.{MountResult, nothing, failed, mounted, mounts, exports}
use Rattle.mount_results.specs.declared.MountReply.{MountReply}
use Rattle.mount_results.specs.declared.MountReply.TheVariants as MountReply

-- the result that an answer stands for
abbrev pub result_of : MountReply → MountResult
result_of MountReply.Nothing = nothing
result_of (MountReply.Failed status) = failed status.0
result_of (MountReply.Mounted o) = mounted o.0
result_of MountReply.Mounts = mounts
result_of MountReply.Exports = exports
