-- The arguments of MOUNT after a header.
use Rattle.std.specs.Prelude.{ℕ, List}
use Rattle.kinds.specs.Reading.{Read, place_of}
use Rattle.kinds.specs.declared.call.Header.{Header}
use Rattle.kinds.specs.declared.mount.MountArguments.{MountArguments}
use Rattle.rpc.specs.Meaning.{procedure_of}
use Rattle.mount_spec.specs.Arguments.{mount_arguments}

-- the arguments of the procedure that the header names, read where the header ends
abbrev pub mount_arguments_after : List ℕ → Read Header → Read MountArguments
mount_arguments_after call h = mount_arguments (procedure_of h) call (place_of h)
