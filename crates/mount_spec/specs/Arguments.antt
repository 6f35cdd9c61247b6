-- The argument types of MOUNT version 3 (RFC 1813 section 5.2), as readers.
use Rattle.std.specs.Prelude.{ℕ, cond, eqb}
use Rattle.kinds.specs.Mount.{most_path_bytes}
use Rattle.kinds.specs.declared.call.Part.{Part}
use Rattle.kinds.specs.declared.mount.MountArguments.{MountArguments}
use Rattle.kinds.specs.declared.mount.MountArguments.TheVariants as Mount
use Rattle.spec.specs.Xdr.{Reader, ◌>>=◌, ◌>>◌, done, opaque, end}

-- "Paths are `dirpath<1024>`: more is GARBAGE_ARGS"
unfoldable pub dirpath : Reader Part
dirpath = opaque most_path_bytes

-- a path, and then the end of the call
abbrev pub path_alone : Reader Part
path_alone = do
  path ← dirpath
  end
  done path

-- the arguments that are a path
abbrev pub of_path : (Part → MountArguments) → Reader MountArguments
of_path f = do
  path ← path_alone
  done (f path)

-- "The void procedures with bytes left over: GARBAGE_ARGS."
abbrev pub of_nothing : MountArguments → Reader MountArguments
of_nothing a = do
  end
  done a

-- NULL, MNT, DUMP, UMNT, UMNTALL, EXPORT
unfoldable pub mount_arguments : ℕ → Reader MountArguments
mount_arguments p =
    cond (eqb p 1) (of_path Mount.Mnt)
    (cond (eqb p 2) (of_nothing Mount.Dump)
    (cond (eqb p 3) (of_path Mount.Umnt)
    (cond (eqb p 4) (of_nothing Mount.Umntall)
    (cond (eqb p 5) (of_nothing Mount.Export)
    (of_nothing Mount.Null)))))
