-- The end of a call.
use Rattle.spec.specs.Xdr.{Reader, ◌>>◌, done, end}

-- a value that was read, where the call ends after it: for arguments, whole (done a)
abbrev pub ends : {A : Type 0} → A → Reader A
ends a = do
  end
  done a
