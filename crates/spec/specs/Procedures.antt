-- What a call does, by what was read of its arguments. Each procedure is its checks in order, then its edits of the store, then its result.
pub mod Attributes
pub mod Data
pub mod Names
pub mod Removal
pub mod Link
pub mod Listing
pub mod Volume
use Rattle.std.specs.Prelude.{ℕ, List}
use Rattle.kinds.specs.Numbers.{NOTSUPP}
use Rattle.kinds.specs.declared.object.Context.{Context}
use Rattle.kinds.specs.declared.call.Part.{Part}
use Rattle.kinds.specs.declared.call.Arguments.{Arguments}
use Rattle.kinds.specs.declared.call.Arguments.TheVariants as Arguments
use Rattle.spec.specs.Bytes.{part}
use Rattle.spec.specs.Count.{count}
use Rattle.spec.specs.Image.{Store}
use Rattle.spec.specs.Procedures.Attributes.{getattr, setattr, access}
use Rattle.spec.specs.Procedures.Data.{read, write, commit}
use Rattle.spec.specs.Procedures.Link.{link}
use Rattle.spec.specs.Procedures.Listing.{readdir}
use Rattle.spec.specs.Procedures.Names.{lookup, create, mkdir}
use Rattle.spec.specs.Procedures.Removal.{remove, rmdir, rename}
use Rattle.spec.specs.Procedures.Volume.{fsstat, fsinfo, pathconf}
use Rattle.spec.specs.Results.{Done, unchanged, null, dead}
use Rattle.spec.specs.Xdr.{bytes}

-- the bytes of a part of the call
abbrev pub cut : List ℕ → Part → List ℕ
cut call p = part call p.start p.length

-- what a call does, by what was read of its arguments
unfoldable pub act : Store → Context → List ℕ → Arguments → Done
act s c call Arguments.Null = unchanged s null
act s c call (Arguments.Getattr h) = getattr s (cut call h)
act s c call (Arguments.Setattr h a g) = setattr s c (cut call h) a g
act s c call (Arguments.Lookup p) = lookup s (cut call p.directory) (cut call p.name)
act s c call (Arguments.Access h bits) = access s (cut call h) bits
act s c call (Arguments.Read h offset count) = read s (cut call h) offset count
act s c call (Arguments.Write h offset count bytes) = write s c (cut call h) offset count (cut call bytes)
act s c call (Arguments.Create p manner) = create s c (cut call p.directory) (cut call p.name) manner
act s c call (Arguments.Mkdir p a) = mkdir s c (cut call p.directory) (cut call p.name) a
act s c call (Arguments.Remove p) = remove s c (cut call p.directory) (cut call p.name)
act s c call (Arguments.Rmdir p) = rmdir s c (cut call p.directory) (cut call p.name)
act s c call (Arguments.Rename p q) = rename s c (cut call p.directory) (cut call p.name) (cut call q.directory) (cut call q.name)
act s c call (Arguments.Link h p) = link s c (cut call h) (cut call p.directory) (cut call p.name)
act s c call (Arguments.Readdir h cookie verifier count) = readdir s (cut call h) cookie verifier count
act s c call (Arguments.Fsstat h) = fsstat s (cut call h)
act s c call (Arguments.Fsinfo h) = fsinfo s (cut call h)
act s c call (Arguments.Pathconf h) = pathconf s (cut call h)
act s c call (Arguments.Commit h) = commit s c (cut call h)
act s c call Arguments.Unserved = unchanged s (dead NOTSUPP)
