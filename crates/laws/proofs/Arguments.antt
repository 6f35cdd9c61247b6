-- The arguments of calls: what holds of each row of the table of their forms holds of every procedure; when all their parts lie within the
-- call. Assumes nothing.
use Prim.Native.Nat.{ℕ, ◌+◌, ◌≤◌}
use mathlib.Core.Bool.{Bool, true, false, cond}
use mathlib.Core.Path.{◌≡◌, refl, sym, subst}
use lib.Dec.{eqb}
use borrow.Author.Tests.{eqb-true}
use Rattle.kinds.specs.declared.call.Part.{Part}
use Rattle.kinds.specs.declared.call.NameIn.{NameIn}
use Rattle.kinds.specs.declared.call.Arguments.{Arguments}
use Rattle.kinds.specs.declared.call.Arguments.TheVariants as Call
use Rattle.spec.specs.Arguments.{Form, none, handle_then, name_then, unread, form, alone, setattr_arguments, access_arguments, read_arguments}
use Rattle.spec.specs.Arguments.{write_arguments, create_arguments, mkdir_arguments, rename_arguments, link_arguments, readdir_arguments, commit_arguments}

-- ---- the table
-- P of each row, and of a procedure that is not served
pub record Rows (P : ℕ → Form → Type 0) : Type 0 where
  pub null : P 0 none
  pub getattr : P 1 (handle_then (alone Call.Getattr))
  pub setattr : P 2 (handle_then setattr_arguments)
  pub lookup : P 3 (name_then (alone Call.Lookup))
  pub access : P 4 (handle_then access_arguments)
  pub read : P 6 (handle_then read_arguments)
  pub write : P 7 (handle_then write_arguments)
  pub create : P 8 (name_then create_arguments)
  pub mkdir : P 9 (name_then mkdir_arguments)
  pub remove : P 12 (name_then (alone Call.Remove))
  pub rmdir : P 13 (name_then (alone Call.Rmdir))
  pub rename : P 14 (name_then rename_arguments)
  pub link : P 15 (handle_then link_arguments)
  pub readdir : P 16 (handle_then readdir_arguments)
  pub fsstat : P 18 (handle_then (alone Call.Fsstat))
  pub fsinfo : P 19 (handle_then (alone Call.Fsinfo))
  pub pathconf : P 20 (handle_then (alone Call.Pathconf))
  pub commit : P 21 (handle_then commit_arguments)
  pub others : (p : ℕ) → P p unread

pub by_procedure : (P : ℕ → Form → Type 0) → Rows P → (p : ℕ) → P p (form p)
unfolding form
by_procedure P rows p =
    row 0 rows.null
    (row 1 rows.getattr
    (row 2 rows.setattr
    (row 3 rows.lookup
    (row 4 rows.access
    (row 6 rows.read
    (row 7 rows.write
    (row 8 rows.create
    (row 9 rows.mkdir
    (row 12 rows.remove
    (row 13 rows.rmdir
    (row 14 rows.rename
    (row 15 rows.link
    (row 16 rows.readdir
    (row 18 rows.fsstat
    (row 19 rows.fsinfo
    (row 20 rows.pathconf
    (row 21 rows.commit
    (rows.others p))))))))))))))))))
  where
    row : (n : ℕ) {x y : Form} → P n x → P p y → P p (cond (eqb p n) x y)
    row n {x} {y} here there = tested (eqb p n) refl
      where
        tested : (t : Bool) → eqb p n ≡ t → P p (cond t x y)
        tested true e = subst (λ (q : ℕ). P q x) (sym (eqb-true p n e)) here
        tested false e = there

-- ---- parts
-- a part, and the two parts of a name in a directory, of a call of n bytes
abbrev pub PartWithin : ℕ → Part → Type 0
PartWithin n p = p.start + p.length ≤ n

abbrev pub NameWithin : ℕ → NameIn → Type 0
NameWithin n x = PartWithin n x.directory × PartWithin n x.name

-- every part of a procedure's arguments
abbrev pub Within : ℕ → Arguments → Type 0
Within n Call.Null = Unit {0}
Within n (Call.Getattr object) = PartWithin n object
Within n (Call.Setattr object attributes given) = PartWithin n object
Within n (Call.Lookup place) = NameWithin n place
Within n (Call.Access object bits) = PartWithin n object
Within n (Call.Read file offset count) = PartWithin n file
Within n (Call.Write file offset count bytes) = PartWithin n file × PartWithin n bytes
Within n (Call.Create place manner) = NameWithin n place
Within n (Call.Mkdir place attributes) = NameWithin n place
Within n (Call.Remove place) = NameWithin n place
Within n (Call.Rmdir place) = NameWithin n place
Within n (Call.Rename old new) = NameWithin n old × NameWithin n new
Within n (Call.Link file place) = PartWithin n file × NameWithin n place
Within n (Call.Readdir directory cookie verifier count) = PartWithin n directory
Within n (Call.Fsstat object) = PartWithin n object
Within n (Call.Fsinfo object) = PartWithin n object
Within n (Call.Pathconf object) = PartWithin n object
Within n (Call.Commit file) = PartWithin n file
Within n Call.Unserved = Unit {0}
