-- What the checks of CREATE and MKDIR tell of the object to be made. Assumes nothing.
use mathlib.Core.Logic.{◌⊎◌}
use Prim.Native.Nat.{ℕ}
use mathlib.Core.Path.{◌≡◌, refl, sym, ◌∙◌}
use mathlib.Core.List.{List}
use Rattle.kinds.specs.Numbers.{DIRECTORY}
use Rattle.kinds.specs.declared.numbers.ObjectNumber.{ObjectNumber}
use Rattle.kinds.specs.declared.numbers.NameNumber.{NameNumber}
use Rattle.kinds.specs.declared.object.Object.{Object}
use Rattle.kinds.specs.declared.object.Context.{Context}
use Rattle.kinds.specs.declared.call.Settable.{Settable}
use Rattle.kinds.specs.declared.call.How.{How}
use Rattle.spec.specs.Image.{Store}
use Rattle.spec.specs.Procedures.Names.{new_object, new, existing, settable_in, new_file}
use Rattle.laws.proofs.ActGood.{not_given}
use Rattle.laws.proofs.ArgumentRange.{FitsHow}
use Rattle.laws.proofs.Count.{true_false}
use Rattle.laws.proofs.GoodRecords.{GoodRecords, GoodClock, used_at}
use Rattle.laws.proofs.NewObject.{new_fresh, file_kind, file_fresh}
use Rattle.laws.proofs.Passed.{CreatePassed, MkdirPassed, found_record}
use Rattle.laws.proofs.SetAttributes.{FitsSettable}
use Rattle.check_make.specs.Meaning.{made_of}
use Rattle.act_change.specs.Makable.{Sizable, Makable}
use Rattle.check_make.specs.declared.checks.Target.{Target}

pub mkdir_makable : (s : Store) (c : Context) (h text : List ℕ) (a : Settable) (d o n : ℕ) (v : Object) → v ≡ new_object c.clock DIRECTORY a
    → GoodClock c.clock → FitsSettable a → MkdirPassed s h text a d o n → Makable s c v a.size o n d text
mkdir_makable s c h text a d o n v e k f p =
    rw e (record {
      clock = k;
      fresh = new_fresh c.clock DIRECTORY a k (◌⊎◌.inr refl) f p.allowed;
      sized = λ given. true_false (sym given ∙ p.no_size);
      small = p.allowed.size;
      room = rw (not_given a.size p.no_size) p.room;
      below = p.reached.below;
      directory = p.directory;
      good = p.good;
    })

module _ (s : Store) (h text : List ℕ) (manner : How) (a : Settable) (d : ℕ) (t : Target) (p : CreatePassed s h text manner d (made_of t))
    (e : a ≡ settable_in manner) where
  pub create_makable : (c : Context) (v : Object) (o : ObjectNumber) (n : NameNumber) → v ≡ new_file c.clock manner → t ≡ Target.New o n
      → GoodClock c.clock → FitsHow manner → Makable s c v a.size o.0 n.0 d text
  create_makable c v o n same is k f =
      let q : CreatePassed s h text manner d (new o.0 n.0) = rw is at p in
      rw (e, same) (record {
        clock = k;
        fresh = file_fresh c.clock manner k f q.allowed;
        sized = λ given. file_kind c.clock manner;
        small = q.allowed.size;
        room = q.target.1;
        below = q.reached.below;
        directory = q.directory;
        good = q.good;
      })

  pub create_sizable : (o : ObjectNumber) → t ≡ Target.Existing o → GoodRecords s → Sizable s o.0 a.size
  create_sizable o is g =
      let q : CreatePassed s h text manner d (existing o.0) = rw is at p in
      let (n, found, child, r) = q.target in
      let f = found_record s d text n found in
      let u = used_at s g n f.0 f.1 in
      rw e (record { below = rw child at u.0; regular = λ given. r.regular; small = q.allowed.size; room = r.room })
