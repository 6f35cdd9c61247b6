-- What an object has that CREATE or MKDIR makes. Assumes nothing.
use mathlib.Core.Path.{◌≡◌, refl}
use mathlib.Core.Logic.{◌⊎◌, ⊎_elim}
use Prim.Native.Nat.{ℕ, ◌<◌}
use native.Mathlib.Omega.{arith}
use lib.Dec.{lit<, lit≤}
use Rattle.kinds.specs.Numbers.{REGULAR, DIRECTORY, kept_flag}
use Rattle.kinds.specs.Objects.{plain_object}
use Rattle.kinds.specs.declared.object.Time.{Time}
use Rattle.kinds.specs.declared.object.Object.{Object}
use Rattle.kinds.specs.declared.call.Settable.{Settable}
use Rattle.kinds.specs.declared.call.How.{How}
use Rattle.kinds.specs.declared.call.How.TheVariants as How
use Rattle.spec.specs.Edits.{with_attributes, only_ctime, with_verifier}
use Rattle.spec.specs.Procedures.Names.{new_object, settable_in, new_file}
use Rattle.laws.proofs.ArgumentRange.{FitsHow}
use Rattle.laws.proofs.GoodRecords.{GoodClock, clock_fits}
use Rattle.laws.proofs.PlainObject.{plain_fits, plain_live}
use Rattle.laws.proofs.Records.{FitsObject}
use Rattle.laws.proofs.SetAttributes.{FitsSettable, Allowed, attributes_fit, only_ctime_fits, attributes_live, verifier_fits, verifier_live}
use Rattle.laws.proofs.Valid.{LiveObject}

-- its numbers fit their places, it is as the check demands, whatever blocks there are, and it is empty
pub record FreshObject (v : Object) : Type 0 where
  pub fits : FitsObject v
  pub live : (r : ℕ) → LiveObject r v
  pub empty : v.size ≡ 0

-- of either type, with the attributes that a call sets
pub new_kind : (clock : Time) (kind : ℕ) (a : Settable) → (new_object clock kind a).kind ≡ kind
unfolding new_object with_attributes
new_kind clock kind a = refl

pub new_fresh : (clock : Time) (kind : ℕ) (a : Settable) → GoodClock clock → (kind ≡ REGULAR) ⊎ (kind ≡ DIRECTORY) → FitsSettable a → Allowed a
    → FreshObject (new_object clock kind a)
unfolding new_object with_attributes
new_fresh clock kind a c k f g =
    let v = plain_object kind 0 clock in
    let t = clock_fits clock c in
    let word : kind < 4294967296 = ⊎_elim (λ (e : kind ≡ 1). omega arith) (λ (e : kind ≡ 2). omega arith) k in
    record {
      fits = attributes_fit clock a v t f (plain_fits kind 0 clock word (lit< tt) t);
      live = λ r. attributes_live r clock a v c.nanoseconds g (plain_live r kind 0 clock k (lit≤ tt) c.nanoseconds);
      empty = refl;
    }

-- a file, in each manner of CREATE: its attributes fit
pub how_settable : (manner : How) → FitsHow manner → FitsSettable (settable_in manner)
how_settable (How.Unchecked a) f = f
how_settable (How.Guarded a) f = f
how_settable (How.Exclusive verifier) f = only_ctime_fits

pub file_kind : (clock : Time) (manner : How) → (new_file clock manner).kind ≡ REGULAR
unfolding with_verifier
file_kind clock (How.Unchecked a) = new_kind clock REGULAR a
file_kind clock (How.Guarded a) = new_kind clock REGULAR a
file_kind clock (How.Exclusive verifier) = new_kind clock REGULAR only_ctime

pub file_fresh : (clock : Time) (manner : How) → GoodClock clock → FitsHow manner → Allowed (settable_in manner) → FreshObject (new_file clock manner)
unfolding with_verifier
file_fresh clock (How.Unchecked a) c f g = new_fresh clock REGULAR a c (◌⊎◌.inl refl) f g
file_fresh clock (How.Guarded a) c f g = new_fresh clock REGULAR a c (◌⊎◌.inl refl) f g
file_fresh clock (How.Exclusive verifier) c f g =
    let v = new_object clock REGULAR only_ctime in
    let n = new_fresh clock REGULAR only_ctime c (◌⊎◌.inl refl) only_ctime_fits g in
    record {
      fits = verifier_fits verifier kept_flag v f (lit< tt) n.fits;
      live = λ r. verifier_live r verifier kept_flag v (◌⊎◌.inl (refl, new_kind clock REGULAR only_ctime)) (n.live r);
      empty = n.empty;
    }
