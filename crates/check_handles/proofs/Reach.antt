-- The fields of a handle as they are read from a call, and what is known of an object that a handle reached. Assumes nothing.
use Prim.Native.Nat.{ℕ, ◌+◌, ◌≤◌}
use mathlib.Core.Path.{◌≡◌, refl, sym, ap, ◌∙◌}
use mathlib.Core.List.{List}
use native.Mathlib.Omega.{arith}
use native.Mathlib.Nat.{add-zero}
use lib.ListN.{length}
use Rattle.kinds.specs.Numbers.{REGULAR, DIRECTORY, handle_length}
use Rattle.kinds.specs.declared.numbers.ObjectNumber.{ObjectNumber}
use Rattle.kinds.specs.declared.numbers.Status.{Status}
use Rattle.std.specs.Prelude.{Result, Ok, Err}
use Rattle.std.specs.Result.{result_ok}
use Rattle.kinds.specs.declared.call.Part.{Part}
use Rattle.spec.specs.Bytes.{be_at}
use Rattle.spec.specs.Handles.{reach, reach_directory}
use Rattle.spec.specs.Image.{Store, object_at}
use Rattle.spec.specs.Procedures.{cut}
use Rattle.spec.specs.Procedures.Data.{reach_regular}
use Rattle.laws.proofs.Bytes.{part_length, be_part}
use Rattle.laws.proofs.Passed as passed
use Rattle.laws.proofs.Passed.{reach_passed, directory_passed, regular_passed}
use Rattle.laws.proofs.GoodRecords.{GoodRecords}
use Rattle.results.specs.Writable.{Showable, ShowableObject}
use Rattle.check_handles.specs.Meaning.{reached_of}

pub record HandleRead (call : List ℕ) (h : Part) : Type 0 where
  pub long : length (cut call h) ≡ handle_length
  pub stamp : be_at (cut call h) 0 4 ≡ be_at call h.start 4
  pub object : be_at (cut call h) 4 4 ≡ be_at call (h.start + 4) 4
  pub generation : be_at (cut call h) 8 4 ≡ be_at call (h.start + 8) 4

pub handle_read : (call : List ℕ) (h : Part) → h.start + h.length ≤ length call → h.length ≡ handle_length → HandleRead call h
handle_read call h f e =
    record {
      long = part_length call h.start h.length f ∙ e;
      stamp = be_part call h.start h.length 0 4 (omega arith) ∙ ap (λ (i : ℕ). be_at call i 4) (add-zero h.start);
      object = be_part call h.start h.length 4 4 (omega arith);
      generation = be_part call h.start h.length 8 4 (omega arith);
    }

module _ (s : Store) (h : List ℕ) (r : Result ObjectNumber Status) (o : ObjectNumber) (is : r ≡ Ok o) where
  pub object_reached : reached_of r ≡ reach s h → passed.Reached s h o.0
  object_reached e = reach_passed s h o.0 (sym e ∙ ap reached_of is)

  pub directory_reached : reached_of r ≡ reach_directory s h → passed.Reached s h o.0 × ((object_at s o.0).kind ≡ DIRECTORY)
  directory_reached e = directory_passed s h o.0 (sym e ∙ ap reached_of is)

  pub regular_reached : reached_of r ≡ reach_regular s h → passed.Reached s h o.0 × ((object_at s o.0).kind ≡ REGULAR)
  regular_reached e = regular_passed s h o.0 (sym e ∙ ap reached_of is)

  pub object_showable : GoodRecords s → reached_of r ≡ reach s h → Showable s o.0
  object_showable g e = record { good = g; object = (object_reached e).below }

  pub regular_showable : GoodRecords s → reached_of r ≡ reach_regular s h → Showable s o.0
  regular_showable g e = record { good = g; object = (regular_reached e).0.below }

-- the object, where there is one
pub reached_showable : (s : Store) (h : List ℕ) (r : Result ObjectNumber Status) → GoodRecords s → reached_of r ≡ reach s h → ShowableObject s (result_ok r)
reached_showable s h (Ok o) g e = object_showable s h (Ok o) o refl g e
reached_showable s h (Err status) g e = tt
