-- What passed checks give to the edit, and what a failure shows. Assumes nothing.
use Prim.Native.Nat.{ℕ, ◌+◌, ◌≤◌}
use mathlib.Core.Path.{◌≡◌, refl, sym, ap, ◌∙◌}
use mathlib.Core.Bool.{true, false, not}
use mathlib.Core.List.{List}
use native.Mathlib.Omega.{arith}
use lib.ListN.{length}
use Rattle.kinds.specs.Numbers.{most_name_bytes}
use Rattle.std.specs.Prelude.{Result, Ok, Option, Some, None, is_some}
use Rattle.kinds.specs.declared.numbers.Status.{Status}
use Rattle.kinds.specs.declared.numbers.ObjectNumber.{ObjectNumber}
use Rattle.kinds.specs.declared.object.Context.{Context}
use Rattle.kinds.specs.declared.call.NameIn.{NameIn}
use Rattle.kinds.specs.declared.call.Part.{Part}
use Rattle.kinds.specs.declared.call.Arguments.TheVariants as Arguments
use Rattle.spec.specs.Checked.{passed}
use Rattle.spec.specs.Image.{Store}
use Rattle.spec.specs.Procedures.{cut, act}
use Rattle.spec.specs.Procedures.Link.{check_link, link_edit, link, linked_or}
use Rattle.spec.specs.Results.{dead, linked}
use Rattle.results.specs.declared.ObjectChange.{ObjectChange}
use Rattle.results.specs.Meaning.{handle_attributes_in, handle_change_in}
use Rattle.laws.proofs.ActGood.{act_good}
use Rattle.laws.proofs.Bytes.{part_length}
use Rattle.laws.proofs.GoodRecords.{GoodRecords, StillGood, GoodClock}
use Rattle.laws.proofs.Passed.{link_passed}
use Rattle.laws.proofs.Range.{Below}
use Rattle.laws.proofs.Valid.{Valid}
use Rattle.edit_entries.specs.Records.{LinkableAt}
use Rattle.check_link.specs.Meaning.{linkable_of}
use Rattle.check_link.specs.declared.Linkable.{Linkable}

pub record Linking (s : Store) (c : Context) (o d n size : ℕ) (text : List ℕ) : Type 0 where
  pub at : LinkableAt s o d n
  pub short : size ≤ most_name_bytes
  pub still : StillGood s (link_edit s c o d n text)

module _ (s : Store) (c : Context) (v : Valid s) (g : GoodRecords s) (k : GoodClock c.clock) (call : List ℕ) (w : Below 256 call) (h : Part) (p : NameIn)
    (fits : p.name.start + p.name.length ≤ length call) where
  linking : (o d n : ℕ) → check_link s (cut call h) (cut call p.directory) (cut call p.name) ≡ passed (o, d, n)
      → Linking s c o d n p.name.length (cut call p.name)
  unfolding act link
  linking o d n e =
      let y = link_passed s (cut call h) (cut call p.directory) (cut call p.name) (o, d, n) e in
      record {
        at = record { file = y.reached.below; directory = y.directory_reached.below; name = y.name_below };
        short = omega (arith, y.good.short, part_length call p.name.start p.name.length fits);
        still = rw e at (act_good s c v g.sound.bytes k call (Arguments.Link h p) w tt);
      }

  -- the same of the answer of the code
  pub link_found : (r : Result Linkable Status) (at : Linkable) → r ≡ Ok at
      → linkable_of r ≡ check_link s (cut call h) (cut call p.directory) (cut call p.name)
      → Linking s c at.file.0 at.directory.0 at.name.0 p.name.length (cut call p.name)
  link_found r at is e = linking at.file.0 at.directory.0 at.name.0 (sym e ∙ ap linkable_of is)

-- ---- what a failure shows
module _ (s : Store) (status : ℕ) where
  pub neither_shown : (o : Option ObjectNumber) (c : Option ObjectChange) → is_some o ≡ not true → is_some c ≡ not true
      → linked_or status (handle_attributes_in s o) (handle_change_in s c) ≡ dead status
  neither_shown None None p q = refl
  neither_shown None (Some c) p q = cc
  neither_shown (Some o) c p q = cc

  pub file_shown : (o : Option ObjectNumber) (c : Option ObjectChange) → is_some o ≡ not false
      → linked_or status (handle_attributes_in s o) (handle_change_in s c) ≡ linked status (handle_attributes_in s o) (handle_change_in s c)
  file_shown None c p = cc
  file_shown (Some o) c p = refl

  pub directory_shown : (o : Option ObjectNumber) (c : Option ObjectChange) → is_some c ≡ not false
      → linked_or status (handle_attributes_in s o) (handle_change_in s c) ≡ linked status (handle_attributes_in s o) (handle_change_in s c)
  directory_shown o None p = cc
  directory_shown None (Some c) p = refl
  directory_shown (Some o) (Some c) p = refl
