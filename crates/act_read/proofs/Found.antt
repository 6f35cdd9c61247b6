-- What a search in a directory finds lies in the store. Assumes nothing.
use Prim.Native.Nat.{ℕ, ◌<◌}
use mathlib.Core.Path.{◌≡◌, sym, ap, ◌∙◌}
use mathlib.Core.List.{List}
use Rattle.std.specs.Prelude.{Result, Ok}
use Rattle.kinds.specs.declared.numbers.Status.{Status}
use Rattle.spec.specs.Image.{Store, objects}
use Rattle.spec.specs.Procedures.Names.{check_lookup}
use Rattle.laws.proofs.GoodRecords.{GoodRecords}
use Rattle.laws.proofs.Passed.{lookup_passed, look_found}
use Rattle.store_search.proofs.Entry.{found_entry, parent_below}
use Rattle.act_read.specs.Meaning.{looked_of}
use Rattle.act_read.specs.declared.lookup.Looked.{Looked}

module _ (s : Store) (g : GoodRecords s) where
  pub looked_below : (h text : List ℕ) (r : Result Looked Status) (l : Looked) → r ≡ Ok l → looked_of r ≡ check_lookup s h text
      → (l.directory.0 < objects s) × (l.object.0 < objects s)
  looked_below h text r l p e =
      let d = l.directory in
      let o = l.object in
      let w = lookup_passed s h text (d.0, o.0) (sym e ∙ ap looked_of p) in (
        w.reached.below,
        look_found (λ i. i < objects s) s d.0 text o.0 w.found w.reached.below (parent_below s g d.0)
            (λ n q. (found_entry s g d.0 text n q).child_below),
      )
