use mathlib.Core.Path.{ap₂, ◌∙◌}
use Prim.Native.Nat.{ℕ}
use lib.Dec.{eqb}
use Rattle.fsck_names.proofs.Padded.{same_number}
use Rattle.fsck_names.proofs.text.same_word.Goals as goal

pub returns : goal.returns
returns c = ap₂ (λ (x y : ℕ). eqb x y) c.get_u64.ensures c.get_u64-2.ensures
    ∙ same_number c.args.s.now c.args.a c.args.b 8 (λ k. (c.type_inv.s k).fits) c.requires.a_in_bounds c.requires.b_in_bounds
