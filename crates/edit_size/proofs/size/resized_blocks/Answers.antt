use borrow.Author.Rules.{rules}
use native.Mathlib.Omega.{arith}
use Prim.Native.Nat.{◌-◌, zero-le}
use mathlib.Core.Path.{◌≡◌, refl, ap, ◌∙◌}
use lib.ListN.{length-set}
use Rattle.kinds.specs.BlockNumbers.{numbers_of}
use Rattle.store_records.proofs.Numbered.{numbers_length}
use Rattle.edit_size.proofs.ResizedNumbers.{block_put, own_next, added_next, numbers_all}
use Rattle.edit_size.proofs.size.resized_blocks.Goals as goal
use Rattle.edit_size.proofs.size.resized_blocks.Goals.{then-k-before, else-k-before}

pub loop-k-init : goal.loop-k-init
loop-k-init c = (search rules, search rules, refl, refl)

pub loop-k-preserved : goal.loop-k-preserved
loop-k-preserved c = let a = c.args in
    let own = numbers_of a.own in
    let added = numbers_of a.added in
    let p = numbers_length a.own ∙ c.loop-k.invariant.0 in
    let q = numbers_length a.added ∙ c.loop-k.invariant.1 in (
      c.loop-k.invariant.0,
      c.loop-k.invariant.1,
      elim c.if-k-before.branch [
        | then-k-before w ↦ rw w.list-is (simp length-set c.loop-k.invariant.2)
        | else-k-before w ↦ rw w.list-is (simp length-set c.loop-k.invariant.2)
      ],
      elim c.if-k-before.branch [
        | then-k-before w ↦
            ap numbers_of w.list-is ∙ block_put c.loop-k.list a.own c.loop-k.k c.loop-k.k
            ∙ own_next own added a.before a.after c.requires.before_le_file_blocks c.requires.after_le_file_blocks p q c.loop-k.k
            (numbers_of c.loop-k.list) (omega arith) w.if-k-before.true c.loop-k.invariant.3
        | else-k-before w ↦
            ap numbers_of w.list-is ∙ block_put c.loop-k.list a.added c.loop-k.k (c.loop-k.k - a.before)
            ∙ added_next own added a.before a.after c.requires.before_le_file_blocks c.requires.after_le_file_blocks p q c.loop-k.k
            (numbers_of c.loop-k.list) (omega arith) w.if-k-before.false c.loop-k.invariant.3
      ],
    )

pub returns : goal.returns
returns c = let a = c.args in
    let e : c.loop-k.k ≡ a.after = omega arith in
    (rw e at c.loop-k.invariant.3) ∙ numbers_all (numbers_of a.own) (numbers_of a.added) a.before a.after c.requires.before_le_file_blocks c.requires.after_le_file_blocks
    (numbers_length a.own ∙ c.loop-k.invariant.0) (numbers_length a.added ∙ c.loop-k.invariant.1)
