use Rattle.std.proofs.Common.{◌+◌, arith}
use Rattle.laws.proofs.Range.{Below}
use Rattle.wire.proofs.Copies.{copy_more, word_copied}
use Rattle.wire.proofs.copy_piece.Goals as goal

pub returns : goal.returns
returns c = let a = c.args in
    let src = a.src.now in
    let bytes : Below 256 src = λ k. (c.type_inv.src k).fits in
    copy_more a.dst.now a.at src a.from 8 8 _ _ (omega arith) (omega arith)
    (word_copied src a.from 8 _ _ _ a.at bytes (omega arith) c.get_u64-a.ensures c.put_u64.ensures)
    (word_copied src (a.from + 8) 8 _ _ _ (a.at + 8) bytes (omega arith) c.get_u64-b.ensures c.put_u64-2.ensures)
