-- What a call with a reply is answered, and what it leaves in the lent buffers.
use Rattle.std.specs.Prelude.{ℕ, List, ◌≡◌}
use Rattle.std.proofs.Math.ListN as ListN
use Rattle.kinds.specs.declared.numbers.Answer.{Answer}
use Rattle.spec.specs.Bytes.{overlay}
use Rattle.spec.specs.Serve.{Sent}

-- the answer is 0 with the length of a reply and the offset beside it; the reply was written at the start of the reply space, whose other bytes
-- stay, and the store is what the call leaves
pub record Sends (t : Sent) (r : Answer) (before after left : List ℕ) : Type 0 where
  pub number : r.number ≡ 0
  pub length : r.length ≡ ListN.length t.reply
  pub offset : r.offset ≡ t.offset
  pub space : after ≡ overlay before 0 t.reply
  pub store : left ≡ t.store
