use Rattle.nfs3.proofs.Answered.{writes_by}
use Rattle.nfs3.proofs.nfs3_convert.Goals as goal

pub returns : goal.returns
returns c = writes_by _ _ _ c.convert_store-number.ensures
