use Rattle.check_handles.proofs.Reach.{directory_reached}
use Rattle.act_list.proofs.Writable.{listable}
use Rattle.act_list.proofs.readdir.Goals as goal

pub returns-in-Ok-check_readdir_in-clause-writable : goal.returns-in-Ok-check_readdir_in-clause-writable
returns-in-Ok-check_readdir_in-clause-writable c = let a = c.args in
    let directory = (directory_reached _ _ _ _ c.in-Ok.is c.reach_directory.ensures).0 in
    listable a.store.now _ a.cookie a.verifier a.count _ _ _ c.requires.good_records directory.below c.in-Ok-check_readdir_in.is
    c.check_readdir_in.ensures
