use Rattle.fsck_names.proofs.Same.{same_found}
use Rattle.fsck_names.proofs.Joins.{is_used}
use Rattle.fsck_names.proofs.distinct.same_name.Goals as goal

pub returns : goal.returns
returns c = let a = c.args in
    let s = a.store.now in
    let m = c.requires.used_name in
    rw c.eq-same.ensures (same_found s a.n.0 a.m.0 c.requires.used_name_2 m
    a.p c.name_place.result c.name_place-2.result c.directory_of-directory.result.0
    c.directory_of-other.result.0 c.same_text.result
    c.requires.p_value c.name_place.ensures c.name_place-2.ensures
    c.directory_of-directory.ensures c.directory_of-other.ensures
    c.same_text.ensures
    (is_used s a.m.0 m))
