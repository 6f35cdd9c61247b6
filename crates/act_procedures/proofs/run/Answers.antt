use mathlib.Core.Path.{refl, subst}
use lib.ListN.{length}
use Rattle.spec.specs.Procedures.{act}
use Rattle.laws.proofs.Arguments.{Within}
use Rattle.laws.proofs.ArgumentRange.{FitsArguments}
use Rattle.laws.proofs.Error.{getattr_store, lookup_store, access_store, read_store, readdir_store, fsstat_store, fsinfo_store, pathconf_store, commit_store}
use Rattle.store_blocks.proofs.Ready.{ready_records}
use Rattle.act_procedures.proofs.Told.{told, reading}
use Rattle.act_procedures.proofs.run.Goals as goal

pub getattr-requires : goal.getattr-requires
getattr-requires c = let w = subst (Within (length c.args.call.now)) c.in-Getattr.is c.requires.within in
    record { good_records = ready_records c.requires.ready; length_in_bounds = w }

pub setattr-requires : goal.setattr-requires
setattr-requires c = let w = subst (Within (length c.args.call.now)) c.in-Setattr.is c.requires.within in
    record { ready = c.requires.ready; fits_settable = subst FitsArguments c.in-Setattr.is c.requires.fits_arguments; length_in_bounds = w }

pub lookup-requires : goal.lookup-requires
lookup-requires c = let w = subst (Within (length c.args.call.now)) c.in-Lookup.is c.requires.within in
    record { good_records = ready_records c.requires.ready; length_in_bounds = w.0; length_in_bounds_2 = w.1 }

pub access-requires : goal.access-requires
access-requires c = let w = subst (Within (length c.args.call.now)) c.in-Access.is c.requires.within in
    record { good_records = ready_records c.requires.ready; length_in_bounds = w }

pub read-requires : goal.read-requires
read-requires c = let w = subst (Within (length c.args.call.now)) c.in-Read.is c.requires.within in
    record { good_records = ready_records c.requires.ready; length_in_bounds = w }

pub write-requires : goal.write-requires
write-requires c = let w = subst (Within (length c.args.call.now)) c.in-Write.is c.requires.within in
    record { ready = c.requires.ready; length_in_bounds = w.0; length_in_bounds_2 = w.1 }

pub create-requires : goal.create-requires
create-requires c = let w = subst (Within (length c.args.call.now)) c.in-Create.is c.requires.within in
    record { ready = c.requires.ready; fits_how = subst FitsArguments c.in-Create.is c.requires.fits_arguments; length_in_bounds = w.0; length_in_bounds_2 = w.1 }

pub mkdir-requires : goal.mkdir-requires
mkdir-requires c = let w = subst (Within (length c.args.call.now)) c.in-Mkdir.is c.requires.within in
    record { ready = c.requires.ready; fits_settable = subst FitsArguments c.in-Mkdir.is c.requires.fits_arguments; length_in_bounds = w.0; length_in_bounds_2 = w.1 }

pub remove-requires : goal.remove-requires
remove-requires c = let w = subst (Within (length c.args.call.now)) c.in-Remove.is c.requires.within in
    record { valid = c.requires.ready.valid; good_records = ready_records c.requires.ready; good_clock = c.requires.ready.clock; length_in_bounds = w.0; length_in_bounds_2 = w.1 }

pub rmdir-requires : goal.rmdir-requires
rmdir-requires c = let w = subst (Within (length c.args.call.now)) c.in-Rmdir.is c.requires.within in
    record { valid = c.requires.ready.valid; good_records = ready_records c.requires.ready; good_clock = c.requires.ready.clock; length_in_bounds = w.0; length_in_bounds_2 = w.1 }

pub rename-requires : goal.rename-requires
rename-requires c = let w = subst (Within (length c.args.call.now)) c.in-Rename.is c.requires.within in
    record { valid = c.requires.ready.valid; good_records = ready_records c.requires.ready; good_clock = c.requires.ready.clock; length_in_bounds = w.0.0; length_in_bounds_2 = w.0.1; length_in_bounds_3 = w.1.0; length_in_bounds_4 = w.1.1 }

pub link-requires : goal.link-requires
link-requires c = let w = subst (Within (length c.args.call.now)) c.in-Link.is c.requires.within in
    record { valid = c.requires.ready.valid; good_records = ready_records c.requires.ready; good_clock = c.requires.ready.clock; length_in_bounds = w.0; length_in_bounds_2 = w.1.0; length_in_bounds_3 = w.1.1 }

pub readdir-requires : goal.readdir-requires
readdir-requires c = let w = subst (Within (length c.args.call.now)) c.in-Readdir.is c.requires.within in
    record { good_records = ready_records c.requires.ready; length_in_bounds = w }

pub fsstat-requires : goal.fsstat-requires
fsstat-requires c = let w = subst (Within (length c.args.call.now)) c.in-Fsstat.is c.requires.within in
    record { good_records = ready_records c.requires.ready; length_in_bounds = w; used_map = c.requires.ready.map }

pub fsinfo-requires : goal.fsinfo-requires
fsinfo-requires c = let w = subst (Within (length c.args.call.now)) c.in-Fsinfo.is c.requires.within in
    record { good_records = ready_records c.requires.ready; length_in_bounds = w }

pub pathconf-requires : goal.pathconf-requires
pathconf-requires c = let w = subst (Within (length c.args.call.now)) c.in-Pathconf.is c.requires.within in
    record { good_records = ready_records c.requires.ready; length_in_bounds = w }

pub commit-requires : goal.commit-requires
commit-requires c = let w = subst (Within (length c.args.call.now)) c.in-Commit.is c.requires.within in
    record { good_records = ready_records c.requires.ready; length_in_bounds = w }

pub returns-in-Null : goal.returns-in-Null
unfolding act
returns-in-Null c = let a = c.args in
    reading a.store.now a.context a.call.now a.a _ _ c.in-Null.is refl (refl, tt)

pub returns-in-Getattr : goal.returns-in-Getattr
unfolding act
returns-in-Getattr c = let a = c.args in
    reading a.store.now a.context a.call.now a.a _ c.getattr.result c.in-Getattr.is (getattr_store _ _)
    (c.getattr.ensures.result_value, c.getattr.ensures.writable)

pub returns-in-Setattr : goal.returns-in-Setattr
unfolding act
returns-in-Setattr c = let a = c.args in
    told a.store.now a.context a.call.now a.a _ _ _ c.in-Setattr.is
    c.setattr.ensures

pub returns-in-Lookup : goal.returns-in-Lookup
unfolding act
returns-in-Lookup c = let a = c.args in
    reading a.store.now a.context a.call.now a.a _ c.lookup.result c.in-Lookup.is (lookup_store _ _ _)
    (c.lookup.ensures.result_value, c.lookup.ensures.writable)

pub returns-in-Access : goal.returns-in-Access
unfolding act
returns-in-Access c = let a = c.args in
    reading a.store.now a.context a.call.now a.a _ c.access.result c.in-Access.is (access_store _ _ _)
    (c.access.ensures.result_value, c.access.ensures.writable)

pub returns-in-Read : goal.returns-in-Read
unfolding act
returns-in-Read c = let a = c.args in
    reading a.store.now a.context a.call.now a.a _ c.read.result c.in-Read.is (read_store _ _ _ _)
    (c.read.ensures.result_value, c.read.ensures.writable)

pub returns-in-Write : goal.returns-in-Write
unfolding act
returns-in-Write c = let a = c.args in
    told a.store.now a.context a.call.now a.a _ _ _ c.in-Write.is
    c.write.ensures

pub returns-in-Create : goal.returns-in-Create
unfolding act
returns-in-Create c = let a = c.args in
    told a.store.now a.context a.call.now a.a _ _ _ c.in-Create.is
    c.create.ensures

pub returns-in-Mkdir : goal.returns-in-Mkdir
unfolding act
returns-in-Mkdir c = let a = c.args in
    told a.store.now a.context a.call.now a.a _ _ _ c.in-Mkdir.is
    c.mkdir.ensures

pub returns-in-Remove : goal.returns-in-Remove
unfolding act
returns-in-Remove c = let a = c.args in
    told a.store.now a.context a.call.now a.a _ _ _ c.in-Remove.is
    c.remove.ensures

pub returns-in-Rmdir : goal.returns-in-Rmdir
unfolding act
returns-in-Rmdir c = let a = c.args in
    told a.store.now a.context a.call.now a.a _ _ _ c.in-Rmdir.is
    c.rmdir.ensures

pub returns-in-Rename : goal.returns-in-Rename
unfolding act
returns-in-Rename c = let a = c.args in
    told a.store.now a.context a.call.now a.a _ _ _ c.in-Rename.is
    c.rename.ensures

pub returns-in-Link : goal.returns-in-Link
unfolding act
returns-in-Link c = let a = c.args in
    told a.store.now a.context a.call.now a.a _ _ _ c.in-Link.is
    c.link.ensures

pub returns-in-Readdir : goal.returns-in-Readdir
unfolding act
returns-in-Readdir c = let a = c.args in
    reading a.store.now a.context a.call.now a.a _ c.readdir.result c.in-Readdir.is (readdir_store _ _ _ _ _)
    (c.readdir.ensures.result_value, c.readdir.ensures.writable)

pub returns-in-Fsstat : goal.returns-in-Fsstat
unfolding act
returns-in-Fsstat c = let a = c.args in
    reading a.store.now a.context a.call.now a.a _ c.fsstat.result c.in-Fsstat.is (fsstat_store _ _)
    (c.fsstat.ensures.result_value, c.fsstat.ensures.writable)

pub returns-in-Fsinfo : goal.returns-in-Fsinfo
unfolding act
returns-in-Fsinfo c = let a = c.args in
    reading a.store.now a.context a.call.now a.a _ c.fsinfo.result c.in-Fsinfo.is (fsinfo_store _ _)
    (c.fsinfo.ensures.result_value, c.fsinfo.ensures.writable)

pub returns-in-Pathconf : goal.returns-in-Pathconf
unfolding act
returns-in-Pathconf c = let a = c.args in
    reading a.store.now a.context a.call.now a.a _ c.pathconf.result c.in-Pathconf.is (pathconf_store _ _)
    (c.pathconf.ensures.result_value, c.pathconf.ensures.writable)

pub returns-in-Commit : goal.returns-in-Commit
unfolding act
returns-in-Commit c = let a = c.args in
    reading a.store.now a.context a.call.now a.a _ c.commit.result c.in-Commit.is (commit_store _ _ _)
    (c.commit.ensures.result_value, c.commit.ensures.writable)

pub returns-in-Unserved : goal.returns-in-Unserved
unfolding act
returns-in-Unserved c = let a = c.args in
    reading a.store.now a.context a.call.now a.a _ _ c.in-Unserved.is refl (refl, tt)
