use borrow.Author.Tests.{lt-ltb, le-ltb}
use Rattle.fsck_names.specs.Record.{is_directory_in}
use Rattle.fsck_names.proofs.record.is_directory_in.Goals as goal

pub returns-then-o-p : goal.returns-then-o-p
unfolding is_directory_in
returns-then-o-p c = rw (← c.requires.p_value, lt-ltb _ _ c.if-o-p.true, c.is_directory.ensures)

pub returns-else-o-p : goal.returns-else-o-p
unfolding is_directory_in
returns-else-o-p c = rw (← c.requires.p_value, le-ltb _ _ c.if-o-p.false)
