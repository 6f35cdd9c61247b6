use Rattle.edit_entries.proofs.remove_edit.Goals as goal

pub returns : goal.returns
returns c = rw (c.touch_directory.ensures, c.remove_name.ensures)
