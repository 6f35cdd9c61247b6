use Rattle.edit_entries.proofs.touch_directory.Goals as goal

pub returns : goal.returns
returns c = c.touch.ensures
