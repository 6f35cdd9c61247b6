use mathlib.Core.Path.{◌∙◌}
use Rattle.fsck_objects.proofs.Marks.{rest_is}
use Rattle.fsck_objects.proofs.object.rest_unused.Goals as goal

pub returns : goal.returns
returns c = let a = c.args in
    rw c.object_start-at.ensures at c.past_unused.ensures ∙ rest_is a.store.now a.o.0 a.count c.requires.object_length_in_bounds
    (λ i. (c.type_inv.store i).fits) c.requires.count_le_file_blocks c.requires.count_value c.requires.o_value
