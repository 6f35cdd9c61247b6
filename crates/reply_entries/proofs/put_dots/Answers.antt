use Prim.Native.Nat.{◌+◌}
use mathlib.Core.List.{[], ◌∷◌}
use Rattle.spec.specs.Bytes.{part}
use Rattle.spec.specs.Procedures.Listing.{entries_above}
use Rattle.reply_entries.specs.Entries.{entry}
use Rattle.reply_entries.proofs.Copies.{padded_dot, padded_dots}
use Rattle.reply_entries.proofs.Runs.{above_dots, entries_append, front_room, rest_room}
use Rattle.reply_entries.proofs.put_dots.Goals as goal

pub put_above-q-requires : goal.put_above-q-requires
unfolding part
put_above-q-requires c = let a = c.args in record {
  padded_name = padded_dot;
  number_in_bounds = front_room a.p (entries_above a.cookie (entry (a.directory.0 + 1) (0x2E ∷ []) 1 ∷ []))
      (entries_above a.cookie (entry (a.parent.0 + 1) (0x2E ∷ 0x2E ∷ []) 2 ∷ [])) a.reply.now
      (rw (above_dots a.cookie a.directory.0 a.parent.0) at c.requires.parent_in_bounds);
}

pub put_above-requires : goal.put_above-requires
unfolding part
put_above-requires c = let a = c.args in record {
  padded_name = padded_dots;
  number_in_bounds = rest_room (entries_above a.cookie (entry (a.directory.0 + 1) (0x2E ∷ []) 1 ∷ []))
      (entries_above a.cookie (entry (a.parent.0 + 1) (0x2E ∷ 0x2E ∷ []) 2 ∷ []))
      c.put_above-q.ensures
      (rw (above_dots a.cookie a.directory.0 a.parent.0) at
      c.requires.parent_in_bounds);
}

pub returns : goal.returns
unfolding part
returns c = let a = c.args in
    rw (above_dots a.cookie a.directory.0 a.parent.0)
    (entries_append (entries_above a.cookie (entry (a.directory.0 + 1) (0x2E ∷ []) 1 ∷ []))
    (entries_above a.cookie (entry (a.parent.0 + 1) (0x2E ∷ 0x2E ∷ []) 2 ∷ []))
    c.put_above-q.ensures c.put_above.ensures)
