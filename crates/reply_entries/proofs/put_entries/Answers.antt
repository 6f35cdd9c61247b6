use native.Mathlib.Omega.{arith}
use Rattle.spec.specs.Image.{names}
use Rattle.spec.specs.Procedures.Listing.{named_entries, entries_above}
use Rattle.store_search.proofs.Entry.{parent_below}
use Rattle.reply_entries.specs.Entries.{dots}
use Rattle.reply_entries.proofs.Runs.{above_entries, entries_append, front_room, rest_room}
use Rattle.reply_entries.proofs.put_entries.Goals as goal

pub put_dots-behind-requires : goal.put_dots-behind-requires
put_dots-behind-requires c = let a = c.args in
    let g = c.requires.listable in
    let k = g.good.sound.shaped in
    let first = entries_above a.cookie (dots a.directory.0 c.parent_of-parent.result.0) in
    let rest = entries_above a.cookie (named_entries a.store.now a.directory.0 (names a.store.now)) in record {
      directory_lt_most_objects = omega (arith, g.directory);
      parent_lt_most_objects = omega (arith, c.parent_of-parent.ensures, parent_below a.store.now g.good a.directory.0);
      parent_in_bounds = front_room (record { at = a.at; left = a.count }) first rest a.reply.now
          (rw (above_entries a.store.now a.cookie a.directory.0 c.parent_of-parent.result.0 c.parent_of-parent.ensures) at c.requires.directory_in_bounds);
    }

pub put_names-end-requires : goal.put_names-end-requires
put_names-end-requires c = let a = c.args in
    let first = entries_above a.cookie (dots a.directory.0 c.parent_of-parent.result.0) in
    let rest = entries_above a.cookie (named_entries a.store.now a.directory.0 (names a.store.now)) in record {
      good_records = c.requires.listable.good;
      store_in_bounds = rest_room first rest c.put_dots-behind.ensures
          (rw (above_entries a.store.now a.cookie a.directory.0 c.parent_of-parent.result.0 c.parent_of-parent.ensures) at c.requires.directory_in_bounds);
    }

pub returns : goal.returns
returns c = let a = c.args in
    let first = entries_above a.cookie (dots a.directory.0 c.parent_of-parent.result.0) in
    let rest = entries_above a.cookie (named_entries a.store.now a.directory.0 (names a.store.now)) in
    rw (above_entries a.store.now a.cookie a.directory.0 c.parent_of-parent.result.0 c.parent_of-parent.ensures)
    (entries_append first rest c.put_dots-behind.ensures c.put_names-end.ensures).wrote
