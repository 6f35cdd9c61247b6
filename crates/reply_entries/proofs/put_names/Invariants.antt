use mathlib.Core.Path.{◌≡◌}
use lib.ListN.{length}
use Rattle.spec.specs.Procedures.Listing.{named_entries, entries_above}
use Rattle.reply_entries.specs.Entries.{WroteEntries}
use Rattle.reply_entries.proofs.put_names.Given as goal

abbrev pub invariant-loop-n : goal.invariant-loop-n
invariant-loop-n l = WroteEntries (entries_above l.cookie (named_entries l.store l.directory.0 l.n)) l.initial.reply l.reply l.initial.q l.q × (length l.reply ≡ length l.initial.reply)
