use native.Mathlib.Omega.{arith}
use Rattle.spec.specs.Bytes.{part}
use Rattle.reply_entries.specs.Entries.{entry}
use Rattle.reply_entries.proofs.Runs.{above_low, above_high, one_cost, entries_none, entries_full, entries_one}
use Rattle.laws.proofs.Bytes.{part_length}
use Rattle.reply_entries.proofs.put_above.Goals.{then-cookie-number-via-then-cookie-number, then-cookie-number-via-else-cookie-number+then-p-eq0}
use Rattle.reply_entries.proofs.put_above.Goals as goal

pub returns-then-cookie-number : goal.returns-then-cookie-number
returns-then-cookie-number c = let a = c.args in
    elim c.then-cookie-number.branch [
      | then-cookie-number-via-then-cookie-number w ↦ rw (above_low a.cookie (entry a.fileid (part a.src.now a.from a.len) a.number) w.if-cookie-number.true)
          (entries_none a.reply.now a.p (omega arith))
      | then-cookie-number-via-else-cookie-number+then-p-eq0 w ↦ entries_full _ a.reply.now a.p w.if-p-eq0.true (omega arith)
    ]

pub put_entry-at-requires : goal.put_entry-at-requires
put_entry-at-requires c = let a = c.args in
    let e = one_cost a.p a.cookie (entry a.fileid (part a.src.now a.from a.len) a.number) c.if-cookie-number.false (omega arith) in
    let h = c.requires.padded_name in
    let l = part_length a.src.now a.from a.len (omega (arith, h.inside)) in
    record { padded_name = h; len_in_bounds = omega (arith, rw l at e) }

pub returns : goal.returns
returns c = let a = c.args in
    rw (above_high a.cookie (entry a.fileid (part a.src.now a.from a.len) a.number)
    c.if-cookie-number.false)
    (entries_one (entry a.fileid (part a.src.now a.from a.len) a.number) a.p (omega arith)
    c.put_entry-at.ensures)
