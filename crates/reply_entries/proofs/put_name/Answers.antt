use Prim.Native.Nat.{◌+◌, ◌≤◌}
use mathlib.Core.Path.{sym, ◌∙◌, subst}
use mathlib.Core.List.{[], ◌∷◌}
use native.Mathlib.Omega.{arith}
use lib.ListN.{length}
use Rattle.spec.specs.Results.{Entry}
use Rattle.spec.specs.Procedures.Listing.{entries_above}
use Rattle.store_search.proofs.Named.{elsewhere}
use Rattle.reply_entries.proofs.Copies.{padded_name}
use Rattle.reply_entries.proofs.Runs.{cost, entries_none, entries_equal, directory_here, child_here, length_here, is_in_used, is_in_free}
use Rattle.reply_entries.proofs.Runs.{entry_in_absent, entry_in_present, child_below, entry_of_lem}
use Rattle.reply_entries.proofs.put_name.Goals as goal

pub returns-then-get_u32-directory : goal.returns-then-get_u32-directory
unfolding entries_above
returns-then-get_u32-directory c = let a = c.args in
    let s = a.store.now in
    let n = a.n.0 in
    let here = c.requires.at_value in
    let no = elsewhere s a.directory.0 n (λ e. c.if-get_u32-directory.true (c.get_u32.ensures ∙ directory_here s n a.at here ∙ e)) in
    rw (entry_in_absent s a.directory.0 n no) (entries_none a.reply.now a.p (omega arith))

pub returns-then-len-eq0 : goal.returns-then-len-eq0
unfolding entries_above
returns-then-len-eq0 c = let a = c.args in
    let s = a.store.now in
    let n = a.n.0 in
    let here = c.requires.at_value in
    let no = is_in_free s a.directory.0 n (sym (directory_here s n a.at here) ∙ sym c.get_u32.ensures ∙
    c.if-get_u32-directory.false) (sym (length_here s n a.at here) ∙ sym c.get_u32-len.ensures ∙ c.if-len-eq0.true) in
    rw (entry_in_absent s a.directory.0 n no) (entries_none a.reply.now a.p (omega arith))

pub overflow_add-fileid : goal.overflow_add-fileid
overflow_add-fileid c = let a = c.args in
    let s = a.store.now in
    let n = a.n.0 in
    let here = c.requires.at_value in
    let len = c.get_u32-len.ensures ∙ length_here s n a.at here in
    let yes = is_in_used s a.directory.0 n (sym (directory_here s n a.at here) ∙ sym
    c.get_u32.ensures ∙ c.if-get_u32-directory.false)
    (omega (arith, len, c.if-len-eq0.false)) in
    let child = c.get_u32-fileid.ensures ∙ child_here s n a.at here in
    omega (arith, child, child_below s a.directory.0 n c.requires.good_records c.requires.n_bound yes)

pub put_above-requires : goal.put_above-requires
put_above-requires c = let a = c.args in
    let s = a.store.now in
    let n = a.n.0 in
    let here = c.requires.at_value in
    let len = c.get_u32-len.ensures ∙ length_here s n a.at here in
    let yes = is_in_used s a.directory.0 n (sym (directory_here s n a.at here) ∙ sym
    c.get_u32.ensures ∙ c.if-get_u32-directory.false)
    (omega (arith, len, c.if-len-eq0.false)) in
    let child = c.get_u32-fileid.ensures ∙ child_here s n a.at here in
    let room = rw (entry_in_present s a.directory.0 n yes) at c.requires.n_in_bounds in record {
      padded_name = padded_name s n a.at _ c.requires.good_records c.requires.n_bound here len;
      number_in_bounds = subst (λ (e : Entry). a.p.at + cost a.p (entries_above a.cookie (e ∷ [])) ≤ length a.reply.now)
          (sym (entry_of_lem s n c.get_u32-fileid.result a.at c.get_u32-len.result child here len))
          room;
    }

pub returns : goal.returns
returns c = let a = c.args in
    let s = a.store.now in
    let n = a.n.0 in
    let here = c.requires.at_value in
    let len = c.get_u32-len.ensures ∙ length_here s n a.at here in
    let yes = is_in_used s a.directory.0 n (sym (directory_here s n a.at here) ∙ sym
    c.get_u32.ensures ∙
    c.if-get_u32-directory.false)
    (omega (arith, len, c.if-len-eq0.false)) in
    let child = c.get_u32-fileid.ensures ∙ child_here s n a.at here in
    rw (entry_in_present s a.directory.0 n yes)
    (entries_equal a.cookie (entry_of_lem s n c.get_u32-fileid.result a.at
    c.get_u32-len.result child here len) c.put_above.ensures)
