use mathlib.Core.Path.{sym, ap, ◌∙◌}
use native.Mathlib.Omega.{arith}
use Rattle.kinds.specs.Numbers.{most_blocks, most_objects}
use Rattle.fsck.proofs.Filled.{blank_of}
use Rattle.fsck.proofs.Verdict.{bad_fails, good_passes}
use Rattle.kinds.specs.Reading.{place_of, read_of}
use Rattle.kinds.specs.declared.numbers.Fault.{Fault}
use Rattle.laws.proofs.Places.{inside_header}
use Rattle.mount_spec.specs.Serve.{refuse_mount}
use Rattle.mount3.proofs.Tested.{small_space, long_call, bad_store, bad_table, bad_header, hears}
use Rattle.mount3.proofs.tests.open.Goals as goal

pub returns-then-reply-lt-LEAST_REPLY_BYTES : goal.returns-then-reply-lt-LEAST_REPLY_BYTES
returns-then-reply-lt-LEAST_REPLY_BYTES c = let a = c.args in
    small_space a.call.now a.store.now a.table.now a.reply.now c.if-reply-lt-LEAST_REPLY_BYTES.true

pub returns-then-call-gt-MOST_CALL_BYTES : goal.returns-then-call-gt-MOST_CALL_BYTES
returns-then-call-gt-MOST_CALL_BYTES c = let a = c.args in
    long_call a.call.now a.store.now a.table.now a.reply.now c.if-reply-lt-LEAST_REPLY_BYTES.false c.if-call-gt-MOST_CALL_BYTES.true

pub check_store-requires-clause-blank : goal.check_store-requires-clause-blank
check_store-requires-clause-blank c = blank_of most_blocks

pub check_store-requires-clause-blank_2 : goal.check_store-requires-clause-blank_2
check_store-requires-clause-blank_2 c = blank_of most_objects

pub check_store-requires-clause-blank_3 : goal.check_store-requires-clause-blank_3
check_store-requires-clause-blank_3 c = blank_of most_objects

pub returns-in_default : goal.returns-in_default
returns-in_default c = let a = c.args in
    let s = a.store.now in
    bad_store a.call.now s a.table.now a.reply.now c.if-reply-lt-LEAST_REPLY_BYTES.false c.if-call-gt-MOST_CALL_BYTES.false
    (bad_fails s (sym c.in_default.is ∙ c.check_store.ensures.is))

pub returns-then-not-check_table : goal.returns-then-not-check_table
returns-then-not-check_table c = let a = c.args in
    let s = a.store.now in
    bad_table a.call.now s a.table.now a.reply.now c.if-reply-lt-LEAST_REPLY_BYTES.false c.if-call-gt-MOST_CALL_BYTES.false
    (good_passes s _ (sym c.in-Some.is ∙ c.check_store.ensures.is))
    (sym c.check_table.ensures ∙ c.if-not-check_table.true)

pub fault-requires : goal.fault-requires
fault-requires c = let a = c.args in
    let k = inside_header.place a.call.now 0 (omega arith) in
    omega (arith, ap place_of (sym c.read_mount_call-whole.ensures.0 ∙ ap read_of c.in-Err.is), k, c.if-call-gt-MOST_CALL_BYTES.false)

pub returns-in-Err : goal.returns-in-Err
returns-in-Err c host = let a = c.args in
    let s = a.store.now in
    bad_header a.call.now s a.table.now a.reply.now c.if-reply-lt-LEAST_REPLY_BYTES.false c.if-call-gt-MOST_CALL_BYTES.false
    (good_passes s _ (sym c.in-Some.is ∙ c.check_store.ensures.is))
    (sym c.check_table.ensures ∙ c.if-not-check_table.false)
    _ (sym c.read_mount_call-whole.ensures.0 ∙ ap read_of c.in-Err.is) host
    ∙ ap (λ (f : Fault). refuse_mount f a.reply.now a.table.now) (sym c.fault.ensures)

pub returns-in-Ok : goal.returns-in-Ok
returns-in-Ok c = let a = c.args in
    let s = a.store.now in
    hears a.call.now s a.table.now a.reply.now c.if-reply-lt-LEAST_REPLY_BYTES.false c.if-call-gt-MOST_CALL_BYTES.false
    (good_passes s _ (sym c.in-Some.is ∙ c.check_store.ensures.is))
    (sym c.check_table.ensures ∙ c.if-not-check_table.false)
    _ _ _ (sym c.read_mount_call-whole.ensures.0 ∙ ap read_of c.in-Ok.is) c.read_mount_call-whole.ensures.1
    (λ i. (c.type_inv.store i).fits)
