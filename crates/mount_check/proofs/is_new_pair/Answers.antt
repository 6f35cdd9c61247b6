use Rattle.std.proofs.Common.{◌≡◌, false, sym, ◌∙◌, arith}
use Rattle.mount_check.specs.Rows.{is_same_pair}
use Rattle.mount_check.proofs.Same.{used_row}
use Rattle.mount_check.proofs.Whole.{tells_false, fails_twice, one_more, other_digest}
use Rattle.mount_check.proofs.is_new_pair.Goals as goal
use Rattle.mount_check.proofs.is_new_pair.Goals.{else-digests-i-via-then-digests-i+else-same_pair, else-digests-i-via-else-digests-i}

pub returns-then-same_pair : goal.returns-then-same_pair
returns-then-same_pair c = let a = c.args in
    let w = used_row _ _ c.requires.table_len c.requires.r_lt_rows c.requires.r_value c.requires.r_value_2 in
    tells_false (fails_twice a.table.now a.r.0 c.loop-i.i c.requires.r_lt_rows w
    (omega (arith, c.loop-i-test.true)) (sym c.same_pair.ensures ∙ c.if-same_pair.true))

pub loop-i-preserved : goal.loop-i-preserved
loop-i-preserved c = let a = c.args in
    let t = a.table.now in
    let r = a.r.0 in
    let below = c.loop-i-test.true in
    let w = used_row t r c.requires.table_len c.requires.r_lt_rows c.requires.r_value c.requires.r_value_2 in
    let here : is_same_pair t r c.loop-i.i ≡ false =
    elim c.else-digests-i.branch [
      | else-digests-i-via-then-digests-i+else-same_pair v ↦ sym v.same_pair.ensures ∙ v.if-same_pair.false
      | else-digests-i-via-else-digests-i v ↦ other_digest t r a.digests.now c.requires.rows_pass c.requires.table_len c.requires.r_lt_rows w a.own c.loop-i.i c.requires.own_value below v.if-digests-i.false
    ] in
    one_more (λ q. is_same_pair t r q ≡ false) c.loop-i.i c.loop-i.invariant here
