use Prim.Native.Nat.{ℕ, ◌-◌, ◌≤◌}
use mathlib.Core.List.{[], ◌∷◌}
use mathlib.Core.Path.{◌≡◌}
use native.Mathlib.Omega.{arith}
use lib.ListN.{length-take, length-replicate}
use Rattle.xdr.proofs.Wrote.{and_words}
use Rattle.reply_fields.proofs.ZeroWords.{zero_words_small, take_zeros}
use Rattle.reply_fields.proofs.failure.put_dead.Goals as goal

pub put_words-requires : goal.put_words-requires
put_words-requires c =
    let n = c.zero_words-n.result in
    omega (arith, zero_words_small c.args.procedure, length-take {A = ℕ} (n - 0) (0 ∷ 0 ∷ 0 ∷ 0 ∷ []))

pub returns : goal.returns
returns c =
    let n = c.zero_words-n.result in
    let e : n - 0 ≡ n = omega arith in
    let small : n ≤ 4 = omega (arith, zero_words_small c.args.procedure) in
    let last = rw (e, take_zeros n 4 small, length-replicate, c.zero_words-n.ensures) at c.put_words.ensures in
    and_words _ _ c.put_word-next.ensures last
