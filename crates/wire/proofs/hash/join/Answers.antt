use Rattle.std.proofs.Common.{◌≡◌, ℕ, ◌+◌, ◌*◌, ◌/◌, ◌%◌, ◌^◌, ◌<◌, ap, ◌∙◌, arith}
use Rattle.std.specs.Int.{w64, rotate_right}
use Rattle.std.specs.Int.Bits.{bit_or}
use Rattle.std.proofs.lemmas.Nat.{or_comm, or_shifted}
use Rattle.wire.specs.Hash.{joined}
use Rattle.wire.proofs.hash.join.Goals as goal

turned : (x : ℕ) → x < 2 ^ 64 → rotate_right w64 x 6 ≡ x / 64 + x % 64 * 2 ^ 58
turned x h =
    let low : x * 2 ^ 58 % 2 ^ 64 ≡ x % 64 * 2 ^ 58 = omega arith in
    let small : x / 64 < 2 ^ 58 = omega arith in
    ap (bit_or (x / 64)) low ∙ or_comm (x / 64) (x % 64 * 2 ^ 58) ∙ or_shifted (x % 64) 58 (x / 64) small ∙ omega arith

pub returns : goal.returns
unfolding joined
returns c = ap (λ (n : ℕ). (n + c.args.w) % 2 ^ 64) (c.rotate_right.ensures ∙ turned c.args.x (c.ranges.x.fits))
