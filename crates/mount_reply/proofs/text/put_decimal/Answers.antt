use mathlib.Core.Path.{ap}
use borrow.Author.Rules.{rules}
use lib.ListN.{length}
use Rattle.xdr.proofs.Wrote.{and_then}
use Rattle.mount_reply.proofs.Decimals.{decimal_one, decimal_two, decimal_three}
use Rattle.mount_reply.proofs.text.put_decimal.Goals as goal

pub put_byte-requires : goal.put_byte-requires
put_byte-requires c = search (rules, ap length (decimal_one _ c.if-n-lt10.true))

pub returns-then-n-lt10 : goal.returns-then-n-lt10
returns-then-n-lt10 c = rw (decimal_one _ c.if-n-lt10.true, ← c.digit.ensures) c.put_byte.ensures

pub put_byte-last-requires : goal.put_byte-last-requires
put_byte-last-requires c = search (rules, ap length (decimal_two _ c.if-n-lt10.false c.if-n-lt100.true))

pub put_byte-requires-then-n-lt100 : goal.put_byte-requires-then-n-lt100
put_byte-requires-then-n-lt100 c = search (rules, ap length (decimal_two _ c.if-n-lt10.false c.if-n-lt100.true))

pub returns-then-n-lt100 : goal.returns-then-n-lt100
returns-then-n-lt100 c = rw (decimal_two _ c.if-n-lt10.false c.if-n-lt100.true, ← c.digit-then-n-lt100.ensures, ← c.digit-then-n-lt100-2.ensures)
    (and_then c.put_byte-last.ensures c.put_byte-then-n-lt100.ensures)

pub put_byte-middle-requires : goal.put_byte-middle-requires
put_byte-middle-requires c = search (rules, ap length (decimal_three _ c.if-n-lt100.false))

pub put_byte-last-requires-2 : goal.put_byte-last-requires-2
put_byte-last-requires-2 c = search (rules, ap length (decimal_three _ c.if-n-lt100.false))

pub put_byte-requires-2 : goal.put_byte-requires-2
put_byte-requires-2 c = search (rules, ap length (decimal_three _ c.if-n-lt100.false))

pub returns : goal.returns
returns c = rw (decimal_three _ c.if-n-lt100.false, ← c.digit-2.ensures, ← c.digit-3.ensures, ← c.digit-4.ensures)
    (and_then (and_then c.put_byte-middle.ensures c.put_byte-last-2.ensures) c.put_byte-2.ensures)
