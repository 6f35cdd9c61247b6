use native.Mathlib.Omega.{arith}
use Rattle.spec.specs.Bytes.{part}
use Rattle.laws.proofs.Bytes.{part_length}
use Rattle.reply_entries.proofs.Copies.{wrote_entry}
use Rattle.reply_entries.proofs.put_entry.Goals as goal

pub overflow_cast-len : goal.overflow_cast-len
overflow_cast-len c = omega (arith, c.requires.padded_name.short)

pub put_padded-end-requires-clause-padded_name : goal.put_padded-end-requires-clause-padded_name
put_padded-end-requires-clause-padded_name c = c.requires.padded_name

pub put_padded-end-requires-clause-len_in_bounds : goal.put_padded-end-requires-clause-len_in_bounds
put_padded-end-requires-clause-len_in_bounds c = omega arith

pub returns : goal.returns
returns c = let a = c.args in
    wrote_entry a.fileid a.number a.len (part a.src.now a.from a.len) (omega arith) (omega arith)
    (part_length a.src.now a.from a.len (omega (arith, c.requires.padded_name.inside)))
    c.put_words-text.ensures c.put_padded-end.ensures c.put_words.ensures
