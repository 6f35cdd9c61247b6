use mathlib.Core.Path.{refl, sym, ◌∙◌}
use native.Mathlib.Omega.{arith}
use Rattle.kinds.specs.Numbers.{most_blocks, most_objects}
use Rattle.fsck.proofs.Filled.{blank_of}
use Rattle.convert.proofs.Front.{front_made, front_fails, front_answers}
use Rattle.convert.proofs.becomes_good.Goals as goal

pub records_pass-requires : goal.records_pass-requires
records_pass-requires c = let a = c.args in
    let f = front_made a.old.now a.p a.q a.r c.requires.old_shaped c.requires.p_value c.requires.q_value c.requires.r_value a.room.now _ _ c.requires.room_len refl
    c.lengthen.ensures in
    record { framed = f.framed; p_value = f.objects; q_value = f.names; r_value = f.blocks; blank = blank_of most_blocks; blank_2 = blank_of most_objects; blank_3 = blank_of most_objects }

pub returns-then-not-records_pass : goal.returns-then-not-records_pass
returns-then-not-records_pass c = let a = c.args in
    let f = front_made a.old.now a.p a.q a.r c.requires.old_shaped c.requires.p_value c.requires.q_value c.requires.r_value a.room.now _ _ c.requires.room_len refl
    c.lengthen.ensures in
    front_fails a.old.now a.p a.q a.r _ f (sym c.records_pass.ensures.is ∙ c.if-not-records_pass.true)

pub named_once-requires : goal.named_once-requires
named_once-requires c = omega (arith, c.requires.old_shaped.few_objects, c.requires.p_value)

pub returns : goal.returns
returns c = let a = c.args in
    let f = front_made a.old.now a.p a.q a.r c.requires.old_shaped c.requires.p_value c.requires.q_value c.requires.r_value a.room.now _ _ c.requires.room_len refl
    c.lengthen.ensures in
    let e = sym c.records_pass.ensures.is ∙ c.if-not-records_pass.false in
    c.named_once.ensures ∙ front_answers a.old.now a.p a.q a.r _ _ f c.requires.p_value e (c.records_pass.ensures.linked e)
