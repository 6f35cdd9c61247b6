use Rattle.wire.proofs.Pairs.{first_differs, second_differs, third_differs, fourth_decides}
use Rattle.wire.proofs.compare_four.Goals as goal

pub returns-then-a-at : goal.returns-then-a-at
returns-then-a-at c = let a = c.args in
    let told = first_differs a.a.now a.at a.b.now a.from c.requires.at_in_bounds c.requires.from_in_bounds c.if-a-at.true in record { same_value = told.0; pairs_value = told.1 }

pub returns-then-a-at-2 : goal.returns-then-a-at-2
returns-then-a-at-2 c = let a = c.args in
    let told = second_differs a.a.now a.at a.b.now a.from c.requires.at_in_bounds c.requires.from_in_bounds c.if-a-at.false c.if-a-at-2.true in record { same_value = told.0; pairs_value = told.1 }

pub returns-then-a-at-3 : goal.returns-then-a-at-3
returns-then-a-at-3 c = let a = c.args in
    let told = third_differs a.a.now a.at a.b.now a.from c.requires.at_in_bounds c.requires.from_in_bounds c.if-a-at.false c.if-a-at-2.false c.if-a-at-3.true in record { same_value = told.0; pairs_value = told.1 }

pub returns : goal.returns
returns c = let a = c.args in
    let told = fourth_decides a.a.now a.at a.b.now a.from c.requires.at_in_bounds c.requires.from_in_bounds c.if-a-at.false c.if-a-at-2.false c.if-a-at-3.false in record { same_value = told.0; pairs_value = told.1 }
