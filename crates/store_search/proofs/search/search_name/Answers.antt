use mathlib.Core.Path.{◌≡◌, refl, sym, ◌∙◌}
use Prim.Native.Nat.{zero-le}
use native.Mathlib.Omega.{arith}
use Rattle.spec.specs.Count.{sum, lowest, passing}
use Rattle.spec.specs.Image.{names}
use Rattle.spec.specs.Room.{is_named, find_name, compared_at, compared}
use Rattle.laws.proofs.Bytes.{part_length}
use Rattle.laws.proofs.Count.{sum_more, lowest_more, lowest_hit}
use Rattle.store_records.specs.Text.{text_of}
use Rattle.laws.proofs.SearchCost.{compared_bound}
use Rattle.store_search.proofs.Named.{empty_name}
use borrow.Author.Rules.{rules}
use Rattle.store_search.proofs.search.search_name.Goals as goal

pub returns-then-name-eq0 : goal.returns-then-name-eq0
returns-then-name-eq0 c = let a = c.args in
    let long = part_length a.call.now a.name.start a.name.length c.requires.length_in_bounds in
    let p = empty_name a.store.now a.directory.0 (text_of a.call.now a.name) (long ∙ c.if-name-eq0.true) in
    record { found_value = sym p.0; compared_value = sym p.1 }

pub loop-i-init : goal.loop-i-init
unfolding sum lowest passing
loop-i-init c = (zero-le, refl, refl)

pub overflow_add-compared : goal.overflow_add-compared
overflow_add-compared c = let a = c.args in
    let s = a.store.now in
    let i = c.loop-i.i in
    let short = c.requires.sound_names.short i (omega arith) in
    let few = compared_bound s a.directory.0 (text_of a.call.now a.name) i in
    search (rules, short, few, c.compare_name-record.ensures.pairs_value)

pub returns-then-record : goal.returns-then-record
unfolding find_name compared
returns-then-record c = let a = c.args in
    let s = a.store.now in
    let d = a.directory.0 in
    let text = text_of a.call.now a.name in
    let found = lowest_hit (is_named s d text) c.loop-i.i (names s) c.loop-i.invariant.1 (sym c.compare_name-record.ensures.same_value ∙ c.if-record.true) (omega arith) in
    let next = sum_more c.loop-i.i (compared_at s d text) in
    record { found_value = sym found; compared_value = rw found (omega (arith, c.compare_name-record.ensures.pairs_value, c.loop-i.invariant.2, next)) }

pub loop-i-preserved : goal.loop-i-preserved
loop-i-preserved c = let a = c.args in
    let s = a.store.now in
    let d = a.directory.0 in
    let text = text_of a.call.now a.name in
    let short = c.requires.sound_names.short c.loop-i.i (omega arith) in
    let few = compared_bound s d text c.loop-i.i in
    let next = sum_more c.loop-i.i (compared_at s d text) in (
      omega arith,
      lowest_more _ c.loop-i.i c.loop-i.invariant.1 (sym c.compare_name-record.ensures.same_value ∙ c.if-record.false),
      omega arith,
    )

pub returns : goal.returns
unfolding find_name compared
returns c = let e : c.loop-i.i ≡ names c.args.store.now = omega arith in
    let None-found = rw e at c.loop-i.invariant.1 in
    record { found_value = sym None-found; compared_value = rw None-found (rw e at c.loop-i.invariant.2) }
