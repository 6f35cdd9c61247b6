use mathlib.Core.Path.{sym, ◌∙◌}
use Rattle.kinds.specs.Numbers.{most_blocks, most_objects}
use Rattle.store_records.proofs.Good.{good_shaped, good_names_sound}
use Rattle.fsck.proofs.Filled.{blank_of}
use Rattle.vectors.proofs.Checked.{good_records}
use Rattle.vectors.proofs.search.search.Goals as goal

pub check_store-requires-clause-blank : goal.check_store-requires-clause-blank
check_store-requires-clause-blank c = blank_of most_blocks

pub check_store-requires-clause-blank_2 : goal.check_store-requires-clause-blank_2
check_store-requires-clause-blank_2 c = blank_of most_objects

pub check_store-requires-clause-blank_3 : goal.check_store-requires-clause-blank_3
check_store-requires-clause-blank_3 c = blank_of most_objects

pub search_name-result-requires-clause-shaped : goal.search_name-result-requires-clause-shaped
search_name-result-requires-clause-shaped c =
    let s = c.args.store.now in
    good_shaped s (good_records s _ (sym c.in_ok-check_store.was ∙ c.check_store.ensures.is) (λ k. (c.type_inv.store k).fits))

pub search_name-result-requires-clause-sound_names : goal.search_name-result-requires-clause-sound_names
search_name-result-requires-clause-sound_names c =
    let s = c.args.store.now in
    good_names_sound s (good_records s _ (sym c.in_ok-check_store.was ∙ c.check_store.ensures.is) (λ k. (c.type_inv.store k).fits))
