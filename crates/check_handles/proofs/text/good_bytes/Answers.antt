use mathlib.Core.Path.{◌∙◌}
use Rattle.std.proofs.Common.{rules, tests}
use Rattle.std.proofs.lemmas.Iterator.{YieldsList-from_slice}
use Rattle.std.proofs.lemmas.Iterator.Search.{all_from_yields_List}
use Rattle.spec.specs.Names.{good_byte, good_bytes}
use Rattle.check_handles.proofs.NameBytes.{all_listed}
use Rattle.check_handles.proofs.text.good_bytes.Goals as goal

pub returns : goal.returns
unfolding good_bytes
returns c = let s = c.args.text.now in
    all_from_yields_List good_byte _ _ c.all.result c.all.ensures.ran (YieldsList-from_slice s cc) (λ x b q k. search (rules, tests)) ∙ all_listed good_byte s
