use mathlib.Core.Path.{sym, ◌∙◌}
use borrow.Author.Tests.{lt-ltb}
use Rattle.spec.specs.Procedures.Listing.{entries, check_listing}
use Rattle.act_list.proofs.Sent.{listing_small, listing_sent}
use Rattle.act_list.proofs.check_listing.Goals as goal

pub returns-then-limit-lt-LISTING_COST : goal.returns-then-limit-lt-LISTING_COST
unfolding check_listing
returns-then-limit-lt-LISTING_COST c = rw (lt-ltb _ _ c.if-limit-lt-LISTING_COST.true)

pub returns-then-nothing_fits : goal.returns-then-nothing_fits
returns-then-nothing_fits c = let a = c.args in
    listing_small a.given a.limit (entries a.store.now a.d.0) c.if-limit-lt-LISTING_COST.false _ c.run_of-run.ensures
    (sym c.nothing_fits.ensures ∙ c.if-nothing_fits.true)

pub returns : goal.returns
returns c = let a = c.args in
    listing_sent a.given a.limit (entries a.store.now a.d.0) c.if-limit-lt-LISTING_COST.false _
    c.run_of-run.ensures
    (sym c.nothing_fits.ensures ∙ c.if-nothing_fits.false)
