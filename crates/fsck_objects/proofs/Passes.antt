-- The records fail where one demand on them does not hold. Assumes nothing.
use mathlib.Core.Path.{◌≡◌, sym, ◌∙◌}
use mathlib.Core.Bool.{Bool, true, false}
use Prim.Native.Nat.{ℕ, ◌<◌}
use Rattle.spec.specs.Count.{every}
use Rattle.spec.specs.Image.{Store, objects, names}
use Rattle.spec.specs.Check.{good_root, good_object, good_name_record, is_distinct, good_namings, leads_to_root, records_pass}
use Rattle.fsck_objects.specs.Told.{Told}
use Rattle.laws.proofs.Count.{by_bool, true_false, every_at}
use Rattle.laws.proofs.Demands.{RecordDemands, record_demands}

-- records fail where passing would be absurd
pub fails : (s : Store) → (RecordDemands s → ⊥) → records_pass s ≡ false
fails s f = by_bool (records_pass s) (λ t. absurd (f (record_demands s t))) (λ t. t)

-- one demand of a number below a bound does not hold
not_every : (p : ℕ → Bool) (n i : ℕ) → every n p ≡ true → i < n → p i ≡ false → ⊥
not_every p n i e h q = true_false (sym (every_at p n i e h) ∙ q)

module _ (s : Store) where
  pub fails_root : good_root s ≡ false → records_pass s ≡ false
  fails_root e = fails s (λ d. true_false (sym d.root ∙ e))

  pub fails_object : (o : ℕ) → o < objects s → good_object s o ≡ false → records_pass s ≡ false
  fails_object o h e = fails s (λ d. not_every (good_object s) (objects s) o d.good_objects h e)

  pub fails_name : (n : ℕ) → n < names s → good_name_record s n ≡ false → records_pass s ≡ false
  fails_name n h e = fails s (λ d. not_every (good_name_record s) (names s) n d.good_names h e)

  pub fails_distinct : (n : ℕ) → n < names s → is_distinct s n ≡ false → records_pass s ≡ false
  fails_distinct n h e = fails s (λ d. not_every (is_distinct s) (names s) n d.distinct h e)

  pub fails_named : (o : ℕ) → o < objects s → good_namings s o ≡ false → records_pass s ≡ false
  fails_named o h e = fails s (λ d. not_every (good_namings s) (objects s) o d.named h e)

  pub fails_leads : (o : ℕ) → o < objects s → leads_to_root s o ≡ false → records_pass s ≡ false
  fails_leads o h e = fails s (λ d. not_every (leads_to_root s) (objects s) o d.leads h e)

-- what a part of the check tells
pub told_true : {facts : Type 0} {s : Store} → facts → Told true s facts
told_true f = record { yes = λ e. f; no = λ e. true_false e }

pub told_false : {facts : Type 0} {s : Store} → records_pass s ≡ false → Told false s facts
told_false f = record { yes = λ e. true_false (sym e); no = λ e. f }
